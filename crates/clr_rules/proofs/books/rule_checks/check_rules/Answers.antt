use Rattle.std.proofs.Common.{◌≡◌, ◌<◌, ◌≤◌, ◌+◌, ◌∙◌, ℕ, List, length, drop, get_or, add-one, arith, refl, None}
use Rattle.std.proofs.lemmas.Grind.{common_steps}
use Rattle.std.proofs.Math.Seq.{drop-cons}
use Rattle.clr_rows.specs.declared.tables.TableDef.{TableDef}
use Rattle.clr_rules.specs.Books.{first_fault, rule_fault, fault_or_later}
use Rattle.clr_rules.specs.declared.rules.Rule.{Rule}
use Rattle.clr_rules.proofs.books.rule_checks.check_rules.Goals as goal

-- the fault of the rule of a number, or the first later one
fault_from : (tables : List TableDef) (rules : List Rule) (number : ℕ) (rule : Rule) → number < length rules → rule ≡ get_or rules number rule
    → first_fault tables number (drop number rules) ≡ fault_or_later number (rule_fault tables rule) (first_fault tables (number + 1) (drop (number + 1) rules))
unfolding first_fault
fault_from tables rules number rule h is = rw (drop-cons rules number rule h, ← is, add-one) refl

none_after : (tables : List TableDef) (rules : List Rule) (number : ℕ) → length rules ≤ number → first_fault tables number (drop number rules) ≡ None
unfolding first_fault
none_after tables rules number h = grind (arith, common_steps)

pub returns-in-Err : goal.returns-in-Err
returns-in-Err c =
    let e = fault_from c.args.schema.now c.args.rules.now c.loop-number.number c.index-rules-number.result c.loop-number-test.true c.index-rules-number.is in
    rw (c.loop-number.invariant, e, c.in-Err.ensures) refl

pub loop-number-preserved : goal.loop-number-preserved
loop-number-preserved c =
    let e = fault_from c.args.schema.now c.args.rules.now c.loop-number.number c.index-rules-number.result c.loop-number-test.true c.index-rules-number.is in
    c.loop-number.invariant ∙ (rw c.in_default.ensures at e)

pub returns : goal.returns
returns c = c.loop-number.invariant ∙ none_after _ _ _ c.loop-number-test.false

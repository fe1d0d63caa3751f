use Rattle.std.proofs.Common.{◌≡◌, ◌++◌, ◌∙◌, List, ℕ, sym, append_assoc, true, codes}
use Rattle.std.proofs.lemmas.Result.{on_ok_weaker}
use Rattle.clr_rows.specs.declared.tables.TableDef.{TableDef}
use Rattle.clr_rules.specs.declared.sides.Side.{Side}
use Rattle.clr_phrases.specs.Rules.{are_one_table, side_text, two_text}
use Rattle.clr_phrases.proofs.rules.add_two.Goals as goal

-- two sides of one whole table
two_of_one : (tables : List TableDef) (a b : Side) (old front new : List ℕ) → are_one_table a b ≡ true → front ≡ old ++ codes "two rows of "
    → new ≡ front ++ side_text tables a
    → new ≡ old ++ two_text tables a b
two_of_one tables a b old front new one e f = rw (one, f, e) (append_assoc old (codes "two rows of ") (side_text tables a))

pub returns-then-are_one_table : goal.returns-then-are_one_table
returns-then-are_one_table c =
    on_ok_weaker c.add_side.result (two_of_one c.args.schema.now c.args.a.now c.args.b.now _ _ _
    (sym c.are_one_table.ensures ∙ c.if-are_one_table.true) c.in_ok-push_str.ensures.bytes) c.add_side.ensures

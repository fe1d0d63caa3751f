use Rattle.std.proofs.Common.{◌<◌, ◌+◌, ◌∙◌, inl, inr, [], List, Option, map, slice_get, ap, sym, subst, arith}
use Rattle.std.proofs.lemmas.Bool.{cases_lt}
use Rattle.std.specs.Prelude.{MatchOption}
use Rattle.clr_rules.specs.Books.{FitTogether}
use Rattle.clr_rows.specs.Held.{Held, held_of}
use Rattle.clr_rules.specs.declared.needs.Broken.{Broken}
use Rattle.clr_rules.specs.Needs.{broken_cmp}
use Rattle.clr_rules.proofs.BrokenLemmas.{rows_fit, rows_rise}
use Rattle.clr_rules.proofs.BrokenOrder.{broken_exact}
use Rattle.clr_audit.specs.Searches.{AreInCellOrder, GainsBroken, IsLeastAmong, IsOfRule}
use Rattle.clr_audit.proofs.AuditLaws.{audit_is}
use Rattle.clr_audit.proofs.Gaining.{gains_more}
use Rattle.clr_audit.proofs.LeastLaws.{first_is}
use Rattle.clr_audit.proofs.audits.first_broken.Goals as goal

pub add_of_rule_until_least-requires-clause-fit : goal.add_of_rule_until_least-requires-clause-fit
add_of_rule_until_least-requires-clause-fit c =
    subst (λ (rows : List Held). FitTogether c.args.book.now rows) (sym (ap (map held_of) c.as_slice.ensures.value ∙ c.in_ok-rows.ensures))
    (rows_fit c.args.book.now c.args.sheet.now c.requires)

pub add_of_rule_until_least-requires-clause-in_order : goal.add_of_rule_until_least-requires-clause-in_order
add_of_rule_until_least-requires-clause-in_order c =
    subst (λ (rows : List Held). AreInCellOrder rows) (sym (ap (map held_of) c.as_slice.ensures.value ∙ c.in_ok-rows.ensures)) (rows_rise c.args.sheet.now)

pub loop-rule-preserved : goal.loop-rule-preserved
loop-rule-preserved c =
    gains_more c.args.book.now (map held_of c.in_ok-rows.rows.items) (λ b h. b.rule < c.loop-rule.rule) (IsOfRule c.loop-rule.rule)
    (λ b h. b.rule < c.loop-rule.rule + 1)
    [] c.loop-rule.list.items c.add_of_rule_until_least.new.list.items c.loop-rule.invariant
    (subst (λ (rows : List Held). GainsBroken c.args.book.now rows (IsOfRule c.loop-rule.rule) c.loop-rule.list.items c.add_of_rule_until_least.new.list.items)
    (ap (map held_of) c.as_slice.ensures.value)
    (subst (λ (o : Option Broken). MatchOption o (GainsBroken c.args.book.now (map held_of c.as_slice.result.now) (IsOfRule c.loop-rule.rule)
    c.loop-rule.list.items c.add_of_rule_until_least.new.list.items)
    (IsLeastAmong c.args.book.now (map held_of c.as_slice.result.now) c.loop-rule.rule c.loop-rule.list.items)) c.in_default.is c.in_ok-need.ensures))
    (λ b h w. elim (cases_lt b.rule c.loop-rule.rule) [
      | inl l ↦ inl l
      | inr l ↦ inr (omega (arith, w, l))
    ])

pub returns-in-Some : goal.returns-in-Some
returns-in-Some c =
    first_is c.args.book.now c.args.sheet.now (map held_of c.in_ok-rows.rows.items) c.loop-rule.rule c.loop-rule.list.items c.in-Some.need c.in_ok-rows.ensures
    c.loop-rule.invariant
    (subst (λ (rows : List Held). IsLeastAmong c.args.book.now rows c.loop-rule.rule c.loop-rule.list.items c.in-Some.need)
    (ap (map held_of) c.as_slice.ensures.value)
    (subst (λ (o : Option Broken). MatchOption o (GainsBroken c.args.book.now (map held_of c.as_slice.result.now) (IsOfRule c.loop-rule.rule)
    c.loop-rule.list.items c.add_of_rule_until_least.new.list.items)
    (IsLeastAmong c.args.book.now (map held_of c.as_slice.result.now) c.loop-rule.rule c.loop-rule.list.items)) c.in-Some.is c.in_ok-need.ensures))

pub put_in_order-requires : goal.put_in_order-requires
unfolding broken_cmp
put_in_order-requires c = broken_exact

pub returns : goal.returns
unfolding broken_cmp
returns c = c.copied.ensures ∙ c.first.ensures.value ∙ ap (λ (xs : List Broken). slice_get xs 0) (c.as_slice-2.ensures.value
    ∙ audit_is c.args.book.now c.args.sheet.now (map held_of c.in_ok-rows.rows.items) c.loop-rule.list.items c.put_in_order.new.list.items c.loop-rule.rule
    c.in_ok-rows.ensures
    (omega (arith, c.loop-rule-test.false, c.loop-rule.auto.rule-end, c.len-rule-end.ensures.value)) c.loop-rule.invariant c.put_in_order.ensures.ascending
    c.put_in_order.ensures.same)

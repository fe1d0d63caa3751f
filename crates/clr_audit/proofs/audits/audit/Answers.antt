use Rattle.std.proofs.Common.{◌<◌, ◌+◌, ◌∙◌, inl, inr, [], List, map, ap, sym, subst, arith}
use Rattle.std.proofs.lemmas.Bool.{cases_lt}
use Rattle.clr_rows.specs.Contents.{row_at}
use Rattle.clr_rules.specs.Books.{FitTogether}
use Rattle.clr_rows.specs.Held.{Held, held_of}
use Rattle.clr_rules.specs.Needs.{IsAudit, broken_cmp}
use Rattle.clr_rules.proofs.BrokenLemmas.{rows_fit, lists_broken}
use Rattle.clr_rules.proofs.BrokenOrder.{broken_exact}
use Rattle.clr_audit.specs.Searches.{GainsBroken, IsOfRule}
use Rattle.clr_audit.proofs.AuditLaws.{audit_is}
use Rattle.clr_audit.proofs.Gaining.{gains_more}
use Rattle.clr_audit.proofs.audits.audit.Goals as goal

pub add_of_rule-requires-clause-fit : goal.add_of_rule-requires-clause-fit
add_of_rule-requires-clause-fit c =
    subst (λ (rows : List Held). FitTogether c.args.book.now rows) (sym (ap (map held_of) c.as_slice.ensures.value ∙ c.in_ok-rows.ensures))
    (rows_fit c.args.book.now c.args.sheet.now c.requires)

pub loop-rule-preserved : goal.loop-rule-preserved
loop-rule-preserved c =
    gains_more c.args.book.now (map held_of c.in_ok-rows.rows.items) (λ b h. b.rule < c.loop-rule.rule) (IsOfRule c.loop-rule.rule)
    (λ b h. b.rule < c.loop-rule.rule + 1)
    [] c.loop-rule.list.items c.add_of_rule.new.list.items c.loop-rule.invariant
    (subst (λ (rows : List Held). GainsBroken c.args.book.now rows (IsOfRule c.loop-rule.rule) c.loop-rule.list.items c.add_of_rule.new.list.items)
    (ap (map held_of) c.as_slice.ensures.value) c.in_ok-add_of_rule.ensures)
    (λ b h w. elim (cases_lt b.rule c.loop-rule.rule) [
      | inl l ↦ inl l
      | inr l ↦ inr (omega (arith, w, l))
    ])

pub put_in_order-requires : goal.put_in_order-requires
unfolding broken_cmp
put_in_order-requires c = broken_exact

listed : goal.returns-clause-list
unfolding broken_cmp
listed c = audit_is c.args.book.now c.args.sheet.now (map held_of c.in_ok-rows.rows.items) c.loop-rule.list.items c.put_in_order.new.list.items c.loop-rule.rule
    c.in_ok-rows.ensures
    (omega (arith, c.loop-rule-test.false, c.loop-rule.auto.rule-end, c.len-rule-end.ensures.value)) c.loop-rule.invariant c.put_in_order.ensures.ascending
    c.put_in_order.ensures.same

pub returns-clause-list : goal.returns-clause-list
returns-clause-list c = listed c

pub returns-clause-lists : goal.returns-clause-lists
returns-clause-lists c = subst (IsAudit c.args.book.now (row_at c.args.sheet.now)) (sym (listed c)) (lists_broken c.args.book.now c.args.sheet.now)

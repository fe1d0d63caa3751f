use Rattle.std.proofs.Common.{sym, subst, List, true, ◌≡◌}
use Rattle.clr_grid.specs.Filing.{AllHoldCells, is_filed_under}
use Rattle.clr_grid.specs.declared.rule_index.RuleIndex.{RuleIndex}
use Rattle.clr_grid.proofs.IndexLemmas.{append_lean, append_only, filed_append}
use Rattle.clr_grid.proofs.rule_index.make_rules.Goals as goal

pub loop-alloc-init : goal.loop-alloc-init
loop-alloc-init c = record { kept = λ number serves k q e. e; only = λ number serves k q e. e; lean = λ h. h }

pub loop-alloc-preserved : goal.loop-alloc-preserved
loop-alloc-preserved c = record {
  kept = λ number serves k q e. subst (λ (xs : List RuleIndex). is_filed_under xs number serves k q ≡ true) (sym c.in_ok-push.ensures.items)
      (filed_append c.loop-alloc.rules.items c.new.result number serves k q (c.loop-alloc.invariant.kept number serves k q e));
  only = λ number serves k q e. c.loop-alloc.invariant.only number serves k q
      (append_only c.loop-alloc.rules.items c.new.result c.new.ensures.none number serves k q
      (subst (λ (xs : List RuleIndex). is_filed_under xs number serves k q ≡ true) c.in_ok-push.ensures.items e));
  lean = λ h. subst AllHoldCells (sym c.in_ok-push.ensures.items)
      (append_lean c.loop-alloc.rules.items c.new.result c.new.ensures.lean (c.loop-alloc.invariant.lean h));
}

pub returns-in_err-push-clause-kept : goal.returns-in_err-push-clause-kept
returns-in_err-push-clause-kept c number serves k q e =
    subst (λ (xs : List RuleIndex). is_filed_under xs number serves k q ≡ true) (sym c.in_err-push.ensures.items)
    (c.loop-alloc.invariant.kept number serves k q e)

pub returns-in_err-push-clause-only : goal.returns-in_err-push-clause-only
returns-in_err-push-clause-only c number serves k q e =
    c.loop-alloc.invariant.only number serves k q (subst (λ (xs : List RuleIndex). is_filed_under xs number serves k q ≡ true) c.in_err-push.ensures.items e)

pub returns-clause-kept : goal.returns-clause-kept
returns-clause-kept c = c.loop-alloc.invariant.kept

pub returns-clause-only : goal.returns-clause-only
returns-clause-only c = c.loop-alloc.invariant.only

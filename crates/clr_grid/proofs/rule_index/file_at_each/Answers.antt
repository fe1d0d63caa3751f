use Rattle.clr_grid.specs.Filing.{GainOnly}
use Rattle.std.proofs.Common.{◌≡◌, inl, Some, slice_get, subst, sym, arith, List}
use Rattle.clr_finders.specs.declared.row_spots.RuleSpots.{RuleSpots}
use Rattle.clr_grid.proofs.IndexLemmas.{filed_next, gained_next, below_it}
use Rattle.clr_grid.proofs.rule_index.file_at_each.Goals as goal

pub loop-rule-init : goal.loop-rule-init
loop-rule-init c = record {
  kept = c.in_ok-make_rules.ensures.kept;
  only = λ n b k q e. inl (c.in_ok-make_rules.ensures.only n b k q e);
  lean = c.in_ok-make_rules.ensures.lean;
  enough = omega (arith, c.in_ok-make_rules.ensures.enough);
  filed = λ n y k less. absurd (omega (arith, less));
}

pub loop-rule-preserved : goal.loop-rule-preserved
loop-rule-preserved c = record {
  kept = λ n b k q e. c.in_ok-file_at.ensures.kept n b k q (c.loop-rule.invariant.kept n b k q e);
  only = gained_next c.args.rules.now.items c.loop-rule.rules.items c.file_at.new.rules.items c.args.cell c.as_slice-spots.result.now c.loop-rule.rule
      c.index-spots-rule.result (omega (arith, c.loop-rule-test.true)) c.index-spots-rule.is
      c.in_ok-file_at.ensures.only c.loop-rule.invariant.only;
  lean = λ h. c.in_ok-file_at.ensures.lean (c.loop-rule.invariant.lean h);
  enough = omega (arith, c.loop-rule.invariant.enough, c.in_ok-file_at.ensures.length);
  filed = filed_next c.loop-rule.rules.items c.file_at.new.rules.items c.args.cell c.as_slice-spots.result.now c.loop-rule.rule c.index-spots-rule.result
      c.index-spots-rule.is c.in_ok-file_at.ensures.kept c.in_ok-file_at.ensures.filed c.loop-rule.invariant.filed;
}

pub returns-clause-kept : goal.returns-clause-kept
returns-clause-kept c = c.loop-rule.invariant.kept

pub returns-in_err-make_rules-clause-only : goal.returns-in_err-make_rules-clause-only
returns-in_err-make_rules-clause-only c n b k q e = inl (c.in_err-make_rules.ensures.only n b k q e)

pub returns-in_err-file_at-clause-only : goal.returns-in_err-file_at-clause-only
returns-in_err-file_at-clause-only c =
    subst (λ (ys : List RuleSpots). GainOnly c.args.cell (Some ys) c.args.rules.now.items c.file_at.new.rules.items) c.as_slice-spots.ensures
    (gained_next c.args.rules.now.items c.loop-rule.rules.items c.file_at.new.rules.items c.args.cell c.as_slice-spots.result.now c.loop-rule.rule
    c.index-spots-rule.result (omega (arith, c.loop-rule-test.true)) c.index-spots-rule.is
    c.in_err-file_at.ensures.only c.loop-rule.invariant.only)

pub returns-clause-only : goal.returns-clause-only
returns-clause-only c = subst (λ (ys : List RuleSpots). GainOnly c.args.cell (Some ys) c.args.rules.now.items c.loop-rule.rules.items) c.as_slice-spots.ensures
    c.loop-rule.invariant.only

pub returns-clause-filed : goal.returns-clause-filed
returns-clause-filed c number y k is key =
    let at : slice_get c.as_slice-spots.result.now number ≡ Some y =
    subst (λ (ys : List RuleSpots). slice_get ys number ≡ Some y) (sym c.as_slice-spots.ensures) is in
    c.loop-rule.invariant.filed number y k (omega (arith, below_it c.as_slice-spots.result.now number y at, c.loop-rule-test.false)) at key

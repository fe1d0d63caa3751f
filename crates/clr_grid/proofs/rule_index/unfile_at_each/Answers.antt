use Rattle.std.proofs.Common.{◌≡◌, ◌∙◌, ap, sym, subst, true, inl, inr, Option, Some, List, arith}
use Rattle.std.proofs.lemmas.Bool.{cases_lt}
use Rattle.std.specs.Option.{option_copied}
use Rattle.clr_grid.specs.Filing.{has_key_of, has_key_under, of_side, spots_at, stays}
use Rattle.clr_finders.specs.declared.row_spots.RuleSpots.{RuleSpots}
use Rattle.clr_grid.proofs.IndexLemmas.{gone_next, none_under}
use Rattle.clr_grid.proofs.rule_index.unfile_at_each.Goals as goal

pub loop-rule-init : goal.loop-rule-init
loop-rule-init c = record { kept = λ n b k q stay e. e; fewer = λ n b k q e. e; gone = λ n b k less. absurd (omega (arith, less)); lean = λ h. h }

pub loop-rule-preserved : goal.loop-rule-preserved
loop-rule-preserved c = record {
  kept = λ n b k q stay e. c.unfile_at.ensures.kept n b k q (λ same. subst (λ (o : Option RuleSpots). stays c.args.cell (of_side b o) k q ≡ true)
      (ap (spots_at (option_copied c.args.kept)) same ∙ sym c.spots_at.ensures) stay)
      (c.loop-rule.invariant.kept n b k q stay e);
  fewer = λ n b k q e. c.loop-rule.invariant.fewer n b k q (c.unfile_at.ensures.fewer n b k q e);
  gone = gone_next c.loop-rule.rules.items c.unfile_at.new.rules.items c.args.cell c.as_slice-spots.result.now (option_copied c.args.kept) c.loop-rule.rule
      c.index-spots-rule.result c.index-spots-rule.is (omega (arith, c.loop-rule-test.true))
      c.unfile_at.ensures.fewer (λ b k key e. ap (λ (o : Option RuleSpots). has_key_of (of_side b o) k) (sym c.spots_at.ensures)
      ∙ c.unfile_at.ensures.gone b k key e) c.loop-rule.invariant.gone;
  lean = λ h. c.unfile_at.ensures.lean (c.loop-rule.invariant.lean h);
}

pub returns-clause-kept : goal.returns-clause-kept
returns-clause-kept c = c.loop-rule.invariant.kept

pub returns-clause-fewer : goal.returns-clause-fewer
returns-clause-fewer c = c.loop-rule.invariant.fewer

pub returns-clause-gone : goal.returns-clause-gone
returns-clause-gone c n b k key e =
    let at : has_key_under (Some c.as_slice-spots.result.now) n b k ≡ true = subst (λ (ys : List RuleSpots). has_key_under (Some ys) n b k ≡ true)
    (sym c.as_slice-spots.ensures) key in
    elim (cases_lt n c.loop-rule.rule) [
      | inl lower ↦ c.loop-rule.invariant.gone n b k lower at e
      | inr not_lower ↦ none_under c.as_slice-spots.result.now n b k (omega (arith, not_lower, c.loop-rule-test.false)) at
    ]

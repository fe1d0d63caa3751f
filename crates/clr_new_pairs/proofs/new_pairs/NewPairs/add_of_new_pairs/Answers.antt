use Rattle.std.proofs.Common.{subst}
use Rattle.std.specs.Prelude.{IfSome}
use Rattle.clr_new_pairs.specs.NewPairs.{HasBreakAt, IsNeedOfTwo, Passes}
use Rattle.clr_row_versions.proofs.Gaining.{gains_reach}
use Rattle.clr_new_pairs.proofs.NewPairLaws.{IsNeedBefore, all_positions, no_position_yet, none_filed, one_position_more}
use Rattle.clr_new_pairs.proofs.new_pairs.NewPairs.add_of_new_pairs.Goals as goal

pub loop-position-init : goal.loop-position-init
loop-position-init g c =
    let rules = c.args.self.now.versions.book.now in
    record {
      filed = none_filed rules c.args.rule c.args.fresh.now c.new-filed.result;
      needs = gains_reach (Passes rules c.args.leaves_out) (IsNeedOfTwo rules c.args.rule c.args.fresh.now) (IsNeedBefore rules c.args.rule c.args.fresh.now 0)
          c.args.needs.now.items c.args.needs.now.items (no_position_yet rules c.args.rule c.args.fresh.now c.args.needs.now.items);
    }

pub add_of_new_at-requires-clause-before : goal.add_of_new_at-requires-clause-before
add_of_new_at-requires-clause-before g c = c.loop-position.invariant.filed

pub loop-position-preserved : goal.loop-position-preserved
loop-position-preserved g c =
    let rules = c.args.self.now.versions.book.now in
    record {
      filed = c.in_ok-add_of_new_at.ensures.filed;
      needs = one_position_more rules c.args.rule c.args.fresh.now c.last_that_counts-last.result c.args.leaves_out c.loop-position.position _ _ _
          (subst (λ list. IfSome c.last_that_counts-last.result (HasBreakAt rules c.args.leaves_out c.args.rule list)) c.as_slice.ensures.value
          c.last_that_counts-last.ensures) c.loop-position.invariant.needs
          c.in_ok-add_of_new_at.ensures.needs;
    }

pub returns : goal.returns
returns g c = all_positions c.args.self.now.versions.book.now c.args.rule c.args.fresh.now c.args.leaves_out c.loop-position.position _ _
    c.loop-position-test.false
    c.loop-position.invariant.needs

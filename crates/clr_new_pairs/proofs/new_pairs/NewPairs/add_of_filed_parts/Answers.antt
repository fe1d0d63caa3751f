use Rattle.std.proofs.Common.{None}
use Rattle.clr_row_versions.specs.Candidates.{IsNeedAmong}
use Rattle.clr_new_pairs.specs.NewPairs.{IsNeedOfFiledPart, UpTo}
use Rattle.clr_row_versions.proofs.Gaining.{of_all, of_none, of_one_more}
use Rattle.clr_new_pairs.proofs.new_pairs.NewPairs.add_of_filed_parts.Goals as goal

pub loop-filed-init : goal.loop-filed-init
loop-filed-init g c =
    let rules = c.args.self.now.versions.book.now in
    of_none (IsNeedAmong rules c.args.rule None c.args.one c.args.fresh.now)
    (λ e. UpTo c.args.last (IsNeedOfFiledPart rules c.args.rule c.args.fresh.now c.args.one c.args.part e))
    c.args.filed_parts.now c.args.needs.now.items

pub loop-filed-preserved : goal.loop-filed-preserved
loop-filed-preserved g c =
    let rules = c.args.self.now.versions.book.now in
    of_one_more (IsNeedAmong rules c.args.rule None c.args.one c.args.fresh.now)
    (λ e. UpTo c.args.last (IsNeedOfFiledPart rules c.args.rule c.args.fresh.now c.args.one c.args.part e))
    c.args.filed_parts.now c.loop-filed.filed-index _ _ _ _
    c.loop-filed-test.true c.loop-filed.invariant c.in_ok-add_of_filed_part.ensures

pub returns : goal.returns
returns g c =
    let rules = c.args.self.now.versions.book.now in
    of_all (IsNeedAmong rules c.args.rule None c.args.one c.args.fresh.now)
    (λ e. UpTo c.args.last (IsNeedOfFiledPart rules c.args.rule c.args.fresh.now c.args.one c.args.part e))
    c.args.filed_parts.now c.loop-filed.filed-index _ _
    c.loop-filed-test.false c.loop-filed.invariant

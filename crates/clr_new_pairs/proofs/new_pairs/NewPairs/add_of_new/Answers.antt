use Rattle.std.proofs.Common.{◌∙◌, None, ap}
use Rattle.clr_rules.specs.Calls.{part_count}
use Rattle.clr_row_versions.specs.Candidates.{IsNeedAmong}
use Rattle.clr_new_pairs.specs.NewPairs.{IsNeedWithBefore}
use Rattle.clr_row_versions.specs.RootVersions.{setting_in}
use Rattle.clr_row_versions.specs.Versions.{row_of}
use Rattle.clr_new_pairs.proofs.NewPairLaws.{IsNeedWithPartTo, before_stays, gains_up_to, no_part_filed, no_part_yet, one_part_filed, one_part_more}
use Rattle.clr_new_pairs.proofs.NewPairLaws.{unpaired_filed, unpaired_needs, version_filed}
use Rattle.clr_row_versions.proofs.VersionFits.{fit_one}
use Rattle.clr_new_pairs.proofs.new_pairs.NewPairs.add_of_new.Goals as goal

pub returns-then-not-may_be_paired-clause-filed : goal.returns-then-not-may_be_paired-clause-filed
returns-then-not-may_be_paired-clause-filed g c =
    unpaired_filed c.args.self.now.versions.book.now c.args.rule c.args.fresh.now c.args.position c.args.filed.now c.args.one c.may_be_paired.result
    c.requires.at
    c.may_be_paired.ensures c.if-not-may_be_paired.true c.requires.before

pub returns-then-not-may_be_paired-clause-needs : goal.returns-then-not-may_be_paired-clause-needs
returns-then-not-may_be_paired-clause-needs g c =
    let rules = c.args.self.now.versions.book.now in
    gains_up_to c.args.last (IsNeedAmong rules c.args.rule None c.args.one c.args.fresh.now)
    (IsNeedWithBefore rules c.args.rule c.args.fresh.now c.args.position c.args.one) c.args.needs.now.items c.args.needs.now.items
    (unpaired_needs rules c.args.rule c.args.fresh.now c.args.position c.args.one c.may_be_paired.result c.args.needs.now.items c.may_be_paired.ensures
    c.if-not-may_be_paired.true)

pub part_count-part-end-requires-clause-fit : goal.part_count-part-end-requires-clause-fit
part_count-part-end-requires-clause-fit g c = fit_one (setting_in g.V.RowView.content c.args.self.now.versions) c.requires.fit c.args.one _ c.requires.one
    c.as_held.ensures

pub loop-part-init : goal.loop-part-init
loop-part-init g c =
    let rules = c.args.self.now.versions.book.now in
    let fresh = c.args.fresh.now in
    record {
      before = c.requires.before;
      parts = no_part_filed rules c.args.rule fresh c.args.filed.now c.args.position c.args.one;
      needs = gains_up_to c.args.last (IsNeedAmong rules c.args.rule None c.args.one fresh)
          (IsNeedWithPartTo rules c.args.rule fresh c.args.position c.args.one 0) c.args.needs.now.items c.args.needs.now.items
          (no_part_yet rules c.args.rule fresh c.args.position c.args.one c.args.needs.now.items);
    }

pub add_of_part_at-requires-clause-before : goal.add_of_part_at-requires-clause-before
add_of_part_at-requires-clause-before g c = c.loop-part.invariant.before

pub loop-part-preserved : goal.loop-part-preserved
loop-part-preserved g c =
    let rules = c.args.self.now.versions.book.now in
    let fresh = c.args.fresh.now in
    let filed = c.in_ok-add_of_part_at.ensures.filed in
    record {
      before = before_stays rules c.args.rule fresh c.args.position c.loop-part.filed c.add_of_part_at.new.filed c.args.position _ (row_of c.args.one) filed
          c.loop-part.invariant.before;
      parts = one_part_filed rules c.args.rule fresh c.loop-part.filed c.add_of_part_at.new.filed c.args.position c.loop-part.part c.args.one filed
          c.loop-part.invariant.parts;
      needs = one_part_more rules c.args.rule fresh c.args.position c.args.one c.args.last c.loop-part.part _ _ _ c.loop-part.invariant.needs
          c.in_ok-add_of_part_at.ensures.needs;
    }

pub returns-clause-filed : goal.returns-clause-filed
returns-clause-filed g c =
    let count = c.part_count-part-end.ensures ∙ ap (part_count c.args.self.now.versions.book.now c.args.rule) c.as_held.ensures in
    version_filed c.args.self.now.versions.book.now c.args.rule c.args.fresh.now c.args.position c.loop-part.filed c.args.one c.part_count-part-end.result
    c.loop-part.part c.requires.at count c.loop-part-test.false
    c.loop-part.invariant.parts c.loop-part.invariant.before

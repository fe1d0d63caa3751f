use Rattle.clr_rows.proofs.BeginningLaws.{on_err}
use Rattle.clr_row_versions.proofs.CandidateLaws.{all_pairs, no_pair_yet, no_pairs, one_pair_more, some_pairs}
use Rattle.clr_needs.proofs.Reading.{item_in}
use Rattle.clr_row_versions.proofs.root_versions.RootVersions.add_pairs.Goals as goal

pub add_pair-requires-clause-other : goal.add_pair-requires-clause-other
add_pair-requires-clause-other g c = c.requires.others c.other-item.result (item_in c.args.others.now c.loop-other.other-index c.other-item.result
    c.loop-other-test.true c.other-item.is)

pub loop-other-init : goal.loop-other-init
loop-other-init g c = no_pair_yet c.args.self.now.book.now c.args.rule c.args.server c.args.one c.args.others.now c.args.needs.now.items

pub loop-other-preserved : goal.loop-other-preserved
loop-other-preserved g c =
    one_pair_more c.args.self.now.book.now c.args.rule c.args.server c.args.one c.args.others.now c.loop-other.other-index c.other-item.result _ _ _
    c.loop-other-test.true c.other-item.is c.loop-other.invariant c.in_ok-add_pair.ensures.ok

pub returns-clause-ok : goal.returns-clause-ok
returns-clause-ok g c = all_pairs c.args.self.now.book.now c.args.rule c.args.server c.args.one c.args.others.now c.loop-other.other-index _ _
    c.loop-other-test.false c.loop-other.invariant

pub returns-then-not-is_asked_of_two-clause-ok : goal.returns-then-not-is_asked_of_two-clause-ok
returns-then-not-is_asked_of_two-clause-ok g c = no_pairs c.args.self.now.book.now c.args.rule c.args.server c.args.one c.args.others.now c.args.needs.now.items
    c.is_asked_of_two.result c.is_asked_of_two.ensures c.if-not-is_asked_of_two.true

pub returns-in_err-add_pair-clause-err : goal.returns-in_err-add_pair-clause-err
returns-in_err-add_pair-clause-err g c =
    on_err _ (some_pairs c.args.self.now.book.now c.args.rule c.args.server c.args.one c.args.others.now c.loop-other.other-index c.other-item.result _ _ _
    c.loop-other-test.true c.other-item.is c.loop-other.invariant c.in_err-add_pair.ensures.err)

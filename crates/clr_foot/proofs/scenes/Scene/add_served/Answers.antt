use Rattle.clr_rows.proofs.BeginningLaws.{on_err}
use Rattle.clr_needs.proofs.Reading.{item_in}
use Rattle.clr_foot.proofs.ServedNeeds.{all_served, none_alone, none_served, one_served, some_pairs}
use Rattle.clr_foot.proofs.scenes.Scene.add_served.Goals as goal

pub loop-first-init : goal.loop-first-init
loop-first-init g c = none_served c.args.self.now.book.now c.args.rule c.args.server c.args.near.now c.args.needs.now.items

pub add_alone-requires-clause-first : goal.add_alone-requires-clause-first
add_alone-requires-clause-first g c = c.requires.near c.first-item.result (item_in c.args.near.now c.loop-first.first-index c.first-item.result
    c.loop-first-test.true c.first-item.is)

pub add_pairs-requires-clause-one : goal.add_pairs-requires-clause-one
add_pairs-requires-clause-one g c = c.requires.near c.first-item.result (item_in c.args.near.now c.loop-first.first-index c.first-item.result
    c.loop-first-test.true c.first-item.is)

pub loop-first-preserved : goal.loop-first-preserved
loop-first-preserved g c =
    one_served c.args.self.now.book.now c.args.rule c.args.server c.args.near.now c.loop-first.first-index c.first-item.result _ _ _ _ c.loop-first-test.true
    c.first-item.is c.loop-first.invariant
    c.in_ok-add_alone.ensures.ok c.in_ok-add_pairs.ensures.ok

pub returns-clause-ok : goal.returns-clause-ok
returns-clause-ok g c = all_served c.args.self.now.book.now c.args.rule c.args.server c.args.near.now c.loop-first.first-index _ _ c.loop-first-test.false
    c.loop-first.invariant

pub returns-in_err-add_alone-clause-err : goal.returns-in_err-add_alone-clause-err
returns-in_err-add_alone-clause-err g c =
    on_err _ (none_alone c.args.self.now.book.now c.args.rule c.args.server c.args.near.now c.loop-first.first-index _ _ _ c.in_err-add_alone.ensures.err
    c.loop-first.invariant)

pub returns-in_err-add_pairs-clause-err : goal.returns-in_err-add_pairs-clause-err
returns-in_err-add_pairs-clause-err g c =
    on_err _ (some_pairs c.args.self.now.book.now c.args.rule c.args.server c.args.near.now c.loop-first.first-index c.first-item.result _ _ _ _
    c.loop-first-test.true c.first-item.is c.loop-first.invariant
    c.in_ok-add_alone.ensures.ok c.in_err-add_pairs.ensures.err)

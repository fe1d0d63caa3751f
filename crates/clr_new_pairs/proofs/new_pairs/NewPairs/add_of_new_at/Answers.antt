use Rattle.clr_new_pairs.specs.NewPairs.{IsNeedAtPosition, IsNeedOfTwo}
use Rattle.clr_new_pairs.proofs.NewPairLaws.{at_position, gains_up_to, got_in, none_at, past_filed}
use Rattle.clr_new_pairs.proofs.new_pairs.NewPairs.add_of_new_at.Goals as goal

pub returns-in-None-clause-filed : goal.returns-in-None-clause-filed
returns-in-None-clause-filed g c = past_filed c.args.self.now.versions.book.now c.args.rule c.args.fresh.now c.args.position c.args.filed.now c.in-None.ensures
    c.requires.before

pub returns-in-None-clause-needs : goal.returns-in-None-clause-needs
returns-in-None-clause-needs g c =
    let rules = c.args.self.now.versions.book.now in
    gains_up_to c.args.last (IsNeedOfTwo rules c.args.rule c.args.fresh.now) (IsNeedAtPosition rules c.args.rule c.args.fresh.now c.args.position)
    c.args.needs.now.items c.args.needs.now.items
    (none_at rules c.args.rule c.args.fresh.now c.args.position c.args.needs.now.items c.in-None.ensures)

pub add_of_new-requires-clause-one : goal.add_of_new-requires-clause-one
add_of_new-requires-clause-one g c = c.requires.fresh c.in-Some.one (got_in c.args.fresh.now c.args.position c.in-Some.one c.in-Some.ensures)

pub returns-in_ok-add_of_new-in-Some-clause-needs : goal.returns-in_ok-add_of_new-in-Some-clause-needs
returns-in_ok-add_of_new-in-Some-clause-needs g c = at_position c.args.self.now.versions.book.now c.args.rule c.args.fresh.now c.args.position c.in-Some.one
    c.args.last _ _
    c.in-Some.ensures c.in_ok-add_of_new-in-Some.ensures.needs

use Rattle.clr_spots.proofs.SpotLemmas.{joined_new, joined_old}
use Rattle.clr_spots.proofs.rows.add_spot.Goals as goal

pub returns-in_ok-push : goal.returns-in_ok-push
returns-in_ok-push c = joined_new c.args.list.now.items c.deref.result.now c.push.new.self.items c.args.spot c.in-Some.spot c.contains.result c.in-Some.is
    c.deref.ensures.value c.contains.ensures.value c.if-not-contains.true c.in_ok-push.ensures.items

pub returns-else-not-contains : goal.returns-else-not-contains
returns-else-not-contains c = joined_old c.args.list.now.items c.deref.result.now c.args.spot c.in-Some.spot c.contains.result c.in-Some.is
    c.deref.ensures.value c.contains.ensures.value c.if-not-contains.false

use Rattle.std.proofs.Common.{◌≡◌, ◌∷◌, List, length, take, sym, subst, arith, rules}
use Rattle.std.specs.Vec.Iter.{into_iter_items}
use Rattle.clr_spots.specs.declared.spots.Spot.{Spot}
use Rattle.clr_spots.proofs.ListedSquares.{AddsNew, new_added}
use Rattle.clr_spots.proofs.parts.add_new.Goals as goal

pub loop-spot-preserved-in-Continue-1 : goal.loop-spot-preserved-in-Continue-1
loop-spot-preserved-in-Continue-1 c =
    let xs = c.args.list.now.items in
    let step : into_iter_items c.loop-spot.spot-iterator ≡ c.in-Some.spot ∷ into_iter_items c.next.new.self = search rules in
    let had = subst (λ (rest : List Spot). AddsNew xs c.args.spots.items c.loop-spot.list.items rest) step c.loop-spot.invariant in
    let old : c.len-old.result ≡ length xs = omega arith in
    let read : take c.len-old.result c.deref.result.now ≡ take (length xs) c.loop-spot.list.items = λ i. take (old i) (c.deref.ensures.value i) in
    let more = new_added xs c.args.spots.items c.loop-spot.list.items (into_iter_items c.next.new.self) (take c.len-old.result c.deref.result.now)
    c.in-Some.spot c.contains.result had read c.contains.ensures.value c.if-not-contains.true in
    subst (λ (list : List Spot). AddsNew xs c.args.spots.items list (into_iter_items c.next.new.self)) (sym c.in_ok-push.ensures.items) more

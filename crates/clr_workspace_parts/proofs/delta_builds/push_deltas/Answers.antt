use Rattle.std.proofs.Common.{◌≡◌, [], map, ap, sym, ◌∙◌, subst, arith}
use Rattle.std.proofs.lemmas.List.{nil_from_length}
use Rattle.std.specs.Vec.Iter.{into_iter_items}
use Rattle.clr_deltas.specs.NamedDeltas.{stored_delta}
use Rattle.clr_workspace_parts.specs.Parts.{spaces_of, first_part_name_fault, fault_number, IsFirstPartFault}
use Rattle.clr_workspace_parts.proofs.DeltaLemmas.{pushed_first, pushed_rooted, pushed_next, pushed_not, pushed_all}
use Rattle.clr_workspace_parts.proofs.delta_builds.push_deltas.Goals as goal

pub overflow_sub-at : goal.overflow_sub-at
overflow_sub-at c = let some = c.loop-part.invariant.filled in omega (arith, some, c.len-at.ensures)

pub loop-part-init : goal.loop-part-init
loop-part-init c =
    let start : into_iter_items c.into_iter-part-iterator.result ≡ c.args.parts.items = c.into_iter-part-iterator.ensures.into_iter_gives.0 in
    rw start (pushed_first c.args.live.now c.in_ok-map.map (map stored_delta c.args.parts.items) c.in_ok-map.ensures.made)

pub push_delta-requires : goal.push_delta-requires
push_delta-requires c = pushed_rooted c.args.live.now (spaces_of c.args.live.now c.args.parts.items) c.loop-part.map _ c.loop-part.invariant

pub returns-in-Err-clause-refused : goal.returns-in-Err-clause-refused
returns-in-Err-clause-refused c =
    let live = c.args.live.now in
    let spaces = spaces_of live c.args.parts.items in
    let before = rw c.in-Some.ensures.steps.0 at c.loop-part.invariant in
    let count = c.len-at.ensures in
    subst (λ n. IsFirstPartFault (first_part_name_fault live spaces) (n, c.in-Err.fault)) (ap (λ n. fault_number n c.in-Err.fault) (omega (arith, count))
    ∙ sym c.fault_number.ensures)
    (pushed_not live spaces c.loop-part.map (stored_delta c.in-Some.part) _ before c.in-Err.fault c.in-Err.ensures.refused)

pub loop-part-preserved : goal.loop-part-preserved
loop-part-preserved c =
    let live = c.args.live.now in
    let before = rw c.in-Some.ensures.steps.0 at c.loop-part.invariant in
    pushed_next live (spaces_of live c.args.parts.items) c.loop-part.map (stored_delta c.in-Some.part) _ before _ c.in_default.ensures.ok
    c.in_default.ensures.passed

pub returns-clause-made : goal.returns-clause-made
returns-clause-made c =
    let none : into_iter_items c.loop-part.part-iterator ≡ [] = nil_from_length _ (omega (arith, c.in-None.ensures.steps.0)) in
    (pushed_all c.args.live.now (spaces_of c.args.live.now c.args.parts.items) c.loop-part.map (rw none at c.loop-part.invariant)).0

pub returns-clause-passed : goal.returns-clause-passed
returns-clause-passed c =
    let none : into_iter_items c.loop-part.part-iterator ≡ [] = nil_from_length _ (omega (arith, c.in-None.ensures.steps.0)) in
    (pushed_all c.args.live.now (spaces_of c.args.live.now c.args.parts.items) c.loop-part.map (rw none at c.loop-part.invariant)).1

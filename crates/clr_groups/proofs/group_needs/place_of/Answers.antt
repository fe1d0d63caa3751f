use Rattle.std.proofs.Common.{◌≡◌, ◌∙◌, inl, inr, Some, Contains, map, sym, ap, subst, arith}
use Rattle.std.specs.Prelude.{slice_get}
use Rattle.std.proofs.lemmas.Bool.{cases_lt}
use Rattle.clr_groups.proofs.Places.{group_at, position_at, positions}
use Rattle.clr_needs.proofs.TestLemmas.{it_is_not}
use Rattle.clr_groups.proofs.group_needs.place_of.Goals as goal

pub loop-place-preserved : goal.loop-place-preserved
loop-place-preserved c i g below at h = elim (cases_lt i c.loop-place.place) [
  | inl less ↦ c.loop-place.invariant i g less at h
  | inr most ↦ (let is : i ≡ c.loop-place.place = omega (arith, below, most) in
      let v = c.index-groups-place.result in
      let here = group_at c.args.groups.now c.loop-place.place v c.loop-place-test.true c.index-groups-place.is in
      let both : Some g ≡ Some v.items = sym at ∙ ap (slice_get (map positions c.args.groups.now)) is ∙ here in
      let one : g ≡ v.items = cc in
      it_is_not c.is_in.result (Contains c.as_slice.result.now c.args.member) c.if-is_in.false c.is_in.ensures
      (subst (λ xs. Contains xs c.args.member) (one ∙ sym c.as_slice.ensures.value) h))
]

pub returns : goal.returns
returns c =
    let (g, listed, there) = c.requires.some in
    let (k, less, at) = position_at c.args.groups.now g listed in
    let past = c.loop-place-test.false in
    absurd (c.loop-place.invariant k g (omega (arith, less, past)) at there)

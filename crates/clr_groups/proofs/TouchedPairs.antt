-- Needs that members touch, with the places of these, are the touched needs of groups.
use Rattle.std.proofs.Common.{◌≡◌, ◌∙◌, ◌<◌, ◌≤◌, ◌+◌, ◌⊎◌, ℕ, true, false, List, [], ◌∷◌, ◌++◌, inl, inr, Contains, get_or, length, take, refl, sym, ap, subst}
use Rattle.std.specs.Prelude.{◌↔◌, slice_get}
use Rattle.std.specs.FinMap.{IsAntisymmetric}
use Rattle.std.specs.List.Sorted.{IsStrictlySortedBy}
use Rattle.std.specs.Ordering.{nat_cmp}
use Rattle.std.proofs.lemmas.Bool.{false≢true}
use Rattle.std.proofs.lemmas.Map.Lookups.{exact_unsigned}
use Rattle.clr_rows.specs.Contents.{Changes, Content}
use Rattle.clr_rules.specs.declared.rules.Rule.{Rule}
use Rattle.clr_rules.proofs.Elements.{among}
use Rattle.clr_row_versions.specs.Gains.{Gains, OfSome}
use Rattle.clr_needs.specs.Members.{AreApart, setting}
use Rattle.clr_needs.specs.Needs.{IsTouched, Lists}
use Rattle.clr_needs.specs.Orders.{need_cmp}
use Rattle.clr_needs.specs.Parts.{setting_at}
use Rattle.clr_needs.specs.Settings.{Setting}
use Rattle.clr_needs.proofs.Reading.{read_in}
use Rattle.clr_needs.proofs.NeedOrder.{both_tie, need_exact}
use Rattle.clr_row_versions.proofs.Gaining.{gains_as, gains_none, gains_one, of_all, of_one_more}
use Rattle.clr_groups.specs.Groups.{AreGroups}
use Rattle.clr_groups.specs.GroupNeeds.{IsOfPlace, IsPlaceOf, IsTouchedAt, group_need_cmp}
use Rattle.clr_groups.specs.Laws.{SplitNeeds}
use Rattle.clr_groups.specs.MemberNeeds.{TieMembers}
use Rattle.clr_groups.specs.declared.group_needs.GroupNeed.{GroupNeed}
use Rattle.clr_groups.specs.declared.member_needs.MemberNeed.{MemberNeed}
use Rattle.clr_groups.proofs.GroupLaws.{groups_split, touched_with}

-- needs of groups that tie are one
pub group_need_exact : IsAntisymmetric group_need_cmp
group_need_exact x y e =
    let (needs, groups) = both_tie (need_cmp x.need y.need) (nat_cmp x.group y.group) e in
    let need = need_exact x.need y.need needs in
    let group = exact_unsigned x.group y.group groups in
    λ i. record { need = need i; group = group i }

-- one pair after another -----------------------------------------------------------------------

module _ (places : List ℕ) where
  module _ (pairs : List MemberNeed) where
    abbrev pub IsOfPairs : GroupNeed → Type 0
    IsOfPairs = OfSome (IsOfPlace places) pairs

    pub pair_added : (k : ℕ) (e : MemberNeed) (old middle new : List GroupNeed) → k < length pairs
        → Gains IsOfPairs (OfSome (IsOfPlace places) (take k pairs)) old middle
        → Gains (IsOfPlace places (get_or pairs k e)) (IsOfPlace places (get_or pairs k e)) middle new
        → Gains IsOfPairs (OfSome (IsOfPlace places) (take (k + 1) pairs)) old new
    pair_added k e old middle new less g h =
        let p = get_or pairs k e in
        of_one_more IsOfPairs (IsOfPlace places) pairs k e old middle new less g
        (gains_as (IsOfPlace places p) (IsOfPlace places p) IsOfPairs (IsOfPlace places p) middle new
        (λ x w. (p, read_in pairs k e less, w)) (λ x w. w) h)

    pub all_added : (k : ℕ) (new sorted : List GroupNeed) → length pairs ≤ k
        → Gains IsOfPairs (OfSome (IsOfPlace places) (take k pairs)) [] new → IsStrictlySortedBy group_need_cmp sorted
        → ((x : GroupNeed) → Contains sorted x ↔ Contains new x)
        → Lists group_need_cmp IsOfPairs sorted
    all_added k new sorted past h ascending same = record {
      ascending = ascending;
      exactly = λ x. (λ i. only x (g.only x ((same x).0 i)), λ w. (same x).1 (g.every x w));
    }
      where
        g : Gains IsOfPairs IsOfPairs [] new
        g = of_all IsOfPairs (IsOfPlace places) pairs k [] new past h

        only : (x : GroupNeed) → Contains [] x ⊎ IsOfPairs x → IsOfPairs x
        only x (inl i) = absurd (among x [] i)
        only x (inr w) = w

-- all of them ------------------------------------------------------------------------------------

module _ (rules : List Rule) (root : Content) (sets : List Changes) (groups : List (List ℕ)) (apart : AreApart sets)
    (are : AreGroups (setting rules root sets) groups) (pairs : List MemberNeed)
    (are_pairs : TieMembers (setting rules root sets) (length sets) pairs) (places : List ℕ)
    (placed : (x : ℕ) → x < length sets → IsPlaceOf groups x (get_or places x 0)) where
  split : SplitNeeds rules root sets groups
  split = groups_split rules root sets groups apart are

  only_touched : (x : GroupNeed) → IsOfPairs places pairs x → IsTouchedAt rules root sets groups x
  only_touched x (p, h, (touches, need, place)) =
      let (below, (involves, touched)) = are_pairs.only p h in
      let (g, at, there) = placed p.member below in (
        g,
        ap (slice_get groups) place ∙ at,
        subst (IsTouched (setting_at rules root sets g)) (sym need)
            (touched_with rules root sets groups apart are p.need p.member involves (touched touches) (get_or places p.member 0) g at there),
      )

  every_touched : (x : GroupNeed) → IsTouchedAt rules root sets groups x → IsOfPairs places pairs x
  every_touched x (g, at, touched) =
      let in_all = (split.same x.group g x.need at touched).touched in
      let (m, h) = are_pairs.touched x.need in_all in
      let p : MemberNeed = record { need = x.need; member = m; touches = true } in
      let (below, (involves, _)) = are_pairs.only p h in
      let (k, at_k, there) = placed m below in
      let other = touched_with rules root sets groups apart are x.need m involves in_all (get_or places m 0) k at_k there in
      let one = split.one x.group (get_or places m 0) g k x.need at at_k touched other in
      (p, h, (refl, refl, one))

  pub are_group_needs : (list : List GroupNeed) → Lists group_need_cmp (IsOfPairs places pairs) list
      → Lists group_need_cmp (IsTouchedAt rules root sets groups) list
  are_group_needs list lists = record {
    ascending = lists.ascending;
    exactly = λ x. (λ h. only_touched x ((lists.exactly x).0 h), λ t. (lists.exactly x).1 (every_touched x t));
  }

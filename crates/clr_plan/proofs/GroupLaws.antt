-- What is picked in the scenes of groups is what is picked in that of all members.
use Rattle.std.proofs.Common.{◌≡◌, ◌∙◌, ◌<◌, ℕ, List, [], ◌∷◌, ◌⊎◌, inl, inr, Contains, Option, Some, None, get_or, length, map, refl, sym, ap, subst}
use Rattle.std.specs.Prelude.{option_map, slice_get}
use Rattle.std.specs.List.Sorted.{IsStrictlySortedBy}
use Rattle.std.specs.Ordering.{nat_cmp, ordering_then}
use Rattle.std.specs.declared.cmp.Ordering.{Ordering}
use Rattle.std.specs.declared.cmp.Ordering.TheVariants.{Less, Equal, Greater}
use Rattle.std.proofs.lemmas.Cmp.{nat_cmp_total}
use Rattle.std.proofs.lemmas.List.{length-map}
use Rattle.std.proofs.lemmas.Option.{get_or_from_slice_get, slice_get-map, slice_get_within}
use Rattle.clr_finders.specs.Sharing.{Settled}
use Rattle.clr_rules.proofs.Elements.{Among, all_by, among, among_mapped, contained, each_of, mapped_among, not_itself}
use Rattle.clr_needs.specs.declared.needs.Need.{Need}
use Rattle.clr_needs.specs.declared.needs.VersionId.{VersionId}
use Rattle.clr_needs.specs.Members.{AreApart}
use Rattle.clr_needs.specs.Needs.{AreTouchedNeeds, IsPossibleNeed, IsTouched, Lists}
use Rattle.clr_needs.specs.Orders.{need_cmp}
use Rattle.clr_foot.specs.Scenes.{model_at, IsReady, SceneModel, setting_of}
use Rattle.clr_needs.specs.Picks.{Picks}
use Rattle.clr_needs.proofs.Reading.{read_in}
use Rattle.clr_needs.proofs.NeedOrder.{need_exact, unread as unread_need}
use Rattle.clr_groups.specs.Groups.{AreGroups}
use Rattle.clr_groups.specs.Laws.{SplitNeeds}
use Rattle.clr_groups.proofs.GroupLaws.{groups_split}
use Rattle.clr_groups.proofs.GroupParts.{group_ready}
use Rattle.clr_groups.specs.declared.group_needs.GroupNeed.{GroupNeed}
use Rattle.clr_groups.specs.GroupNeeds.{IsTouchedAt, group_need_cmp}
use Rattle.clr_plan.specs.GroupNeeds.{models_at}
use Rattle.clr_plan.proofs.GroupNeedLaws.{mapped_at}

-- rising elements that are mapped to rising ones
rising_by : {X Y : Type 0} (c : X → X → Ordering) (d : Y → Y → Ordering) (f : X → Y) (xs : List X) → ((x y : X) → Among x xs → Among y xs → c x y ≡ Less
    → d (f x) (f y) ≡ Less)
    → IsStrictlySortedBy c xs
    → IsStrictlySortedBy d (map f xs)
unfolding IsStrictlySortedBy
rising_by c d f [] keeps p = tt
rising_by c d f (x ∷ xs) keeps p = (
  all_by (λ y. d (f x) y ≡ Less) (map f xs) (λ y h. let m = among_mapped f y xs h in subst (λ w. d (f x) w
      ≡ Less) m.2 (keeps x m.0 (inl refl) (inr m.1) (each_of (λ w. c x w ≡ Less) m.0 xs p.0 m.1))),
  rising_by c d f xs (λ y z h k. keeps y z (inr h) (inr k)) p.1,
)

abbrev pub AreReady : {F : Type 0} → (F → Settled) → List (SceneModel F) → Type 0
AreReady {F} settled models = (k : ℕ) (m : SceneModel F) → slice_get models k ≡ Some m → IsReady settled m

-- a need that is touched in the scene of the group at its position
abbrev pub IsTouchedIn : {F : Type 0} → List (SceneModel F) → GroupNeed → Type 0
IsTouchedIn {F} models x = (m : SceneModel F) × (slice_get models x.group ≡ Some m) × IsTouched (setting_of m) x.need

abbrev pub need_in : GroupNeed → Need
need_in x = x.need

-- of two needs of groups one is less by its need, or by its group
first_decides : (o p : Ordering) → ordering_then o p ≡ Less → (o ≡ Less) ⊎ ((o ≡ Equal) × (p ≡ Less))
first_decides Less p e = inl refl
first_decides Equal p e = inr (refl, e)
first_decides Greater p e = cc

module _ {F : Type 0} (model : SceneModel F) (apart : AreApart model.sets) (groups : List (List ℕ)) (are : AreGroups (setting_of model) groups) where
  split : SplitNeeds model.rules model.root model.sets groups
  split = groups_split model.rules model.root model.sets groups apart are

  -- the group of a position
  at_group : (k : ℕ) (m : SceneModel F) → slice_get (models_at model groups) k ≡ Some m → (g : List ℕ) × (slice_get groups k ≡ Some g) × (model_at model g ≡ m)
  at_group k m e = by (slice_get groups k) refl (sym (slice_get-map (model_at model) groups k) ∙ e)
    where
      by : (o : Option (List ℕ)) → slice_get groups k ≡ o → option_map (model_at model) o ≡ Some m → (g : List ℕ) × (slice_get groups k ≡ Some g)
          × (model_at model g ≡ m)
      by None is e = cc
      by (Some g) is e = (g, is, cc)

  listed : (k : ℕ) (g : List ℕ) → slice_get groups k ≡ Some g → Contains groups g
  listed k g at = (k, slice_get_within groups k g at, get_or_from_slice_get groups k g g at)

  pub are_ready : (settled : F → Settled) → IsReady settled model → AreReady settled (models_at model groups)
  are_ready settled ready k m e = let (g, at, same) = at_group k m e in subst (IsReady settled) same (group_ready settled model apart groups are g
      (listed k g at) ready)

  -- a need that is touched in the group at its position
  touched_at : (x : GroupNeed) → IsTouchedIn (models_at model groups) x → (g : List ℕ) × (slice_get groups x.group ≡ Some g)
      × IsTouched (setting_of (model_at model g)) x.need
  touched_at x (m, e, touched) = let (g, at, same) = at_group x.group m e in (g, at, subst (λ w. IsTouched (setting_of w) x.need) (sym same) touched)

  touched_there : (x : GroupNeed) (g : List ℕ) → slice_get groups x.group ≡ Some g → IsTouched (setting_of (model_at model g)) x.need
      → IsTouchedIn (models_at model groups) x
  touched_there x g at touched = (model_at model g, slice_get-map (model_at model) groups x.group ∙ ap (option_map (model_at model)) at, touched)

  -- the needs that are touched in groups are those of their scenes
  pub in_scenes : (list : List GroupNeed) → Lists group_need_cmp (IsTouchedAt model.rules model.root model.sets groups) list
      → Lists group_need_cmp (IsTouchedIn (models_at model groups)) list
  in_scenes list lists = record {
    ascending = lists.ascending;
    exactly = λ x. (λ h. (let (g, at, touched) = (lists.exactly x).0 h in touched_there x g at touched), λ t. (lists.exactly x).1 (touched_at x t));
  }

  -- each touched need of all members is that of one group
  pub are_touched : (list : List GroupNeed) → Lists group_need_cmp (IsTouchedIn (models_at model groups)) list
      → AreTouchedNeeds (setting_of model) (map need_in list)
  are_touched list needs = record {
    ascending = rising_by group_need_cmp need_cmp need_in list keeps needs.ascending;
    exactly = λ n. (λ h. only n (among_mapped need_in n list (among n (map need_in list) h)), every n);
  }
    where
      keeps : (x y : GroupNeed) → Among x list → Among y list → group_need_cmp x y ≡ Less → need_cmp x.need y.need ≡ Less
      keeps x y h j e = by (first_decides (need_cmp x.need y.need) (nat_cmp x.group y.group) e)
        where
          by : (need_cmp x.need y.need ≡ Less) ⊎ ((need_cmp x.need y.need ≡ Equal) × (nat_cmp x.group y.group ≡ Less)) → need_cmp x.need y.need ≡ Less
          by (inl less) = less
          by (inr (tied, less)) =
              let (g, at, touched) = touched_at x ((needs.exactly x).0 (contained x list h)) in
              let (k, other_at, other_touched) = touched_at y ((needs.exactly y).0 (contained y list j)) in
              let same = need_exact x.need y.need tied in
              let one = split.one x.group y.group g k y.need at other_at (subst (IsTouched (setting_of (model_at model g))) same touched) other_touched in
              absurd (not_itself nat_cmp_total y.group (subst (λ i. nat_cmp i y.group ≡ Less) one less))

      only : (n : Need) → (x : GroupNeed) × Among x list × (x.need ≡ n) → IsTouched (setting_of model) n
      only n (x, h, same) =
          let (g, at, touched) = touched_at x ((needs.exactly x).0 (contained x list h)) in
          subst (IsTouched (setting_of model)) same (split.same x.group g x.need at touched).touched

      every : (n : Need) → IsTouched (setting_of model) n → Contains (map need_in list) n
      every n touched =
          let (i, g, at, there) = split.some n touched in
          let x : GroupNeed = record { need = n; group = i } in
          contained n (map need_in list) (mapped_among need_in x list (among x list ((needs.exactly x).1 (touched_there x g at there))))

  -- a need of a group is possible there, and what is picked for it there is picked for it
  pub possible_in : (x : GroupNeed) (m : SceneModel F) → slice_get (models_at model groups) x.group ≡ Some m → IsTouchedIn (models_at model groups) x
      → IsPossibleNeed (setting_of m) x.need
  possible_in x m at (w, e, (a, b, possible, touched)) =
      let both : Some w ≡ Some m = sym e ∙ at in
      let one : w ≡ m = cc in
      subst (λ v. IsPossibleNeed (setting_of v) x.need) one (a, b, possible)

  pub picked_in : (x : GroupNeed) (m : SceneModel F) (p : Option (VersionId × Option VersionId)) → slice_get (models_at model groups) x.group ≡ Some m
      → IsTouchedIn (models_at model groups) x
      → Picks (setting_of m) x.need p
      → Picks (setting_of model) x.need p
  picked_in x m p e is picks =
      let (g, at, same) = at_group x.group m e in
      let (k, other_at, touched) = touched_at x is in
      let both : Some g ≡ Some k = sym at ∙ other_at in
      let one : g ≡ k = cc in
      ((split.same x.group g x.need at (subst (λ i. IsTouched (setting_of (model_at model i)) x.need) (sym one) touched)).pick p).0
      (subst (λ w. Picks (setting_of w) x.need p) (sym same) picks)

-- one need after another -----------------------------------------------------------------------

-- what a read past the end would give
abbrev pub unread : GroupNeed
unread = record { need = unread_need; group = 0 }

-- groups of a scene's members, their scenes, and the touched needs of these
pub record AreGrouped {F : Type 0} (model : SceneModel F) (groups : List (List ℕ)) (models : List (SceneModel F)) (list : List GroupNeed) : Type 0 where
  pub apart : AreApart model.sets
  pub grouped : AreGroups (setting_of model) groups
  pub scenes : models ≡ models_at model groups
  pub needs : Lists group_need_cmp (IsTouchedIn models) list

module _ {F : Type 0} (model : SceneModel F) (groups : List (List ℕ)) (models : List (SceneModel F)) (list : List GroupNeed)
    (are : AreGrouped model groups models list) where
  pub all_touched : AreTouchedNeeds (setting_of model) (map need_in list)
  all_touched = are_touched model are.apart groups are.grouped list (subst (λ ms. Lists group_need_cmp (IsTouchedIn ms) list) are.scenes are.needs)

  module _ (k : ℕ) (less : k < length list) where
    abbrev x : GroupNeed
    x = get_or list k unread

    touched_in : IsTouchedIn models x
    touched_in = (are.needs.exactly x).0 (read_in list k unread less)

    pub within : x.group < length models
    within = slice_get_within models x.group touched_in.0 touched_in.1

    module _ (m : SceneModel F) (at : slice_get models x.group ≡ Some m) where
      other_at : slice_get (models_at model groups) x.group ≡ Some m
      other_at = ap (λ ms. slice_get ms x.group) (sym are.scenes) ∙ at

      other_touched : IsTouchedIn (models_at model groups) x
      other_touched = subst (λ ms. IsTouchedIn ms x) are.scenes touched_in

      pub ready_at : (settled : F → Settled) → IsReady settled model → IsReady settled m
      ready_at settled ready = are_ready model are.apart groups are.grouped settled ready x.group m other_at

      pub possible_at : IsPossibleNeed (setting_of m) x.need
      possible_at = possible_in model are.apart groups are.grouped x m other_at other_touched

      pub picked_at : (p : Option (VersionId × Option VersionId)) → Picks (setting_of m) x.need p → Picks (setting_of model) x.need p
      picked_at p picks = picked_in model are.apart groups are.grouped x m p other_at other_touched picks

-- a scene at the position of its group
pub part_at : {X F : Type 0} (h : X → SceneModel F) (parts : List X) (k : ℕ) (part : X) → k < length (map h parts) → part ≡ get_or parts k part
    → slice_get (map h parts) k ≡ Some (h part)
part_at h parts k part less is = mapped_at h parts k part (subst (λ n. k < n) (length-map parts h) less) is

-- the scenes that were made, and the needs that are given
pub grouped_by : {X F : Type 0} (h : X → SceneModel F) (model : SceneModel F) (groups : List (List ℕ)) (parts : List X) (needs : List GroupNeed)
    → AreApart model.sets
    → AreGroups (setting_of model) groups
    → map h parts ≡ models_at model groups
    → Lists group_need_cmp (IsTouchedAt model.rules model.root model.sets groups) needs
    → AreGrouped model groups (map h parts) needs
grouped_by h model groups parts needs apart grouped scenes lists = record {
  apart = apart;
  grouped = grouped;
  scenes = scenes;
  needs = subst (λ ms. Lists group_need_cmp (IsTouchedIn ms) needs) (sym scenes) (in_scenes model apart groups grouped needs lists);
}

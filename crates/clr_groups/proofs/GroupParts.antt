-- The scene of a group is one of the scene's members, and is ready where the whole scene is.
use Rattle.std.proofs.lemmas.List.Elements.{All-nil, All-cons}
use Rattle.std.proofs.Common.{All, ◌≡◌, ◌∙◌, ◌<◌, ◌≤◌, ℕ, List, [], ◌∷◌, inl, inr, Contains, ap, get_or, length, map, refl, sym, subst, arith}
use Rattle.std.specs.Prelude.{option_map}
use Rattle.std.proofs.lemmas.Map.Views.{length-le_from_below}
use Rattle.std.proofs.lemmas.Option.{get_or_from_slice_get, slice_get-map, slice_get_read}
use Rattle.clr_rules.specs.Books.{FitsCell}
use Rattle.clr_rules.proofs.Elements.{Among, among, contained, mapped_among}
use Rattle.clr_finders.specs.Sharing.{Settled}
use Rattle.clr_needs.specs.declared.limits.TheConstants.{MOST_MEMBERS}
use Rattle.clr_needs.specs.Members.{AreApart}
use Rattle.clr_foot.specs.Scenes.{model_at, IsReady, SceneModel, setting_of}
use Rattle.clr_row_versions.specs.Versions.{FitsSetting}
use Rattle.clr_needs.proofs.BlockerLaws.{member_below}
use Rattle.clr_needs.proofs.Reading.{item_in}
use Rattle.clr_needs.proofs.PartLaws.{IsPart, up}
use Rattle.clr_needs.proofs.PartPositions.{StandsIn, is_part}
use Rattle.clr_groups.specs.Groups.{AreGroups}

all_of : (P : ℕ → Type 0) (xs : List ℕ) → ((x : ℕ) → Among x xs → P x) → All P xs
all_of P [] h = All-nil P
all_of P (x ∷ xs) h = All-cons P x xs (h x (inl refl)) (all_of P xs (λ y k. h y (inr k)))

-- a group that is read at a position is one of them, and the one at that position
module _ {X Y : Type 0} (f : X → Y) (xs : List X) (k : ℕ) (x : X) where
  pub group_there : k < length xs → x ≡ get_or xs k x → Contains (map f xs) (f x)
  group_there less is = contained (f x) (map f xs) (mapped_among f x xs (among x xs (item_in xs k x less is)))

  pub group_read : (d : Y) → k < length xs → x ≡ get_or xs k x → get_or (map f xs) k d ≡ f x
  group_read d less is = get_or_from_slice_get (map f xs) k (f x) d
      (slice_get-map f xs k ∙ ap (option_map f) (slice_get_read xs (length xs) k x refl less is))

module _ {F : Type 0} (settled : F → Settled) (m : SceneModel F) (apart : AreApart m.sets) (groups : List (List ℕ)) (are : AreGroups (setting_of m) groups)
    (g : List ℕ) (there : Contains groups g) where
  pub group_within : (k : ℕ) → Contains g k → k < length m.sets
  group_within k h = member_below m.rules m.root m.sets k (are.members g k there h)

  pub group_few : length m.sets ≤ MOST_MEMBERS → length g ≤ MOST_MEMBERS
  group_few few =
      let fewer = length-le_from_below (length m.sets) g (are.ascending g there)
      (all_of (λ k. k < length m.sets) g (λ k h. group_within k (contained k g h))) in
      omega (arith, fewer, few)

  -- the rows of a group's versions are rows of all members' versions
  pub group_fits : FitsSetting (setting_of m) → FitsSetting (setting_of (model_at m g))
  group_fits fits = record {
    tables = fits.tables;
    book = fits.book;
    each = λ v l e. (let (k, is, same) = up (setting_of m) (setting_of (model_at m g)) (StandsIn g) part v l e in
        subst (λ row. FitsCell fits.tables (v.cell, row)) (sym same.row) (fits.each v k is));
  }
    where
      part : IsPart (setting_of m) (setting_of (model_at m g)) (StandsIn g)
      part = is_part m.rules m.root m.sets g apart (are.ascending g there) (λ x h. are.members g x there h)

  pub group_ready : IsReady settled m → IsReady settled (model_at m g)
  group_ready ready = record { fit = group_fits ready.fit; is_settled = ready.is_settled }

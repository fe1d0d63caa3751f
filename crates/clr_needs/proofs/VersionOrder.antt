-- The order of versions, and the first of an ascending list that passes a test.
use Rattle.std.proofs.Common.{◌≡◌, ◌∙◌, ◌<◌, ◌≤◌, ◌+◌, ◌⊎◌, inl, inr, ℕ, Bool, true, false, List, Contains, get_or, length, pos, take, refl, sym, ap, subst}
use Rattle.std.specs.Cmp.{IsTotalOrder, bool_cmp_total}
use Rattle.std.specs.List.Sorted.{IsStrictlySortedBy}
use Rattle.std.specs.declared.cmp.Ordering.TheVariants.{Less}
use Rattle.std.proofs.lemmas.Bool.{true≢false}
use Rattle.std.proofs.lemmas.Cmp.{on_total, then_total}
use Rattle.clr_rows.proofs.CellOrder.{cell_cmp_total}
use Rattle.clr_rules.proofs.Elements.{not_both, not_itself}
use Rattle.clr_needs.specs.declared.needs.VersionId.{VersionId}
use Rattle.clr_needs.specs.Orders.{version_cmp}
use Rattle.clr_needs.specs.Picks.{IsLeastVersion}
use Rattle.clr_needs.specs.Witnesses.{IsPassing}
use Rattle.clr_needs.proofs.Reading.{all_taken, one_more, read_in}
use Rattle.clr_needs.proofs.Placing.{PlaceOf, after, before, here, place_of}

pub version_total : IsTotalOrder version_cmp
version_total = then_total (on_total (λ (v : VersionId). v.cell) cell_cmp_total) (on_total (λ (v : VersionId). v.fresh) bool_cmp_total)

-- what a read past the end would give
abbrev pub unread : VersionId
unread = record { cell = record { table = 0; key = pos 0 }; fresh = false }

module _ (test : VersionId → Bool) (ids : List VersionId) where
  -- none of the versions so far passes
  abbrev pub NonePasses : ℕ → Type 0
  NonePasses k = (v : VersionId) → Contains (take k ids) v → test v ≡ true → ⊥

  module _ (k : ℕ) (d : VersionId) (told : Bool) (less : k < length ids) (is : told ≡ test (get_or ids k d)) (none : NonePasses k) where
    pub first_is_least : IsStrictlySortedBy version_cmp ids → told ≡ true → IsLeastVersion (IsPassing test ids) (get_or ids k d)
    first_is_least ascending passes = (
      (read_in ids k d less, sym is ∙ passes),
      λ w lesser h. by w lesser h.1
          (place_of version_cmp ids k (get_or ids k d) d w less refl ascending h.0),
    )
      where
        by : (w : VersionId) → version_cmp w (get_or ids k d) ≡ Less → test w ≡ true → PlaceOf version_cmp ids w k (get_or ids k d) → ⊥
        by w lesser passed (before h) = none w h passed
        by w lesser passed (here e) = not_itself version_total w (subst (λ u. version_cmp w u ≡ Less) e lesser)
        by w lesser passed (after e) = not_both version_total w (get_or ids k d) lesser e

    pub none_more : told ≡ false → NonePasses (k + 1)
    none_more fails v h passes = by (one_more ids k d v less h)
      where
        by : Contains (take k ids) v ⊎ (v ≡ get_or ids k d) → ⊥
        by (inl earlier) = none v earlier passes
        by (inr last) = true≢false (sym passes ∙ ap test last ∙ sym is ∙ fails)

  pub none_at_all : (k : ℕ) → length ids ≤ k → NonePasses k → (v : VersionId) → ¬ (IsPassing test ids v)
  none_at_all k past none v h = none v (all_taken ids k v past h.0) h.1

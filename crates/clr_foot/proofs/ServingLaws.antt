-- The versions near a server that are kept: those that are left out it never serves.
use Rattle.std.proofs.Common.{◌≡◌, ◌∙◌, ◌<◌, ◌≤◌, ◌+◌, ℕ, false, List, [], ◌∷◌, ◌++◌, ◌⊎◌, inl, inr, Some, Contains, get_or, length, take, sym, subst}
use Rattle.std.proofs.lemmas.List.Elements.{Contains-append_left, Contains-append_right, Contains-append_cases}
use Rattle.clr_rows.specs.Held.{Held}
use Rattle.clr_rules.proofs.Elements.{contained}
use Rattle.clr_needs.proofs.Reading.{all_taken, alone, item_in, none_taken, one_more}
use Rattle.clr_needs.specs.declared.needs.VersionId.{VersionId}
use Rattle.clr_needs.specs.Settings.{Setting, Lived, held_row, version}
use Rattle.clr_row_versions.specs.declared.versions.Version.{Version}
use Rattle.clr_row_versions.specs.Serving.{IsNeverServed}
use Rattle.clr_row_versions.specs.Versions.{FindsAll, HasVersion, row_of}
use Rattle.clr_foot.specs.Serving.{MayBeServed}
use Rattle.clr_foot.specs.Touches.{IsNeighbour}
use Rattle.clr_foot.proofs.TouchLaws.{lived_is}

module _ (c : Setting ℕ) (number : ℕ) (r : Held) (near : List Version) where
  -- of the first versions those are kept that it may serve, and no others
  pub record AreKept (k : ℕ) (list : List Version) : Type 0 where
    pub only : (v : Version) → Contains list v → Contains near v
    pub every : (v : Version) → Contains (take k near) v → ¬ (IsNeverServed c.rules number r (row_of v)) → Contains list v

  pub none_kept : (list : List Version) → list ≡ [] → AreKept 0 list
  none_kept list none = record {
    only = λ v h. absurd (none_taken near v (subst (λ vs. Contains vs v) none h));
    every = λ v h served. absurd (none_taken near v h);
  }

  pub one_kept : (k : ℕ) (v : Version) (old new : List Version) → k < length near → v ≡ get_or near k v → new ≡ old ++ v ∷ [] → AreKept k old
      → AreKept (k + 1) new
  one_kept k v old new less is put before = record { only = only; every = every }
    where
      only : (w : Version) → Contains new w → Contains near w
      only w h = by (Contains-append_cases old (v ∷ []) w (subst (λ vs. Contains vs w) put h))
        where
          by : Contains old w ⊎ Contains (v ∷ []) w → Contains near w
          by (inl old_one) = before.only w old_one
          by (inr last) = subst (Contains near) (sym (alone v w last)) (item_in near k v less is)

      every : (w : Version) → Contains (take (k + 1) near) w → ¬ (IsNeverServed c.rules number r (row_of w)) → Contains new w
      every w h served = subst (λ vs. Contains vs w) (sym put) (by (one_more near k v w less h))
        where
          by : Contains (take k near) w ⊎ (w ≡ get_or near k v) → Contains (old ++ v ∷ []) w
          by (inl earlier) = Contains-append_left old (v ∷ []) w (before.every w earlier served)
          by (inr last) = Contains-append_right old (v ∷ []) w (contained w (v ∷ []) (inl (is ∙ sym last)))

  pub one_left : (k : ℕ) (v : Version) (list : List Version) → k < length near → v ≡ get_or near k v → IsNeverServed c.rules number r (row_of v)
      → AreKept k list → AreKept (k + 1) list
  one_left k v list less is never before = record { only = before.only; every = every }
    where
      every : (w : Version) → Contains (take (k + 1) near) w → ¬ (IsNeverServed c.rules number r (row_of w)) → Contains list w
      every w h served = by (one_more near k v w less h)
        where
          by : Contains (take k near) w ⊎ (w ≡ get_or near k v) → Contains list w
          by (inl earlier) = before.every w earlier served
          by (inr last) = absurd (served (subst (λ u. IsNeverServed c.rules number r (row_of u)) (is ∙ sym last) never))

  pub all_kept : (k : ℕ) (list : List Version) → length near ≤ k → FindsAll c (IsNeighbour false c.rules number r) near → AreKept k list
      → FindsAll c (MayBeServed c.rules number r) list
  all_kept k list past found kept = record { are = λ v h. found.are v (kept.only v h); every = every }
    where
      every : (id : VersionId) (l : Lived ℕ) → version c id ≡ Some l → MayBeServed c.rules number r (held_row id l) → HasVersion list id
      every id l is may =
          let (v, h, same) = found.every id l is may.0 in
          let row = lived_is c v id l same (found.are v h) is in (
            v,
            kept.every v (all_taken near k v past h) (λ never. may.1 (subst (IsNeverServed c.rules number r) (λ i. ((same i).cell, (row i).row)) never)),
            same,
          )

-- all that are near are enough
pub all_are_near : (c : Setting ℕ) (number : ℕ) (r : Held) (near : List Version) → FindsAll c (IsNeighbour false c.rules number r) near
    → FindsAll c (MayBeServed c.rules number r) near
all_are_near c number r near found = record { are = found.are; every = λ id l is may. found.every id l is may.0 }

-- Searches among the versions of a cut, one cell after another and one rule after another.
use Rattle.std.proofs.Common.{◌≡◌, ◌∙◌, ◌<◌, ◌≤◌, ◌+◌, ℕ, Bool, true, false, ◌||◌, List, Option, Some, None, ◌⊎◌, inl, inr}
use Rattle.std.proofs.Common.{is_some, Contains, get_or, length, take, refl, sym, ap, subst, arith}
use Rattle.std.specs.Prelude.{Decides}
use Rattle.std.proofs.lemmas.Bool.{cases_lt, false≢true}
use Rattle.std.proofs.lemmas.Bool.Decides.{Decides-like, Decides-or}
use Rattle.clr_rows.specs.declared.cells.CellId.{CellId}
use Rattle.clr_rows.specs.Held.{Held}
use Rattle.clr_needs.specs.declared.needs.VersionId.{VersionId}
use Rattle.clr_needs.specs.Settings.{Setting, Lived, version}
use Rattle.clr_needs.proofs.Reading.{all_taken, none_taken, one_more, read_in}
use Rattle.clr_row_versions.specs.declared.versions.Version.{Version}
use Rattle.clr_row_versions.specs.Versions.{IsNamed, row_and_life, version_of}
use Rattle.clr_foot.proofs.TouchLaws.{lived_is}
use Rattle.clr_reach.specs.declared.aims.Aim.{Aim}
use Rattle.clr_reach.specs.Found.{IsFound, IsFoundUnder, IsNear}
use Rattle.clr_cut_rows.specs.declared.near.NearCells.{NearCells}
use Rattle.clr_cut_rows.specs.Searches.{AreNearCells, HasAmong, HasAt}
use Rattle.clr_cut_rows.proofs.NearLemmas.{sharing_below}

-- tests --------------------------------------------------------------------------------------------

module _ {P : Type 0} where
  pub told_yes : P → Decides true P
  told_yes h = (λ _. h, λ _. refl)

  pub told_no : ¬ P → Decides false P
  told_no h = (λ test. absurd (false≢true test), λ p. absurd (h p))

  pub fails_by : (test : Bool) → test ≡ false → Decides test P → ¬ P
  fails_by test is told p = false≢true (sym is ∙ told.1 p)

-- either of two tests, the second of which is asked where the first fails
module _ {P : Type 0} (old new : Bool) where
  pub first_told : old ≡ true → Decides (old || new) P → Decides old P
  first_told is told = subst (λ b. Decides b P) (sym is) (subst (λ b. Decides (b || new) P) is told)

  pub second_told : old ≡ false → Decides (old || new) P → Decides new P
  second_told is told = subst (λ b. Decides (b || new) P) is told

-- versions -----------------------------------------------------------------------------------------

module _ (P : VersionId → Lived ℕ → Type 0) (c : Setting ℕ) where
  pub none_at : (v : VersionId) → version c v ≡ None → Decides false (HasAt P c v)
  none_at v none = told_no (λ has. let clash : None ≡ Some has.0 = sym none ∙ has.1 in absurd cc)

  pub one_at : (v : VersionId) (w : Version) (test : Bool) → IsNamed c v w → Decides test (P w.id (row_and_life w)) → Decides test (HasAt P c v)
  one_at v w test named told = Decides-like test to from told
    where
      to : P w.id (row_and_life w) → HasAt P c v
      to holds = (row_and_life w, ap (version c) (sym named.0) ∙ named.1, subst (λ u. P u (row_and_life w)) named.0 holds)

      from : HasAt P c v → P w.id (row_and_life w)
      from (l, is, holds) = subst (λ u. P u (row_and_life w)) (sym named.0) (subst (P v) (sym (lived_is c w v l named.0 named.1 is)) holds)

  -- cells one after another
  module _ (fresh : Bool) (cells : List CellId) where
    pub none_to : ¬ (HasAmong P c fresh (take 0 cells))
    none_to (q, h, has) = none_taken cells q h

    pub none_more : (k : ℕ) (d : CellId) (test : Bool) → k < length cells → test ≡ false → Decides test (HasAt P c (version_of fresh (get_or cells k d)))
        → ¬ (HasAmong P c fresh (take k cells)) → ¬ (HasAmong P c fresh (take (k + 1) cells))
    none_more k d test less failed told before (q, h, has) = by (one_more cells k d q less h)
      where
        by : Contains (take k cells) q ⊎ (q ≡ get_or cells k d) → ⊥
        by (inl earlier) = before (q, earlier, has)
        by (inr last) = fails_by test failed told (subst (λ p. HasAt P c (version_of fresh p)) last has)

    pub one_of_all : (k : ℕ) (d : CellId) (test : Bool) → k < length cells → test ≡ true → Decides test (HasAt P c (version_of fresh (get_or cells k d)))
        → Decides true (HasAmong P c fresh cells)
    one_of_all k d test less is told = told_yes (get_or cells k d, read_in cells k d less, told.0 is)

    pub none_of_all : (k : ℕ) → length cells ≤ k → ¬ (HasAmong P c fresh (take k cells)) → Decides false (HasAmong P c fresh cells)
    none_of_all k past none = told_no (λ has. none (has.0, all_taken cells k has.0 past has.1, has.2))

  -- those near a row
  pub near_told : (number : ℕ) (s : Held) (near : NearCells) (old new : Bool) → AreNearCells c number s near
      → Decides old (HasAmong P c false near.old.items) → Decides new (HasAmong P c true near.new.items) → Decides (old || new) (IsNear P c number s)
  near_told number s near old new are told told_too = Decides-like (old || new) to from (Decides-or old new told told_too)
    where
      to : HasAmong P c false near.old.items ⊎ HasAmong P c true near.new.items → IsNear P c number s
      to (inl (q, h, (l, is, holds))) = record { id = version_of false q; lived = l; is = is; holds = holds; shares = are.old.only q l h is }
      to (inr (q, h, (l, is, holds))) = record { id = version_of true q; lived = l; is = is; holds = holds; shares = are.new.only q l h is }

      from : IsNear P c number s → HasAmong P c false near.old.items ⊎ HasAmong P c true near.new.items
      from it = by it.id.fresh refl
        where
          by : (b : Bool) → it.id.fresh ≡ b → HasAmong P c false near.old.items ⊎ HasAmong P c true near.new.items
          by false e =
              let same : version_of false it.id.cell ≡ it.id = λ i. record { cell = it.id.cell; fresh = sym e i } in
              let is : version c (version_of false it.id.cell) ≡ Some it.lived = ap (version c) same ∙ it.is in
              inl (it.id.cell, are.old.every it.id.cell it.lived is it.shares, (it.lived, is, subst (λ v. P v it.lived) (sym same) it.holds))
          by true e =
              let same : version_of true it.id.cell ≡ it.id = λ i. record { cell = it.id.cell; fresh = sym e i } in
              let is : version c (version_of true it.id.cell) ≡ Some it.lived = ap (version c) same ∙ it.is in
              inr (it.id.cell, are.new.every it.id.cell it.lived is it.shares, (it.lived, is, subst (λ v. P v it.lived) (sym same) it.holds))

-- rules one after another --------------------------------------------------------------------------

module _ (aim : Aim) (c : Setting ℕ) (s : Held) where
  -- the row is found under none of the first rules
  abbrev pub NoneUnder : ℕ → Type 0
  NoneUnder count = (number : ℕ) → number < count → ¬ (IsFoundUnder aim c number s)

  found_below : (number : ℕ) → IsFoundUnder aim c number s → number < length c.rules
  found_below number (inl near) = sharing_below c.rules number (near.id.cell, near.lived.row) s near.shares
  found_below number (inr (serves, near)) = sharing_below c.rules number (near.id.cell, near.lived.row) s near.shares

  pub none_first : NoneUnder 0
  none_first number less = absurd (omega (arith, less))

  pub none_next : (k : ℕ) (test : Bool) → test ≡ false → Decides test (IsFoundUnder aim c k s) → NoneUnder k → NoneUnder (k + 1)
  none_next k test failed told before number less it = by (cases_lt number k)
    where
      by : (number < k) ⊎ (k ≤ number) → ⊥
      by (inl earlier) = before number earlier it
      by (inr last) = let same : number ≡ k = omega (arith, less, last) in fails_by test failed told (subst (λ n. IsFoundUnder aim c n s) same it)

  pub none_under_all : (k : ℕ) → length c.rules ≤ k → NoneUnder k → Decides false (IsFound aim c s)
  none_under_all k past none = told_no (λ found. let less : found.0 < length c.rules = found_below found.0 found.1 in
      none found.0 (omega (arith, less, past)) found.1)

  pub found_under : (number : ℕ) (test : Bool) → test ≡ true → Decides test (IsFoundUnder aim c number s) → Decides true (IsFound aim c s)
  found_under number test is told = told_yes (number, told.0 is)

-- choices ------------------------------------------------------------------------------------------

module _ {P Q : Type 0} where
  pub left_told : (test : Bool) → test ≡ true → Decides test P → Decides true (P ⊎ Q)
  left_told test is told = told_yes (inl (told.0 is))

  pub right_told : (test other : Bool) → test ≡ false → Decides test P → Decides other Q → Decides other (P ⊎ Q)
  right_told test other failed told told_too = Decides-like other inr from told_too
    where
      from : P ⊎ Q → Q
      from (inl p) = absurd (fails_by test failed told p)
      from (inr q) = q

  pub right_if_told : (test may other : Bool) → test ≡ false → may ≡ true → Decides test P → Decides other Q → Decides other (P ⊎ ((may ≡ true) × Q))
  right_if_told test may other failed is told told_too = Decides-like other (λ q. inr (is, q)) from told_too
    where
      from : P ⊎ ((may ≡ true) × Q) → Q
      from (inl p) = absurd (fails_by test failed told p)
      from (inr q) = q.1

  pub none_told : (test may : Bool) → test ≡ false → may ≡ false → Decides test P → Decides false (P ⊎ ((may ≡ true) × Q))
  none_told test may failed isnt told = told_no none
    where
      none : P ⊎ ((may ≡ true) × Q) → ⊥
      none (inl p) = fails_by test failed told p
      none (inr q) = false≢true (sym isnt ∙ q.0)

-- changed cells ------------------------------------------------------------------------------------

module _ {P : Type 0} (found changer : Option ℕ) (is : found ≡ changer) where
  pub changed_told : is_some found ≡ true → Decides true (((x : ℕ) × (changer ≡ Some x)) ⊎ P)
  changed_told some = told_yes (inl (by found refl some))
    where
      by : (o : Option ℕ) → found ≡ o → is_some o ≡ true → (x : ℕ) × (changer ≡ Some x)
      by None e test = absurd (false≢true test)
      by (Some x) e test = (x, sym is ∙ e)

  pub unchanged_told : (test : Bool) → is_some found ≡ false → Decides test P → Decides test (((x : ℕ) × (changer ≡ Some x)) ⊎ P)
  unchanged_told test none told = Decides-like test inr from told
    where
      from : ((x : ℕ) × (changer ≡ Some x)) ⊎ P → P
      from (inl (x, e)) = absurd (false≢true (sym none ∙ ap is_some (is ∙ e)))
      from (inr p) = p

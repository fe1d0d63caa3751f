-- The versions of some cells, one cell after another.
use Rattle.std.proofs.Common.{◌≡◌, ◌∙◌, ◌<◌, ◌≤◌, ◌+◌, ℕ, Bool, true, false, List, [], ◌∷◌, ◌++◌, ◌⊎◌, inl, inr, Option, Some, None, Bor, Contains, get_or}
use Rattle.std.proofs.Common.{is_some, length, take}
use Rattle.std.proofs.Common.{refl, sym, ap, subst}
use Rattle.std.proofs.lemmas.List.Elements.{Contains-append_left, Contains-append_right, Contains-append_cases}
use Rattle.std.specs.FinMap as finite
use Rattle.std.specs.Option.{option_copied, option_map}
use Rattle.clr_rows.specs.declared.cells.CellId.{CellId}
use Rattle.clr_rows.specs.Contents.{Changes, Content}
use Rattle.clr_rows.specs.Held.{Held}
use Rattle.clr_rules.specs.declared.rules.Rule.{Rule}
use Rattle.clr_rules.proofs.Elements.{among, contained}
use Rattle.clr_finders.specs.declared.row_spots.RuleSpots.{RuleSpots}
use Rattle.clr_finders.specs.Sharing.{IsSettledFor, Settled, found_cells, row_spots, rule_spots}
use Rattle.clr_row_versions.specs.declared.versions.Version.{Version}
use Rattle.clr_needs.specs.declared.needs.VersionId.{VersionId}
use Rattle.clr_needs.specs.Members.{setting}
use Rattle.clr_needs.specs.Settings.{Setting, Lived, changer, held_row, version}
use Rattle.clr_foot.specs.Touches.{IsInCells, IsLookedUpIn, IsNeighbour, is_looked_up}
use Rattle.clr_row_versions.specs.Versions.{AreAt, Finds, FindsAll, HasVersion, IsAt, IsNamed, row_and_life, row_of, version_of}
use Rattle.clr_foot.specs.NewRows.{AreNewRowsFiled}
use Rattle.clr_needs.proofs.Reading.{all_taken, none_taken, one_more}
use Rattle.clr_needs.proofs.Lives.{old_is}
use Rattle.clr_foot.proofs.SharingLaws.{found_near}

-- what a list with one more version has
one_behind : (old new : List Version) (v w : Version) → new ≡ old ++ v ∷ [] → Contains new w → Contains old w ⊎ (w ≡ v)
one_behind old new v w put h = by (Contains-append_cases old (v ∷ []) w (subst (λ vs. Contains vs w) put h))
  where
    last : Contains (v ∷ []) w → w ≡ v
    last g = go (among w (v ∷ []) g)
      where
        go : (v ≡ w) ⊎ ⊥ → w ≡ v
        go (inl e) = sym e
        go (inr f) = absurd f

    by : Contains old w ⊎ Contains (v ∷ []) w → Contains old w ⊎ (w ≡ v)
    by (inl g) = inl g
    by (inr g) = inr (last g)

module _ (c : Setting ℕ) (fresh : Bool) (cells : List CellId) where
  -- the versions of the first cells are found
  abbrev pub FindsTo : ℕ → List Version → Type 0
  FindsTo k vs = Finds c fresh (IsInCells (take k cells)) vs

  pub none_found : FindsTo 0 []
  none_found = record {
    are = λ v h. absurd (among v [] h);
    alike = λ v h. absurd (among v [] h);
    every = λ q l is h. absurd (none_taken cells q h);
  }

  pub one_found : (k : ℕ) (d : CellId) (v : Version) (old new : List Version) → k < length cells → IsNamed c (version_of fresh (get_or cells k d)) v → new ≡ old
      ++ v ∷ [] → FindsTo k old → FindsTo (k + 1) new
  one_found k d v old new less named put before = record {
    are = λ w h. are w (split w h);
    alike = λ w h. alike w (split w h);
    every = λ q l is h. every q l is (one_more cells k d q less h);
  }
    where
      split : (w : Version) → Contains new w → Contains old w ⊎ (w ≡ v)
      split w h = one_behind old new v w put h

      are : (w : Version) → Contains old w ⊎ (w ≡ v) → IsAt c w
      are w (inl h) = before.are w h
      are w (inr e) = subst (IsAt c) (sym e) named.1

      alike : (w : Version) → Contains old w ⊎ (w ≡ v) → w.id.fresh ≡ fresh
      alike w (inl h) = before.alike w h
      alike w (inr e) = ap (λ u. u.id.fresh) e ∙ ap (λ i. i.fresh) named.0

      still : (id : VersionId) → HasVersion old id → HasVersion new id
      still id (w, h, e) = (w, subst (λ vs. Contains vs w) (sym put) (Contains-append_left old (v ∷ []) w h), e)

      every : (q : CellId) (l : Lived ℕ) → version c (version_of fresh q) ≡ Some l → Contains (take k cells) q ⊎ (q ≡ get_or cells k d)
          → HasVersion new (version_of fresh q)
      every q l is (inl h) = still (version_of fresh q) (before.every q l is h)
      every q l is (inr e) = (
        v,
        subst (λ vs. Contains vs v) (sym put) (Contains-append_right old (v ∷ []) v (contained v (v ∷ []) (inl refl))),
        named.0
            ∙ ap (version_of fresh) (sym e),
      )

  pub not_found : (k : ℕ) (d : CellId) (vs : List Version) → k < length cells → version c (version_of fresh (get_or cells k d)) ≡ None → FindsTo k vs
      → FindsTo (k + 1) vs
  not_found k d vs less none before = record {
    are = before.are;
    alike = before.alike;
    every = λ q l is h. every q l is (one_more cells k d q less h);
  }
    where
      every : (q : CellId) (l : Lived ℕ) → version c (version_of fresh q) ≡ Some l → Contains (take k cells) q ⊎ (q ≡ get_or cells k d)
          → HasVersion vs (version_of fresh q)
      every q l is (inl h) = before.every q l is h
      every q l is (inr e) = let clash : None ≡ Some l = sym none ∙ ap (λ p. version c (version_of fresh p)) (sym e) ∙ is in cc

  pub all_found : (k : ℕ) (vs : List Version) → length cells ≤ k → FindsTo k vs → Finds c fresh (IsInCells cells) vs
  all_found k vs past h = record { are = h.are; alike = h.alike; every = λ q l is among. h.every q l is (all_taken cells k q past among) }

-- the versions of the first cells that are looked up
module _ (c : Setting ℕ) (servers : Bool) (rules : List Rule) (number : ℕ) (fresh : Bool) (cells : List CellId) where
  abbrev pub LookedUpTo : ℕ → List Version → Type 0
  LookedUpTo k vs = Finds c fresh (IsLookedUpIn servers rules number (take k cells)) vs

  pub none_looked_up : LookedUpTo 0 []
  none_looked_up = record {
    are = λ v h. absurd (among v [] h);
    alike = λ v h. absurd (among v [] h);
    every = λ q l is h. absurd (none_taken cells q h.0);
  }

  pub one_looked_up : (k : ℕ) (d : CellId) (v : Version) (old new : List Version) → k < length cells → IsNamed c (version_of fresh (get_or cells k d)) v → new
      ≡ old ++ v ∷ [] → LookedUpTo k old → LookedUpTo (k + 1) new
  one_looked_up k d v old new less named put before = record {
    are = λ w h. are w (split w h);
    alike = λ w h. alike w (split w h);
    every = λ q l is h. every q l is (one_more cells k d q less h.0) h.1;
  }
    where
      split : (w : Version) → Contains new w → Contains old w ⊎ (w ≡ v)
      split w h = one_behind old new v w put h

      are : (w : Version) → Contains old w ⊎ (w ≡ v) → IsAt c w
      are w (inl h) = before.are w h
      are w (inr e) = subst (IsAt c) (sym e) named.1

      alike : (w : Version) → Contains old w ⊎ (w ≡ v) → w.id.fresh ≡ fresh
      alike w (inl h) = before.alike w h
      alike w (inr e) = ap (λ u. u.id.fresh) e ∙ ap (λ i. i.fresh) named.0

      every : (q : CellId) (l : Lived ℕ) → version c (version_of fresh q) ≡ Some l → Contains (take k cells) q ⊎ (q ≡ get_or cells k d)
          → is_looked_up servers rules number q ≡ true → HasVersion new (version_of fresh q)
      every q l is (inl h) up =
          let (w, had, e) = before.every q l is (h, up) in (w, subst (λ vs. Contains vs w) (sym put) (Contains-append_left old (v ∷ []) w had), e)
      every q l is (inr e) up = (
        v,
        subst (λ vs. Contains vs v) (sym put) (Contains-append_right old (v ∷ []) v (contained v (v ∷ []) (inl refl))),
        named.0 ∙ ap (version_of fresh) (sym e),
      )

  pub not_looked_up : (k : ℕ) (d : CellId) (vs : List Version) → k < length cells
      → (is_looked_up servers rules number (get_or cells k d) ≡ true → version c (version_of fresh (get_or cells k d)) ≡ None)
      → LookedUpTo k vs → LookedUpTo (k + 1) vs
  not_looked_up k d vs less none before = record {
    are = before.are;
    alike = before.alike;
    every = λ q l is h. every q l is (one_more cells k d q less h.0) h.1;
  }
    where
      every : (q : CellId) (l : Lived ℕ) → version c (version_of fresh q) ≡ Some l → Contains (take k cells) q ⊎ (q ≡ get_or cells k d)
          → is_looked_up servers rules number q ≡ true → HasVersion vs (version_of fresh q)
      every q l is (inl h) up = before.every q l is (h, up)
      every q l is (inr e) up =
          let there = none (subst (λ p. is_looked_up servers rules number p ≡ true) e up) in
          let clash : None ≡ Some l = sym there ∙ ap (λ p. version c (version_of fresh p)) (sym e) ∙ is in cc

  pub all_looked_up : (k : ℕ) (vs : List Version) → length cells ≤ k → LookedUpTo k vs → Finds c fresh (IsLookedUpIn servers rules number cells) vs
  all_looked_up k vs past h =
      record { are = h.are; alike = h.alike; every = λ q l is among. h.every q l is (all_taken cells k q past among.0, among.1) }

-- what is wanted may be less
pub finds_as : (c : Setting ℕ) (fresh : Bool) (wanted less : Held → Type 0) (vs : List Version) → ((q : CellId) (l : Lived ℕ) → version c (version_of fresh q)
    ≡ Some l → less (q, l.row) → wanted (q, l.row))
    → Finds c fresh wanted vs → Finds c fresh less vs
finds_as c fresh wanted less vs want h = record { are = h.are; alike = h.alike; every = λ q l is w. h.every q l is (want q l is w) }

-- old ones and new ones
pub finds_all : (c : Setting ℕ) (P : Held → Type 0) (old new all : List Version) → all ≡ old ++ new → Finds c false P old → Finds c true P new
    → FindsAll c P all
finds_all c P old new all put found found_too = record { are = are; every = every }
  where
    split : (v : Version) → Contains all v → Contains old v ⊎ Contains new v
    split v h = Contains-append_cases old new v (subst (λ vs. Contains vs v) put h)

    are : AreAt c all
    are v h = by (split v h)
      where
        by : Contains old v ⊎ Contains new v → IsAt c v
        by (inl k) = found.are v k
        by (inr k) = found_too.are v k

    old_in : (id : VersionId) → HasVersion old id → HasVersion all id
    old_in id (w, h, e) = (w, subst (λ vs. Contains vs w) (sym put) (Contains-append_left old new w h), e)

    new_in : (id : VersionId) → HasVersion new id → HasVersion all id
    new_in id (w, h, e) = (w, subst (λ vs. Contains vs w) (sym put) (Contains-append_right old new w h), e)

    every : (v : VersionId) (l : Lived ℕ) → version c v ≡ Some l → P (held_row v l) → HasVersion all v
    every v l is near = by v.fresh refl
      where
        by : (b : Bool) → v.fresh ≡ b → HasVersion all v
        by false e =
            let same : version_of false v.cell ≡ v = λ i. record { cell = v.cell; fresh = sym e i } in
            old_in v (subst (HasVersion old) same (found.every v.cell l (ap (version c) same ∙ is) near))
        by true e =
            let same : version_of true v.cell ≡ v = λ i. record { cell = v.cell; fresh = sym e i } in
            new_in v (subst (HasVersion new) same (found_too.every v.cell l (ap (version c) same ∙ is) near))

-- ---- the versions that a finder finds

module _ (rules : List Rule) (root : Content) (sets : List Changes) (servers : Bool) (number : ℕ) (s : Held) (below : number < length rules) where
  abbrev c : Setting ℕ
  c = setting rules root sets

  old_row : (q : CellId) (l : Lived ℕ) → version c (version_of false q) ≡ Some l → c.root q ≡ Some l.row
  unfolding version
  old_row q l is = (old_is c (changer c q) (c.root q) l is).0

  pub old_cell_found : (settled : Settled) (q : CellId) (l : Lived ℕ) → IsSettledFor settled rules root → version c (version_of false q) ≡ Some l
      → IsNeighbour servers rules number s (q, l.row)
      → Contains (found_cells servers settled number (rule_spots rules number s)) q
  old_cell_found settled q l holds is near =
      found_near servers rules number s q l.row settled below (holds q ∙ ap (option_map (λ row. row_spots rules (q, row))) (old_row q l is)) near

  pub new_cell_found : (settled : Settled) (q : CellId) (l : Lived ℕ) → AreNewRowsFiled settled rules sets → version c (version_of true q) ≡ Some l
      → IsNeighbour servers rules number s (q, l.row)
      → Contains (found_cells servers settled number (rule_spots rules number s)) q
  unfolding version
  new_cell_found settled q l holds is near =
      found_near servers rules number s q l.row settled below (holds q ∙ ap (option_map (λ (m : Lived ℕ). row_spots rules (q, m.row))) is) near

  -- of cells among which those are that a finder finds
  abbrev HasFound : Settled → RuleSpots → List CellId → Type 0
  HasFound settled x cells = (q : CellId) → Contains (found_cells servers settled number x) q → Contains cells q

  pub old_found : (settled : Settled) (x : RuleSpots) (cells : List CellId) (vs : List Version) → IsSettledFor settled rules root →
      x ≡ rule_spots rules number s
      → HasFound settled x cells → Finds c false (IsLookedUpIn servers rules number cells) vs → Finds c false (IsNeighbour servers rules number s) vs
  old_found settled x cells vs holds spots all = finds_as c false (IsLookedUpIn servers rules number cells) (IsNeighbour servers rules number s) vs
      (λ q l is near. (all q (subst (λ y. Contains (found_cells servers settled number y) q) (sym spots) (old_cell_found settled q l holds is near)), near.1))

  pub new_found : (settled : Settled) (x : RuleSpots) (cells : List CellId) (vs : List Version) → AreNewRowsFiled settled rules sets
      → x ≡ rule_spots rules number s
      → HasFound settled x cells → Finds c true (IsLookedUpIn servers rules number cells) vs → Finds c true (IsNeighbour servers rules number s) vs
  new_found settled x cells vs holds spots all = finds_as c true (IsLookedUpIn servers rules number cells) (IsNeighbour servers rules number s) vs
      (λ q l is near. (all q (subst (λ y. Contains (found_cells servers settled number y) q) (sym spots) (new_cell_found settled q l holds is near)), near.1))

-- ---- the spots that a finder keeps of a version

module _ (rules : List Rule) (root : Content) (sets : List Changes) (v : Version) (is : IsAt (setting rules root sets) v) where
  named : (fresh : Bool) → v.id.fresh ≡ fresh → version (setting rules root sets) (version_of fresh v.id.cell) ≡ Some (row_and_life v)
  named fresh e = ap (version (setting rules root sets)) (λ i. record { cell = v.id.cell; fresh = sym e i }) ∙ is

  pub old_spots : (settled : Settled) → IsSettledFor settled rules root → v.id.fresh ≡ false → finite.get settled v.id.cell ≡ Some (row_spots rules (row_of v))
  unfolding version
  old_spots settled holds e = holds v.id.cell ∙ ap (option_map (λ row. row_spots rules (v.id.cell, row)))
      (old_is (setting rules root sets) (changer (setting rules root sets) v.id.cell) ((setting rules root sets).root v.id.cell) (row_and_life v)
      (named false e)).0

  pub new_spots : (settled : Settled) → AreNewRowsFiled settled rules sets → v.id.fresh ≡ true →
      finite.get settled v.id.cell ≡ Some (row_spots rules (row_of v))
  unfolding version
  new_spots settled holds e = holds v.id.cell ∙ ap (option_map (λ (m : Lived ℕ). row_spots rules (v.id.cell, m.row))) (named true e)

-- ---- what a reference in an option refers to

pub copied_some : {X : Type 0} (o : Option (Bor X)) (x : X) → option_copied o ≡ Some x → is_some o ≡ true
copied_some None x e = absurd (cc)
copied_some (Some r) x e = refl

pub copied_is : {X : Type 0} (o : Option (Bor X)) (r : Bor X) (x : X) → option_copied o ≡ Some x → o ≡ Some r → r.now ≡ x
copied_is o r x e is = let same : Some r.now ≡ Some x = sym (ap option_copied is) ∙ e in cc

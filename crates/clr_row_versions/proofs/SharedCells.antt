-- Cells that two members change: the first two of a cell, and the least of all.
use Rattle.std.proofs.Common.{◌≡◌, ◌∙◌, ◌<◌, ◌≤◌, ◌+◌, ℕ, zero, suc, Bool, true, false, cond, List, [], ◌∷◌, Option, Some, None, get_or, is_some, length, inl}
use Rattle.std.proofs.Common.{inr, refl, sym, ap, subst, arith}
use Rattle.std.specs.Prelude.{⊤, slice_get, MatchOption}
use Rattle.std.specs.Cmp.{Equal-is}
use Rattle.std.specs.FinMap as finite
use Rattle.std.specs.FinMap.{contains_key-keys}
use Rattle.std.specs.List.{flat_map}
use Rattle.std.specs.Option.{option_map}
use Rattle.std.specs.Ordering.{eq_by_cmp, is_lt}
use Rattle.std.specs.declared.cmp.Ordering.TheVariants.{Less}
use Rattle.std.proofs.lemmas.Bool.{cases_lt, false≢true}
use Rattle.std.proofs.lemmas.Option.{slice_get-get_or, slice_get_within}
use Rattle.clr_rows.specs.declared.cells.CellId.{CellId}
use Rattle.clr_rows.specs.declared.cells.Change.{Change}
use Rattle.clr_rows.specs.Cells.{cell_cmp}
use Rattle.clr_rows.specs.Contents.{Changes}
use Rattle.clr_rows.proofs.CellOrder.{cell_cmp_exact, cell_cmp_total}
use Rattle.clr_rules.proofs.Elements.{Among, among_left, among_right, not_itself, some_of}
use Rattle.clr_rules.proofs.BrokenLemmas.{lt_is}
use Rattle.clr_row_versions.specs.declared.changers.Changers.{Changers}
use Rattle.clr_needs.specs.declared.shared_cells.SharedCell.{SharedCell}
use Rattle.clr_needs.specs.Members.{AreApart, AreFirstTwo, ChangesCell, IsApart, IsFirstChanger, IsFound, IsLeastShared, after_in, changed_cells}
use Rattle.clr_row_versions.specs.Changers.{AreChangersAt, lesser}

-- ---- one cell

module _ (sets : List Changes) (q : CellId) (end : ℕ) (all : (k : ℕ) → ChangesCell sets q k → k < end) where
  pub none_is_apart : AreChangersAt sets end q None → IsApart sets q
  none_is_apart none j k changes changes_too = absurd (none j (omega arith) (all j changes) changes)

  -- a member that changes the cell is the first one, where none behind it does
  only_first : (c : Changers) → AreChangersAt sets end q (Some c) → c.second ≡ None → (k : ℕ) → ChangesCell sets q k → k ≡ c.first
  only_first c h alone k changes = elim (cases_lt k c.first) [
    | inl before ↦ absurd (h.0.passed k (omega arith) before changes)
    | inr least ↦ elim (cases_lt c.first k) [
      | inl after ↦ absurd (subst (IsFound sets q (c.first + 1) end) alone h.1 k (omega (arith, after)) (all k changes) changes)
      | inr most ↦ omega (arith, least, most)
    ]
  ]

  pub one_is_apart : (c : Changers) → AreChangersAt sets end q (Some c) → c.second ≡ None → IsApart sets q
  one_is_apart c h alone j k changes changes_too = only_first c h alone j changes ∙ sym (only_first c h alone k changes_too)

  pub first_two : (c : Changers) (n : ℕ) → AreChangersAt sets end q (Some c) → c.second ≡ Some n → AreFirstTwo sets q c.first n
  first_two c n h two = by h.0 (subst (IsFound sets q (c.first + 1) end) two h.1)
    where
      by : IsFirstChanger sets q 0 end c.first → IsFirstChanger sets q (c.first + 1) end n → AreFirstTwo sets q c.first n
      by one next = let behind = next.from_on in record {
        ascending = omega (arith, behind);
        first = one.changes;
        second = next.changes;
        no_other = λ k less changes. elim (cases_lt k c.first) [
          | inl before ↦ absurd (one.passed k (omega arith) before changes)
          | inr least ↦ elim (cases_lt c.first k) [
            | inl between ↦ absurd (next.passed k (omega (arith, between)) less changes)
            | inr most ↦ omega (arith, least, most)
          ]
        ];
      }

-- ---- the least of some cells

module _ (sets : List Changes) where
  abbrev AreShared : Option SharedCell → Type 0
  AreShared None = ⊤
  AreShared (Some s) = AreFirstTwo sets s.cell s.first s.second

  -- two members change the cell only if it isn't less than the found one
  abbrev IsJudged : Option SharedCell → CellId → Type 0
  IsJudged None q = IsApart sets q
  IsJudged (Some s) q = cell_cmp q s.cell ≡ Less → IsApart sets q

  -- the least shared cell of those at the positions below a number
  pub record IsLeastBelow (cells : List CellId) (end : ℕ) (found : Option SharedCell) : Type 0 where
    pub shared : AreShared found
    pub judged : (k : ℕ) (q : CellId) → k < end → slice_get cells k ≡ Some q → IsJudged found q

  pub none_yet : (cells : List CellId) → IsLeastBelow cells 0 None
  none_yet cells = record { shared = tt; judged = λ k q less at. absurd (omega (arith, less)) }

  apart_is_judged : (found : Option SharedCell) (q : CellId) → IsApart sets q → IsJudged found q
  apart_is_judged None q apart = apart
  apart_is_judged (Some s) q apart = λ less. apart

  lesser_shared : (found : Option SharedCell) (s : SharedCell) → AreShared found → AreShared (Some s) → AreShared (Some (lesser found s))
  lesser_shared None s h two = two
  lesser_shared (Some t) s h two = by (is_lt (cell_cmp s.cell t.cell))
    where
      by : (b : Bool) → AreShared (Some (cond b s t))
      by true = two
      by false = h

  -- what was judged stays so, since the found cell only gets less
  judged_by_lesser : (found : Option SharedCell) (s : SharedCell) (q : CellId) → IsJudged found q → IsJudged (Some (lesser found s)) q
  judged_by_lesser None s q h = λ less. h
  judged_by_lesser (Some t) s q h = by (is_lt (cell_cmp s.cell t.cell)) refl
    where
      by : (b : Bool) → is_lt (cell_cmp s.cell t.cell) ≡ b → IsJudged (Some (cond b s t)) q
      by true e = λ less. h (cell_cmp_total.trans q s.cell t.cell less (lt_is (cell_cmp s.cell t.cell) e))
      by false e = h

  -- the shared cell itself isn't less than the lesser
  itself_judged : (found : Option SharedCell) (s : SharedCell) → IsJudged (Some (lesser found s)) s.cell
  itself_judged None s = λ less. absurd (not_itself cell_cmp_total s.cell less)
  itself_judged (Some t) s = by (is_lt (cell_cmp s.cell t.cell)) refl
    where
      by : (b : Bool) → is_lt (cell_cmp s.cell t.cell) ≡ b → IsJudged (Some (cond b s t)) s.cell
      by true e = λ less. absurd (not_itself cell_cmp_total s.cell less)
      by false e = λ less. absurd (false≢true (sym e ∙ ap is_lt less))

  one_further : (cells : List CellId) (end : ℕ) (p : CellId) (P : CellId → Type 0) → slice_get cells end ≡ Some p → P p
      → ((k : ℕ) (q : CellId) → k < end → slice_get cells k ≡ Some q → P q) → (k : ℕ) (q : CellId) → k < end + 1 → slice_get cells k ≡ Some q → P q
  one_further cells end p P last here before k q less at = elim (cases_lt k end) [
    | inl below ↦ before k q below at
    | inr most ↦ (let same : end ≡ k = omega (arith, less, most) in
        let one : Some p ≡ Some q = sym last ∙ ap (slice_get cells) same ∙ at in
        let cell : p ≡ q = cc in
        subst P cell here)
  ]

  apart_further : (cells : List CellId) (end : ℕ) (found : Option SharedCell) (p : CellId) → slice_get cells end ≡ Some p → IsApart sets p
      → IsLeastBelow cells end found → IsLeastBelow cells (end + 1) found
  apart_further cells end found p last apart h = record {
    shared = h.shared;
    judged = one_further cells end p (IsJudged found) last (apart_is_judged found p apart) h.judged;
  }

  shared_further : (cells : List CellId) (end : ℕ) (found : Option SharedCell) (s : SharedCell) → slice_get cells end ≡ Some s.cell
      → AreFirstTwo sets s.cell s.first s.second → IsLeastBelow cells end found
      → IsLeastBelow cells (end + 1) (Some (lesser found s))
  shared_further cells end found s last two h = record {
    shared = lesser_shared found s h.shared two;
    judged = one_further cells end s.cell (IsJudged (Some (lesser found s))) last (itself_judged found s) (λ k q less at. judged_by_lesser found s q
        (h.judged k q less at));
  }

  -- the cell that is read at a position
  pub record IsReadAt (cells read : List CellId) (k : ℕ) : Type 0 where
    pub same : read ≡ cells
    pub within : k < length read

  cell_read : (cells read : List CellId) (k : ℕ) (other : CellId) → IsReadAt cells read k → slice_get cells k ≡ Some (get_or read k other)
  cell_read cells read k other is = ap (λ qs. slice_get qs k) (sym is.same) ∙ slice_get-get_or read k other is.within

  -- the first two members of a cell, or none where it is apart
  abbrev pub AreTwoOf : CellId → Option (ℕ × ℕ) → Type 0
  AreTwoOf q two = MatchOption two (IsApart sets q) (λ p. AreFirstTwo sets q p.0 p.1)

  pub apart_step : (cells read : List CellId) (k : ℕ) (other : CellId) (two : Option (ℕ × ℕ)) (found : Option SharedCell) → IsReadAt cells read k
      → AreTwoOf (get_or read k other) two → two ≡ None → IsLeastBelow cells k found → IsLeastBelow cells (k + 1) found
  apart_step cells read k other two found is judges none h =
      apart_further cells k found (get_or read k other) (cell_read cells read k other is) (subst (AreTwoOf (get_or read k other)) none judges) h

  pub shared_step : (cells read : List CellId) (k : ℕ) (other : CellId) (two : Option (ℕ × ℕ)) (m n : ℕ) (found : Option SharedCell) → IsReadAt cells read k
      → AreTwoOf (get_or read k other) two → two ≡ Some (m, n) → IsLeastBelow cells k found
      → IsLeastBelow cells (k + 1) (Some (lesser found (record { cell = get_or read k other; first = m; second = n })))
  shared_step cells read k other two m n found is judges some h =
      shared_further cells k found (record { cell = get_or read k other; first = m; second = n }) (cell_read cells read k other is)
      (subst (AreTwoOf (get_or read k other)) some judges) h

-- ---- the least of all cells

pub changes_mapped : (change : Option Change) → is_some (option_map (λ (e : Change). e.after) change) ≡ is_some change
changes_mapped None = refl
changes_mapped (Some e) = refl

-- each cell that a member changes is listed
-- a cell that a set changes is one of its keys
pub key_among : (s : Changes) (q : CellId) → is_some (after_in s q) ≡ true → Among q (finite.keys s)
key_among s q changes =
    let (k, h, tie) = some_of (eq_by_cmp cell_cmp q) (finite.keys s) (sym (contains_key-keys s q) ∙ sym (changes_mapped (finite.get s q)) ∙ changes) in
    subst (λ z. Among z (finite.keys s)) (sym (cell_cmp_exact q k ((Equal-is (cell_cmp q k)).0 tie))) h

pub changed_is_listed : (sets : List Changes) (k : ℕ) (q : CellId) → ChangesCell sets q k → Among q (changed_cells sets)
unfolding changed_cells
changed_is_listed [] k q changes = absurd (false≢true changes)
changed_is_listed (s ∷ sets) zero q changes = among_left q (finite.keys s) (flat_map (λ (s : Changes). finite.keys s) sets) (key_among s q changes)
changed_is_listed (s ∷ sets) (suc k) q changes = among_right q (finite.keys s) (flat_map (λ (s : Changes). finite.keys s) sets)
    (changed_is_listed sets k q changes)

position_among : (cells : List CellId) (q : CellId) → Among q cells → (k : ℕ) × (slice_get cells k ≡ Some q)
position_among [] q h = absurd h
position_among (p ∷ cells) q (inl e) = (zero, ap Some e)
position_among (p ∷ cells) q (inr h) = let at = position_among cells q h in (suc at.0, at.1)

-- what is the least of the listed cells is the least of all
pub least_of_all : (sets : List Changes) (cells : List CellId) (end : ℕ) (found : Option SharedCell) → cells ≡ changed_cells sets → length cells ≤ end
    → IsLeastBelow sets cells end found
    → MatchOption found (AreApart sets) (IsLeastShared sets)
least_of_all sets cells end found all past h = by found h
  where
    judge : (found : Option SharedCell) → IsLeastBelow sets cells end found → (q : CellId) (j : ℕ) → ChangesCell sets q j → IsJudged sets found q
    judge found h q j changes =
        let at = position_among cells q (subst (Among q) (sym all) (changed_is_listed sets j q changes)) in
        let within = slice_get_within cells at.0 q at.1 in
        h.judged at.0 q (omega (arith, within, past)) at.1

    by : (found : Option SharedCell) → IsLeastBelow sets cells end found → MatchOption found (AreApart sets) (IsLeastShared sets)
    by None h = λ q j k changes changes_too. judge None h q j changes j k changes changes_too
    by (Some s) h = record { two = h.shared; least = λ q less j k changes changes_too. judge (Some s) h q j changes less j k changes changes_too }

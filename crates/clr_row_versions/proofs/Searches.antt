-- Searches for a member that changes a cell: what a search finds is settled by what it says of the positions that it passes.
use Rattle.std.proofs.Common.{◌≡◌, ◌∙◌, ◌<◌, ◌+◌, ℕ, zero, suc, Bool, true, false, cond, List, Option, Some, None, Bor, inl, inr, is_some, length, map, refl}
use Rattle.std.proofs.Common.{sym, ap, subst, arith}
use Rattle.std.specs.Prelude.{slice_get}
use Rattle.std.specs.List.{range_with_len, slice_index_or}
use Rattle.std.specs.Option.{option_map}
use Rattle.std.proofs.lemmas.Bool.{cases_lt, false≢true}
use Rattle.std.proofs.lemmas.Option.{slice_get-map, slice_get_past, slice_get_read}
use Rattle.clr_rows.specs.declared.cells.CellId.{CellId}
use Rattle.clr_rows.specs.Contents.{Changes}
use Rattle.clr_needs.specs.Members.{ChangesCell, IsFound, NoneChanges, after_at, after_of}
use Rattle.clr_needs.specs.Settings.{first_changer}

-- what the borrowed change sets are
abbrev pub sets_of : List (Bor Changes) → List Changes
sets_of refs = map (λ s. s.now) refs

-- the first of some members from a position on that changes the cell
abbrev pub search : List Changes → CellId → ℕ → ℕ → Option ℕ
search sets q from count = first_changer (after_of sets) (range_with_len from count) q

module _ (sets : List Changes) (q : CellId) where
  -- one thing alone can be found
  pub found_once : (from end : ℕ) (x y : Option ℕ) → IsFound sets q from end x → IsFound sets q from end y → x ≡ y
  found_once from end None None f g = refl
  found_once from end None (Some n) f g = absurd (f n g.from_on g.below g.changes)
  found_once from end (Some m) None f g = absurd (g m f.from_on f.below f.changes)
  found_once from end (Some m) (Some n) f g = elim (cases_lt m n) [
    | inl less ↦ absurd (g.passed m f.from_on less f.changes)
    | inr most ↦ elim (cases_lt n m) [ inl more ↦ absurd (f.passed n g.from_on more g.changes) | inr least ↦ ap Some (omega (arith, most, least)) ]
  ]

  no_change_at : (i k : ℕ) → i ≡ k → is_some (after_of sets i q) ≡ false → ChangesCell sets q k → ⊥
  no_change_at i k same none changes = false≢true (sym none ∙ ap (λ j. is_some (after_of sets j q)) same ∙ changes)

  -- one more position before, and one more behind
  none_before : (from end : ℕ) → is_some (after_of sets from q) ≡ false → NoneChanges sets q (from + 1) end → NoneChanges sets q from end
  none_before from end none more k low high changes = elim (cases_lt from k) [
    | inl above ↦ more k (omega (arith, above)) high changes
    | inr here ↦ no_change_at from k (omega (arith, low, here)) none changes
  ]

  pub none_behind : (from k : ℕ) → NoneChanges sets q from k → is_some (after_of sets k q) ≡ false → NoneChanges sets q from (k + 1)
  none_behind from k none here j low high changes = elim (cases_lt j k) [
    | inl below ↦ none j low below changes
    | inr last ↦ no_change_at k j (omega (arith, high, last)) here changes
  ]

  found_before : (from end : ℕ) (x : Option ℕ) → is_some (after_of sets from q) ≡ false → IsFound sets q (from + 1) end x → IsFound sets q from end x
  found_before from end None none h = none_before from end none h
  found_before from end (Some m) none h =
      record { from_on = (let low = h.from_on in omega (arith, low)); below = h.below; changes = h.changes; passed = none_before from m none h.passed }

  pub search_finds : (from count : ℕ) → IsFound sets q from (from + count) (search sets q from count)
  unfolding first_changer
  search_finds from zero = λ k low high changes. absurd (omega (arith, low, high))
  search_finds from (suc count) = by (is_some (after_of sets from q)) refl (search_finds (from + 1) count)
    where
      by : (b : Bool) → is_some (after_of sets from q) ≡ b → IsFound sets q (from + 1) ((from + 1) + count) (search sets q (from + 1) count)
          → IsFound sets q from (from + suc count) (cond b (Some from) (search sets q (from + 1) count))
      by true changes more = record {
        from_on = omega arith;
        below = omega arith;
        changes = changes;
        passed = λ k low high h. absurd (omega (arith, low, high));
      }
      by false none more =
          let end : (from + 1) + count ≡ from + suc count = omega arith in
          subst (λ e. IsFound sets q from e (search sets q (from + 1) count)) end (found_before from ((from + 1) + count) (search sets q (from + 1) count) none
          more)

  -- what is found is what the search gives, and what it gives is found
  pub found_is : (from count : ℕ) (x : Option ℕ) → IsFound sets q from (from + count) x → x ≡ search sets q from count
  found_is from count x h = found_once from (from + count) x (search sets q from count) h (search_finds from count)

-- the set of a member that is read by its position
pub set_at : (refs : List (Bor Changes)) (k : ℕ) (ref : Bor Changes) → k < length refs → ref ≡ slice_index_or refs k ref → slice_get (sets_of refs) k
    ≡ Some ref.now
set_at refs k ref less read = slice_get-map (λ (s : Bor Changes). s.now) refs k
    ∙ ap (option_map (λ (s : Bor Changes). s.now)) (slice_get_read refs (length refs) k ref refl less read)

-- only members that are there change cells
pub changer_below : (sets : List Changes) (q : CellId) (k : ℕ) → ChangesCell sets q k → k < length sets
changer_below sets q k changes = elim (cases_lt k (length sets)) [
  | inl below ↦ below
  | inr past ↦ absurd (false≢true (ap (λ s. is_some (after_at s q)) (sym (slice_get_past sets k past)) ∙ changes))
]

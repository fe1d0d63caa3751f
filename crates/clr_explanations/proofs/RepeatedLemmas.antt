-- Cells that stand twice in a list, as they are found and told.
use Rattle.std.proofs.Common.{◌≡◌, ℕ, ◌<◌, ◌≤◌, ℤ, List, [], ◌++◌, codes, length, string_bytes, Bool, true, false, ◌&&◌, Option, Some, None, inl, inr}
use Rattle.std.proofs.Common.{ap, refl, sym}
use Rattle.std.specs.Prelude.{Decides, MatchOption}
use Rattle.serde_json.specs.Data.{Data}
use Rattle.clr_faults.specs.declared.spots.FaultyItem.{FaultyItem}
use Rattle.clr_text_positions.specs.declared.paths.PathStep.{PathStep}
use Rattle.clr_item_explanations.specs.declared.slips.Slip.{Slip}
use Rattle.clr_item_explanations.specs.Slips.{said}
use Rattle.clr_item_explanations.proofs.TellingLemmas.{plain_told}
use Rattle.clr_explanations.specs.Items.{item_beside, place_in_list}
use Rattle.clr_explanations.specs.Places.{path_text, steps_to}
use Rattle.clr_explanations.specs.RepeatedCells.{IsAloneWithCell, IsFirstOf, IsFirstWithCell, IsPlaceInWords, NoneBefore, TellsFirst, TellsRepeatedCell}
use Rattle.clr_explanations.specs.RepeatedCells.{cell_at, place_words_at}

-- the first item with a cell -----------------------------------------------------------------------

one_cell : {found : Option (List ℕ × ℤ)} {one other : List ℕ × ℤ} → Some one ≡ found → found ≡ Some other → one ≡ other
one_cell is same = cc

-- a cell is another where its table or its key is
pub same_cell : (found : Option (List ℕ × ℤ)) (table other : List ℕ) (key number : ℤ) (of_table of_key : Bool) → Some (other, number) ≡ found
    → Decides of_table (other ≡ table) → Decides of_key (number ≡ key) → Decides (of_table && of_key) (found ≡ Some (table, key))
same_cell found table other key number true true is tables keys = let one = tables.0 refl in let two = keys.0 refl in (λ yes. cc, λ same. refl)
same_cell found table other key number true false is tables keys = (λ yes. absurd cc, λ same. keys.1 (ap (λ (cell : List ℕ × ℤ). cell.1) (one_cell is same)))
same_cell found table other key number false of_key is tables keys =
    (λ yes. absurd cc, λ same. absurd (let no = tables.1 (ap (λ (cell : List ℕ × ℤ). cell.0) (one_cell is same)) in cc))

pub other_cell : (found : Option (List ℕ × ℤ)) (cell : List ℕ × ℤ) → None ≡ found → Decides false (found ≡ Some cell)
other_cell found cell is = (λ yes. absurd cc, λ same. absurd cc)

pub found_first : (d : Data) (at : FaultyItem) (cell : List ℕ × ℤ) (place : ℕ) (has : Bool) → place < place_in_list at
    → Decides has (cell_at (item_beside at place) d ≡ Some cell) → has ≡ true → NoneBefore d at cell place → IsFirstOf d at cell place
found_first d at cell place has earlier tested is none = record { earlier = earlier; there = tested.0 is; none = none }

pub first_told : (d : Data) (at : FaultyItem) (cell : List ℕ × ℤ) (found : Option ℕ) → Some cell ≡ cell_at at d
    → MatchOption found (NoneBefore d at cell (place_in_list at)) (IsFirstOf d at cell)
    → MatchOption found (IsAloneWithCell d at) (IsFirstWithCell d at)
first_told d at cell None is none = λ other again. let same : other ≡ cell = cc in rw same none
first_told d at cell (Some first) is found = (cell, sym is, found)

pub no_cell_told : (d : Data) (at : FaultyItem) → None ≡ cell_at at d → IsAloneWithCell d at
no_cell_told d at is = λ cell again. absurd cc

-- in words -----------------------------------------------------------------------------------------

pub place_found : (text : List ℕ) (steps : List PathStep) (offset : ℕ) (path words : List ℕ) → offset ≤ length text → path ≡ path_text steps
    → words ≡ place_words_at text offset path → IsPlaceInWords text steps words
place_found text steps offset path words within is told = inr (offset, within, rw (← is) told)

pub path_alone : (text : List ℕ) (steps : List PathStep) (words : List ℕ) → words ≡ path_text steps → IsPlaceInWords text steps words
path_alone text steps words is = inl is

pub first_in_words : (text : List ℕ) (first : FaultyItem) (place : List ℕ) (slip : Slip) → IsPlaceInWords text (steps_to first) place
    → slip.steps.items ≡ [] → string_bytes slip.sentence ≡ codes "the cell stands twice in its list; first at " ++ place → slip.hint ≡ None
    → TellsFirst text first (said slip)
first_in_words text first place slip is at told none = (place, is, plain_told [] _ slip at told none)

pub with_first : (text : List ℕ) (d : Data) (at : FaultyItem) (first : ℕ) (slip : Slip) → IsFirstWithCell d at first
    → TellsFirst text (item_beside at first) (said slip) → TellsRepeatedCell text d at (said slip)
with_first text d at first slip is told = inl (first, is, told)

pub without_first : (text : List ℕ) (d : Data) (at : FaultyItem) (slip : Slip) → IsAloneWithCell d at → slip.steps.items ≡ []
    → string_bytes slip.sentence ≡ codes "the cell stands twice in its list" → slip.hint ≡ None → TellsRepeatedCell text d at (said slip)
without_first text d at slip alone steps told none = inr (alone, plain_told [] _ slip steps told none)

-- Reading a script's steps one after another, as a loop does.
use Rattle.std.proofs.Common.{◌≡◌, ℕ, zero, suc, ◌+◌, ◌-◌, ◌≤◌, ◌<◌, true, List, [], ◌∷◌, ◌++◌, map, length, min, get_or, take, drop, Result, Ok, refl, sym, ap}
use Rattle.std.proofs.Common.{◌∙◌, arith, add-one}
use Rattle.std.specs.Prelude.{nat_le}
use Rattle.std.proofs.Math.Seq.{drop-cons}
use Rattle.std.proofs.lemmas.List.{append-nil, drop_all, take-map, take_min, take_all, length-drop, length-map}
use borrow.Author.Tests.{le-leb}
use Rattle.csv.specs.Records.{Row, fields_of}
use Rattle.clr_rows.specs.declared.tables.TableDef.{TableDef}
use Rattle.clr_change.specs.declared.edits.Edit.{Edit}
use Rattle.clr_steps.specs.declared.commands.Command.TheVariants.{Apply}
use Rattle.clr_scripts.specs.declared.faults.RecordFault.{RecordFault}
use Rattle.clr_scripts.specs.declared.steps.Step.{Step}
use Rattle.clr_scripts.specs.declared.steps.Step.TheVariants.{Act}
use Rattle.clr_readings.specs.Readings.{◌>>=◌, FailsAt}
use Rattle.clr_readings.proofs.FaultTurns.{passes_at}
use Rattle.clr_records.specs.Records.{field_of}
use Rattle.clr_scripts.specs.Records.{record_lacks_memory}
use Rattle.clr_scripts.specs.Edits.{edits_from}
use Rattle.clr_scripts.specs.Scripts.{apply_of, edit_count, edits_in, step_of, steps_from}
use Rattle.clr_readings.proofs.Fronts.{regroup, with_front}

-- the edits of an `apply` are those of the records that are there
own : (count : ℕ) (rows : List Row) → map fields_of (take (min count (length rows)) rows) ≡ take count (map fields_of rows)
own count rows = rw (take_min count rows) (sym (take-map fields_of count rows))

pub apply_stops : (tables : List TableDef) (n : ℕ) (fields : List (List ℕ)) (rows : List Row) (count m : ℕ) (e : RecordFault) → edit_count fields ≡ Ok count
    → FailsAt record_lacks_memory m e (edits_from tables (n + 1) (map fields_of (take (min count (length rows)) rows)))
    → FailsAt record_lacks_memory m e (apply_of tables n fields (map fields_of rows))
unfolding apply_of
apply_stops tables n fields rows count m e is h =
    passes_at record_lacks_memory m e (edits_from tables (n + 1) (map fields_of (take (min count (length rows)) rows)))
    (apply_of tables n fields (map fields_of rows)) (λ k. rw (is, ← own count rows, k) refl) h

pub apply_whole : (tables : List TableDef) (n : ℕ) (fields : List (List ℕ)) (rows : List Row) (count : ℕ) (edits : List Edit) → edit_count fields ≡ Ok count
    → count ≤ length rows
    → edits_from tables (n + 1) (map fields_of (take (min count (length rows)) rows)) ≡ Ok edits → apply_of tables n fields (map fields_of rows)
    ≡ Ok (Act (Apply (field_of fields 1) edits))
unfolding apply_of
apply_whole tables n fields rows count edits is le h =
    let there : nat_le count (length (map fields_of rows)) ≡ true = le-leb count _ (omega (arith, length-map rows fields_of)) in
    rw (is, ← own count rows, h, there) refl

-- the records behind one
pub behind : (rows : List Row) (i : ℕ) → take (length rows - (i + 1)) (drop (i + 1) rows) ≡ drop (i + 1) rows
behind rows i = take_all _ (drop (i + 1) rows) (omega (arith, length-drop (i + 1) rows))

skips : (tables : List TableDef) (k n : ℕ) (rows : List Row) (i : ℕ) (r : Row) → 0 < k → i < length rows → r ≡ get_or rows i r
    → steps_from tables k n (map fields_of (drop i rows)) ≡ steps_from tables (k - 1) (n + 1) (map fields_of (drop (i + 1) rows))
unfolding steps_from
skips tables zero n rows i r more lt is = absurd (omega arith)
skips tables (suc k) n rows i r more lt is =
    let less : suc k - 1 ≡ k = omega arith in
    rw (less, add-one i, drop-cons rows i r) refl

-- a record that is the last step's own is passed over
pub passed_over : (tables : List TableDef) (front : List Step) (k n : ℕ) (rows : List Row) (i : ℕ) (r : Row) (total : Result (List Step) (ℕ × RecordFault))
    → 0 < k → i < length rows → r ≡ get_or rows i r
    → with_front front (steps_from tables k n (map fields_of (drop i rows))) ≡ total
    → with_front front (steps_from tables (k - 1) (n + 1) (map fields_of (drop (i + 1) rows))) ≡ total
passed_over tables front k n rows i r total more lt is so_far = rw (← skips tables k n rows i r more lt is) so_far

begun : (tables : List TableDef) (n : ℕ) (rows : List Row) (i : ℕ) (r : Row) → i < length rows → r ≡ get_or rows i r
    → steps_from tables 0 n (map fields_of (drop i rows))
    ≡ (step_of tables n (fields_of r) (map fields_of (drop (i + 1) rows)) >>= λ step. steps_from tables (edits_in step) (n + 1)
    (map fields_of (drop (i + 1) rows)) >>= λ others. Ok (step ∷ others))
unfolding steps_from
begun tables n rows i r lt is = rw (add-one i, drop-cons rows i r) (rw (← is) refl)

-- one more step is read
pub one_step : (tables : List TableDef) (front : List Step) (n : ℕ) (rows : List Row) (i : ℕ) (r : Row) (step : Step) (total : Result (List Step) (ℕ
    × RecordFault)) → i < length rows → r ≡ get_or rows i r → step_of tables n (fields_of r) (map fields_of (drop (i + 1) rows)) ≡ Ok step
    → with_front front (steps_from tables 0 n (map fields_of (drop i rows))) ≡ total
    → with_front (front ++ step ∷ []) (steps_from tables (edits_in step) (n + 1) (map fields_of (drop (i + 1) rows))) ≡ total
one_step tables front n rows i r step total lt is h so_far = sym (regroup front step _) ∙ (sym (rw (begun tables n rows i r lt is, h) refl) ∙ so_far)

-- the fault of a step is that of the whole
pub step_stops : (tables : List TableDef) (front : List Step) (n : ℕ) (rows : List Row) (i : ℕ) (r : Row) (m : ℕ) (e : RecordFault)
    (total : Result (List Step) (ℕ × RecordFault)) → i < length rows → r ≡ get_or rows i r
    → FailsAt record_lacks_memory m e (step_of tables n (fields_of r) (map fields_of (drop (i + 1) rows)))
    → with_front front (steps_from tables 0 n (map fields_of (drop i rows))) ≡ total → FailsAt record_lacks_memory m e total
step_stops tables front n rows i r m e total lt is h so_far =
    passes_at record_lacks_memory m e (step_of tables n (fields_of r) (map fields_of (drop (i + 1) rows))) total
    (λ k. sym so_far ∙ rw (begun tables n rows i r lt is, k) refl) h

-- no record is left
pub whole_script : (tables : List TableDef) (front : List Step) (k n : ℕ) (rows : List Row) (i : ℕ) (total : Result (List Step) (ℕ × RecordFault))
    → length rows ≤ i
    → with_front front (steps_from tables k n (map fields_of (drop i rows))) ≡ total → total ≡ Ok front
unfolding steps_from
whole_script tables front zero n rows i total le so_far = sym so_far ∙ rw (drop_all i rows le) (ap (λ ys. Ok ys) (append-nil front))
whole_script tables front (suc k) n rows i total le so_far = sym so_far ∙ rw (drop_all i rows le) (ap (λ ys. Ok ys) (append-nil front))

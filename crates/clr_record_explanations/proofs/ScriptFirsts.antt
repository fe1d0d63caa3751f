-- The fault that a script's reading tells is that of the first record whose own reading answers it.
use Rattle.std.proofs.Common.{◌≡◌, ℕ, zero, suc, ◌+◌, ◌-◌, ◌<◌, ◌≤◌, ◌⊎◌, inl, inr, Bool, true, false, cond, List, [], ◌∷◌, length, take, Option, Some, None}
use Rattle.std.proofs.Common.{Result, Ok, Err, map, refl, sym, ap, subst, ◌∙◌, arith}
use Rattle.std.specs.Prelude.{nat_le, slice_get}
use Rattle.std.proofs.lemmas.Bool.{le-ltb, leb-false, leb-true, lt-ltb}
use Rattle.std.proofs.lemmas.List.{length-map}
use Rattle.std.proofs.lemmas.Option.{get_or_from_slice_get, slice_get_within}
use Rattle.csv.specs.Records.{Row, fields_of}
use Rattle.clr_rows.specs.declared.tables.TableDef.{TableDef}
use Rattle.clr_change.specs.declared.edits.Edit.{Edit}
use Rattle.clr_steps.specs.declared.commands.Command.TheVariants.{Apply}
use Rattle.clr_readings.specs.Readings.{◌>>=◌, or_fault}
use Rattle.clr_records.specs.Records.{at_record, field_of, in_turn, records_in}
use Rattle.clr_scripts.specs.declared.faults.RecordFault.{RecordFault}
use Rattle.clr_scripts.specs.declared.faults.RecordFault.TheVariants.{FieldCount, NotCsv}
use Rattle.clr_scripts.specs.declared.steps.Step.{Step}
use Rattle.clr_scripts.specs.declared.steps.Step.TheVariants.{Act}
use Rattle.clr_scripts.specs.Edits.{edit_of, edits_from}
use Rattle.clr_scripts.specs.Scripts.{apply_of, edit_count, edits_in, plain_step_of, script_in_text, step_of, steps_from}
use Rattle.clr_record_explanations.specs.declared.roles.Role.{Role}
use Rattle.clr_record_explanations.specs.declared.roles.Role.TheVariants as role
use Rattle.clr_record_explanations.specs.FirstFaults.{RecordFields, IsFirstFault, readable}
use Rattle.clr_record_explanations.specs.ScriptFaults.{IsFaultAs, IsFaultOfScript, ScriptFaultLaw, edits_asked, edits_left, is_apply, reads_as, role_in}
use Rattle.clr_record_explanations.proofs.PlainSteps.{plain_has_none}
use Rattle.clr_record_explanations.proofs.Firsts.{all_later, at_once, fault_of_first, later, same_fault, within}

-- records of which the first k are edits ----------------------------------------------------------

abbrev pub reads_from : List TableDef → ℕ → List RecordFields → RecordFields → Result (Unit {0}) RecordFault
reads_from tables k before fields = reads_as tables (edits_left before k) fields

abbrev AllRead : List TableDef → ℕ → List RecordFields → Type 0
AllRead tables k rows = (j : ℕ) (x : RecordFields) → slice_get rows j ≡ Some x → reads_from tables k (take j rows) x ≡ Ok tt

pub record IsShortFrom (tables : List TableDef) (k : ℕ) (rows : List RecordFields) (at : ℕ) : Type 0 where
  pub there : (fields : RecordFields) × (slice_get rows at ≡ Some fields) × (length rows < at + 1 + edits_asked fields)
  pub step : edits_left (take at rows) k ≡ 0
  pub others : AllRead tables k rows

abbrev pub IsTold : List TableDef → ℕ → List RecordFields → ℕ → RecordFault → Type 0
IsTold tables k rows at e = IsFirstFault (reads_from tables k) rows at e ⊎ ((e ≡ FieldCount) × IsShortFrom tables k rows at)

-- there are k records, and each is an edit that can be read
abbrev EditsRead : List TableDef → List RecordFields → ℕ → Type 0
EditsRead tables rows zero = Unit {0}
EditsRead tables [] (suc k) = ⊥
EditsRead tables (r ∷ rest) (suc k) = (readable (edit_of tables r) ≡ Ok tt) × EditsRead tables rest k

-- behind a record that can be read
behind : (tables : List TableDef) (k j : ℕ) (r : RecordFields) (rest : List RecordFields) (at : ℕ) (e : RecordFault) → reads_as tables k r ≡ Ok tt →
    ((before : List
    RecordFields) → edits_left (r ∷ before) k ≡ edits_left before j)
    → IsTold tables j rest at e → IsTold tables k (r ∷ rest) (suc at) e
behind tables k j r rest at e ok next (inl first) = inl (later (reads_from tables k) (reads_from tables j) r rest at e ok (λ before x. ap (λ i. reads_as
    tables i x) (next before)) first)
behind tables k j r rest at e ok next (inr short) =
    let there = short.1.there in
    inr (
      short.0,
      record {
        there = (there.0, there.1, omega (arith, there.2));
        step = next (take at rest) ∙ short.1.step;
        others = all_later (reads_from tables k) (reads_from tables j) r rest ok (λ before x. ap (λ i. reads_as tables i x) (next before)) short.1.others;
      },
    )

-- edits of an `apply` -----------------------------------------------------------------------------

-- the fault of an edit is its own
edits_fault : (tables : List TableDef) (rows : List RecordFields) (count n m : ℕ) (e : RecordFault) → edits_from tables n (take count rows) ≡ Err (m, e)
    → (at : ℕ) × (m ≡ n + at) × IsFirstFault (reads_from tables count) rows at e
unfolding in_turn
edits_fault tables rows zero n m e is = absurd cc
edits_fault tables [] (suc count) n m e is = absurd cc
edits_fault tables (r ∷ rest) (suc count) n m e is = by (edits_fault tables rest count (n + 1) m e) (edit_of tables r) refl is
  where
    by : (edits_from tables (n + 1) (take count rest) ≡ Err (m, e) → (at : ℕ) × (m ≡ n + 1 + at) × IsFirstFault (reads_from tables count) rest at e)
        → (x : Result Edit RecordFault) → edit_of tables r ≡ x → (at_record n x >>= λ edit. edits_from tables (n + 1) (take count rest) >>= λ edits. Ok (edit
        ∷ edits)) ≡ Err (m, e)
        → (at : ℕ) × (m ≡ n + at) × IsFirstFault (reads_from tables (suc count)) (r ∷ rest) at e
    by again (Err f) was failed =
        let same = same_fault (n, f) (m, e) failed in
        (0, omega (arith, same.0), at_once (reads_from tables (suc count)) r rest e (rw (was, same.1) refl))
    by again (Ok edit) was failed =
        let found = again (fault_of_first _ (λ edits. edit ∷ edits) (m, e) failed) in (
          suc (found.0),
          omega (arith, found.1),
          later (reads_from tables (suc count)) (reads_from tables count) r rest found.0 e (rw was refl) (λ before x.
              refl) found.2,
        )

-- edits that can be read, as many as there are records or as are asked for
edits_read : (tables : List TableDef) (rows : List RecordFields) (count n : ℕ) (edits : List Edit) → edits_from tables n (take count rows) ≡ Ok edits → count ≤
    length rows → EditsRead tables rows count × (length edits ≡ count)
unfolding in_turn
edits_read tables rows zero n edits is le = let none : [] ≡ edits = cc in (tt, rw (← none) refl)
edits_read tables [] (suc count) n edits is le = absurd (omega (arith, le))
edits_read tables (r ∷ rest) (suc count) n edits is le = by (λ more were. edits_read tables rest count (n + 1) more were (omega (arith, le))) (edit_of tables
    r) refl (edits_from tables (n + 1) (take count rest)) refl is
  where
    by : ((more : List Edit) → edits_from tables (n + 1) (take count rest) ≡ Ok more → EditsRead tables rest count × (length more ≡ count)) → (x : Result
        Edit RecordFault) → edit_of tables r ≡ x → (y : Result (List Edit) (ℕ × RecordFault)) → edits_from tables (n + 1) (take count rest) ≡ y
        → (at_record n x >>= λ edit. y >>= λ more. Ok (edit ∷ more)) ≡ Ok edits → EditsRead tables (r ∷ rest) (suc count) × (length edits ≡ suc count)
    by again (Err f) was y were so = absurd cc
    by again (Ok edit) was (Err f) were so = absurd cc
    by again (Ok edit) was (Ok more) were so =
        let all : edit ∷ more ≡ edits = cc in
        let others = again more were in
        ((rw was refl, others.0), rw (← all) (ap (λ k. suc k) others.1))

all_edits_read : (tables : List TableDef) (rows : List RecordFields) (count n : ℕ) (edits : List Edit) → edits_from tables n (take count rows) ≡ Ok edits →
    length
    rows ≤ count → AllRead tables count rows
unfolding in_turn
all_edits_read tables [] count n edits is le = λ j x found. absurd cc
all_edits_read tables (r ∷ rest) zero n edits is le = absurd (omega (arith, le))
all_edits_read tables (r ∷ rest) (suc count) n edits is le =
    by (λ more were. all_edits_read tables rest count (n + 1) more were (omega (arith, le))) (edit_of tables r) refl (edits_from tables (n + 1) (take count
    rest)) refl is
  where
    by : ((more : List Edit) → edits_from tables (n + 1) (take count rest) ≡ Ok more → AllRead tables count rest) → (x : Result Edit RecordFault) → edit_of
        tables r ≡ x
        → (y : Result (List Edit) (ℕ × RecordFault)) → edits_from tables (n + 1) (take count rest) ≡ y → (at_record n x >>= λ edit. y >>= λ more. Ok (edit ∷
        more)) ≡ Ok edits → AllRead tables (suc count) (r ∷ rest)
    by again (Err f) was y were so = absurd cc
    by again (Ok edit) was (Err f) were so = absurd cc
    by again (Ok edit) was (Ok more) were so = all_later (reads_from tables (suc count)) (reads_from tables count) r rest (rw was refl) (λ before x. refl)
        (again more were)

-- an `apply` --------------------------------------------------------------------------------------

-- an `apply` of edits that are read, where there are enough
abbrev applied : Bool → ℕ → RecordFields → List Edit → Result Step (ℕ × RecordFault)
applied b n r edits = cond {A = Result Step (ℕ × RecordFault)} b (Ok (Act (Apply (field_of r 1) edits))) (Err (n, FieldCount))

apply_fault : (tables : List TableDef) (n : ℕ) (r : RecordFields) (rest : List RecordFields) (m : ℕ) (e : RecordFault) → is_apply r ≡ true →
    apply_of tables n r rest ≡
    Err (m, e) → (at : ℕ) × (m ≡ n + at) × IsTold tables 0 (r ∷ rest) at e
unfolding apply_of
apply_fault tables n r rest m e word is = by (edit_count r) refl is
  where
    by : (x : Result ℕ RecordFault) → edit_count r ≡ x
        → (at_record n x >>= λ count. edits_from tables (n + 1) (take count rest) >>= λ edits. applied (nat_le count (length rest)) n r edits) ≡ Err (m, e)
        → (at : ℕ) × (m ≡ n + at) × IsTold tables 0 (r ∷ rest) at e
    by (Err f) was failed =
        let same = same_fault (n, f) (m, e) failed in
        (0, omega (arith, same.0), inl (at_once (reads_from tables 0) r rest e (rw (word, was, same.1) refl)))
    by (Ok count) was failed = edited (edits_from tables (n + 1) (take count rest)) refl failed
      where
        ok : reads_as tables 0 r ≡ Ok tt
        ok = rw (word, was) refl

        asked : edits_asked r ≡ count
        asked = rw (word, was) refl

        edited : (y : Result (List Edit) (ℕ × RecordFault)) → edits_from tables (n + 1) (take count rest) ≡ y
            → (y >>= λ edits. applied (nat_le count (length rest)) n r edits) ≡ Err (m, e) → (at : ℕ) × (m ≡ n + at) × IsTold tables 0 (r ∷ rest) at e
        edited (Err f) were failed =
            let same : f ≡ (m, e) = cc in
            let found = edits_fault tables rest count (n + 1) m e (rw same at were) in
            (suc (found.0), omega (arith, found.1), behind tables 0 count r rest found.0 e ok (λ before. ap (λ k. edits_left before k) asked) (inl found.2))
        edited (Ok edits) were failed = short (nat_le count (length rest)) refl failed
          where
            short : (b : Bool) → nat_le count (length rest) ≡ b → applied b n r edits ≡ Err (m, e) → (at : ℕ) × (m ≡ n + at) × IsTold tables 0 (r ∷ rest) at e
            short true enough failed = absurd cc
            short false few failed =
                let same = same_fault (n, FieldCount) (m, e) failed in
                let lt : length rest < count = leb-false count (length rest) few in
                let all = all_later (reads_from tables 0) (reads_from tables count) r rest ok (λ before x. ap (λ k. reads_as tables (edits_left before k) x)
                asked) (all_edits_read tables rest count (n + 1) edits were (omega (arith, lt))) in
                (0, omega (arith, same.0), inr (sym same.1, record { there = (r, refl, omega (arith, asked, lt)); step = refl; others = all }))

-- what is known of a record that is read as a step
record IsDone (tables : List TableDef) (r : RecordFields) (rest : List RecordFields) (step : Step) : Type 0 where
  pub asked : edits_asked r ≡ edits_in step
  pub read : EditsRead tables rest (edits_in step)
  pub ok : reads_as tables 0 r ≡ Ok tt

apply_done : (tables : List TableDef) (n : ℕ) (r : RecordFields) (rest : List RecordFields) (step : Step) → is_apply r ≡ true →
    apply_of tables n r rest ≡ Ok step →
    IsDone tables r rest step
unfolding apply_of
apply_done tables n r rest step word is = by (edit_count r) refl is
  where
    by : (x : Result ℕ RecordFault) → edit_count r ≡ x
        → (at_record n x >>= λ count. edits_from tables (n + 1) (take count rest) >>= λ edits. applied (nat_le count (length rest)) n r edits) ≡ Ok step →
        IsDone tables r rest step
    by (Err f) was so = absurd cc
    by (Ok count) was so = edited (edits_from tables (n + 1) (take count rest)) refl (nat_le count (length rest)) refl so
      where
        edited : (y : Result (List Edit) (ℕ × RecordFault)) → edits_from tables (n + 1) (take count rest) ≡ y → (b : Bool) → nat_le count (length rest) ≡ b
            → (y >>= λ edits. applied b n r edits) ≡ Ok step → IsDone tables r rest step
        edited (Err f) were b le so = absurd cc
        edited (Ok edits) were false le so = absurd cc
        edited (Ok edits) were true le so =
            let same : Act (Apply (field_of r 1) edits) ≡ step = cc in
            let there = edits_read tables rest count (n + 1) edits were (leb-true count (length rest) le) in
            rw (← same) (record { asked = rw (word, was) (sym there.1); read = rw there.1 there.0; ok = rw (word, was) refl })

-- a step ------------------------------------------------------------------------------------------

step_fault : (tables : List TableDef) (n : ℕ) (r : RecordFields) (rest : List RecordFields) (m : ℕ) (e : RecordFault) → step_of tables n r rest ≡ Err (m, e) →
    (at : ℕ) ×
    (m ≡ n + at) × IsTold tables 0 (r ∷ rest) at e
unfolding step_of
step_fault tables n r rest m e is = by (is_apply r) refl is
  where
    plain : is_apply r ≡ false → (x : Result Step RecordFault) → plain_step_of tables r ≡ x → at_record n x ≡ Err (m, e) → (at : ℕ) × (m ≡ n + at) × IsTold
        tables 0 (r ∷ rest) at e
    plain word (Ok step) was failed = absurd cc
    plain word (Err f) was failed =
        let same = same_fault (n, f) (m, e) failed in
        (0, omega (arith, same.0), inl (at_once (reads_from tables 0) r rest e (rw (word, was, same.1) refl)))

    by : (b : Bool) → is_apply r ≡ b → cond b (apply_of tables n r rest) (at_record n (plain_step_of tables r)) ≡ Err (m, e) → (at : ℕ) × (m ≡ n + at) ×
        IsTold tables 0 (r ∷ rest) at e
    by true word failed = apply_fault tables n r rest m e word failed
    by false word failed = plain word (plain_step_of tables r) refl failed

step_done : (tables : List TableDef) (n : ℕ) (r : RecordFields) (rest : List RecordFields) (step : Step) → step_of tables n r rest ≡ Ok step →
    IsDone tables r rest step
unfolding step_of
step_done tables n r rest step is = by (is_apply r) refl is
  where
    plain : is_apply r ≡ false → (x : Result Step RecordFault) → plain_step_of tables r ≡ x → at_record n x ≡ Ok step → IsDone tables r rest step
    plain word (Err f) was so = absurd cc
    plain word (Ok other) was so =
        let same : other ≡ step = cc in
        let none : edits_in step ≡ 0 = plain_has_none tables r step (was ∙ ap (λ s. Ok s) same) in
        record { asked = rw (word, none) refl; read = rw none tt; ok = rw (word, was) refl }

    by : (b : Bool) → is_apply r ≡ b → cond b (apply_of tables n r rest) (at_record n (plain_step_of tables r)) ≡ Ok step → IsDone tables r rest step
    by true word so = apply_done tables n r rest step word so
    by false word so = plain word (plain_step_of tables r) refl so

-- a script ----------------------------------------------------------------------------------------

steps_fault : (tables : List TableDef) (rows : List RecordFields) (k n m : ℕ) (e : RecordFault) → EditsRead tables rows k →
    steps_from tables k n rows ≡ Err (m, e)
    → (at : ℕ) × (m ≡ n + at) × IsTold tables k rows at e
unfolding steps_from
steps_fault tables [] zero n m e read is = absurd cc
steps_fault tables [] (suc k) n m e read is = absurd read
steps_fault tables (r ∷ rest) (suc k) n m e read is =
    let found = steps_fault tables rest k (n + 1) m e read.1 is in
    (suc (found.0), omega (arith, found.1), behind tables (suc k) k r rest found.0 e read.0 (λ before. refl) found.2)
steps_fault tables (r ∷ rest) zero n m e read is = by (λ k others failed. steps_fault tables rest k (n + 1) m e others failed) (step_of tables n r rest) refl is
  where
    by : ((k : ℕ) → EditsRead tables rest k → steps_from tables k (n + 1) rest ≡ Err (m, e) → (at : ℕ) × (m ≡ n + 1 + at) × IsTold tables k rest at e) → (x :
        Result Step (ℕ × RecordFault)) → step_of tables n r rest ≡ x → (x >>= λ step. steps_from tables (edits_in step) (n + 1) rest >>= λ others. Ok (step ∷
        others)) ≡ Err (m, e)
        → (at : ℕ) × (m ≡ n + at) × IsTold tables 0 (r ∷ rest) at e
    by again (Err f) was failed = let same : f ≡ (m, e) = cc in step_fault tables n r rest m e (rw same at was)
    by again (Ok step) was failed =
        let done = step_done tables n r rest step was in
        let found = again (edits_in step) done.read (fault_of_first _ (λ others. step ∷ others) (m, e) failed) in (
          suc (found.0),
          omega (arith, found.1),
          behind tables 0 (edits_in step) r rest found.0 e done.ok (λ before. ap (λ k. edits_left before k) done.asked)
              found.2,
        )

role_told : (tables : List TableDef) (rows : List RecordFields) (at : ℕ) (e : RecordFault) → IsTold tables 0 rows at e → (r : Role)
    × IsFaultAs r tables rows at e
role_told tables rows at e (inr short) = (role.ShortApply, (short.0, record { there = short.1.there; step = short.1.step; others = short.1.others }))
role_told tables rows at e (inl first) = by (edits_left (take at rows) 0) refl
  where
    by : (left : ℕ) → edits_left (take at rows) 0 ≡ left → (r : Role) × IsFaultAs r tables rows at e
    by zero none = (role.Step, (none, first))
    by (suc left) some = (role.Edit, (omega (arith, some), first))

pub script_faults_first : ScriptFaultLaw
script_faults_first tables bytes number e is = by (records_in bytes) refl is
  where
    by : (found : Option (List RecordFields)) → records_in bytes ≡ found → (or_fault (1, NotCsv) found >>= λ rows. steps_from tables 0 1 rows) ≡ Err (number, e)
        →
        (r : Role) × IsFaultOfScript tables found r number e
    by None was failed = let same = same_fault (1, NotCsv) (number, e) failed in (role.Text, (refl, sym same.0, sym same.1))
    by (Some rows) was failed =
        let found = steps_fault tables rows 0 1 number e tt failed in
        let told = role_told tables rows found.0 e found.2 in
        (told.0, (found.0, omega (arith, found.1), told.1))

-- what a call answers -----------------------------------------------------------------------------

-- the number that is told is that of a record
pub number_told : (tables : List TableDef) (rows : List RecordFields) (r : Role) (number : ℕ) (e : RecordFault) → IsFaultOfScript tables (Some rows) r number e
    →
    (0 < number) × (number ≤ length rows)
number_told tables rows role.Text number e told = absurd told.2
number_told tables rows role.Step number e told = within rows told.0 number told.2.1.there.0 told.1 told.2.1.there.1
number_told tables rows role.Edit number e told = within rows told.0 number told.2.1.there.0 told.1 told.2.1.there.1
number_told tables rows role.ShortApply number e told = within rows told.0 number told.2.1.there.0 told.1 told.2.1.there.1

-- a record that has a fault of its own asks for no edits
asks_none : (tables : List TableDef) (r : RecordFields) (e : RecordFault) → reads_as tables 0 r ≡ Err e → edits_asked r ≡ 0
asks_none tables r e is = by (is_apply r) refl
  where
    counted : is_apply r ≡ true → (x : Result ℕ RecordFault) → edit_count r ≡ x → edits_asked r ≡ 0
    counted word (Ok count) was = let read : reads_as tables 0 r ≡ Ok tt = rw (word, was) refl in absurd cc
    counted word (Err f) was = rw (word, was) refl

    by : (b : Bool) → is_apply r ≡ b → edits_asked r ≡ 0
    by true word = counted word (edit_count r) refl
    by false word = rw word refl

-- the role that is found is that of the record
role_found : (tables : List TableDef) (rows : List RecordFields) (r : Role) (at : ℕ) (e : RecordFault) → IsFaultAs r tables rows at e → role_in rows at ≡ r
role_found tables rows role.Text at e told = absurd told
role_found tables rows role.Step at e told =
    let first = told.1 in
    let is_step : reads_as tables 0 first.there.0 ≡ Err e = rw told.0 at first.there.2 in
    let none = asks_none tables first.there.0 e is_step in
    let item = get_or_from_slice_get rows at first.there.0 [] first.there.1 in
    rw (told.0, item, none, le-ltb (length rows - at - 1) 0 (omega arith)) refl
role_found tables rows role.Edit at e told = rw (lt-ltb _ _ told.0) refl
role_found tables rows role.ShortApply at e told =
    let short = told.1 in
    let item = get_or_from_slice_get rows at short.there.0 [] short.there.1 in
    let lt : at < length rows = slice_get_within rows at short.there.0 short.there.1 in
    let more : length rows - at - 1 < edits_asked short.there.0 = omega (arith, lt, short.there.2) in
    rw (short.step, item, lt-ltb _ _ more) refl

-- what is told of the number and the fault of a script, with the role of the record
pub found_among : (tables : List TableDef) (bytes : List ℕ) (rows : List RecordFields) (number : ℕ) (e : RecordFault) → Some rows ≡ records_in bytes →
    script_in_text tables bytes ≡ Err (number, e)
    → (0 < number) × (number ≤ length rows) × IsFaultOfScript tables (Some rows) (role_in rows (number - 1)) number e
found_among tables bytes rows number e found failed =
    let law = script_faults_first tables bytes number e failed in
    let told = subst (λ (o : Option (List RecordFields)). IsFaultOfScript tables o law.0 number e) (sym found) law.1 in
    let number_is = number_told tables rows law.0 number e told in
    let place : number - 1 ≡ told.0 = omega (arith, told.1) in
    (number_is.0, number_is.1, rw (place, role_found tables rows law.0 told.0 e told.2) told)

pub number_within : (tables : List TableDef) (bytes : List ℕ) (rows : List Row) (number : ℕ) (e : RecordFault) → Some (map fields_of rows) ≡ records_in bytes
    → script_in_text tables bytes ≡ Err (number, e) → (0 < number) × (number ≤ length rows)
number_within tables bytes rows number e found failed =
    let told = found_among tables bytes (map fields_of rows) number e found failed in
    (told.0, rw length-map at told.1)

pub found_as : (tables : List TableDef) (bytes : List ℕ) (rows : List RecordFields) (number : ℕ) (e : RecordFault) (r : Role) (n : ℕ) (f : RecordFault) →
    Some rows
    ≡ records_in bytes
    → script_in_text tables bytes ≡ Err (number, e) → r ≡ role_in rows (number - 1) → n ≡ number → f ≡ e → IsFaultOfScript tables (records_in bytes) r n f
found_as tables bytes rows number e r n f found failed is_r is_n is_f =
    subst (λ (o : Option (List RecordFields)). IsFaultOfScript tables o r n f) found
    (rw (is_r, is_n, is_f) (found_among tables bytes rows number e found failed).2)

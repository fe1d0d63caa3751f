-- A step that is no `apply` has no edits.
use Rattle.std.proofs.Common.{◌≡◌, ℕ, ◌==◌, Bool, true, false, cond, List, [], length, drop, Option, Some, None, Result, Ok, Err, refl}
use Rattle.std.specs.Prelude.{codes}
use Rattle.std.specs.Str.{bytes_eq}
use Rattle.clr_rows.specs.declared.tables.TableDef.{TableDef}
use Rattle.clr_steps.specs.declared.commands.Command.{Command}
use Rattle.clr_steps.specs.declared.commands.Command.TheVariants.{Create, Remove, Mark, Unmark, RollTo, RollAll, Refresh, Merge, Resolve, Hold, Release}
use Rattle.clr_readings.specs.Readings.{◌>>=◌}
use Rattle.clr_records.specs.Records.{field_of}
use Rattle.clr_scripts.specs.declared.faults.RecordFault.{RecordFault}
use Rattle.clr_scripts.specs.declared.faults.RecordFault.TheVariants.{FieldCount}
use Rattle.clr_scripts.specs.declared.steps.Step.{Step}
use Rattle.clr_scripts.specs.declared.steps.Step.TheVariants.{Act, Report}
use Rattle.clr_scripts.specs.declared.steps.Word.{Word}
use Rattle.clr_scripts.specs.Scripts.{can_have_fields, cell_of, command_of, command_word_of, create_of, edits_in, keep_of, mark_of, merge_of, only_name_of}
use Rattle.clr_scripts.specs.Scripts.{plain_step_of, removal_of, report_word_of, resolve_of, roll_to_of, step_by_words, two_names_of, unmark_of}
use Rattle.clr_record_explanations.specs.FirstFaults.{RecordFields}

abbrev HasNoEdits : Result Command RecordFault → Type 0
HasNoEdits read = (command : Command) → read ≡ Ok command → edits_in (Act command) ≡ 0

no_edits : (command : Command) → edits_in (Act command) ≡ 0 → HasNoEdits (Ok command)
no_edits command none other is = let same : command ≡ other = cc in rw (← same) none

of_fault : (e : RecordFault) → HasNoEdits (Err e)
of_fault e other is = absurd cc

behind_reading : {A : Type 0} (read : Result A RecordFault) (f : A → Result Command RecordFault) → ((a : A) → HasNoEdits (f a)) → HasNoEdits (read >>= f)
behind_reading (Ok a) f none = none a
behind_reading (Err e) f none = of_fault e

if_counted : (b : Bool) (read : Result Command RecordFault) → HasNoEdits read → HasNoEdits (cond b read (Err FieldCount))
if_counted true read none = none
if_counted false read none = of_fault FieldCount

-- a step that is read has no edits of its own
abbrev IsBare : Result Step RecordFault → Type 0
IsBare read = (step : Step) → read ≡ Ok step → edits_in step ≡ 0

acts : (read : Result Command RecordFault) → HasNoEdits read → IsBare (read >>= λ command. Ok (Act command))
acts (Ok command) none step is = let same : Act command ≡ step = cc in rw (← same) (none command refl)
acts (Err e) none step is = absurd cc

-- a reading of a value, which is left as it stands
unfoldable reading_of : {A : Type 0} → (A → Result Step RecordFault) → A → Result Step RecordFault
reading_of f x = f x

folded : {A : Type 0} (f : A → Result Step RecordFault) (x : A) → IsBare (f x) → IsBare (reading_of f x)
unfolding reading_of
folded f x bare = bare

unfolded : {A : Type 0} (f : A → Result Step RecordFault) (x : A) → IsBare (reading_of f x) → IsBare (f x)
unfolding reading_of
unfolded f x bare = bare

choose : {A : Type 0} (f : A → Result Step RecordFault) (b : Bool) (x y : A) → IsBare (f x) → IsBare (reading_of f y) → IsBare (reading_of f (cond b x y))
unfolding reading_of
choose f true x y is_x is_y = is_x
choose f false x y is_x is_y = is_y

abbrev says : RecordFields → List ℕ → Bool
says fields word = bytes_eq (field_of fields 0) word

-- the last two arguments before the first of the three
abbrev with_last : {A B C D : Type 0} → (A → B → C → D) → B → C → A → D
with_last f b c a = f a b c

one_name : (fields : RecordFields) (make : List ℕ → Command) → ((name : List ℕ) → edits_in (Act (make name)) ≡ 0) →
    HasNoEdits (only_name_of fields >>= λ name. Ok
    (make name))
one_name fields make none = behind_reading (only_name_of fields) (λ name. Ok (make name)) (λ name. no_edits (make name) (none name))

two_names : (fields : RecordFields) (make : List ℕ → List ℕ → Command) → ((a b : List ℕ) → edits_in (Act (make a b)) ≡ 0) →
    HasNoEdits (two_names_of fields >>= λ
    names. Ok (make names.0 names.1))
two_names fields make none = behind_reading (two_names_of fields) (λ names. Ok (make names.0 names.1)) (λ names. no_edits (make names.0 names.1) (none
    names.0 names.1))

merge_has_none : (fields : RecordFields) → HasNoEdits (merge_of fields)
merge_has_none fields =
    if_counted (length fields == 3) _ (behind_reading (removal_of (field_of fields 2)) (λ remove. Ok (Merge (field_of fields 1) remove)) (λ remove. no_edits
    (Merge (field_of fields 1) remove) refl))

resolve_has_none : (tables : List TableDef) (fields : RecordFields) → HasNoEdits (resolve_of tables fields)
resolve_has_none tables fields =
    if_counted (length fields == 5) _ (behind_reading (cell_of tables (field_of fields 2) (field_of fields 3)) (λ cell. keep_of (field_of fields 4) >>= λ
    keep. Ok (Resolve (field_of fields 1) cell keep))
    (λ cell. behind_reading (keep_of (field_of fields 4)) (λ keep. Ok (Resolve (field_of fields 1) cell keep)) (λ keep. no_edits (Resolve (field_of fields 1)
    cell keep) refl)))

report_is_bare : (fields : RecordFields) (report : Option Word) → ((step : Step) → step_by_words [] None report fields ≡ Ok step → edits_in step ≡ 0)
report_is_bare fields None step is = absurd cc
report_is_bare fields (Some word) step is = by (can_have_fields word (length fields)) is
  where
    by : (b : Bool) → cond b (Ok (Report word (drop 1 fields))) (Err FieldCount) ≡ Ok step → edits_in step ≡ 0
    by true so = let same : Report word (drop 1 fields) ≡ step = cc in rw (← same) refl
    by false so = absurd cc

word_is_bare : (tables : List TableDef) (fields : RecordFields) (report : Option Word) → IsBare (reading_of (with_last (step_by_words tables) report fields)
    (command_word_of (field_of fields 0)))
unfolding command_of
word_is_bare tables fields report =
    let one = one_name fields in
    let two = two_names fields in
    let read = with_last (step_by_words tables) report fields in
    choose read (says fields (codes "create")) _ _ (acts (create_of fields) (two Create (λ a b. refl)))
    (choose read (says fields (codes "remove")) _ _ (acts (only_name_of fields >>= λ ws. Ok (Remove ws)) (one Remove (λ name. refl)))
    (choose read (says fields (codes "mark")) _ _ (acts (mark_of fields) (two Mark (λ a b. refl)))
    (choose read (says fields (codes "unmark")) _ _ (acts (unmark_of fields) (two Unmark (λ a b. refl)))
    (choose read (says fields (codes "rollto")) _ _ (acts (roll_to_of fields) (two RollTo (λ a b. refl)))
    (choose read (says fields (codes "rollall")) _ _ (acts (only_name_of fields >>= λ ws. Ok (RollAll ws)) (one RollAll (λ name. refl)))
    (choose read (says fields (codes "refresh")) _ _ (acts (only_name_of fields >>= λ ws. Ok (Refresh ws)) (one Refresh (λ name. refl)))
    (choose read (says fields (codes "merge")) _ _ (acts (merge_of fields) (merge_has_none fields))
    (choose read (says fields (codes "resolve")) _ _ (acts (resolve_of tables fields) (resolve_has_none tables fields))
    (choose read (says fields (codes "hold")) _ _ (acts (only_name_of fields >>= λ ws. Ok (Hold ws)) (one Hold (λ name. refl)))
    (choose read (says fields (codes "release")) _ _ (acts (only_name_of fields >>= λ ws. Ok (Release ws)) (one Release (λ name. refl)))
    (folded read None (report_is_bare fields report))))))))))))

pub plain_has_none : (tables : List TableDef) (fields : RecordFields) (step : Step) → plain_step_of tables fields ≡ Ok step → edits_in step ≡ 0
unfolding plain_step_of
plain_has_none tables fields = unfolded (with_last (step_by_words tables) (report_word_of (field_of fields 0)) fields) (command_word_of (field_of fields 0))
    (word_is_bare tables fields (report_word_of (field_of fields 0)))

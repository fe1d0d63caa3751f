-- What is said of a record.
use Rattle.std.proofs.Common.{◌≡◌, ◌∙◌, ℕ, Bool, true, false, cond, List, [], ◌∷◌, Bor, Option, Some, codes, map, refl, sym, ap}
use Rattle.std.specs.List.{find, join_by}
use Rattle.std.specs.Option.{option_and_then, option_copied}
use Rattle.std.specs.Str.{bytes_eq}
use Rattle.std.specs.Prelude.{slice_get, unwrap_or}
use Rattle.clr_rows.specs.Schemas.{table_named}
use Rattle.clr_rows.specs.declared.tables.TableDef.{TableDef}
use Rattle.clr_hints.proofs.SentenceLemmas.{joined_lent}
use Rattle.clr_records.specs.Records.{field_of}
use Rattle.clr_record_explanations.specs.EditSlips.{find_number_place, number_place}
use Rattle.clr_record_explanations.specs.FirstFaults.{RecordFields, record_in}
use Rattle.clr_record_explanations.specs.RecordRemarks.{sentence_on}
use Rattle.clr_record_explanations.specs.RecordSlips.{Said}
use Rattle.clr_record_explanations.specs.StepSlips.{word_of}

-- names that are lent, with commas between them
pub joined_names : (names : List (Bor (List ℕ))) (wanted : List (List ℕ)) → map (λ (name : Bor (List ℕ)). name.now) names ≡ wanted →
    join_by (λ name. name.now) (codes ", ") names ≡ join_by (λ name. name) (codes ", ") wanted
joined_names names wanted same =
    sym (joined_lent (codes ", ") names) ∙ ap (λ (listed : List (List ℕ)). join_by (λ name. name) (codes ", ") listed) same

-- what is said of the fields of a record that the text has
pub said_on : (slip : RecordFields → Said) (text : List ℕ) (number : ℕ) (fields : RecordFields) (told : Said) (sentence : List ℕ) →
    Some fields ≡ record_in text number → told ≡ slip fields → sentence ≡ told.1 → sentence ≡ sentence_on slip (record_in text number)
said_on slip text number fields told sentence there is said =
    said ∙ ap (λ (s : Said). s.1) is ∙ ap (sentence_on slip) there

-- the place of a number in an edit, by the table that its name gives
pub number_place_of : (tables : List TableDef) (fields : RecordFields) (name : List ℕ) (table : Option TableDef) (found : Option ℕ) →
    name ≡ field_of fields 1 → table ≡ option_and_then (slice_get tables) (table_named tables name) → found ≡ find_number_place table fields →
    unwrap_or found 2 ≡ number_place tables fields
number_place_of tables fields name table found named known is =
    ap (λ (place : Option ℕ). unwrap_or place 2) is
    ∙ ap (λ (t : Option TableDef). unwrap_or (find_number_place t fields) 2)
    (known ∙ ap (λ (n : List ℕ). option_and_then (slice_get tables) (table_named tables n)) named)

-- patterns of steps ------------------------------------------------------------------------

abbrev begins : List ℕ → List ℕ → Bool
begins word pattern = bytes_eq (word_of pattern) word

-- the first pattern of those that are lent is the first of the patterns
pub first_lent : (word : List ℕ) (patterns : List (Bor (List ℕ))) →
    option_copied (find (λ (pattern : Bor (List ℕ)). begins word pattern.now) patterns)
    ≡ find (λ pattern. begins word pattern) (map (λ (pattern : Bor (List ℕ)). pattern.now) patterns)
first_lent word [] = refl
first_lent word (pattern ∷ patterns) =
    by (begins word pattern.now) (find (λ (other : Bor (List ℕ)). begins word other.now) patterns)
    (find (λ other. begins word other) (map (λ (other : Bor (List ℕ)). other.now) patterns)) (first_lent word patterns)
  where
    by : (test : Bool) (rest : Option (Bor (List ℕ))) (found : Option (List ℕ)) → option_copied rest ≡ found
        → option_copied (cond test (Some pattern) rest) ≡ cond test (Some pattern.now) found
    by true rest found is = refl
    by false rest found is = is

-- The first fault behind a record that can be read.
use Rattle.std.proofs.Common.{◌≡◌, ℕ, zero, suc, ◌+◌, ◌-◌, ◌<◌, ◌≤◌, List, [], ◌∷◌, length, get_or, take, map, Some, Result, Ok, Err, refl, sym, ap, ◌∙◌, arith}
use Rattle.std.specs.Prelude.{option_map, slice_get}
use Rattle.std.proofs.lemmas.Option.{slice_get-map, slice_get_read, slice_get_within}
use Rattle.csv.specs.Records.{Row, fields_of}
use Rattle.clr_readings.specs.Readings.{◌>>=◌}
use Rattle.clr_record_explanations.specs.FirstFaults.{RecordFields, IsFirstFault, Reading, record_numbered}

-- the first of records has the fault
pub at_once : {E : Type 0} (reads : Reading E) (r : RecordFields) (rest : List RecordFields) (e : E) → reads [] r ≡ Err e → IsFirstFault reads (r ∷ rest) 0 e
at_once reads r rest e was = record { there = (r, refl, was); earlier = λ k x lt found. absurd (omega (arith, lt)) }

-- the first of records can be read, and so can all behind it
pub all_later : {E : Type 0} (reads others : Reading E) (r : RecordFields) (rest : List RecordFields) → reads [] r ≡ Ok tt →
    ((before : List RecordFields) (x : RecordFields) → reads
    (r ∷ before) x ≡ others before x)
    → ((k : ℕ) (x : RecordFields) → slice_get rest k ≡ Some x → others (take k rest) x ≡ Ok tt) → (k : ℕ) (x : RecordFields) → slice_get (r ∷ rest) k ≡ Some x →
    reads
    (take k (r ∷ rest)) x ≡ Ok tt
all_later reads others r rest was next all zero x found = let same : r ≡ x = cc in rw (← same) was
all_later reads others r rest was next all (suc k) x found = next (take k rest) x ∙ all k x found

-- the first of records can be read, and one behind it has the fault
pub later : {E : Type 0} (reads others : Reading E) (r : RecordFields) (rest : List RecordFields) (at : ℕ) (e : E) → reads [] r ≡ Ok tt →
    ((before : List RecordFields) (x :
    RecordFields) → reads (r ∷ before) x ≡ others before x)
    → IsFirstFault others rest at e → IsFirstFault reads (r ∷ rest) (suc at) e
later reads others r rest at e was next first =
    record { there = (first.there.0, first.there.1, next (take at rest) first.there.0 ∙ first.there.2); earlier = before }
  where
    before : (k : ℕ) (x : RecordFields) → k < suc at → slice_get (r ∷ rest) k ≡ Some x → reads (take k (r ∷ rest)) x ≡ Ok tt
    before zero x lt found = let same : r ≡ x = cc in rw (← same) was
    before (suc k) x lt found = next (take k rest) x ∙ first.earlier k x (omega (arith, lt)) found

-- a fault comes from the first of two readings, where the second has none
pub fault_of_first : {A B E : Type 0} (read : Result A E) (f : A → B) (e : E) → (read >>= λ a. Ok (f a)) ≡ Err e → read ≡ Err e
fault_of_first (Err g) f e is = let same : g ≡ e = cc in rw same refl
fault_of_first (Ok a) f e is = absurd cc

-- two faults with their numbers
pub same_fault : {A E : Type 0} (p q : ℕ × E) → ◌≡◌ {A = Result A (ℕ × E)} (Err p) (Err q) → (p.0 ≡ q.0) × (p.1 ≡ q.1)
same_fault {A} {E} p q is = let same : p ≡ q = cc in (ap (λ (x : ℕ × E). x.0) same, ap (λ (x : ℕ × E). x.1) same)

-- a number from 1 of one of these records
abbrev pub is_number_of : List RecordFields → ℕ → Type 0
is_number_of rows number = (0 < number) × (number ≤ length rows)

pub within : (rows : List RecordFields) (at number : ℕ) (x : RecordFields) → number ≡ at + 1 → slice_get rows at ≡ Some x → is_number_of rows number
within rows at number x is found = let lt = slice_get_within rows at x found in (omega (arith, is), omega (arith, is, lt))

-- one of these records, with its number
pub numbered_at : (rows : List Row) (number : ℕ) (x : Row) → 0 < number → number ≤ length rows → x ≡ get_or rows (number - 1) x →
    Some (fields_of x) ≡ record_numbered (map fields_of rows) number
numbered_at rows zero x some le is = absurd (omega (arith, some))
numbered_at rows (suc at) x some le is =
    let place : suc at - 1 ≡ at = omega arith in
    let there = slice_get_read rows (length rows) at x refl (omega (arith, le)) (rw place at is) in
    sym (slice_get-map fields_of rows at ∙ ap (λ o. option_map fields_of o) there)

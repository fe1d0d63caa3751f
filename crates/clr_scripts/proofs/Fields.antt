-- The fields of a record from a position on, and the places that they are two by two.
use Rattle.std.proofs.Common.{◌≡◌, ℕ, zero, suc, ◌+◌, ◌<◌, ◌≤◌, List, [], ◌∷◌, ◌++◌, length, drop, Result, Ok, Err, refl, sym, ap, ◌∙◌, arith, add-one}
use Rattle.std.proofs.lemmas.List.{append-nil, drop_all}
use Rattle.csv.specs.Records.{field_at}
use Rattle.clr_rows.specs.declared.places.Place.{Place}
use Rattle.clr_scripts.specs.declared.faults.RecordFault.{RecordFault}
use Rattle.clr_scripts.specs.declared.faults.RecordFault.TheVariants as fault
use Rattle.clr_readings.specs.Readings.{◌>>=◌, Fails}
use Rattle.clr_readings.proofs.FaultTurns.{same_fault}
use Rattle.clr_records.specs.Records.{field_of}
use Rattle.clr_scripts.specs.Records.{record_lacks_memory}
use Rattle.clr_scripts.specs.Edits.{place_of, vertices_of}
use Rattle.clr_readings.proofs.Fronts.{regroup_after, with_front}

-- a field, and those behind it
pub begins : (fields : List (List ℕ)) (at : ℕ) → at < length fields → drop at fields ≡ field_of fields at ∷ drop (at + 1) fields
unfolding field_at
begins [] at lt = absurd (omega arith)
begins (f ∷ fs) zero lt = refl
begins (f ∷ fs) (suc at) lt = begins fs at (omega arith) ∙ ap (λ k. field_of fs at ∷ drop k fs) (add-one at)
    ∙ ap (λ k. field_of fs at ∷ drop k (f ∷ fs)) (sym (add-one (suc at)))

-- two fields, and those behind them
two : (fields : List (List ℕ)) (at : ℕ) → at + 1 < length fields → drop at fields ≡ field_of fields at ∷ (field_of fields (at + 1) ∷ drop (at + 2) fields)
two fields at lt =
    let last : at + 1 + 1 ≡ at + 2 = omega arith in
    begins fields at (omega arith) ∙ ap (λ (fs : List (List ℕ)). field_of fields at ∷ fs) (begins fields (at + 1) lt
    ∙ ap (λ k. field_of fields (at + 1) ∷ drop k fields) last)

next : (front : List Place) (fields : List (List ℕ)) (at : ℕ) → at + 1 < length fields
    → with_front front (vertices_of (drop at fields)) ≡ place_of fields at >>= λ p. with_front (front ++ p ∷ []) (vertices_of (drop (at + 2) fields))
unfolding vertices_of
next front fields at lt = rw (two fields at lt) (regroup_after front (place_of fields at) (vertices_of (drop (at + 2) fields)))

-- one more vertex is read
pub goes_on : (front : List Place) (fields : List (List ℕ)) (at : ℕ) (p : Place) (total : Result (List Place) RecordFault) → at + 1 < length fields
    → place_of fields at ≡ Ok p
    → with_front front (vertices_of (drop at fields)) ≡ total → with_front (front ++ p ∷ []) (vertices_of (drop (at + 2) fields)) ≡ total
goes_on front fields at p total lt was so_far = sym (next front fields at lt ∙ rw was refl) ∙ so_far

-- a vertex has a fault, and so has the whole
pub stops : (e : RecordFault) (front : List Place) (fields : List (List ℕ)) (at : ℕ) (total : Result (List Place) RecordFault) → at + 1 < length fields
    → place_of fields at ≡ Err e
    → with_front front (vertices_of (drop at fields)) ≡ total → Fails record_lacks_memory e total
stops e front fields at total lt failed so_far = same_fault record_lacks_memory e total (sym so_far ∙ (next front fields at lt ∙ rw failed refl))

-- a field is left over
pub left_over : (front : List Place) (fields : List (List ℕ)) (at : ℕ) (total : Result (List Place) RecordFault) → at + 1 ≡ length fields
    → with_front front (vertices_of (drop at fields)) ≡ total → total ≡ Err fault.FieldCount
unfolding vertices_of
left_over front fields at total is so_far =
    let last : drop at fields ≡ field_of fields at ∷ [] = begins fields at (omega arith)
    ∙ ap (λ (fs : List (List ℕ)). field_of fields at ∷ fs) (drop_all (at + 1) fields (omega arith)) in
    sym so_far ∙ rw last refl

-- no field is left
pub whole : (front : List Place) (fields : List (List ℕ)) (at : ℕ) (total : Result (List Place) RecordFault) → length fields ≤ at
    → with_front front (vertices_of (drop at fields)) ≡ total → total ≡ Ok front
unfolding vertices_of
whole front fields at total le so_far = sym so_far ∙ rw (drop_all at fields le) (ap (λ ys. Ok ys) (append-nil front))

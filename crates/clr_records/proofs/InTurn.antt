-- Reading one item after another, as a loop does.
use Rattle.std.proofs.Common.{◌≡◌, ℕ, suc, ◌+◌, ◌≤◌, ◌<◌, Bool, List, [], ◌∷◌, ◌++◌, map, length, get_or, drop, Result, Ok, Err, refl, sym, ap, ◌∙◌}
use Rattle.std.proofs.Common.{arith, add-one}
use Rattle.std.proofs.Math.Seq.{drop-cons}
use Rattle.std.proofs.lemmas.List.{append-nil, drop_all}
use Rattle.clr_readings.specs.Readings.{◌>>=◌, Fails, FailsAt, numbered_fault}
use Rattle.clr_readings.proofs.FaultTurns.{numbered_so, passes}
use Rattle.clr_readings.proofs.Fronts.{no_front, regroup, with_front}
use Rattle.clr_records.specs.Records.{at_record, in_turn}

next : {X A E : Type 0} (f : ℕ → X → Result A E) (n : ℕ) (xs : List X) (i : ℕ) (x : X) → i < length xs → x ≡ get_or xs i x
    → in_turn f (n + i) (drop i xs) ≡ (f (n + i) x >>= λ a. in_turn f (n + (i + 1)) (drop (i + 1) xs) >>= λ others. Ok (a ∷ others))
unfolding in_turn
next f n xs i x lt is =
    let after : n + i + 1 ≡ n + suc i = omega arith in
    rw (add-one i, drop-cons xs i x) (rw (← is, after) refl)

-- one more item is read
pub one_more : {X A E : Type 0} (f : ℕ → X → Result A E) (front : List A) (n : ℕ) (xs : List X) (i : ℕ) (x : X) (a : A) (total : Result (List A) E)
    → i < length xs → x ≡ get_or xs i x → f (n + i) x ≡ Ok a
    → with_front front (in_turn f (n + i) (drop i xs)) ≡ total → with_front (front ++ a ∷ []) (in_turn f (n + (i + 1)) (drop (i + 1) xs)) ≡ total
one_more f front n xs i x a total lt is h so_far = sym (regroup front a _) ∙ (sym (rw (next f n xs i x lt is, h) refl) ∙ so_far)

-- an item has a fault, and so has the whole
first_fault : {X A E : Type 0} (f : ℕ → X → Result A E) (e : E) (front : List A) (n : ℕ) (xs : List X) (i : ℕ) (x : X) (total : Result (List A) E)
    → i < length xs → x ≡ get_or xs i x → f (n + i) x ≡ Err e
    → with_front front (in_turn f (n + i) (drop i xs)) ≡ total → total ≡ Err e
first_fault f e front n xs i x total lt is h so_far = sym so_far ∙ rw (next f n xs i x lt is, h) refl

-- where an item fails, items read in turn stop with its fault, as a call answers it
pub stops : {X A E : Type 0} (lacks_memory : E → Bool) (f : ℕ → X → Result A E) (e : E) (front : List A) (n : ℕ) (xs : List X) (i : ℕ) (x : X)
    (total : Result (List A) E) → i < length xs → x ≡ get_or xs i x → Fails lacks_memory e (f (n + i) x)
    → with_front front (in_turn f (n + i) (drop i xs)) ≡ total → Fails lacks_memory e total
stops lacks_memory f e front n xs i x total lt is failed so_far =
    passes lacks_memory e (f (n + i) x) total (λ h. first_fault f e front n xs i x total lt is h so_far) failed

-- where an item fails, items read in turn stop with its fault and its number
pub stops_numbered : {X A E : Type 0} (lacks_memory : E → Bool) (f : X → Result A E) (e : E) (front : List A) (n : ℕ) (xs : List X) (i : ℕ) (x : X)
    (total : Result (List A) (ℕ × E)) → i < length xs → x ≡ get_or xs i x → Fails lacks_memory e (f x)
    → with_front front (in_turn (λ m y. at_record m (f y)) (n + i) (drop i xs)) ≡ total
    → FailsAt lacks_memory (numbered_fault lacks_memory (n + i) e).0 (numbered_fault lacks_memory (n + i) e).1 total
stops_numbered lacks_memory f e front n xs i x total lt is failed so_far =
    numbered_so lacks_memory e (n + i) (f x) total
    (λ h. first_fault (λ m y. at_record m (f y)) (n + i, e) front n xs i x total lt is (ap (at_record (n + i)) h) so_far) failed

-- no item is left
pub whole : {X A E : Type 0} (f : ℕ → X → Result A E) (front : List A) (n : ℕ) (xs : List X) (i : ℕ) (total : Result (List A) E) → length xs ≤ i
    → with_front front (in_turn f (n + i) (drop i xs)) ≡ total → total ≡ Ok front
unfolding in_turn
whole f front n xs i total le so_far = sym so_far ∙ rw (drop_all i xs le) (ap (λ ys. Ok ys) (append-nil front))

-- items seen by a view
seen : {X Y A E : Type 0} (f : ℕ → Y → Result A E) (view : X → Y) (n : ℕ) (xs : List X) → in_turn f n (map view xs) ≡ in_turn (λ m x. f m (view x)) n xs
unfolding in_turn
seen f view n [] = refl
seen f view n (x ∷ xs) = rw (seen f view (n + 1) xs) refl

pub begins : {X Y A E : Type 0} (f : ℕ → Y → Result A E) (view : X → Y) (n : ℕ) (xs : List X)
    → with_front [] (in_turn (λ m x. f m (view x)) (n + 0) (drop 0 xs)) ≡ in_turn f n (map view xs)
begins f view n xs = let same : n + 0 ≡ n = omega arith in rw (same, seen f view n xs) (no_front (in_turn (λ m x. f m (view x)) n xs))

-- What was read of a list before, and what is still read.
use Rattle.std.proofs.Common.{◌≡◌, List, [], ◌∷◌, ◌++◌, Result, Ok, Err, refl, sym, ap, append_assoc}
use Rattle.clr_readings.specs.Readings.{◌>>=◌}

-- what was read before, and then what is still read
abbrev pub with_front : {A E : Type 0} → List A → Result (List A) E → Result (List A) E
with_front front read = read >>= λ others. Ok (front ++ others)

pub no_front : {A E : Type 0} (read : Result (List A) E) → with_front [] read ≡ read
no_front (Ok others) = refl
no_front (Err e) = refl

pub regroup : {A E : Type 0} (front : List A) (a : A) (read : Result (List A) E) → with_front front (read >>= λ others. Ok (a ∷ others))
    ≡ with_front (front ++ a ∷ []) read
regroup front a (Ok others) = ap (λ ys. Ok ys) (sym (append_assoc front (a ∷ []) others))
regroup front a (Err e) = refl

-- the items read behind a front and one more item are those behind the front, where the item is read first
pub regroup_after : {A E : Type 0} (front : List A) (one : Result A E) (others : Result (List A) E)
    → with_front front (one >>= λ x. others >>= λ xs. Ok (x ∷ xs)) ≡ one >>= λ x. with_front (front ++ x ∷ []) others
regroup_after front (Ok x) others = regroup front x others
regroup_after front (Err e) others = refl

-- The fault of a part, as a call answers it, is that of the whole.
use Rattle.std.proofs.Common.{◌≡◌, ℕ, Bool, true, false, cond, Result, Err, refl, sym, ap, ◌∙◌}
use Rattle.std.specs.Bool.{MatchBool, OnFalse}
use Rattle.std.proofs.lemmas.Bool.{OnFalse_at, OnFalse_from}
use Rattle.clr_readings.specs.Readings.{◌>>=◌, Fails, FailsAt, numbered_fault}

-- the fault of what is read is one that a call may answer
pub same_fault : {A E : Type 0} (lacks_memory : E → Bool) (e : E) (read : Result A E) → read ≡ Err e → Fails lacks_memory e read
same_fault lacks_memory e read h = OnFalse_from (lacks_memory e) (read ≡ Err e) (λ _. h)

-- a fault that a part has is that of the whole
pub passes : {A B E : Type 0} (lacks_memory : E → Bool) (e : E) (part : Result A E) (total : Result B E) → (part ≡ Err e → total ≡ Err e)
    → Fails lacks_memory e part → Fails lacks_memory e total
passes lacks_memory e part total so h = OnFalse_from (lacks_memory e) (total ≡ Err e) (λ kept. so (OnFalse_at kept h))

pub passes_at : {A B E : Type 0} (lacks_memory : E → Bool) (n : ℕ) (e : E) (part : Result A (ℕ × E)) (total : Result B (ℕ × E))
    → (part ≡ Err (n, e) → total ≡ Err (n, e)) → FailsAt lacks_memory n e part → FailsAt lacks_memory n e total
passes_at lacks_memory n e part total so h = by (lacks_memory e) h
  where
    by : (b : Bool) → MatchBool b (n ≡ 0) (part ≡ Err (n, e)) → MatchBool b (n ≡ 0) (total ≡ Err (n, e))
    by true h = h
    by false h = so h

-- a fault that is then numbered
pub numbered_so : {A B E : Type 0} (lacks_memory : E → Bool) (e : E) (n : ℕ) (read : Result A E) (total : Result B (ℕ × E))
    → (read ≡ Err e → total ≡ Err (n, e)) → Fails lacks_memory e read
    → FailsAt lacks_memory (numbered_fault lacks_memory n e).0 (numbered_fault lacks_memory n e).1 total
numbered_so lacks_memory e n read total so h = by (lacks_memory e) h
  where
    by : (b : Bool) → OnFalse b (read ≡ Err e) → MatchBool b (cond b 0 n ≡ 0) (total ≡ Err (cond b 0 n, e))
    by true h = refl
    by false h = so h

-- a reading that fails has the fault of the whole
pub fails_with : {A B E : Type 0} (lacks_memory : E → Bool) (e : E) (one : Result A E) (rest : A → Result B E) (whole : Result B E) → Fails lacks_memory e one
    → one >>= rest ≡ whole → Fails lacks_memory e whole
fails_with lacks_memory e one rest whole failed is = passes lacks_memory e one whole (λ h. sym is ∙ ap (λ r. r >>= rest) h) failed

-- The fields of a record, one after another.
use Rattle.std.proofs.Common.{◌≡◌, ℕ, zero, suc, ◌+◌, ◌<◌, List, [], ◌∷◌, ◌++◌, length, take, refl, ap, add-one, arith}
use Rattle.csv.specs.Records.{field_at}
use Rattle.clr_records.specs.Records.{field_of}

field_more : (fields : List (List ℕ)) (at : ℕ) → at < length fields → take (suc at) fields ≡ take at fields ++ field_of fields at ∷ []
unfolding field_at
field_more [] at lt = absurd (omega arith)
field_more (f ∷ fs) zero lt = refl
field_more (f ∷ fs) (suc at) lt = ap (λ (xs : List (List ℕ)). f ∷ xs) (field_more fs at (omega arith))

-- the first fields of a record, and one more
pub fields_more : (fields : List (List ℕ)) (at : ℕ) (names : List (List ℕ)) (x : List ℕ) → at < length fields → names ≡ take at fields → x ≡ field_of fields at
    → names ++ x ∷ [] ≡ take (at + 1) fields
fields_more fields at names x lt before one = rw (add-one at, field_more fields at lt, before, one) refl

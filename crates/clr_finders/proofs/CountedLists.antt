-- Lists of what is made of each number, one number after another.
use Rattle.std.proofs.Common.{◌≡◌, ◌∙◌, ◌+◌, ℕ, zero, suc, List, [], ◌∷◌, ◌++◌, map, sym, ap, arith}
use Rattle.std.specs.List.{range_with_len}

counted_next : {X : Type 0} (f : ℕ → X) (from n m : ℕ) → m ≡ from + n → map f (range_with_len from (suc n)) ≡ map f (range_with_len from n) ++ f m ∷ []
counted_next f from zero m is = let same : from ≡ m = omega arith in ap (λ k. f k ∷ []) same
counted_next f from (suc n) m is = ap (λ ys. f from ∷ ys) (counted_next f (from + 1) n m (omega arith))

pub counted_more : {X : Type 0} (f : ℕ → X) (n m : ℕ) (old new : List X) (x : X) → m ≡ n + 1 → old ≡ map f (range_with_len 0 n) → new ≡ old ++ x ∷ [] → x ≡ f n
    → new ≡ map f (range_with_len 0 m)
counted_more f n m old new x next is push same =
    push ∙ ap (λ ys. ys ++ x ∷ []) is ∙ ap (λ y. map f (range_with_len 0 n) ++ y ∷ []) same ∙ sym (counted_next f 0 n n (omega arith))
    ∙ ap (λ k. map f (range_with_len 0 k)) (let up : suc n ≡ m = omega arith in up)

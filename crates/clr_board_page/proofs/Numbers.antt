-- What is told of the numbers from 0 on, and of numbered elements, one after another.
use Rattle.std.proofs.Common.{◌≡◌, ◌∙◌, ◌+◌, ℕ, suc, List, [], ◌∷◌, ◌++◌, ap, arith, length}
use Rattle.std.specs.List.{enumerate_from, flat_map, range_with_len}
use Rattle.std.proofs.lemmas.List.{append-nil}
use Rattle.std.proofs.lemmas.List.Concat.{flat_map-append}
use Rattle.clr_merge_clashes.proofs.Lists.{numbers_more}

pub told_more : {X : Type 0} (f : ℕ → List X) (k : ℕ) → flat_map f (range_with_len 0 (k + 1)) ≡ flat_map f (range_with_len 0 k) ++ f k
told_more f k =
    ap (flat_map f) (numbers_more k) ∙ flat_map-append f (range_with_len 0 k) (k ∷ []) ∙ ap (λ xs. flat_map f (range_with_len 0 k) ++ xs) (append-nil (f k))

-- one element more is numbered
pub numbered_more : {X : Type 0} (from : ℕ) (xs : List X) (x : X) → enumerate_from from (xs ++ x ∷ []) ≡ enumerate_from from xs ++ (from + length xs, x) ∷ []
numbered_more from [] x = let same : from ≡ from + 0 = omega arith in ap (λ n. (n, x) ∷ []) same
numbered_more from (y ∷ ys) x =
    let same : (from + 1) + length ys ≡ from + suc (length ys) = omega arith in
    ap (λ es. (from, y) ∷ es) (numbered_more (from + 1) ys x ∙ ap (λ n. enumerate_from (from + 1) ys ++ (n, x) ∷ []) same)

-- The first of some changes.
use Rattle.std.proofs.Common.{◌≡◌, ◌∙◌, ℕ, suc, ◌+◌, ◌-◌, ◌<◌, ◌≤◌, List, [], ◌∷◌, ◌++◌, ap, append_assoc, arith, map, sym, take}

-- one more is told of up to 400
pub one_more : {X Y : Type 0} (f : X → Y) (told new all : List Y) (x : X) (rest left : List X) (count : ℕ) → rest ≡ x ∷ left → count < 400
    → new ≡ told ++ f x ∷ [] → told ++ map f (take (400 - count) rest) ≡ all → new ++ map f (take (400 - (count + 1)) left) ≡ all
one_more {X} {Y} f told new all x rest left count begun below added so_far =
    let k = 400 - (count + 1) in
    let one : 400 - count ≡ suc k = omega arith in
    let same : map f (take (400 - count) rest) ≡ f x ∷ map f (take k left) =
    ap (λ (n : ℕ). map f (take n rest)) one ∙ ap (λ (xs : List X). map f (take (suc k) xs)) begun in
    ap (λ (ys : List Y). ys ++ map f (take k left)) added ∙ append_assoc told (f x ∷ []) (map f (take k left))
    ∙ ap (λ (ys : List Y). told ++ ys) (sym same) ∙ so_far

-- no more than 400 are told
pub none_more : {X Y : Type 0} (f : X → Y) (told all : List Y) (rest left : List X) (count : ℕ) → 400 ≤ count
    → told ++ map f (take (400 - count) rest) ≡ all → told ++ map f (take (400 - count) left) ≡ all
none_more {X} {Y} f told all rest left count full so_far =
    let none : 400 - count ≡ 0 = omega arith in
    ap (λ (n : ℕ). told ++ map f (take n left)) none ∙ sym (ap (λ (n : ℕ). told ++ map f (take n rest)) none) ∙ so_far

-- Lists that grow by one element after another, as loops make them.
use Rattle.std.proofs.Common.{◌≡◌, ℕ, ◌+◌, ◌<◌, List, [], ◌∷◌, ◌++◌, length, get_or, take, ◌∙◌, append_assoc, append-nil, add-one}
use Rattle.std.proofs.Math.Seq.{take-suc}
use Rattle.std.proofs.lemmas.Grind.{flat_map-append}
use Rattle.std.proofs.lemmas.List.{get_or_default}
use Rattle.std.specs.List.{flat_map}

-- the texts of the elements so far, and of one more
pub text_more : {X Y : Type 0} (f : X → List Y) (xs : List X) (i : ℕ) (d : X) (front so_far now : List Y) → i < length xs → so_far ≡ front
    ++ flat_map f (take i xs) → now ≡ so_far ++ f (get_or xs i d)
    → now ≡ front ++ flat_map f (take (i + 1) xs)
text_more f xs i d front so_far now lt before one =
    let x = get_or xs i d in
    rw (add-one i, take-suc xs i d lt, flat_map-append f (take i xs) (x ∷ []), append-nil (f x))
    (one ∙ rw before (append_assoc front (flat_map f (take i xs)) (f x)))

-- an element at a place is the one that is there whatever stands for none
pub itself : {X : Type 0} (xs : List X) (i : ℕ) (d : X) → i < length xs → get_or xs i d ≡ get_or xs i (get_or xs i d)
itself xs i d lt = get_or_default xs i d (get_or xs i d) lt

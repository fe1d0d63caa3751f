-- Texts that grow by one piece after another.
use Rattle.std.proofs.Common.{◌≡◌, ◌<◌, ◌+◌, ◌∙◌, ◌++◌, ℕ, List, append_assoc, Result, Ok, Err, length, get_or, take, ap}
use Rattle.std.specs.Prelude.{OnOk, if◌then◌else◌}
use Rattle.std.specs.Result.{is_ok}
use Rattle.std.specs.List.{flat_map}
use Rattle.clr_layer_text.proofs.Turns.{text_more}

-- the texts of the elements so far, and of one more
pub text_of_next : {X Y : Type 0} (f : X → List Y) (xs : List X) (i : ℕ) (x : X) (front so_far now : List Y) → i < length xs → x ≡ get_or xs i x
    → so_far ≡ front ++ flat_map f (take i xs) → now ≡ so_far ++ f x → now ≡ front ++ flat_map f (take (i + 1) xs)
text_of_next f xs i x front so_far now within is before one = text_more f xs i x front so_far now within before (one ∙ ap (λ y. so_far ++ f y) is)

-- a last piece, whose success is that of the whole
pub last_piece : {T E A : Type 0} (r : Result T E) (now with without : List A) → now ≡ (if is_ok r then with else without) → OnOk r (now ≡ with)
last_piece (Ok x) now with without is = is
last_piece (Err e) now with without is = tt

-- pieces that were added one after another
pub pieces_5 : {A : Type 0} (old a b c d e : List A) → ((((old ++ a) ++ b) ++ c) ++ d) ++ e
    ≡ old ++ ((((a ++ b) ++ c) ++ d) ++ e)
pieces_5 old a b c d e = simp append_assoc

pub pieces_7 : {A : Type 0} (old a b c d e f g : List A) → ((((((old ++ a) ++ b) ++ c) ++ d) ++ e) ++ f) ++ g
    ≡ old ++ ((((((a ++ b) ++ c) ++ d) ++ e) ++ f) ++ g)
pieces_7 old a b c d e f g = simp append_assoc

pub pieces_9 : {A : Type 0} (old a b c d e f g h i : List A) → ((((((((old ++ a) ++ b) ++ c) ++ d) ++ e) ++ f) ++ g) ++ h) ++ i
    ≡ old ++ ((((((((a ++ b) ++ c) ++ d) ++ e) ++ f) ++ g) ++ h) ++ i)
pieces_9 old a b c d e f g h i = simp append_assoc

pub pieces_10 : {A : Type 0} (old a b c d e f g h i j : List A) → (((((((((old ++ a) ++ b) ++ c) ++ d) ++ e) ++ f) ++ g) ++ h) ++ i) ++ j
    ≡ old ++ (((((((((a ++ b) ++ c) ++ d) ++ e) ++ f) ++ g) ++ h) ++ i) ++ j)
pieces_10 old a b c d e f g h i j = simp append_assoc

-- Texts that grow by one piece after another.
use Rattle.std.proofs.Common.{◌≡◌, ◌≤◌, ◌<◌, ◌+◌, ◌∙◌, ◌++◌, ℕ, List, [], ◌∷◌, add-one, ap, append-nil, append_assoc, length, get_or, map, sym, take}
use Rattle.std.specs.List.{flat_map}
use Rattle.std.proofs.Math.Seq.{take-suc}
use Rattle.std.proofs.lemmas.Grind.{flat_map-append}
use Rattle.std.proofs.lemmas.List.{map-append, take_all}
pub use Rattle.clr_guarded_edits.proofs.Turns.{last_piece, pieces_5, pieces_7, pieces_9, text_of_next}

pub pieces_3 : {A : Type 0} (old a b c : List A) → ((old ++ a) ++ b) ++ c ≡ old ++ ((a ++ b) ++ c)
pieces_3 old a b c = simp append_assoc

pub pieces_4 : {A : Type 0} (old a b c d : List A) → (((old ++ a) ++ b) ++ c) ++ d ≡ old ++ (((a ++ b) ++ c) ++ d)
pieces_4 old a b c d = simp append_assoc

pub pieces_6 : {A : Type 0} (old a b c d e f : List A) → (((((old ++ a) ++ b) ++ c) ++ d) ++ e) ++ f ≡ old ++ (((((a ++ b) ++ c) ++ d) ++ e) ++ f)
pieces_6 old a b c d e f = simp append_assoc

pub pieces_8 : {A : Type 0} (old a b c d e f g h : List A) → (((((((old ++ a) ++ b) ++ c) ++ d) ++ e) ++ f) ++ g) ++ h
    ≡ old ++ (((((((a ++ b) ++ c) ++ d) ++ e) ++ f) ++ g) ++ h)
pieces_8 old a b c d e f g h = simp append_assoc

-- the texts of all elements, where no more are left
pub all_taken : {X Y : Type 0} (f : X → List Y) (xs : List X) (i : ℕ) (front now : List Y) → length xs ≤ i → now ≡ front ++ flat_map f (take i xs)
    → now ≡ front ++ flat_map f xs
all_taken f xs i front now past is = is ∙ ap (λ ys. front ++ flat_map f ys) (take_all i xs past)

-- the text of the first element, where those of the others stand behind
pub text_of_first : {X Y : Type 0} (f : X → List Y) (all left : List X) (e : X) (so_far now whole : List Y) → all ≡ e ∷ left → now ≡ so_far ++ f e
    → so_far ++ flat_map f all ≡ whole → now ++ flat_map f left ≡ whole
text_of_first f all left e so_far now whole is one before =
    ap (λ text. text ++ flat_map f left) one ∙ append_assoc so_far (f e) (flat_map f left) ∙ ap (λ xs. so_far ++ flat_map f xs) (sym is) ∙ before

-- what grows with a list, by one element more
pub grown : {X Y : Type 0} (of : List X → List Y) → ((xs ys : List X) → of (xs ++ ys) ≡ of xs ++ of ys) → (xs : List X) (i : ℕ) (x : X)
    (front so_far now : List Y) → i < length xs → x ≡ get_or xs i x → so_far ≡ front ++ of (take i xs) → now ≡ so_far ++ of (x ∷ [])
    → now ≡ front ++ of (take (i + 1) xs)
grown of joined xs i x front so_far now within is before one =
    one ∙ ap (λ text. text ++ of (x ∷ [])) before ∙ append_assoc front (of (take i xs)) (of (x ∷ []))
    ∙ ap (λ text. front ++ text) (sym (rw (add-one i, take-suc xs i x within, ← is) (joined (take i xs) (x ∷ []))))

-- the texts of what elements are, and that of one more
pub text_of_mapped : {X Y Z : Type 0} (f : Y → List Z) (g : X → Y) (xs : List X) (i : ℕ) (x : X) (front so_far now : List Z) → i < length xs
    → x ≡ get_or xs i x → so_far ≡ front ++ flat_map f (map g (take i xs)) → now ≡ so_far ++ f (g x)
    → now ≡ front ++ flat_map f (map g (take (i + 1) xs))
text_of_mapped f g xs i x front so_far now within is before one =
    grown (λ ys. flat_map f (map g ys)) (λ ys zs. ap (flat_map f) (map-append g ys zs) ∙ flat_map-append f (map g ys) (map g zs)) xs i x front so_far now
    within is before (one ∙ ap (λ text. so_far ++ text) (sym (append-nil (f (g x)))))

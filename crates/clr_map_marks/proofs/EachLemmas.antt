-- Things that are drawn one after another, as loops draw them.
use Rattle.std.proofs.Common.{ℕ, ◌+◌, ◌<◌, ◌≤◌, List, length, drop, get_or, add-one, refl, subst, sym}
use Rattle.std.proofs.Math.ListN.{drop_of_length-le}
use Rattle.std.proofs.Math.Seq.{drop-cons}
use Rattle.clr_svg.specs.declared.elements.Element.{Element}
use Rattle.clr_map_marks.specs.LineMarks.{DrawsEach}

-- what is drawn so far, with all that is left, is all
abbrev pub EachSoFar : {A : Type 0} → (A → List Element → List Element → Type 0) → List A → ℕ → List Element → List Element → Type 0
EachSoFar Draws xs i old now = (new : List Element) → DrawsEach Draws (drop i xs) now new → DrawsEach Draws xs old new

pub each_more : {A : Type 0} (Draws : A → List Element → List Element → Type 0) (xs : List A) (i : ℕ) (d : A) (old now later : List Element)
    → i < length xs → Draws (get_or xs i d) now later → EachSoFar Draws xs i old now → EachSoFar Draws xs (i + 1) old later
each_more Draws xs i d old now later less drawn before new rest =
    before new (subst (λ zs. DrawsEach Draws zs now new) (sym (drop-cons xs i d less))
    (later, drawn, subst (λ (k : ℕ). DrawsEach Draws (drop k xs) later new) (add-one i) rest))

pub each_done : {A : Type 0} (Draws : A → List Element → List Element → Type 0) (xs : List A) (i : ℕ) (old now : List Element)
    → length xs ≤ i → EachSoFar Draws xs i old now → DrawsEach Draws xs old now
each_done Draws xs i old now most before = before now (subst (λ zs. DrawsEach Draws zs now now) (sym (drop_of_length-le xs most)) refl)

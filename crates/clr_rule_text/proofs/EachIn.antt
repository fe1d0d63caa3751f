-- Reading a list element by element: those read before, and then the others.
use Rattle.std.proofs.Common.{◌≡◌, ℕ, ◌+◌, ◌<◌, List, [], ◌∷◌, ◌++◌, length, get_or, drop, Result, Ok, refl, sym, ap, ◌∙◌, add-one}
use Rattle.std.proofs.Math.Seq.{drop-cons}
use Rattle.std.proofs.lemmas.List.{append-nil}
use Rattle.serde_json.specs.Data.{Data}
use Rattle.clr_readings.specs.Readings.{◌>>=◌, Fails}
use Rattle.clr_rule_text.specs.declared.faults.TextFault.{TextFault}
use Rattle.clr_rule_text.specs.Fields.{each, each_in, text_lacks_memory}
use Rattle.clr_rule_text.specs.Seen.{items_seen}
use Rattle.clr_readings.proofs.FaultTurns.{fails_with}
use Rattle.clr_readings.proofs.Fronts.{regroup_after, with_front}

-- the first of what is left is read
pub begins : {X A : Type 0} (f : X → Result A TextFault) (front : List A) (x : X) (xs : List X)
    → with_front front (each_in f (x ∷ xs)) ≡ f x >>= λ y. with_front (front ++ y ∷ []) (each_in f xs)
unfolding each_in
begins f front x xs = regroup_after front (f x) (each_in f xs)

pub goes_on : {X A : Type 0} (f : X → Result A TextFault) (front : List A) (x : X) (xs : List X) (y : A) (whole : Result (List A) TextFault) → f x ≡ Ok y
    → with_front front (each_in f (x ∷ xs)) ≡ whole → with_front (front ++ y ∷ []) (each_in f xs) ≡ whole
goes_on f front x xs y whole was so_far = sym (begins f front x xs ∙ rw was refl) ∙ so_far

pub ends : {X A : Type 0} (f : X → Result A TextFault) (e : TextFault) (front : List A) (x : X) (xs : List X) (whole : Result (List A) TextFault)
    → Fails text_lacks_memory e (f x)
    → with_front front (each_in f (x ∷ xs)) ≡ whole → Fails text_lacks_memory e whole
ends f e front x xs whole failed so_far = fails_with text_lacks_memory e (f x) _ whole failed (sym (begins f front x xs) ∙ so_far)

pub is_done : {X A : Type 0} (f : X → Result A TextFault) (front : List A) (whole : Result (List A) TextFault) → with_front front (each_in f []) ≡ whole → whole
    ≡ Ok front
unfolding each_in
is_done f front whole so_far = sym so_far ∙ ap (λ ys. Ok ys) (append-nil front)

-- what is left from a position on
pub from_position : {X : Type 0} (xs : List X) (i : ℕ) (x : X) → i < length xs → x ≡ get_or xs i x → drop i xs ≡ x ∷ drop (i + 1) xs
from_position xs i x lt is = rw (add-one i, drop-cons xs i x) (rw (← is) refl)

-- f of the items that values stand for is f of what each stands for
pub each_seen : {A J : Type 0} (view : J → Data) (f : Data → Result A TextFault) (vs : List J) → each f (items_seen view vs) ≡ each_in (λ v. f (view v)) vs
unfolding each each_in
each_seen view f [] = refl
each_seen view f (v ∷ vs) = rw (each_seen view f vs) refl

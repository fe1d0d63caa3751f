-- Laws of lists to which something was to be added: from the pieces that were added to the whole.
use Rattle.std.proofs.Common.{◌≡◌, Bool, true, false, ℕ, ◌+◌, ◌<◌, List, [], ◌∷◌, ◌++◌, append-nil, length, map, get_or, take, drop, ap, sym, refl, ◌∙◌}
use Rattle.std.specs.Prelude.{Result, Ok, Err, OnErr, if◌then◌else◌}
use Rattle.std.specs.List.{flat_map}
use Rattle.std.proofs.lemmas.Grind.{flat_map-append}
use Rattle.std.proofs.lemmas.List.{append_assoc, append_cancel_left, drop_more, map-append, take-append-drop, take_at}
use Rattle.clr_rows.specs.Beginnings.{IsBegun}

-- what holds, holds after an error
pub on_err : {T E P : Type 0} (r : Result T E) → P → OnErr r P
on_err (Ok x) p = tt
on_err (Err e) p = p

-- a front of what was to be added was added
pub some_begun : {A : Type 0} (old more new front back : List A) → new ≡ old ++ front → more ≡ front ++ back → IsBegun old more new
some_begun old more new front back is parts = record {
  stands = ap (take (length old)) is ∙ take_at old front (length old) refl;
  beginning = rw parts (ap (take (length new)) (sym (append_assoc old front back) ∙ ap (λ xs. xs ++ back) (sym is)) ∙ take_at new back (length new) refl);
}

-- nothing was added
pub none_begun : {A : Type 0} (old more new : List A) → new ≡ old → IsBegun old more new
none_begun old more new is = some_begun old more new [] more (is ∙ sym (append-nil old)) refl

-- all of it was added
pub all_begun : {A : Type 0} (old more new : List A) → new ≡ old ++ more → IsBegun old more new
all_begun old more new is = some_begun old more new more [] is (sym (append-nil more))

-- what was added
pub added_is : {A : Type 0} (old more new : List A) → IsBegun old more new → new ≡ old ++ drop (length old) new
added_is old more new begun = sym (take-append-drop (length old) new) ∙ ap (λ xs. xs ++ drop (length old) new) begun.stands

-- what was added, and what is left of what was to be added
pub parts_of : {A : Type 0} (old more new : List A) → IsBegun old more new → more ≡ drop (length old) new ++ drop (length new) (old ++ more)
parts_of old more new begun =
    let left = drop (length new) (old ++ more) in
    append_cancel_left old more (drop (length old) new ++ left)
    (sym (take-append-drop (length new) (old ++ more)) ∙ ap (λ xs. xs ++ left) (begun.beginning ∙ added_is old more new begun)
    ∙ append_assoc old (drop (length old) new) left)

-- a front of what was to be added was added, and then a beginning of what follows it
pub then_begun : {A : Type 0} (old more mid new front next back : List A) → mid ≡ old ++ front → more ≡ front ++ (next ++ back) → IsBegun mid next new
    → IsBegun old more new
then_begun old more mid new front next back is parts begun =
    let added = drop (length mid) new in
    let left = drop (length new) (mid ++ next) in
    some_begun old more new (front ++ added) (left ++ back)
    (added_is mid next new begun ∙ ap (λ xs. xs ++ added) is ∙ append_assoc old front added)
    (parts ∙ ap (λ xs. front ++ (xs ++ back)) (parts_of mid next new begun) ∙ ap (λ xs. front ++ xs) (append_assoc added left back)
    ∙ sym (append_assoc front added (left ++ back)))

-- where more was to be added behind it
pub begun_before : {A : Type 0} (old more back new : List A) → IsBegun old more new → IsBegun old (more ++ back) new
begun_before old more back new begun = then_begun old (more ++ back) old new [] more back (sym (append-nil old)) refl begun

-- where all that stands before it was added
pub begun_behind : {A : Type 0} (old front more mid new : List A) → mid ≡ old ++ front → IsBegun mid more new → IsBegun old (front ++ more) new
begun_behind old front more mid new is begun = then_begun old (front ++ more) mid new front more [] is (ap (λ xs. front ++ xs) (sym (append-nil more))) begun

-- where what was to be added of the items before it was added
pub begun_at : {X A : Type 0} (f : X → List A) (xs : List X) (at : ℕ) (unread : X) (old mid new : List A)
    → at < length xs → mid ≡ old ++ flat_map f (take at xs) → IsBegun mid (f (get_or xs at unread)) new → IsBegun old (flat_map f xs) new
begun_at f xs at unread old mid new lt before begun =
    let x = get_or xs at unread in
    let rest = drop (at + 1) xs in
    then_begun old (flat_map f xs) mid new (flat_map f (take at xs)) (f x) (flat_map f rest) before
    (ap (flat_map f) (sym (take-append-drop at xs)) ∙ flat_map-append f (take at xs) (drop at xs)
    ∙ ap (λ ys. flat_map f (take at xs) ++ flat_map f ys) (drop_more xs at unread lt)) begun

-- where the last piece was added, or nothing of it
pub last_begun : {A : Type 0} (done : Bool) (old more mid new front last : List A) → new ≡ (if done then mid ++ last else mid) → mid ≡ old ++ front → more
    ≡ front ++ last → IsBegun old more new
last_begun true old more mid new front last is before parts = all_begun old more new (is ∙ ap (λ xs. xs ++ last) before ∙ append_assoc old front last
    ∙ ap (λ xs. old ++ xs) (sym parts))
last_begun false old more mid new front last is before parts = some_begun old more new front last (is ∙ before) parts

-- where what was to be added of the items before it was added, one for each, and then nothing
pub begun_before_item : {X A : Type 0} (f : X → A) (xs : List X) (at : ℕ) (old mid new : List A) → mid ≡ old ++ map f (take at xs) → new ≡ mid
    → IsBegun old (map f xs) new
begun_before_item f xs at old mid new before is =
    some_begun old (map f xs) new (map f (take at xs)) (map f (drop at xs)) (is ∙ before) (ap (map f) (sym (take-append-drop at xs))
    ∙ map-append f (take at xs) (drop at xs))

-- The first item of a list that is wrong, as a loop finds it.
use Rattle.std.proofs.Common.{◌≡◌, ◌∙◌, ℕ, ◌+◌, ◌≤◌, ◌<◌, List, [], ◌∷◌, ◌++◌, Bor, length, get_or, drop, take, map, Option, Some, None, refl, sym, subst, ap}
use Rattle.std.proofs.Common.{add-one}
use Rattle.std.proofs.Math.Seq.{drop-cons}
use Rattle.std.proofs.lemmas.List.{drop_all, get_or-map, length-map, map-append, take_more}
use Rattle.std.specs.List.{enumerate_from}
use Rattle.std.specs.Option.{option_or}
use Rattle.serde_json.specs.Data.{Data}
use Rattle.serde_json.specs.View.{view}
use Rattle.serde_json.specs.declared.value.Value.{Value as Json}
use Rattle.clr_text_positions.specs.declared.paths.Key.{Key}
use Rattle.clr_text_positions.specs.declared.paths.PathStep.TheVariants as step
use Rattle.clr_item_explanations.specs.declared.slips.Slip.{Slip}
use Rattle.clr_item_explanations.specs.Tellings.{TellsIfAny, Wrong, below, first_wrong, wrong_in_list}
use Rattle.clr_item_explanations.specs.Values.{items_at}
use Rattle.clr_item_explanations.proofs.TellingLemmas.{below_none, below_told, first_told, nothing}

-- any list -----------------------------------------------------------------------------------

next : {A : Type 0} (f : A → Option Wrong) (xs : List A) (i : ℕ) (d : A) → i < length xs →
    first_wrong f (drop i xs) ≡ option_or (f (get_or xs i d)) (first_wrong f (drop (i + 1) xs))
unfolding first_wrong
next f xs i d within = rw (add-one i, drop-cons xs i d within) refl

pub not_here : {A : Type 0} (f : A → Option Wrong) (xs : List A) (i : ℕ) (d : A) (all : Option Wrong) → i < length xs
    → TellsIfAny (f (get_or xs i d)) None → first_wrong f (drop i xs) ≡ all → first_wrong f (drop (i + 1) xs) ≡ all
not_here f xs i d all within right so =
    let is : f (get_or xs i d) ≡ None = right.told in
    sym (next f xs i d within ∙ ap (λ o. option_or o (first_wrong f (drop (i + 1) xs))) is) ∙ so

pub here : {A : Type 0} (f : A → Option Wrong) (xs : List A) (i : ℕ) (d : A) (all : Option Wrong) (slip : Slip) → i < length xs
    → TellsIfAny (f (get_or xs i d)) (Some slip) → first_wrong f (drop i xs) ≡ all → TellsIfAny all (Some slip)
here f xs i d all slip within wrong so =
    rw (sym so ∙ next f xs i d within) (first_told (f (get_or xs i d)) (first_wrong f (drop (i + 1) xs)) slip wrong)

pub none_left : {A : Type 0} (f : A → Option Wrong) (xs : List A) (i : ℕ) (all : Option Wrong) → length xs ≤ i → first_wrong f (drop i xs) ≡ all
    → TellsIfAny all None
unfolding first_wrong
none_left f xs i all past so = nothing all (sym so ∙ ap (first_wrong f) (drop_all i xs past))

-- items ----------------------------------------------------------------------------------------

-- the first that is wrong of the items from a place on
unfoldable pub found_from : (ℕ × Data → Option Wrong) → ℕ → List Json → Option Wrong
found_from f i items = first_wrong f (enumerate_from i (map view (drop i items)))

pub found_first : (f : ℕ × Data → Option Wrong) (items : List Json) (ds : List Data) → map view items ≡ ds →
    found_from f 0 items ≡ first_wrong f (enumerate_from 0 ds)
unfolding found_from
found_first f items ds are = ap (λ xs. first_wrong f (enumerate_from 0 xs)) are

found_next : (f : ℕ × Data → Option Wrong) (items : List Json) (i : ℕ) (v : Json) → i < length items → v ≡ get_or items i v →
    found_from f i items ≡ option_or (f (i, view v)) (found_from f (i + 1) items)
unfolding found_from first_wrong
found_next f items i v within is = rw (drop-cons items i v within) (rw (← is, add-one i) refl)

pub found_right : (f : ℕ × Data → Option Wrong) (items : List Json) (i : ℕ) (v : Json) (all : Option Wrong) → i < length items → v ≡ get_or items i v
    → TellsIfAny (f (i, view v)) None → found_from f i items ≡ all → found_from f (i + 1) items ≡ all
found_right f items i v all within is right so =
    let none : f (i, view v) ≡ None = right.told in
    sym (found_next f items i v within is ∙ ap (λ o. option_or o (found_from f (i + 1) items)) none) ∙ so

pub found_wrong : (f : ℕ × Data → Option Wrong) (items : List Json) (i : ℕ) (v : Json) (all : Option Wrong) (slip : Slip) → i < length items
    → v ≡ get_or items i v → TellsIfAny (f (i, view v)) (Some slip) → found_from f i items ≡ all → TellsIfAny all (Some slip)
found_wrong f items i v all slip within is wrong so =
    rw (sym so ∙ found_next f items i v within is) (first_told (f (i, view v)) (found_from f (i + 1) items) slip wrong)

pub found_none : (f : ℕ × Data → Option Wrong) (items : List Json) (i : ℕ) (all : Option Wrong) → length items ≤ i → found_from f i items ≡ all
    → TellsIfAny all None
unfolding found_from first_wrong
found_none f items i all past so = nothing all (sym so ∙ ap (λ ds. first_wrong f (enumerate_from i (map view ds))) (drop_all i items past))

pub ruleset found_in_turn = (found_first, found_right, found_wrong, found_none)

-- items of the list at a key -----------------------------------------------------------------------

abbrev pub of_item : Key → (ℕ → Data → Option Wrong) → ℕ × Data → Option Wrong
of_item k f p = below (step.Key k ∷ step.At p.0 ∷ []) (f p.0 p.1)

abbrev pub wrong_from : Key → (ℕ → Data → Option Wrong) → ℕ → List Json → Option Wrong
wrong_from k f i items = found_from (of_item k f) i items

pub from_first : (k : Key) (f : ℕ → Data → Option Wrong) (items : List Json) (d : Data) → map view items ≡ items_at k d
    → wrong_from k f 0 items ≡ wrong_in_list k f d
unfolding wrong_in_list
from_first k f items d are = found_first (of_item k f) items (items_at k d) are

pub item_right : (k : Key) (f : ℕ → Data → Option Wrong) (items : List Json) (i : ℕ) (v : Json) (all : Option Wrong) → i < length items
    → v ≡ get_or items i v → TellsIfAny (f i (view v)) None → wrong_from k f i items ≡ all → wrong_from k f (i + 1) items ≡ all
item_right k f items i v all within is right so =
    found_right (of_item k f) items i v all within is (below_none (step.Key k ∷ step.At i ∷ []) (f i (view v)) right) so

pub item_wrong : (k : Key) (f : ℕ → Data → Option Wrong) (items : List Json) (i : ℕ) (v : Json) (all : Option Wrong) (slip new : Slip) → i < length items
    → v ≡ get_or items i v → TellsIfAny (f i (view v)) (Some slip) → new.steps.items ≡ step.Key k ∷ step.At i ∷ slip.steps.items → new.sentence ≡ slip.sentence
    → new.hint ≡ slip.hint → wrong_from k f i items ≡ all → TellsIfAny all (Some new)
item_wrong k f items i v all slip new within is wrong steps sentence hint so =
    found_wrong (of_item k f) items i v all new within is (below_told (step.Key k ∷ step.At i ∷ []) (f i (view v)) slip new steps sentence hint wrong) so

pub all_right : (k : Key) (f : ℕ → Data → Option Wrong) (items : List Json) (i : ℕ) (all : Option Wrong) → length items ≤ i → wrong_from k f i items ≡ all
    → TellsIfAny all None
all_right k f items i all past so = found_none (of_item k f) items i all past so

pub ruleset items_in_turn = (from_first, item_right, item_wrong, all_right)

-- the texts of the items before a place --------------------------------------------------------------

pub names_more : (f : Data → List ℕ) (items : List Json) (ds : List Data) (names more : List (Bor (List ℕ))) (new : Bor (List ℕ)) (i : ℕ) (v : Json)
    → i < length items → v ≡ get_or items i v → map view items ≡ ds → more ≡ names ++ new ∷ [] → new.now ≡ f (view v)
    → map (λ (name : Bor (List ℕ)). name.now) names ≡ take i (map f ds) → map (λ (name : Bor (List ℕ)). name.now) more ≡ take (i + 1) (map f ds)
names_more f items ds names more new i v within is are pushed named so =
    let texts : List (List ℕ) = map f (map view items) in
    let one : i < length (map view items) = subst (λ n. i < n) (sym (length-map items view)) within in
    let two : i < length texts = subst (λ n. i < n) (sym (length-map (map view items) f)) one in
    let here : get_or texts i (f (view v)) ≡ f (view v) =
    get_or-map f (map view items) i (view v) (f (view v)) one ∙ ap f (get_or-map view items i v (view v) within ∙ ap view (sym is)) in
    let before : map (λ (name : Bor (List ℕ)). name.now) names ≡ take i texts = so ∙ ap (λ xs. take i (map f xs)) (sym are) in
    ap (map (λ (name : Bor (List ℕ)). name.now)) pushed
    ∙ map-append (λ (name : Bor (List ℕ)). name.now) names (new ∷ [])
    ∙ ap (λ xs. xs ++ new.now ∷ []) before
    ∙ ap (λ x. take i texts ++ x ∷ []) (named ∙ sym here)
    ∙ sym (take_more texts i (f (view v)) two)
    ∙ ap (λ xs. take (i + 1) (map f xs)) are

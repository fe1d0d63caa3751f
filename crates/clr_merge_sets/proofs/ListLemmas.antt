-- Lists that a loop makes, one element after another.
use Rattle.std.proofs.Common.{◌≡◌, ◌∙◌, ◌<◌, ◌≤◌, ◌+◌, ℕ, List, [], ◌∷◌, ◌++◌, Bor, Option, Some, None, ap, append-nil, get_or, length, map, refl, sym, take}
use Rattle.std.specs.Prelude.{option_map, option_to_list, slice_get}
use Rattle.std.specs.List.{cons_option, filter_map}
use Rattle.std.proofs.lemmas.List.{map-append, take_more}
use Rattle.std.proofs.lemmas.List.Elements.{filter_map-append}
use Rattle.std.proofs.lemmas.Option.{slice_get-map, slice_get_past, slice_get_read}

-- one more element
module _ {X Y : Type 0} (f : X → Option Y) where
  one_mapped : (o : Option Y) → cons_option o [] ≡ option_to_list o
  one_mapped None = refl
  one_mapped (Some y) = refl

  pub filter_map_last : (xs : List X) (x : X) → filter_map f (xs ++ x ∷ []) ≡ filter_map f xs ++ option_to_list (f x)
  filter_map_last xs x = filter_map-append f xs (x ∷ []) ∙ ap (λ ys. filter_map f xs ++ ys) (one_mapped (f x))

  pub filter_map_more : (xs : List X) (k : ℕ) (d : X) → k < length xs
      → filter_map f (take (k + 1) xs) ≡ filter_map f (take k xs) ++ option_to_list (f (get_or xs k d))
  filter_map_more xs k d less = ap (filter_map f) (take_more xs k d less) ∙ filter_map_last (take k xs) (get_or xs k d)

-- an element is added, or none
pub one_added : {X Y : Type 0} (f : X → Y) (old new : List X) (x : X) (o : Option Y) → new ≡ old ++ x ∷ [] → o ≡ Some (f x)
    → map f new ≡ map f old ++ option_to_list o
one_added f old new x o put is = ap (map f) put ∙ map-append f old (x ∷ []) ∙ ap (λ r. map f old ++ option_to_list r) (sym is)

pub none_added : {X : Type 0} (xs : List X) (o : Option X) → o ≡ None → xs ≡ xs ++ option_to_list o
none_added xs o is = sym (ap (λ r. xs ++ option_to_list r) is ∙ append-nil xs)

-- what is read of borrowed values
module _ {X : Type 0} (xs : List (Bor X)) (k : ℕ) where
  pub read_at : (x : Bor X) → k < length xs → x ≡ get_or xs k x → slice_get (map (λ y. y.now) xs) k ≡ Some x.now
  read_at x less is = slice_get-map (λ y. y.now) xs k ∙ ap (option_map (λ y. y.now)) (slice_get_read xs (length xs) k x refl less is)

  pub read_past : length xs ≤ k → slice_get (map (λ y. y.now) xs) k ≡ None
  read_past past = slice_get-map (λ y. y.now) xs k ∙ ap (option_map (λ y. y.now)) (slice_get_past xs k past)

-- The fields of a row in a list of columns.
use Rattle.std.proofs.Common.{◌≡◌, Option, Some, None, refl, sym, ap, ◌∙◌, ℕ, ◌+◌, ◌<◌, List, [], ◌∷◌, ◌++◌, length, take, get_or}
use Rattle.std.specs.Prelude.{option_to_list}
use Rattle.std.specs.List.{filter_map, cons_option}
use Rattle.std.proofs.lemmas.List.{take_more}
use Rattle.std.proofs.lemmas.List.Elements.{filter_map-append}

one_field : {Y : Type 0} (o : Option Y) → cons_option o [] ≡ option_to_list o
one_field None = refl
one_field (Some y) = refl

-- the columns up to the next one
pub next_field : {X Y : Type 0} (f : X → Option Y) (xs : List X) (i : ℕ) (d : X) (o : Option Y) → i < length xs → o ≡ f (get_or xs i d)
    → filter_map f (take (i + 1) xs) ≡ filter_map f (take i xs) ++ option_to_list o
next_field f xs i d o h is =
    ap (filter_map f) (take_more xs i d h) ∙ filter_map-append f (take i xs) (get_or xs i d ∷ [])
    ∙ ap (λ ys. filter_map f (take i xs) ++ ys) (one_field (f (get_or xs i d)) ∙ ap option_to_list (sym is))

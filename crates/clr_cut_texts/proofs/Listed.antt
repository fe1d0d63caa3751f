-- The tokens of the elements of a list, and of the list.
use Rattle.std.proofs.Common.{◌≡◌, List, [], ◌∷◌, ◌++◌, ap, append_assoc, refl, ◌∙◌}
use Rattle.std.specs.List.{flat_map}
use Rattle.json.specs.Token.{end_array}
use Rattle.serde_json.specs.Data.{Data}
use Rattle.clr_office_writing.specs.Tokens.{list_tokens, tokens_of}

pub closed : {A : Type 0} (f : A → Data) (xs : List A) → flat_map (λ x. tokens_of (f x)) xs ++ end_array ∷ [] ≡ list_tokens f xs
closed f [] = refl
closed f (x ∷ xs) = append_assoc (tokens_of (f x)) (flat_map (λ y. tokens_of (f y)) xs) (end_array ∷ []) ∙ ap (λ ts. tokens_of (f x) ++ ts) (closed f xs)

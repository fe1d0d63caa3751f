-- Values of JSON by the data that they stand for.
use Rattle.std.proofs.Common.{◌≡◌, ℕ, ◌∙◌, List, [], ◌∷◌, length, map, Bor, ◌||◌, refl, sym, ap}
use Rattle.std.proofs.lemmas.List.{length-map}
use Rattle.std.specs.List.{list_any}
use Rattle.std.specs.Str.{bytes_eq}
use Rattle.serde_json.specs.Data.{Data}
use Rattle.serde_json.specs.View.{items_of, view}
use Rattle.serde_json.specs.declared.value.Value.{Value as Json}
use Rattle.clr_item_explanations.specs.Values.{listed, stands_among}

pub listed_items : (ds : List Data) → listed (items_of ds) ≡ ds
listed_items [] = refl
listed_items (d ∷ ds) = ap (λ rest. d ∷ rest) (listed_items ds)

-- a text is one of those that are lent where it is one of the texts
pub among_lent : (text : List ℕ) (texts : List (Bor (List ℕ))) →
    list_any (λ (one : Bor (List ℕ)). bytes_eq one.now text) texts ≡ stands_among (map (λ (one : Bor (List ℕ)). one.now) texts) text
among_lent text [] = refl
among_lent text (one ∷ texts) = ap (λ rest. bytes_eq one.now text || rest) (among_lent text texts)

pub as_many : (items : List Json) (ds : List Data) → map view items ≡ ds → length items ≡ length ds
as_many items ds are = sym (length-map items view) ∙ ap length are

-- The numbers of the name of a known need.
use Rattle.std.proofs.Common.{◌≡◌, ◌∙◌, ℕ, List, [], ◌∷◌, length, map, Bool, true, false, ◌&&◌, Option, Some, None, refl, sym, subst, ap}
use Rattle.std.proofs.lemmas.List.{length-map}
use Rattle.std.specs.Prelude.{is_some}
use Rattle.std.specs.List.{list_all}
use Rattle.serde_json.specs.Data.{Data}
use Rattle.serde_json.specs.Find.{as_array}
use Rattle.serde_json.specs.View.{items_of, view}
use Rattle.serde_json.specs.declared.value.Value.{Value as Json}
use Rattle.clr_item_explanations.specs.KnownNeeds.{are_numbers, is_count, is_name}
use Rattle.clr_item_explanations.specs.Values.{whole_number}
use Rattle.clr_item_explanations.proofs.ValueLemmas.{listed_items}

abbrev is_number : Data → Bool
is_number d = is_some (whole_number d)

all_viewed : (items : List Json) → list_all (λ one. is_number (view one)) items ≡ list_all is_number (map view items)
all_viewed [] = refl
all_viewed (one ∷ items) = ap (λ rest. is_number (view one) && rest) (all_viewed items)

viewed : (kind : List ℕ) (items : List Json)
    → are_numbers kind (map view items) ≡ (is_count kind (length items) && list_all (λ one. is_number (view one)) items)
viewed kind items =
    ap (λ n. is_count kind n && list_all is_number (map view items)) (length-map items view)
    ∙ ap (λ all. is_count kind (length items) && all) (sym (all_viewed items))

pub counted : (kind : List ℕ) (items : List Json) (fits all : Bool) → fits ≡ is_count kind (length items) → fits ≡ true
    → all ≡ list_all (λ one. is_number (view one)) items → all ≡ are_numbers kind (map view items)
counted kind items fits all count holds of =
    of ∙ sym (viewed kind items ∙ ap (λ b. b && list_all (λ one. is_number (view one)) items) (sym count ∙ holds))

pub uncounted : (kind : List ℕ) (items : List Json) (fits : Bool) → fits ≡ is_count kind (length items) → fits ≡ false
    → fits ≡ are_numbers kind (map view items)
uncounted kind items fits count fails =
    fails ∙ sym (viewed kind items ∙ ap (λ b. b && list_all (λ one. is_number (view one)) items) (sym count ∙ fails))

pub is_name_by : (kind : List ℕ) (d : Data) (items : List Json) (numbers : Bool) → Some (items_of (map view items)) ≡ as_array d
    → numbers ≡ are_numbers kind (map view items) → numbers ≡ is_name kind (as_array d)
is_name_by kind d items numbers is of =
    subst (λ found. numbers ≡ is_name kind found) is (of ∙ ap (λ ds. are_numbers kind ds) (sym (listed_items (map view items))))

pub no_name : (kind : List ℕ) (d : Data) → None ≡ as_array d → false ≡ is_name kind (as_array d)
no_name kind d is = ap (λ found. is_name kind found) is

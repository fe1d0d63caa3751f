-- An item of a list by its place.
use Rattle.std.proofs.Common.{◌≡◌, ℕ, suc, zero, ◌≤◌, ◌<◌, List, [], ◌∷◌, length, get_or, Option, Some, None, Ok, Bor, refl, slice_get}
use Rattle.std.proofs.lemmas.Option.{slice_get_past, slice_get_read}
use Rattle.std.specs.Option.{option_map}
use Rattle.std.specs.Prelude.{IfSome, IsErr, MatchOption}
use Rattle.serde_json.specs.Data.{Data}
use Rattle.serde_json.specs.Find.{get}
use Rattle.serde_json.specs.View.{view, items_view}
use Rattle.serde_json.specs.declared.value.Value.{Value as Json}
use Rattle.clr_rule_text.specs.Fields.{list_or_none}
use Rattle.clr_faults.specs.FirstFaults.{item_at}
use Rattle.clr_faults.specs.Stages.{list_item_of}

item_got : (vs : List Json) (i : ℕ) → item_at (items_view vs) i ≡ option_map view (slice_get vs i)
item_got [] i = refl
item_got (v ∷ vs) zero = refl
item_got (v ∷ vs) (suc i) = item_got vs i

pub no_item : (vs : List Json) (i : ℕ) (key : List ℕ) (d : Data) → length vs ≤ i → list_or_none (get key d) ≡ Ok (items_view vs) → IsErr (list_item_of key i d)
unfolding list_item_of
no_item vs i key d le list = rw (list, item_got vs i, slice_get_past vs i le) refl

pub one_item : (vs : List Json) (i : ℕ) (key : List ℕ) (d : Data) (v : Json) → i < length vs → v ≡ get_or vs i v → list_or_none (get key d) ≡ Ok (items_view vs)
    → list_item_of key i d ≡ Ok (view v)
unfolding list_item_of
one_item vs i key d v lt is list = rw (list, item_got vs i, slice_get_read vs (length vs) i v refl lt is) refl

pub item_found : (vs : List Json) (i : ℕ) (key : List ℕ) (d : Data) (r : Option (Bor Json)) (B : Bor Json → Type 0)
    → MatchOption r (length vs ≤ i) (λ x. (i < length vs) × B x)
    → IfSome r (λ x. x.now ≡ get_or vs i x.now) → list_or_none (get key d) ≡ Ok (items_view vs)
    → MatchOption r (IsErr (list_item_of key i d)) (λ x. list_item_of key i d ≡ Ok (view x.now))
item_found vs i key d None B within is list = no_item vs i key d within list
item_found vs i key d (Some x) B within is list = one_item vs i key d x.now within.0 is list

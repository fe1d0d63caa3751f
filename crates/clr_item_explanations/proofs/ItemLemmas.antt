-- What is told of columns, literals and workspaces.
use Rattle.std.proofs.Common.{◌≡◌, ◌≢◌, ◌∙◌, ℕ, ◌<◌, ◌≤◌, List, [], ◌∷◌, ◌++◌, codes, length, get_or, take, map, Option, Some, None, refl, sym, subst, ap}
use Rattle.std.proofs.lemmas.List.{take-map}
use Rattle.std.proofs.lemmas.Option.{slice_get-map, slice_get_past, slice_get_read}
use Rattle.std.specs.Prelude.{slice_get}
use Rattle.std.specs.Option.{option_map, option_map_or}
use Rattle.serde_json.specs.Data.{Data}
use Rattle.serde_json.specs.Find.{as_array}
use Rattle.serde_json.specs.View.{items_of, view}
use Rattle.serde_json.specs.declared.value.Value.{Value as Json}
use Rattle.clr_rows.specs.Names.{live_name}
use Rattle.clr_text_positions.specs.declared.paths.Key.{Key}
use Rattle.clr_text_positions.specs.declared.paths.Key.TheVariants as key
use Rattle.clr_item_explanations.specs.declared.slips.Slip.{Slip}
use Rattle.clr_item_explanations.specs.Fields.{wrong_as_pair, wrong_pair, wrong_pair_in, wrong_value}
use Rattle.clr_item_explanations.specs.declared.fields.Wanted.TheVariants as wanted
use Rattle.clr_item_explanations.specs.Slips.{said}
use Rattle.clr_item_explanations.specs.Tellings.{OfValue, Tells, TellsIfAny, Wrong, itself}
use Rattle.clr_item_explanations.specs.Values.{items_at, text_at}
use Rattle.clr_item_explanations.specs.Workspaces.{names_before, wrong_workspace, wrong_workspace_behind}
use Rattle.clr_item_explanations.proofs.TellingLemmas.{nothing, something}
use Rattle.clr_item_explanations.proofs.ValueLemmas.{listed_items}

-- pairs ----------------------------------------------------------------------------------------

no_pair : (of : List ℕ) (f : Data → Data → Option Wrong) (d : Data) (vs : List Json) (slip : Slip) → length vs ≢ 2
    → Tells (itself (OfValue [] d (codes " is no pair of " ++ of))) (said slip) → TellsIfAny (wrong_pair of f d (map view vs)) (Some slip)
no_pair of f d [] slip other told = something _ (itself (OfValue [] d (codes " is no pair of " ++ of))) slip refl told
no_pair of f d (a ∷ []) slip other told = something _ (itself (OfValue [] d (codes " is no pair of " ++ of))) slip refl told
no_pair of f d (a ∷ b ∷ []) slip other told = absurd (other refl)
no_pair of f d (a ∷ b ∷ c ∷ vs) slip other told = something _ (itself (OfValue [] d (codes " is no pair of " ++ of))) slip refl told

-- two values are a pair
is_pair : (of : List ℕ) (f : Data → Data → Option Wrong) (d : Data) (vs : List Json) (a b : Json) (slip : Option Slip) → length vs ≡ 2 → a ≡ get_or vs 0 a
    → b ≡ get_or vs 1 b → TellsIfAny (f (view a) (view b)) slip → TellsIfAny (wrong_pair of f d (map view vs)) slip
is_pair of f d [] a b slip two first second told = absurd cc
is_pair of f d (x ∷ []) a b slip two first second told = absurd cc
is_pair of f d (x ∷ y ∷ []) a b slip two first second told = rw (← first, ← second) told
is_pair of f d (x ∷ y ∷ z ∷ vs) a b slip two first second told = absurd cc

pub no_pair_told : (of : List ℕ) (f : Data → Data → Option Wrong) (d : Data) (vs : List Json) (slip : Slip)
    → Some (items_of (map view vs)) ≡ as_array d → length vs ≢ 2 → Tells (itself (OfValue [] d (codes " is no pair of " ++ of))) (said slip)
    → TellsIfAny (wrong_as_pair of f d) (Some slip)
unfolding wrong_as_pair
no_pair_told of f d vs slip is other told =
    subst (λ found. TellsIfAny (wrong_pair_in of f d found) (Some slip)) is
    (subst (λ ds. TellsIfAny (wrong_pair of f d ds) (Some slip)) (sym (listed_items (map view vs))) (no_pair of f d vs slip other told))

pub pair_told : (of : List ℕ) (f : Data → Data → Option Wrong) (d : Data) (vs : List Json) (a b : Json) (slip : Option Slip)
    → Some (items_of (map view vs)) ≡ as_array d → length vs ≡ 2 → a ≡ get_or vs 0 a → b ≡ get_or vs 1 b → TellsIfAny (f (view a) (view b)) slip
    → TellsIfAny (wrong_as_pair of f d) slip
unfolding wrong_as_pair
pair_told of f d vs a b slip is two first second told =
    subst (λ found. TellsIfAny (wrong_pair_in of f d found) slip) is
    (subst (λ ds. TellsIfAny (wrong_pair of f d ds) slip) (sym (listed_items (map view vs))) (is_pair of f d vs a b slip two first second told))

pub no_list_told : (of : List ℕ) (f : Data → Data → Option Wrong) (d : Data) (slip : Option Slip) → None ≡ as_array d
    → TellsIfAny (wrong_value wanted.List d) slip → TellsIfAny (wrong_as_pair of f d) slip
unfolding wrong_as_pair
no_list_told of f d slip is told = subst (λ found. TellsIfAny (wrong_pair_in of f d found) slip) is told

pub ruleset pair_or_none = (no_pair_told, pair_told, no_list_told)

-- items ----------------------------------------------------------------------------------------

pub item_there : (at : ℕ) (k : Key) (d : Data) (items : List Json) (one : Json) → map view items ≡ items_at k d → at < length items
    → one ≡ get_or items at one → slice_get (items_at k d) at ≡ Some (view one)
item_there at k d items one are within is =
    ap (λ ds. slice_get ds at) (sym are) ∙ slice_get-map view items at ∙ ap (option_map view) (slice_get_read items (length items) at one refl within is)

pub no_item_there : (at : ℕ) (k : Key) (d : Data) (items : List Json) → map view items ≡ items_at k d → length items ≤ at
    → slice_get (items_at k d) at ≡ None
no_item_there at k d items are past =
    ap (λ ds. slice_get ds at) (sym are) ∙ slice_get-map view items at ∙ ap (option_map view) (slice_get_past items at past)

-- workspaces -----------------------------------------------------------------------------------

pub workspace_told : (at : ℕ) (d : Data) (items : List Json) (one : Json) (names : List (List ℕ)) (slip : Option Slip)
    → map view items ≡ items_at key.Workspaces d → at < length items → one ≡ get_or items at one
    → names ≡ live_name ∷ map (text_at key.Name) (map view (take at items))
    → TellsIfAny (wrong_workspace_behind names (view one)) slip → TellsIfAny (wrong_workspace at d) slip
unfolding wrong_workspace
workspace_told at d items one names slip are within is named told =
    let same : names ≡ names_before at (items_at key.Workspaces d) =
    named ∙ ap (λ ds. live_name ∷ map (text_at key.Name) ds) (sym (take-map view at items) ∙ ap (take at) are) in
    subst (λ found. TellsIfAny (option_map_or (wrong_workspace_behind (names_before at (items_at key.Workspaces d))) found None) slip)
    (sym (item_there at key.Workspaces d items one are within is))
    (subst (λ (before : List (List ℕ)). TellsIfAny (wrong_workspace_behind before (view one)) slip) same told)

pub no_workspace : (at : ℕ) (d : Data) (items : List Json) → map view items ≡ items_at key.Workspaces d → length items ≤ at
    → TellsIfAny (wrong_workspace at d) None
unfolding wrong_workspace
no_workspace at d items are past =
    nothing _ (ap (λ found. option_map_or (wrong_workspace_behind (names_before at (items_at key.Workspaces d))) found None)
    (no_item_there at key.Workspaces d items are past))

-- The names of workspaces one after another, each of which stands.
use Rattle.std.proofs.Common.{◌≡◌, ℕ, zero, suc, ◌+◌, ◌<◌, add-one, Bool, true, false, ◌||◌, cond, List, [], ◌∷◌, drop, Some, is_some, slice_get, refl, subst}
use Rattle.std.proofs.Common.{◌∙◌, arith, option_map}
use Rattle.std.proofs.lemmas.Option.{same_Some, slice_get-map}
use Rattle.clr_rows.specs.Names.{live_name}
use Rattle.clr_workspaces.specs.Marks.{Name}
use Rattle.clr_workspaces.specs.Workspaces.{Workspace}
use Rattle.clr_steps.specs.Names.{is_live, same_name}
use Rattle.clr_steps.specs.Offices.{Office, find_name, stands}
use Rattle.clr_steps.specs.Readings.{name_at}
use Rattle.clr_steps.proofs.FindLemmas.{same_itself}
use Rattle.clr_office_reports.specs.Workspaces.{names_below_live}

-- a name that stands in the list is found
found_by : (here : Bool) (name : Name) (w : Workspace) (ws : List Workspace) → is_some (find_name name ws) ≡ true
    → is_some (cond here (Some w) (find_name name ws)) ≡ true
found_by true name w ws later = refl
found_by false name w ws later = later

is_found : (name : Name) (ws : List Workspace) (at : ℕ) → option_map (λ w. w.name) (slice_get ws at) ≡ Some name → is_some (find_name name ws) ≡ true
is_found name [] at e = absurd cc
is_found name (w ∷ ws) zero e =
    let same : same_name name w.name ≡ true = rw (same_Some w.name name e) (same_itself name) in
    rw same refl
is_found name (w ∷ ws) (suc at) e = found_by (same_name name w.name) name w ws (is_found name ws at e)

or_true : (a b : Bool) → b ≡ true → (a || b) ≡ true
or_true true b e = refl
or_true false b e = e

live_stands : (o : Office) → stands o live_name ≡ true
unfolding stands is_live
live_stands o = refl

-- a name at a position stands
pub named_stands : (o : Office) (position : ℕ) (name : Name) → name_at o position ≡ Some name → stands o name ≡ true
unfolding stands
named_stands o zero name e = subst (λ n. stands o n ≡ true) (same_Some live_name name e) (live_stands o)
named_stands o (suc at) name e = or_true (is_live name) (is_some (find_name name o.workspaces)) (is_found name o.workspaces at e)

-- the items from a position on are that of the position and those behind it
item_first : {A : Type 0} (xs : List A) (at : ℕ) (x : A) → slice_get xs at ≡ Some x → drop at xs ≡ x ∷ drop (suc at) xs
item_first [] at x e = absurd cc
item_first (y ∷ ys) zero x e = rw (same_Some y x e) refl
item_first (y ∷ ys) (suc at) x e = item_first ys at x e

-- the names from a position on, where LIVE has position 0
pub names_from : (o : Office) (position : ℕ) (name : Name) → 0 < position → name_at o position ≡ Some name
    → drop position ([] ∷ names_below_live o) ≡ name ∷ drop (position + 1) ([] ∷ names_below_live o)
names_from o zero name lt e = absurd (omega (arith, lt))
names_from o (suc at) name lt e = rw (add-one (suc at)) (item_first (names_below_live o) at name (slice_get-map (λ (w : Workspace). w.name) o.workspaces at
    ∙ e))

-- Hints at names, one name after another, and the names of workspaces.
use Rattle.std.proofs.Common.{◌≡◌, ◌∙◌, ◌+◌, ◌++◌, ◌∷◌, [], ℕ, zero, suc, List, Some, ap, append-nil, append_assoc, map, refl, sym, take}
use Rattle.std.specs.Prelude.{slice_get}
use Rattle.std.specs.Option.{option_map}
use Rattle.std.proofs.lemmas.List.{take_more}
use Rattle.std.proofs.lemmas.Option.{get_or_from_slice_get, slice_get_within}
use Rattle.clr_workspaces.specs.Marks.{Name}
use Rattle.clr_workspaces.specs.Workspaces.{Workspace}
use Rattle.clr_steps.specs.Offices.{Office}
use Rattle.clr_steps.specs.Readings.{name_at}
use Rattle.clr_office.specs.NameHints.{AddsHint, AreNameHints, workspace_names}

-- what is said at one more name
pub more_hints : (o : Office) (names : List Name) (name : Name) (old new : List ℕ) → AreNameHints o names old → AddsHint o name old new
    → AreNameHints o (names ++ name ∷ []) new
more_hints o [] name old new none (line, is, added) = (line, [], is, refl, added ∙ ap (λ ls. ls ++ line) none ∙ sym (append-nil line))
more_hints o (n ∷ ns) name old new (first, rest, at, are, e) (line, is, added) =
    (first, rest ++ line, at, more_hints o ns name rest (rest ++ line) are (line, is, refl), added ∙ ap (λ ls. ls ++ line) e ∙ append_assoc first rest line)

names_read : (ws : List Workspace) (at : ℕ) → option_map (λ w. w.name) (slice_get ws at) ≡ slice_get (map (λ w. w.name) ws) at
names_read [] at = refl
names_read (w ∷ ws) zero = refl
names_read (w ∷ ws) (suc at) = names_read ws at

pub name_read : (o : Office) (at : ℕ) → name_at o at ≡ slice_get (workspace_names o) at
name_read o zero = refl
name_read o (suc at) = names_read o.workspaces at

-- the names so far, and one more
pub more_names : (all : List Name) (at : ℕ) (name : Name) (old new : List Name) → slice_get all at ≡ Some name → old ≡ take at all → new ≡ old ++ name ∷ []
    → new ≡ take (at + 1) all
more_names all at name old new is before put =
    put ∙ ap (λ ns. ns ++ name ∷ []) before
    ∙ sym (take_more all at name (slice_get_within all at name is) ∙ ap (λ n. take at all ++ n ∷ []) (get_or_from_slice_get all at name name is))

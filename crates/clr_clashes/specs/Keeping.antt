-- Of clashes that are found one after another, those that hold no other are kept.
use Rattle.std.specs.Prelude.{◌≡◌, ◌==◌, ◌⊎◌, ℕ, Bool, not, List, [], ◌∷◌, ◌++◌, Option, Some, None, if◌then◌else◌}
use Rattle.std.specs.List.{filter, list_all, list_any}
use Rattle.clr_needs.specs.declared.needs.Need.{Need}
use Rattle.clr_needs.specs.declared.needs.VersionId.{VersionId}
use Rattle.clr_needs.specs.Picks.{Blocks, Picks}
use Rattle.clr_needs.specs.Settings.{Setting}
use Rattle.clr_clashes.specs.ListedClashes.{ListedClash}

-- all of one list are in another
abbrev pub is_all_in : List ℕ → List ℕ → Bool
is_all_in xs ys = list_all (λ x. list_any (λ y. y == x) ys) xs

-- one more clash: nothing changes where it holds one that is there; else those that hold it give way to it
abbrev pub with_clash : List ListedClash → ListedClash → List ListedClash
with_clash ks k = if list_any (λ j. is_all_in j.members k.members) ks then ks else filter (λ j. not (is_all_in k.members j.members)) ks ++ k ∷ []

-- one more need: nothing changes where witnesses are picked for it; else the members that break it are added
abbrev pub AddsNeedClash : Setting ℕ → Need → List ListedClash → List ListedClash → Type 0
AddsNeedClash c n old new = ((p : VersionId × Option VersionId) × Picks c n (Some p) × (new ≡ old))
    ⊎ ((members : List ℕ) × Picks c n None × Blocks c n members × (new ≡ with_clash old (record { members = members; need = n })))

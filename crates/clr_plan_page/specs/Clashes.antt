-- The smallest sets of the designs that can't be merged together, as a report tells them.
use Rattle.std.specs.Prelude.{◌≡◌, ◌⊎◌, ◌==◌, ℕ, Bool, true, false, List, [], ◌∷◌, Some, codes, length, map, slice_get, if◌then◌else◌}
use Rattle.std.specs.List.{filter_map}
use Rattle.clr_workspaces.specs.Marks.{Name}
use Rattle.clr_steps.specs.Offices.{Office}
use Rattle.clr_steps.specs.Quiet.{MergeSet}
use Rattle.clr_clearance.specs.declared.verdicts.Verdict.{Verdict}
use Rattle.clr_clearance.specs.declared.verdicts.Verdict.TheVariants as verdict
use Rattle.clr_clearance.specs.Verdicts.{names_fault}
use Rattle.clr_merge_clashes.specs.declared.clash_sets.MergeClash.{MergeClash}
use Rattle.clr_merge_clashes.specs.declared.clash_sets.MergeClashes.{MergeClashes}
use Rattle.clr_merge_clashes.specs.MergeClashes.{FindsClashes}
use Rattle.clr_merge_sets.specs.MergeSetNames.{merge_set}
use Rattle.clr_phrases.specs.Lists.{names_text}
use Rattle.clr_plan_sentences.specs.Causes.{reason_text}
use Rattle.clr_page_parts.specs.Shown.{Shown, Heading, Paragraph, Table}

-- the designs of a set
abbrev pub set_names : List Name → MergeClash → List Name
set_names members clash = filter_map (slice_get members) clash.members.items

-- designs of a root, and why they can't be merged together; the cause numbers them from 0 among themselves
abbrev pub set_row : Office → Name → List Name → Verdict → List (List ℕ)
set_row o root names cause = names_text names ∷ reason_text o (merge_set root names) cause ∷ []

-- the row of a set of the designs of a merge set
abbrev pub clash_row : Office → MergeSet → MergeClash → List (List ℕ)
clash_row o s clash = set_row o s.root (set_names s.members clash) clash.cause

abbrev pub set_heads : List (List ℕ)
set_heads = codes "Designs" ∷ codes "Why not together" ∷ []

-- a row for each set, in their order; or that there is none
abbrev pub sets_shown : Office → MergeSet → List MergeClash → Shown
sets_shown o s clashes =
    if length clashes == 0 then Paragraph (codes "No set of these designs clashes.") else Table set_heads (map (clash_row o s) clashes)

abbrev pub clashes_shown : Office → MergeSet → MergeClashes → List Shown
clashes_shown o s found = Heading (codes "The clashes") ∷ sets_shown o s found.clashes.items ∷ []

abbrev pub is_lost : Verdict → Bool
is_lost verdict.OutOfMemory = true
is_lost _ = false

-- the sets that are found, and nothing where a name is unfit
abbrev pub TellsClashes : Office → MergeSet → List Shown → Type 0
TellsClashes o s blocks =
    ((found : MergeClashes) × FindsClashes o s found × (blocks ≡ clashes_shown o s found))
    ⊎ ((fault : Verdict) × (names_fault o s ≡ Some fault) × (blocks ≡ []))

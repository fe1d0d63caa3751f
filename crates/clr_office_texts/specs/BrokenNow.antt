-- The needs that an office breaks now, in one list: what its text names as known.
use Rattle.std.specs.Prelude.{List, [], ◌∷◌, if◌then◌else◌}
use Rattle.std.specs.Ordering.{match_ordering}
use Rattle.clr_rules.specs.declared.needs.Broken.{Broken}
use Rattle.clr_rules.specs.declared.rules.Rule.{Rule}
use Rattle.clr_rules.specs.Needs.{broken_cmp, broken_needs}
use Rattle.clr_workspaces.specs.Workspaces.{Workspace, live_workspace}
use Rattle.clr_steps.specs.Offices.{Office}

-- ascending needs with one more, unless it is there
unfoldable pub with_need : Broken → List Broken → List Broken
with_need b [] = b ∷ []
with_need b (c ∷ cs) = match_ordering (broken_cmp b c) (b ∷ c ∷ cs) (c ∷ cs) (c ∷ with_need b cs)

-- ascending needs with more
unfoldable pub with_needs : List Broken → List Broken → List Broken
with_needs [] needs = needs
with_needs (b ∷ bs) needs = with_need b (with_needs bs needs)

-- the needs that some workspaces break, of those that are kept
unfoldable pub broken_in_kept : List Rule → List Workspace → List Broken
broken_in_kept book [] = []
broken_in_kept book (w ∷ ws) = with_needs (if w.kept then broken_needs book w.current else []) (broken_in_kept book ws)

-- the needs that LIVE or a kept workspace breaks, ascending, each once
unfoldable pub broken_now : Office → List Broken
broken_now o = broken_in_kept o.book (live_workspace o.live ∷ o.workspaces)

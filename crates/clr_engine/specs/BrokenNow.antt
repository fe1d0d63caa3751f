-- The needs that an office breaks.
use Rattle.std.specs.Prelude.{◌≡◌, ◌↔◌, true, List, Contains}
use Rattle.std.specs.List.Sorted.{IsStrictlySortedBy}
use Rattle.clr_rows.specs.Contents.{row_at}
use Rattle.clr_rules.specs.declared.needs.Broken.{Broken}
use Rattle.clr_rules.specs.Needs.{IsBroken, broken_cmp}
use Rattle.clr_workspaces.specs.Marks.{Name}
use Rattle.clr_steps.specs.Offices.{Office, content_of, is_kept}

-- LIVE, which is kept, or a workspace that is kept breaks a need
abbrev pub IsBrokenNow : Office → Broken → Type 0
IsBrokenNow o need = (name : Name) × (is_kept o name ≡ true) × IsBroken o.book (row_at (content_of o name)) need

-- just the needs that LIVE or a kept workspace breaks, ascending, each once
pub record AreBrokenNow (o : Office) (list : List Broken) : Type 0 where
  pub ascending : IsStrictlySortedBy broken_cmp list
  pub exactly : (need : Broken) → Contains list need ↔ IsBrokenNow o need

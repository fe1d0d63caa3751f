-- The contents of an office by position, LIVE having position 0.
use Rattle.std.specs.Prelude.{◌≡◌, ℕ, zero, suc, Option, Some, None, if◌then◌else◌, slice_get}
use Rattle.std.specs.Option.{option_and_then, option_map}
use Rattle.clr_rows.specs.Contents.{Content}
use Rattle.clr_workspaces.specs.Marks.{Name}
use Rattle.clr_judges.specs.KeptContents.{kept_content}
use Rattle.clr_steps.specs.Offices.{Office, content_of, is_kept}
use Rattle.clr_steps.specs.Readings.{name_at}

-- the current content at a position
abbrev pub current_at : Office → ℕ → Option Content
current_at o zero = Some o.live
current_at o (suc at) = option_map (λ w. w.current) (slice_get o.workspaces at)

-- the content of a workspace by its position, if no command may break a need anew in it
abbrev pub kept_content_at : Office → ℕ → Option Content
kept_content_at o zero = Some o.live
kept_content_at o (suc at) = option_and_then kept_content (slice_get o.workspaces at)

-- LIVE or the workspace of a name has this position
pub record IsPositionOf (o : Office) (name : Name) (at : ℕ) : Type 0 where
  pub named : name_at o at ≡ Some name
  pub current : current_at o at ≡ Some (content_of o name)
  pub kept : kept_content_at o at ≡ (if is_kept o name then Some (content_of o name) else None)

use Rattle.std.proofs.Common.{◌≡◌, ◌++◌, map, drop}
use Rattle.clr_engine.specs.Drafts.{delta_in}
use Rattle.clr_office_writing.specs.Tokens.{list_tokens, tokens_of}
use Rattle.clr_office_writing.specs.Values.{list_data}
use Rattle.clr_office_writing.specs.WorkspaceData.{delta_data}
use Rattle.clr_office_texts.proofs.writing.with_workspaces.Given as goal

-- the workspaces before the position are written
abbrev pub invariant-loop-position : goal.invariant-loop-position
invariant-loop-position l =
    l.text ++ list_tokens (delta_data l.office.schema) (map (delta_in l.office) (drop l.position l.office.workspaces))
    ≡ l.fn.text ++ tokens_of (list_data (delta_data l.office.schema) (map (delta_in l.office) l.office.workspaces))

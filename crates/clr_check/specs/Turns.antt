-- Who holds a member back, and whose merge was done.
use Rattle.std.specs.Prelude.{Bool, true, false, ◌&&◌, not, List}
use Rattle.clr_workspaces.specs.Marks.{Name}
use Rattle.clr_steps.specs.declared.commands.Reply.{Reply}
use Rattle.clr_steps.specs.declared.commands.Reply.TheVariants.{Done}
use Rattle.clr_steps.specs.Names.{has, same_name}
use Rattle.clr_steps.specs.Quiet.{MergeSet, is_member}
use Rattle.clr_cert.specs.declared.certificates.Precedence.{Precedence}

-- by the precedence another member goes before the member of this name, and isn't merged
abbrev pub is_held_back_by : MergeSet → List Name → Name → Precedence → Bool
is_held_back_by merge_set merged name p = same_name p.later name && (is_member merge_set p.earlier && not (has merged p.earlier))

abbrev pub is_done : Reply → Bool
is_done Done = true
is_done _ = false

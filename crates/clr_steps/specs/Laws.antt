-- What holds of steps by their definitions, whatever the code does.
use Rattle.std.specs.Prelude.{◌≡◌, ◌↔◌, true, false, List, [], ◌∷◌, ◌++◌, Option, Some, None, if◌then◌else◌, is_some}
use Rattle.std.specs.Option.{option_map_or}
use Rattle.clr_rows.specs.declared.tables.TableDef.{TableDef}
use Rattle.clr_rows.specs.Contents.{Content, no_rows, row_at}
use Rattle.clr_rules.specs.declared.rules.Rule.{Rule}
use Rattle.clr_rows.specs.Held.{Held}
use Rattle.clr_rules.specs.declared.needs.Ask.{Ask}
use Rattle.clr_rules.specs.Needs.{BreaksNoMore, IsKept, View}
use Rattle.clr_workspaces.specs.Marks.{Name}
use Rattle.clr_workspaces.specs.Workspaces.{Workspace, find}
use Rattle.clr_workspaces.specs.Soundness.{IsSound}
use Rattle.clr_steps.specs.declared.commands.Command.{Command}
use Rattle.clr_steps.specs.declared.commands.Command.TheVariants as command
use Rattle.clr_steps.specs.declared.commands.Reply.{Reply}
use Rattle.clr_steps.specs.declared.commands.Reply.TheVariants.{Done, OutOfMemory}
use Rattle.clr_steps.specs.Names.{is_live, same_name}
use Rattle.clr_steps.specs.Offices.{Office, office_of, workspace, stands, content_of, is_kept}
use Rattle.clr_steps.specs.Effects.{effect}
use Rattle.clr_steps.specs.Refusals.{above_or, refusal, depth}
use Rattle.clr_steps.specs.Positions.{is_top, below_top, content_at, kept_at, depth_at, refusal_at, effect_at}
use Rattle.clr_steps.specs.Steps.{refused_or_done, step, is_lost, IsAnswer, AreAnswers, run, lost_in}
use Rattle.clr_steps.specs.Invariants.{HoldsWhereKept, OfficeFits, first_unheld}
use Rattle.clr_steps.specs.Quiet.{MergeSet, IsRootKept, LeavesMergeSet, is_quiet, is_of_member}

-- what an office says of a name, by the position at which its tree finds it
pub record IsSeen (o : Office) (ws : List Workspace) (name : Name) : Type 0 where
  pub live : is_live name ≡ is_top (find ws name)
  pub workspace : workspace o name ≡ below_top ws (find ws name)
  pub stands : stands o name ≡ is_some (find ws name)
  pub content : content_of o name ≡ content_at ws (find ws name)
  pub kept : is_kept o name ≡ kept_at ws (find ws name)
  pub depth : depth o name ≡ depth_at ws (find ws name)

abbrev pub NameLaw : Type 0
NameLaw = (schema : List TableDef) (book : List Rule) (ws : List Workspace) → IsSound ws → (name : Name) → IsSeen (office_of schema book ws) ws name

-- a command by name is refused for what it is refused for by position
abbrev pub RefusalLaw : Type 0
RefusalLaw = (schema : List TableDef) (book : List Rule) (ws : List Workspace) → IsSound ws → (c : Command)
    → refusal (office_of schema book ws) c ≡ refusal_at schema book ws c

-- where a command isn't refused, what it leaves by position makes the office that it leaves by name
abbrev pub EffectLaw : Type 0
EffectLaw = (schema : List TableDef) (book : List Rule) (ws : List Workspace) → IsSound ws → (c : Command)
    → refusal_at schema book ws c ≡ None → office_of schema book (effect_at ws c) ≡ effect (office_of schema book ws) c

-- a step by name, told by position
abbrev pub StepLaw : Type 0
StepLaw = (schema : List TableDef) (book : List Rule) (ws : List Workspace) → IsSound ws → (c : Command)
    → let o = office_of schema book ws in step o c ≡ refused_or_done (refusal_at schema book ws c) o (office_of schema book (effect_at ws c))

-- what works by position answers and leaves: it finds no memory, or the command is refused, or it is done
pub data IsPerformed (refusal : Option Reply) (ws next : List Workspace) (reply : Reply) (left : List Workspace) : Type 0 where
  without_memory : reply ≡ OutOfMemory → left ≡ ws → IsPerformed refusal ws next reply left
  refused : refusal ≡ Some reply → left ≡ ws → IsPerformed refusal ws next reply left
  done : refusal ≡ None → reply ≡ Done → left ≡ next → IsPerformed refusal ws next reply left

-- what works by position answers the step by name
abbrev pub AnswerLaw : Type 0
AnswerLaw = (schema : List TableDef) (book : List Rule) (ws : List Workspace) → IsSound ws → (c : Command) (reply : Reply) (left : List Workspace)
    → IsPerformed (refusal_at schema book ws c) ws (effect_at ws c) reply left → IsAnswer (office_of schema book ws) c reply (office_of schema book left)

-- a step itself is never answered OutOfMemory: the commands that are answered so are those that are lost
abbrev pub MemoryLaw : Type 0
MemoryLaw = (o : Office) (c : Command) → is_lost (step o c).reply ≡ false

-- replies to commands one after another are those of a run in which the commands answered OutOfMemory are lost
abbrev pub RunLaw : Type 0
RunLaw = (o : Office) (commands : List Command) (replies : List Reply) (left : Office)
    → AreAnswers o commands replies left → run o commands (lost_in replies) ≡ record { replies = replies; office = left }

-- one more reply goes on with the run
abbrev pub MoreLaw : Type 0
MoreLaw = (o : Office) (commands : List Command) (replies : List Reply) (now : Office) (c : Command) (reply : Reply) (left : Office)
    → AreAnswers o commands replies now → IsAnswer now c reply left → AreAnswers o (commands ++ c ∷ []) (replies ++ reply ∷ []) left

-- a step leaves schema and rules
abbrev pub SchemaLaw : Type 0
SchemaLaw = (o : Office) (c : Command) → ((step o c).office.schema ≡ o.schema) × ((step o c).office.book ≡ o.book)

-- a step leaves every rule holding where it is to hold
abbrev pub RulesLaw : Type 0
RulesLaw = (o : Office) (c : Command) → HoldsWhereKept o → HoldsWhereKept (step o c).office

-- rows break no need that none of the kept contents of an office breaks, with the same rows
abbrev pub BreaksNoMoreThanKept : Office → View → Type 0
BreaksNoMoreThanKept o view = (ask : Ask) (first : Held) (second : Option Held)
    → ((name : Name) → is_kept o name ≡ true → IsKept o.book (row_at (content_of o name)) ask first second)
    → IsKept o.book view ask first second

-- what is broken in LIVE or a kept workspace after a step was broken in one of them before, with the same rows
abbrev pub KeptLaw : Type 0
KeptLaw = (o : Office) (c : Command) (name : Name) → is_kept (step o c).office name ≡ true
    → BreaksNoMoreThanKept o (row_at (content_of (step o c).office name))

-- a step breaks no need in LIVE but those that are broken there already, with the same rows
abbrev pub LiveLaw : Type 0
LiveLaw = (o : Office) (c : Command) → BreaksNoMore o.book (row_at o.live) (row_at (step o c).office.live)

-- the content with which that of a workspace after a command is compared: after a refresh of it, what its parent has, if that is kept; after hold the same,
-- or else no rows; and what it had itself, if it was kept, and after every other command
abbrev pub compared_with : Office → Command → Name → Content
compared_with o (command.Refresh n) name =
    if same_name n name then option_map_or (λ w. above_or o w w.current) (workspace o name) no_rows else content_of o name
compared_with o (command.Hold n) name =
    if same_name n name then option_map_or (λ w. if w.kept then w.current else above_or o w no_rows) (workspace o name) no_rows else content_of o name
compared_with o _ name = content_of o name

-- after a command that isn't refused a kept content breaks no need but those that the content breaks with which it is compared, with the same rows
abbrev pub ComparedLaw : Type 0
ComparedLaw = (o : Office) (c : Command) (name : Name) → refusal o c ≡ None → is_kept (step o c).office name ≡ true
    → BreaksNoMore o.book (row_at (compared_with o c name)) (row_at (content_of (step o c).office name))

-- an office after commands breaks nothing that wasn't broken before, with the same rows: LIVE no need but those that LIVE broke, and a kept workspace no
-- need that no kept content broke; where every rule held where it is to hold, it goes on holding there
pub record BreaksNothingNew (before after : Office) : Type 0 where
  pub book : after.book ≡ before.book
  pub rules : HoldsWhereKept before → HoldsWhereKept after
  pub live : BreaksNoMore before.book (row_at before.live) (row_at after.live)
  pub kept : (name : Name) → is_kept after name ≡ true → BreaksNoMoreThanKept before (row_at (content_of after name))

-- commands break nothing new, whatever they are answered
abbrev pub NothingNewLaw : Type 0
NothingNewLaw = (o : Office) (commands : List Command) (replies : List Reply) (left : Office) → AreAnswers o commands replies left → BreaksNothingNew o left

-- every rule holds where it is to hold exactly where no workspace of the tree is unheld
abbrev pub UnheldLaw : Type 0
UnheldLaw = (schema : List TableDef) (book : List Rule) (ws : List Workspace)
    → IsSound ws → (first_unheld book ws ≡ None) ↔ HoldsWhereKept (office_of schema book ws)

-- a step leaves rows that fit the schema
abbrev pub FitLaw : Type 0
FitLaw = (o : Office) (c : Command) → OfficeFits o → OfficeFits (step o c).office

-- a quiet command that is no merge or refresh of a member leaves the root and the members
abbrev pub QuietLaw : Type 0
QuietLaw = (merge_set : MergeSet) (o : Office) (c : Command)
    → IsRootKept o merge_set → is_quiet o merge_set c ≡ true → is_of_member merge_set c ≡ false → LeavesMergeSet merge_set o (step o c).office

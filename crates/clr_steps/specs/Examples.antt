-- Runs in an office without rows, whose replies are computed from the definitions.
use Rattle.std.specs.Prelude.{◌≡◌, true, false, List, [], ◌∷◌, codes}
use Rattle.clr_rows.specs.Contents.{no_rows}
use Rattle.clr_rows.specs.Names.{live_name}
use Rattle.clr_workspaces.specs.Marks.{Name}
use Rattle.clr_steps.specs.declared.commands.Command.{Command}
use Rattle.clr_steps.specs.declared.commands.Command.TheVariants.{Create, Remove, Unmark, RollTo, RollAll, Refresh, Merge, Hold, Release}
use Rattle.clr_steps.specs.declared.commands.Command.TheVariants as command
use Rattle.clr_steps.specs.declared.commands.Reply.{Reply}
use Rattle.clr_steps.specs.declared.commands.Reply.TheVariants.{Done, NoWorkspace, NameTaken, BadName, LiveIsFixed, NotLeaf}
use Rattle.clr_steps.specs.declared.commands.Reply.TheVariants.{TooMany, NoSavepoint, SavepointHeld}
use Rattle.clr_steps.specs.Offices.{Office}
use Rattle.clr_steps.specs.Steps.{run}

-- an office without rows, rules or workspaces
abbrev pub empty_office : Office
empty_office = record { schema = []; book = []; live = no_rows; workspaces = [] }

-- the replies where all memory is found
abbrev pub replies_to : List Command → List Reply
replies_to commands = (run empty_office commands (λ k. false)).replies

abbrev pub first : Name
first = codes "A"

abbrev pub second : Name
second = codes "B"

abbrev pub savepoint : Name
savepoint = codes "s"

-- which names a command is refused, and what LIVE is refused
abbrev pub NameExample : Type 0
NameExample =
    replies_to (Create live_name live_name ∷ Create (codes "9a") live_name ∷ Create first second ∷ Create first live_name ∷ Create first live_name
    ∷ Refresh live_name ∷ Release first ∷ Release second ∷ Hold live_name ∷ command.Mark live_name savepoint ∷ [])
    ≡ NameTaken ∷ BadName ∷ NoWorkspace ∷ Done ∷ NameTaken ∷ LiveIsFixed ∷ Done ∷ NoWorkspace ∷ LiveIsFixed ∷ LiveIsFixed ∷ []

-- a savepoint is held by the mark of a child that was made later, and a workspace by its children
abbrev pub SavepointExample : Type 0
SavepointExample =
    replies_to (Create first live_name ∷ command.Mark first savepoint ∷ command.Mark first savepoint ∷ command.Mark first (codes "1s")
    ∷ Create second first ∷ RollTo first savepoint ∷ Merge first true ∷ RollAll first ∷ Remove first ∷ Remove second
    ∷ RollTo first savepoint ∷ Unmark first savepoint ∷ Unmark first savepoint ∷ RollTo first savepoint ∷ [])
    ≡ Done ∷ Done ∷ NameTaken ∷ BadName ∷ Done ∷ SavepointHeld ∷ NotLeaf ∷ NotLeaf ∷ NotLeaf ∷ Done ∷ Done ∷ Done ∷ NoSavepoint ∷ NoSavepoint ∷ []

-- a savepoint isn't held by the mark of a child that was made earlier; rolling back takes only the later savepoints
abbrev pub RollExample : Type 0
RollExample =
    replies_to (Create first live_name ∷ Create second first ∷ command.Mark first savepoint ∷ command.Mark first second
    ∷ RollTo first savepoint ∷ Unmark first second ∷ RollTo first savepoint ∷ Remove second ∷ RollAll first ∷ Unmark first savepoint ∷ [])
    ≡ Done ∷ Done ∷ Done ∷ Done ∷ Done ∷ NoSavepoint ∷ Done ∷ Done ∷ Done ∷ NoSavepoint ∷ []

-- eight levels under LIVE, and no ninth
abbrev pub LevelExample : Type 0
LevelExample =
    replies_to (Create first live_name ∷ Create second first ∷ Create (codes "C") second ∷ Create (codes "D") (codes "C")
    ∷ Create (codes "E") (codes "D") ∷ Create (codes "F") (codes "E") ∷ Create (codes "G") (codes "F") ∷ Create (codes "H") (codes "G")
    ∷ Create (codes "I") (codes "H") ∷ Create (codes "J") (codes "G") ∷ [])
    ≡ Done ∷ Done ∷ Done ∷ Done ∷ Done ∷ Done ∷ Done ∷ Done ∷ TooMany ∷ Done ∷ []

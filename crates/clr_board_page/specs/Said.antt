-- What is said of designs: their root, their names, their clashes with who helps these, and who goes before whom.
use Rattle.std.specs.Prelude.{List, map}
use Rattle.clr_workspaces.specs.Marks.{Name}
use Rattle.clr_steps.specs.Quiet.{MergeSet}
use Rattle.clr_clash_helpers.specs.declared.helped.HelpedClash.{HelpedClash}
use Rattle.clr_board.specs.declared.boards.Board.{Board}
use Rattle.clr_board.specs.declared.turns.Turn.{Turn}
use Rattle.clr_board_page.specs.declared.told.Told.{Told}

pub record Said : Type 0 where
  pub root : Name
  pub names : List Name
  pub helped : List HelpedClash
  pub turns : List Turn

-- of a value
abbrev pub said_in : Told → Said
said_in told = record {
  root = told.root.now;
  names = map (λ name. name.now) told.names.now;
  helped = told.helped.now;
  turns = told.turns.now;
}

-- of a board of the members of a merge set
abbrev pub said_by : MergeSet → Board → Said
said_by s board = record { root = s.root; names = s.members; helped = board.helped.items; turns = board.turns.items }

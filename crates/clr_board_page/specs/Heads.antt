-- The head of a board: how many designs can go, and which were not looked at with the others.
use Rattle.std.specs.Prelude.{◌==◌, ℕ, Bool, true, false, List, [], ◌∷◌, ◌++◌, codes, count_by, decimal, length, if◌then◌else◌}
use Rattle.std.specs.List.{list_all}
use Rattle.clr_rows.specs.Contents.{Changes}
use Rattle.clr_workspaces.specs.Marks.{Name}
use Rattle.clr_steps.specs.Quiet.{MergeSet}
use Rattle.clr_html.specs.declared.blocks.Tone.{Tone}
use Rattle.clr_html.specs.declared.blocks.Tone.TheVariants.{Good, Bad, Neither}
use Rattle.clr_merge_clashes.specs.Beside.{beside}
use Rattle.clr_phrases.specs.Lists.{names_text}
use Rattle.clr_page_parts.specs.Shown.{Shown, Heading, Picture, Verdict, said as paragraph}
use Rattle.clr_board.specs.declared.states.DesignState.{DesignState}
use Rattle.clr_board.specs.declared.states.DesignState.TheVariants.{Free, Waiting, Unaided, Conflicted, Clashing}
use Rattle.clr_board.specs.States.{goes}
use Rattle.clr_board_page.specs.declared.heads.StateKind.{StateKind}
use Rattle.clr_board_page.specs.declared.heads.StateKind.TheVariants as kind
use Rattle.clr_board_page.specs.Said.{Said}
use Rattle.clr_board_page.specs.States.{designs_table}

-- a state is of this kind
abbrev pub is_kind : StateKind → DesignState → Bool
is_kind kind.CanGo Free = true
is_kind kind.Waits Waiting = true
is_kind kind.Clashes Clashing = true
is_kind kind.IsRefused Unaided = true
is_kind kind.IsInConflict Conflicted = true
is_kind k state = false

abbrev pub count_of : StateKind → List DesignState → ℕ
count_of k states = count_by (is_kind k) states

-- welcome where all can go now, unwelcome where one can't go at all
abbrev pub board_tone : List DesignState → Tone
board_tone states =
    if length states == 0 then Neither else if list_all (is_kind kind.CanGo) states then Good else if list_all goes states then Neither else Bad

abbrev pub board_word : List DesignState → List ℕ
board_word states =
    if length states == 0 then codes "No designs"
    else decimal (count_of kind.CanGo states) ++ codes " of " ++ decimal (length states) ++ codes " designs can go now"

abbrev pub board_about : Name → List ℕ
board_about root = codes "into " ++ root

-- how many stand in one way
abbrev pub kind_text : List ℕ → StateKind → List DesignState → List ℕ
kind_text words k states = words ++ decimal (count_of k states)

-- how many stand in which way
abbrev pub tally_text : List DesignState → List ℕ
tally_text states =
    kind_text (codes "Can go now: ") kind.CanGo states ++ kind_text (codes ". Wait for others: ") kind.Waits states
    ++ kind_text (codes ". Clash: ") kind.Clashes states ++ kind_text (codes ". Refused alone: ") kind.IsRefused states
    ++ kind_text (codes ". In conflict: ") kind.IsInConflict states ++ codes "."

-- those that weren't looked at with the others ---------------------------------------------------------

abbrev pub beside_text : List Name → List ℕ
beside_text [] = []
beside_text (name ∷ names) =
    codes "Each of these changes a row that a design before it changes too, and wasn't looked at with the others: " ++ names_text (name ∷ names)
    ++ codes ". A design that can go may clash with one of them."

-- the whole --------------------------------------------------------------------------------------------

-- how many can go, how many stand in which way, and then the table of all
abbrev pub head_shown : MergeSet → Said → List DesignState → List Changes → List ℕ → List Shown
head_shown s said states sets looked =
    Verdict (board_tone states) (board_word states) (board_about s.root)
    ∷ (paragraph (tally_text states) ++ (paragraph (beside_text (beside s looked)) ++ Heading (codes "The designs") ∷ Picture (designs_table said sets) ∷ []))

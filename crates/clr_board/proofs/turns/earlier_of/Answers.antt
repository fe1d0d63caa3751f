use Rattle.std.proofs.Common.{◌∙◌, ◌++◌, ◌∷◌, [], ap, get_or, sym}
use Rattle.clr_board.specs.declared.turns.Turn.{Turn}
use Rattle.clr_board.specs.Boards.{earlier_of}
use Rattle.clr_board.proofs.EarlierTurns.{earlier_more}
use Rattle.clr_board.proofs.turns.earlier_of.Goals as goal

pub loop-turn-preserved : goal.loop-turn-preserved
loop-turn-preserved c =
    let turns = c.args.turns.now in
    let k = c.loop-turn.turn-index in
    let none : Turn = record { earlier = 0; later = 0 } in
    c.in_ok-add_earlier.ensures ∙ ap (λ earlier. earlier ++ earlier_of (get_or turns k none ∷ []) c.args.at) c.loop-turn.invariant
    ∙ sym (earlier_more turns c.args.at k none c.loop-turn-test.true)

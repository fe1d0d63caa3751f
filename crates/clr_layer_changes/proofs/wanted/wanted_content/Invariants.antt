use Rattle.std.proofs.Common.{◌≡◌}
use Rattle.clr_layer_changes.specs.Wanted.{wanted_over, with_layer_at}
use Rattle.clr_layer_changes.proofs.TurnLemmas.{after_rest}
use Rattle.clr_layer_changes.proofs.wanted.wanted_content.Given as goal

-- the content so far, with the layers that are left, is the one that is wanted
abbrev pub invariant-loop-i : goal.invariant-loop-i
invariant-loop-i l = after_rest (with_layer_at l.schema l.taken l.options l.layers) 0 l.content l.i l.layers
    ≡ wanted_over l.schema l.base l.taken l.options l.layers

use Rattle.std.proofs.Common.{◌≡◌}
use Rattle.clr_rows.specs.Contents.{Content, changes}
use Rattle.clr_layer_changes.specs.Wanted.{wanted_over, with_layer_at}
use Rattle.clr_layer_changes.proofs.TurnLemmas.{after_rest}
use Rattle.clr_layer_changes.proofs.layer_edits.wanted_edits.Given as goal

-- the changes so far lead to a content, from which the layers that are left lead to the one that is wanted
abbrev pub invariant-loop-i : goal.invariant-loop-i
invariant-loop-i l = (content : Content) × (l.set ≡ changes l.base content)
    × (after_rest (with_layer_at l.schema l.taken l.options l.layers) 0 content l.i l.layers ≡ wanted_over l.schema l.base l.taken l.options l.layers)

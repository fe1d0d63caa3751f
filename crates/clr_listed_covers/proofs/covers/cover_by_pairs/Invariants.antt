use Rattle.std.proofs.Common.{Contains, take}
use Rattle.clr_foot.specs.Scenes.{model_of, setting_of}
use Rattle.clr_order_answers.specs.declared.pairs.Pair.{Pair}
use Rattle.clr_listed_covers.specs.Covers.{IsNoPairFor}
use Rattle.clr_listed_covers.proofs.covers.cover_by_pairs.Given as goal

-- none of the pairs so far serves the need
abbrev pub invariant-loop-pair : goal.invariant-loop-pair
invariant-loop-pair g l = (p : Pair) → Contains (take l.pair-index l.pairs) p → IsNoPairFor (setting_of (model_of g.V.RowView.content l.scene)) l.need p

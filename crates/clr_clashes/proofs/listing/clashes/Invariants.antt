use Rattle.std.proofs.Common.{Contains, map, take}
use Rattle.clr_foot.specs.Scenes.{model_of, setting_of}
use Rattle.clr_clashes.specs.ListedClashes.{listed_clash_of}
use Rattle.clr_clashes.proofs.Kept.{AreKept}
use Rattle.clr_clashes.proofs.listing.clashes.Given as goal

-- of the clashes of the needs so far, those that hold no other are kept
abbrev pub invariant-loop-need : goal.invariant-loop-need
invariant-loop-need g l = AreKept (setting_of (model_of g.V.RowView.content l.scene)) (λ n. Contains (take l.need-index l.need-items) n)
    (map listed_clash_of l.list.items)

use Rattle.std.proofs.Common.{◌∙◌, refl, subst, sym}
use Rattle.std.proofs.lemmas.List.{take_all}
use Rattle.clr_order_knots.specs.Members.{is_on, needs_at}
use Rattle.clr_order_knots.specs.OpenNeeds.{AreWithin}
use Rattle.clr_order_knots.proofs.Tables.{Adds, no_place_taken, none_marked_yet, one_place}
use Rattle.clr_order_knots.proofs.sides.mark_side.Goals as goal

pub loop-at-init : goal.loop-at-init
loop-at-init c = record { long = refl; adds = none_marked_yet c.args.table.now.items _ (no_place_taken c.args.needs.now c.args.places.now c.args.side) }

pub mark_at-requires : goal.mark_at-requires
mark_at-requires c = subst (AreWithin c.args.needs.now) (sym c.loop-at.invariant.long) c.requires

pub loop-at-preserved : goal.loop-at-preserved
loop-at-preserved c = record {
  long = c.mark_at.ensures.long ∙ c.loop-at.invariant.long;
  adds = one_place c.args.needs.now c.args.places.now c.args.side c.args.table.now.items c.loop-at.table.items c.loop-at.at-index c.loop-at-test.true
      c.loop-at.invariant.adds c.mark_at.new.table.items c.mark_at.ensures.marked;
}

pub returns : goal.returns
returns c = record {
  long = c.loop-at.invariant.long;
  marked = subst (λ ps. Adds c.args.table.now.items c.loop-at.table.items (is_on c.args.side (needs_at c.args.needs.now ps)))
      (take_all c.loop-at.at-index c.args.places.now c.loop-at-test.false) c.loop-at.invariant.adds;
}

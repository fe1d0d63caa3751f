use Rattle.std.proofs.Common.{◌∙◌, ◌+◌, ◌<◌, ap, get_or, length, refl, subst, sym, take}
use Rattle.std.proofs.lemmas.List.{length-set, take_all}
use Rattle.std.proofs.lemmas.Option.{slice_get-get_or}
use Rattle.clr_order_search.specs.OpenNeeds.{has}
use Rattle.clr_order_search.proofs.Rests.{has_at}
use Rattle.clr_order_knots.proofs.Tables.{Adds, none_marked_yet, none_taken, one_marked}
use Rattle.clr_order_knots.proofs.sides.mark.Goals as goal

pub loop-member-init : goal.loop-member-init
loop-member-init c = record { long = refl; adds = none_marked_yet c.args.table.now.items _ (none_taken c.args.members.now) }

pub set_mark-requires : goal.set_mark-requires
set_mark-requires c = subst (λ n. get_or c.args.members.now c.loop-member.member-index 0 < n) (sym c.loop-member.invariant.long)
    (c.requires _ (has_at c.args.members.now c.loop-member.member-index _
    (slice_get-get_or c.args.members.now c.loop-member.member-index 0 c.loop-member-test.true)))

pub loop-member-preserved : goal.loop-member-preserved
loop-member-preserved c =
    let members = c.args.members.now in
    let k = c.loop-member.member-index in
    let within = subst (λ n. get_or members k 0 < n) (sym c.loop-member.invariant.long)
    (c.requires _ (has_at members k _ (slice_get-get_or members k 0 c.loop-member-test.true))) in
    record {
      long = ap length c.set_mark.ensures ∙ length-set c.loop-member.table.items _ _ ∙ c.loop-member.invariant.long;
      adds = subst (λ t. Adds c.args.table.now.items t (has (take (k + 1) members))) (sym c.set_mark.ensures)
          (one_marked c.args.table.now.items c.loop-member.table.items members k c.loop-member-test.true within c.loop-member.invariant.adds);
    }

pub returns : goal.returns
returns c = record {
  long = c.loop-member.invariant.long;
  marked = subst (λ ms. Adds c.args.table.now.items c.loop-member.table.items (has ms))
      (take_all c.loop-member.member-index c.args.members.now c.loop-member-test.false) c.loop-member.invariant.adds;
}

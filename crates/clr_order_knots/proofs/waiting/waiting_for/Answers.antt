use Rattle.std.proofs.Common.{◌∙◌, ◌&&◌, ◌++◌, ◌∷◌, ℕ, [], ap, false, get_or, refl, subst, sym, take}
use Rattle.std.specs.List.{list_any}
use Rattle.std.proofs.lemmas.List.{take_all, take_more}
use Rattle.clr_order_search.specs.declared.open_needs.OpenNeed.{OpenNeed}
use Rattle.clr_order_search.specs.OpenNeeds.{has}
use Rattle.clr_order_knots.specs.Waiting.{makes_wait}
use Rattle.clr_order_knots.proofs.Tables.{Adds, none_marked_yet, nothing_taken, one_added, only_added}
use Rattle.clr_order_knots.proofs.waiting.waiting_for.Goals as goal

pub loop-need-init : goal.loop-need-init
loop-need-init c =
    let test = λ (n : OpenNeed) (m : ℕ). makes_wait (λ x. get_or c.args.waiting.now x false) n && has n.blockers.items m in
    record { long = refl; adds = none_marked_yet c.in_ok-table.table.items _ (nothing_taken test c.args.needs.now) }

pub loop-need-preserved : goal.loop-need-preserved
loop-need-preserved c =
    let needs = c.args.needs.now in
    let k = c.loop-need.need-index in
    let test = λ (n : OpenNeed) (m : ℕ). makes_wait (λ x. get_or c.args.waiting.now x false) n && has n.blockers.items m in
    record {
      long = c.mark_waiting.ensures.long ∙ c.loop-need.invariant.long;
      adds = one_added test c.in_ok-table.table.items c.loop-need.table.items c.mark_waiting.new.table.items needs k c.need-item.result
          (take_more needs k c.need-item.result c.loop-need-test.true ∙ ap (λ n. take k needs ++ n ∷ []) (sym c.need-item.is))
          c.loop-need.invariant.adds c.mark_waiting.ensures.marked;
    }

pub returns : goal.returns
returns c =
    let test = λ (n : OpenNeed) (m : ℕ). makes_wait (λ x. get_or c.args.waiting.now x false) n && has n.blockers.items m in
    only_added c.in_ok-table.table.items c.loop-need.table.items _ c.in_ok-table.ensures.empty
    (subst (λ ns. Adds c.in_ok-table.table.items c.loop-need.table.items (λ m. list_any (λ n. test n m) ns))
    (take_all c.loop-need.need-index c.args.needs.now c.loop-need-test.false) c.loop-need.invariant.adds)

use Rattle.std.proofs.Common.{◌≡◌, ◌-◌, ◌^◌, ap}
use Rattle.clr_order_search.specs.Searching.{CanFollow, TellsBelow, none_merged}
use Rattle.clr_order_search.proofs.Circles.{none_works}
use Rattle.clr_order_search.proofs.Following.{all_told, told_false, told_true}
use Rattle.clr_order_search.proofs.orders.first_order.Goals as goal

pub returns-then-not-index : goal.returns-then-not-index
returns-then-not-index c =
    let all : c.number_of_sets-all.result - 1 ≡ 2 ^ c.args.count - 1 = ap (λ n. n - 1) c.number_of_sets-all.ensures in (
      c.if-count-gt-MOST_SEARCHED.false,
      none_works c.args.needs.now c.args.count (told_false _ (CanFollow c.args.needs.now c.args.count none_merged)
          (all_told c.args.needs.now c.args.count c.in_ok-table.table.items _ _ all c.index.ensures c.in_ok-table.ensures) c.if-not-index.true),
    )

pub returns : goal.returns
returns c =
    let all : c.number_of_sets-all.result - 1 ≡ 2 ^ c.args.count - 1 = ap (λ n. n - 1) c.number_of_sets-all.ensures in
    let told : TellsBelow c.args.needs.now c.args.count c.as_slice.result.now (2 ^ c.args.count) = rw c.as_slice.ensures.value c.in_ok-table.ensures in (
      c.if-count-gt-MOST_SEARCHED.false,
      c.in_ok-order.ensures c.args.needs.now told (told_true _ (CanFollow c.args.needs.now c.args.count none_merged)
          (all_told c.args.needs.now c.args.count c.in_ok-table.table.items _ _ all c.index.ensures c.in_ok-table.ensures) c.if-not-index.false),
    )

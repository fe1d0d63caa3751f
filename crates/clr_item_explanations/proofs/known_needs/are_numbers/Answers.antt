use Rattle.clr_item_explanations.proofs.NeedLemmas.{counted, uncounted}
use Rattle.clr_item_explanations.proofs.known_needs.are_numbers.Goals as goal

pub returns-then-is_count : goal.returns-then-is_count
returns-then-is_count c =
    counted c.args.kind.now c.args.items.now c.is_count.result c.are_whole_numbers.result c.is_count.ensures c.if-is_count.true c.are_whole_numbers.ensures

pub returns-else-is_count : goal.returns-else-is_count
returns-else-is_count c = uncounted c.args.kind.now c.args.items.now c.is_count.result c.is_count.ensures c.if-is_count.false

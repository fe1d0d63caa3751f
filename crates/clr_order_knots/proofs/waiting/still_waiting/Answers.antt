use Rattle.std.proofs.Common.{◌≡◌, ◌∙◌, false, get_or}
use Rattle.std.specs.List.{filter}
use Rattle.clr_order_search.specs.OpenNeeds.{has}
use Rattle.clr_order_knots.specs.Waiting.{waits_for}
use Rattle.clr_order_knots.proofs.Tables.{only_added}
use Rattle.clr_order_knots.proofs.waiting.still_waiting.Goals as goal

pub returns : goal.returns
returns c =
    let needs = c.args.needs.now in
    let members = c.args.members.now in
    let told = only_added c.in_ok-waiting.waiting.items c.mark.new.table.items (has members) c.in_ok-waiting.ensures.empty c.mark.ensures.marked in
    c.in_ok-list.ensures
    ∙ (λ i. filter (λ m. get_or (c.as_slice-2.ensures.value i) m false) members)
    ∙ (λ i. filter (λ m. c.in_ok-table.ensures m i) members)
    ∙ (λ i. filter (waits_for needs (λ m. get_or (c.as_slice.ensures.value i) m false)) members)
    ∙ (λ i. filter (waits_for needs (λ m. told m i)) members)

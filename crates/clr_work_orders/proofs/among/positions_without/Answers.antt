use Rattle.std.proofs.Common.{◌∙◌, ◌==◌, ℕ, List, ap, not, rules}
use Rattle.std.proofs.lemmas.Fn.{filter_same}
use Rattle.clr_work_orders.specs.Among.{positions_without}
use Rattle.clr_work_orders.proofs.among.positions_without.Goals as goal

pub returns : goal.returns
returns c =
    let left_out = c.args.left_out in
    filter_same _ (λ k. not (k == left_out)) _ (λ x b g call. search rules) _ _ c.retain.ensures.filtered
    ∙ ap (λ (ks : List ℕ). positions_without ks left_out) c.in_ok-rest.ensures.items

use Rattle.std.proofs.Common.{◌≡◌, ◌==◌, ◌∙◌, ◌++◌, ℕ, List, ap, codes, false, length, rules, sym, true}
use Rattle.std.specs.List.{flat_map}
use Rattle.clr_work_orders.specs.WorkOrders.{trial_text}
use Rattle.clr_work_orders.proofs.RemedyLemmas.{behind_four}
use Rattle.clr_work_orders.proofs.trial_lines.add_trials.Goals as goal

pub returns : goal.returns
returns c =
    let trials = c.args.trials.now in
    let old = c.args.text.now.items in
    let cleared = flat_map (trial_text true) trials in
    let others = flat_map (trial_text false) trials in
    let some : (length trials == 0) ≡ false = sym c.is_empty.ensures ∙ c.if-is_empty.false in
    let seen : c.as_bytes.result.now ≡ c.args.among.now = search rules in
    rw some (behind_four old (codes "\n") c.as_bytes.result.now cleared others _ _ _ _ c.in_ok-extend_from_slice.ensures.items
    c.in_ok-extend_from_slice-2.ensures.items c.in_ok-add_lines.ensures c.in_ok-add_lines-2.ensures
    ∙ ap (λ (t : List ℕ). old ++ (codes "\n" ++ t ++ cleared ++ others)) seen)

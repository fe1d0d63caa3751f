use Rattle.std.proofs.Common.{ap, sym, ◌∙◌}
use Rattle.clr_deltas.specs.Differences.{seen_over}
use Rattle.clr_deltas.proofs.DifferenceLemmas.{neutral_new, nothing_found}
use Rattle.clr_deltas.proofs.differences.Differences.store_seen.Goals as goal

pub returns-clause-seen : goal.returns-clause-seen
returns-clause-seen c = λ below is.
    let none = sym c.get.ensures ∙ nothing_found c.get.result (sym c.is_some.ensures ∙ c.if-is_some.false) in
    ap (seen_over below) c.in_ok-put.ensures.ok ∙ neutral_new below c.args.self.now c.args.cell c.in_ok-row.row none (c.in_ok-row.ensures ∙ sym is)

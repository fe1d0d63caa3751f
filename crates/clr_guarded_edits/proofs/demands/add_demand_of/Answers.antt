use Rattle.std.proofs.Common.{◌∙◌, FitsSigned, rules, w64, refl}
use Rattle.std.proofs.lemmas.Int.{to_z-of_z}
use Rattle.std.proofs.lemmas.Result.{on_ok_weaker}
use Rattle.clr_guarded_edits.proofs.demands.add_demand_of.Goals as goal

pub returns-in-None : goal.returns-in-None
returns-in-None c =
    let fits : FitsSigned w64 c.args.cell.key = search rules in
    on_ok_weaker c.add_count.result
    (λ e. e ∙ rw (
      c.in-None.is,
      c.as_slice.ensures.value,
      c.in_ok-add_key_condition-in-None.ensures,
      c.new-condition.ensures.items,
      to_z-of_z w64 c.args.cell.key fits,
    ) refl) c.add_count.ensures

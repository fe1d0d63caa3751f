use Rattle.std.proofs.Common.{ap, sym, ◌∙◌}
use Rattle.std.specs.FinMap as finite
use Rattle.clr_deltas.specs.Differences.{Differences}
use Rattle.clr_deltas.specs.Deltas.{saved_differences}
use Rattle.clr_contents.proofs.comparisons.cells_of_mark.Goals as goal

pub returns-in_ok-cells-in-Child : goal.returns-in_ok-cells-in-Child
returns-in_ok-cells-in-Child c =
    c.in_ok-cells-in-Child.ensures ∙ ap (λ (d : Differences). finite.keys d) c.new-nothing.ensures
    ∙ sym (ap (λ m. finite.keys (saved_differences m)) c.in-Child.is)

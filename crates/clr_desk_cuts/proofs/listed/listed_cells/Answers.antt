use Rattle.std.proofs.Common.{◌∙◌, map}
use Rattle.clr_deltas.specs.NamedDeltas.{stored_delta}
use Rattle.clr_office_reading.specs.Offices.{office_read}
use Rattle.clr_desk_cuts.specs.Listed.{with_deltas}
use Rattle.clr_desk_cuts.proofs.listed.listed_cells.Goals as goal

pub returns : goal.returns
returns c = (
  office_read c.in-Ok.parts,
  c.in-Ok.ensures.value,
  c.in_ok-add_workspaces.ensures ∙ (λ i. with_deltas (c.new-cells.ensures i) (map stored_delta (c.as_slice.ensures.value i))),
)

use Rattle.std.proofs.Common.{◌-◌, List, length, min, ap, sym, ◌∙◌}
use Rattle.clr_rows.specs.declared.places.Place.{Place}
use Rattle.clr_rows.specs.declared.places.Shape.{Shape}
use Rattle.clr_rows.specs.Parts.{parts_of}
use Rattle.clr_rows.proofs.PartLemmas.{length-path_parts}
use Rattle.clr_segments.proofs.shape_parts.parts.Goals as goal

pub returns-in-Chain : goal.returns-in-Chain
returns-in-Chain c =
    let counted = c.saturating_sub-parts.ensures ∙ ap (λ (vertices : List Place). length vertices - 1) c.as_slice.ensures
    ∙ sym (length-path_parts c.in-Chain.vertices) ∙ ap (λ (shape : Shape). length (parts_of shape)) (sym c.in-Chain.is) in
    c.min.ensures ∙ ap (λ n. min n 65535) counted

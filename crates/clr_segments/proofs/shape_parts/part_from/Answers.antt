use Rattle.std.proofs.Common.{◌≡◌, ◌+◌, suc, pos, ap, sym, ◌∙◌, arith}
use Rattle.std.specs.Prelude.{slice_get}
use Rattle.std.proofs.lemmas.Option.{slice_get-get_or, slice_get_past}
use Rattle.clr_rows.specs.declared.places.Place.{Place}
use Rattle.clr_rows.proofs.PartLemmas.{part_between, no_part}
use Rattle.clr_segments.proofs.shape_parts.part_from.Goals as goal

pub returns-then-at-vertices : goal.returns-then-at-vertices
returns-then-at-vertices c =
    let vertices = c.args.vertices.now in
    let at = c.args.at in
    let next : suc at ≡ at + 1 = omega arith in
    let origin : Place = record { x = pos 0; y = pos 0 } in
    sym (part_between vertices at _ _ (slice_get-get_or vertices at origin (omega arith)) (ap (slice_get vertices) next
    ∙ slice_get-get_or vertices (at + 1) origin c.if-at-vertices.true))

pub returns-else-at-vertices : goal.returns-else-at-vertices
returns-else-at-vertices c = sym (no_part c.args.vertices.now c.args.at (slice_get_past c.args.vertices.now (suc c.args.at) (omega arith)))

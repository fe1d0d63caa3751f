use Rattle.std.proofs.Common.{◌≡◌, ◌-◌, ℕ, zero, suc, List, refl, ap, sym, ◌∙◌, arith}
use Rattle.std.specs.Prelude.{slice_get}
use Rattle.clr_rows.specs.declared.places.Place.{Place}
use Rattle.clr_rows.specs.declared.places.Shape.{Shape}
use Rattle.clr_rows.specs.declared.places.Shape.TheVariants.{Chain}
use Rattle.clr_rows.specs.Parts.{path_parts, part_of}
use Rattle.clr_segments.proofs.shape_parts.part.Goals as goal

counted : (vertices : List Place) (n : ℕ) → (n ≡ 0 → ⊥) → slice_get (path_parts vertices) (n - 1) ≡ part_of (Chain vertices) n
counted vertices zero some = absurd (some refl)
counted vertices (suc n) some = let same : suc n - 1 ≡ n = omega arith in ap (slice_get (path_parts vertices)) same

pub returns-in-Chain : goal.returns-in-Chain
returns-in-Chain c =
    c.part_from.ensures ∙ ap (λ (vertices : List Place). slice_get (path_parts vertices) (c.args.number - 1)) c.as_slice.ensures
    ∙ counted c.in-Chain.vertices c.args.number c.if-number-eq0.false ∙ ap (λ (shape : Shape). part_of shape c.args.number) (sym c.in-Chain.is)

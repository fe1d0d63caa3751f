use Rattle.std.proofs.Common.{◌≡◌, ◌∙◌, ◌<◌, ◌+◌, ℕ, List, [], ◌∷◌, Option, Some, fold, get_or, length, slice_get, sym, take, ap, add-one, arith}
use Rattle.std.proofs.lemmas.List.Sums.{fold_more}
use Rattle.std.proofs.lemmas.Option.{slice_get-get_or}
use Rattle.clr_rows.specs.declared.places.Place.{Place}
use Rattle.clr_rows.specs.declared.places.Shape.{Shape}
use Rattle.clr_rows.specs.Parts.{part_of, parts_of}
use Rattle.clr_svg.specs.declared.elements.PathCommand.{PathCommand}
use Rattle.clr_viewports.specs.declared.viewports.Viewport.{Viewport}
use Rattle.clr_drawing.specs.Paths.{with_found, with_line_of_part}

-- the next part is added behind those before it
pub with_next : (v : Viewport) (start : List PathCommand) (parts : List (Place × Place)) (i : ℕ) → i < length parts
    → with_found v (fold (with_line_of_part v) start (take i parts)) (slice_get parts i) ≡ fold (with_line_of_part v) start (take (i + 1) parts)
with_next v start [] i less = absurd (omega (arith, less))
with_next v start (p ∷ ps) i less =
    ap (with_found v (fold (with_line_of_part v) start (take i (p ∷ ps)))) (slice_get-get_or (p ∷ ps) i p less)
    ∙ sym (fold_more (with_line_of_part v) start (p ∷ ps) i p less)

-- a part, given by its number, is drawn behind those before it
pub with_numbered : (v : Viewport) (start : List PathCommand) (shape : Shape) (i : ℕ) → i < length (parts_of shape)
    → with_found v (fold (with_line_of_part v) start (take i (parts_of shape))) (part_of shape (i + 1))
    ≡ fold (with_line_of_part v) start (take (i + 1) (parts_of shape))
with_numbered v start shape i less =
    ap (λ n. with_found v (fold (with_line_of_part v) start (take i (parts_of shape))) (part_of shape n)) (add-one i)
    ∙ with_next v start (parts_of shape) i less

use Rattle.std.proofs.Common.{◌∙◌, ◌++◌, ◌∷◌, [], List, ap}
use Rattle.clr_svg.specs.declared.pages.Layer.{Layer}
use Rattle.clr_small_maps.proofs.maps.layers_of.Goals as goal

-- the third of five layers has the lines
pub returns : goal.returns
returns c =
    let paper = c.in_ok-paper.field-0 in
    let ground = c.in_ok-ground_layer.field-0 in
    let lines = c.in_ok-lines_layer.field-0 in
    let points = c.in_ok-points_layer.field-0 in
    let axes = c.in_ok-axes_layer.field-0 in
    let one = c.in_ok-push.ensures.items ∙ ap (λ (layers : List Layer). layers ++ paper ∷ []) c.in_ok-layers.ensures.items in
    let two = c.in_ok-push-2.ensures.items ∙ ap (λ (layers : List Layer). layers ++ ground ∷ []) one in
    let three = c.in_ok-push-3.ensures.items ∙ ap (λ (layers : List Layer). layers ++ lines ∷ []) two in
    let four = c.in_ok-push-4.ensures.items ∙ ap (λ (layers : List Layer). layers ++ points ∷ []) three in
    let five = c.in_ok-push-5.ensures.items ∙ ap (λ (layers : List Layer). layers ++ axes ∷ []) four in
    (paper ∷ ground ∷ [], lines, points ∷ axes ∷ [], five, c.in_ok-lines_layer.ensures)

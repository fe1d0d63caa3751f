use Rattle.std.proofs.Common.{[], ◌∙◌, ap, ◌++◌, ◌∷◌, List, refl}
use Rattle.clr_svg.specs.declared.elements.Element.{Element}
use Rattle.clr_svg.specs.declared.elements.Element.TheVariants.{Words}
use Rattle.clr_plan_map.proofs.titles.verdict_layer.Goals as goal

pub returns : goal.returns
returns c = record {
  label = c.in_ok-label.label;
  says = c.in_ok-label.ensures;
  whole = c.in_ok-push.ensures.items ∙ ap (λ (es : List Element). es ++ Words c.in_ok-label.label ∷ []) c.new-elements.ensures.items;
  seen = refl;
}

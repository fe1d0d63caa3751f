use Rattle.std.proofs.Common.{◌≡◌, ◌++◌, take}
use Rattle.clr_svg.specs.Pages.{layers_text}
use Rattle.clr_svg.proofs.pages.add_layers.Given as goal

-- the layers so far are added
abbrev pub invariant-loop-layer : goal.invariant-loop-layer
invariant-loop-layer l = l.text.items ≡ l.initial.text.items ++ layers_text (take l.layer-index l.layers)

use Rattle.std.proofs.Common.{option_map, subst}
use Rattle.clr_layer_text.specs.TableRows.{IsTableLayer}
use Rattle.clr_desk_layers.specs.Layers.{of_layer}
use Rattle.clr_desk_layers.proofs.layers.print_of_table.Goals as goal

pub returns-in-Some : goal.returns-in-Some
returns-in-Some c =
    let layer = subst (λ layer. IsTableLayer c.args.schema.now c.args.at c.args.content.now (option_map (λ text. text.items) layer)) c.in-Some.is
    c.in_ok-text.ensures in
    of_layer c.in-Some.text.items layer c.of_text.ensures

use Rattle.std.proofs.Common.{◌∷◌, [], rules}
use Rattle.clr_office_texts.specs.Drafts.{opened_in}
use Rattle.clr_desk_prints.proofs.OpeningLemmas.{office_answered}
use Rattle.clr_desk_layers.specs.Layers.{IsLayerPrint}
use Rattle.clr_desk_layers.proofs.layers.answer_layer.Goals as goal

pub returns : goal.returns
returns c =
    let workspace = c.args.workspace.now in
    office_answered _ (IsLayerPrint c.args.table.now workspace) (workspace ∷ []) (opened_in c.args.office.now) c.answer_over_office.result
    c.answer_over_office.ensures (λ shown r left met. search rules)

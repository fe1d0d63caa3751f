use Rattle.std.proofs.Common.{◌∙◌, arith, sym}
use Rattle.clr_desk_command_line.proofs.LayerLemmas.{all_layers, not_all_layers}
use Rattle.clr_desk_command_line.proofs.named_layers.tables_and_files.Goals as goal

pub returns-then-not-branch : goal.returns-then-not-branch
returns-then-not-branch c =
    not_all_layers c.args.words.now c.loop-word.word-index _ (omega arith) (sym c.in_ok-add_layer.ensures.split ∙ c.if-not-branch.true)

pub returns : goal.returns
returns c =
    all_layers c.args.words.now c.loop-word.word-index c.loop-word.tables.items c.loop-word.files.items (omega arith)
    c.loop-word.invariant.layers c.loop-word.invariant.tables c.loop-word.invariant.files

use Rattle.std.proofs.Common.{◌∙◌, ◌++◌, ◌∷◌, [], ap, subst, sym, take}
use Rattle.std.proofs.lemmas.List.{take_more}
use Rattle.clr_office.specs.NameHints.{AreNameHints}
use Rattle.clr_office.proofs.HintLemmas.{more_hints}
use Rattle.clr_office.proofs.name_hints.hint_lines.Goals as goal

pub loop-name-init : goal.loop-name-init
loop-name-init c =
    more_hints c.args.office.now [] c.args.root.now c.new-lines.result.items c.add_hint.new.lines.items c.new-lines.ensures.items c.in_ok-add_hint.ensures

pub loop-name-preserved : goal.loop-name-preserved
loop-name-preserved c =
    let o = c.args.office.now in
    let root = c.args.root.now in
    let names = c.args.names.now in
    let k = c.loop-name.name-index in
    let next = take_more names k c.name-item.result c.loop-name-test.true ∙ ap (λ n. take k names ++ n ∷ []) (sym (c.as_str.ensures ∙ c.name-item.is)) in
    subst (λ ns. AreNameHints o (root ∷ ns) c.add_hint-in-loop-name.new.lines.items) (sym next)
    (more_hints o (root ∷ take k names) c.as_str.result.now c.loop-name.lines.items c.add_hint-in-loop-name.new.lines.items c.loop-name.invariant
    c.in_ok-add_hint-2.ensures)

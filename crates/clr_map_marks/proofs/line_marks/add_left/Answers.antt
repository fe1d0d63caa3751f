use Rattle.std.proofs.Common.{◌≡◌, ◌∙◌, List, OnOk, ap, subst, sym}
use Rattle.clr_svg.specs.declared.elements.PathCommand.{PathCommand}
use Rattle.clr_map_marks.specs.Lines.{with_unless}
use Rattle.clr_map_marks.proofs.line_marks.add_left.Goals as goal

pub returns-then-are_same : goal.returns-then-are_same
returns-then-are_same c = ap (with_unless c.args.view.now c.args.steps.now.items c.args.before.now) (sym c.if-are_same.true ∙ c.are_same.ensures)

pub returns : goal.returns
returns c =
    subst (λ (steps : List PathCommand). OnOk c.add_shape.result (c.add_shape.new.steps.items ≡ steps))
    (ap (with_unless c.args.view.now c.args.steps.now.items c.args.before.now) (sym c.if-are_same.false ∙ c.are_same.ensures))
    c.add_shape.ensures

use Rattle.std.proofs.Common.{Option, OnOk, subst}
use Rattle.clr_rows.specs.Contents.{Changes}
use Rattle.clr_drawing.specs.Palette.{colours_of}
use Rattle.clr_drawing.specs.declared.palette.DesignColours.{DesignColours}
use Rattle.clr_map_scenes.specs.Designs.{rank_of}
use Rattle.clr_map_marks.specs.Lines.{Kinds, kinds_of_lines}
use Rattle.clr_map_marks.specs.LineMarks.{DrawsLines, DrawsSet}
use Rattle.clr_map_marks.proofs.line_marks.add_design.Goals as goal

pub returns-in_ok-lines-in-Some : goal.returns-in_ok-lines-in-Some
returns-in_ok-lines-in-Some c =
    let scene = c.args.scene.now in
    let r = c.add_lines.result in
    let old = c.args.sketch.now.elements.items in
    let new = c.add_lines.new.sketch.elements.items in
    let colour = (colours_of (rank_of scene.field.designs.now.order.items c.args.at)).line in
    subst (λ (found : Option Changes). OnOk r (DrawsSet scene colour found old new)) c.in-Some.ensures
    (subst (λ (k : Kinds). OnOk r (DrawsLines scene.detail scene.changes k colour old new)) c.in_ok-lines-in-Some.ensures
    (subst (λ (colours : DesignColours). OnOk r (DrawsLines scene.detail scene.changes (kinds_of_lines c.in_ok-lines-in-Some.lines) colours.line old new))
    c.colours.ensures c.add_lines.ensures))

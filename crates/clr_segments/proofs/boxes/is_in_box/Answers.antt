use Rattle.std.proofs.Common.{rules, ℤ, ◌↔◌, IsTrue}
use Rattle.clr_segments.specs.Bounding.{Between}
use Rattle.clr_segments.proofs.Words64.{holds_of_words, second_decides}
use Rattle.clr_segments.proofs.boxes.is_in_box.Goals as goal

pub returns-then-is_between : goal.returns-then-is_between
returns-then-is_between c =
    let p = c.args.p in
    let l = c.args.bounds.least in
    let m = c.args.bounds.most in
    let in_x = c.is_between.result in
    let in_y = c.is_between-then-is_between.result in
    second_decides in_x in_y c.if-is_between.true
    (holds_of_words (λ (low x high _ : ℤ). IsTrue in_x ↔ Between low x high) l.x p.x m.x m.x (search rules) (search rules) (search rules) (search rules)
    c.is_between.ensures)
    (holds_of_words (λ (low y high _ : ℤ). IsTrue in_y ↔ Between low y high) l.y p.y m.y m.y (search rules) (search rules) (search rules) (search rules)
    c.is_between-then-is_between.ensures)

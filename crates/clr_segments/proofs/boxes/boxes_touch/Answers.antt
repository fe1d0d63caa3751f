use Rattle.std.proofs.Common.{rules, ℤ, ◌↔◌, IsTrue}
use Rattle.clr_segments.proofs.BoxLemmas.{RangesTouch, touch_on_both}
use Rattle.clr_segments.proofs.Words64.{holds_of_words, first_decides, second_decides}
use Rattle.clr_segments.proofs.boxes.boxes_touch.Goals as goal

pub returns-then-ranges_touch : goal.returns-then-ranges_touch
returns-then-ranges_touch c =
    let b = c.args.b in
    let d = c.args.c in
    let on_x = c.ranges_touch.result in
    let on_y = c.ranges_touch-then-ranges_touch.result in
    touch_on_both b d (second_decides on_x on_y c.if-ranges_touch.true
    (holds_of_words (λ (l h l' h' : ℤ). IsTrue on_x ↔ RangesTouch l h l' h') b.least.x b.most.x d.least.x d.most.x (search rules) (search rules) (search rules)
    (search rules) c.ranges_touch.ensures)
    (holds_of_words (λ (l h l' h' : ℤ). IsTrue on_y ↔ RangesTouch l h l' h') b.least.y b.most.y d.least.y d.most.y (search rules) (search rules) (search rules)
    (search rules) c.ranges_touch-then-ranges_touch.ensures))

pub returns-else-ranges_touch : goal.returns-else-ranges_touch
returns-else-ranges_touch c =
    let b = c.args.b in
    let d = c.args.c in
    let on_x = c.ranges_touch.result in
    touch_on_both b d (first_decides on_x c.if-ranges_touch.false
    (holds_of_words (λ (l h l' h' : ℤ). IsTrue on_x ↔ RangesTouch l h l' h') b.least.x b.most.x d.least.x d.most.x (search rules) (search rules) (search rules)
    (search rules) c.ranges_touch.ensures))

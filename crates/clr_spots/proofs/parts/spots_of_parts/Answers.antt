use Rattle.std.proofs.Common.{◌≡◌, ◌∙◌, ap, sym, subst, true}
use Rattle.clr_segments.specs.declared.boxes.Bounds.{Bounds}
use Rattle.clr_spots.specs.Spots.{squares_of, squares_of_all, boxes_of_parts, union, are_many}
use Rattle.clr_spots.proofs.ListedSquares.{no_boxes, none_kept, part_added, part_too_many}
use Rattle.clr_spots.proofs.parts.spots_of_parts.Goals as goal

pub loop-position-init : goal.loop-position-init
loop-position-init c = record { listed = c.new-list.ensures.items ∙ no_boxes c.args.shape.now; few = ap are_many c.new-list.ensures.items }

pub returns-then-not-branch-clause-list : goal.returns-then-not-branch-clause-list
returns-then-not-branch-clause-list c =
    let told = rw c.if-not-branch.true at c.in_ok-add_squares.ensures in
    let many = subst (λ (b : Bounds). are_many (union c.loop-position.list.items (squares_of b)) ≡ true) c.box_between.ensures.value told in
    c.new-then-not-branch.ensures ∙ c.new.ensures.items ∙ none_kept (squares_of_all (boxes_of_parts c.args.shape.now))
    (part_too_many c.args.shape.now c.loop-position.position c.part_at.result c.loop-position.list.items c.part_at.ensures.value
    c.loop-position.invariant.listed many)

pub returns-then-not-branch-clause-wide : goal.returns-then-not-branch-clause-wide
returns-then-not-branch-clause-wide c =
    let told = rw c.if-not-branch.true at c.in_ok-add_squares.ensures in
    let many = subst (λ (b : Bounds). are_many (union c.loop-position.list.items (squares_of b)) ≡ true) c.box_between.ensures.value told in
    sym (part_too_many c.args.shape.now c.loop-position.position c.part_at.result c.loop-position.list.items c.part_at.ensures.value
    c.loop-position.invariant.listed many)

pub loop-position-preserved : goal.loop-position-preserved
loop-position-preserved c =
    let told = rw c.if-not-branch.false at c.in_ok-add_squares.ensures in
    record {
      listed = told.0 ∙ ap (λ (b : Bounds). union c.loop-position.list.items (squares_of b)) c.box_between.ensures.value
          ∙ part_added c.args.shape.now c.loop-position.position c.part_at.result c.loop-position.list.items c.part_at.ensures.value
          c.loop-position.invariant.listed;
      few = told.1;
    }

use Rattle.std.proofs.Common.{◌≡◌, ℤ, ap, of_z, w64}
use Rattle.clr_segments.proofs.Crossings.{parted_apart, crossing_once, second_long_x, second_long_y, meet_by_x, meet_by_y}
use Rattle.clr_segments.proofs.Words64.{words_apart, same_words, holds_of_words, so, not_so, coordinate_fits}
use Rattle.clr_segments.specs.Axis.{RangesMeet}
use Rattle.clr_segments.proofs.crossing.meet.Goals as goal

pub returns-then-are_parted : goal.returns-then-are_parted
returns-then-are_parted c = parted_apart c.args.a c.args.b c.args.c c.args.d (so c.are_parted.result c.if-are_parted.true c.are_parted.ensures)

pub returns-then-not-are_collinear : goal.returns-then-not-are_collinear
returns-then-not-are_collinear c =
    crossing_once c.args.a c.args.b c.args.c c.args.d
    (not_so c.are_parted.result c.if-are_parted.false c.are_parted.ensures)
    (not_so c.are_collinear.result c.if-not-are_collinear.true c.are_collinear.ensures)

pub meet_on_axis-requires-clause-second_ends : goal.meet_on_axis-requires-clause-second_ends
meet_on_axis-requires-clause-second_ends c =
    let line = so c.are_collinear.result c.if-not-are_collinear.false c.are_collinear.ensures in
    words_apart c.args.c.x c.args.d.x c.requires.c_in.in_x c.requires.d_in.in_x
    (second_long_x c.args.a c.args.b c.args.c c.args.d line (λ e. c.if-a-b.true (ap (of_z w64) e)) c.requires.second_ends)

pub meet_on_axis-requires-else-a-b-clause-first_ends : goal.meet_on_axis-requires-else-a-b-clause-first_ends
meet_on_axis-requires-else-a-b-clause-first_ends c =
    let same_x : c.args.a.x ≡ c.args.b.x = same_words c.args.a.x c.args.b.x c.requires.a_in.in_x c.requires.b_in.in_x c.if-a-b.false in
    words_apart c.args.a.y c.args.b.y c.requires.a_in.in_y c.requires.b_in.in_y (c.requires.first_ends same_x)

pub meet_on_axis-requires-else-a-b-clause-second_ends : goal.meet_on_axis-requires-else-a-b-clause-second_ends
meet_on_axis-requires-else-a-b-clause-second_ends c =
    let line = so c.are_collinear.result c.if-not-are_collinear.false c.are_collinear.ensures in
    let same_x : c.args.a.x ≡ c.args.b.x = same_words c.args.a.x c.args.b.x c.requires.a_in.in_x c.requires.b_in.in_x c.if-a-b.false in
    words_apart c.args.c.y c.args.d.y c.requires.c_in.in_y c.requires.d_in.in_y
    (second_long_y c.args.a c.args.b c.args.c c.args.d line (c.requires.first_ends same_x) c.requires.second_ends)

pub returns-then-a-b : goal.returns-then-a-b
returns-then-a-b c =
    let a = c.args.a in
    let b = c.args.b in
    let r = c.requires in
    let line = so c.are_collinear.result c.if-not-are_collinear.false c.are_collinear.ensures in
    let m = c.meet_on_axis in
    let ranges : RangesMeet m.result a.x b.x c.args.c.x c.args.d.x =
    holds_of_words (λ (p q r u : ℤ). RangesMeet m.result p q r u) a.x b.x c.args.c.x c.args.d.x
    (coordinate_fits a.x r.a_in.in_x) (coordinate_fits b.x r.b_in.in_x) (coordinate_fits c.args.c.x r.c_in.in_x) (coordinate_fits c.args.d.x r.d_in.in_x)
    m.ensures in
    meet_by_x m.result a b c.args.c c.args.d line (λ e. c.if-a-b.true (ap (of_z w64) e)) ranges

pub returns-else-a-b : goal.returns-else-a-b
returns-else-a-b c =
    let a = c.args.a in
    let b = c.args.b in
    let r = c.requires in
    let line = so c.are_collinear.result c.if-not-are_collinear.false c.are_collinear.ensures in
    let same_x : a.x ≡ b.x = same_words a.x b.x r.a_in.in_x r.b_in.in_x c.if-a-b.false in
    let m = c.meet_on_axis-else-a-b in
    let ranges : RangesMeet m.result a.y b.y c.args.c.y c.args.d.y =
    holds_of_words (λ (p q r u : ℤ). RangesMeet m.result p q r u) a.y b.y c.args.c.y c.args.d.y
    (coordinate_fits a.y r.a_in.in_y) (coordinate_fits b.y r.b_in.in_y) (coordinate_fits c.args.c.y r.c_in.in_y) (coordinate_fits c.args.d.y r.d_in.in_y)
    m.ensures in
    meet_by_y m.result a b c.args.c c.args.d line (r.first_ends same_x) ranges

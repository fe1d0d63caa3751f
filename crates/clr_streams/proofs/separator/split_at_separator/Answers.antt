use Rattle.std.proofs.Common.{◌≡◌, ◌∙◌, take, drop, true, false, sym, arith}
use Rattle.clr_streams.specs.Separator.{is_separator}
use Rattle.clr_streams.proofs.Lines.{line_size, size_within, size_inside, found_at, passed_at, none_left}
use Rattle.clr_streams.proofs.separator.split_at_separator.Goals as goal

pub split_at-requires-in-loop-start : goal.split_at-requires-in-loop-start
split_at-requires-in-loop-start c = rw c.line_len.ensures (size_within c.split_at.result.1.now)

pub returns-then-is_separator : goal.returns-then-is_separator
returns-then-is_separator c =
    let text = c.args.text.now in
    let start = c.loop-start.start in
    let rest = drop start text in
    let separates : is_separator (take (line_size rest) rest) ≡ true =
    rw (← c.split_at.ensures.back, ← c.line_len.ensures, ← c.split_at-in-loop-start.ensures.front) (sym c.is_separator.ensures ∙ c.if-is_separator.true) in
    rw (c.split_at.ensures.front, c.split_at-in-loop-start.ensures.back, c.line_len.ensures, c.split_at.ensures.back)
    (found_at text start _ c.loop-start-test.true separates c.loop-start.invariant.so_far)

pub loop-start-smaller : goal.loop-start-smaller
loop-start-smaller c =
    let text = c.args.text.now in
    let start = c.loop-start.start in
    let size = size_inside text start c.loop-start-test.true in
    rw (c.split_at-in-loop-start.ensures.front_len, c.line_len.ensures, c.split_at.ensures.back) (omega (arith, c.loop-start-test.true, size))

pub loop-start-preserved : goal.loop-start-preserved
loop-start-preserved c =
    let text = c.args.text.now in
    let start = c.loop-start.start in
    let rest = drop start text in
    let passes : is_separator (take (line_size rest) rest) ≡ false =
    rw (← c.split_at.ensures.back, ← c.line_len.ensures, ← c.split_at-in-loop-start.ensures.front) (sym c.is_separator.ensures ∙ c.if-is_separator.false) in
    rw (c.split_at-in-loop-start.ensures.front_len, c.line_len.ensures, c.split_at.ensures.back) (record {
      within = (size_inside text start c.loop-start-test.true).1;
      so_far = passed_at text start _ c.loop-start-test.true passes c.loop-start.invariant.so_far;
    })

pub returns : goal.returns
returns c = sym (none_left c.args.text.now c.loop-start.start _ c.loop-start-test.false c.loop-start.invariant.so_far)

use Rattle.std.proofs.Common.{◌≡◌, ◌+◌, ◌∷◌, drop, get_or, add-one, append_assoc, append-nil, sym, ◌∙◌}
use Rattle.std.proofs.Math.Seq.{drop-cons}
use Rattle.std.proofs.lemmas.List.{drop_all}
use Rattle.clr_streams.specs.Shown.{shown_behind}
use Rattle.clr_streams.proofs.shown.show.Goals as goal

pub loop-byte-preserved : goal.loop-byte-preserved
unfolding shown_behind
loop-byte-preserved c =
    let text = c.args.text.now in
    let here : drop c.loop-byte.byte-index text ≡ get_or text c.loop-byte.byte-index 0 ∷ drop (c.loop-byte.byte-index + 1) text =
    rw (add-one) (drop-cons text c.loop-byte.byte-index 0 c.loop-byte-test.true) in
    let so_far = rw here at c.loop-byte.invariant in
    rw (c.in_ok-push.ensures.items, append_assoc, c.shown_byte-shown.ensures) so_far

pub returns : goal.returns
unfolding shown_behind
returns c =
    let none = drop_all c.loop-byte.byte-index c.args.text.now c.loop-byte-test.false in
    let so_far = rw none at c.loop-byte.invariant in
    sym (append-nil c.loop-byte.made.items) ∙ so_far

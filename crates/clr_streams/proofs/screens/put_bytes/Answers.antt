use Rattle.std.proofs.Common.{◌≡◌, ◌∙◌, ◌+◌, [], ◌∷◌, ◌++◌, append-nil, append_assoc, add-one, drop, get_or, subst, sym}
use Rattle.std.proofs.Math.Seq.{drop-cons}
use Rattle.std.proofs.lemmas.List.{drop_all}
use Rattle.std.specs.Io.KnownBytes.{Appends}
use Rattle.clr_streams.specs.Shown.{shown_behind}
use Rattle.clr_streams.proofs.Appending.{two_puts}
use Rattle.clr_streams.proofs.screens.put_bytes.Goals as goal

pub loop-byte-preserved : goal.loop-byte-preserved
unfolding shown_behind
loop-byte-preserved g c =
    let text = c.args.text.now in
    let went = c.loop-byte.invariant.went in
    let here : drop c.loop-byte.byte-index text ≡ get_or text c.loop-byte.byte-index 0 ∷ drop (c.loop-byte.byte-index + 1) text =
    rw (add-one) (drop-cons text c.loop-byte.byte-index 0 c.loop-byte-test.true) in
    let so_far = rw here at went.2 in
    record {
      went = (
        went.0 ++ c.shown_byte-shown.result ∷ [],
        two_puts (g.W.Sink.contents c.args.below.now) (g.W.Sink.contents c.loop-byte.below) (g.W.Sink.contents c.put.new.self) went.0 (c.shown_byte-shown.result ∷ [])
            went.1 c.in_ok-put.ensures.bytes,
        rw (append_assoc, c.shown_byte-shown.ensures) so_far,
      );
      goes_on = c.in_ok-put.ensures.goes_on ∙ c.loop-byte.invariant.goes_on;
    }

pub returns-clause-bytes : goal.returns-clause-bytes
unfolding shown_behind
returns-clause-bytes g c =
    let went = c.loop-byte.invariant.went in
    let none = drop_all c.loop-byte.byte-index c.args.text.now c.loop-byte-test.false in
    let so_far = rw none at went.2 in
    subst (λ out. Appends (g.W.Sink.contents c.args.below.now) (g.W.Sink.contents c.loop-byte.below) out) (sym (append-nil went.0) ∙ so_far) went.1

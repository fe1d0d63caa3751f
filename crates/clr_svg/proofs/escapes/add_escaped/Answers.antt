use Rattle.std.proofs.Common.{◌≡◌, ◌∙◌, ◌+◌, ◌++◌, drop, sym}
use Rattle.std.proofs.lemmas.List.{drop-drop, take_rest}
use Rattle.clr_svg.specs.Escapes.{escaped_behind}
use Rattle.clr_svg.proofs.escapes.add_escaped.Goals as goal

pub loop-at-preserved : goal.loop-at-preserved
loop-at-preserved c =
    let words = c.args.words.now in
    let behind : drop (c.loop-at.at + 1) words ≡ drop 1 (drop c.loop-at.at words) = sym (drop-drop 1 c.loop-at.at words) in
    let next : c.add_next.new.text.items ++ escaped_behind c.in_ok-count.count (drop 1 (drop c.loop-at.at words))
    ≡ c.loop-at.text.items ++ escaped_behind c.loop-at.count (drop c.loop-at.at words)
    = rw (sym (take_rest words c.loop-at.at)) c.in_ok-count.ensures in
    rw behind (next ∙ c.loop-at.invariant)

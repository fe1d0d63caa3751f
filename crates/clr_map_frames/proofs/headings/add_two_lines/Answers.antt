use Rattle.std.proofs.Common.{◌∙◌, ◌++◌, ℕ, List, ap, subst, sym}
use Rattle.clr_map_frames.specs.HeadingLines.{IsShown}
use Rattle.clr_map_frames.proofs.HeadingLemmas.{on_two}
use Rattle.clr_map_frames.proofs.headings.add_two_lines.Goals as goal

pub returns : goal.returns
returns c =
    let sentence = c.args.sentence.now in
    let first = c.as_str.result.now in
    let rest = c.in_ok-rest.rest.now in
    let whole = ap (λ (bytes : List ℕ). bytes ++ rest) c.as_str.ensures.value ∙ c.in_ok-rest.ensures
    ∙ ap (λ (bytes : List ℕ). bytes ++ sentence) c.new-first.ensures.bytes in
    on_two sentence first rest c.as_str-2.result.now c.args.sketch.now.elements.items c.say_line.new.sketch.elements.items
    c.say_line-2.new.sketch.elements.items whole (subst (IsShown rest) (sym c.as_str-2.ensures.value) c.in_ok-second.ensures)
    c.in_ok-say_line.ensures c.in_ok-say_line-2.ensures

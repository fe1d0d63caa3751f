use Rattle.std.proofs.Common.{◌∙◌, ap, sym}
use Rattle.std.proofs.lemmas.Bool.{true≢false}
use Rattle.std.proofs.lemmas.List.{take_all}
use Rattle.clr_order_search.specs.OpenNeeds.{has}
use Rattle.clr_order_answers.proofs.renumbering.place_of.Goals as goal

pub returns : goal.returns
returns c = absurd (true≢false (sym c.requires.there
    ∙ ap (λ xs. has xs c.args.member) (sym (take_all c.loop-place.place c.args.list.now c.loop-place-test.false)) ∙ c.loop-place.invariant))

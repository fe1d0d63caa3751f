use Rattle.std.proofs.Common.{◌∙◌, ◌++◌, ap, length, option_to_list, refl, sym}
use Rattle.std.specs.Prelude.{slice_get}
use Rattle.std.proofs.lemmas.Option.{slice_get_past, slice_get_read}
use Rattle.clr_merge_sets.proofs.ListLemmas.{none_added}
use Rattle.clr_board.proofs.settling.add_number.Goals as goal

pub returns-in_default : goal.returns-in_default
returns-in_default c =
    none_added c.args.list.now.items (slice_get c.args.numbers.now c.args.place)
    (slice_get_past c.args.numbers.now c.args.place c.in_default.ensures.lookup.3)

pub returns : goal.returns
returns c =
    let numbers = c.args.numbers.now in
    let number = c.in-Some.number in
    c.in_ok-push.ensures.items ∙ ap (λ found. c.args.list.now.items ++ option_to_list found)
    (sym (slice_get_read numbers (length numbers) c.args.place number.now refl c.in-Some.ensures.lookup.3.0 (c.in-Some.ensures.lookup.3.1 number.now)))

use Rattle.std.proofs.Common.{◌∙◌, []}
use Rattle.clr_choices.proofs.Trying.{begun_with}
use Rattle.clr_choices.proofs.choices.begin_with_guessed.Goals as goal

pub returns-in-None : goal.returns-in-None
returns-in-None c =
    let is = c.none_taken.ensures in
    begun_with c.args.office.now c.args.root.now c.none_taken.result [] c.args.nobody (is.cleared ∙ c.new.ensures.items) is.certificate is.count is.left
    is.is_any_left c.requires

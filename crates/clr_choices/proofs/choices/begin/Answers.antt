use Rattle.std.proofs.Common.{◌∙◌, []}
use Rattle.clr_choices.proofs.Trying.{begun_with}
use Rattle.clr_choices.proofs.choices.begin.Goals as goal

pub returns : goal.returns
returns c =
    let is = c.none_taken.ensures in
    record {
      progress = begun_with c.args.office.now c.args.root.now c.none_taken.result [] c.args.nobody (is.cleared ∙ c.new.ensures.items) is.certificate
          is.count is.left is.is_any_left c.requires;
      looked = tt;
    }

use Rattle.std.proofs.Common.{ap, subst, ◌∙◌}
use Rattle.clr_steps.specs.Offices.{Office}
use Rattle.clr_office_texts.specs.Drafts.{draft_in}
use Rattle.clr_desk_layers.specs.Designs.{IsOfficeText}
use Rattle.clr_desk_designs.proofs.designs_prints.print_of_moved.Goals as goal

pub office_with_live-requires : goal.office_with_live-requires
office_with_live-requires c = (c.args.office.now, ap draft_in c.as_slice.ensures.value ∙ c.in_ok-made.ensures.again, c.requires)

pub returns : goal.returns
returns c =
    let o = c.args.office.now in
    let d = c.in_ok-text.ensures in
    let is = c.in_ok-moved.ensures o (ap draft_in c.as_slice.ensures.value ∙ c.in_ok-made.ensures.again) in
    let read_again : IsOfficeText c.in_ok-moved.moved c.in_ok-text.text.items = record { bytes = d.text; again = d.again; admitted = d.admitted } in
    (c.in_ok-text.text.items, subst (λ (p : Office). IsOfficeText p c.in_ok-text.text.items) is read_again, c.new.ensures)

use Rattle.std.proofs.Common.{subst, ◌∙◌}
use Rattle.clr_rows.specs.Contents.{Content}
use Rattle.clr_desk_layers.specs.Designs.{IsOfficeText}
use Rattle.clr_desk_designs.specs.InTurn.{of_all, of_first}
use Rattle.clr_desk_designs.specs.Made.{AreAllMade}
use Rattle.clr_desk_designs.specs.declared.made_designs.MadeDesigns.{MadeDesigns}
use Rattle.clr_desk_designs.proofs.designs_prints.designs_print.Goals as goal

pub returns-in-Made : goal.returns-in-Made
returns-in-Made c =
    let o = c.args.office.now in
    let left = c.make_in_turn.new.office in
    let live = c.in_ok-live.ensures ∙ c.live.ensures.value in
    let made = subst (λ (m : MadeDesigns). AreAllMade o.live c.args.options c.args.may_remove o c.args.designs.now m left) c.in-Made.is
    (subst (λ (m : Content). AreAllMade m c.args.options c.args.may_remove o c.args.designs.now c.in_ok-notes.field-0 left) live c.in_ok-notes.ensures) in
    let d = c.in_ok-text-in-Made.ensures in
    let read_again : IsOfficeText left c.in_ok-text-in-Made.text.items = record { bytes = d.text; again = d.again; admitted = d.admitted } in
    of_all left c.in-Made.notes.items made (c.in_ok-text-in-Made.text.items, read_again, c.new.ensures)

pub returns : goal.returns
returns c =
    let o = c.args.office.now in
    let left = c.make_in_turn.new.office in
    let live = c.in_ok-live.ensures ∙ c.live.ensures.value in
    of_first (subst (λ (m : MadeDesigns). AreAllMade o.live c.args.options c.args.may_remove o c.args.designs.now m left) c.in-Refused.is
    (subst (λ (m : Content). AreAllMade m c.args.options c.args.may_remove o c.args.designs.now c.in_ok-notes.field-0 left) live c.in_ok-notes.ensures))

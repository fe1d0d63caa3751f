use Rattle.std.proofs.Common.{ap, subst, ◌∙◌}
use Rattle.clr_desk_prints.specs.Printing.{printed}
use Rattle.clr_desk_designs.specs.InTurn.{with_name}
use Rattle.clr_desk_designs.specs.Made.{IsDesignMade}
use Rattle.clr_desk_designs.specs.declared.made_designs.MadeDesigns.{MadeDesigns}
use Rattle.clr_desk_designs.proofs.TurnLemmas.{all_made, first_refused, next_made}
use Rattle.clr_desk_designs.proofs.in_turn.make_in_turn.Goals as goal

pub loop-design-preserved : goal.loop-design-preserved
loop-design-preserved c =
    let taken = c.args.taken.now in
    let options = c.args.options in
    let may_remove = c.args.may_remove in
    let mid = c.loop-design.office in
    let left = c.make_layered.new.office in
    let design = c.design-item.result in
    let (content, able, left_is, note) = subst (λ (m : MadeDesigns). IsDesignMade taken options may_remove mid design m left) c.in-Made.is
    c.in_ok-note.ensures in
    next_made taken options may_remove c.args.office.now c.args.designs.now c.loop-design.design-index mid left c.loop-design.notes.items
    c.as_slice.result.now _ design content c.loop-design-test.true c.design-item.is c.loop-design.invariant able left_is (c.as_slice.ensures.value ∙ note)
    c.in_ok-extend_from_slice-in-Made.ensures.items

pub returns-in-Refused : goal.returns-in-Refused
returns-in-Refused c =
    let taken = c.args.taken.now in
    let options = c.args.options in
    let may_remove = c.args.may_remove in
    let mid = c.loop-design.office in
    let left = c.make_layered.new.office in
    let design = c.design-item.result in
    let refused = subst (λ (m : MadeDesigns). IsDesignMade taken options may_remove mid design m left) c.in-Refused.is c.in_ok-note.ensures in
    first_refused taken options may_remove c.args.office.now c.args.designs.now c.loop-design.design-index mid c.loop-design.notes.items design _ _
    c.loop-design-test.true c.design-item.is c.loop-design.invariant refused.0
    (c.in_ok-named-in-Refused.ensures ∙ ap (λ name. with_name name (printed c.in-Refused.print)) c.as_str.ensures)

pub returns : goal.returns
returns c =
    all_made c.args.taken.now c.args.options c.args.may_remove c.args.office.now c.args.designs.now c.loop-design.design-index c.loop-design.office
    c.loop-design.notes.items c.loop-design-test.false c.loop-design.invariant

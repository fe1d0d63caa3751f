use Rattle.std.proofs.Common.{Option, ap, refl, subst, sym, ◌∙◌}
use Rattle.clr_steps.specs.declared.commands.Reply.{Reply}
use Rattle.clr_steps.specs.Offices.{Office}
use Rattle.clr_designs.specs.Counts.{edit_counts_text}
use Rattle.clr_designs.specs.Designs.{IsDesignMade}
use Rattle.clr_desk_layers.specs.Counted.{removal_in, removal_print}
use Rattle.clr_desk_layers.specs.Designs.{refusal_print}
use Rattle.clr_desk_designs.specs.InTurn.{named_text}
use Rattle.clr_desk_designs.specs.Made.{by_removal, by_reply}
use Rattle.clr_desk_designs.proofs.in_turn.make_edited.Goals as goal

pub returns-in-Some : goal.returns-in-Some
returns-in-Some c = λ content fits is.
    let edits = c.as_slice.ensures ∙ is in
    let removed = sym (ap (removal_in c.args.may_remove) edits) ∙ sym c.removal_in.ensures ∙ c.in-Some.is in
    (by_removal c.in-Some.cell removed (c.in_ok-print.ensures ∙ ap (λ tables. removal_print tables c.in-Some.cell) c.schema.ensures.value), refl)

pub returns-in-Some-2 : goal.returns-in-Some-2
returns-in-Some-2 c = λ content fits is.
    let o = c.args.office.now in
    let name = c.args.name.now in
    let left = c.make_edited_design.new.office in
    let edits = c.as_slice.ensures ∙ is in
    let kept = sym (ap (removal_in c.args.may_remove) edits) ∙ sym c.removal_in.ensures ∙ c.in_default.is in
    let made = subst (λ (refused : Option Reply). IsDesignMade o name content refused left) c.in-Some-2.is (c.in_ok-reply.ensures.made content fits is) in
    let schema = c.schema-in-Some-2.ensures.value ∙ ap (λ (next : Office). next.schema) made.1 in
    (by_reply c.in-Some-2.reply kept made.0 (c.in_ok-print-2.ensures ∙ ap (λ tables. refusal_print tables c.in-Some-2.reply) schema), made.1)

pub returns : goal.returns
returns c = λ content fits is.
    let o = c.args.office.now in
    let name = c.args.name.now in
    let left = c.make_edited_design.new.office in
    let edits = c.as_slice.ensures ∙ is in
    let kept = sym (ap (removal_in c.args.may_remove) edits) ∙ sym c.removal_in.ensures ∙ c.in_default.is in
    let made = subst (λ (refused : Option Reply). IsDesignMade o name content refused left) c.in_default-2.is (c.in_ok-reply.ensures.made content fits is) in
    let counted = c.as_slice-2.ensures ∙ is in
    let note = c.in_ok-note.ensures ∙ ap (named_text name) (c.as_slice-3.ensures.value ∙ c.in_ok-line.ensures ∙ ap edit_counts_text counted) in
    (kept, made.0, made.2, note)

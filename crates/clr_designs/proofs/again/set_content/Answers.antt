use Rattle.std.proofs.Common.{◌≡◌, List, Option, Some, None, Bool, true, false, cond, ap, refl, subst, sym, ◌∙◌}
use Rattle.std.proofs.lemmas.Option.{none-some}
use Rattle.std.proofs.lemmas.Result.{IfOk-weaker}
use Rattle.clr_rows.specs.Contents.{Content}
use Rattle.clr_change.specs.declared.edits.Edit.{Edit}
use Rattle.clr_steps.specs.declared.commands.Command.TheVariants as command
use Rattle.clr_steps.specs.declared.commands.Reply.{Reply}
use Rattle.clr_steps.specs.Offices.{content_of, stands}
use Rattle.clr_steps.proofs.FirstLemmas.{some_is}
use Rattle.clr_steps.proofs.FitLemmas.{fits_content_of}
use Rattle.clr_layer_changes.specs.Changes.{edits_between}
use Rattle.clr_designs.specs.Again.{IsContentSet}
use Rattle.clr_designs.specs.Designs.{IsCommandAnswer}
use Rattle.clr_designs.proofs.ContentLemmas.{content_set, nobody_has}
use Rattle.clr_designs.proofs.again.set_content.Goals as goal

missing : (there : Bool) (content : Content) → cond there (Some content) None ≡ None → there ≡ false
missing true content e = absurd (none-some content (sym e))
missing false content e = refl

given : (there : Bool) (rows content : Content) → Some rows ≡ cond there (Some content) None → rows ≡ content
given true rows content e = some_is rows content e
given false rows content e = absurd (none-some rows (sym e))

pub returns-in_default-clause-set : goal.returns-in_default-clause-set
returns-in_default-clause-set c =
    let o = c.args.office.now in
    let name = c.args.name.now in
    (nobody_has o name c.args.content.now (missing (stands o name) (content_of o name) (sym c.in_ok-seen.ensures ∙ c.in_default.is)), refl)

pub returns-clause-set : goal.returns-clause-set
returns-clause-set c =
    let o = c.args.office.now in
    let name = c.args.name.now in
    let content = c.args.content.now in
    let left = c.apply_edits.new.office in
    let seen = given (stands o name) c.in-Some.seen (content_of o name) (sym c.in-Some.is ∙ c.in_ok-seen.ensures) in
    let edits = c.in_ok-edits.ensures.edits ∙ ap (λ (m : Content). edits_between m content) seen in
    let fits = fits_content_of o c.live-fit.ensures.admitted.fit.rows name in
    IfOk-weaker c.apply_edits.result _ (λ refused. IsContentSet o name content refused left)
    (λ refused performed.
    content_set o name content fits c.requires left refused
    (subst (λ (es : List Edit). IsCommandAnswer o (command.Apply name es) refused left) edits performed))
    c.apply_edits.ensures.performed

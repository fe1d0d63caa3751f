use Rattle.std.proofs.Common.{◌≡◌, ◌∙◌, Ok, ap, subst, sym}
use Rattle.clr_engine.specs.Fitting.{IsFitting}
use Rattle.clr_steps.specs.Offices.{Office}
use Rattle.clr_office_texts.specs.Drafts.{draft_in}
use Rattle.clr_desk_layers.proofs.SinceLemmas.{since_fits, with_part}
use Rattle.clr_desk_layers.proofs.since_drafts.draft_with_design.Goals as goal

pub of_tree-requires : goal.of_tree-requires
of_tree-requires c =
    let (o, is, fit, copied_fits, fits) = c.requires in
    let parts = c.in-Ok.parts in
    let name = c.args.name.now in
    let copied = c.args.copied.now in
    let content = c.args.content.now in
    let made = with_part c.args.text.now o is parts.schema parts.book parts.known parts.live parts.workspaces.items c.in-Ok.ensures.value
    c.push.new.self.items c.in_ok-part.part name copied content c.in-Ok-of_deltas.tree.list c.in-Ok-of_deltas.ensures.made
    c.in_ok-push.ensures.items c.in_ok-part.ensures.under c.in_ok-part.ensures.whole in
    subst IsFitting (sym made) (since_fits o name copied content fit copied_fits fits)

pub returns : goal.returns
returns c o is =
    let parts = c.in-Ok.parts in
    let name = c.args.name.now in
    let copied = c.args.copied.now in
    let content = c.args.content.now in
    let made = with_part c.args.text.now o is parts.schema parts.book parts.known parts.live parts.workspaces.items c.in-Ok.ensures.value
    c.push.new.self.items c.in_ok-part.part name copied content c.in-Ok-of_deltas.tree.list c.in-Ok-of_deltas.ensures.made
    c.in_ok-push.ensures.items c.in_ok-part.ensures.under c.in_ok-part.ensures.whole in
    c.of_tree.ensures ∙ made

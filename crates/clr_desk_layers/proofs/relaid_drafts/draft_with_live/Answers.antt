use Rattle.std.proofs.Common.{◌∙◌, ap, subst, sym}
use Rattle.clr_rows.specs.Contents.{Content, changes}
use Rattle.clr_steps.specs.Offices.{Office}
use Rattle.clr_engine.specs.Fitting.{IsFitting}
use Rattle.clr_designs.specs.Designs.{with_live}
use Rattle.clr_office_reading.specs.Offices.{office_read}
use Rattle.clr_office_texts.specs.Drafts.{whole_office}
use Rattle.clr_desk_layers.proofs.RelaidLemmas.{draft_read, relaid, relaid_fits}
use Rattle.clr_desk_layers.proofs.relaid_drafts.draft_with_live.Goals as goal

pub of_tree-requires : goal.of_tree-requires
of_tree-requires c =
    let o = c.args.draft.now in
    let content = c.args.content.now in
    let parts = c.in-Ok.parts in
    let whole = whole_office (office_read parts) in
    let same = draft_read c.args.text.now o (office_read parts) c.requires.read c.in-Ok.ensures.value in
    let changed = c.in_ok-changed.ensures ∙ ap (λ (live : Content). changes live content) c.live.ensures in
    let made = relaid whole content _ _ c.in-Ok-of_deltas.ensures.made _ changed c.in_ok-write_all.ensures.ok in
    subst IsFitting (sym (made ∙ ap (λ (p : Office). with_live p content) same)) (relaid_fits o content c.schema-fit.ensures.fit c.requires.fits)

pub returns : goal.returns
returns c =
    let content = c.args.content.now in
    let parts = c.in-Ok.parts in
    let whole = whole_office (office_read parts) in
    let same = draft_read c.args.text.now c.args.draft.now (office_read parts) c.requires.read c.in-Ok.ensures.value in
    let changed = c.in_ok-changed.ensures ∙ ap (λ (live : Content). changes live content) c.live.ensures in
    let made = relaid whole content _ _ c.in-Ok-of_deltas.ensures.made _ changed c.in_ok-write_all.ensures.ok in
    c.of_tree.ensures ∙ made ∙ ap (λ (p : Office). with_live p content) same

use Rattle.std.proofs.Common.{◌≡◌, ◌∙◌, ◌++◌, ◌∷◌, [], ℕ, List, ap, codes, map, rules}
use Rattle.clr_html.specs.declared.blocks.Block.{Block}
use Rattle.clr_html.specs.declared.blocks.Block.TheVariants as block
use Rattle.clr_html.specs.declared.texts.InlineText.TheVariants.{Soft}
use Rattle.clr_plan_page.specs.Reports.{note_text}
use Rattle.clr_page_parts.specs.Shown.{Shown, Heading, Lines, Paragraph, shown}
use Rattle.clr_plan_page.proofs.feet.foot_of.Goals as goal

foot : List ℕ → List ℕ → List ℕ → List Shown
foot heading note lines = Heading heading ∷ Paragraph note ∷ Lines lines ∷ []

pub returns : goal.returns
unfolding foot
returns c =
    let note_block = block.Paragraph (Soft c.in_ok-note.note) in
    let heading : c.in_ok-heading.heading.items ≡ codes "To look again" = search rules in
    let note : c.in_ok-note.note.items ≡ note_text c.args.plan.now = search rules in
    let lines = c.in_ok-lines.lines.items in
    let first = c.in_ok-push.ensures.items ∙ ap (λ (blocks : List Block). blocks ++ block.Heading c.in_ok-heading.heading ∷ []) c.new-blocks.ensures.items in
    let above = c.in_ok-push-2.ensures.items ∙ ap (λ (blocks : List Block). blocks ++ note_block ∷ []) first in
    let all = c.in_ok-push-3.ensures.items ∙ ap (λ (blocks : List Block). blocks ++ block.Lines c.in_ok-lines.lines ∷ []) above in
    ap (map shown) all
    ∙ ap (λ (text : List ℕ). foot text c.in_ok-note.note.items lines) heading
    ∙ ap (λ (text : List ℕ). foot (codes "To look again") text lines) note
    ∙ ap (λ (text : List ℕ). foot (codes "To look again") (note_text c.args.plan.now) text) c.in_ok-lines.ensures

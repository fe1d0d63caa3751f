use Rattle.std.proofs.Common.{◌≡◌, ◌∙◌, ◌++◌, ◌∷◌, [], ℕ, List, ap, map, rules}
use Rattle.clr_html.specs.declared.blocks.Block.{Block}
use Rattle.clr_html.specs.declared.blocks.Block.TheVariants as block
use Rattle.clr_html.specs.declared.blocks.Tone.{Tone}
use Rattle.clr_plan_map.specs.Maps.{plan_word}
use Rattle.clr_plan_page.specs.Reports.{plan_tone}
use Rattle.clr_page_parts.specs.Shown.{Shown, Picture, Verdict, shown}
use Rattle.clr_plan_page.proofs.heads.head_of.Goals as goal

pub returns : goal.returns
returns c =
    let p = c.args.plan.now in
    let word : c.in_ok-word.word.items ≡ plan_word p = search rules in
    let about : c.in_ok-about.about.items ≡ c.args.about.now = search rules in
    let verdict = block.Verdict c.plan_tone.result c.in_ok-word.word c.in_ok-about.about in
    let first = c.in_ok-push.ensures.items ∙ ap (λ (blocks : List Block). blocks ++ verdict ∷ []) c.new-blocks.ensures.items in
    let both = c.in_ok-push-2.ensures.items ∙ ap (λ (blocks : List Block). blocks ++ block.Picture c.args.picture ∷ []) first in
    let head = λ (tone : Tone) (word about : List ℕ). let b : List Shown = Verdict tone word about ∷ Picture c.args.picture.items ∷ [] in b in
    ap (map shown) both
    ∙ ap (λ (tone : Tone). head tone c.in_ok-word.word.items c.in_ok-about.about.items) c.plan_tone.ensures
    ∙ ap (λ (text : List ℕ). head (plan_tone p) text c.in_ok-about.about.items) word
    ∙ ap (λ (text : List ℕ). head (plan_tone p) (plan_word p) text) about

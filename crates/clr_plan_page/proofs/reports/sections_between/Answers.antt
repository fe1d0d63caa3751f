use Rattle.std.proofs.Common.{◌∙◌, ◌++◌, ◌∷◌, [], List, ap, map}
use Rattle.clr_html.specs.declared.pages.Section.{Section}
use Rattle.clr_page_parts.specs.Shown.{Shown, section_shown}
use Rattle.clr_plan_page.proofs.reports.sections_between.Goals as goal

pub returns : goal.returns
returns c =
    let why = c.in_ok-why.why in
    let designs = c.in_ok-designs.designs in
    let errors = c.in_ok-errors.errors.items in
    let first = c.in_ok-push.ensures.items ∙ ap (λ (sections : List Section). sections ++ why ∷ []) c.new-sections.ensures.items in
    let second = c.in_ok-push-2.ensures.items ∙ ap (λ (sections : List Section). sections ++ designs ∷ []) first in
    let all = c.in_ok-append.ensures.items ∙ ap (λ (sections : List Section). sections ++ errors) second in
    record {
      why = section_shown why;
      designs = section_shown designs;
      whole = ap (map section_shown) all
          ∙ ap (λ (more : List (List Shown)). section_shown why ∷ section_shown designs ∷ more) c.in_ok-errors.ensures;
      reasons = c.in_ok-why.ensures;
      told = c.in_ok-designs.ensures;
    }

-- The section of some broken needs, where there are some.
use Rattle.std.proofs.Common.{◌≡◌, ◌∙◌, ◌==◌, [], ◌∷◌, Bool, true, false, List, ap, cond, length, map, sym}
use Rattle.clr_rows.specs.declared.tables.TableDef.{TableDef}
use Rattle.clr_rules.specs.declared.needs.Broken.{Broken}
use Rattle.clr_rules.specs.declared.rules.Rule.{Rule}
use Rattle.clr_html.specs.declared.pages.Section.{Section}
use Rattle.clr_page_parts.specs.OldErrors.{errors_section, errors_shown}
use Rattle.clr_page_parts.specs.Shown.{Shown, section_shown}

module _ (tables : List TableDef) (book : List Rule) (needs : List Broken) where
  -- what is shown of the needs, by whether there are none
  abbrev shown_if : Bool → List (List Shown)
  shown_if none = cond none [] (errors_section tables book needs ∷ [])

  pub none_told : (sections : List Section) → (length needs == 0) ≡ true → sections ≡ [] → map section_shown sections ≡ errors_shown tables book needs
  none_told sections none are = ap (map section_shown) are ∙ ap shown_if (sym none)

  pub some_told : (sections : List Section) (section : Section) → (length needs == 0) ≡ false → sections ≡ section ∷ []
      → section_shown section ≡ errors_section tables book needs → map section_shown sections ≡ errors_shown tables book needs
  some_told sections section some are told =
      ap (map section_shown) are ∙ ap (λ (blocks : List Shown). blocks ∷ []) told ∙ ap shown_if (sym some)

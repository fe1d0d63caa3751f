-- The sections of designs, one after another.
use Rattle.std.proofs.Common.{ℕ, List, [], ◌∷◌, ◌++◌}
use Rattle.clr_workspaces.specs.Marks.{Name}
use Rattle.clr_steps.specs.Offices.{Office}
use Rattle.clr_page_parts.specs.Shown.{Shown}
use Rattle.clr_board_page.specs.Designs.{AreDesignSections, IsDesignSection}
use Rattle.clr_board_page.specs.Said.{Said}

module _ (o : Office) (said : Said) where
  pub one_section_more : (es : List (ℕ × Name)) (sections : List (List Shown)) (e : ℕ × Name) (blocks : List Shown)
      → AreDesignSections o said es sections → IsDesignSection o said e blocks → AreDesignSections o said (es ++ e ∷ []) (sections ++ blocks ∷ [])
  one_section_more [] [] e blocks are is = (is, tt)
  one_section_more [] (x ∷ sections) e blocks are is = absurd are
  one_section_more (d ∷ es) [] e blocks are is = absurd are
  one_section_more (d ∷ es) (x ∷ sections) e blocks are is = (are.0, one_section_more es sections e blocks are.1 is)

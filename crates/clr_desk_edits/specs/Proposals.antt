-- What is printed of an office text whose designs are to be cut out of a network: SQL that proposes the cut.
use Rattle.std.specs.Prelude.{◌≡◌, ℕ, suc, Bool, List, [], ◌∷◌, ◌++◌, codes, decimal, not, Option, Some, None, Ok, false, if◌then◌else◌, true}
use Rattle.std.specs.FinMap as finite
use Rattle.std.specs.List.{list_all}
use Rattle.std.specs.Option.{option_or}
use Rattle.clr_rows.specs.declared.cells.CellId.{CellId}
use Rattle.clr_rows.specs.declared.places.Place.{Place}
use Rattle.clr_rows.specs.declared.rows.Row.{Row}
use Rattle.clr_rules.specs.declared.rules.Rule.{Rule}
use Rattle.clr_rules.specs.declared.sides.Side.{Side}
use Rattle.clr_rules.specs.Sides.{each_side}
use Rattle.clr_deltas.specs.Deltas.{Delta}
use Rattle.clr_steps.specs.Offices.{Office}
use Rattle.clr_lines.specs.Pieces.{cell_text}
use Rattle.clr_office_reading.specs.Offices.{OfficeText, office_in}
use Rattle.clr_office_texts.specs.Drafts.{draft_in}
use Rattle.clr_sql.specs.declared.targets.Dialect.{Dialect}
use Rattle.clr_sql.specs.declared.targets.Target.{Target}
use Rattle.clr_sql.specs.Values.{has_lost_byte, is_sayable}
use Rattle.clr_cut_proposals.specs.Proposals.{proposal_text}
use Rattle.clr_desk_errors.specs.Accepting.{IsPrintoutOfDraft}
use Rattle.clr_desk_layers.specs.Layers.{unfit_print}
use Rattle.clr_desk_prints.specs.Printing.{PrintoutOrFault, printout_of}
use Rattle.clr_desk_prints.specs.Systems.{IsInSystem}
use Rattle.clr_desk_edits.specs.Edits.{lost_byte_word, target_of}

-- the first row that a design brings with a text that isn't handed on as it is
abbrev pub is_sayable_row : Option Row → Bool
is_sayable_row None = true
is_sayable_row (Some row) = is_sayable row

unfoldable pub first_unsayable_row : List (CellId × Option Row) → Option CellId
first_unsayable_row [] = None
first_unsayable_row (e ∷ es) = if is_sayable_row e.1 then first_unsayable_row es else Some e.0

unfoldable pub first_unsayable_of : List Delta → Option CellId
first_unsayable_of [] = None
first_unsayable_of (design ∷ designs) = option_or (first_unsayable_row (finite.entries design.current)) (first_unsayable_of designs)

-- the first rule with such a text in a filter
abbrev pub is_sayable_side : Side → Bool
is_sayable_side side = list_all (λ f. not (has_lost_byte f.1)) side.filter

unfoldable pub first_unsayable_rule : ℕ → List Rule → Option ℕ
first_unsayable_rule number [] = None
first_unsayable_rule number (rule ∷ rules) = if each_side is_sayable_side rule then first_unsayable_rule (suc number) rules else Some number

-- SQL that proposes a cut; or the first rule or row that can't be said
pub data IsProposalPrint (target : Target) (text : List ℕ) (o : Office) (print : PrintoutOrFault) : Type 0 where
  of_proposal : (office : OfficeText) → office_in text ≡ Ok office → first_unsayable_rule 0 office.book ≡ None → first_unsayable_of office.deltas ≡ None
      → print ≡ printout_of (proposal_text target office.schema office.book office.deltas) [] false false
      → IsProposalPrint target text o print
  of_rule : (office : OfficeText) (number : ℕ) → office_in text ≡ Ok office → first_unsayable_rule 0 office.book ≡ Some number
      → print ≡ unfit_print lost_byte_word (codes "rule " ++ decimal number) → IsProposalPrint target text o print
  of_row : (office : OfficeText) (cell : CellId) → office_in text ≡ Ok office → first_unsayable_rule 0 office.book ≡ None
      → first_unsayable_of office.deltas ≡ Some cell
      → print ≡ unfit_print lost_byte_word (cell_text office.schema cell) → IsProposalPrint target text o print

-- what is printed of an office text, whatever is broken in it, in the system of coordinates that a text names, if one is given
abbrev pub IsProposalAnswer : Dialect → Place → Option (List ℕ) → (office : List ℕ) → PrintoutOrFault → Type 0
IsProposalAnswer dialect origin system office =
    IsInSystem (λ code. IsPrintoutOfDraft (IsProposalPrint (target_of dialect origin code) office) (draft_in office)) system

-- The draft of a text, by its parts and by its workspaces as a whole.
use Rattle.std.proofs.Common.{◌≡◌, ℕ, List, Some, Result, Ok, Err, refl, sym, subst}
use Rattle.std.specs.Prelude.{IsOk}
use Rattle.clr_workspace_parts.specs.declared.parts.PartFault.{PartFault}
use Rattle.clr_workspace_parts.specs.Parts.{workspaces_fault}
use Rattle.clr_steps.specs.Offices.{Office}
use Rattle.clr_office_texts.proofs.Standing.{stands}
use Rattle.clr_office_texts.specs.Drafts.{draft_in, if_standing, whole_office}
use Rattle.clr_readings.specs.Readings.{◌>>=◌}
use Rattle.clr_office_reading.specs.Offices.{OfficeText, office_in}
use Rattle.clr_rule_text.specs.declared.faults.TextFault.{TextFault}
use Rattle.clr_rule_text.specs.declared.faults.TextFault.TheVariants as fault
use Rattle.clr_explanations.specs.Standing.{IsStandingFault, StandsIfRead}

-- what can't be read as an office text is no draft
pub no_draft : (text : List ℕ) (e : TextFault) → office_in text ≡ Err e → draft_in text ≡ Err e
unfolding draft_in
no_draft text e is = rw is refl

falls : (o : Office) (e : ℕ × PartFault) → workspaces_fault o.live o.workspaces ≡ Some e → if_standing o ≡ Err fault.BadPart
unfolding if_standing
falls o e some = rw some refl

-- workspaces that can't stand make no draft
pub no_tree : (text : List ℕ) (first : ℕ × PartFault) → IsStandingFault text first → draft_in text ≡ Err fault.BadPart
unfolding draft_in
no_tree text first (o, is, found) = rw is (falls (whole_office o) first found)

-- texts that can make a draft
pub is_draft : (text : List ℕ) → IsOk (office_in text) → StandsIfRead text → IsOk (draft_in text)
unfolding draft_in
is_draft text read found = by (office_in text) refl read
  where
    by : (r : Result OfficeText TextFault) → office_in text ≡ r → IsOk r → IsOk (r >>= λ o. if_standing (whole_office o))
    by (Ok o) is ok = subst (λ (r : Result Office TextFault). IsOk r) (sym (stands (whole_office o) (found o is))) refl
    by (Err e) is ok = absurd cc

-- Workspaces that can't stand make no draft.
use Rattle.std.proofs.Common.{◌≡◌, ℕ, ◌≤◌, List, [], ◌∷◌, length, take, Option, Some, None, Ok, Err, refl, sym, ap, ◌∙◌, arith}
use Rattle.std.specs.Option.{option_or}
use Rattle.std.proofs.lemmas.List.{length-take-le}
use Rattle.std.proofs.lemmas.Option.{none-some}
use Rattle.clr_rows.specs.Contents.{Content}
use Rattle.clr_deltas.specs.Deltas.{Delta, workspaces_over}
use Rattle.clr_workspaces.specs.Workspaces.{Workspace, live_workspace, workspace_at}
use Rattle.clr_deltas.proofs.Meaning.{length-grow}
use Rattle.clr_workspace_parts.specs.Parts.{IsFirstPartFault, first_below, part_name_fault_at, workspaces_fault}
use Rattle.clr_workspaces.specs.declared.limits.TheConstants.{MOST_WORKSPACES}
use Rattle.clr_workspace_parts.specs.declared.parts.PartFault.{PartFault}
use Rattle.clr_workspace_parts.specs.declared.parts.PartFault.TheVariants as part
use Rattle.clr_workspace_parts.proofs.FaultLemmas.{none_at, placed_from}
use Rattle.clr_steps.specs.Offices.{Office}
use Rattle.clr_rule_text.specs.declared.faults.TextFault.TheVariants as text
use Rattle.clr_readings.specs.Readings.{Fails}
use Rattle.clr_rule_text.specs.Fields.{text_lacks_memory}
use Rattle.clr_office_texts.specs.Drafts.{if_standing, text_fault_of}

pub stands : (o : Office) → workspaces_fault o.live o.workspaces ≡ None → if_standing o ≡ Ok o
unfolding if_standing
stands o none = rw none refl

falls : (o : Office) (e : ℕ × PartFault) → workspaces_fault o.live o.workspaces ≡ Some e → if_standing o ≡ Err text.BadPart
unfolding if_standing
falls o e some = rw some refl

pub refused : (o : Office) (e : ℕ × PartFault) → IsFirstPartFault (workspaces_fault o.live o.workspaces) e
    → Fails text_lacks_memory (text_fault_of e.1) (if_standing o)
refused o (n, part.OutOfMemory) why = tt
refused o (n, part.BadName) why = falls o _ why
refused o (n, part.NameTaken) why = falls o _ why
refused o (n, part.NoParent) why = falls o _ why
refused o (n, part.TooMany) why = falls o _ why
refused o (n, part.BadMarks) why = falls o _ why

-- a fault of too many parts is the first that is found ---------------------------------------

no_first : (first second : Option (ℕ × PartFault)) → option_or first second ≡ None → first ≡ None
no_first None second e = refl
no_first (Some x) second e = absurd (none-some _ (sym e))

not_many : (live : Content) (ws : List Workspace) → MOST_WORKSPACES ≤ length ws → workspaces_fault live ws ≡ None → ⊥
not_many live ws many e =
    let names : first_below (part_name_fault_at (live_workspace live ∷ ws)) (length ws) ≡ None = no_first _ _ e in
    let here = none_at (part_name_fault_at (live_workspace live ∷ ws)) (length ws) 255 names (omega (arith, many)) in
    let before : length (take 256 (live_workspace live ∷ ws)) ≡ 256 = length-take-le 256 (live_workspace live ∷ ws) (omega (arith, many)) in
    let few = (placed_from (take 256 (live_workspace live ∷ ws)) (workspace_at (live_workspace live ∷ ws) 256) here).few in
    omega (arith, before, few)

-- workspaces that are as many as there can be with LIVE
pub too_many : (o : Office) (live : Content) (ls : List Delta) → o.live ≡ live → o.workspaces ≡ workspaces_over live ls → MOST_WORKSPACES ≤ length ls
    → if_standing o ≡ Err text.BadPart
too_many o live ls is over many = by (workspaces_fault o.live o.workspaces) refl
  where
    by : (found : Option (ℕ × PartFault)) → workspaces_fault o.live o.workspaces ≡ found → if_standing o ≡ Err text.BadPart
    by (Some e) found = falls o e found
    by None found =
        let count : length o.workspaces ≡ length ls = ap length over ∙ length-grow (live_workspace live ∷ []) ls in
        absurd (not_many o.live o.workspaces (omega (arith, count, many)) found)

-- A tree built of parts.
use Rattle.std.proofs.Common.{◌≡◌, ℕ, suc, zero, ◌-◌, ◌<◌, ◌≤◌, List, [], ◌∷◌, ◌++◌, length, map, take, Some, None, unwrap_or, refl, ap, sym, ◌∙◌, subst, arith}
use Rattle.std.specs.declared.option.Option.{Option}
use Rattle.std.specs.Option.{option_or}
use Rattle.std.proofs.Math.Seq.{take-length}
use Rattle.clr_rows.specs.Contents.{Content, no_rows, over, rows_after, changes}
use Rattle.clr_rows.proofs.ChangeLemmas.{taken_over-own}
use Rattle.clr_deltas.specs.Differences.{Differences, RowsByCell, no_differences, seen_over, put_each}
use Rattle.clr_deltas.proofs.DifferenceLemmas.{seen_over-fresh}
use Rattle.clr_deltas.specs.Deltas.{Delta, find_delta, whole_of, whole_mark, wholes, content_by_name}
use Rattle.clr_workspaces.specs.Workspaces.{Workspace, live_workspace, workspace_at, find}
use Rattle.clr_workspaces.proofs.FindLemmas.{find_within}
use Rattle.clr_deltas.proofs.Meaning.{length-wholes, name-whole, parent-whole, find-wholes, named_found}
use Rattle.clr_deltas.proofs.Places.{wholes-push}
use Rattle.clr_workspace_parts.specs.Parts.{marks_of, workspace_of, marks_fault_at, first_below, first_part_name_fault, first_marks_fault, workspaces_fault, fault_number}
use Rattle.clr_workspace_parts.specs.Parts.{IsPartFault, IsFirstPartFault}
use Rattle.clr_workspaces.specs.Soundness.{IsSound}
use Rattle.clr_workspace_parts.specs.declared.parts.Part.{Part}
use Rattle.clr_workspace_parts.specs.declared.parts.PartFault.{PartFault}
use Rattle.clr_workspace_parts.specs.declared.parts.PartFault.TheVariants as fault
use Rattle.clr_workspace_parts.proofs.FaultLemmas.{below_found, sound_spaces}

pub all_differences : (below above : Content) (rows : RowsByCell) (d : Differences) → rows ≡ rows_after (changes below above) → d ≡ put_each no_differences rows
    → seen_over below d ≡ above
all_differences below above rows d rows_is is = ap (seen_over below) is ∙ seen_over-fresh below rows ∙ ap (over below) rows_is ∙ taken_over-own below above

pub whole_part : (above : Content) (l : Delta) (p : Part) → l.name ≡ p.name → l.parent ≡ p.parent → seen_over above l.base ≡ p.base → seen_over p.base l.current
    ≡ p.current
    → map (whole_mark p.base) l.marks ≡ marks_of p.marks.items → l.kept ≡ p.kept → whole_of above l ≡ workspace_of p
unfolding whole_of
whole_part above l p name parent base current marks kept =
    let content = ap (λ (m : Content). seen_over m l.current) base ∙ current in
    let all = ap (λ (m : Content). map (whole_mark m) l.marks) base ∙ marks in
    λ i. record { name = name i; parent = parent i; base = base i; current = content i; marks = all i; kept = kept i }

module _ (live : Content) (ls : List Delta) (above : Content) (l : Delta) (p : Part) (is : whole_of above l ≡ workspace_of p) where
  pub new_delta : find (wholes live ls) p.name ≡ None → find_delta ls l.name ≡ None
  new_delta none = sym (find-wholes live ls l.name) ∙ ap (find (wholes live ls)) (sym (name-whole above l) ∙ ap (λ (w : Workspace). w.name) is) ∙ none

  pub part_pushed : (at : ℕ) → 0 < length ls → find (wholes live ls) p.parent ≡ Some at → above ≡ (workspace_at (wholes live ls) at).current
      → wholes live (ls ++ l ∷ []) ≡ wholes live ls ++ workspace_of p ∷ []
  part_pushed at filled found above_is =
      let ws = wholes live ls in
      let parent : l.parent ≡ p.parent = sym (parent-whole above l) ∙ ap (λ (w : Workspace). w.parent) is in
      let seen : content_by_name ws l.parent ≡ Some (workspace_at ws at).current =
      ap (content_by_name ws) parent ∙ ap (λ (vs : List Workspace). content_by_name vs p.parent) (sym (take-length ws))
      ∙ named_found ws p.parent at (length ws) found (find_within ws p.parent at found) in
      wholes-push live ls l filled ∙ ap (λ o. ws ++ whole_of (unwrap_or o no_rows) l ∷ []) seen
      ∙ ap (λ (w : Workspace). ws ++ w ∷ []) (ap (λ (m : Content). whole_of m l) (sym above_is) ∙ is)

-- faults -----------------------------------------------------------------------------------------------

pub is_fault : (found : Option PartFault) (why : PartFault) → found ≡ Some why → IsPartFault found why
is_fault found fault.OutOfMemory e = tt
is_fault found fault.BadName e = e
is_fault found fault.NameTaken e = e
is_fault found fault.NoParent e = e
is_fault found fault.TooMany e = e
is_fault found fault.BadMarks e = e

pub refused_at : (wrong : ℕ → Option PartFault) (at n : ℕ) (why : PartFault) → at < n → first_below wrong at ≡ None → IsPartFault (wrong at) why
    → IsFirstPartFault (first_below wrong n) (fault_number at why, why)
refused_at wrong at n fault.OutOfMemory lt before e = refl
refused_at wrong at n fault.BadName lt before e = below_found wrong at n fault.BadName lt before e
refused_at wrong at n fault.NameTaken lt before e = below_found wrong at n fault.NameTaken lt before e
refused_at wrong at n fault.NoParent lt before e = below_found wrong at n fault.NoParent lt before e
refused_at wrong at n fault.TooMany lt before e = below_found wrong at n fault.TooMany lt before e
refused_at wrong at n fault.BadMarks lt before e = below_found wrong at n fault.BadMarks lt before e

-- both passes over the workspaces that deltas mean
module _ (live : Content) (ls : List Delta) (rest : List Workspace) (is : wholes live ls ≡ live_workspace live ∷ rest) where
  long : length ls ≡ suc (length rest)
  long = sym (length-wholes live ls) ∙ ap length is

  marks_in : first_below (marks_fault_at (wholes live ls)) (length ls - 1) ≡ first_marks_fault live rest
  marks_in =
      let all = long in
      let count : length ls - 1 ≡ length rest = omega (arith, all) in
      λ i. first_below (marks_fault_at (is i)) (count i)

  pub sound_deltas : first_part_name_fault live rest ≡ None → first_below (marks_fault_at (wholes live ls)) (length ls - 1) ≡ None → IsSound (wholes live ls)
  sound_deltas names marks = subst IsSound (sym is) (sound_spaces live rest names (sym marks_in ∙ marks))

  pub none_wrong : first_part_name_fault live rest ≡ None → first_below (marks_fault_at (wholes live ls)) (length ls - 1) ≡ None
      → workspaces_fault live rest ≡ None
  none_wrong names marks = λ i. option_or (names i) ((sym marks_in ∙ marks) i)

  pub marks_wrong : first_part_name_fault live rest ≡ None → (e : ℕ × PartFault)
      → IsFirstPartFault (first_below (marks_fault_at (wholes live ls)) (length ls - 1)) e
      → IsFirstPartFault (workspaces_fault live rest) e
  marks_wrong names e r = subst (λ o. IsFirstPartFault o e) (marks_in ∙ sym (ap (λ o. option_or o (first_marks_fault live rest)) names)) r

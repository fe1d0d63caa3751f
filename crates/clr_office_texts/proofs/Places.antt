-- The workspaces of an office, each by what it differs in from its parent, make its workspaces again.
use Rattle.std.proofs.Common.{◌≡◌, ℕ, zero, suc, ◌+◌, ◌<◌, Bool, true, false, cond, List, [], ◌∷◌, ◌++◌, length, map, take, drop, Some, refl, sym, ap, ◌∙◌}
use Rattle.std.proofs.Common.{arith}
use Rattle.std.specs.Prelude.{◌||◌, unwrap_or}
use Rattle.std.specs.List.{AllByRecursion, list_any}
use Rattle.std.specs.Str.{bytes_eq}
use Rattle.std.proofs.lemmas.List.{map-append}
use Rattle.std.proofs.lemmas.Option.{none-some}
use Rattle.clr_rows.specs.Contents.{Content, no_rows}
use Rattle.clr_rows.specs.Names.{live_name}
use Rattle.clr_rows.proofs.SchemaLemmas.{list_any-map}
use Rattle.clr_deltas.specs.Deltas.{above_in, grow, content_by_name, whole_of, workspaces_over}
use Rattle.clr_workspaces.specs.Marks.{Name}
use Rattle.clr_workspaces.specs.Workspaces.{Workspace, no_workspace, live_workspace, workspace_at}
use Rattle.clr_deltas.proofs.Meaning.{named_found}
use Rattle.clr_workspaces.specs.Soundness.{IsSound}
use Rattle.clr_workspace_parts.proofs.FaultLemmas.{take_next}
use Rattle.clr_workspace_parts.proofs.PartLemmas.{drop_at, past_all}
use Rattle.clr_steps.specs.Invariants.{OfficeFits, WorkspaceFits}
use Rattle.clr_steps.specs.Offices.{Office, content_of}
use Rattle.clr_steps.specs.Positions.{content_at}
use Rattle.clr_steps.proofs.FitLemmas.{fits_content_of}
use Rattle.clr_steps.proofs.SeenLemmas.{name_law}
use Rattle.clr_engine.specs.Drafts.{delta_in}
use Rattle.clr_office_reading.specs.Fits.{FitsDelta}
use Rattle.clr_office_reading.specs.Workspaces.{stands_in}
use Rattle.clr_office_writing.specs.Laws.{HaveParents}
use Rattle.clr_office_texts.proofs.Differences.{delta_fits, delta_made}

-- a name that is found stands there
stands_from : (ws : List Workspace) (name : Name) (content : Content) → content_by_name ws name ≡ Some content → list_any (λ w. bytes_eq name w.name) ws ≡ true
unfolding content_by_name
stands_from [] name content e = absurd (none-some content e)
stands_from (w ∷ ws) name content e = by (bytes_eq name w.name) e (stands_from ws name content)
  where
    by : (b : Bool) → cond b (Some w.current) (content_by_name ws name) ≡ Some content → (content_by_name ws name ≡ Some content
        → list_any (λ w. bytes_eq name w.name) ws ≡ true) → b || list_any (λ w. bytes_eq name w.name) ws ≡ true
    by true e rest = refl
    by false e rest = rest e

module _ (o : Office) where
  abbrev all : List Workspace
  all = live_workspace o.live ∷ o.workspaces

  deltas_fit : OfficeFits o → (ws : List Workspace) → ((i : ℕ) → WorkspaceFits o.schema (workspace_at ws i))
      → AllByRecursion (FitsDelta o.schema) (map (delta_in o) ws)
  deltas_fit fits [] each = tt
  deltas_fit fits (w ∷ ws) each = (
    delta_fits o.schema (content_of o w.parent) w (fits_content_of o fits w.parent) (each 0),
    deltas_fit fits ws
        (λ i. each (suc i)),
  )

  pub text_fits : OfficeFits o → AllByRecursion (FitsDelta o.schema) (map (delta_in o) o.workspaces)
  text_fits fits = deltas_fit fits o.workspaces fits.workspaces

  module _ (sound : IsSound (live_workspace o.live ∷ o.workspaces)) where
    -- the parent of each workspace is found among those before it, with the content that the office has by its name
    above_is : (n : ℕ) → 0 < n → n < length all → content_by_name (take n all) (workspace_at all n).parent ≡ Some (content_of o (workspace_at all n).parent)
    above_is n some lt =
        let p = sound.rooted.under n some lt in
        let name = (workspace_at all n).parent in
        let content : content_of o name ≡ (workspace_at all p.0).current = (name_law o.schema o.book all sound name).content ∙ ap (content_at all) p.1 in
        named_found all name p.0 n p.1 p.2 ∙ ap (λ m. Some m) (sym content)

    next_made : (n : ℕ) → 0 < n → n < length all → let w = workspace_at all n in whole_of (above_in (take n all) (delta_in o w)) (delta_in o w) ≡ w
    next_made n some lt =
        let w = workspace_at all n in
        ap (λ found. whole_of (unwrap_or found no_rows) (delta_in o w)) (above_is n some lt) ∙ delta_made (content_of o w.parent) w

    regrown : (k n : ℕ) → n + k ≡ length all → 0 < n → grow (take n all) (map (delta_in o) (drop n all)) ≡ drop n all
    unfolding grow
    regrown zero n sum some = rw (past_all all n (omega (arith, sum))) refl
    regrown (suc k) n sum some =
        let lt : n < length all = omega (arith, sum) in
        let w = workspace_at all n in
        rw (drop_at all n no_workspace lt)
        (rw (next_made n some lt) (rw (← take_next all n lt) (ap (λ ws. w ∷ ws) (regrown k (suc n) (omega (arith, sum)) (omega arith)))))

    pub workspaces_again : workspaces_over o.live (map (delta_in o) o.workspaces) ≡ o.workspaces
    workspaces_again = regrown (length o.workspaces) 1 (omega arith) (omega arith)

    parents_stand : (k m : ℕ) → m + k ≡ length o.workspaces → HaveParents (map (delta_in o) (take m o.workspaces)) (map (delta_in o) (drop m o.workspaces))
    parents_stand zero m sum = rw (past_all o.workspaces m (omega (arith, sum))) tt
    parents_stand (suc k) m sum =
        let lt : m < length o.workspaces = omega (arith, sum) in
        let w = workspace_at o.workspaces m in
        let standing : stands_in (map (delta_in o) (take m o.workspaces)) w.parent ≡ true =
        ap (λ found. bytes_eq w.parent live_name || found) (list_any-map (λ l. bytes_eq w.parent l.name) (delta_in o) (take m o.workspaces))
        ∙ stands_from (take (suc m) all) w.parent _ (above_is (suc m) (omega arith) (omega (arith, lt))) in
        let more : map (delta_in o) (take m o.workspaces) ++ delta_in o w ∷ [] ≡ map (delta_in o) (take (suc m) o.workspaces) =
        sym (ap (map (delta_in o)) (take_next o.workspaces m lt) ∙ map-append (delta_in o) (take m o.workspaces) (w ∷ [])) in
        rw (drop_at o.workspaces m no_workspace lt) (standing, rw more (parents_stand k (suc m) (omega (arith, sum))))

    pub have_parents : HaveParents [] (map (delta_in o) o.workspaces)
    have_parents = parents_stand (length o.workspaces) 0 (omega arith)

-- LIVE has no base and no marks.
use Rattle.std.proofs.Common.{◌≡◌, ℕ, suc, zero, ◌<◌, ◌≤◌, ◌≢◌, ◌⊎◌, inl, inr, true, false, List, [], ◌∷◌, length, map, drop, refl, ap, sym, subst, ◌∙◌, arith}
use Rattle.std.proofs.lemmas.Bool.{false≢true}
use Rattle.std.proofs.lemmas.List.{length-map}
use Rattle.std.specs.List.{list_any}
use Rattle.clr_rows.specs.Contents.{Content, no_rows}
use Rattle.clr_workspaces.specs.Marks.{Mark, is_held, is_child_mark, is_saved, mark_at}
use Rattle.clr_deltas.specs.Deltas.{Delta, delta_at, wholes, whole_mark}
use Rattle.clr_workspaces.specs.Workspaces.{Workspace, live_workspace, workspace_at}
use Rattle.clr_deltas.specs.declared.stored_marks.StoredMark.{StoredMark}
use Rattle.clr_deltas.proofs.Meaning.{live-wholes}
use Rattle.clr_contents.proofs.ReadLemmas.{marks-wholes}
use Rattle.clr_workspaces.proofs.RootLemmas.{split}
use Rattle.clr_workspaces.specs.Soundness.{IsSound}
use Rattle.clr_tree.specs.Trees.{Tree, tree_of}
use Rattle.clr_tree.proofs.ModelLemmas.{within_tree}

module _ (live : Content) (ls : List Delta) (t : Tree) (at : ℕ) (is : tree_of live ls ≡ t) (sound : IsSound (wholes live ls)) where
  -- the first workspace of a tree is LIVE
  pub first_is : at ≡ 0 → live_workspace live ≡ workspace_at t.list at
  first_is first =
      let current : (workspace_at (wholes live ls) 0).current ≡ live =
      live-wholes live ls (within_tree live ls t 0 is (subst (λ (t : Tree). 0 < length t.list) is sound.rooted.filled)) in
      let here : workspace_at (wholes live ls) 0 ≡ live_workspace live =
      λ i. record {
        name = sound.rooted.live i;
        parent = sound.rooted.top i;
        base = sound.base i;
        current = current i;
        marks = sound.bare i;
        kept = sound.held i;
      } in
      sym here ∙ ap (λ (t : Tree). workspace_at t.list 0) is ∙ ap (workspace_at t.list) (sym first)

  pub first_base : at ≡ 0 → (workspace_at t.list at).base ≡ no_rows
  first_base first = sym (ap (λ (w : Workspace). w.base) (first_is first))

  pub first_marks : at ≡ 0 → (workspace_at t.list at).marks ≡ []
  first_marks first = sym (ap (λ (w : Workspace). w.marks) (first_is first))

  pub marks_in : (ns : List StoredMark) → at ≢ 0 → at < length t.list → ns ≡ (delta_at ls at).marks
      → let w = workspace_at t.list at in w.marks ≡ map (whole_mark w.base) ns
  marks_in ns other lt e =
      let some : 0 < at = omega (arith, other) in
      subst (λ (t : Tree). let w = workspace_at t.list at in w.marks ≡ map (whole_mark w.base) ns) is
      (marks-wholes live ls at some (within_tree live ls t at is lt) ∙ ap (map (whole_mark (workspace_at (wholes live ls) at).base)) (sym e))

  -- a savepoint is no mark of LIVE
  pub saved_below : (mark : ℕ) → is_saved (mark_at (workspace_at t.list at).marks mark) ≡ true → 0 < at
  saved_below mark e = by (split at)
    where
      by : (at ≡ 0) ⊎ (0 < at) → 0 < at
      by (inl first) = absurd (false≢true (subst (λ (ms : List Mark). is_saved (mark_at ms mark) ≡ true) (first_marks first) e))
      by (inr some) = some

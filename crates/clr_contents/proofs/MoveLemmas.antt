-- One delta changes: what becomes of the whole workspaces.
use Rattle.std.proofs.Common.{◌≡◌, ℕ, ◌<◌, List, length, refl, ap, sym, ◌∙◌, arith, slice_set, None, take}
use Rattle.std.proofs.lemmas.List.{set-get_or}
use Rattle.clr_rows.specs.Contents.{Content, row_at}
use Rattle.clr_workspaces.specs.Workspaces.{Workspace, no_workspace, workspace_at, find}
use Rattle.clr_deltas.specs.Deltas.{Delta, delta_at, whole_of, wholes, content_by_name, above_at}
use Rattle.clr_workspaces.proofs.FindLemmas.{first_is}
use Rattle.clr_deltas.proofs.Meaning.{name-wholes, wholes-at, named_later}
use Rattle.clr_deltas.proofs.Places.{moved, LaterAgree}
use Rattle.clr_workspaces.specs.Roots.{IsRooted}
use Rattle.clr_contents.proofs.ReadLemmas.{within_wholes}

-- no earlier workspace has the name
pub is_new : (live : Content) (ls : List Delta) (at : ℕ) → IsRooted (wholes live ls) → at < length ls
    → content_by_name (take at (wholes live ls)) (delta_at ls at).name ≡ None
is_new live ls at r lt =
    let ws = wholes live ls in
    let name = (delta_at ls at).name in
    let first = first_is ws name at (ap (find ws) (sym (name-wholes live ls at)) ∙ r.own at (within_wholes live ls at lt)) in
    named_later ws name at (omega (arith, first.0))

module _ (live : Content) (ls : List Delta) (at : ℕ) (r : IsRooted (wholes live ls)) (some : 0 < at) (lt : at < length ls) where
  abbrev here : Workspace
  here = workspace_at (wholes live ls) at

  abbrev above : Content
  above = above_at live ls at

  -- a delta becomes another as its whole does, and its children have differences where its content changes
  pub becomes : (m : Delta) (f : Workspace → Workspace) → m.name ≡ (delta_at ls at).name → m.parent ≡ (delta_at ls at).parent → whole_of above m
      ≡ f (whole_of above (delta_at ls at))
      → LaterAgree (delta_at ls at).name here.current (f here).current ls → wholes live (slice_set ls at m)
      ≡ slice_set (wholes live ls) at (f (workspace_at (wholes live ls) at))
  becomes m f name parent is agree =
      let same = wholes-at live ls at some lt in
      let whole : whole_of above m ≡ f here = is ∙ ap f (sym same) in
      moved live ls at m some lt name parent (is_new live ls at r lt)
      (λ k k_some k_lt under q none. ap (λ (w : Workspace). row_at w.current q) whole ∙ agree k k_some k_lt under q none
      ∙ ap (λ (w : Workspace). row_at w.current q) same)
      ∙ ap (slice_set (wholes live ls) at) whole

  -- a delta becomes another as its whole does, and its content stays
  pub becomes_still : (m : Delta) (f : Workspace → Workspace) → m.name ≡ (delta_at ls at).name → m.parent ≡ (delta_at ls at).parent → whole_of above m
      ≡ f (whole_of above (delta_at ls at))
      → (f here).current ≡ here.current → wholes live (slice_set ls at m) ≡ slice_set (wholes live ls) at (f (workspace_at (wholes live ls) at))
  becomes_still m f name parent is still = becomes m f name parent is (λ k k_some k_lt under q none. ap (λ (c : Content). row_at c q) still)

  -- nothing changes where the delta means the same
  pub stays : (m : Delta) → m.name ≡ (delta_at ls at).name → m.parent ≡ (delta_at ls at).parent → whole_of above m ≡ whole_of above (delta_at ls at)
      → wholes live (slice_set ls at m) ≡ wholes live ls
  stays m name parent is = becomes_still m (λ w. w) name parent is refl ∙ set-get_or (wholes live ls) at no_workspace

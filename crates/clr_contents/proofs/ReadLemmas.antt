-- What is read of deltas: parents, bases and current contents.
use Rattle.std.proofs.Common.{◌≡◌, ℕ, ◌<◌, List, length, map, Some, None, unwrap_or, refl, ap, sym, subst, ◌∙◌}
use Rattle.std.specs.declared.option.Option.{Option}
use Rattle.std.specs.FinMap as finite
use Rattle.std.specs.Cmp.Lexicographic.{bytes_decides}
use Rattle.clr_rows.specs.declared.cells.CellId.{CellId}
use Rattle.clr_rows.specs.declared.rows.Row.{Row}
use Rattle.clr_rows.specs.Contents.{Content, row_at, over}
use Rattle.clr_deltas.specs.Differences.{seen_over}
use Rattle.clr_deltas.proofs.DifferenceLemmas.{row-seen_over}
use Rattle.clr_workspaces.specs.Workspaces.{Workspace, workspace_at, find, parent_of}
use Rattle.clr_deltas.specs.Deltas.{Delta, delta_at, find_delta, whole_of, whole_mark, wholes, above_at, IsUnder}
use Rattle.clr_workspaces.proofs.FindLemmas.{find_named}
use Rattle.clr_deltas.proofs.Meaning.{length-wholes, name-wholes, parent-wholes, find-wholes, wholes-at, named_found}
use Rattle.clr_rows.specs.Contents.{no_rows}
use Rattle.clr_workspaces.specs.Roots.{IsRooted}

pub parent_here : (live : Content) (ls : List Delta) (at : ℕ) → parent_of (wholes live ls) at ≡ find_delta ls (delta_at ls at).parent
parent_here live ls at = ap (find (wholes live ls)) (parent-wholes live ls at) ∙ find-wholes live ls (delta_at ls at).parent

pub within_wholes : (live : Content) (ls : List Delta) (at : ℕ) → at < length ls → at < length (wholes live ls)
within_wholes live ls at lt = subst (λ n. at < n) (sym (length-wholes live ls)) lt

pub within_deltas : (live : Content) (ls : List Delta) (at : ℕ) → at < length (wholes live ls) → at < length ls
within_deltas live ls at lt = subst (λ n. at < n) (length-wholes live ls) lt

pub parent_delta : (live : Content) (ls : List Delta) (at : ℕ) → IsRooted (wholes live ls) → 0 < at → at < length ls → (p : ℕ)
    × (find_delta ls (delta_at ls at).parent ≡ Some p) × (p < at)
parent_delta live ls at r some lt = let q = r.under at some (within_wholes live ls at lt) in (q.0, sym (parent_here live ls at) ∙ q.1, q.2)

pub above_parent : (live : Content) (ls : List Delta) (at p : ℕ) → parent_of (wholes live ls) at ≡ Some p → p < at → above_at live ls at
    ≡ (workspace_at (wholes live ls) p).current
above_parent live ls at p e lt = ap (λ o. unwrap_or o no_rows) (named_found (wholes live ls) (delta_at ls at).parent p at
    (ap (find (wholes live ls)) (sym (parent-wholes live ls at)) ∙ e) lt)

pub parent_earlier : (live : Content) (ls : List Delta) (at p : ℕ) → IsRooted (wholes live ls) → 0 < at → at < length ls → parent_of (wholes live ls) at
    ≡ Some p → p < at
parent_earlier live ls at p r some lt e =
    let up = r.under at some (within_wholes live ls at lt) in
    subst (λ (n : ℕ). n < at) (ap (λ (o : Option ℕ). unwrap_or o 0) (sym up.1 ∙ e)) up.2

pub base_of_whole : (above : Content) (l : Delta) → (whole_of above l).base ≡ seen_over above l.base
unfolding whole_of
base_of_whole above l = refl

pub current_of_whole : (above : Content) (l : Delta) → (whole_of above l).current ≡ seen_over (seen_over above l.base) l.current
unfolding whole_of
current_of_whole above l = refl

module _ (live : Content) (ls : List Delta) (at : ℕ) (some : 0 < at) (lt : at < length ls) where
  abbrev here : Workspace
  here = workspace_at (wholes live ls) at

  abbrev stored : Delta
  stored = delta_at ls at

  pub current-wholes : here.current ≡ seen_over here.base stored.current
  current-wholes =
      ap (λ (w : Workspace). w.current) (wholes-at live ls at some lt) ∙ current_of_whole (above_at live ls at) stored
      ∙ ap (λ m. seen_over m stored.current) (sym (ap (λ (w : Workspace). w.base) (wholes-at live ls at some lt) ∙ base_of_whole (above_at live ls at) stored))

  pub row-current : (q : CellId) → row_at here.current q ≡ unwrap_or (finite.get stored.current q) (row_at here.base q)
  row-current q = ap (λ (m : Content). row_at m q) current-wholes ∙ row-seen_over here.base stored.current q

  pub found_current : (q : CellId) (v : Option Row) → finite.get stored.current q ≡ Some v → v ≡ row_at here.current q
  found_current q v e = sym (row-current q ∙ ap (λ o. unwrap_or o (row_at here.base q)) e)

  pub none_current : (q : CellId) → finite.get stored.current q ≡ None → row_at here.base q ≡ row_at here.current q
  none_current q e = sym (row-current q ∙ ap (λ o. unwrap_or o (row_at here.base q)) e)

  -- where the position of the parent is known
  module _ (p : ℕ) (e : parent_of (wholes live ls) at ≡ Some p) (up : p < at) where
    abbrev above : Content
    above = (workspace_at (wholes live ls) p).current

    pub base-wholes : here.base ≡ seen_over above stored.base
    base-wholes = ap (λ (w : Workspace). w.base) (wholes-at live ls at some lt) ∙ base_of_whole (above_at live ls at) stored
        ∙ ap (λ m. seen_over m stored.base) (above_parent live ls at p e up)

    pub row-base : (q : CellId) → row_at here.base q ≡ unwrap_or (finite.get stored.base q) (row_at above q)
    row-base q = ap (λ (m : Content). row_at m q) base-wholes ∙ row-seen_over above stored.base q

    pub none_base : (q : CellId) → finite.get stored.base q ≡ None → row_at above q ≡ row_at here.base q
    none_base q none = sym (row-base q ∙ ap (λ o. unwrap_or o (row_at above q)) none)

    pub base_parts : over above (finite.entries stored.base) ≡ here.base
    unfolding seen_over
    base_parts = sym base-wholes

    pub current_parts : over (over above (finite.entries stored.base)) (finite.entries stored.current) ≡ here.current
    unfolding seen_over
    current_parts = ap (λ (m : Content). over m (finite.entries stored.current)) base_parts ∙ sym current-wholes

pub found_base : (live : Content) (ls : List Delta) (at : ℕ) (q : CellId) (v : Option Row) → IsRooted (wholes live ls) → 0 < at → at < length ls
    → finite.get (delta_at ls at).base q ≡ Some v → v ≡ row_at (workspace_at (wholes live ls) at).base q
found_base live ls at q v r some lt e =
    let up = r.under at some (within_wholes live ls at lt) in
    sym (row-base live ls at some lt up.0 up.1 up.2 q ∙ ap (λ o. unwrap_or o (row_at (workspace_at (wholes live ls) up.0).current q)) e)

-- a workspace is a child of its parent
pub under_its_parent : (live : Content) (ls : List Delta) (at p : ℕ) → parent_of (wholes live ls) at ≡ Some p → IsUnder (delta_at ls p).name (delta_at ls at)
under_its_parent live ls at p e =
    let named = find_named (wholes live ls) (workspace_at (wholes live ls) at).parent p e in
    (bytes_decides _ _).1 (sym (name-wholes live ls p) ∙ sym named ∙ parent-wholes live ls at)

-- the marks and the flag
marks_of_whole : (above : Content) (l : Delta) → (whole_of above l).marks ≡ map (whole_mark (seen_over above l.base)) l.marks
unfolding whole_of
marks_of_whole m l = refl

kept_of_whole : (above : Content) (l : Delta) → (whole_of above l).kept ≡ l.kept
unfolding whole_of
kept_of_whole m l = refl

module _ (live : Content) (ls : List Delta) (at : ℕ) (some : 0 < at) (lt : at < length ls) where
  pub marks-wholes : (workspace_at (wholes live ls) at).marks ≡ map (whole_mark (workspace_at (wholes live ls) at).base) (delta_at ls at).marks
  marks-wholes =
      let whole = wholes-at live ls at some lt in
      let above = above_at live ls at in
      ap (λ (w : Workspace). w.marks) whole ∙ marks_of_whole above (delta_at ls at)
      ∙ ap (λ (m : Content). map (whole_mark m) (delta_at ls at).marks) (sym (ap (λ (w : Workspace). w.base) whole ∙ base_of_whole above (delta_at ls at)))

  pub kept-wholes : (workspace_at (wholes live ls) at).kept ≡ (delta_at ls at).kept
  kept-wholes = ap (λ (w : Workspace). w.kept) (wholes-at live ls at some lt) ∙ kept_of_whole (above_at live ls at) (delta_at ls at)

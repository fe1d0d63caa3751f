-- The first row that edits remove, edit by edit.
use Rattle.std.proofs.Common.{◌≡◌, ◌∷◌, ◌+◌, ◌<◌, ◌≤◌, ℕ, List, [], Some, None, drop, get_or, length, ap, refl, sym, ◌∙◌}
use Rattle.std.proofs.lemmas.List.{at_drop_all, at_drop_more}
use Rattle.clr_rows.specs.declared.cells.CellId.{CellId}
use Rattle.clr_change.specs.declared.edits.Edit.{Edit}
use Rattle.clr_change.specs.declared.edits.Edit.TheVariants.{Insert, Update, Delete}
use Rattle.clr_designs.specs.Counts.{first_removed}

-- an edit that removes no row
kept : (edit : Edit) (rest : List Edit) → ((cell : CellId) → edit ≡ Delete cell → ⊥) → first_removed (edit ∷ rest) ≡ first_removed rest
unfolding first_removed
kept (Insert cell row) rest other = refl
kept (Update cell row) rest other = refl
kept (Delete cell) rest other = absurd (other cell refl)

module _ (edits : List Edit) (i : ℕ) where
  here : (edit : Edit) → i < length edits → edit ≡ get_or edits i edit → first_removed (drop i edits) ≡ first_removed (edit ∷ drop (i + 1) edits)
  here edit lt is = at_drop_more first_removed edits i edit lt ∙ ap (λ (e : Edit). first_removed (e ∷ drop (i + 1) edits)) (sym is)

  pub removed_here : (edit : Edit) (cell : CellId) → i < length edits → edit ≡ get_or edits i edit → edit ≡ Delete cell
      → first_removed (drop i edits) ≡ first_removed edits → Some cell ≡ first_removed edits
  unfolding first_removed
  removed_here edit cell lt is removes so_far =
      sym (here edit lt is ∙ ap (λ (e : Edit). first_removed (e ∷ drop (i + 1) edits)) removes) ∙ so_far

  pub kept_here : (edit : Edit) → i < length edits → edit ≡ get_or edits i edit → ((cell : CellId) → edit ≡ Delete cell → ⊥)
      → first_removed (drop i edits) ≡ first_removed edits → first_removed (drop (i + 1) edits) ≡ first_removed edits
  kept_here edit lt is other so_far = sym (here edit lt is ∙ kept edit (drop (i + 1) edits) other) ∙ so_far

  pub none_left : length edits ≤ i → first_removed (drop i edits) ≡ first_removed edits → None ≡ first_removed edits
  unfolding first_removed
  none_left le so_far = sym (at_drop_all first_removed edits i le) ∙ so_far

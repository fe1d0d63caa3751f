-- Differences that are stored first: no content changes, and none is dropped.
use Rattle.std.proofs.Common.{◌≡◌, ℕ, suc, zero, ◌<◌, ◌≢◌, ⊎_elim, true, false, cond, List, [], ◌∷◌, length, get_or, map, Some, None, refl, ap, sym, subst, ◌∙◌}
use Rattle.std.proofs.Common.{arith, slice_set}
use Rattle.std.proofs.lemmas.List.{length-set, get_or-set_same, get_or-set_other}
use Rattle.std.proofs.lemmas.Bool.{cases_eq}
use Rattle.std.specs.declared.option.Option.{Option}
use Rattle.std.specs.FinMap as finite
use Rattle.clr_rows.specs.declared.cells.CellId.{CellId}
use Rattle.clr_rows.specs.declared.rows.Row.{Row}
use Rattle.clr_rows.specs.Contents.{Content, row_at, over}
use Rattle.clr_deltas.specs.Differences.{Differences, RowsByCell, seen_over, put_each, cells_in, is_among, HasDifference, IsOwnOver}
use Rattle.clr_deltas.proofs.DifferenceLemmas.{neutral, neutral_new, put_each_keeps, over_outside, not_among}
use Rattle.clr_deltas.proofs.DifferenceLemmas.{difference_stays, difference_stored, differences_keep}
use Rattle.clr_deltas.proofs.DifferenceLemmas.{put_elsewhere, put_each_elsewhere}
use Rattle.clr_workspaces.specs.Marks.{Name, Mark}
use Rattle.clr_workspaces.specs.Workspaces.{Workspace, workspace_at, parent_of}
use Rattle.clr_deltas.specs.Deltas.{Delta, no_delta, delta_at, delta_changed, whole_of, whole_mark, wholes, above_at, IsUnder, StayOwnBeside}
use Rattle.clr_deltas.specs.declared.stored_marks.StoredMark.{StoredMark}
use Rattle.clr_deltas.proofs.Meaning.{wholes-at}
use Rattle.clr_deltas.proofs.Places.{LaterAgree}
use Rattle.clr_contents.specs.SeenRows.{HasDifferencesOf, Extends, ChildrenStore, StaysOwnAt, StayOwnBut, StayOwnButChildren}
use Rattle.clr_workspaces.specs.Roots.{IsRooted}
use Rattle.clr_contents.proofs.ReadLemmas.{above_parent, base_of_whole, current_of_whole}
use Rattle.clr_contents.proofs.MoveLemmas.{stays}

-- what is seen stays ---------------------------------------------------------------------------

pub whole_base : (above : Content) (l : Delta) (d : Differences) → seen_over above d ≡ seen_over above l.base → whole_of above (record l { base = d })
    ≡ whole_of above l
unfolding whole_of
whole_base above l d same = ap (λ (b : Content). let w : Workspace =
    record { name = l.name; parent = l.parent; base = b; current = seen_over b l.current; marks = map (whole_mark b) l.marks; kept = l.kept } in w) same

pub whole_current : (above : Content) (l : Delta) (d : Differences) → seen_over (seen_over above l.base) d ≡ seen_over (seen_over above l.base) l.current
    → whole_of above (record l { current = d }) ≡ whole_of above l
unfolding whole_of
whole_current above l d same = ap (λ (c : Content). let b = seen_over above l.base in
    let w : Workspace = record { name = l.name; parent = l.parent; base = b; current = c; marks = map (whole_mark b) l.marks; kept = l.kept } in w) same

pub whole_marks : (above : Content) (l : Delta) (ms : List StoredMark) → map (whole_mark (seen_over above l.base)) ms
    ≡ map (whole_mark (seen_over above l.base)) l.marks → whole_of above (record l { marks = ms }) ≡ whole_of above l
unfolding whole_of
whole_marks above l ms same = ap (λ (ns : List Mark). let b = seen_over above l.base in
    let w : Workspace = record { name = l.name; parent = l.parent; base = b; current = seen_over b l.current; marks = ns; kept = l.kept } in w) same

module _ (live : Content) (ls : List Delta) (at : ℕ) (r : IsRooted (wholes live ls)) (some : 0 < at) (lt : at < length ls) where
  abbrev stored : Delta
  stored = delta_at ls at

  abbrev above : Content
  above = above_at live ls at

  pub base_is_stored : (p : ℕ) (k : CellId) (v : Option Row) → parent_of (wholes live ls) at ≡ Some p → p < at → finite.get stored.base k ≡ None → v
      ≡ row_at (workspace_at (wholes live ls) p).current k
      → wholes live (delta_changed ls at (λ l. record l { base = finite.insert l.base k v })) ≡ wholes live ls
  base_is_stored p k v e up none is =
      stays live ls at r some lt _ refl refl (whole_base above stored (finite.insert stored.base k v)
      (neutral_new above stored.base k v none (is ∙ ap (λ (m : Content). row_at m k) (sym (above_parent live ls at p e up)))))

  pub current_is_stored : (k : CellId) (v : Option Row) → v ≡ row_at (workspace_at (wholes live ls) at).current k
      → wholes live (delta_changed ls at (λ l. record l { current = finite.insert l.current k v })) ≡ wholes live ls
  current_is_stored k v is =
      let row : v ≡ row_at (seen_over (seen_over above stored.base) stored.current) k = is
      ∙ ap (λ (w : Workspace). row_at w.current k) (wholes-at live ls at some lt) ∙ ap (λ (m : Content). row_at m k) (current_of_whole above stored) in
      stays live ls at r some lt _ refl refl (whole_current above stored (finite.insert stored.current k v)
      (neutral (seen_over above stored.base) stored.current k v row))

  pub saved_is_stored : (k : CellId) (v : Option Row) (ms : List StoredMark) → v ≡ row_at (workspace_at (wholes live ls) at).base k
      → ((b : Content) → row_at b k ≡ v → map (whole_mark b) ms ≡ map (whole_mark b) stored.marks)
      → wholes live (delta_changed ls at (λ l. record l { marks = ms })) ≡ wholes live ls
  saved_is_stored k v ms is same =
      let row : row_at (seen_over above stored.base) k ≡ v =
      sym (is ∙ ap (λ (w : Workspace). row_at w.base k) (wholes-at live ls at some lt) ∙ ap (λ (m : Content). row_at m k) (base_of_whole above stored)) in
      stays live ls at r some lt _ refl refl (whole_marks above stored ms (same (seen_over above stored.base) row))

-- differences stay -----------------------------------------------------------------------------

has_own : (l : Delta) → HasDifferencesOf l l
has_own l = record { name = refl; parent = refl; base = λ q h. h; current = λ q h. h }

pub extends_itself : (ls : List Delta) → Extends ls ls
extends_itself ls = record { long = refl; each = λ k. has_own (delta_at ls k) }

pub extends_both : (ls ms ns : List Delta) → Extends ls ms → Extends ms ns → Extends ls ns
extends_both ls ms ns a b = record {
  long = b.long ∙ a.long;
  each = λ k. let f = a.each k in let g = b.each k in record {
    name = g.name ∙ f.name;
    parent = g.parent
        ∙ f.parent;
    base = λ q h. g.base q (f.base q h);
    current = λ q h. g.current q (f.current q h);
  };
}

pub extends_set : (ls : List Delta) (at : ℕ) (m : Delta) → at < length ls → HasDifferencesOf (delta_at ls at) m → Extends ls (slice_set ls at m)
extends_set ls at m lt one = record {
  long = length-set ls at m;
  each = λ k. ⊎_elim
      (λ (e : k ≡ at). subst (λ j. HasDifferencesOf (delta_at ls j) (delta_at (slice_set ls at m) j)) (sym e)
      (subst (HasDifferencesOf (delta_at ls at)) (sym (get_or-set_same ls at m no_delta lt)) one))
      (λ (n : k ≢ at). subst (HasDifferencesOf (delta_at ls k)) (sym (get_or-set_other ls at k m no_delta n)) (has_own (delta_at ls k)))
      (cases_eq k at);
}

pub extends_marks : (ls : List Delta) (at : ℕ) (ms : List StoredMark) → at < length ls → Extends ls (delta_changed ls at (λ l. record l { marks = ms }))
extends_marks ls at ms lt = extends_set ls at _ lt (record { name = refl; parent = refl; base = λ q h. h; current = λ q h. h })

-- other differences are as they were ------------------------------------------------------------

pub own_itself : (q : CellId) (l : Delta) → StaysOwnAt q l l
own_itself q l = record { base = refl; current = λ row own. own; saved = λ row own. own }

pub own_both : (q : CellId) (l m n : Delta) → StaysOwnAt q l m → StaysOwnAt q m n → StaysOwnAt q l n
own_both q l m n a b = record {
  base = b.base ∙ a.base;
  current = λ row own. b.current row (a.current row own);
  saved = λ row own. b.saved row (a.saved row own);
}

pub but_itself : (at : ℕ) (cells : List CellId) (ls : List Delta) → StayOwnBut at cells ls ls
but_itself at cells ls k q apart = own_itself q (delta_at ls k)

pub but_both : (at : ℕ) (cells : List CellId) (ls ms ns : List Delta) → StayOwnBut at cells ls ms → StayOwnBut at cells ms ns → StayOwnBut at cells ls ns
but_both at cells ls ms ns a b k q apart = own_both q (delta_at ls k) (delta_at ms k) (delta_at ns k) (a k q apart) (b k q apart)

-- the child of a workspace alone
pub but_child : (at p : ℕ) (cells : List CellId) (ls ms : List Delta) → IsUnder (delta_at ls p).name (delta_at ls at) → StayOwnBut at cells ls ms
    → StayOwnButChildren (delta_at ls p).name cells ls ms
but_child at p cells ls ms under a k q apart = a k q (λ same. apart (subst (λ j. IsUnder (delta_at ls p).name (delta_at ls j)) (sym same) under))

-- more children, over deltas of the same names
pub but_children_both : (at : ℕ) (cells : List CellId) (ls ms ns : List Delta) → Extends ls ms → StayOwnButChildren (delta_at ls at).name cells ls ms
    → StayOwnButChildren (delta_at ms at).name cells ms ns → StayOwnButChildren (delta_at ls at).name cells ls ns
but_children_both at cells ls ms ns e a b k q apart =
    own_both q (delta_at ls k) (delta_at ms k) (delta_at ns k) (a k q apart)
    (b k q (λ under. apart (subst (λ n. IsUnder n (delta_at ls k)) (e.each at).name
    (subst (λ n. IsUnder (delta_at ms at).name (record (delta_at ls k) { parent = n })) (e.each k).parent under))))

pub but_set : (ls : List Delta) (at : ℕ) (m : Delta) (cells : List CellId) → at < length ls → ((q : CellId) → is_among cells q ≡ false
    → StaysOwnAt q (delta_at ls at) m) → StayOwnBut at cells ls (slice_set ls at m)
but_set ls at m cells lt one k q apart = ⊎_elim
    (λ (e : k ≡ at). subst (λ j. StaysOwnAt q (delta_at ls j) (delta_at (slice_set ls at m) j)) (sym e)
    (subst (StaysOwnAt q (delta_at ls at)) (sym (get_or-set_same ls at m no_delta lt)) (one q (apart e))))
    (λ (n : k ≢ at). subst (StaysOwnAt q (delta_at ls k)) (sym (get_or-set_other ls at k m no_delta n)) (own_itself q (delta_at ls k)))
    (cases_eq k at)

pub but_marks : (ls : List Delta) (at : ℕ) (cells : List CellId) (ms : List StoredMark) → at < length ls → StayOwnBeside cells (delta_at ls at).marks ms
    → StayOwnBut at cells ls (delta_changed ls at (λ l. record l { marks = ms }))
but_marks ls at cells ms lt stay = but_set ls at _ cells lt (λ q apart. record { base = refl; current = λ row own. own; saved = stay q apart })

-- a cell of some is apart where all are
pub apart_at : (cells : List CellId) (i : ℕ) (c q : CellId) → i < length cells → is_among cells q ≡ false → is_among (get_or cells i c ∷ []) q ≡ false
apart_at [] i c q lt apart = absurd (omega arith)
apart_at (cell ∷ cells) zero c q lt apart = ap (λ b. cond b true false) (not_among cell cells q apart).0
apart_at (cell ∷ cells) (suc i) c q lt apart = apart_at cells i c q (omega arith) (not_among cell cells q apart).1

-- differences are stored in one delta -------------------------------------------------------------

-- one difference
module _ (ls : List Delta) (at : ℕ) (k : CellId) (v : Option Row) (lt : at < length ls) where
  abbrev had : Delta
  had = delta_at ls at

  abbrev in_base : List Delta
  in_base = delta_changed ls at (λ l. record l { base = finite.insert l.base k v })

  abbrev in_current : List Delta
  in_current = delta_changed ls at (λ l. record l { current = finite.insert l.current k v })

  pub extends_base : Extends ls in_base
  extends_base = extends_set ls at _ lt (record { name = refl; parent = refl; base = λ q h. difference_stays had.base k q v h; current = λ q h. h })

  pub extends_current : Extends ls in_current
  extends_current = extends_set ls at _ lt (record { name = refl; parent = refl; base = λ q h. h; current = λ q h. difference_stays had.current k q v h })

  pub but_base : StayOwnBut at (k ∷ []) ls in_base
  but_base = but_set ls at _ (k ∷ []) lt
      (λ q apart. record { base = put_elsewhere had.base k v q apart; current = λ row own. own; saved = λ row own. own })

  pub but_current : StayOwnBut at (k ∷ []) ls in_current
  but_current = but_set ls at _ (k ∷ []) lt (λ q apart. record {
    base = refl;
    current = λ row own. subst (IsOwnOver row) (sym (put_elsewhere had.current k v q apart)) own;
    saved = λ row own. own;
  })

  pub is_stored_in_base : HasDifference (delta_at in_base at).base k
  is_stored_in_base = subst (λ (l : Delta). HasDifference l.base k) (sym (get_or-set_same ls at _ no_delta lt)) (difference_stored had.base k v)

  pub is_stored_in_current : HasDifference (delta_at in_current at).current k
  is_stored_in_current = subst (λ (l : Delta). HasDifference l.current k) (sym (get_or-set_same ls at _ no_delta lt)) (difference_stored had.current k v)

-- one after another
module _ (ls : List Delta) (at : ℕ) (rows : RowsByCell) (lt : at < length ls) where
  abbrev with_rows : List Delta
  with_rows = delta_changed ls at (λ l. record l { current = put_each l.current rows })

  pub extends_put : Extends ls with_rows
  extends_put = extends_set ls at _ lt (record {
    name = refl;
    parent = refl;
    base = λ q h. h;
    current = λ q h. put_each_keeps rows (delta_at ls at).current q h;
  })

  pub but_put : StayOwnBut at (cells_in rows) ls with_rows
  but_put = but_set ls at _ (cells_in rows) lt (λ q apart. record {
    base = refl;
    current = λ row own. subst (IsOwnOver row) (sym (put_each_elsewhere rows (delta_at ls at).current q apart)) own;
    saved = λ row own. own;
  })

-- differences of children -----------------------------------------------------------------------------

-- the children's differences stay stored where deltas get more differences
pub children_keep : (ls ms : List Delta) (name : Name) (cells : List CellId) → Extends ls ms → ChildrenStore ls name cells → ChildrenStore ms name cells
children_keep ls ms name cells e is_stored k some lt under =
    let one = e.each k in
    differences_keep (delta_at ls k).base (delta_at ms k).base cells one.base
    (is_stored k some (subst (λ n. k < n) e.long lt) (subst (λ n. IsUnder name (record (delta_at ls k) { parent = n })) one.parent under))

-- rows that the children have stored
pub rows_agree : (ls : List Delta) (name : Name) (m : Content) (rows : RowsByCell) → ChildrenStore ls name (cells_in rows) → LaterAgree name m (over m rows) ls
rows_agree ls name m rows is_stored k some lt under q none = over_outside (delta_at ls k).base rows m (is_stored k some lt under) q none

-- What stands at a cell where the changes of some members are over the root: the cell's changer decides it, whatever the others are.
use Rattle.std.proofs.Common.{◌≡◌, ◌∙◌, Bool, true, false, ◌||◌, List, [], ◌∷◌, inl, inr, refl, sym, ap, Option, Some, None, cond, unwrap_or, is_some}
use Rattle.std.proofs.lemmas.Bool.{cases_Bool, false≢true, or_left, or_right, or_cases}
use Rattle.clr_rows.specs.declared.cells.CellId.{CellId}
use Rattle.clr_rows.specs.declared.rows.Row.{Row}
use Rattle.clr_needs.specs.Settings.{Setting, AreDisjoint, AreAmong, changer, first_changer, has, view_with}

module _ {A : Type 0} (c : Setting A) where
  -- members whose changes are over the root, where no cell is changed by two members
  pub record IsMerge (ts : List A) : Type 0 where
    pub apart : AreDisjoint c
    pub part : AreAmong c ts c.members

  pub head_is_in : (n : A) (ns : List A) → has c.same (n ∷ ns) n ≡ true
  head_is_in n ns = or_left (c.same n n) (has c.same ns n) ((c.decides n n).1 refl)

  -- ---- the changer

  -- the changer of a cell is a member and changes it; where there is none, no member changes the cell
  abbrev pub IsChanger : List A → CellId → Option A → Type 0
  IsChanger ns q None = (n : A) → has c.same ns n ≡ true → c.after n q ≡ None
  IsChanger ns q (Some m) = (has c.same ns m ≡ true) × (is_some (c.after m q) ≡ true)

  same_is_unchanging : (m n : A) (q : CellId) → c.after m q ≡ None → c.same m n ≡ true → c.after n q ≡ None
  same_is_unchanging m n q e s = ap (λ k. c.after k q) (sym ((c.decides m n).0 s)) ∙ e

  behind : (m : A) (ns : List A) (q : CellId) (x : Option A) → c.after m q ≡ None → IsChanger ns q x → IsChanger (m ∷ ns) q x
  behind m ns q None e h = λ n k. elim (or_cases (c.same m n) (has c.same ns n) k) [ inl s ↦ same_is_unchanging m n q e s | inr j ↦ h n j ]
  behind m ns q (Some n) e h = (or_right (c.same m n) (has c.same ns n) h.0, h.1)

  first_is_changer : (ns : List A) (q : CellId) → IsChanger ns q (first_changer c.after ns q)
  unfolding first_changer
  first_is_changer [] q = λ n h. absurd (false≢true h)
  first_is_changer (m ∷ ns) q = by (c.after m q) refl (first_is_changer ns q)
    where
      by : (after : Option (Option Row)) → c.after m q ≡ after → IsChanger ns q (first_changer c.after ns q)
          → IsChanger (m ∷ ns) q (cond (is_some after) (Some m) (first_changer c.after ns q))
      by None e more = behind m ns q (first_changer c.after ns q) e more
      by (Some row) e more = (head_is_in m ns, ap is_some e)

  pub changer_is : (q : CellId) → IsChanger c.members q (changer c q)
  changer_is q = first_is_changer c.members q

  -- a member that changes a cell is its changer
  changes_as_changer : AreDisjoint c → (n : A) (q : CellId) → has c.same c.members n ≡ true → is_some (c.after n q) ≡ true → changer c q ≡ Some n
  changes_as_changer apart n q member changes = go (changer c q) (changer_is q)
    where
      go : (x : Option A) → IsChanger c.members q x → x ≡ Some n
      go None h = absurd (false≢true (ap is_some (sym (h n member)) ∙ changes))
      go (Some m) h = ap Some (apart m n q h.0 member h.1 changes)

  -- ---- the row

  -- what stands at a cell with this changer: the changer's row where it is one of some members, and else the root's
  abbrev pub standing_row : List A → CellId → Option A → Option Row
  standing_row ts q None = c.root q
  standing_row ts q (Some n) = cond (has c.same ts n) (unwrap_or (c.after n q) (c.root q)) (c.root q)

  pub merged_row : (ts : List A) (q : CellId) (n : A) (row : Option Row) → has c.same ts n ≡ true → c.after n q ≡ Some row → standing_row ts q (Some n) ≡ row
  merged_row ts q n row h e = ap (λ b. cond b (unwrap_or (c.after n q) (c.root q)) (c.root q)) h ∙ ap (λ x. unwrap_or x (c.root q)) e

  pub unmerged_row : (ts : List A) (q : CellId) (n : A) → has c.same ts n ≡ false → standing_row ts q (Some n) ≡ c.root q
  unmerged_row ts q n h = ap (λ b. cond b (unwrap_or (c.after n q) (c.root q)) (c.root q)) h

  -- a changer that changes nothing leaves the root's row
  idle_row : (ts : List A) (q : CellId) (n : A) → c.after n q ≡ None → standing_row ts q (Some n) ≡ c.root q
  idle_row ts q n e = ap (λ x. cond (has c.same ts n) (unwrap_or x (c.root q)) (c.root q)) e ∙ either (has c.same ts n)
    where
      either : (b : Bool) → cond b (c.root q) (c.root q) ≡ c.root q
      either true = refl
      either false = refl

  -- a member that doesn't change the cell makes no difference there
  no_difference : (n : A) (ns : List A) (q : CellId) (x : Option A) → c.after n q ≡ None → standing_row ns q x ≡ standing_row (n ∷ ns) q x
  no_difference n ns q None e = refl
  no_difference n ns q (Some m) e = elim (cases_Bool (c.same n m)) [
    | inl s ↦ idle_row ns q m (same_is_unchanging n m q e s) ∙ sym (idle_row (n ∷ ns) q m (same_is_unchanging n m q e s))
    | inr s ↦ ap (λ b. cond (b || has c.same ns m) (unwrap_or (c.after m q) (c.root q)) (c.root q)) (sym s)
  ]

  pub taken_is : (ts : List A) → IsMerge ts → (q : CellId) → view_with c ts q ≡ standing_row ts q (changer c q)
  unfolding view_with
  taken_is [] merge q = of_root (changer c q)
    where
      of_root : (x : Option A) → c.root q ≡ standing_row [] q x
      of_root None = refl
      of_root (Some n) = refl
  taken_is (n ∷ ns) merge q = by (c.after n q) refl
      (taken_is ns (record { apart = merge.apart; part = λ m h. merge.part m (or_right (c.same n m) (has c.same ns m) h) }) q)
    where
      by : (after : Option (Option Row)) → c.after n q ≡ after → view_with c ns q ≡ standing_row ns q (changer c q)
          → unwrap_or after (view_with c ns q) ≡ standing_row (n ∷ ns) q (changer c q)
      by None e more = more ∙ no_difference n ns q (changer c q) e
      by (Some row) e more =
          let found = changes_as_changer merge.apart n q (merge.part n (head_is_in n ns)) (ap is_some e) in
          sym (merged_row (n ∷ ns) q n row (head_is_in n ns) e) ∙ ap (standing_row (n ∷ ns) q) (sym found)

  -- ---- one member over others, and the root alone
  pub taken_over : (n : A) (ns : List A) (q : CellId) → view_with c (n ∷ ns) q ≡ unwrap_or (c.after n q) (view_with c ns q)
  unfolding view_with
  taken_over n ns q = refl

  pub root_is : (q : CellId) → view_with c [] q ≡ c.root q
  unfolding view_with
  root_is q = refl

  -- where no cell is changed by two, the root is the merge of no members
  pub none_merged : AreDisjoint c → IsMerge []
  none_merged apart = record { apart = apart; part = λ n h. absurd (false≢true h) }

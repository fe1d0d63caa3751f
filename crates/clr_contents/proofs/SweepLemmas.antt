-- Differences that have the row of what they lie over go, and no content changes.
use Rattle.std.proofs.Common.{◌≡◌, ℕ, suc, zero, ◌<◌, List, [], ◌∷◌, ◌++◌, length, map, take, get_or, slice_set, Some, unwrap_or, refl, ap, sym, ◌∙◌, subst}
use Rattle.std.proofs.Common.{arith}
use Rattle.std.specs.Str.{bytes_eq}
use Rattle.std.proofs.lemmas.List.{length-set, get_or-set_same}
use Rattle.std.proofs.lemmas.List.Folds.{position_or_len-set}
use Rattle.std.proofs.Math.ListN.{get_or-map}
use Rattle.std.proofs.Math.Seq.{map-set_same}
use Rattle.clr_rows.specs.Contents.{Content, no_rows}
use Rattle.clr_rows.specs.Names.{is_good_name}
use Rattle.clr_deltas.specs.Differences.{Differences, seen_over}
use Rattle.clr_deltas.proofs.SweepLemmas.{seen-swept}
use Rattle.clr_workspaces.specs.Marks.{Name, Saved, ChildMark}
use Rattle.clr_workspaces.specs.Workspaces.{Workspace, workspace_at, find, parent_of}
use Rattle.clr_deltas.specs.Deltas.{Delta, no_delta, delta_at, delta_changed, find_delta, whole_of, whole_mark, top, content_by_name, above_in, grow, wholes}
use Rattle.clr_deltas.specs.Deltas.{above_at}
use Rattle.clr_deltas.specs.declared.stored_marks.StoredMark.{StoredMark}
use Rattle.clr_deltas.specs.declared.stored_marks.StoredMark.TheVariants as kinds
use Rattle.clr_deltas.proofs.Meaning.{length-wholes, name-wholes, parent-wholes, find-wholes, wholes-at}
use Rattle.clr_workspaces.specs.Roots.{IsRooted}
use Rattle.clr_contents.specs.Lean.{content_above, content_of_parent, swept_marks}
use Rattle.clr_contents.proofs.SeenRowLemmas.{whole_base, whole_current, whole_marks}
use Rattle.clr_contents.proofs.MoveLemmas.{stays}
use Rattle.clr_contents.proofs.ReadLemmas.{within_wholes, above_parent, base_of_whole}

-- a delta set ------------------------------------------------------------------------------------------

pub set_twice : {A : Type 0} (xs : List A) (at : ℕ) (x y : A) → slice_set (slice_set xs at x) at y ≡ slice_set xs at y
set_twice [] at x y = refl
set_twice (z ∷ xs) zero x y = refl
set_twice (z ∷ xs) (suc at) x y = ap (λ ys. z ∷ ys) (set_twice xs at x y)

module _ (ls : List Delta) (at : ℕ) (m : Delta) (lt : at < length ls) where
  pub set_here : delta_at (slice_set ls at m) at ≡ m
  set_here = get_or-set_same ls at m no_delta lt

  pub set_again : (f : Delta → Delta) → delta_changed (slice_set ls at m) at f ≡ slice_set ls at (f m)
  set_again f = ap (λ (l : Delta). slice_set (slice_set ls at m) at (f l)) set_here ∙ set_twice ls at m (f m)

module _ (ls : List Delta) (at : ℕ) (m : Delta) (name : m.name ≡ (delta_at ls at).name) (parent : m.parent ≡ (delta_at ls at).parent) where
  abbrev new : List Delta
  new = slice_set ls at m

  field_stays : (f : Delta → Name) → f m ≡ f (delta_at ls at) → (i : ℕ) → f (delta_at (slice_set ls at m) i) ≡ f (delta_at ls i)
  field_stays f e i = sym (get_or-map f new i no_delta) ∙ ap (λ (fs : List Name). get_or fs i (f no_delta)) (map-set_same f ls at m no_delta e)
      ∙ get_or-map f ls i no_delta

  found_same : (n : Name) → find_delta (slice_set ls at m) n ≡ find_delta ls n
  found_same n = rw (position_or_len-set (λ (l : Delta). bytes_eq n l.name) ls at m no_delta (ap (bytes_eq n) name), length-set ls at m) refl

  module _ (live : Content) where
    name_same : (i : ℕ) → (workspace_at (wholes live new) i).name ≡ (workspace_at (wholes live ls) i).name
    name_same i = name-wholes live new i ∙ field_stays (λ (l : Delta). l.name) name i ∙ sym (name-wholes live ls i)

    parent_same : (i : ℕ) → (workspace_at (wholes live new) i).parent ≡ (workspace_at (wholes live ls) i).parent
    parent_same i = parent-wholes live new i ∙ field_stays (λ (l : Delta). l.parent) parent i ∙ sym (parent-wholes live ls i)

    find_same : (n : Name) → find (wholes live new) n ≡ find (wholes live ls) n
    find_same n = find-wholes live new n ∙ found_same n ∙ sym (find-wholes live ls n)

    pub above_same : (i : ℕ) → parent_of (wholes live (slice_set ls at m)) i ≡ parent_of (wholes live ls) i
    above_same i = find_same (workspace_at (wholes live new) i).parent ∙ ap (find (wholes live ls)) (parent_same i)

    -- a delta of the same name and parent leaves the workspaces rooted
    pub rooted_still : IsRooted (wholes live ls) → IsRooted (wholes live (slice_set ls at m))
    rooted_still r =
        let long : length (wholes live new) ≡ length (wholes live ls) = length-wholes live new ∙ length-set ls at m ∙ sym (length-wholes live ls) in
        let before : (i : ℕ) → i < length (wholes live new) → i < length (wholes live ls) = λ i lt. subst (λ n. i < n) long lt in
        record {
          filled = subst (λ n. 0 < n) (sym long) r.filled;
          live = name_same 0 ∙ r.live;
          top = parent_same 0 ∙ r.top;
          good = λ i lt. ap is_good_name (name_same i) ∙ r.good i (before i lt);
          own = λ i lt. find_same (workspace_at (wholes live new) i).name ∙ ap (find (wholes live ls)) (name_same i) ∙ r.own i (before i lt);
          under = λ i later lt. let p = r.under i later (before i lt) in (p.0, above_same i ∙ p.1, p.2);
        }

-- positions before the next part
pub at_take : (ws : List Workspace) (n i : ℕ) → i < n → workspace_at (take n ws) i ≡ workspace_at ws i
at_take ws zero i lt = absurd (omega arith)
at_take [] (suc n) i lt = refl
at_take (w ∷ ws) (suc n) zero lt = refl
at_take (w ∷ ws) (suc n) (suc i) lt = at_take ws n i (omega arith)

-- earlier workspaces stay -------------------------------------------------------------------------------

before_grow : (ws : List Workspace) (ls : List Delta) (at : ℕ) (m : Delta) → take at (grow ws (slice_set ls at m)) ≡ take at (grow ws ls)
unfolding grow
before_grow ws [] at m = refl
before_grow ws (l ∷ ls) zero m = refl
before_grow ws (l ∷ ls) (suc at) m = let w = whole_of (above_in ws l) l in ap (λ rest. w ∷ rest) (before_grow (ws ++ w ∷ []) ls at m)

pub before_stays : (live : Content) (ls : List Delta) (at : ℕ) (m : Delta) → take at (wholes live (slice_set ls at m)) ≡ take at (wholes live ls)
unfolding wholes
before_stays live [] at m = refl
before_stays live (l ∷ ls) zero m = refl
before_stays live (l ∷ ls) (suc at) m = let w = top live l in ap (λ rest. w ∷ rest) (before_grow (w ∷ []) ls at m)

pub earlier_stays : (live : Content) (ls : List Delta) (at i : ℕ) (m : Delta) → i < at → workspace_at (wholes live (slice_set ls at m)) i
    ≡ workspace_at (wholes live ls) i
earlier_stays live ls at i m lt =
    sym (at_take (wholes live (slice_set ls at m)) at i lt) ∙ ap (λ (ws : List Workspace). workspace_at ws i) (before_stays live ls at m)
    ∙ at_take (wholes live ls) at i lt

-- savepoints ----------------------------------------------------------------------------------------------

pub seen-swept_marks : (b : Content) (ms : List StoredMark) → map (whole_mark b) (swept_marks b ms) ≡ map (whole_mark b) ms
seen-swept_marks b [] = refl
seen-swept_marks b (kinds.Saved name d ∷ ms) = λ i. Saved name (seen-swept b d i) ∷ seen-swept_marks b ms i
seen-swept_marks b (kinds.Child name ∷ ms) = ap (λ ns. ChildMark name ∷ ns) (seen-swept_marks b ms)

-- sweeping one workspace ----------------------------------------------------------------------------------

module _ (live : Content) (ls : List Delta) (at : ℕ) (r : IsRooted (wholes live ls)) (some : 0 < at) (lt : at < length ls) where
  abbrev ws : List Workspace
  ws = wholes live ls

  abbrev stored : Delta
  stored = delta_at ls at

  abbrev above : Content
  above = content_of_parent ws at

  above_is : above_at live ls at ≡ content_of_parent (wholes live ls) at
  above_is =
      let q = r.under at some (within_wholes live ls at lt) in
      above_parent live ls at q.0 q.1 q.2 ∙ sym (ap (content_above ws) q.1)

  pub base_is : (workspace_at (wholes live ls) at).base ≡ seen_over (content_of_parent (wholes live ls) at) (delta_at ls at).base
  base_is = ap (λ (w : Workspace). w.base) (wholes-at live ls at some lt) ∙ base_of_whole (above_at live ls at) stored
      ∙ ap (λ (m : Content). seen_over m stored.base) above_is

  -- the parent's content while the base is taken out
  pub parent_stays : (d : Differences) (p : ℕ) → parent_of (wholes live ls) at ≡ Some p → p < at
      → (workspace_at (wholes live (delta_changed ls at (λ l. record l { base = d }))) p).current ≡ content_of_parent (wholes live ls) at
  parent_stays d p e up = ap (λ (w : Workspace). w.current) (earlier_stays live ls at p (record stored { base = d }) up) ∙ sym (ap (content_above ws) e)

  -- the base while the current content or the marks are taken out
  pub base_stays : (m : Delta) → m.parent ≡ (delta_at ls at).parent → m.base ≡ (delta_at ls at).base → (workspace_at (wholes live (slice_set ls at m)) at).base
      ≡ (workspace_at (wholes live ls) at).base
  base_stays m parent base =
      let there : at < length (slice_set ls at m) = subst (λ n. at < n) (sym (length-set ls at m)) lt in
      ap (λ (w : Workspace). w.base) (wholes-at live (slice_set ls at m) at some there)
      ∙ ap (λ (l : Delta). (whole_of (above_in (take at (wholes live (slice_set ls at m))) l) l).base) (get_or-set_same ls at m no_delta lt)
      ∙ ap (λ (vs : List Workspace). (whole_of (above_in vs m) m).base) (before_stays live ls at m)
      ∙ base_of_whole (above_in (take at (wholes live ls)) m) m
      ∙ (λ i. seen_over (unwrap_or (content_by_name (take at (wholes live ls)) (parent i)) no_rows) (base i))
      ∙ sym (base_of_whole (above_at live ls at) stored)
      ∙ sym (ap (λ (w : Workspace). w.base) (wholes-at live ls at some lt))

  -- any way of sweeping that changes nothing seen
  module _ (sw : Content → Differences → Differences) (seen : (m : Content) (d : Differences) → seen_over m (sw m d) ≡ seen_over m d) where
    pub base_swept : wholes live (delta_changed ls at (λ l. record l { base = sw (content_of_parent (wholes live ls) at) l.base })) ≡ wholes live ls
    base_swept = stays live ls at r some lt _ refl refl (whole_base (above_at live ls at) stored (sw above stored.base)
        (ap (λ (m : Content). seen_over m (sw above stored.base)) above_is ∙ seen above stored.base
        ∙ ap (λ (m : Content). seen_over m stored.base) (sym above_is)))

    pub current_swept : wholes live (delta_changed ls at (λ l. record l { current = sw (workspace_at (wholes live ls) at).base l.current })) ≡ wholes live ls
    current_swept =
        let base = (workspace_at ws at).base in
        let is : seen_over (above_at live ls at) stored.base ≡ base = ap (λ (m : Content). seen_over m stored.base) above_is ∙ sym base_is in
        stays live ls at r some lt _ refl refl (whole_current (above_at live ls at) stored (sw base stored.current)
        (ap (λ (m : Content). seen_over m (sw base stored.current)) is ∙ seen base stored.current ∙ ap (λ (m : Content). seen_over m stored.current) (sym is)))

  pub saved_swept : (sm : Content → List StoredMark → List StoredMark) → ((m : Content) (ms : List StoredMark) → map (whole_mark m) (sm m ms)
      ≡ map (whole_mark m) ms)
      → wholes live (delta_changed ls at (λ l. record l { marks = sm (workspace_at (wholes live ls) at).base l.marks })) ≡ wholes live ls
  saved_swept sm seen =
      let base = (workspace_at ws at).base in
      let is : seen_over (above_at live ls at) stored.base ≡ base = ap (λ (m : Content). seen_over m stored.base) above_is ∙ sym base_is in
      stays live ls at r some lt _ refl refl (whole_marks (above_at live ls at) stored (sm base stored.marks)
      (ap (λ (m : Content). map (whole_mark m) (sm base stored.marks)) is ∙ seen base stored.marks
      ∙ ap (λ (m : Content). map (whole_mark m) stored.marks) (sym is)))

-- one after another ---------------------------------------------------------------------------------------

-- any way of sweeping that changes nothing seen
module _ (sw : Content → Differences → Differences) (sm : Content → List StoredMark → List StoredMark) (seen : (m : Content) (d : Differences)
    → seen_over m (sw m d) ≡ seen_over m d) (same : (m : Content) (ms : List StoredMark) → map (whole_mark m) (sm m ms) ≡ map (whole_mark m) ms)
    (live : Content) (ls : List Delta) (at : ℕ) (r : IsRooted (wholes live ls)) (some : 0 < at) (lt : at < length ls) where
  abbrev old : Delta
  old = delta_at ls at

  abbrev seen_above : Content
  seen_above = content_of_parent (wholes live ls) at

  abbrev seen_base : Content
  seen_base = (workspace_at (wholes live ls) at).base

  -- the base
  module _ (one : List Delta) (a : one ≡ delta_changed ls at (λ l. record l { base = sw (content_of_parent (wholes live ls) at) l.base })) where
    abbrev l_one : Delta
    l_one = record old { base = sw seen_above old.base }

    pub seen_one : wholes live one ≡ wholes live ls
    seen_one = ap (wholes live) a ∙ base_swept live ls at r some lt sw seen

    pub rooted_one : IsRooted (wholes live one)
    rooted_one = subst IsRooted (sym seen_one) r

    within_one : at < length one
    within_one = subst (λ n. at < n) (sym (ap (λ (ms : List Delta). length ms) a ∙ length-set ls at l_one)) lt

    -- behind the base, the current content is swept
    module _ (two : List Delta) (b : two ≡ delta_changed one at (λ l. record l { current = sw (workspace_at (wholes live one) at).base l.current })) where
      abbrev l_two : Delta
      l_two = record l_one { current = sw seen_base old.current }

      pub seen_two : wholes live two ≡ wholes live ls
      seen_two = ap (wholes live) b ∙ current_swept live one at rooted_one some within_one sw seen ∙ seen_one

      pub rooted_two : IsRooted (wholes live two)
      rooted_two = subst IsRooted (sym seen_two) r

      is_two : two ≡ slice_set ls at l_two
      is_two = b ∙ (λ i. delta_changed (a i) at (λ l. record l { current = sw (workspace_at (seen_one i) at).base l.current }))
          ∙ set_again ls at l_one lt (λ l. record l { current = sw seen_base l.current })

      within_two : at < length two
      within_two = subst (λ n. at < n) (sym (ap (λ (ms : List Delta). length ms) is_two ∙ length-set ls at l_two)) lt

      -- behind the current content, the savepoints are swept
      module _ (three : List Delta) (c : three ≡ delta_changed two at (λ l. record l { marks = sm (workspace_at (wholes live two) at).base l.marks })) where
        pub seen_three : wholes live three ≡ wholes live ls
        seen_three = ap (wholes live) c ∙ saved_swept live two at rooted_two some within_two sm same ∙ seen_two

        is_three : three ≡ slice_set ls at (record (delta_at ls at) {
          base = sw seen_above old.base;
          current = sw seen_base old.current;
          marks =
              sm seen_base old.marks;
        })
        is_three =
            c ∙ (λ i. delta_changed (is_two i) at (λ l. record l { marks = sm (workspace_at (seen_two i) at).base l.marks }))
            ∙ set_again ls at l_two lt (λ l. record l { marks = sm seen_base l.marks })

        pub here_three : delta_at three at ≡ record (delta_at ls at) {
          base = sw (content_of_parent (wholes live ls) at) (delta_at ls at).base;
          current =
              sw (workspace_at (wholes live ls) at).base (delta_at ls at).current;
          marks = sm (workspace_at (wholes live ls) at).base (delta_at ls at).marks;
        }
        here_three = ap (λ (ms : List Delta). delta_at ms at) is_three ∙ set_here ls at _ lt

        pub others_three : three ≡ delta_changed ls at (λ _. delta_at three at)
        others_three = is_three ∙ ap (λ (l : Delta). slice_set ls at l) (sym here_three)

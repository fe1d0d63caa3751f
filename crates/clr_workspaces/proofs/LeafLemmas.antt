-- A leaf goes, and the positions after it close up.
use Rattle.std.proofs.Common.{◌≡◌, ℕ, suc, zero, ◌+◌, ◌-◌, ◌<◌, ◌≤◌, ◌≢◌, Bool, true, false, cond, not, nat_lt, List, [], ◌∷◌, length, get_or, Some, refl, ap}
use Rattle.std.proofs.Common.{sym, ◌∙◌, arith, map, remove}
use Rattle.std.proofs.lemmas.List.Edits.{length-remove, get_or-remove_below, get_or-remove_above}
use Rattle.std.proofs.lemmas.Grind.{common_steps}
use Rattle.std.proofs.lemmas.Bool.{false≢true}
use Rattle.std.proofs.lemmas.Option.{same_Some}
use Rattle.std.specs.List.{position_or_len}
use Rattle.std.specs.Str.{bytes_eq}
use Rattle.std.specs.Cmp.Lexicographic.{bytes_decides}
use Rattle.clr_rows.specs.Names.{is_good_name}
use Rattle.clr_workspaces.specs.Marks.{Name}
use Rattle.clr_workspaces.specs.Workspaces.{Workspace, no_workspace, workspace_at, find, parent_of}
use Rattle.clr_workspaces.proofs.FindLemmas.{first_is, first_of, find_named}
use Rattle.clr_workspaces.proofs.FindLemmas.{differ_back, not_from}
use Rattle.clr_workspaces.specs.Roots.{IsRooted}

-- positions ----------------------------------------------------------------------------------------

-- where a position was before the one `at` went, and where one goes
pub opened : ℕ → ℕ → ℕ
opened at i = cond (nat_lt i at) i (i + 1)

pub closed_at : ℕ → ℕ → ℕ
closed_at at i = cond (nat_lt at i) (i - 1) i

pub map_remove : {A B : Type 0} (f : A → B) (xs : List A) (at : ℕ) → map f (remove xs at) ≡ remove (map f xs) at
map_remove f [] zero = refl
map_remove f [] (suc at) = refl
map_remove f (x ∷ xs) zero = refl
map_remove f (x ∷ xs) (suc at) = ap (λ ys. f x ∷ ys) (map_remove f xs at)

pub read_removed : {X : Type 0} (xs : List X) (at i : ℕ) (d : X) → at < length xs → get_or (remove xs at) i d ≡ get_or xs (opened at i) d
unfolding opened
read_removed xs at i d lt = by (nat_lt i at) refl
  where
    by : (b : Bool) → nat_lt i at ≡ b → get_or (remove xs at) i d ≡ get_or xs (cond b i (i + 1)) d
    by true e = get_or-remove_below xs at d i (below e) lt
      where
        below : nat_lt i at ≡ true → i < at
        below e = grind (arith, common_steps)
    by false e = get_or-remove_above xs at d i (above e) lt
      where
        above : nat_lt i at ≡ false → at ≤ i
        above e = grind (arith, common_steps)

closed-opened : (at i : ℕ) → closed_at at (opened at i) ≡ i
unfolding opened closed_at
closed-opened at i = grind (arith, common_steps)

pub opened-closed : (at i : ℕ) → i ≢ at → opened at (closed_at at i) ≡ i
unfolding opened closed_at
opened-closed at i other = grind (arith, common_steps)

pub opened-other : (at i : ℕ) → opened at i ≢ at
unfolding opened
opened-other at i = λ e. absurd (grind (arith, common_steps))

pub opened-first : (at : ℕ) → 0 < at → opened at 0 ≡ 0
unfolding opened
opened-first at some = grind (arith, common_steps)

pub opened-later : (at i : ℕ) → 0 < i → 0 < opened at i
unfolding opened
opened-later at i some = grind (arith, common_steps)

pub opened-in : (at i n : ℕ) → i + 1 < n → opened at i < n
unfolding opened
opened-in at i n lt = grind (arith, common_steps)

pub opened-same : (at p : ℕ) → p < at → opened at p ≡ p
unfolding opened
opened-same at p up = grind (arith, common_steps)

pub opened-apart : (at p i : ℕ) → p < at → i ≢ p → opened at i ≢ p
unfolding opened
opened-apart at p i up other = λ e. absurd (grind (arith, common_steps))

closed-in : (at i n : ℕ) → i < n → at < n → i ≢ at → closed_at at i + 1 < n
unfolding closed_at
closed-in at i n a b other = grind (arith, common_steps)

closed-below : (at p i : ℕ) → p < opened at i → p ≢ at → closed_at at p < i
unfolding opened closed_at
closed-below at p i a other = grind (arith, common_steps)

-- the first that passes, where the one that goes doesn't
module _ {X : Type 0} (p : X → Bool) where
  first_removed : (xs : List X) (at : ℕ) (d : X) → at < length xs → p (get_or xs at d) ≡ false →
      position_or_len p (remove xs at) ≡ closed_at at (position_or_len p xs)
  unfolding closed_at
  first_removed [] at d lt e = absurd (omega arith)
  first_removed (x ∷ xs) zero d lt e = sym (ap (λ (b : Bool). cond (nat_lt 0 (cond (not b) (1 + position_or_len p xs) 0))
      (cond (not b) (1 + position_or_len p xs) 0 - 1) (cond (not b) (1 + position_or_len p xs) 0)) e ∙ step (position_or_len p xs))
    where
      step : (n : ℕ) → cond (nat_lt 0 (1 + n)) (1 + n - 1) (1 + n) ≡ n
      step n = grind (arith, common_steps)
  first_removed (x ∷ xs) (suc at) d lt e = by (p x) (first_removed xs at d (omega arith) e)
    where
      more : (n : ℕ) → 1 + cond (nat_lt at n) (n - 1) n ≡ cond (nat_lt (suc at) (1 + n)) (1 + n - 1) (1 + n)
      more n = grind (arith, common_steps)

      by : (b : Bool) → position_or_len p (remove xs at) ≡ cond (nat_lt at (position_or_len p xs)) (position_or_len p xs - 1) (position_or_len p xs)
          → cond (not b) (1 + position_or_len p (remove xs at)) 0 ≡ cond (nat_lt (suc at) (cond (not b) (1 + position_or_len p xs) 0))
          (cond (not b) (1 + position_or_len p xs) 0 - 1) (cond (not b) (1 + position_or_len p xs) 0)
      by true rest = grind (arith, common_steps)
      by false rest = ap (λ n. 1 + n) rest ∙ more (position_or_len p xs)

other_position : (ws : List Workspace) (name : Name) (at i : ℕ) → bytes_eq name (workspace_at ws at).name ≡ false → find ws name ≡ Some i → i ≢ at
other_position ws name at i differs e = λ same. false≢true
    (sym differs ∙ (bytes_decides name _).1 (find_named ws name i e ∙ ap (λ k. (workspace_at ws k).name) same))

find_removed : (ws : List Workspace) (at : ℕ) (name : Name) (i : ℕ) → at < length ws → bytes_eq name (workspace_at ws at).name ≡ false → find ws name ≡ Some i →
    find (remove ws at) name ≡ Some (closed_at at i)
find_removed ws at name i lt differs e =
    let first = first_is ws name i e in
    let less = length-remove ws at lt in
    let within = closed-in at i (length ws) first.1 lt (other_position ws name at i differs e) in
    first_of (remove ws at) name (closed_at at i) (first_removed (λ w. bytes_eq name w.name) ws at no_workspace lt differs ∙ ap (closed_at at) first.0)
    (omega (arith, within, less))

-- rooted workspaces without a leaf
module _ (ws : List Workspace) (at : ℕ) (r : IsRooted ws) (some : 0 < at) (lt : at < length ws) (free : (k : ℕ) → 0 < k → k < length ws →
    bytes_eq (workspace_at ws at).name (workspace_at ws k).parent ≡ true → ⊥) where
  abbrev new : List Workspace
  new = remove ws at

  pub was_at : (i : ℕ) → workspace_at (remove ws at) i ≡ workspace_at ws (opened at i)
  was_at i = read_removed ws at i no_workspace lt

  pub was_in : (i : ℕ) → i < length (remove ws at) → opened at i < length ws
  was_in i i_lt = let less = length-remove ws at lt in opened-in at i (length ws) (omega (arith, less))

  -- the parent of one that is left
  pub parent_removed : (i : ℕ) → 0 < i → i < length (remove ws at)
      → (p : ℕ) × (parent_of ws (opened at i) ≡ Some p) × (p < opened at i) × (p ≢ at) × (parent_of (remove ws at) i ≡ Some (closed_at at p))
      × (closed_at at p < i)
  parent_removed i later i_lt =
      let j = opened at i in
      let q = r.under j (opened-later at i later) (was_in i i_lt) in
      let differs : bytes_eq (workspace_at ws j).parent (workspace_at ws at).name ≡ false = differ_back (workspace_at ws at).name (workspace_at ws j).parent
      (not_from (bytes_eq (workspace_at ws at).name (workspace_at ws j).parent) (free j (opened-later at i later) (was_in i i_lt))) in
      let other = other_position ws (workspace_at ws j).parent at q.0 differs q.1 in (
        q.0,
        q.1,
        q.2,
        other,
        ap (λ (w : Workspace). find new w.parent) (was_at i) ∙ find_removed ws at (workspace_at ws j).parent q.0 lt differs q.1,
        closed-below at q.0 i q.2 other,
      )

  pub rooted_removed : IsRooted (remove ws at)
  rooted_removed =
      let less : length new + 1 ≡ length ws = length-remove ws at lt in
      record {
        filled = omega (arith, less);
        live = ap (λ (w : Workspace). w.name) (was_at 0 ∙ ap (workspace_at ws) (opened-first at some)) ∙ r.live;
        top = ap (λ (w : Workspace). w.parent) (was_at 0 ∙ ap (workspace_at ws) (opened-first at some)) ∙ r.top;
        good = λ i i_lt. ap (λ (w : Workspace). is_good_name w.name) (was_at i) ∙ r.good (opened at i) (was_in i i_lt);
        own = λ i i_lt.
            let j = opened at i in
            let found = r.own j (was_in i i_lt) in
            let differs : bytes_eq (workspace_at ws j).name (workspace_at ws at).name ≡ false =
            not_from (bytes_eq (workspace_at ws j).name (workspace_at ws at).name)
            (λ h. opened-other at i (same_Some j at (sym found ∙ ap (find ws) ((bytes_decides (workspace_at ws j).name (workspace_at ws at).name).0 h)
            ∙ r.own at lt))) in
            ap (λ (w : Workspace). find new w.name) (was_at i) ∙ find_removed ws at (workspace_at ws j).name j lt differs found ∙ ap Some (closed-opened at i);
        under = λ i later i_lt. let q = parent_removed i later i_lt in (closed_at at q.0, q.4, q.5);
      }

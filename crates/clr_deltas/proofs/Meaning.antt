-- What deltas mean: names, parents, positions, and contents.
use Rattle.std.proofs.Common.{◌≡◌, ℕ, suc, zero, ◌+◌, ◌<◌, ◌≤◌, Bool, true, false, cond, not, nat_lt, List, [], ◌∷◌, ◌++◌, length, map, take, Some, None, refl}
use Rattle.std.proofs.Common.{ap, sym, subst, ◌∙◌, arith, append_assoc}
use Rattle.std.proofs.lemmas.List.{append-nil}
use Rattle.std.proofs.lemmas.Option.{none-some}
use Rattle.std.specs.declared.option.Option.{Option}
use Rattle.std.specs.List.{position_or_len}
use Rattle.std.specs.Option.{option_or}
use Rattle.std.specs.Str.{bytes_eq}
use Rattle.std.proofs.lemmas.Bool.{ltb-true}
use Rattle.clr_rows.specs.Contents.{Content}
use Rattle.clr_rows.specs.Names.{live_name}
use Rattle.std.proofs.lemmas.Option.{same_Some}
use Rattle.clr_workspaces.specs.Marks.{Name}
use Rattle.clr_workspaces.specs.Workspaces.{Workspace, no_workspace, live_workspace, workspace_at, find}
use Rattle.clr_deltas.specs.Deltas.{Delta, no_delta, delta_at, leaf, find_delta, whole_of, top, content_by_name, above_in, grow, wholes, above_at}

-- lengths, names and parents -------------------------------------------------------------------

pub length-grow : (ws : List Workspace) (ls : List Delta) → length (grow ws ls) ≡ length ls
unfolding grow
length-grow ws [] = refl
length-grow ws (l ∷ ls) = ap suc (length-grow (ws ++ whole_of (above_in ws l) l ∷ []) ls)

pub length-wholes : (live : Content) (ls : List Delta) → length (wholes live ls) ≡ length ls
unfolding wholes
length-wholes live [] = refl
length-wholes live (l ∷ ls) = ap suc (length-grow (top live l ∷ []) ls)

-- what a workspace shares with its delta, at each position and in the list
module _ (f : Workspace → Name) (g : Delta → Name) (of_whole : (above : Content) (l : Delta) → f (whole_of above l)
    ≡ g l) (of_top : (live : Content) (l : Delta) → f (top live l) ≡ g l) (of_none : f no_workspace ≡ g no_delta) where
  shared_grow : (ws : List Workspace) (ls : List Delta) (i : ℕ) → f (workspace_at (grow ws ls) i) ≡ g (delta_at ls i)
  unfolding grow
  shared_grow ws [] i = of_none
  shared_grow ws (l ∷ ls) zero = of_whole (above_in ws l) l
  shared_grow ws (l ∷ ls) (suc i) = shared_grow (ws ++ whole_of (above_in ws l) l ∷ []) ls i

  pub shared : (live : Content) (ls : List Delta) (i : ℕ) → f (workspace_at (wholes live ls) i) ≡ g (delta_at ls i)
  unfolding wholes
  shared live [] i = of_none
  shared live (l ∷ ls) zero = of_top live l
  shared live (l ∷ ls) (suc i) = shared_grow (top live l ∷ []) ls i

  mapped_grow : (ws : List Workspace) (ls : List Delta) → map f (grow ws ls) ≡ map g ls
  unfolding grow
  mapped_grow ws [] = refl
  mapped_grow ws (l ∷ ls) = λ i. of_whole (above_in ws l) l i ∷ mapped_grow (ws ++ whole_of (above_in ws l) l ∷ []) ls i

  pub mapped : (live : Content) (ls : List Delta) → map f (wholes live ls) ≡ map g ls
  unfolding wholes
  mapped live [] = refl
  mapped live (l ∷ ls) = λ i. of_top live l i ∷ mapped_grow (top live l ∷ []) ls i

pub name-whole : (above : Content) (l : Delta) → (whole_of above l).name ≡ l.name
unfolding whole_of
name-whole above l = refl

name-top : (live : Content) (l : Delta) → (top live l).name ≡ l.name
unfolding top
name-top live l = refl

pub parent-whole : (above : Content) (l : Delta) → (whole_of above l).parent ≡ l.parent
unfolding whole_of
parent-whole above l = refl

parent-top : (live : Content) (l : Delta) → (top live l).parent ≡ l.parent
unfolding top
parent-top live l = refl

current-top : (live : Content) (l : Delta) → (top live l).current ≡ live
unfolding top
current-top live l = refl

pub name-wholes : (live : Content) (ls : List Delta) (i : ℕ) → (workspace_at (wholes live ls) i).name ≡ (delta_at ls i).name
name-wholes = shared (λ w. w.name) (λ l. l.name) name-whole name-top refl

pub parent-wholes : (live : Content) (ls : List Delta) (i : ℕ) → (workspace_at (wholes live ls) i).parent ≡ (delta_at ls i).parent
parent-wholes = shared (λ w. w.parent) (λ l. l.parent) parent-whole parent-top refl

pub names-wholes : (live : Content) (ls : List Delta) → map (λ (w : Workspace). w.name) (wholes live ls) ≡ map (λ (l : Delta). l.name) ls
names-wholes = mapped (λ w. w.name) (λ l. l.name) name-whole name-top refl

pub parents-wholes : (live : Content) (ls : List Delta) → map (λ (w : Workspace). w.parent) (wholes live ls) ≡ map (λ (l : Delta). l.parent) ls
parents-wholes = mapped (λ w. w.parent) (λ l. l.parent) parent-whole parent-top refl

-- a search by name is one over the names
module _ {A : Type 0} (f : A → Name) (name : Name) where
  first_named : (xs : List A) → position_or_len (λ a. bytes_eq name (f a)) xs ≡ position_or_len (bytes_eq name) (map f xs)
  first_named [] = refl
  first_named (x ∷ xs) = ap (λ n. cond (not (bytes_eq name (f x))) (1 + n) 0) (first_named xs)

  length_named : (xs : List A) → length xs ≡ length (map f xs)
  length_named [] = refl
  length_named (x ∷ xs) = ap suc (length_named xs)

abbrev found_in : ℕ → ℕ → Option ℕ
found_in p n = cond (nat_lt p n) (Some p) None

pub find-wholes : (live : Content) (ls : List Delta) (name : Name) → find (wholes live ls) name ≡ find_delta ls name
find-wholes live ls name =
    let ws = wholes live ls in
    (λ i. found_in (first_named (λ (w : Workspace). w.name) name ws i) (length_named (λ (w : Workspace). w.name) name ws i))
    ∙ ap (λ (names : List Name). found_in (position_or_len (bytes_eq name) names) (length names)) (names-wholes live ls)
    ∙ sym (λ i. found_in (first_named (λ (l : Delta). l.name) name ls i) (length_named (λ (l : Delta). l.name) name ls i))

-- the workspace at a position --------------------------------------------------------------------

grow-at : (ws : List Workspace) (ls : List Delta) (i : ℕ) → i < length ls → workspace_at (grow ws ls) i
    ≡ whole_of (above_in (ws ++ take i (grow ws ls)) (delta_at ls i)) (delta_at ls i)
unfolding grow
grow-at ws [] i lt = absurd (omega arith)
grow-at ws (l ∷ ls) zero lt = ap (λ (vs : List Workspace). whole_of (above_in vs l) l) (sym (append-nil ws))
grow-at ws (l ∷ ls) (suc i) lt =
    let w = whole_of (above_in ws l) l in
    grow-at (ws ++ w ∷ []) ls i (omega arith) ∙ ap (λ (vs : List Workspace). whole_of (above_in vs (delta_at ls i)) (delta_at ls i)) (append_assoc ws (w
    ∷ []) (take i (grow (ws ++ w ∷ []) ls)))

pub wholes-at : (live : Content) (ls : List Delta) (at : ℕ) → 0 < at → at < length ls → workspace_at (wholes live ls) at
    ≡ whole_of (above_at live ls at) (delta_at ls at)
unfolding wholes
wholes-at live [] at some lt = absurd (omega arith)
wholes-at live (l ∷ ls) zero some lt = absurd (omega arith)
wholes-at live (l ∷ ls) (suc at) some lt = grow-at (top live l ∷ []) ls at (omega arith)

pub wholes-live : (live : Content) (ls : List Delta) → 0 < length ls → workspace_at (wholes live ls) 0 ≡ top live (delta_at ls 0)
unfolding wholes
wholes-live live [] lt = absurd (omega arith)
wholes-live live (l ∷ ls) lt = refl

pub live-wholes : (live : Content) (ls : List Delta) → 0 < length ls → (workspace_at (wholes live ls) 0).current ≡ live
live-wholes live ls lt = ap (λ (w : Workspace). w.current) (wholes-live live ls lt) ∙ current-top live (delta_at ls 0)

-- the content that a delta lies over is its parent's
named_first : (ws : List Workspace) (name : Name) (p n : ℕ) → position_or_len (λ (w : Workspace). bytes_eq name w.name) ws ≡ p → p < length ws → p < n
    → content_by_name (take n ws) name ≡ Some (workspace_at ws p).current
unfolding content_by_name
named_first [] name p n e within lt = absurd (omega arith)
named_first (w ∷ ws) name p zero e within lt = absurd (omega arith)
named_first (w ∷ ws) name zero (suc n) e within lt = by (bytes_eq name w.name) e
  where
    by : (b : Bool) → cond (not b) (1 + position_or_len (λ (w : Workspace). bytes_eq name w.name) ws) 0 ≡ 0
        → cond b (Some w.current) (content_by_name (take n ws) name) ≡ Some w.current
    by true e = refl
    by false e = absurd (omega (arith, e))
named_first (w ∷ ws) name (suc p) (suc n) e within lt = by (bytes_eq name w.name) e (λ same. named_first ws name p n same (omega arith) (omega arith))
  where
    by : (b : Bool) → cond (not b) (1 + position_or_len (λ (w : Workspace). bytes_eq name w.name) ws) 0 ≡ suc p
        → (position_or_len (λ (w : Workspace). bytes_eq name w.name) ws ≡ p → content_by_name (take n ws) name ≡ Some (workspace_at ws p).current)
        → cond b (Some w.current) (content_by_name (take n ws) name) ≡ Some (workspace_at ws p).current
    by true e rest = absurd (omega (arith, e))
    by false e rest = rest (omega (arith, e))

pub named_found : (ws : List Workspace) (name : Name) (p n : ℕ) → find ws name ≡ Some p → p < n → content_by_name (take n ws) name
    ≡ Some (workspace_at ws p).current
named_found ws name p n e lt = by (nat_lt (position_or_len (λ (w : Workspace). bytes_eq name w.name) ws) (length ws)) refl e
  where
    by : (b : Bool) → nat_lt (position_or_len (λ (w : Workspace). bytes_eq name w.name) ws) (length ws) ≡ b
        → cond b (Some (position_or_len (λ (w : Workspace). bytes_eq name w.name) ws)) None ≡ Some p → content_by_name (take n ws) name
        ≡ Some (workspace_at ws p).current
    by true within e = let same = same_Some _ p e in named_first ws name p n same (subst (λ k. k < length ws) same (ltb-true _ _ within)) lt
    by false within e = absurd (none-some p e)

-- a name whose first position isn't among the first few isn't named there
pub named_later : (ws : List Workspace) (name : Name) (n : ℕ) → n ≤ position_or_len (λ (w : Workspace). bytes_eq name w.name) ws
    → content_by_name (take n ws) name ≡ None
unfolding content_by_name
named_later ws name zero le = refl
named_later [] name (suc n) le = refl
named_later (w ∷ ws) name (suc n) le = by (bytes_eq name w.name) le (λ less. named_later ws name n less)
  where
    by : (b : Bool) → suc n ≤ cond (not b) (1 + position_or_len (λ (w : Workspace). bytes_eq name w.name) ws) 0
        → (n ≤ position_or_len (λ (w : Workspace). bytes_eq name w.name) ws → content_by_name (take n ws) name ≡ None)
        → cond b (Some w.current) (content_by_name (take n ws) name) ≡ None
    by true le rest = absurd (omega arith)
    by false le rest = rest (omega arith)

pub named-append : (vs : List Workspace) (w : Workspace) (n : Name) → content_by_name (vs ++ w ∷ []) n
    ≡ option_or (content_by_name vs n) (cond (bytes_eq n w.name) (Some w.current) None)
unfolding content_by_name
named-append [] w n = refl
named-append (v ∷ vs) w n = ap (cond (bytes_eq n v.name) (Some v.current)) (named-append vs w n) ∙ by (bytes_eq n v.name)
  where
    by : (b : Bool) → cond b (Some v.current) (option_or (content_by_name vs n) (cond (bytes_eq n w.name) (Some w.current) None))
        ≡ option_or (cond b (Some v.current) (content_by_name vs n)) (cond (bytes_eq n w.name) (Some w.current) None)
    by true = refl
    by false = refl

-- LIVE alone ---------------------------------------------------------------------------------------

pub root_made : (live : Content) → wholes live (leaf live_name [] ∷ []) ≡ live_workspace live ∷ []
unfolding wholes top grow
root_made live = refl

-- Where a name stands among workspaces.
use Rattle.std.proofs.Common.{◌≡◌, ℕ, ◌<◌, ◌≤◌, Bool, true, false, not, cond, nat_lt, List, [], ◌∷◌, ◌++◌, Some, None, length, refl, ap, sym, ◌∙◌, subst, arith}
use Rattle.std.proofs.Common.{slice_set}
use Rattle.std.specs.Str.{bytes_eq}
use Rattle.std.specs.List.{position_or_len}
use Rattle.std.specs.Cmp.Lexicographic.{bytes_decides}
use Rattle.std.proofs.lemmas.Bool.{lt-ltb, ltb-true, ltb-false, eq-eqb, false≢true}
use Rattle.std.proofs.lemmas.Option.{none-some}
use Rattle.std.proofs.lemmas.List.Folds.{position_or_len-set, position_or_len_push}
use Rattle.std.proofs.lemmas.List.Sums.{passes_at_first, prefix_len-le-length}
use Rattle.std.proofs.lemmas.List.{length-set, length-append}
use Rattle.std.proofs.lemmas.Option.{same_Some}
use Rattle.clr_workspaces.specs.Marks.{Name}
use Rattle.clr_workspaces.specs.Workspaces.{Workspace, no_workspace, workspace_at, find}

abbrev pub has_name : Name → Workspace → Bool
has_name name w = bytes_eq name w.name

-- a position that was found is the first of the name
pub first_is : (ws : List Workspace) (name : Name) (i : ℕ) → find ws name ≡ Some i → (position_or_len (has_name name) ws ≡ i) × (i < length ws)
first_is ws name i e = by (nat_lt (position_or_len (has_name name) ws) (length ws)) refl e
  where
    by : (b : Bool) → nat_lt (position_or_len (has_name name) ws) (length ws) ≡ b → cond b (Some (position_or_len (has_name name) ws)) None ≡ Some i
        → (position_or_len (has_name name) ws ≡ i) × (i < length ws)
    by true lt e = let same = same_Some _ i e in (same, subst (λ n. n < length ws) same (ltb-true _ _ lt))
    by false lt e = absurd (none-some i e)

pub first_of : (ws : List Workspace) (name : Name) (i : ℕ) → position_or_len (has_name name) ws ≡ i → i < length ws → find ws name ≡ Some i
first_of ws name i e lt = rw (e, lt-ltb _ _ lt) refl

pub missing_is : (ws : List Workspace) (name : Name) → find ws name ≡ None → length ws ≤ position_or_len (has_name name) ws
missing_is ws name e = by (nat_lt (position_or_len (has_name name) ws) (length ws)) refl e
  where
    by : (b : Bool) → nat_lt (position_or_len (has_name name) ws) (length ws) ≡ b → cond b (Some (position_or_len (has_name name) ws)) None ≡ None
        → length ws ≤ position_or_len (has_name name) ws
    by true lt e = absurd (none-some _ (sym e))
    by false lt e = ltb-false _ _ lt

pub find_within : (ws : List Workspace) (name : Name) (i : ℕ) → find ws name ≡ Some i → i < length ws
find_within ws name i e = (first_is ws name i e).1

-- the workspace that was found has the name
pub find_named : (ws : List Workspace) (name : Name) (i : ℕ) → find ws name ≡ Some i → name ≡ (workspace_at ws i).name
find_named ws name i e =
    let first = first_is ws name i e in
    let lt = subst (λ n. n < length ws) (sym first.0) first.1 in
    (bytes_decides name _).0 (ap (λ n. bytes_eq name (workspace_at ws n).name) (sym first.0) ∙ passes_at_first (has_name name) ws no_workspace lt)

-- a workspace that keeps its name is found as before
pub find_set : (ws : List Workspace) (at : ℕ) (w : Workspace) (name : Name) → w.name ≡ (workspace_at ws at).name → find (slice_set ws at w) name ≡ find ws name
find_set ws at w name e = rw (position_or_len-set (has_name name) ws at w no_workspace (ap (bytes_eq name) e), length-set ws at w) refl

-- a name that is found is found as before with one more workspace, and a new name is found last
pub find_more : (ws : List Workspace) (w : Workspace) (name : Name) (i : ℕ) → find ws name ≡ Some i → find (ws ++ w ∷ []) name ≡ Some i
find_more ws w name i e =
    let first = first_is ws name i e in
    let more = length-append ws (w ∷ []) in
    first_of (ws ++ w ∷ []) name i (grind (arith, position_or_len_push (has_name name) ws w, first)) (omega (arith, first.1, more))

pub find_last : (ws : List Workspace) (w : Workspace) → find ws w.name ≡ None → find (ws ++ w ∷ []) w.name ≡ Some (length ws)
find_last ws w none =
    let missing = missing_is ws w.name none in
    let itself : bytes_eq w.name w.name ≡ true = (bytes_decides w.name w.name).1 refl in
    let whole : position_or_len (has_name w.name) ws ≡ length ws = let most = prefix_len-le-length (λ v. not (has_name w.name v)) ws in omega arith in
    let at_end : position_or_len (has_name w.name) (ws ++ w ∷ []) ≡ length ws = position_or_len_push (has_name w.name) ws w
    ∙ rw (eq-eqb _ _ whole, itself) (omega arith) in
    first_of (ws ++ w ∷ []) w.name (length ws) at_end (let more = length-append ws (w ∷ []) in omega (arith, more))

-- names that differ ------------------------------------------------------------------------------

pub not_from : (b : Bool) → (b ≡ true → ⊥) → b ≡ false
not_from true h = absurd (h refl)
not_from false h = refl

pub differ_back : (a b : Name) → bytes_eq a b ≡ false → bytes_eq b a ≡ false
differ_back a b e = not_from (bytes_eq b a) (λ h. false≢true (sym e ∙ (bytes_decides a b).1 (sym ((bytes_decides b a).0 h))))

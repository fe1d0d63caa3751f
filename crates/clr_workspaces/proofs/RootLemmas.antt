-- What keeps workspaces rooted.
use Rattle.std.proofs.Common.{◌≡◌, ℕ, suc, zero, ◌<◌, true, List, [], Some, None, length, refl, ap, ◌∙◌, arith, ◌⊎◌, inl, inr, ◌≢◌, Bool, false, ◌∷◌, ◌++◌, sym}
use Rattle.std.proofs.Common.{subst, slice_set, get_or-set_other, nat_lt, is_some}
use Rattle.std.specs.declared.option.Option.{Option}
use Rattle.std.proofs.lemmas.Bool.{false≢true, ltb-true, ltb-false}
use Rattle.clr_rows.specs.Names.{is_good_name}
use Rattle.clr_workspaces.specs.Workspaces.{Workspace, workspace_at, find, parent_of, no_workspace}
use Rattle.clr_workspaces.proofs.FindLemmas.{find_within, find_named, find_set, find_more, find_last}
use Rattle.clr_workspaces.specs.Roots.{IsRooted}
use Rattle.std.specs.Prelude.{IfSome, IsSome, ◌↔◌}
use Rattle.std.proofs.lemmas.List.{length-set, length-append, get_or-set_same}
use Rattle.std.proofs.Math.ListN.{get_or, get_or-append, get_or-map}
use Rattle.std.proofs.Math.Seq.{get_or-append_seam, map-set_same}
use Rattle.clr_workspaces.specs.Marks.{Name, Mark}
use Rattle.clr_workspaces.specs.Operations.{change_marks}

-- LIVE has no parent ------------------------------------------------------------------------------

-- no workspace has the empty name, since each has a good one
pub no_empty_name : (ws : List Workspace) → ((i : ℕ) → i < length ws → is_good_name (workspace_at ws i).name ≡ true) → find ws [] ≡ None
unfolding is_good_name
no_empty_name ws good = by (find ws []) refl
  where
    bad : is_good_name [] ≡ true → ⊥
    bad e = false≢true e

    by : (r : Option ℕ) → find ws [] ≡ r → r ≡ None
    by None e = refl
    by (Some i) e = absurd (bad (ap is_good_name (find_named ws [] i e) ∙ good i (find_within ws [] i e)))

pub no_parent : (ws : List Workspace) → IsRooted ws → parent_of ws 0 ≡ None
no_parent ws r = ap (find ws) r.top ∙ no_empty_name ws r.good

pub split : (n : ℕ) → (n ≡ 0) ⊎ (0 < n)
split zero = inl refl
split (suc n) = inr (omega arith)

-- one workspace replaced, or one more -------------------------------------------------------------

-- a field that a new workspace shares with the one that it replaces is as it was everywhere
pub stays_at : (f : Workspace → Name) (ws : List Workspace) (at : ℕ) (w : Workspace) → f w ≡ f (workspace_at ws at) → (i : ℕ) →
    f (workspace_at (slice_set ws at w) i) ≡ f (workspace_at ws i)
stays_at f ws at w e i =
    sym (get_or-map f (slice_set ws at w) i no_workspace) ∙ ap (λ (fs : List Name). get_or fs i (f no_workspace)) (map-set_same f ws at w no_workspace e)
    ∙ get_or-map f ws i no_workspace

-- a workspace replaced by one of the same name and parent
module _ (ws : List Workspace) (at : ℕ) (w : Workspace) (name : w.name ≡ (workspace_at ws at).name) (parent : w.parent ≡ (workspace_at ws at).parent) where
  pub parent_set : (i : ℕ) → parent_of (slice_set ws at w) i ≡ parent_of ws i
  parent_set i = find_set ws at w _ name ∙ ap (find ws) (stays_at (λ v. v.parent) ws at w parent i)

  pub rooted_set : IsRooted ws → IsRooted (slice_set ws at w)
  rooted_set r =
      let new = slice_set ws at w in
      let names = stays_at (λ v. v.name) ws at w name in
      let before : (i : ℕ) → i < length new → i < length ws = λ i lt. subst (λ n. i < n) (length-set ws at w) lt in
      record {
        filled = subst (λ n. 0 < n) (sym (length-set ws at w)) r.filled;
        live = names 0 ∙ r.live;
        top = stays_at (λ v. v.parent) ws at w parent 0 ∙ r.top;
        good = λ i lt. ap is_good_name (names i) ∙ r.good i (before i lt);
        own = λ i lt. find_set ws at w _ name ∙ ap (find ws) (names i) ∙ r.own i (before i lt);
        under = λ i later lt. let p = r.under i later (before i lt) in (p.0, parent_set i ∙ p.1, p.2);
      }

-- each position is an old one or the last
pub placed : {P : ℕ → Type 0} (ws : List Workspace) (w : Workspace) → ((i : ℕ) → i < length ws → P i) → P (length ws) → (i : ℕ) → i < length (ws ++ w ∷ []) →
    P i
placed {P} ws w old last i lt = by (nat_lt i (length ws)) refl
  where
    by : (b : Bool) → nat_lt i (length ws) ≡ b → P i
    by true e = old i (ltb-true i (length ws) e)
    by false e = let le = ltb-false i (length ws) e in let more = length-append ws (w ∷ []) in let same : i ≡ length ws = omega (arith, le, more, lt) in
        subst P (sym same) last

-- a workspace of a new good name whose parent stands
module _ (ws : List Workspace) (w : Workspace) (p : ℕ) (none : find ws w.name ≡ None) (good : is_good_name w.name ≡ true) (parent : find ws w.parent ≡ Some p)
    (r : IsRooted ws) where
  pub at_old : (i : ℕ) → i < length ws → workspace_at (ws ++ w ∷ []) i ≡ workspace_at ws i
  at_old i lt = get_or-append ws (w ∷ []) no_workspace i lt

  pub at_last : workspace_at (ws ++ w ∷ []) (length ws) ≡ w
  at_last = get_or-append_seam ws w [] no_workspace

  pub rooted_more : IsRooted (ws ++ w ∷ [])
  rooted_more = record {
    filled = subst (λ n. 0 < n) (sym (length-append ws (w ∷ []))) (omega arith);
    live = ap (λ (v : Workspace). v.name) (at_old 0 r.filled) ∙ r.live;
    top = ap (λ (v : Workspace). v.parent) (at_old 0 r.filled) ∙ r.top;
    good = placed ws w (λ i lt. rw (at_old i lt) (r.good i lt)) (rw at_last good);
    own = placed ws w (λ i lt. rw (at_old i lt) (find_more ws w _ i (r.own i lt))) (rw at_last (find_last ws w none));
    under = λ i later lt. placed {P = λ i. 0 < i → (q : ℕ) × (parent_of (ws ++ w ∷ []) i ≡ Some q) × (q < i)} ws w
        (λ i lt later. let q = r.under i later lt in (q.0, ap (λ (v : Workspace). find (ws ++ w ∷ []) v.parent) (at_old i lt) ∙ find_more ws w _ q.0 q.1, q.2))
        (λ later. (p, ap (λ (v : Workspace). find (ws ++ w ∷ []) v.parent) at_last ∙ find_more ws w _ p parent, find_within ws w.parent p parent)) i lt later;
  }

-- a later workspace stays where an earlier one is replaced
pub later_stays : (ws : List Workspace) (at p : ℕ) (w : Workspace) → p < at → workspace_at (slice_set ws p w) at ≡ workspace_at ws at
later_stays ws at p w lt = let ne : at ≢ p = omega arith in get_or-set_other ws p at w no_workspace ne

pub parent_earlier : (ws : List Workspace) (at : ℕ) → IsRooted ws → at < length ws → IfSome (parent_of ws at) (λ p. p < at)
parent_earlier ws at r lt = by (split at)
  where
    by : (at ≡ 0) ⊎ (0 < at) → IfSome (parent_of ws at) (λ p. p < at)
    by (inl first) = rw (first, no_parent ws r) tt
    by (inr later) = let q = r.under at later lt in rw q.1 q.2

pub parent_found : (ws : List Workspace) (at : ℕ) → IsRooted ws → at < length ws → IsSome (parent_of ws at) ↔ (0 < at)
parent_found ws at r lt = by (split at)
  where
    by : (at ≡ 0) ⊎ (0 < at) → IsSome (parent_of ws at) ↔ (0 < at)
    by (inl first) = (
      λ some. absurd (let none : parent_of ws at ≡ None = ap (parent_of ws) first ∙ no_parent ws r in
          false≢true (sym (ap is_some none) ∙ some)),
      λ later. absurd (omega arith),
    )
    by (inr later) = let q = r.under at later lt in (λ some. later, λ above. ap is_some q.1)

-- marks of a workspace changed, where it isn't LIVE ---------------------------------------------------

module _ (ws : List Workspace) (at p : ℕ) (f : List Mark → List Mark) (up : p < at) where
  pub below_stays : workspace_at (change_marks ws p f) at ≡ workspace_at ws at
  below_stays = by p up
    where
      by : (q : ℕ) → q < at → workspace_at (change_marks ws q f) at ≡ workspace_at ws at
      by zero lt = refl
      by (suc q) lt = later_stays ws at (suc q) _ lt

  pub below_current : p < length ws → (workspace_at (change_marks ws p f) p).current ≡ (workspace_at ws p).current
  below_current lt = by p lt
    where
      by : (q : ℕ) → q < length ws → (workspace_at (change_marks ws q f) q).current ≡ (workspace_at ws q).current
      by zero lt = refl
      by (suc q) lt = ap (λ (w : Workspace). w.current) (get_or-set_same ws (suc q) _ no_workspace lt)

pub below_parent : (ws : List Workspace) (p : ℕ) (f : List Mark → List Mark) (i : ℕ) → parent_of (change_marks ws p f) i ≡ parent_of ws i
below_parent ws zero f i = refl
below_parent ws (suc q) f i = parent_set ws (suc q) _ refl refl i

pub below_rooted : (ws : List Workspace) (p : ℕ) (f : List Mark → List Mark) → IsRooted ws → IsRooted (change_marks ws p f)
below_rooted ws zero f r = r
below_rooted ws (suc q) f r = rooted_set ws (suc q) _ refl refl r

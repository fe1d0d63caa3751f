-- How deep a workspace is.
use Rattle.std.proofs.Common.{◌≡◌, ℕ, suc, zero, ◌+◌, ◌<◌, ◌≤◌, ⊎_elim, List, [], ◌∷◌, ◌++◌, Some, length, refl, ap, sym, ◌∙◌, arith}
use Rattle.std.proofs.Math.ListN.{get_or-append}
use Rattle.clr_workspaces.proofs.FindLemmas.{find_more}
use Rattle.clr_workspaces.specs.Workspaces.{Workspace, no_workspace, find, parent_of, one_above, depth_within, depth_of}
use Rattle.clr_workspaces.specs.Roots.{IsRooted}
use Rattle.clr_workspaces.proofs.RootLemmas.{no_parent, split}

depth_next : (ws : List Workspace) (n at p : ℕ) → parent_of ws at ≡ Some p → depth_within ws (suc n) at ≡ depth_within ws n p + 1
unfolding depth_within
depth_next ws n at p e = ap (one_above (depth_within ws n)) e

depth_top : (ws : List Workspace) (n : ℕ) → IsRooted ws → depth_within ws n 0 ≡ 0
unfolding depth_within
depth_top ws zero r = refl
depth_top ws (suc n) r = ap (one_above (depth_within ws n)) (no_parent ws r)

depth_none : (ws : List Workspace) (at : ℕ) → depth_within ws 0 at ≡ 0
unfolding depth_within
depth_none ws at = refl

-- more steps than positions before it count no more
enough : (ws : List Workspace) (n m at : ℕ) → IsRooted ws → at < length ws → at ≤ n → at ≤ m → depth_within ws n at ≡ depth_within ws m at
enough ws zero m at r lt a b = let first : at ≡ 0 = omega arith in ap (depth_within ws 0) first ∙ depth_top ws 0 r
    ∙ sym (ap (depth_within ws m) first ∙ depth_top ws m r)
enough ws (suc n) zero at r lt a b = let first : at ≡ 0 = omega arith in ap (depth_within ws (suc n)) first ∙ depth_top ws (suc n) r
    ∙ sym (ap (depth_within ws 0) first ∙ depth_top ws 0 r)
enough ws (suc n) (suc m) at r lt a b =
    ⊎_elim
    (λ (first : at ≡ 0). ap (depth_within ws (suc n)) first ∙ depth_top ws (suc n) r ∙ sym (ap (depth_within ws (suc m)) first ∙ depth_top ws (suc m) r))
    (λ (some : 0 < at). let q = r.under at some lt in
    depth_next ws n at q.0 q.1 ∙ ap (λ d. d + 1) (enough ws n m q.0 r (omega (arith, q.2)) (omega (arith, q.2)) (omega (arith, q.2)))
    ∙ sym (depth_next ws m at q.0 q.1))
    (split at)

pub depth_step : (ws : List Workspace) (at p : ℕ) → IsRooted ws → at < length ws → parent_of ws at ≡ Some p → p < at → depth_of ws at ≡ depth_of ws p + 1
depth_step ws zero p r lt e up = absurd (omega arith)
depth_step ws (suc n) p r lt e up = depth_next ws n (suc n) p e ∙ ap (λ d. d + 1) (enough ws n p p r (omega arith) (omega arith) (omega arith))

pub depth_zero : (ws : List Workspace) → IsRooted ws → depth_of ws 0 ≡ 0
depth_zero ws r = depth_top ws 0 r

-- depth follows from the positions of parents
pub depth_same : (ws vs : List Workspace) (n at : ℕ) → ((i : ℕ) → parent_of vs i ≡ parent_of ws i) → depth_within vs n at ≡ depth_within ws n at
unfolding depth_within
depth_same ws vs zero at same = refl
depth_same ws vs (suc n) at same = (λ i. one_above (λ k. depth_same ws vs n k same i) (same at i))

-- one more workspace leaves the depth of the others
pub depth_more : (ws : List Workspace) (w : Workspace) (n at : ℕ) → IsRooted ws → IsRooted (ws ++ w ∷ []) → at < length ws → depth_within (ws ++ w ∷ []) n at
    ≡ depth_within ws n at
depth_more ws w zero at r r_more lt = depth_none (ws ++ w ∷ []) at ∙ sym (depth_none ws at)
depth_more ws w (suc n) at r r_more lt = ⊎_elim
    (λ (first : at ≡ 0). ap (depth_within (ws ++ w ∷ []) (suc n)) first ∙ depth_top (ws ++ w ∷ []) (suc n) r_more ∙ sym (ap (depth_within ws (suc n)) first
    ∙ depth_top ws (suc n) r))
    (λ (some : 0 < at).
    let q = r.under at some lt in
    let same : parent_of (ws ++ w ∷ []) at ≡ Some q.0 = ap (λ (v : Workspace). find (ws ++ w ∷ []) v.parent) (get_or-append ws (w ∷ []) no_workspace at lt)
    ∙ find_more ws w _ q.0 q.1 in
    depth_next (ws ++ w ∷ []) n at q.0 same ∙ ap (λ d. d + 1) (depth_more ws w n q.0 r r_more (omega (arith, q.2, lt))) ∙ sym (depth_next ws n at q.0 q.1))
    (split at)

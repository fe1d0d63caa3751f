-- What becomes of the whole workspaces where one delta changes, comes or goes.
use Rattle.std.proofs.Common.{◌≡◌, ℕ, suc, zero, ◌<◌, Bool, true, false, cond, List, [], ◌∷◌, ◌++◌, length, map, take, remove, Some, None, unwrap_or, refl, ap}
use Rattle.std.proofs.Common.{sym, subst, ◌∙◌, arith, slice_set, append_assoc}
use Rattle.std.proofs.lemmas.List.{append-nil}
use Rattle.std.specs.declared.option.Option.{Option}
use Rattle.std.specs.Option.{option_or}
use Rattle.std.specs.Str.{bytes_eq}
use Rattle.std.specs.Cmp.Lexicographic.{bytes_decides}
use Rattle.clr_rows.specs.Contents.{Content, no_rows, row_at}
use Rattle.clr_deltas.specs.Differences.{seen_over}
use Rattle.clr_deltas.proofs.DifferenceLemmas.{AgreeOutside, hidden}
use Rattle.clr_workspaces.specs.Marks.{Name}
use Rattle.clr_workspaces.specs.Workspaces.{Workspace}
use Rattle.clr_deltas.specs.Deltas.{Delta, delta_at, whole_of, top, content_by_name, above_in, grow, wholes, whole_mark, above_at, IsUnder}
use Rattle.clr_deltas.proofs.Meaning.{name-whole, named-append}
use Rattle.clr_workspaces.proofs.FindLemmas.{differ_back, not_from}

-- two lists of workspaces that differ at most in the content of one name
record AreAlike (name : Name) (x y : Content) (vs ws : List Workspace) : Type 0 where
  pub others : (n : Name) → bytes_eq name n ≡ false → content_by_name ws n ≡ content_by_name vs n
  pub old : content_by_name vs name ≡ Some x
  pub new : content_by_name ws name ≡ Some y

alike_more : (name : Name) (x y : Content) (vs ws : List Workspace) (w : Workspace) → AreAlike name x y vs ws → AreAlike name x y (vs ++ w ∷ []) (ws ++ w ∷ [])
alike_more name x y vs ws w a = record {
  others = λ n differs. named-append ws w n ∙ ap (λ o. option_or o (cond (bytes_eq n w.name) (Some w.current) None)) (a.others n differs)
      ∙ sym (named-append vs w n);
  old = named-append vs w name ∙ ap (λ o. option_or o (cond (bytes_eq name w.name) (Some w.current) None)) a.old;
  new = named-append ws w name ∙ ap (λ o. option_or o (cond (bytes_eq name w.name) (Some w.current) None)) a.new;
}

-- a delta with differences where the content below changes means the same
whole_hidden : (m n : Content) (l : Delta) → AgreeOutside l.base m n → whole_of n l ≡ whole_of m l
unfolding whole_of
whole_hidden m n l agree = ap (λ (b : Content). record {
  name = l.name;
  parent = l.parent;
  base = b;
  current = seen_over b l.current;
  marks =
      map (whole_mark b) l.marks;
  kept = l.kept;
}) (hidden m n l.base agree)

alike_whole : (name : Name) (x y : Content) (vs ws : List Workspace) (l : Delta) → AreAlike name x y vs ws → (IsUnder name l → AgreeOutside l.base x y)
    → whole_of (above_in ws l) l ≡ whole_of (above_in vs l) l
alike_whole name x y vs ws l a agree = by (bytes_eq name l.parent) refl
  where
    by : (b : Bool) → bytes_eq name l.parent ≡ b → whole_of (above_in ws l) l ≡ whole_of (above_in vs l) l
    by true e =
        let same : l.parent ≡ name = sym ((bytes_decides name l.parent).0 e) in
        ap (λ n. whole_of (unwrap_or (content_by_name ws n) no_rows) l) same ∙ ap (λ o. whole_of (unwrap_or o no_rows) l) a.new
        ∙ whole_hidden x y l (agree e)
        ∙ sym (ap (λ n. whole_of (unwrap_or (content_by_name vs n) no_rows) l) same ∙ ap (λ o. whole_of (unwrap_or o no_rows) l) a.old)
    by false e = ap (λ o. whole_of (unwrap_or o no_rows) l) (a.others l.parent e)

-- each child among the deltas has differences where two contents differ
abbrev ChildrenAgree : Name → Content → Content → List Delta → Type 0
ChildrenAgree name x y ls = (k : ℕ) → k < length ls → IsUnder name (delta_at ls k) → AgreeOutside (delta_at ls k).base x y

after : (name : Name) (x y : Content) (vs ws : List Workspace) (ls : List Delta) → AreAlike name x y vs ws → ChildrenAgree name x y ls → grow ws ls ≡ grow vs ls
unfolding grow
after name x y vs ws [] a agree = refl
after name x y vs ws (l ∷ ls) a agree =
    let v = whole_of (above_in vs l) l in
    let same : whole_of (above_in ws l) l ≡ v = alike_whole name x y vs ws l a (agree 0 (omega arith)) in
    (λ i. same i ∷ grow (ws ++ same i ∷ []) ls)
    ∙ ap (λ rest. v ∷ rest) (after name x y (vs ++ v ∷ []) (ws ++ v ∷ []) ls (alike_more name x y vs ws v a) (λ k lt. agree (suc k) (omega arith)))

alike_here : (vs : List Workspace) (v w : Workspace) → content_by_name vs v.name ≡ None → w.name ≡ v.name → AreAlike v.name v.current w.current (vs ++ v
    ∷ []) (vs ++ w ∷ [])
alike_here vs v w new same = record {
  others = λ n differs. named-append vs w n ∙ ap (λ (b : Bool). option_or (content_by_name vs n) (cond b (Some w.current) None)) (ap (bytes_eq n) same
      ∙ differ_back v.name n differs)
      ∙ sym (named-append vs v n ∙ ap (λ (b : Bool). option_or (content_by_name vs n) (cond b (Some v.current) None)) (differ_back v.name n differs));
  old = named-append vs v v.name ∙ (λ i. option_or (new i) (cond (itself i) (Some v.current) None));
  new = named-append vs w v.name ∙ (λ i. option_or (new i) (cond ((ap (bytes_eq v.name) same ∙ itself) i) (Some w.current) None));
}
  where
    itself : bytes_eq v.name v.name ≡ true
    itself = (bytes_decides v.name v.name).1 refl

moved_grow : (ws : List Workspace) (ls : List Delta) (at : ℕ) (m : Delta) → at < length ls
    → (let above = above_in (ws ++ take at (grow ws ls)) (delta_at ls at) in
    let l = delta_at ls at in
    m.name ≡ l.name → m.parent ≡ l.parent → content_by_name (ws ++ take at (grow ws ls)) l.name ≡ None
    → ChildrenAgree l.name (whole_of above l).current (whole_of above m).current ls
    → grow ws (slice_set ls at m) ≡ slice_set (grow ws ls) at (whole_of above m))
unfolding grow
moved_grow ws [] at m lt name parent new agree = absurd (omega arith)
moved_grow ws (l ∷ ls) zero m lt name parent new agree =
    let start : ws ++ [] ≡ ws = append-nil ws in
    let v = whole_of (above_in ws l) l in
    let w = whole_of (above_in ws m) m in
    let above : above_in ws m ≡ above_in (ws ++ []) l = ap (λ n. unwrap_or (content_by_name ws n) no_rows) parent
    ∙ ap (λ (vs : List Workspace). above_in vs l) (sym start) in
    let a = alike_here ws v w (ap (content_by_name ws) (name-whole (above_in ws l) l) ∙ ap (λ (vs : List Workspace). content_by_name vs l.name) (sym start)
    ∙ new) (name-whole (above_in ws m) m ∙ name ∙ sym (name-whole (above_in ws l) l)) in
    let later : ChildrenAgree v.name v.current w.current ls =
    λ k k_lt under q none.
    ap (λ (c : Content). row_at (whole_of c m).current q) above
    ∙ agree (suc k) (omega arith) (subst (λ n. IsUnder n (delta_at ls k)) (name-whole (above_in ws l) l) under) q none
    ∙ ap (λ (vs : List Workspace). row_at (whole_of (above_in vs l) l).current q) start in
    (λ i. w ∷ after v.name v.current w.current (ws ++ v ∷ []) (ws ++ w ∷ []) ls a later i)
    ∙ ap (λ (c : Content). whole_of c m ∷ grow (ws ++ v ∷ []) ls) above
moved_grow ws (l ∷ ls) (suc at) m lt name parent new agree =
    let w = whole_of (above_in ws l) l in
    let start : (ws ++ w ∷ []) ++ take at (grow (ws ++ w ∷ []) ls) ≡ ws ++ w ∷ take at (grow (ws ++ w ∷ []) ls) = append_assoc ws (w ∷ []) _ in
    let l_at = delta_at ls at in
    let same : above_in ((ws ++ w ∷ []) ++ take at (grow (ws ++ w ∷ []) ls)) l_at ≡ above_in (ws ++ w ∷ take at (grow (ws ++ w ∷ []) ls)) l_at =
    ap (λ (vs : List Workspace). above_in vs l_at) start in
    ap (λ rest. w ∷ rest) (moved_grow (ws ++ w ∷ []) ls at m (omega arith) name parent (ap (λ (vs : List Workspace). content_by_name vs l_at.name) start ∙ new)
    (λ k k_lt under q none. ap (λ (c : Content). row_at (whole_of c m).current q) same ∙ agree (suc k) (omega arith) under q none
    ∙ sym (ap (λ (c : Content). row_at (whole_of c l_at).current q) same))
    ∙ ap (λ (c : Content). slice_set (grow (ws ++ w ∷ []) ls) at (whole_of c m)) same)

-- each delta later than LIVE's has differences where two contents differ
abbrev pub LaterAgree : Name → Content → Content → List Delta → Type 0
LaterAgree name x y ls = (k : ℕ) → 0 < k → k < length ls → IsUnder name (delta_at ls k) → AgreeOutside (delta_at ls k).base x y

-- a delta changes, and its children have differences where its content does
pub moved : (live : Content) (ls : List Delta) (at : ℕ) (m : Delta) → 0 < at → at < length ls
    → m.name ≡ (delta_at ls at).name → m.parent ≡ (delta_at ls at).parent → content_by_name (take at (wholes live ls)) (delta_at ls at).name ≡ None
    → LaterAgree (delta_at ls at).name (whole_of (above_at live ls at) (delta_at ls at)).current (whole_of (above_at live ls at) m).current ls
    → wholes live (slice_set ls at m) ≡ slice_set (wholes live ls) at (whole_of (above_at live ls at) m)
unfolding wholes
moved live [] at m some lt name parent new agree = absurd (omega arith)
moved live (l ∷ ls) zero m some lt name parent new agree = absurd (omega arith)
moved live (l ∷ ls) (suc at) m some lt name parent new agree =
    let t = top live l in
    ap (λ rest. t ∷ rest) (moved_grow (t ∷ []) ls at m (omega arith) name parent new (λ k k_lt under q none. agree (suc k) (omega arith) (omega arith) under q
    none))

-- LIVE's content changes, and its children have differences where it does
pub moved_live : (live next : Content) (ls : List Delta) → 0 < length ls → LaterAgree (delta_at ls 0).name live next ls
    → wholes next ls ≡ slice_set (wholes live ls) 0 (top next (delta_at ls 0))
unfolding wholes content_by_name top
moved_live live next [] lt agree = absurd (omega arith)
moved_live live next (l ∷ ls) lt agree =
    let a = alike_here [] (top live l) (top next l) refl refl in
    ap (λ rest. top next l ∷ rest) (after l.name live next (top live l ∷ []) (top next l
    ∷ []) ls a (λ k k_lt under q none. agree (suc k) (omega arith) (omega arith) under q none))

-- a delta comes last
grow-push : (ws : List Workspace) (ls : List Delta) (l : Delta) → grow ws (ls ++ l ∷ []) ≡ grow ws ls ++ whole_of (above_in (ws ++ grow ws ls) l) l ∷ []
unfolding grow
grow-push ws [] l = ap (λ (vs : List Workspace). whole_of (above_in vs l) l ∷ []) (sym (append-nil ws))
grow-push ws (x ∷ ls) l =
    let w = whole_of (above_in ws x) x in
    ap (λ rest. w ∷ rest) (grow-push (ws ++ w ∷ []) ls l ∙ ap (λ (vs : List Workspace). grow (ws ++ w ∷ []) ls ++ whole_of (above_in vs l) l
    ∷ []) (append_assoc ws (w ∷ []) (grow (ws ++ w ∷ []) ls)))

pub wholes-push : (live : Content) (ls : List Delta) (l : Delta) → 0 < length ls → wholes live (ls ++ l ∷ []) ≡ wholes live ls
    ++ whole_of (above_in (wholes live ls) l) l ∷ []
unfolding wholes
wholes-push live [] l lt = absurd (omega arith)
wholes-push live (x ∷ ls) l lt = ap (λ rest. top live x ∷ rest) (grow-push (top live x ∷ []) ls l)

-- a leaf goes
abbrev IsFree : Name → List Delta → Type 0
IsFree name ls = (k : ℕ) → k < length ls → IsUnder name (delta_at ls k) → ⊥

after_gone : (name : Name) (vs ws : List Workspace) (ls : List Delta) → ((n : Name) → bytes_eq name n ≡ false → content_by_name ws n ≡ content_by_name vs n)
    → IsFree name ls → grow ws ls ≡ grow vs ls
unfolding grow
after_gone name vs ws [] a free = refl
after_gone name vs ws (l ∷ ls) a free =
    let v = whole_of (above_in vs l) l in
    let same : whole_of (above_in ws l) l ≡ v =
    ap (λ o. whole_of (unwrap_or o no_rows) l) (a l.parent (not_from (bytes_eq name l.parent) (free 0 (omega arith)))) in
    (λ i. same i ∷ grow (ws ++ same i ∷ []) ls)
    ∙ ap (λ rest. v ∷ rest) (after_gone name (vs ++ v ∷ []) (ws ++ v ∷ []) ls
    (λ n differs. named-append ws v n ∙ ap (λ o. option_or o (cond (bytes_eq n v.name) (Some v.current) None)) (a n differs) ∙ sym (named-append vs v n))
    (λ k lt. free (suc k) (omega arith)))

or_none : {A : Type 0} (o : Option A) → option_or o None ≡ o
or_none None = refl
or_none (Some x) = refl

removed_grow : (ws : List Workspace) (ls : List Delta) (at : ℕ) → at < length ls → IsFree (delta_at ls at).name ls → grow ws (remove ls at)
    ≡ remove (grow ws ls) at
unfolding grow
removed_grow ws [] at lt free = absurd (omega arith)
removed_grow ws (l ∷ ls) zero lt free =
    let w = whole_of (above_in ws l) l in
    after_gone l.name (ws ++ w ∷ []) ws ls
    (λ n differs. sym (named-append ws w n ∙ ap (λ (b : Bool). option_or (content_by_name ws n) (cond b (Some w.current) None))
    (ap (bytes_eq n) (name-whole (above_in ws l) l) ∙ differ_back l.name n differs) ∙ or_none (content_by_name ws n)))
    (λ k k_lt. free (suc k) (omega arith))
removed_grow ws (l ∷ ls) (suc at) lt free =
    let w = whole_of (above_in ws l) l in
    ap (λ rest. w ∷ rest) (removed_grow (ws ++ w ∷ []) ls at (omega arith) (λ k k_lt. free (suc k) (omega arith)))

pub leaf_removed : (live : Content) (ls : List Delta) (at : ℕ) → 0 < at → at < length ls
    → ((k : ℕ) → 0 < k → k < length ls → IsUnder (delta_at ls at).name (delta_at ls k) → ⊥) → wholes live (remove ls at) ≡ remove (wholes live ls) at
unfolding wholes
leaf_removed live [] at some lt free = absurd (omega arith)
leaf_removed live (l ∷ ls) zero some lt free = absurd (omega arith)
leaf_removed live (l ∷ ls) (suc at) some lt free = let t = top live l in ap (λ rest. t
    ∷ rest) (removed_grow (t ∷ []) ls at (omega arith) (λ k k_lt. free (suc k) (omega arith) (omega arith)))

-- The first fault of parts, and what follows where there is none.
use Rattle.std.proofs.Common.{◌≡◌, ℕ, suc, zero, ◌+◌, ◌<◌, ◌≤◌, ⊎_elim, Bool, true, false, cond, not, nat_le, nat_lt, ◌&&◌, ◌||◌, ◌==◌, List, [], ◌∷◌, ◌++◌}
use Rattle.std.proofs.Common.{length, take, get_or, Some, None, is_some, refl, ap, sym, ◌∙◌, subst, arith, ◌⊎◌, inl, inr}
use Rattle.std.specs.declared.option.Option.{Option}
use Rattle.std.specs.Option.{option_or, option_map}
use Rattle.std.specs.List.{list_all}
use Rattle.std.specs.Str.{bytes_eq}
use Rattle.std.specs.Cmp.Lexicographic.{bytes_decides}
use Rattle.std.proofs.lemmas.Grind.{common_steps}
use Rattle.std.proofs.lemmas.Bool.{false≢true, ltb-true, ltb-false, and_parts}
use Rattle.std.proofs.lemmas.Option.{none-some}
use Rattle.std.proofs.lemmas.List.{length-append}
use Rattle.clr_rows.specs.Contents.{Content}
use Rattle.clr_rows.specs.Names.{is_good_name}
use Rattle.clr_workspaces.specs.Marks.{Name, Mark, Saved, ChildMark, is_mark_of, mark_count, saved_names}
use Rattle.clr_workspaces.specs.Workspaces.{Workspace, no_workspace, live_workspace, workspace_at, find, parent_of, is_child_named, child_count, depth_of}
use Rattle.clr_workspaces.proofs.FindLemmas.{find_more, find_named, find_within}
use Rattle.clr_workspaces.proofs.FindLemmas.{not_from}
use Rattle.clr_workspace_parts.specs.Parts.{workspace_of, list_of, parent_fault, is_under, is_savepoint_or_child, is_marked_once, has_child_marks, has_good_marks}
use Rattle.clr_workspace_parts.specs.Parts.{part_name_fault, part_name_fault_at, marks_fault_at, first_below, first_part_name_fault, first_marks_fault}
use Rattle.clr_workspaces.specs.Roots.{IsRooted}
use Rattle.clr_workspaces.specs.Soundness.{IsSound, HasChildMarks, are_good_savepoints}
use Rattle.clr_workspaces.specs.declared.limits.TheConstants.{MOST_WORKSPACES, MOST_LEVELS}
use Rattle.clr_workspace_parts.specs.declared.parts.Part.{Part}
use Rattle.clr_workspace_parts.specs.declared.parts.PartFault.{PartFault}
use Rattle.clr_workspace_parts.specs.declared.parts.PartFault.TheVariants as fault
use Rattle.clr_workspaces.proofs.CountLemmas.{tally, count-tally, tally-none}
use Rattle.clr_workspaces.proofs.DepthLemmas.{depth_step, depth_more}
use Rattle.clr_workspaces.proofs.RootLemmas.{rooted_more, at_last, placed}
use Rattle.clr_workspaces.proofs.TreeLemmas.{one_child, root_sound}
use Rattle.clr_workspace_parts.proofs.PartLemmas.{take_all}

-- the first fault ------------------------------------------------------------------------------------

pub part_at : (live : Content) (parts : List Part) (at : ℕ) (d : Part) → at < length parts → workspace_at (list_of live parts) (suc at)
    ≡ workspace_of (get_or parts at d)
part_at live [] at d lt = absurd (omega arith)
part_at live (p ∷ parts) zero d lt = refl
part_at live (p ∷ parts) (suc at) d lt = part_at live parts at d (omega arith)

split_last : (a n : ℕ) → a < suc n → (a ≡ n) ⊎ (a < n)
split_last a n lt = by (nat_lt a n) refl
  where
    by : (b : Bool) → nat_lt a n ≡ b → (a ≡ n) ⊎ (a < n)
    by true e = inr (ltb-true a n e)
    by false e = let le = ltb-false a n e in inl (omega (arith, le, lt))

module _ (wrong : ℕ → Option PartFault) where
  pub below_none : first_below wrong 0 ≡ None
  unfolding first_below
  below_none = refl

  at_next : (n : ℕ) → first_below wrong (suc n) ≡ option_or (first_below wrong n) (option_map (λ why. (n, why)) (wrong n))
  unfolding first_below
  at_next n = refl

  pub below_next : (n : ℕ) → first_below wrong n ≡ None → wrong n ≡ None → first_below wrong (n + 1) ≡ None
  below_next n before here =
      let next : suc n ≡ n + 1 = omega arith in
      subst (λ k. first_below wrong k ≡ None) next (at_next n ∙ (λ i. option_or (before i) (option_map (λ why. (n, why)) (here i))))

  last_found : (n : ℕ) (e : PartFault) → first_below wrong n ≡ None → wrong n ≡ Some e → first_below wrong (suc n) ≡ Some (n, e)
  last_found n e before here = at_next n ∙ (λ i. option_or (before i) (option_map (λ why. (n, why)) (here i)))

  later_found : (at n : ℕ) (e : PartFault) → first_below wrong n ≡ Some (at, e) → first_below wrong (suc n) ≡ Some (at, e)
  later_found at n e found = at_next n ∙ ap (λ o. option_or o (option_map (λ why. (n, why)) (wrong n))) found

  pub below_found : (at n : ℕ) (e : PartFault) → at < n → first_below wrong at ≡ None → wrong at ≡ Some e → first_below wrong n ≡ Some (at, e)
  below_found at zero e lt before here = absurd (omega arith)
  below_found at (suc n) e lt before here = ⊎_elim
      (λ (same : at ≡ n). subst (λ k. first_below wrong (suc k) ≡ Some (at, e)) same (last_found at e before here))
      (λ (less : at < n). later_found at n e (below_found at n e less before here))
      (split_last at n lt)

  pub below_all : (n m : ℕ) → n ≡ m → first_below wrong n ≡ None → first_below wrong m ≡ None
  below_all n m same e = subst (λ k. first_below wrong k ≡ None) same e

  none_before : (o : Option (ℕ × PartFault)) (here : Option PartFault) (n : ℕ) → option_or o (option_map (λ why. (n, why)) here) ≡ None → (o ≡ None)
      × (here ≡ None)
  none_before None None n e = (refl, refl)
  none_before None (Some x) n e = absurd (none-some _ (sym e))
  none_before (Some x) here n e = absurd (none-some _ (sym e))

  pub one_less : (n : ℕ) → first_below wrong (suc n) ≡ None → (first_below wrong n ≡ None) × (wrong n ≡ None)
  one_less n e = none_before (first_below wrong n) (wrong n) n (sym (at_next n) ∙ e)

  pub none_at : (n k : ℕ) → first_below wrong n ≡ None → k < n → wrong k ≡ None
  none_at zero k e lt = absurd (omega arith)
  none_at (suc n) k e lt =
      let less = one_less n e in
      ⊎_elim (λ (same : k ≡ n). subst (λ j. wrong j ≡ None) (sym same) less.1) (λ (before : k < n). none_at n k less.0 before) (split_last k n lt)

-- a part without a fault -------------------------------------------------------------------------------

pub record IsPlaced (ws : List Workspace) (w : Workspace) : Type 0 where
  pub good : is_good_name w.name ≡ true
  pub absent : find ws w.name ≡ None
  pub above : ℕ
  pub found : find ws w.parent ≡ Some above
  pub few : length ws < MOST_WORKSPACES
  pub shallow : depth_of ws above < MOST_LEVELS

at_most : (a b : ℕ) → nat_le (suc a) b ≡ true → a < b
at_most a b e = grind (arith, common_steps)

pub placed_from : (ws : List Workspace) (w : Workspace) → part_name_fault ws w ≡ None → IsPlaced ws w
placed_from ws w e = by (is_good_name w.name) refl (find ws w.name) refl (find ws w.parent) refl e
  where
    by : (g : Bool) → is_good_name w.name ≡ g → (f : Option ℕ) → find ws w.name ≡ f → (p : Option ℕ) → find ws w.parent ≡ p
        → cond (not g) (Some fault.BadName) (cond (is_some f) (Some fault.NameTaken) (parent_fault ws p)) ≡ None → IsPlaced ws w
    by false g f f_is p p_is e = absurd (none-some _ (sym e))
    by true g (Some x) f_is p p_is e = absurd (none-some _ (sym e))
    by true g None f_is None p_is e = absurd (none-some _ (sym e))
    by true g None f_is (Some above) p_is e = fits (nat_le (suc (length ws)) MOST_WORKSPACES) refl (nat_le (suc (depth_of ws above)) MOST_LEVELS) refl e
      where
        fits : (a : Bool) → nat_le (suc (length ws)) MOST_WORKSPACES ≡ a → (b : Bool) → nat_le (suc (depth_of ws above)) MOST_LEVELS ≡ b
            → cond (a && b) None (Some fault.TooMany) ≡ None → IsPlaced ws w
        fits true few true shallow e = record { good = g; absent = f_is; above = above; found = p_is; few = at_most _ _ few; shallow = at_most _ _ shallow }
        fits true few false shallow e = absurd (none-some _ (sym e))
        fits false few b shallow e = absurd (none-some _ (sym e))

-- what the first pass keeps
pub record IsShaped (ws : List Workspace) : Type 0 where
  pub rooted : IsRooted ws
  pub few : length ws ≤ MOST_WORKSPACES
  pub shallow : (i : ℕ) → i < length ws → depth_of ws i ≤ MOST_LEVELS

pub shaped_root : (live : Content) → IsShaped (live_workspace live ∷ [])
shaped_root live = let s = root_sound live in record { rooted = s.rooted; few = s.few; shallow = s.shallow }

pub shaped_more : (ws : List Workspace) (w : Workspace) → IsShaped ws → part_name_fault ws w ≡ None → IsShaped (ws ++ w ∷ [])
shaped_more ws w s clear =
    let p = placed_from ws w clear in
    let more = length-append ws (w ∷ []) in
    let r = rooted_more ws w p.above p.absent p.good p.found s.rooted in
    let up = find_within ws w.parent p.above p.found in
    let last : length ws < length (ws ++ w ∷ []) = omega (arith, more) in
    let parent : parent_of (ws ++ w ∷ []) (length ws) ≡ Some p.above = ap (λ (v : Workspace). find (ws ++ w ∷ []) v.parent)
    (at_last ws w p.above p.absent p.good p.found s.rooted) ∙ find_more ws w w.parent p.above p.found in
    let deep : depth_of (ws ++ w ∷ []) (length ws) ≡ depth_of ws p.above + 1 = depth_step (ws ++ w ∷ []) (length ws) p.above r last parent up
    ∙ ap (λ d. d + 1) (depth_more ws w p.above p.above s.rooted r up) in
    let shallow = p.shallow in
    let few = p.few in
    record {
      rooted = r;
      few = omega (arith, more, few);
      shallow = placed ws w (λ i lt. let same = depth_more ws w i i s.rooted r lt in let was = s.shallow i lt in omega (arith, same, was))
          (omega (arith, deep, shallow));
    }

pub take_next : (ws : List Workspace) (i : ℕ) → i < length ws → take (suc i) ws ≡ take i ws ++ workspace_at ws i ∷ []
take_next [] i lt = absurd (omega arith)
take_next (w ∷ ws) zero lt = refl
take_next (w ∷ ws) (suc i) lt = ap (λ vs. w ∷ vs) (take_next ws i (omega arith))

pub shaped_take : (live : Content) (rest : List Workspace) (i : ℕ) → i ≤ length rest → first_below (part_name_fault_at (live_workspace live ∷ rest)) i ≡ None
    → IsShaped (take (suc i) (live_workspace live ∷ rest))
shaped_take live rest zero le clear = shaped_root live
shaped_take live rest (suc i) le clear =
    let ws = live_workspace live ∷ rest in
    let less = one_less (part_name_fault_at ws) i clear in
    subst IsShaped (sym (take_next ws (suc i) (omega arith))) (shaped_more (take (suc i) ws) (workspace_at ws (suc i))
    (shaped_take live rest i (omega arith) less.0) less.1)

-- marks ------------------------------------------------------------------------------------------------

pub all_each : {A : Type 0} (p : A → Bool) (xs : List A) (i : ℕ) (d : A) → list_all p xs ≡ true → i < length xs → p (get_or xs i d) ≡ true
all_each p [] i d e lt = absurd (omega arith)
all_each p (x ∷ xs) zero d e lt = (and_parts (p x) (list_all p xs) e).0
all_each p (x ∷ xs) (suc i) d e lt = all_each p xs i d (and_parts (p x) (list_all p xs) e).1 (omega arith)

is_one : (a : ℕ) (b : Bool) → b ≡ true → (not b || a == 1) ≡ true → a ≡ 1
is_one a true h e = grind (arith, common_steps)
is_one a false h e = absurd (false≢true h)

module _ (ws : List Workspace) (r : IsRooted ws) (parent n : Name) where
  no_marks : (ms : List Mark) → list_all (is_savepoint_or_child ws parent) ms ≡ true → is_under ws parent (find ws n) ≡ false → tally (is_mark_of n) ms ≡ 0
  no_marks [] all other = refl
  no_marks (Saved name content ∷ ms) all other = no_marks ms all other
  no_marks (ChildMark name ∷ ms) all other =
      let parts = and_parts (is_under ws parent (find ws name)) (list_all (is_savepoint_or_child ws parent) ms) all in
      let apart : bytes_eq n name ≡ false = not_from (bytes_eq n name) (λ e.
      let same : n ≡ name = (bytes_decides n name).0 e in
      false≢true (sym other ∙ ap (λ m. is_under ws parent (find ws m)) same ∙ parts.0)) in
      ap (λ b. cond b (suc (tally (is_mark_of n) ms)) (tally (is_mark_of n) ms)) apart ∙ no_marks ms parts.1 other

  no_children : is_under ws parent (find ws n) ≡ false → child_count ws parent n ≡ 0
  no_children other =
      count-tally (is_child_named parent n) ws
      ∙ tally-none (is_child_named parent n) ws no_workspace
      (λ i lt. not_from (is_child_named parent n (workspace_at ws i)) (λ e.
      let parts = and_parts (bytes_eq parent (workspace_at ws i).parent) (bytes_eq n (workspace_at ws i).name) e in
      let same : n ≡ (workspace_at ws i).name = (bytes_decides n (workspace_at ws i).name).0 parts.1 in
      false≢true (sym other ∙ ap (is_under ws parent) (ap (find ws) same ∙ r.own i lt) ∙ parts.0)))

pub marks_right : (ws : List Workspace) (j : ℕ) → IsRooted ws → j < length ws → (let w = workspace_at ws j in has_child_marks ws w.name w.marks ≡ true
    → HasChildMarks ws w)
marks_right ws j r lt all n = by (find ws n) refl
  where
    w : Workspace
    w = workspace_at ws j

    parts : (list_all (is_savepoint_or_child ws w.name) w.marks ≡ true) × (list_all (is_marked_once w.name w.marks) ws ≡ true)
    parts = and_parts (list_all (is_savepoint_or_child ws w.name) w.marks) (list_all (is_marked_once w.name w.marks) ws) all

    neither : is_under ws w.name (find ws n) ≡ false → mark_count w.marks n ≡ child_count ws w.name n
    neither other = count-tally (is_mark_of n) w.marks ∙ no_marks ws r w.name n w.marks parts.0 other ∙ sym (no_children ws r w.name n other)

    by : (o : Option ℕ) → find ws n ≡ o → mark_count w.marks n ≡ child_count ws w.name n
    by None e = neither (ap (is_under ws w.name) e)
    by (Some k) e = under (bytes_eq w.name (workspace_at ws k).parent) refl
      where
        under : (b : Bool) → bytes_eq w.name (workspace_at ws k).parent ≡ b → mark_count w.marks n ≡ child_count ws w.name n
        under false other = neither (ap (is_under ws w.name) e ∙ other)
        under true child =
            let k_lt = find_within ws n k e in
            let named : n ≡ (workspace_at ws k).name = find_named ws n k e in
            let once = is_one (mark_count w.marks (workspace_at ws k).name) (bytes_eq w.name (workspace_at ws k).parent) child
            (all_each (is_marked_once w.name w.marks) ws k no_workspace parts.1 k_lt) in
            let parent : parent_of ws k ≡ Some j = ap (find ws) (sym ((bytes_decides w.name (workspace_at ws k).parent).0 child)) ∙ r.own j lt in
            ap (mark_count w.marks) named ∙ once ∙ sym (ap (child_count ws w.name) named ∙ one_child ws k j r k_lt parent)

-- parts without a fault give sound workspaces ----------------------------------------------------------

clear_marks : (ws : List Workspace) (i : ℕ) → marks_fault_at ws i ≡ None → has_good_marks ws (workspace_at ws (suc i)) ≡ true
clear_marks ws i e = by (has_good_marks ws (workspace_at ws (suc i))) e
  where
    by : (b : Bool) → cond b None (Some fault.BadMarks) ≡ None → b ≡ true
    by true e = refl
    by false e = absurd (none-some _ (sym e))

pub length-parts : (live : Content) (parts : List Part) → length (list_of live parts) ≡ suc (length parts)
length-parts live [] = refl
length-parts live (p ∷ parts) = ap suc (length-parts live parts)

whole_take : {A : Type 0} (xs : List A) (n : ℕ) → length xs ≡ n → take n xs ≡ xs
whole_take xs n e = take_all xs n (omega (arith, e))

module _ (live : Content) (rest : List Workspace) (names : first_part_name_fault live rest ≡ None) where
  abbrev ws : List Workspace
  ws = live_workspace live ∷ rest

  shaped_spaces : IsShaped (live_workspace live ∷ rest)
  shaped_spaces = subst IsShaped (whole_take ws (suc (length rest)) refl) (shaped_take live rest (length rest) (omega arith) names)

  pub sound_spaces : first_marks_fault live rest ≡ None → IsSound (live_workspace live ∷ rest)
  sound_spaces marks =
      let s = shaped_spaces in
      let good : (k : ℕ) → suc k < length ws → has_good_marks ws (workspace_at ws (suc k)) ≡ true =
      λ k lt. clear_marks ws k (none_at (marks_fault_at ws) (length rest) k marks (omega (arith, lt))) in
      let halves : (k : ℕ) → suc k < length ws → (let w = workspace_at ws (suc k) in (are_good_savepoints (saved_names w.marks) ≡ true)
      × (has_child_marks ws w.name w.marks ≡ true)) =
      λ k lt. and_parts (are_good_savepoints (saved_names (workspace_at ws (suc k)).marks)) (has_child_marks ws (workspace_at ws (suc k)).name
      (workspace_at ws (suc k)).marks) (good k lt) in
      record {
        rooted = s.rooted;
        few = s.few;
        shallow = s.shallow;
        base = refl;
        bare = refl;
        held = refl;
        saved = saved_from (λ k lt. (halves k lt).0);
        marked = marked_from (λ k lt. marks_right ws (suc k) s.rooted lt (halves k lt).1);
      }
    where
      saved_from : ((k : ℕ) → suc k < length ws → are_good_savepoints (saved_names (workspace_at ws (suc k)).marks) ≡ true) → (i : ℕ) → i < length ws
          → are_good_savepoints (saved_names (workspace_at ws i).marks) ≡ true
      saved_from later zero lt = refl
      saved_from later (suc k) lt = later k lt

      marked_from : ((k : ℕ) → suc k < length ws → HasChildMarks ws (workspace_at ws (suc k))) → (i : ℕ) → 0 < i → i < length ws
          → HasChildMarks ws (workspace_at ws i)
      marked_from later zero some lt = absurd (omega arith)
      marked_from later (suc k) some lt = later k lt

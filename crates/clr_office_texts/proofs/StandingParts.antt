-- The workspaces of an office can stand as parts: sound workspaces have no fault.
use Rattle.std.proofs.Common.{◌≡◌, ℕ, zero, suc, ◌+◌, ◌≤◌, ◌<◌, Bool, true, false, cond, not, ◌==◌, List, [], ◌∷◌, length, take, get_or, Option, Some, None}
use Rattle.std.proofs.Common.{is_some, refl, sym, ap, subst, ◌∙◌, arith}
use Rattle.std.specs.Prelude.{◌||◌}
use Rattle.std.specs.List.{list_all, position_or_len}
use Rattle.std.specs.Option.{option_or}
use Rattle.std.specs.Str.{bytes_eq}
use Rattle.std.specs.Cmp.Lexicographic.{bytes_decides}
use Rattle.std.proofs.lemmas.Bool.{and_from, and_parts}
use Rattle.std.proofs.lemmas.List.{length-take-le}
use Rattle.clr_rows.specs.Contents.{Content}
use Rattle.clr_rows.specs.Names.{is_good_name}
use Rattle.clr_workspaces.specs.Marks.{Name, Mark, Saved, ChildMark, is_mark_of, mark_count}
use Rattle.clr_workspaces.specs.Workspaces.{Workspace, depth_of, depth_within, find, is_child_named, no_workspace, one_above, parent_of, live_workspace}
use Rattle.clr_workspaces.specs.Workspaces.{workspace_at}
use Rattle.clr_workspaces.proofs.FindLemmas.{first_is, first_of, has_name}
use Rattle.clr_workspace_parts.specs.Parts.{first_below, has_good_marks, is_marked_once, is_savepoint_or_child, is_under, marks_fault_at}
use Rattle.clr_workspace_parts.specs.Parts.{part_name_fault_at, workspaces_fault}
use Rattle.clr_workspaces.specs.Roots.{IsRooted}
use Rattle.clr_workspaces.specs.Soundness.{IsSound}
use Rattle.clr_workspace_parts.specs.declared.parts.PartFault.{PartFault}
use Rattle.clr_workspace_parts.specs.declared.parts.PartFault.TheVariants as fault
use Rattle.clr_workspaces.proofs.CountLemmas.{count-tally, tally}
use Rattle.clr_workspaces.proofs.DepthLemmas.{depth_step}
use Rattle.clr_workspaces.proofs.RootLemmas.{no_parent}
use Rattle.clr_contents.proofs.SweepLemmas.{at_take}
use Rattle.clr_workspace_parts.proofs.FaultLemmas.{below_next, below_none}
use Rattle.clr_workspace_parts.proofs.PartLemmas.{fits}
use Rattle.clr_workspaces.proofs.TreeLemmas.{one_child}

-- the first workspaces -----------------------------------------------------------------------

-- a name that stands among them is found there, and otherwise not
place_front : (ws : List Workspace) (name : Name) (n : ℕ) → position_or_len (has_name name) ws < n → position_or_len (has_name name) (take n ws)
    ≡ position_or_len (has_name name) ws
place_front [] name zero lt = refl
place_front [] name (suc n) lt = refl
place_front (w ∷ ws) name zero lt = absurd (omega arith)
place_front (w ∷ ws) name (suc n) lt = by (bytes_eq name w.name) lt (λ less. place_front ws name n less)
  where
    by : (b : Bool) → cond (not b) (1 + position_or_len (has_name name) ws) 0 < suc n → (position_or_len (has_name name) ws < n
        → position_or_len (has_name name) (take n ws) ≡ position_or_len (has_name name) ws)
        → cond (not b) (1 + position_or_len (has_name name) (take n ws)) 0 ≡ cond (not b) (1 + position_or_len (has_name name) ws) 0
    by true less rest = refl
    by false less rest = ap (λ k. 1 + k) (rest (omega arith))

place_whole : (ws : List Workspace) (name : Name) (n : ℕ) → position_or_len (has_name name) (take n ws) < length (take n ws)
    → position_or_len (has_name name) ws ≡ position_or_len (has_name name) (take n ws)
place_whole [] name zero lt = refl
place_whole [] name (suc n) lt = refl
place_whole (w ∷ ws) name zero lt = absurd (omega arith)
place_whole (w ∷ ws) name (suc n) lt = by (bytes_eq name w.name) lt (λ less. place_whole ws name n less)
  where
    by : (b : Bool) → cond (not b) (1 + position_or_len (has_name name) (take n ws)) 0 < suc (length (take n ws))
        → (position_or_len (has_name name) (take n ws) < length (take n ws) → position_or_len (has_name name) ws ≡ position_or_len (has_name name) (take n ws))
        → cond (not b) (1 + position_or_len (has_name name) ws) 0 ≡ cond (not b) (1 + position_or_len (has_name name) (take n ws)) 0
    by true less rest = refl
    by false less rest = ap (λ k. 1 + k) (rest (omega arith))

find_front : (ws : List Workspace) (name : Name) (p n : ℕ) → find ws name ≡ Some p → p < n → n ≤ length ws → find (take n ws) name ≡ Some p
find_front ws name p n e lt le =
    let first = first_is ws name p e in
    let here = place_front ws name n (subst (λ k. k < n) (sym first.0) lt) in
    let count = length-take-le n ws le in
    first_of (take n ws) name p (here ∙ first.0) (omega (arith, count, lt))

find_later : (ws : List Workspace) (name : Name) (i n : ℕ) → find ws name ≡ Some i → n ≤ i → n ≤ length ws → find (take n ws) name ≡ None
find_later ws name i n e le within = by (find (take n ws) name) refl
  where
    by : (found : Option ℕ) → find (take n ws) name ≡ found → find (take n ws) name ≡ None
    by None is = is
    by (Some p) is =
        let first = first_is (take n ws) name p is in
        let whole = place_whole ws name n (subst (λ k. k < length (take n ws)) (sym first.0) first.1) in
        let other = (first_is ws name i e).0 in
        let count = length-take-le n ws within in
        let here = first.0 in
        let lt = first.1 in
        absurd (omega (arith, whole, other, here, lt, count, le))

module _ (ws : List Workspace) (r : IsRooted ws) (n : ℕ) (some : 0 < n) (within : n ≤ length ws) where
  front_rooted : IsRooted (take n ws)
  front_rooted =
      let count = length-take-le n ws within in
      record {
        filled = omega (arith, count, some);
        live = ap (λ (w : Workspace). w.name) (at_take ws n 0 some) ∙ r.live;
        top = ap (λ (w : Workspace). w.parent) (at_take ws n 0 some) ∙ r.top;
        good = λ i lt. let less : i < n = omega (arith, count, lt) in ap (λ (w : Workspace). is_good_name w.name) (at_take ws n i less)
            ∙ r.good i (omega (arith, less, within));
        own = λ i lt. let less : i < n = omega (arith, count, lt) in
            ap (λ (w : Workspace). find (take n ws) w.name) (at_take ws n i less)
            ∙ find_front ws (workspace_at ws i).name i n (r.own i (omega (arith, less, within))) less within;
        under = λ i later lt. let less : i < n = omega (arith, count, lt) in let p = r.under i later (omega (arith, less, within)) in (
          p.0,
          ap (λ (w : Workspace). find (take n ws) w.parent) (at_take ws n i less)
              ∙ find_front ws (workspace_at ws i).parent p.0 n p.1 (let q = p.2 in omega (arith, q, less)) within,
          p.2,
        );
      }

  front_depth : (k at : ℕ) → at < n → depth_within (take n ws) k at ≡ depth_within ws k at
  unfolding depth_within
  front_depth zero at lt = refl
  front_depth (suc k) zero lt = ap (one_above (depth_within (take n ws) k)) (no_parent (take n ws) front_rooted)
      ∙ sym (ap (one_above (depth_within ws k)) (no_parent ws r))
  front_depth (suc k) (suc at) lt =
      let p = r.under (suc at) (omega arith) (omega (arith, lt, within)) in
      let q = p.2 in
      let less : p.0 < n = omega (arith, q, lt) in
      let here : parent_of (take n ws) (suc at) ≡ Some p.0 = ap (λ (w : Workspace). find (take n ws) w.parent) (at_take ws n (suc at) lt)
      ∙ find_front ws (workspace_at ws (suc at)).parent p.0 n p.1 less within in
      ap (one_above (depth_within (take n ws) k)) here ∙ ap (λ d. d + 1) (front_depth k p.0 less) ∙ sym (ap (one_above (depth_within ws k)) p.1)

-- counts -------------------------------------------------------------------------------------

one_passes : {A : Type 0} (p : A → Bool) (xs : List A) (d : A) → 0 < tally p xs → (k : ℕ) × (k < length xs) × (p (get_or xs k d) ≡ true)
one_passes p [] d some = absurd (omega arith)
one_passes p (x ∷ xs) d some = by (p x) refl some (λ more. one_passes p xs d more)
  where
    by : (b : Bool) → p x ≡ b → 0 < cond b (suc (tally p xs)) (tally p xs) → (0 < tally p xs → (k : ℕ) × (k < length xs) × (p (get_or xs k d) ≡ true)) → (k : ℕ)
        × (k < length (x ∷ xs)) × (p (get_or (x ∷ xs) k d) ≡ true)
    by true e some rest = (0, omega arith, e)
    by false e some rest = let later = rest some in (suc later.0, (let lt = later.1 in omega (arith, lt)), later.2)

all_at : {A : Type 0} (p : A → Bool) (xs : List A) (d : A) → ((k : ℕ) → k < length xs → p (get_or xs k d) ≡ true) → list_all p xs ≡ true
all_at p [] d each = refl
all_at p (x ∷ xs) d each = and_from _ _ (each 0 (omega arith)) (all_at p xs d (λ k lt. each (suc k) (omega arith)))

-- marks of children, each of which is found
children_found : (ws : List Workspace) (parent : Name) (marks : List Mark) → ((name : Name) → 0 < tally (is_mark_of name) marks
    → is_under ws parent (find ws name) ≡ true) → list_all (is_savepoint_or_child ws parent) marks ≡ true
children_found ws parent [] each = refl
children_found ws parent (Saved name content ∷ marks) each = children_found ws parent marks each
children_found ws parent (ChildMark child ∷ marks) each =
    let itself : bytes_eq child child ≡ true = (bytes_decides child child).1 refl in
    and_from _ _ (each child (subst (λ b. 0 < cond b (suc (tally (is_mark_of child) marks)) (tally (is_mark_of child) marks)) (sym itself) (omega arith)))
    (children_found ws parent marks (λ name some. each name (more (bytes_eq name child) (tally (is_mark_of name) marks) some)))
  where
    more : (b : Bool) (n : ℕ) → 0 < n → 0 < cond b (suc n) n
    more true n some = omega arith
    more false n some = some

-- no fault -----------------------------------------------------------------------------------

none_below : (wrong : ℕ → Option PartFault) (n : ℕ) → ((k : ℕ) → k < n → wrong k ≡ None) → first_below wrong n ≡ None
none_below wrong zero each = below_none wrong
none_below wrong (suc n) each =
    let next : n + 1 ≡ suc n = omega arith in
    subst (λ k. first_below wrong k ≡ None) next (below_next wrong n (none_below wrong n (λ k lt. each k (omega (arith, lt)))) (each n (omega arith)))

module _ (live : Content) (rest : List Workspace) (sound : IsSound (live_workspace live ∷ rest)) where
  abbrev ws : List Workspace
  ws = live_workspace live ∷ rest

  name_clear : (i : ℕ) → i < length rest → part_name_fault_at ws i ≡ None
  name_clear i lt =
      let r = sound.rooted in
      let w = workspace_at ws (suc i) in
      let within : suc i < length ws = omega (arith, lt) in
      let p = r.under (suc i) (omega arith) within in
      let less = p.2 in
      let le : suc i ≤ length ws = omega (arith, within) in
      let few = sound.few in
      let count = length-take-le (suc i) ws le in
      let deep = depth_step ws (suc i) p.0 r within p.1 p.2 in
      let most = sound.shallow (suc i) within in
      let same : depth_of (take (suc i) ws) p.0 ≡ depth_of ws p.0 = front_depth ws r (suc i) (omega arith) le p.0 p.0 less in
      fits (take (suc i) ws) w.name w.parent (r.good (suc i) within) (ap is_some (find_later ws w.name (suc i) (suc i) (r.own (suc i) within) (omega arith) le))
      p.0 (find_front ws w.parent p.0 (suc i) p.1 p.2 le)
      (omega (arith, count, within, few)) (omega (arith, same, deep, most))

  -- a child with a mark is found, and is a child
  child_found : (j : ℕ) → 0 < j → j < length ws → (name : Name) → 0 < tally (is_mark_of name) (workspace_at ws j).marks
      → is_under ws (workspace_at ws j).name (find ws name) ≡ true
  child_found j some lt name marked =
      let w = workspace_at ws j in
      let same : tally (is_mark_of name) w.marks ≡ tally (is_child_named w.name name) ws = sym (count-tally (is_mark_of name) w.marks)
      ∙ sound.marked j some lt name ∙ count-tally (is_child_named w.name name) ws in
      let k = one_passes (is_child_named w.name name) ws no_workspace (subst (λ n. 0 < n) same marked) in
      let both = and_parts (bytes_eq w.name (workspace_at ws k.0).parent) (bytes_eq name (workspace_at ws k.0).name) k.2 in
      let named : name ≡ (workspace_at ws k.0).name = (bytes_decides name (workspace_at ws k.0).name).0 both.1 in
      ap (is_under ws w.name) (ap (find ws) named ∙ sound.rooted.own k.0 k.1) ∙ both.0

  marked_once : (j : ℕ) → 0 < j → j < length ws → (k : ℕ) → k < length ws
      → is_marked_once (workspace_at ws j).name (workspace_at ws j).marks (workspace_at ws k) ≡ true
  marked_once j some lt k k_lt = by (bytes_eq w.name v.parent) refl
    where
      w : Workspace
      w = workspace_at ws j

      v : Workspace
      v = workspace_at ws k

      by : (b : Bool) → bytes_eq w.name v.parent ≡ b → not b || mark_count w.marks v.name == 1 ≡ true
      by false e = refl
      by true e =
          let parent : parent_of ws k ≡ Some j = ap (find ws) (sym ((bytes_decides w.name v.parent).0 e)) ∙ sound.rooted.own j lt in
          let one : mark_count w.marks v.name ≡ 1 = sound.marked j some lt v.name ∙ one_child ws k j sound.rooted k_lt parent in
          rw one refl

  marks_clear : (i : ℕ) → i < length rest → marks_fault_at ws i ≡ None
  marks_clear i lt =
      let j = suc i in
      let within : suc i < length ws = omega (arith, lt) in
      let w = workspace_at ws (suc i) in
      let good : has_good_marks ws w ≡ true = and_from _ _ (sound.saved (suc i) within)
      (and_from _ _ (children_found ws w.name w.marks (child_found (suc i) (omega arith) within))
      (all_at (is_marked_once w.name w.marks) ws no_workspace (marked_once (suc i) (omega arith) within))) in
      ap (λ b. cond b None (Some fault.BadMarks)) good

  pub no_fault : workspaces_fault live rest ≡ None
  no_fault =
      ap (λ first. option_or first (first_below (marks_fault_at ws) (length rest))) (none_below (part_name_fault_at ws) (length rest) name_clear)
      ∙ none_below (marks_fault_at ws) (length rest) marks_clear

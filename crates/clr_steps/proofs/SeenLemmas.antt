-- What an office says of a name, by the position at which its tree finds the name.
use Rattle.std.proofs.Common.{◌≡◌, ℕ, zero, suc, ◌+◌, ◌<◌, ◌≤◌, Bool, true, false, ◌||◌, cond, nat_lt, List, [], ◌∷◌, length, Option, Some, None, refl, sym, ap}
use Rattle.std.proofs.Common.{subst, ◌∙◌, arith}
use Rattle.std.specs.Prelude.{is_some, filter}
use Rattle.std.specs.List.{list_any}
use Rattle.std.specs.Option.{option_map, option_map_or}
use Rattle.std.specs.Str.{bytes_eq}
use Rattle.std.specs.Cmp.Lexicographic.{bytes_decides}
use Rattle.std.proofs.lemmas.Bool.{true≢false, false≢true, lt-ltb}
use Rattle.std.proofs.lemmas.List.Sums.{length-filter}
use Rattle.clr_rows.specs.declared.tables.TableDef.{TableDef}
use Rattle.clr_rows.specs.Names.{is_good_name, live_name}
use Rattle.clr_rules.specs.declared.rules.Rule.{Rule}
use Rattle.clr_workspaces.specs.Marks.{Name}
use Rattle.clr_workspaces.specs.Workspaces as tree
use Rattle.clr_workspaces.specs.Workspaces.{Workspace, no_workspace, workspace_at, find, parent_of, children_of, depth_of}
use Rattle.clr_workspaces.specs.Soundness.{IsSound}
use Rattle.clr_steps.specs.Names.{same_name, is_live}
use Rattle.clr_steps.specs.Offices.{Office, office_of, find_name, workspace, stands, content_of, is_kept, below_live}
use Rattle.clr_steps.specs.Refusals.{has_child, depth, depth_within}
use Rattle.clr_steps.specs.Positions.{is_top, below_top, content_at, kept_at, depth_at, has_child_at}
use Rattle.clr_steps.specs.Laws.{NameLaw}
use Rattle.clr_steps.proofs.FirstLemmas.{IsOnly, position_here, position_later, first_at_position, first_within, first_passes, only_of_first, some_is}
use Rattle.clr_steps.proofs.ModifyLemmas.{has_name}

-- what is seen of a name, but for whether it is kept and its depth
pub record Seen (o : Office) (ws : List Workspace) (n : Name) : Type 0 where
  pub live : is_live n ≡ is_top (find ws n)
  pub found : workspace o n ≡ below_top ws (find ws n)
  pub stands : stands o n ≡ is_some (find ws n)
  pub content : content_of o n ≡ content_at ws (find ws n)

-- a search by name finds what stands at the position
find_name_is : (n : Name) (ws : List Workspace) → find_name n ws ≡ option_map (workspace_at ws) (find ws n)
unfolding same_name
find_name_is n [] = refl
find_name_is n (w ∷ ws) = by (find_name_is n ws) (bytes_eq n w.name) refl
  where
    later : (r : Option ℕ) → option_map (workspace_at ws) r ≡ option_map (workspace_at (w ∷ ws)) (option_map suc r)
    later None = refl
    later (Some k) = refl

    by : find_name n ws ≡ option_map (workspace_at ws) (find ws n) → (b : Bool) → bytes_eq n w.name ≡ b → cond b (Some w) (find_name n ws)
        ≡ option_map (workspace_at (w ∷ ws)) (find (w ∷ ws) n)
    by rest true e = sym (ap (option_map (workspace_at (w ∷ ws))) (position_here (has_name n) w ws e))
    by rest false e = rest ∙ later (find ws n) ∙ sym (ap (option_map (workspace_at (w ∷ ws))) (position_later (has_name n) w ws e))

-- some passes where the number of those that pass isn't 0
any_is : (p : Workspace → Bool) (ws : List Workspace) → list_any p ws ≡ nat_lt 0 (length (filter p ws))
any_is p [] = refl
any_is p (w ∷ ws) = by (any_is p ws) (p w)
  where
    by : list_any p ws ≡ nat_lt 0 (length (filter p ws)) → (b : Bool) → (b || list_any p ws) ≡ nat_lt 0 (length (cond b (w ∷ filter p ws) (filter p ws)))
    by rest true = sym (lt-ltb 0 (suc (length (filter p ws))) (omega arith))
    by rest false = rest

module _ (schema : List TableDef) (book : List Rule) where
  pub seen : (ws : List Workspace) → IsSound ws → (n : Name) → Seen (office_of schema book ws) ws n
  unfolding is_live workspace stands content_of
  seen [] sound n = absurd (omega (arith, sound.rooted.filled))
  seen (l ∷ ws) sound n = by (bytes_eq n live_name) refl
    where
      last : (r : Option ℕ) → bytes_eq n live_name ≡ false → find (l ∷ ws) n ≡ option_map suc r → find_name n ws ≡ option_map (workspace_at ws) r
          → Seen (office_of schema book (l ∷ ws)) (l ∷ ws) n
      last None e f g = record { live = rw (e, f) refl; found = rw (e, f, g) refl; stands = rw (e, f, g) refl; content = rw (e, f, g) refl }
      last (Some k) e f g = record { live = rw (e, f) refl; found = rw (e, f, g) refl; stands = rw (e, f, g) refl; content = rw (e, f, g) refl }

      by : (b : Bool) → bytes_eq n live_name ≡ b → Seen (office_of schema book (l ∷ ws)) (l ∷ ws) n
      by true e =
          let f : find (l ∷ ws) n ≡ Some 0 = position_here (has_name n) l ws (ap (bytes_eq n) sound.rooted.live ∙ e) in
          record { live = rw (e, f) refl; found = rw (e, f) refl; stands = rw (e, f) refl; content = rw (e, f) refl }
      by false e = last (find ws n) e (position_later (has_name n) l ws (ap (bytes_eq n) sound.rooted.live ∙ e)) (find_name_is n ws)

  module _ (ws : List Workspace) (sound : IsSound ws) where
    pub within : (n : Name) (at : ℕ) → find ws n ≡ Some at → at < length ws
    within n at e = first_within (has_name n) ws at (first_at_position (has_name n) ws at e)

    pub name_is : (n : Name) (at : ℕ) → find ws n ≡ Some at → n ≡ (workspace_at ws at).name
    name_is n at e = (bytes_decides n (workspace_at ws at).name).0 (first_passes (has_name n) no_workspace ws at (first_at_position (has_name n) ws at e))

    pub own_position : (n : Name) (at : ℕ) → find ws n ≡ Some at → find ws (workspace_at ws at).name ≡ Some at
    own_position n at e = sound.rooted.own at (within n at e)

    -- no other workspace has the name
    pub only_at : (n : Name) (at : ℕ) → find ws n ≡ Some at → IsOnly (has_name n) ws at
    only_at n at e =
        only_of_first (has_name n) no_workspace ws at (first_at_position (has_name n) ws at e)
        (λ j lt same. some_is j at (sym (sound.rooted.own j lt) ∙ ap (find ws) (sym ((bytes_decides n (workspace_at ws j).name).0 same)) ∙ e))

    pub kept_is : (n : Name) → is_kept (office_of schema book ws) n ≡ kept_at ws (find ws n)
    unfolding is_kept
    kept_is n = let s = seen ws sound n in rw (s.live, s.found) (by (find ws n))
      where
        by : (r : Option ℕ) → (is_top r || option_map_or (λ w. w.kept) (below_top ws r) false) ≡ kept_at ws r
        by None = refl
        by (Some zero) = sym sound.held
        by (Some (suc k)) = refl

    -- the name at a position isn't empty, as the name of LIVE's parent is
    not_empty : (n : Name) (at : ℕ) → find ws n ≡ Some at → bytes_eq n [] ≡ false
    unfolding is_good_name
    not_empty n at e = by n (subst (λ m. is_good_name m ≡ true) (sym (name_is n at e)) (sound.rooted.good at (within n at e)))
      where
        by : (m : Name) → is_good_name m ≡ true → bytes_eq m [] ≡ false
        by [] h = absurd (false≢true h)
        by (c ∷ cs) h = refl

    no_parent : parent_of ws 0 ≡ None
    no_parent = by (find ws []) refl
      where
        by : (r : Option ℕ) → find ws [] ≡ r → parent_of ws 0 ≡ None
        by None e = ap (find ws) sound.rooted.top ∙ e
        by (Some at) e = absurd (true≢false (not_empty [] at e))

    pub child_is : (at : ℕ) → at < length ws → has_child (office_of schema book ws) (workspace_at ws at).name ≡ has_child_at ws at
    unfolding has_child same_name
    child_is at lt =
        let n = (workspace_at ws at).name in
        any_is (λ w. bytes_eq n w.parent) (below_live ws) ∙ ap (nat_lt 0) (by ws n (ap (bytes_eq n) sound.rooted.top ∙ not_empty n at (sound.rooted.own at lt))
        ∙ length-filter (λ w. bytes_eq n w.parent) ws)
      where
        by : (vs : List Workspace) (n : Name) → bytes_eq n (workspace_at vs 0).parent ≡ false → length (filter (λ w. bytes_eq n w.parent) (below_live vs))
            ≡ length (filter (λ w. bytes_eq n w.parent) vs)
        by [] n other = refl
        by (l ∷ vs) n other = rw other refl

    -- parents stand earlier, so as many steps as there are positions before are enough
    depth_steps : (most steps at : ℕ) (n : Name) → at ≤ most → at ≤ steps → find ws n ≡ Some at → depth_within most (office_of schema book ws) n
        ≡ tree.depth_within ws steps at
    unfolding depth_within tree.depth_within
    depth_steps zero zero at n lm ls e = refl
    depth_steps zero (suc steps) zero n lm ls e = rw no_parent refl
    depth_steps zero (suc steps) (suc k) n lm ls e = absurd (omega arith)
    depth_steps (suc most) zero zero n lm ls e = rw ((seen ws sound n).found, e) refl
    depth_steps (suc most) zero (suc k) n lm ls e = absurd (omega arith)
    depth_steps (suc most) (suc steps) zero n lm ls e = rw ((seen ws sound n).found, e, no_parent) refl
    depth_steps (suc most) (suc steps) (suc k) n lm ls e =
        let u = sound.rooted.under (suc k) (omega arith) (within n (suc k) e) in
        rw ((seen ws sound n).found, e, u.1) (ap (λ d. d + 1) (depth_steps most steps u.0 (workspace_at ws (suc k)).parent (omega (arith, u.2))
        (omega (arith, u.2)) u.1))

    -- LIVE and those under it
    pub length_is : length ws ≡ suc (length (below_live ws))
    length_is = by ws sound.rooted.filled
      where
        by : (vs : List Workspace) → 0 < length vs → length vs ≡ suc (length (below_live vs))
        by [] h = absurd (omega arith)
        by (l ∷ vs) h = refl

    no_depth : (n : Name) (most : ℕ) → find ws n ≡ None → depth_within most (office_of schema book ws) n ≡ 0
    unfolding depth_within
    no_depth n zero e = refl
    no_depth n (suc most) e = rw ((seen ws sound n).found, e) refl

    pub depth_is : (n : Name) → depth (office_of schema book ws) n ≡ depth_at ws (find ws n)
    depth_is n = by (find ws n) refl
      where
        by : (r : Option ℕ) → find ws n ≡ r → depth (office_of schema book ws) n ≡ depth_at ws r
        by None e = no_depth n (length (below_live ws)) e
        by (Some at) e = let lt = within n at e in depth_steps (length (below_live ws)) at at n (omega (arith, length_is, lt)) (omega arith) e

pub name_law : NameLaw
name_law schema book ws sound n =
    let s = seen schema book ws sound n in
    record {
      live = s.live;
      workspace = s.found;
      stands = s.stands;
      content = s.content;
      kept = kept_is schema book ws sound n;
      depth = depth_is schema book ws
          sound n;
    }

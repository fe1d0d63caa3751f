-- With what the content of a kept workspace is compared after a command, and that it breaks no more.
use Rattle.std.proofs.Common.{◌≡◌, ◌∙◌, Bool, true, false, not, ◌||◌, cond, Some, None, refl, sym, ap, subst}
use Rattle.std.specs.Option.{option_map, option_map_or}
use Rattle.clr_rows.specs.Contents.{Content, no_rows, row_at}
use Rattle.clr_rules.specs.Needs.{BreaksNoMore, View}
use Rattle.clr_workspaces.specs.Marks.{Name, mark_last}
use Rattle.clr_workspaces.specs.Workspaces.{Workspace}
use Rattle.clr_workspaces.specs.Operations.{refresh, with_kept}
use Rattle.clr_steps.specs.declared.commands.Command.{Command}
use Rattle.clr_steps.specs.declared.commands.Command.TheVariants as command
use Rattle.clr_steps.specs.Effects.{after_refresh, effect, merged_content, set_kept}
use Rattle.clr_steps.specs.Laws.{ComparedLaw}
use Rattle.clr_steps.specs.Names.{is_live, same_name}
use Rattle.clr_steps.specs.Offices.{Office, content_of, find_name, is_kept, modify, workspace}
use Rattle.clr_steps.specs.Refusals.{above_or, broken_where, hold_breaks, refresh_breaks, refusal, refusals_of}
use Rattle.clr_steps.specs.Steps.{refused_or_done, step}
use Rattle.clr_steps.proofs.FindLemmas.{find_modify, found_name, same_is, same_itself, seen_by, seen_marks}
use Rattle.clr_steps.proofs.KeptLemmas.{Root, content_seen, kept_seen, root_of}
use Rattle.clr_steps.proofs.LiveLemmas.{none_there}
use Rattle.clr_steps.proofs.ModifyLemmas.{LeavesName}
use Rattle.clr_steps.proofs.NeedLemmas.{holds_in_none, no_more_if_none}
use Rattle.clr_steps.proofs.RuleLemmas.{IsClosed, PassesDown, each_none, have_law, unrefused}

same_rows : (o : Office) (view : View) → BreaksNoMore o.book view view
same_rows o view ask s t kept = kept

-- by what it had itself ------------------------------------------------------------------------------

-- what stands under a name breaks no more than the name's content
abbrev Own : Office → Name → View → Type 0
Own o n view = BreaksNoMore o.book (row_at (content_of o n)) view

closed_own : (o : Office) → IsClosed o.book (Own o)
closed_own o = record {
  passes = λ n before after more have ask s t kept. more ask s t (have ask s t kept);
  none = λ n ask s t kept need. holds_in_none o.book ask s t need;
}

own : (o : Office) (c : Command) (name : Name) → PassesDown (Own o) o c → is_kept (step o c).office name ≡ true
    → BreaksNoMore o.book (row_at (content_of o name)) (row_at (content_of (step o c).office name))
own o c name down kept = have_law (Own o) o (closed_own o) c down (λ n is. same_rows o (row_at (content_of o n))) name kept

-- a property that isn't asked of one name
abbrev Unless : Bool → Type 0 → Type 0
Unless true T = Unit {0}
Unless false T = T

unless : (b : Bool) (T : Type 0) → T → Unless b T
unless true T t = tt
unless false T t = t

unless_then : (b : Bool) (T U : Type 0) → (T → U) → Unless b T → Unless b U
unless_then true T U f t = tt
unless_then false T U f t = f t

-- the others, where the command is on one workspace
module _ (o : Office) (m : Name) where
  abbrev Others : Name → View → Type 0
  Others n view = Unless (same_name m n) (Own o n view)

  closed_others : IsClosed o.book Others
  closed_others = record {
    passes = λ n before after more. unless_then (same_name m n) (Own o n before) (Own o n after) ((closed_own o).passes n before after more);
    none = λ n. unless (same_name m n) (Own o n (row_at no_rows)) ((closed_own o).none n);
  }

  passes_down : (w : Workspace) (view : View) → workspace o m ≡ Some w → Others w.parent view → Others w.name view
  passes_down w view is held =
      let same : same_name m w.name ≡ true = ap (same_name m) (found_name o m w is) ∙ same_itself m in
      subst (λ b. Unless b (Own o w.name view)) (sym same) tt

  others : (c : Command) (name : Name) → PassesDown Others o c → is_kept (step o c).office name ≡ true
      → Others name (row_at (content_of (step o c).office name))
  others c name down kept = have_law Others o closed_others c down
      (λ n is. unless (same_name m n) (Own o n (row_at (content_of o n))) (same_rows o (row_at (content_of o n)))) name kept

-- the workspace itself ---------------------------------------------------------------------------------

module _ (o : Office) (n : Name) (w : Workspace) (is : workspace o n ≡ Some w) where
  found : (is_live n ≡ false) × (find_name n o.workspaces ≡ Some w)
  unfolding workspace
  found = by (is_live n) refl is
    where
      by : (b : Bool) → is_live n ≡ b → cond b None (find_name n o.workspaces) ≡ Some w → (is_live n ≡ false) × (find_name n o.workspaces ≡ Some w)
      by true e h = absurd (cc)
      by false e h = (e, h)

  seen_modified : (f : Workspace → Workspace) → LeavesName f → seen_by root_of n (modify w.name f o.workspaces) ≡ Some (root_of (f w))
  seen_modified f leaves =
      ap (λ k. seen_by root_of n (modify k f o.workspaces)) (found_name o n w is)
      ∙ ap (option_map root_of) (find_modify n f leaves o.workspaces ∙ ap (option_map f) found.1)

  content_by : (next : Office) (r : Root) → seen_by root_of n next.workspaces ≡ Some r → content_of next n ≡ r.current
  content_by next r e = content_seen next n ∙ ap (λ x. cond (is_live n) next.live (option_map_or (λ (r : Root). r.current) x no_rows)) e
      ∙ ap (λ b. cond b next.live r.current) found.0

  kept_by : (next : Office) (r : Root) → seen_by root_of n next.workspaces ≡ Some r → is_kept next n ≡ r.kept
  kept_by next r e = kept_seen next n ∙ ap (λ x. is_live n || option_map_or (λ (r : Root). r.kept) x false) e ∙ ap (λ b. b || r.kept) found.0

  seen_refreshed : seen_by root_of n (after_refresh o w).workspaces ≡ Some (root_of (refresh (content_of o w.parent) w))
  unfolding after_refresh
  seen_refreshed = seen_marks root_of n (λ v marks. refl) w.parent (mark_last w.name) (modify w.name (refresh (content_of o w.parent)) o.workspaces)
      ∙ seen_modified (refresh (content_of o w.parent)) (λ v. refl)

  seen_kept : seen_by root_of n (set_kept o w true).workspaces ≡ Some (root_of (with_kept true w))
  unfolding set_kept
  seen_kept = seen_modified (with_kept true) (λ v. refl)

  after_refreshing : refresh_breaks o w ≡ None → is_kept (after_refresh o w) n ≡ true
      → BreaksNoMore o.book (row_at (above_or o w w.current)) (row_at (content_of (after_refresh o w) n))
  unfolding refresh_breaks merged_content
  after_refreshing none kept =
      let flag : is_kept o w.name ≡ true = ap (is_kept o) (found_name o n w is) ∙ kept_by o (root_of w) (ap (option_map root_of) found.1)
      ∙ sym (kept_by (after_refresh o w) (root_of (refresh (content_of o w.parent) w)) seen_refreshed) ∙ kept in
      subst (λ (content : Content). BreaksNoMore o.book (row_at (above_or o w w.current)) (row_at content))
      (sym (content_by (after_refresh o w) (root_of (refresh (content_of o w.parent) w)) seen_refreshed))
      (no_more_if_none o.book (above_or o w w.current) (merged_content o w) (none_there o.book (above_or o w w.current) (merged_content o w)
      (sym (ap (λ b. broken_where b o.book (above_or o w w.current) (merged_content o w)) flag) ∙ none)))

  after_holding : hold_breaks o w ≡ None
      → BreaksNoMore o.book (row_at (cond w.kept w.current (above_or o w no_rows))) (row_at (content_of (set_kept o w true) n))
  unfolding hold_breaks
  after_holding none =
      subst (λ (content : Content). BreaksNoMore o.book (row_at (cond w.kept w.current (above_or o w no_rows))) (row_at content))
      (sym (content_by (set_kept o w true) (root_of (with_kept true w)) seen_kept)) (by w.kept none)
    where
      by : (b : Bool) → broken_where (not b) o.book (above_or o w no_rows) w.current ≡ None
          → BreaksNoMore o.book (row_at (cond b w.current (above_or o w no_rows))) (row_at w.current)
      by true free = same_rows o (row_at w.current)
      by false free = no_more_if_none o.book (above_or o w no_rows) w.current (none_there o.book (above_or o w no_rows) w.current free)

done_is : (o : Office) (c : Command) → refusal o c ≡ None → (step o c).office ≡ effect o c
unfolding step
done_is o c none = ap (λ r. (refused_or_done r o (effect o c)).office) none

refreshed : (o : Office) (n : Name) → refusal o (command.Refresh n) ≡ None → is_kept (step o (command.Refresh n)).office n ≡ true
    → BreaksNoMore o.book (row_at (option_map_or (λ w. above_or o w w.current) (workspace o n) no_rows)) (row_at (content_of (step o (command.Refresh n)).office n))
unfolding effect refusal refusals_of
refreshed o n none kept =
    let c = command.Refresh n in
    let u = unrefused o c none in
    let now : (step o c).office ≡ after_refresh o u.at = done_is o c none ∙ ap (λ r. option_map_or (after_refresh o) r o) u.is in
    let beside : option_map_or (λ w. above_or o w w.current) (workspace o n) no_rows ≡ above_or o u.at u.at.current
    = ap (λ r. option_map_or (λ (w : Workspace). above_or o w w.current) r no_rows) u.is in
    subst (λ (before : Content). BreaksNoMore o.book (row_at before) (row_at (content_of (step o c).office n))) (sym beside)
    (subst (λ (next : Office). BreaksNoMore o.book (row_at (above_or o u.at u.at.current)) (row_at (content_of next n))) (sym now)
    (after_refreshing o n u.at u.is (each_none (refusals_of o u.at c) u.free).1.0 (sym (ap (λ next. is_kept next n) now) ∙ kept)))

held : (o : Office) (n : Name) → refusal o (command.Hold n) ≡ None
    → BreaksNoMore o.book (row_at (option_map_or (λ w. cond w.kept w.current (above_or o w no_rows)) (workspace o n) no_rows))
    (row_at (content_of (step o (command.Hold n)).office n))
unfolding effect refusal refusals_of
held o n none =
    let c = command.Hold n in
    let u = unrefused o c none in
    let now : (step o c).office ≡ set_kept o u.at true = done_is o c none ∙ ap (λ r. option_map_or (λ w. set_kept o w true) r o) u.is in
    let beside : option_map_or (λ w. cond w.kept w.current (above_or o w no_rows)) (workspace o n) no_rows
    ≡ cond u.at.kept u.at.current (above_or o u.at no_rows)
    = ap (λ r. option_map_or (λ (w : Workspace). cond w.kept w.current (above_or o w no_rows)) r no_rows) u.is in
    subst (λ (before : Content). BreaksNoMore o.book (row_at before) (row_at (content_of (step o c).office n))) (sym beside)
    (subst (λ (next : Office). BreaksNoMore o.book (row_at (cond u.at.kept u.at.current (above_or o u.at no_rows))) (row_at (content_of next n))) (sym now)
    (after_holding o n u.at u.is (each_none (refusals_of o u.at c) u.free).0))

-- a command on one workspace, and whichever name
on_name : (o : Office) (m name : Name) (beside after : Content) → (same_name m name ≡ true → m ≡ name → BreaksNoMore o.book (row_at beside) (row_at after))
    → Unless (same_name m name) (BreaksNoMore o.book (row_at (content_of o name)) (row_at after))
    → BreaksNoMore o.book (row_at (cond (same_name m name) beside (content_of o name))) (row_at after)
on_name o m name beside after itself other = by (same_name m name) refl other
  where
    by : (b : Bool) → same_name m name ≡ b → Unless b (BreaksNoMore o.book (row_at (content_of o name)) (row_at after))
        → BreaksNoMore o.book (row_at (cond b beside (content_of o name))) (row_at after)
    by true e h = itself e (same_is m name e)
    by false e h = h

pub compared_law : ComparedLaw
compared_law o (command.Refresh n) name none kept =
    let c = command.Refresh n in
    on_name o n name (option_map_or (λ w. above_or o w w.current) (workspace o name) no_rows) (content_of (step o c).office name)
    (λ e one. subst (λ (k : Name). BreaksNoMore o.book (row_at (option_map_or (λ w. above_or o w w.current) (workspace o k) no_rows))
    (row_at (content_of (step o c).office k))) one (refreshed o n none (ap (is_kept (step o c).office) one ∙ kept)))
    (others o n c name (passes_down o n) kept)
compared_law o (command.Hold n) name none kept =
    let c = command.Hold n in
    on_name o n name (option_map_or (λ w. cond w.kept w.current (above_or o w no_rows)) (workspace o name) no_rows) (content_of (step o c).office name)
    (λ e one. subst (λ (k : Name). BreaksNoMore o.book (row_at (option_map_or (λ w. cond w.kept w.current (above_or o w no_rows)) (workspace o k) no_rows))
    (row_at (content_of (step o c).office k))) one (held o n none))
    (others o n c name (passes_down o n) kept)
compared_law o (command.Create n p) name none kept = own o (command.Create n p) name tt kept
compared_law o (command.Apply n edits) name none kept = own o (command.Apply n edits) name tt kept
compared_law o (command.Remove n) name none kept = own o (command.Remove n) name tt kept
compared_law o (command.Mark n s) name none kept = own o (command.Mark n s) name tt kept
compared_law o (command.Unmark n s) name none kept = own o (command.Unmark n s) name tt kept
compared_law o (command.RollTo n s) name none kept = own o (command.RollTo n s) name tt kept
compared_law o (command.RollAll n) name none kept = own o (command.RollAll n) name tt kept
compared_law o (command.Merge n gone) name none kept = own o (command.Merge n gone) name tt kept
compared_law o (command.Resolve n cell keep) name none kept = own o (command.Resolve n cell keep) name tt kept
compared_law o (command.Release n) name none kept = own o (command.Release n) name tt kept

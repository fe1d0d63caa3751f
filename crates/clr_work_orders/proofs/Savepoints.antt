-- A savepoint is set, the content changes, it is rolled back to, and goes: the office is as before.
use Rattle.std.proofs.Common.{◌≡◌, ℕ, zero, suc, Bool, true, false, not, cond, List, [], ◌∷◌, ◌++◌, length, take, drop, Option, Some, None, refl, sym, ap, ◌∙◌}
use Rattle.std.proofs.Common.{slice_index_or, append-nil}
use Rattle.std.specs.Prelude.{position, filter, is_some}
use Rattle.std.specs.Option.{option_map, option_map_or}
use Rattle.std.proofs.lemmas.Bool.{true≢false}
use Rattle.clr_rows.specs.Contents.{Content}
use Rattle.clr_change.specs.declared.edits.Edit.{Edit}
use Rattle.clr_workspaces.specs.Marks.{Mark, Name, Saved, find_mark, is_saved_as, mark_at, saved_content, without_saved}
use Rattle.clr_workspaces.specs.Workspaces.{Workspace, find, live_workspace, workspace_at}
use Rattle.clr_workspaces.specs.Operations.{roll_to, save, with_current, with_marks}
use Rattle.clr_workspaces.specs.Soundness.{IsSound}
use Rattle.clr_steps.specs.declared.commands.Command.{Command}
use Rattle.clr_steps.specs.declared.commands.Command.TheVariants as command
use Rattle.clr_steps.specs.declared.commands.Reply.{Reply}
use Rattle.clr_steps.specs.declared.commands.Reply.TheVariants.{Done, BadName, LiveIsFixed, NameTaken, NoWorkspace, RuleBroken, TooMany}
use Rattle.clr_steps.specs.Names.{is_live, same_name}
use Rattle.clr_steps.specs.Offices.{Office, content_of, find_name, modify, set_content, stands, with_workspaces, workspace}
use Rattle.clr_steps.specs.Positions.{below_top}
use Rattle.clr_steps.specs.Effects.{after_apply, after_mark, after_roll_to, after_unmark, edited_content, effect}
use Rattle.clr_steps.specs.Refusals.{bad_edit, breaks, broken_where, edit_refusal, first_newly_broken, first_of, refusal, refusals_of, when}
use Rattle.clr_steps.specs.Steps.{answer, refused_or_done, step}
use Rattle.clr_steps.proofs.FirstLemmas.{IsOnly, position_here, position_later}
use Rattle.clr_steps.proofs.ModifyLemmas.{LeavesName, has_name, modify_none}
use Rattle.clr_steps.proofs.FindLemmas.{find_modify, found_name, same_itself}
use Rattle.clr_steps.proofs.SeenLemmas.{only_at, seen}

-- one workspace of a name ----------------------------------------------------------------------

-- a modification that leaves the one workspace of the name leaves all
modify_own : (n : Name) (f : Workspace → Workspace) (ws : List Workspace) (k : ℕ)
    → IsOnly (has_name n) ws k → f (workspace_at ws k) ≡ workspace_at ws k → modify n f ws ≡ ws
unfolding same_name
modify_own n f [] k h e = absurd h
modify_own n f (w ∷ ws) zero h e = rw h.0 (ap (λ vs. f w ∷ vs) (modify_none n f ws h.1) ∙ ap (λ v. v ∷ ws) e)
modify_own n f (w ∷ ws) (suc k) h e = rw h.0 (ap (λ vs. w ∷ vs) (modify_own n f ws k h.1 e))

-- two modifications under one name are one
modify_again : (n : Name) (f g : Workspace → Workspace) → LeavesName f → (ws : List Workspace)
    → modify n g (modify n f ws) ≡ modify n (λ v. g (f v)) ws
modify_again n f g leaves [] = refl
modify_again n f g leaves (w ∷ ws) = by (same_name n w.name) refl (modify_again n f g leaves ws)
  where
    by : (b : Bool) → same_name n w.name ≡ b → modify n g (modify n f ws) ≡ modify n (λ v. g (f v)) ws
        → cond (same_name n (cond b (f w) w).name) (g (cond b (f w) w)) (cond b (f w) w) ∷ modify n g (modify n f ws) ≡ cond b (g (f w)) w ∷ modify n (λ v. g
        (f v)) ws
    by true e rest = let here : same_name n (f w).name ≡ true = ap (same_name n) (leaves w) ∙ e in rw here (ap (λ vs. g (f w) ∷ vs) rest)
    by false e rest = rw e (ap (λ vs. w ∷ vs) rest)

-- a content that stays is no modification
modify_same : (n : Name) (ws : List Workspace) → modify n (λ v. with_current v.current v) ws ≡ ws
modify_same n [] = refl
modify_same n (w ∷ ws) = ap (λ v. v ∷ modify n (λ u. with_current u.current u) ws) (by (same_name n w.name)) ∙ ap (λ vs. w ∷ vs) (modify_same n ws)
  where
    by : (b : Bool) → cond b (with_current w.current w) w ≡ w
    by true = refl
    by false = refl

-- where it stands, and that it is the only one
pub record Stands (o : Office) (n : Name) (w : Workspace) : Type 0 where
  pub at : ℕ
  pub only : IsOnly (has_name n) o.workspaces at
  pub is : workspace_at o.workspaces at ≡ w

stands_alone : (o : Office) → IsSound (live_workspace o.live ∷ o.workspaces) → (n : Name) (w : Workspace) → workspace o n ≡ Some w → Stands o n w
stands_alone o sound n w e = by (find all n) refl (sym (seen o.schema o.book all sound n).found ∙ e)
  where
    all : List Workspace
    all = live_workspace o.live ∷ o.workspaces

    by : (r : Option ℕ) → find all n ≡ r → below_top all r ≡ Some w → Stands o n w
    by None f h = absurd (cc)
    by (Some zero) f h = absurd (cc)
    by (Some (suc k)) f h =
        let one : workspace_at all (suc k) ≡ w = cc in
        record { at = k; only = (only_at o.schema o.book all sound n (suc k) f).1; is = one }

-- a savepoint at the end of the marks ------------------------------------------------------------

module _ {X : Type 0} (p : X → Bool) (x : X) (passes : p x ≡ true) where
  none_later : (r : Option ℕ) → option_map suc r ≡ None → r ≡ None
  none_later None e = refl
  none_later (Some k) e = absurd (cc)

  passed : (y : X) (xs : List X) → position p (y ∷ xs) ≡ None → (p y ≡ false) × (position p xs ≡ None)
  passed y xs e = by (p y) refl
    where
      by : (b : Bool) → p y ≡ b → (p y ≡ false) × (position p xs ≡ None)
      by true h = absurd (let both : Some 0 ≡ None = sym (position_here p y xs h) ∙ e in cc)
      by false h = (h, none_later (position p xs) (sym (position_later p y xs h) ∙ e))

  pub found_last : (xs : List X) → position p xs ≡ None → position p (xs ++ x ∷ []) ≡ Some (length xs)
  found_last [] e = position_here p x [] passes
  found_last (y ∷ xs) e = let (other, rest) = passed y xs e in position_later p y (xs ++ x ∷ []) other ∙ ap (option_map suc) (found_last xs rest)

  pub others : (xs : List X) → position p xs ≡ None → filter (λ y. not (p y)) (xs ++ x ∷ []) ≡ xs
  others [] e = rw passes refl
  others (y ∷ xs) e = let (other, rest) = passed y xs e in rw other (ap (λ ys. y ∷ ys) (others xs rest))

module _ {X : Type 0} (x : X) where
  at_last : (d : X) (xs : List X) → slice_index_or (xs ++ x ∷ []) (length xs) d ≡ x
  at_last d [] = refl
  at_last d (y ∷ xs) = at_last d xs

  take_last : (xs : List X) → take (suc (length xs)) (xs ++ x ∷ []) ≡ xs ++ x ∷ []
  take_last [] = refl
  take_last (y ∷ xs) = ap (λ ys. y ∷ ys) (take_last xs)

  drop_last : (xs : List X) → drop (suc (length xs)) (xs ++ x ∷ []) ≡ []
  drop_last [] = refl
  drop_last (y ∷ xs) = drop_last xs

-- all marks but the savepoint
abbrev without_savepoint : Name → List Mark → List Mark
without_savepoint s = filter (λ m. not (is_saved_as s m))

-- a workspace is saved, its content becomes another one, it is set back, and the savepoint goes
abbrev there_and_back : Name → (Workspace → Content) → ℕ → Workspace → Workspace
there_and_back s d i w = with_marks (without_savepoint s) (roll_to i (with_current (d (save s w)) (save s w)))

saved_as_itself : (s : Name) (content : Content) → is_saved_as s (Saved s content) ≡ true
unfolding same_name
saved_as_itself s content = same_itself s

back : (s : Name) (d : Workspace → Content) (w : Workspace) → find_mark w.marks s ≡ None → there_and_back s d (length w.marks) w ≡ w
back s d w none =
    let x = Saved s w.current in
    let ms = w.marks ++ x ∷ [] in
    let i = length w.marks in
    let content : saved_content (mark_at ms i) ≡ w.current = ap saved_content (at_last x _ w.marks) in
    let kept : take (suc i) ms ++ without_saved (drop (suc i) ms) ≡ ms =
    ap (λ (vs : List Mark). vs ++ without_saved (drop (suc i) ms)) (take_last x w.marks)
    ∙ ap (λ (vs : List Mark). ms ++ without_saved vs) (drop_last x w.marks) ∙ append-nil ms in
    let marks : without_savepoint s (take (suc i) ms ++ without_saved (drop (suc i) ms)) ≡ w.marks =
    ap (without_savepoint s) kept ∙ others (is_saved_as s) x (saved_as_itself s w.current) w.marks none in
    ap (λ (c : Content). record w { current = c; marks = without_savepoint s (take (suc i) ms ++ without_saved (drop (suc i) ms)) }) content
    ∙ ap (λ (vs : List Mark). record w { marks = vs }) marks

-- commands that are done -----------------------------------------------------------------------------

abbrev is_done : Reply → Bool
is_done Done = true
is_done _ = false

abbrev IsNotDone : Option Reply → Type 0
IsNotDone None = Unit {0}
IsNotDone (Some reply) = is_done reply ≡ false

of_when : (test : Bool) (reply : Reply) → is_done reply ≡ false → IsNotDone (when test reply)
of_when true reply e = e
of_when false reply e = tt

abbrev AreNotDone : List (Option Reply) → Type 0
AreNotDone [] = Unit {0}
AreNotDone (r ∷ rs) = IsNotDone r × AreNotDone rs

of_first : (rs : List (Option Reply)) → AreNotDone rs → IsNotDone (first_of rs)
of_first [] h = tt
of_first (None ∷ rs) h = of_first rs h.1
of_first (Some reply ∷ rs) h = h.0

of_map : {A : Type 0} (f : A → Reply) → ((a : A) → is_done (f a) ≡ false) → (r : Option A) → IsNotDone (option_map f r)
of_map f h None = tt
of_map f h (Some a) = h a

of_breaks : (o : Office) (n : Name) (content : Content) → IsNotDone (breaks o n content)
unfolding breaks
of_breaks o n content = by _
  where
    by : (b : Bool) → IsNotDone (broken_where b o.book (content_of o n) content)
    by true = of_map RuleBroken (λ b. refl) (first_newly_broken o.book (content_of o n) content)
    by false = tt

of_edits : (o : Office) (n : Name) (edits : List Edit) → IsNotDone (edit_refusal o n edits)
unfolding edit_refusal
of_edits o n edits = of_map bad_edit (λ e. refl) _

of_mark : (o : Office) (w : Workspace) (n s : Name) → AreNotDone (refusals_of o w (command.Mark n s))
unfolding refusals_of
of_mark o w n s = (of_when _ _ refl, (of_when _ _ refl, (of_when _ _ refl, tt)))

of_unmark : (o : Office) (w : Workspace) (n s : Name) → AreNotDone (refusals_of o w (command.Unmark n s))
unfolding refusals_of
of_unmark o w n s = (of_when _ _ refl, tt)

of_roll : (o : Office) (w : Workspace) (n s : Name) → AreNotDone (refusals_of o w (command.RollTo n s))
unfolding refusals_of
of_roll o w n s = (of_when _ _ refl, (of_when _ _ refl, (of_breaks o _ _, tt)))

below : (o : Office) (c : Command) → ((w : Workspace) → AreNotDone (refusals_of o w c)) → (b : Bool) (r : Option Workspace)
    → IsNotDone (cond b (Some LiveIsFixed) (option_map_or (λ w. first_of (refusals_of o w c)) r (Some NoWorkspace)))
below o c h true r = refl
below o c h false None = refl
below o c h false (Some w) = of_first (refusals_of o w c) (h w)

mark_not_done : (o : Office) (n s : Name) → IsNotDone (refusal o (command.Mark n s))
unfolding refusal
mark_not_done o n s = below o (command.Mark n s) (λ w. of_mark o w n s) (is_live n) (workspace o n)

unmark_not_done : (o : Office) (n s : Name) → IsNotDone (refusal o (command.Unmark n s))
unfolding refusal
unmark_not_done o n s = below o (command.Unmark n s) (λ w. of_unmark o w n s) (is_live n) (workspace o n)

roll_not_done : (o : Office) (n s : Name) → IsNotDone (refusal o (command.RollTo n s))
unfolding refusal
roll_not_done o n s = below o (command.RollTo n s) (λ w. of_roll o w n s) (is_live n) (workspace o n)

apply_not_done : (o : Office) (n : Name) (edits : List Edit) → IsNotDone (refusal o (command.Apply n edits))
unfolding refusal
apply_not_done o n edits =
    of_first (when (not (stands o n)) NoWorkspace ∷ edit_refusal o n edits ∷ breaks o n (edited_content o n edits) ∷ [])
    (of_when _ _ refl, (of_edits o n edits, (of_breaks o n _, tt)))

done_is : (o : Office) (c : Command) (next : Office) → IsNotDone (refusal o c) → step o c ≡ answer Done next → (refusal o c ≡ None) × (next ≡ effect o c)
unfolding step
done_is o c next h e = by (refusal o c) h e
  where
    by : (r : Option Reply) → IsNotDone r → refused_or_done r o (effect o c) ≡ answer Done next → (r ≡ None) × (next ≡ effect o c)
    by None h e = (refl, sym (ap (λ a. a.office) e))
    by (Some reply) h e = absurd (true≢false (sym (ap (λ a. is_done a.reply) e) ∙ h))

-- four commands --------------------------------------------------------------------------------------

pub record IsMarked (o : Office) (n s : Name) (next : Office) : Type 0 where
  pub w : Workspace
  pub found : workspace o n ≡ Some w
  pub below : is_live n ≡ false
  pub free : find_mark w.marks s ≡ None
  pub left : next ≡ with_workspaces o (modify n (save s) o.workspaces)

no_mark : (good : Bool) (r : Option ℕ) (full : Bool) → first_of (when good BadName ∷ when (is_some r) NameTaken ∷ when full TooMany ∷ []) ≡ None → r ≡ None
no_mark true r full e = absurd (cc)
no_mark false None full e = refl
no_mark false (Some i) full e = absurd (cc)

-- a workspace under LIVE is found in the list
pub listed : (o : Office) (n : Name) → is_live n ≡ false → workspace o n ≡ find_name n o.workspaces
unfolding workspace
listed o n e = rw e refl

marked : (o : Office) (n s : Name) (next : Office) → step o (command.Mark n s) ≡ answer Done next → IsMarked o n s next
unfolding refusal refusals_of effect after_mark
marked o n s next e = let (free, left) = done_is o (command.Mark n s) next (mark_not_done o n s) e in by (is_live n) refl (workspace o n) refl free left
  where
    by : (b : Bool) → is_live n ≡ b → (r : Option Workspace) → workspace o n ≡ r
        → cond b (Some LiveIsFixed) (option_map_or (λ w. first_of (refusals_of o w (command.Mark n s))) r (Some NoWorkspace)) ≡ None
        → next ≡ option_map_or (λ w. after_mark o w s) r o → IsMarked o n s next
    by true live r is free left = absurd (cc)
    by false live None is free left = absurd (cc)
    by false live (Some w) is free left = record {
      w = w;
      found = is;
      below = live;
      free = no_mark _ _ _ free;
      left = left ∙ ap (λ (m : Name). with_workspaces o (modify m (save s) o.workspaces)) (found_name o n w is);
    }

applied : (o : Office) (n : Name) (edits : List Edit) (next : Office) → is_live n ≡ false → step o (command.Apply n edits) ≡ answer Done next
    → next ≡ with_workspaces o (modify n (with_current (edited_content o n edits)) o.workspaces)
unfolding effect after_apply set_content
applied o n edits next live e = (done_is o (command.Apply n edits) next (apply_not_done o n edits) e).1
    ∙ ap (λ (b : Bool). cond b (record o { live = edited_content o n edits }) (with_workspaces o (modify n (with_current (edited_content o n edits))
    o.workspaces))) live

rolled : (o : Office) (n s : Name) (i : ℕ) (v : Workspace) (next : Office) → is_live n ≡ false → find_name n o.workspaces ≡ Some v → find_mark v.marks s ≡
    Some i
    → step o (command.RollTo n s) ≡ answer Done next → next ≡ with_workspaces o (modify n (roll_to i) o.workspaces)
unfolding effect after_roll_to
rolled o n s i v next live found at e =
    let is : workspace o n ≡ Some v = listed o n live ∙ found in
    (done_is o (command.RollTo n s) next (roll_not_done o n s) e).1
    ∙ ap (λ (r : Option Workspace). option_map_or (λ w. after_roll_to o w s) r o) is
    ∙ ap (λ (r : Option ℕ). option_map_or (λ i. with_workspaces o (modify v.name (roll_to i) o.workspaces)) r o) at
    ∙ ap (λ (m : Name). with_workspaces o (modify m (roll_to i) o.workspaces)) (found_name o n v is)

unmarked : (o : Office) (n s : Name) (v : Workspace) (next : Office) → is_live n ≡ false → find_name n o.workspaces ≡ Some v
    → step o (command.Unmark n s) ≡ answer Done next → next ≡ with_workspaces o (modify n (with_marks (without_savepoint s)) o.workspaces)
unfolding effect after_unmark
unmarked o n s v next live found e =
    let is : workspace o n ≡ Some v = listed o n live ∙ found in
    (done_is o (command.Unmark n s) next (unmark_not_done o n s) e).1
    ∙ ap (λ (r : Option Workspace). option_map_or (λ w. after_unmark o w s) r o) is
    ∙ ap (λ (m : Name). with_workspaces o (modify m (with_marks (without_savepoint s)) o.workspaces)) (found_name o n v is)

-- the whole --------------------------------------------------------------------------------------------

-- between the savepoint and the way back an edit was made, or none
pub data IsBetween (n : Name) (saved next : Office) : Type 0 where
  edited : (edits : List Edit) → step saved (command.Apply n edits) ≡ answer Done next → IsBetween n saved next
  same : next ≡ saved → IsBetween n saved next

pub record IsModified (n : Name) (saved next : Office) : Type 0 where
  pub content : Workspace → Content
  pub left : next ≡ with_workspaces saved (modify n (λ v. with_current (content v) v) saved.workspaces)

modified : (n : Name) (saved next : Office) → is_live n ≡ false → IsBetween n saved next → IsModified n saved next
modified n saved next live (edited edits e) = record { content = λ v. edited_content saved n edits; left = applied saved n edits next live e }
modified n saved next live (same e) =
    record { content = λ v. v.current; left = e ∙ ap (with_workspaces saved) (sym (modify_same n saved.workspaces)) }

pub as_before : (o : Office) → IsSound (live_workspace o.live ∷ o.workspaces) → (n s : Name) (saved there rolled_back left : Office)
    → step o (command.Mark n s) ≡ answer Done saved → IsBetween n saved there
    → step there (command.RollTo n s) ≡ answer Done rolled_back → step rolled_back (command.Unmark n s) ≡ answer Done left → left ≡ o
as_before o sound n s saved there rolled_back left mark between roll unmark =
    let m = marked o n s saved mark in
    let d = modified n saved there m.below between in
    let w = m.w in
    let i = length w.marks in
    let g = λ (v : Workspace). with_current (d.content v) v in
    let alone = stands_alone o sound n w m.found in
    let first : find_name n saved.workspaces ≡ Some (save s w) =
    ap (λ (x : Office). find_name n x.workspaces) m.left ∙ find_modify n (save s) (λ v. refl) o.workspaces
    ∙ ap (option_map (save s)) (sym (listed o n m.below) ∙ m.found) in
    let second : find_name n there.workspaces ≡ Some (g (save s w)) =
    ap (λ (x : Office). find_name n x.workspaces) d.left ∙ find_modify n g (λ v. refl) saved.workspaces ∙ ap (option_map g) first in
    let at : find_mark (g (save s w)).marks s ≡ Some i = found_last (is_saved_as s) (Saved s w.current) (saved_as_itself s w.current) w.marks m.free in
    let back_is = rolled there n s i (g (save s w)) rolled_back m.below second at roll in
    let third : find_name n rolled_back.workspaces ≡ Some (roll_to i (g (save s w))) =
    ap (λ (x : Office). find_name n x.workspaces) back_is ∙ find_modify n (roll_to i) (λ v. refl) there.workspaces ∙ ap (option_map (roll_to i)) second in
    let last = unmarked rolled_back n s (roll_to i (g (save s w))) left m.below third unmark in
    let all : modify n (with_marks (without_savepoint s)) (modify n (roll_to i) (modify n g (modify n (save s) o.workspaces))) ≡ o.workspaces =
    modify_again n (roll_to i) (with_marks (without_savepoint s)) (λ v. refl) (modify n g (modify n (save s) o.workspaces))
    ∙ modify_again n g (λ v. with_marks (without_savepoint s) (roll_to i v)) (λ v. refl) (modify n (save s) o.workspaces)
    ∙ modify_again n (save s) (λ v. with_marks (without_savepoint s) (roll_to i (g v))) (λ v. refl) o.workspaces
    ∙ modify_own n (there_and_back s d.content i) o.workspaces alone.at alone.only
    (ap (there_and_back s d.content i) alone.is ∙ back s d.content w m.free ∙ sym alone.is) in
    last
    ∙ ap (λ (x : Office). with_workspaces x (modify n (with_marks (without_savepoint s)) x.workspaces)) back_is
    ∙ ap (λ (x : Office). with_workspaces x (modify n (with_marks (without_savepoint s)) (modify n (roll_to i) x.workspaces))) d.left
    ∙ ap (λ (x : Office). with_workspaces x (modify n (with_marks (without_savepoint s)) (modify n (roll_to i) (modify n g x.workspaces)))) m.left
    ∙ ap (with_workspaces o) all

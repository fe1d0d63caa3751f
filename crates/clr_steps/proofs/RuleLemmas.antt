-- What steps keep of the contents that are kept: each property that passes to contents in which no more is broken. So every rule goes on holding where it
-- is to hold, and no need is broken in a kept content that wasn't broken in one before.
use Rattle.std.proofs.Common.{◌≡◌, Bool, true, false, not, ◌||◌, cond, List, [], ◌∷◌, ◌++◌, refl, sym, ap, ◌∙◌, subst, Option, Some, None}
use Rattle.std.specs.Option.{option_map, option_map_or}
use Rattle.std.proofs.lemmas.Bool.{false≢true}
use Rattle.clr_rows.specs.Contents.{Content, row_at, no_rows}
use Rattle.clr_rows.specs.Names.{live_name}
use Rattle.clr_rules.specs.declared.needs.Broken.{Broken}
use Rattle.clr_rules.specs.declared.rules.Rule.{Rule}
use Rattle.clr_rules.specs.Needs.{BreaksNoMore, Holds, View}
use Rattle.clr_steps.specs.declared.commands.Command.{Command}
use Rattle.clr_steps.specs.declared.commands.Command.TheVariants as command
use Rattle.clr_steps.specs.declared.commands.Reply.{Reply}
use Rattle.clr_steps.specs.declared.commands.Reply.TheVariants.{LiveIsFixed, NoWorkspace, RuleBroken}
use Rattle.clr_workspaces.specs.declared.rebases.Keep.TheVariants as keeps
use Rattle.clr_workspaces.specs.Marks.{Name, Mark, find_mark, mark_at, saved_content}
use Rattle.clr_workspaces.specs.Workspaces.{Workspace}
use Rattle.clr_workspaces.specs.Operations.{with_mark_of, new_leaf, with_current, with_kept, save, roll_to, roll_all, refresh, with_base_merged, keep_row}
use Rattle.clr_steps.specs.Names.{same_name, is_live}
use Rattle.clr_steps.specs.Offices.{Office, current_of, with_workspaces, find_name, workspace, stands, content_of, is_kept, set_content, modify, modify_marks, without}
use Rattle.clr_steps.specs.Effects.{edited_content, rolled_content, merged_content, resolved_content, after_create, after_remove, after_apply, after_mark}
use Rattle.clr_steps.specs.Effects.{after_unmark, after_roll_to, after_roll_all, after_refresh, after_merge, after_resolve, set_kept, effect}
use Rattle.clr_steps.specs.Refusals.{when, first_of, edit_refusal, first_newly_broken, above_or, broken_where, breaks, hold_breaks, refresh_breaks, name_in, refusals_of, refusal_on, refusal}
use Rattle.clr_steps.specs.Steps.{refused_or_done, step}
use Rattle.clr_steps.specs.Laws.{BreaksNoMoreThanKept, KeptLaw, RulesLaw}
use Rattle.clr_steps.proofs.FindLemmas.{same_is, seen_by, seen_modify, seen_other, seen_marks, seen_without, find_modify, find_without, found_name}
use Rattle.clr_steps.proofs.NeedLemmas.{holds_in_none, no_more_if_none}
use Rattle.clr_steps.proofs.SchemaLemmas.{schema_law}
use Rattle.clr_steps.proofs.KeptLemmas.{Root, root_of, content_seen, kept_seen, or_false}
use Rattle.clr_steps.proofs.ModifyLemmas.{LeavesName}

-- a property of what stands under a name passes to rows that break no more, and no rows have it
pub record IsClosed (book : List Rule) (P : Name → View → Type 0) : Type 0 where
  pub passes : (n : Name) (before after : View) → BreaksNoMore book before after → P n before → P n after
  pub none : (n : Name) → P n (row_at no_rows)

-- a refresh and hold of a workspace take the property over from its parent
abbrev pub PassesDown : (Name → View → Type 0) → Office → Command → Type 0
PassesDown P o (command.Refresh n) = (w : Workspace) (view : View) → workspace o n ≡ Some w → P w.parent view → P w.name view
PassesDown P o (command.Hold n) = (w : Workspace) (view : View) → workspace o n ≡ Some w → P w.parent view → P w.name view
PassesDown P o _ = Unit {0}

-- where what is found is kept, it has the property
abbrev IsGood : (View → Type 0) → Option Root → Type 0
IsGood P None = Unit {0}
IsGood P (Some r) = r.kept ≡ true → P (row_at r.current)

record Good (P : Name → View → Type 0) (o : Office) : Type 0 where
  live : P live_name (row_at o.live)
  below : (n : Name) → is_live n ≡ false → IsGood (P n) (seen_by root_of n o.workspaces)

-- each kept content has the property
abbrev pub HaveWhereKept : (Name → View → Type 0) → Office → Type 0
HaveWhereKept P o = (name : Name) → is_kept o name ≡ true → P name (row_at (content_of o name))

good_of : (P : Name → View → Type 0) (o : Office) → HaveWhereKept P o → Good P o
unfolding is_live
good_of P o h = record {
  live = subst (λ c. P live_name (row_at c)) (content_seen o live_name) (h live_name (kept_seen o live_name));
  below = λ n e. by n e (seen_by root_of n o.workspaces) refl;
}
  where
    by : (n : Name) → is_live n ≡ false → (r : Option Root) → seen_by root_of n o.workspaces ≡ r → IsGood (P n) r
    by n e None is = tt
    by n e (Some r) is = λ kept.
        let flag : is_kept o n ≡ true = kept_seen o n ∙ ap (λ x. is_live n || option_map_or (λ (r : Root). r.kept) x false) is ∙ ap (λ b. b || r.kept) e
        ∙ kept in
        let content : content_of o n ≡ r.current = content_seen o n ∙ ap (λ x. cond (is_live n) o.live (option_map_or (λ (r : Root). r.current) x no_rows)) is
        ∙ ap (λ b. cond b o.live r.current) e in
        subst (λ c. P n (row_at c)) content (h n flag)

live_is : (n : Name) → is_live n ≡ true → live_name ≡ n
unfolding is_live same_name
live_is n e = sym (same_is n live_name e)

holds_of : (P : Name → View → Type 0) (o : Office) → Good P o → HaveWhereKept P o
holds_of P o g n flag = subst (λ c. P n (row_at c)) (sym (content_seen o n)) (by (is_live n) refl (seen_by root_of n o.workspaces) (g.below n)
    (sym (kept_seen o n) ∙ flag))
  where
    by : (b : Bool) → is_live n ≡ b → (r : Option Root) → (is_live n ≡ false → IsGood (P n) r) → (is_live n || option_map_or (λ (r : Root). r.kept) r false)
        ≡ true
        → P n (row_at (cond b o.live (option_map_or (λ (r : Root). r.current) r no_rows)))
    by true e r good h = subst (λ k. P k (row_at o.live)) (live_is n e) g.live
    by false e None good h = absurd (false≢true (or_false (is_live n) false h e))
    by false e (Some r) good h = good e (or_false (is_live n) r.kept h e)

-- where a content isn't refused ------------------------------------------------------------------------------

holds_where : (P : Name → View → Type 0) (n : Name) (kept : Bool) (book : List Rule) → IsClosed book P → (before content : Content)
    → (kept ≡ true → P n (row_at before)) → broken_where kept book before content ≡ None → kept ≡ true → P n (row_at content)
holds_where P n false book closed before content held none is = absurd (false≢true is)
holds_where P n true book closed before content held none is =
    closed.passes n (row_at before) (row_at content)
    (no_more_if_none book before content (by (first_newly_broken book before content) none)) (held refl)
  where
    by : (r : Option Broken) → option_map RuleBroken r ≡ None → r ≡ None
    by None e = refl
    by (Some b) e = absurd (cc)

abbrev EachNone : List (Option Reply) → Type 0
EachNone [] = Unit {0}
EachNone (r ∷ rs) = (r ≡ None) × EachNone rs

pub each_none : (rs : List (Option Reply)) → first_of rs ≡ None → EachNone rs
each_none [] e = tt
each_none (None ∷ rs) e = (refl, each_none rs e)
each_none (Some reply ∷ rs) e = absurd (cc)

-- a command on a workspace that isn't refused
pub record IsUnrefused (o : Office) (c : Command) : Type 0 where
  pub at : Workspace
  pub is : workspace o (name_in c) ≡ Some at
  pub free : first_of (refusals_of o at c) ≡ None

pub unrefused : (o : Office) (c : Command) → refusal_on o c ≡ None → IsUnrefused o c
unrefused o c e = by (is_live (name_in c)) (workspace o (name_in c)) refl e
  where
    by : (b : Bool) (r : Option Workspace) → workspace o (name_in c) ≡ r
        → cond b (Some LiveIsFixed) (option_map_or (λ w. first_of (refusals_of o w c)) r (Some NoWorkspace)) ≡ None → IsUnrefused o c
    by true r is e = absurd (cc)
    by false None is e = absurd (cc)
    by false (Some w) is e = record { at = w; is = is; free = e }

-- parts of effects -----------------------------------------------------------------------------------------------

module _ (P : Name → View → Type 0) (o : Office) (g : Good P o) where
  same_seen : (ws : List Workspace) → ((n : Name) → seen_by root_of n ws ≡ seen_by root_of n o.workspaces) → Good P (with_workspaces o ws)
  same_seen ws same = record { live = g.live; below = λ n e. subst (IsGood (P n)) (sym (same n)) (g.below n e) }

  good_marks : (m : Name) (f : List Mark → List Mark) → Good P (with_workspaces o (modify_marks m f o.workspaces))
  good_marks m f = same_seen (modify_marks m f o.workspaces) (λ n. seen_marks root_of n (λ w marks. refl) m f o.workspaces)

  -- a modification after which what is found under the name is good
  good_modify : (m : Name) (f : Workspace → Workspace) → LeavesName f → ((v : Workspace) → is_live m ≡ false → find_name m o.workspaces ≡ Some v
      → IsGood (P m) (Some (root_of (f v)))) → Good P (with_workspaces o (modify m f o.workspaces))
  good_modify m f leaves good = record { live = g.live; below = λ n e. by n e (same_name m n) refl }
    where
      found : is_live m ≡ false → (r : Option Workspace) → find_name m o.workspaces ≡ r → IsGood (P m) (option_map root_of (option_map f r))
      found e None is = tt
      found e (Some v) is = good v e is

      by : (n : Name) → is_live n ≡ false → (b : Bool) → same_name m n ≡ b → IsGood (P n) (seen_by root_of n (modify m f o.workspaces))
      by n e true same =
          let one = same_is m n same in
          subst (λ k. IsGood (P k) (seen_by root_of k (modify m f o.workspaces))) one
          (subst (IsGood (P m)) (sym (ap (option_map root_of) (find_modify m f leaves o.workspaces))) (found (ap is_live one
          ∙ e) (find_name m o.workspaces) refl))
      by n e false apart = subst (IsGood (P n)) (sym (seen_other root_of n m f leaves apart o.workspaces)) (g.below n e)

  good_without : (m : Name) → Good P (with_workspaces o (without m o.workspaces))
  good_without m = record { live = g.live; below = λ n e. by n e (same_name m n) refl }
    where
      by : (n : Name) → is_live n ≡ false → (b : Bool) → same_name m n ≡ b → IsGood (P n) (seen_by root_of n (without m o.workspaces))
      by n e true same =
          let one = same_is m n same in
          subst (λ k. IsGood (P k) (seen_by root_of k (without m o.workspaces))) one
          (subst (IsGood (P m)) (sym (ap (option_map root_of) (find_without m o.workspaces))) tt)
      by n e false apart = subst (IsGood (P n)) (sym (seen_without root_of n m apart o.workspaces)) (g.below n e)

  -- a new workspace isn't kept
  good_append : (w : Workspace) → w.kept ≡ false → Good P (with_workspaces o (o.workspaces ++ w ∷ []))
  good_append w free = record { live = g.live; below = λ n e. by n o.workspaces (g.below n e) }
    where
      last : (n : Name) (b : Bool) → IsGood (P n) (option_map root_of (cond b (Some w) None))
      last n true = λ kept. absurd (false≢true (sym free ∙ kept))
      last n false = tt

      by : (n : Name) (ws : List Workspace) → IsGood (P n) (seen_by root_of n ws) → IsGood (P n) (seen_by root_of n (ws ++ w ∷ []))
      by n [] h = last n (same_name n w.name)
      by n (v ∷ ws) h = go (same_name n v.name) h (by n ws)
        where
          go : (b : Bool) → IsGood (P n) (option_map root_of (cond b (Some v) (find_name n ws)))
              → (IsGood (P n) (seen_by root_of n ws) → IsGood (P n) (seen_by root_of n (ws ++ w ∷ [])))
              → IsGood (P n) (option_map root_of (cond b (Some v) (find_name n (ws ++ w ∷ []))))
          go true h rest = h
          go false h rest = rest h

  kept_is : (m : Name) (v : Workspace) → is_live m ≡ false → find_name m o.workspaces ≡ Some v → is_kept o m ≡ v.kept
  kept_is m v e is = kept_seen o m ∙ ap (λ x. is_live m || option_map_or (λ (r : Root). r.kept) (option_map root_of x) false) is ∙ ap (λ b. b || v.kept) e

  good_content : IsClosed o.book P → (m : Name) (content : Content) → breaks o m content ≡ None → Good P (set_content o m content)
  unfolding set_content breaks
  good_content closed m content none = by (is_live m) refl
    where
      by : (b : Bool) → is_live m ≡ b → Good P (cond b (record o { live = content }) (record o { workspaces = modify m (with_current content) o.workspaces }))
      by true e = record {
        live = subst (λ k. P k (row_at content)) (sym (live_is m e)) (holds_where P m (is_kept o m) o.book closed (content_of o m) content (holds_of P o g m) none (kept_seen o m
            ∙ ap (λ b. b || option_map_or (λ (r : Root). r.kept) (seen_by root_of m o.workspaces) false) e));
        below = g.below;
      }
      by false e = good_modify m (with_current content) (λ v. refl) (λ v live is. λ kept. holds_where P m (is_kept o m) o.book closed (content_of o m) content (holds_of P o g m) none
          (kept_is m v live is ∙ kept))

  -- a workspace that was found
  module _ (n : Name) (w : Workspace) (is : workspace o n ≡ Some w) where
    -- its content, by its name
    found_content : content_of o w.name ≡ w.current
    unfolding workspace content_of
    found_content = by (is_live n) (is_live w.name) (ap is_live (found_name o n w is)) is
      where
        rest : find_name n o.workspaces ≡ Some w → current_of (find_name w.name o.workspaces) ≡ w.current
        rest h = ap current_of (ap (λ k. find_name k o.workspaces) (found_name o n w is) ∙ h)

        by : (b d : Bool) → d ≡ b → cond b None (find_name n o.workspaces) ≡ Some w → cond d o.live (current_of (find_name w.name o.workspaces)) ≡ w.current
        by true d e h = absurd (cc)
        by false true e h = absurd (cc)
        by false false e h = rest h

    found_again : (v : Workspace) → find_name w.name o.workspaces ≡ Some v → v ≡ w
    unfolding workspace
    found_again v e = by (is_live n) is
      where
        by : (b : Bool) → cond b None (find_name n o.workspaces) ≡ Some w → v ≡ w
        by true h = absurd (cc)
        by false h = let one : find_name n o.workspaces ≡ Some v = ap (λ k. find_name k o.workspaces) (sym (found_name o n w is)) ∙ e in some (sym one ∙ h)
          where
            some : Some v ≡ Some w → v ≡ w
            some k = cc

    -- another content, which isn't refused beside one in which every rule holds
    good_beside : IsClosed o.book P → (before : Content) → (is_kept o w.name ≡ true → P w.name (row_at before)) → (f : Workspace → Workspace) → LeavesName f
        → (f w).kept ≡ w.kept → broken_where (is_kept o w.name) o.book before (f w).current ≡ None → Good P (with_workspaces o (modify w.name f o.workspaces))
    good_beside closed before held f leaves flag none = good_modify w.name f leaves (λ v live e. λ kept.
        let one = found_again v e in
        subst (λ (x : Workspace). P w.name (row_at (f x).current)) (sym one)
        (holds_where P w.name (is_kept o w.name) o.book closed before (f w).current held none (kept_is w.name v live e ∙ ap (λ (x : Workspace). x.kept) one ∙ sym flag
        ∙ ap (λ (x : Workspace). (f x).kept) (sym one) ∙ kept)))

    -- another content, which isn't refused
    good_workspace : IsClosed o.book P → (f : Workspace → Workspace) → LeavesName f → (f w).kept ≡ w.kept → breaks o w.name (f w).current ≡ None
        → Good P (with_workspaces o (modify w.name f o.workspaces))
    unfolding breaks
    good_workspace closed f leaves flag none = good_beside closed (content_of o w.name) (holds_of P o g w.name) f leaves flag none

    -- the parent's content, where it is kept, or else another in which every rule holds
    above_holds : ((view : View) → P w.parent view → P w.name view) → (content : Content) → P w.name (row_at content) → P w.name (row_at (above_or o w content))
    above_holds down content held = by (is_kept o w.parent) refl
      where
        by : (b : Bool) → is_kept o w.parent ≡ b → P w.name (row_at (cond b (content_of o w.parent) content))
        by true e = down (row_at (content_of o w.parent)) (holds_of P o g w.parent e)
        by false e = held

    -- held, where every rule holds in it already or isn't refused
    good_hold : IsClosed o.book P → ((view : View) → P w.parent view → P w.name view) → hold_breaks o w ≡ None → Good P (set_kept o w true)
    unfolding set_kept hold_breaks
    good_hold closed down none = good_modify w.name (with_kept true) (λ v. refl) (λ v live e. λ kept.
        let one = found_again v e in
        subst (λ (x : Workspace). P w.name (row_at x.current)) (sym one) (by w.kept refl none (subst (λ x. IsGood (P w.name) (option_map root_of x)) (e
        ∙ ap Some one) (g.below w.name live))))
      where
        by : (b : Bool) → w.kept ≡ b → broken_where (not b) o.book (above_or o w no_rows) w.current ≡ None → IsGood (P w.name) (Some (root_of w))
            → P w.name (row_at w.current)
        by true h none old = old h
        by false h none old = holds_where P w.name true o.book closed (above_or o w no_rows) w.current (λ e. above_holds down no_rows (closed.none w.name)) none refl

    -- refreshed, which isn't refused
    good_refreshed : IsClosed o.book P → ((view : View) → P w.parent view → P w.name view) → refresh_breaks o w ≡ None → Good P (with_workspaces o (modify w.name (refresh (content_of o w.parent)) o.workspaces))
    unfolding refresh_breaks merged_content
    good_refreshed closed down none = good_beside closed (above_or o w w.current) (λ kept. above_holds down w.current (own kept)) (refresh (content_of o w.parent)) (λ v. refl) refl none
      where
        own : is_kept o w.name ≡ true → P w.name (row_at w.current)
        own kept = subst (λ c. P w.name (row_at c)) found_content (holds_of P o g w.name kept)

good_release : (P : Name → View → Type 0) (o : Office) → Good P o → (w : Workspace) → Good P (set_kept o w false)
unfolding set_kept
good_release P o g w = good_modify P o g w.name (with_kept false) (λ v. refl) (λ v live e. λ kept. absurd (false≢true kept))

good_remove : (P : Name → View → Type 0) (o : Office) → Good P o → (w : Workspace) → Good P (after_remove o w)
unfolding after_remove
good_remove P o g w = good_marks P (with_workspaces o (without w.name o.workspaces)) (good_without P o g w.name) w.parent _

good_merge : (P : Name → View → Type 0) (o : Office) → Good P o → IsClosed o.book P → (w : Workspace) → breaks o w.parent (merged_content o w) ≡ None → Good P (after_merge o w)
unfolding after_merge
good_merge P o g closed w none =
    let above = set_content o w.parent (merged_content o w) in
    same_seen P above (good_content P o g closed w.parent (merged_content o w) none) (modify w.name with_base_merged above.workspaces)
    (λ n. seen_modify root_of n w.name with_base_merged (λ v. refl) (λ v p q. refl) above.workspaces)

good_either : (P : Name → View → Type 0) (o : Office) → Good P o → IsClosed o.book P → (w : Workspace) (gone : Bool) → breaks o w.parent (merged_content o w) ≡ None
    → Good P (cond gone (after_remove (after_merge o w) w) (after_merge o w))
good_either P o g closed w true none = good_remove P (after_merge o w) (good_merge P o g closed w none) w
good_either P o g closed w false none = good_merge P o g closed w none

good_roll_to : (P : Name → View → Type 0) (o : Office) → Good P o → IsClosed o.book P → (n : Name) (w : Workspace) (s : Name) → workspace o n ≡ Some w → breaks o w.name (rolled_content w s) ≡ None
    → Good P (after_roll_to o w s)
unfolding after_roll_to rolled_content
good_roll_to P o g closed n w s is none = by (find_mark w.marks s) none
  where
    by : (r : Option _) → breaks o w.name (option_map_or (λ i. saved_content (mark_at w.marks i)) r w.current) ≡ None
        → Good P (option_map_or (λ i. let next : Office = record o { workspaces = modify w.name (roll_to i) o.workspaces } in next) r o)
    by None h = g
    by (Some i) h = good_workspace P o g n w is closed (roll_to i) (λ v. refl) refl h

good_create : (P : Name → View → Type 0) (o : Office) → Good P o → (n p : Name) → Good P (after_create o n p)
unfolding after_create
good_create P o g n p = good_append P (with_workspaces o (modify_marks p (with_mark_of n) o.workspaces)) (good_marks P o g p (with_mark_of n))
    (new_leaf n p (content_of o p)) refl

good_mark : (P : Name → View → Type 0) (o : Office) → Good P o → (w : Workspace) (s : Name) → Good P (after_mark o w s)
unfolding after_mark
good_mark P o g w s = same_seen P o g (modify w.name (save s) o.workspaces) (λ n. seen_modify root_of n w.name (save s) (λ v. refl) (λ v p q. refl) o.workspaces)

good_unmark : (P : Name → View → Type 0) (o : Office) → Good P o → (w : Workspace) (s : Name) → Good P (after_unmark o w s)
unfolding after_unmark
good_unmark P o g w s = good_marks P o g w.name _

good_roll_all : (P : Name → View → Type 0) (o : Office) → Good P o → IsClosed o.book P → (n : Name) (w : Workspace) → workspace o n ≡ Some w → breaks o w.name w.base ≡ None → Good P (after_roll_all o w)
unfolding after_roll_all
good_roll_all P o g closed n w is none = good_workspace P o g n w is closed roll_all (λ v. refl) refl none

good_refresh : (P : Name → View → Type 0) (o : Office) → Good P o → IsClosed o.book P → (n : Name) (w : Workspace) → workspace o n ≡ Some w
    → ((view : View) → P w.parent view → P w.name view) → refresh_breaks o w ≡ None → Good P (after_refresh o w)
unfolding after_refresh
good_refresh P o g closed n w is down none =
    let f = refresh (content_of o w.parent) in
    good_marks P (with_workspaces o (modify w.name f o.workspaces)) (good_refreshed P o g n w is closed down none) w.parent _

good_resolve : (P : Name → View → Type 0) (o : Office) → Good P o → IsClosed o.book P → (n : Name) (w : Workspace) (cell : _) (keep : _) → workspace o n ≡ Some w
    → breaks o w.name (resolved_content o w cell keep) ≡ None → Good P (after_resolve o w cell keep)
unfolding after_resolve resolved_content
good_resolve P o g closed n w cell keep is none = good_workspace P o g n w is closed (keep_row cell keep (content_of o w.parent)) (name keep) (flag keep) none
  where
    name : (keep : _) → LeavesName (keep_row cell keep (content_of o w.parent))
    name keeps.Parent v = refl
    name keeps.Child v = refl
    name keeps.Base v = refl

    flag : (keep : _) → (keep_row cell keep (content_of o w.parent) w).kept ≡ w.kept
    flag keeps.Parent = refl
    flag keeps.Child = refl
    flag keeps.Base = refl

good_apply : (P : Name → View → Type 0) (o : Office) → Good P o → IsClosed o.book P → (n : Name) (edits : _) → breaks o n (edited_content o n edits) ≡ None → Good P (after_apply o n edits)
unfolding after_apply
good_apply P o g closed n edits none = good_content P o g closed n (edited_content o n edits) none

-- each command ----------------------------------------------------------------------------------------------------

on_found : (P : Name → View → Type 0) (o : Office) (c : Command) (u : IsUnrefused o c) (f : Workspace → Office) → Good P (f u.at) → Good P (option_map_or f (workspace o (name_in c)) o)
on_found P o c u f g = subst (λ r. Good P (option_map_or f r o)) (sym u.is) g

good_effect : (P : Name → View → Type 0) (o : Office) → Good P o → IsClosed o.book P → (c : Command) → PassesDown P o c → refusal o c ≡ None → Good P (effect o c)
unfolding effect refusal refusals_of
good_effect P o g closed (command.Create n p) down none = good_create P o g n p
good_effect P o g closed (command.Apply n edits) down none = good_apply P o g closed n edits (each_none (when (not (stands o n)) NoWorkspace ∷ edit_refusal o n edits
    ∷ breaks o n (edited_content o n edits) ∷ []) none).1.1.0
good_effect P o g closed (command.Remove n) down none = let c = command.Remove n in let u = unrefused o c none in on_found P o c u (after_remove o) (good_remove P o g u.at)
good_effect P o g closed (command.Mark n s) down none = let c = command.Mark n s in let u = unrefused o c none in on_found P o c u (λ w. after_mark o w s)
    (good_mark P o g u.at s)
good_effect P o g closed (command.Unmark n s) down none = let c = command.Unmark n s in let u = unrefused o c none in on_found P o c u (λ w. after_unmark o w s)
    (good_unmark P o g u.at s)
good_effect P o g closed (command.RollTo n s) down none =
    let c = command.RollTo n s in
    let u = unrefused o c none in
    on_found P o c u (λ w. after_roll_to o w s) (good_roll_to P o g closed n u.at s u.is (each_none (refusals_of o u.at c) u.free).1.1.0)
good_effect P o g closed (command.RollAll n) down none =
    let c = command.RollAll n in
    let u = unrefused o c none in
    on_found P o c u (after_roll_all o) (good_roll_all P o g closed n u.at u.is (each_none (refusals_of o u.at c) u.free).1.0)
good_effect P o g closed (command.Refresh n) down none =
    let c = command.Refresh n in
    let u = unrefused o c none in
    on_found P o c u (after_refresh o) (good_refresh P o g closed n u.at u.is (λ view. down u.at view u.is) (each_none (refusals_of o u.at c) u.free).1.0)
good_effect P o g closed (command.Merge n gone) down none =
    let c = command.Merge n gone in
    let u = unrefused o c none in
    on_found P o c u (λ w. cond gone (after_remove (after_merge o w) w) (after_merge o w))
    (good_either P o g closed u.at gone (each_none (refusals_of o u.at c) u.free).1.1.0)
good_effect P o g closed (command.Resolve n cell keep) down none =
    let c = command.Resolve n cell keep in
    let u = unrefused o c none in
    on_found P o c u (λ w. after_resolve o w cell keep) (good_resolve P o g closed n u.at cell keep u.is (each_none (refusals_of o u.at c) u.free).1.0)
good_effect P o g closed (command.Hold n) down none = let c = command.Hold n in let u = unrefused o c none in on_found P o c u (λ w. set_kept o w true)
    (good_hold P o g n u.at u.is closed (λ view. down u.at view u.is) (each_none (refusals_of o u.at c) u.free).0)
good_effect P o g closed (command.Release n) down none = let c = command.Release n in let u = unrefused o c none in on_found P o c u (λ w. set_kept o w false)
    (good_release P o g u.at)

pub have_law : (P : Name → View → Type 0) (o : Office) → IsClosed o.book P → (c : Command) → PassesDown P o c → HaveWhereKept P o
    → HaveWhereKept P (step o c).office
unfolding step
have_law P o closed c down h = by (refusal o c) refl
  where
    by : (r : Option Reply) → refusal o c ≡ r → HaveWhereKept P (refused_or_done r o (effect o c)).office
    by None e = holds_of P (effect o c) (good_effect P o (good_of P o h) closed c down e)
    by (Some reply) e = h

-- a property that is asked under every name passes down
everywhere : (Q : View → Type 0) (o : Office) (c : Command) → PassesDown (λ n. Q) o c
everywhere Q o (command.Refresh n) = λ w view is held. held
everywhere Q o (command.Hold n) = λ w view is held. held
everywhere Q o (command.Create n p) = tt
everywhere Q o (command.Apply n edits) = tt
everywhere Q o (command.Remove n) = tt
everywhere Q o (command.Mark n s) = tt
everywhere Q o (command.Unmark n s) = tt
everywhere Q o (command.RollTo n s) = tt
everywhere Q o (command.RollAll n) = tt
everywhere Q o (command.Merge n gone) = tt
everywhere Q o (command.Resolve n cell keep) = tt
everywhere Q o (command.Release n) = tt

pub rules_law : RulesLaw
rules_law o c h name kept = subst (λ (book : List Rule). Holds book (row_at (content_of (step o c).office name))) (sym (schema_law o c).1)
    (have_law (λ n. Holds o.book) o (record {
      passes = λ n before after more holds ask s t need. more ask s t (λ now. holds ask s t now) need;
      none = λ n. holds_in_none o.book;
    }) c (everywhere (Holds o.book) o c) h name kept)

-- what a kept content breaks after a step, some kept content broke before, with the same rows
pub kept_law : KeptLaw
kept_law o c = have_law (λ n. BreaksNoMoreThanKept o) o
    (record {
      passes = λ n before after more have ask s t all. more ask s t (have ask s t all);
      none = λ n ask s t all need. holds_in_none o.book ask s t need;
    })
    c (everywhere (BreaksNoMoreThanKept o) o c) (λ name kept ask s t all. all name kept)

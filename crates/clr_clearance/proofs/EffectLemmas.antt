-- What a merge and a refresh of one workspace under the root leave of a merge set: the root, the workspace itself, and the others.
use Rattle.std.proofs.Common.{◌≡◌, Bool, true, false, ◌||◌, cond, List, refl, sym, ap, ◌∙◌, subst, Option, Some, None}
use Rattle.std.specs.Option.{option_map, option_map_or}
use Rattle.std.proofs.lemmas.Bool.{false≢true}
use Rattle.clr_rows.specs.Contents.{Content, changes, no_rows, taken_over}
use Rattle.clr_workspaces.specs.Marks.{Mark, Name, mark_last, without_mark_of}
use Rattle.clr_workspaces.specs.Workspaces.{Workspace}
use Rattle.clr_workspaces.specs.Operations.{with_base_merged, refresh, with_current}
use Rattle.clr_steps.specs.Names.{same_name, is_live}
use Rattle.clr_steps.specs.Offices.{Office, content_of, find_name, is_kept, modify, modify_marks, set_content, with_workspaces, without, workspace}
use Rattle.clr_steps.specs.Effects.{after_merge, after_refresh, after_remove, merged_content}
use Rattle.clr_steps.specs.Quiet.{IsRootKept, Member, MergeSet, is_root, member_of, root_content}
use Rattle.clr_steps.proofs.FindLemmas.{find_modify, find_without, same_is, same_itself, seen_by, seen_marks, seen_other, seen_without}
use Rattle.clr_steps.proofs.KeptLemmas.{Root, content_seen, kept_seen, or_false, root_of}
use Rattle.clr_steps.proofs.ModifyLemmas.{LeavesName}

-- what is shown of a member
abbrev pub shown : Office → Name → Option Member
shown o name = option_map member_of (workspace o name)

shown_is : (o : Office) (name : Name) → shown o name ≡ cond (is_live name) None (seen_by member_of name o.workspaces)
unfolding workspace
shown_is o name = by (is_live name)
  where
    by : (b : Bool) → option_map member_of (cond b None (find_name name o.workspaces)) ≡ cond b None (seen_by member_of name o.workspaces)
    by true = refl
    by false = refl

-- other workspaces, of which the same is seen
shown_as : (o : Office) (ws : List Workspace) (name : Name) → seen_by member_of name ws ≡ seen_by member_of name o.workspaces
    → shown (with_workspaces o ws) name ≡ shown o name
shown_as o ws name e = shown_is (with_workspaces o ws) name ∙ ap (cond (is_live name) None) e ∙ sym (shown_is o name)

content_as : (o : Office) (ws : List Workspace) (name : Name) → seen_by root_of name ws ≡ seen_by root_of name o.workspaces
    → content_of (with_workspaces o ws) name ≡ content_of o name
content_as o ws name e = content_seen (with_workspaces o ws) name ∙ ap (λ r. cond (is_live name) o.live (option_map_or (λ (r : Root). r.current) r no_rows)) e
    ∙ sym (content_seen o name)

kept_as : (o : Office) (ws : List Workspace) (name : Name) → seen_by root_of name ws ≡ seen_by root_of name o.workspaces → is_kept (with_workspaces o ws) name
    ≡ is_kept o name
kept_as o ws name e = kept_seen (with_workspaces o ws) name ∙ ap (λ r. is_live name || option_map_or (λ (r : Root). r.kept) r false) e ∙ sym (kept_seen o name)

-- the workspace of a name modified: what is shown of it
shown_modified : (o : Office) (n : Name) (f : Workspace → Workspace) (g : Member → Member) → LeavesName f
    → ((w : Workspace) → member_of (f w) ≡ g (member_of w))
    → shown (with_workspaces o (modify n f o.workspaces)) n ≡ option_map g (shown o n)
shown_modified o n f g names same =
    shown_is (with_workspaces o (modify n f o.workspaces)) n
    ∙ ap (λ r. cond (is_live n) None (option_map member_of r)) (find_modify n f names o.workspaces)
    ∙ by (is_live n) (find_name n o.workspaces)
    ∙ ap (option_map g) (sym (shown_is o n))
  where
    by : (b : Bool) (r : Option Workspace) → cond b None (option_map member_of (option_map f r)) ≡ option_map g (cond b None (option_map member_of r))
    by true r = refl
    by false None = refl
    by false (Some w) = ap Some (same w)

-- a content written at a kept name -------------------------------------------------------------------

module _ (o : Office) (r : Name) (content : Content) where
  abbrev written : Bool → Office
  written b = cond b (record o { live = content }) (record o { workspaces = modify r (with_current content) o.workspaces })

  written_content : is_kept o r ≡ true → content_of (set_content o r content) r ≡ content
  unfolding set_content
  written_content kept = by (is_live r) refl
    where
      stands : is_live r ≡ false → (w : Option Workspace) → (is_live r || option_map_or (λ (r : Root). r.kept) (option_map root_of w) false) ≡ true
          → option_map_or (λ (r : Root). r.current) (option_map root_of (option_map (with_current content) w)) no_rows ≡ content
      stands e None h = absurd (false≢true (or_false (is_live r) false h e))
      stands e (Some w) h = refl

      by : (b : Bool) → is_live r ≡ b → content_of (written b) r ≡ content
      by true e = content_seen (written true) r ∙ ap (λ b. cond b content (option_map_or (λ (r : Root). r.current) (seen_by root_of r o.workspaces) no_rows)) e
      by false e =
          content_seen (written false) r
          ∙ ap (λ b. cond b o.live (option_map_or (λ (r : Root). r.current) (seen_by root_of r (written false).workspaces) no_rows)) e
          ∙ ap (λ w. option_map_or (λ (r : Root). r.current) (option_map root_of w) no_rows) (find_modify r (with_current content) (λ w. refl) o.workspaces)
          ∙ stands e (find_name r o.workspaces) (sym (kept_seen o r) ∙ kept)

  written_kept : is_kept (set_content o r content) r ≡ is_kept o r
  unfolding set_content
  written_kept = by (is_live r)
    where
      same : (w : Option Workspace) → option_map_or (λ (r : Root). r.kept) (option_map root_of (option_map (with_current content) w)) false
          ≡ option_map_or (λ (r : Root). r.kept) (option_map root_of w) false
      same None = refl
      same (Some w) = refl

      by : (b : Bool) → is_kept (written b) r ≡ is_kept o r
      by true = kept_seen (written true) r ∙ sym (kept_seen o r)
      by false =
          kept_seen (written false) r
          ∙ ap (λ w. is_live r || option_map_or (λ (r : Root). r.kept) (option_map root_of w) false)
          (find_modify r (with_current content) (λ w. refl) o.workspaces)
          ∙ ap (λ b. is_live r || b) (same (find_name r o.workspaces))
          ∙ sym (kept_seen o r)

  written_shown : (name : Name) → same_name r name ≡ false → shown (set_content o r content) name ≡ shown o name
  unfolding set_content
  written_shown name apart = by (is_live r)
    where
      by : (b : Bool) → shown (written b) name ≡ shown o name
      by true = shown_is (written true) name ∙ sym (shown_is o name)
      by false = shown_as o (modify r (with_current content) o.workspaces) name (seen_other member_of name r (with_current content) (λ w. refl) apart
          o.workspaces)

-- what one workspace's commands leave ------------------------------------------------------------------

-- the root as it was, and every other member
record LeavesOthers (merge_set : MergeSet) (n : Name) (p q : Office) : Type 0 where
  root : root_content q merge_set ≡ root_content p merge_set
  kept : is_kept q merge_set.root ≡ is_kept p merge_set.root
  others : (name : Name) → same_name n name ≡ false → shown q name ≡ shown p name

then_others : (merge_set : MergeSet) (n : Name) (a b c : Office) → LeavesOthers merge_set n a b → LeavesOthers merge_set n b c → LeavesOthers merge_set n a c
then_others merge_set n a b c h k = record { root = k.root ∙ h.root; kept = k.kept ∙ h.kept; others = λ name apart. k.others name apart ∙ h.others name apart }

module _ (merge_set : MergeSet) (n : Name) (out : is_root merge_set n ≡ false) (o : Office) where
  others_modified : (f : Workspace → Workspace) → LeavesName f → LeavesOthers merge_set n o (with_workspaces o (modify n f o.workspaces))
  unfolding is_root root_content
  others_modified f names = record {
    root = content_as o (modify n f o.workspaces) merge_set.root (seen_other root_of merge_set.root n f names out o.workspaces);
    kept = kept_as o (modify n f o.workspaces) merge_set.root (seen_other root_of merge_set.root n f names out o.workspaces);
    others = λ name apart. shown_as o (modify n f o.workspaces) name (seen_other member_of name n f names apart o.workspaces);
  }

  others_without : LeavesOthers merge_set n o (with_workspaces o (without n o.workspaces))
  unfolding is_root root_content
  others_without = record {
    root = content_as o (without n o.workspaces) merge_set.root (seen_without root_of merge_set.root n out o.workspaces);
    kept = kept_as o (without n o.workspaces) merge_set.root (seen_without root_of merge_set.root n out o.workspaces);
    others = λ name apart. shown_as o (without n o.workspaces) name (seen_without member_of name n apart o.workspaces);
  }

  shown_marked : (m : Name) (f : List Mark → List Mark) (name : Name) → shown (with_workspaces o (modify_marks m f o.workspaces)) name ≡ shown o name
  shown_marked m f name = shown_as o (modify_marks m f o.workspaces) name (seen_marks member_of name (λ w marks. refl) m f o.workspaces)

  others_marked : (m : Name) (f : List Mark → List Mark) → LeavesOthers merge_set n o (with_workspaces o (modify_marks m f o.workspaces))
  unfolding root_content
  others_marked m f = record {
    root = content_as o (modify_marks m f o.workspaces) merge_set.root (seen_marks root_of merge_set.root (λ w marks. refl) m f o.workspaces);
    kept = kept_as o (modify_marks m f o.workspaces) merge_set.root (seen_marks root_of merge_set.root (λ w marks. refl) m f o.workspaces);
    others = λ name apart. shown_marked m f name;
  }

-- the root's content, what is shown of the one workspace, and the others as they were
pub record StepsTo (merge_set : MergeSet) (o next : Office) (n : Name) (content : Content) (member : Option Member) : Type 0 where
  pub root : root_content next merge_set ≡ content
  pub kept : is_kept next merge_set.root ≡ true
  pub here : shown next n ≡ member
  pub others : (name : Name) → is_root merge_set name ≡ false → same_name n name ≡ false → shown next name ≡ shown o name

-- a member after its merge, and after a refresh from a content
abbrev pub member_rebased : Member → Member
member_rebased m = record { parent = m.parent; base = taken_over m.base (changes m.base m.current); current = m.current }

abbrev pub member_refreshed : Content → Member → Member
member_refreshed above m = record { parent = m.parent; base = above; current = taken_over above (changes m.base m.current) }

module _ (merge_set : MergeSet) (o : Office) (w : Workspace) (kept : IsRootKept o merge_set) (is : workspace o w.name ≡ Some w) (out : is_root merge_set w.name
    ≡ false) (under : is_root merge_set w.parent ≡ true) where
  is_there : shown o w.name ≡ Some (member_of w)
  is_there = ap (option_map member_of) is

  parent_is : w.parent ≡ merge_set.root
  unfolding is_root
  parent_is = same_is w.parent merge_set.root under

  apart_from_root : (name : Name) → is_root merge_set name ≡ false → same_name merge_set.root name ≡ false
  unfolding is_root
  apart_from_root name h = by (same_name merge_set.root name) refl
    where
      by : (b : Bool) → same_name merge_set.root name ≡ b → b ≡ false
      by true e = absurd (false≢true (sym h ∙ ap (λ m. same_name name m) (same_is merge_set.root name e) ∙ same_itself name))
      by false e = refl

  above : Office
  above = set_content o merge_set.root (merged_content o w)

  merge_is : after_merge o w ≡ with_workspaces above (modify w.name with_base_merged above.workspaces)
  unfolding after_merge above
  merge_is = ap (λ p. let next = set_content o p (merged_content o w) in with_workspaces next (modify w.name with_base_merged next.workspaces)) parent_is

  pub merge_steps : StepsTo merge_set o (after_merge o w) w.name (merged_content o w) (Some (member_rebased (member_of w)))
  unfolding above root_content
  merge_steps =
      let left = others_modified merge_set w.name out above with_base_merged (λ v. refl) in
      subst (λ next. StepsTo merge_set o next w.name (merged_content o w) (Some (member_rebased (member_of w)))) (sym merge_is) (record {
        root = left.root ∙ written_content o merge_set.root (merged_content o w) kept;
        kept = left.kept ∙ written_kept o merge_set.root (merged_content o w) ∙ kept;
        here = shown_modified above w.name with_base_merged member_rebased (λ v. refl) (λ v. refl)
            ∙ ap (option_map member_rebased) (written_shown o merge_set.root (merged_content o w) w.name (apart_from_root w.name out) ∙ is_there);
        others = λ name apart_too apart. left.others name apart ∙ written_shown o merge_set.root (merged_content o w) name (apart_from_root name apart_too);
      })

  -- the merge of a workspace after which it is taken away
  pub remove_steps : StepsTo merge_set o (after_remove (after_merge o w) w) w.name (merged_content o w) None
  unfolding after_remove
  remove_steps =
      let next = after_merge o w in
      let gone = with_workspaces next (without w.name next.workspaces) in
      let left = then_others merge_set w.name next gone _ (others_without merge_set w.name out next)
      (others_marked merge_set w.name out gone w.parent (without_mark_of w.name)) in
      record {
        root = left.root ∙ merge_steps.root;
        kept = left.kept ∙ merge_steps.kept;
        here = shown_marked merge_set w.name out gone w.parent (without_mark_of w.name) w.name ∙ shown_is gone w.name
            ∙ nothing (is_live w.name) _ (ap (option_map member_of) (find_without w.name next.workspaces));
        others = λ name apart_too apart. left.others name apart ∙ merge_steps.others name apart_too apart;
      }
    where
      nothing : (b : Bool) (r : Option Member) → r ≡ None → cond b None r ≡ None
      nothing true r e = refl
      nothing false r e = e

  pub refresh_steps : StepsTo merge_set o (after_refresh o w) w.name (root_content o merge_set) (Some (member_refreshed (content_of o w.parent) (member_of w)))
  unfolding after_refresh
  refresh_steps =
      let f = refresh (content_of o w.parent) in
      let next = with_workspaces o (modify w.name f o.workspaces) in
      let left = then_others merge_set w.name o next _ (others_modified merge_set w.name out o f (λ v. refl))
      (others_marked merge_set w.name out next w.parent (mark_last w.name)) in
      record {
        root = left.root;
        kept = left.kept ∙ kept;
        here = shown_marked merge_set w.name out next w.parent (mark_last w.name) w.name
            ∙ shown_modified o w.name f (member_refreshed (content_of o w.parent)) (λ v. refl) (λ v. refl)
            ∙ ap (option_map (member_refreshed (content_of o w.parent))) is_there;
        others = λ name apart_too apart. left.others name apart;
      }

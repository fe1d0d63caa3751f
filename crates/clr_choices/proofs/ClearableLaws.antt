-- Members that are clearable, and some of them.
use Rattle.std.proofs.Common.{◌≡◌, ◌∙◌, ℕ, zero, suc, true, false, List, [], ◌∷◌, Option, Some, None, ap, refl, slice_get, subst, sym, take}
use Rattle.std.specs.Prelude.{option_map, unwrap_or}
use Rattle.std.proofs.lemmas.Bool.{false≢true, true≢false}
use Rattle.clr_rows.specs.declared.cells.CellId.{CellId}
use Rattle.clr_rows.specs.declared.rows.Row.{Row}
use Rattle.clr_rules.specs.Needs.{BreaksNoMore, View}
use Rattle.clr_workspaces.specs.Marks.{Name}
use Rattle.clr_needs.specs.Settings.{AreAmong, view_with}
use Rattle.clr_steps.specs.Offices.{Office}
use Rattle.clr_steps.specs.Quiet.{MergeSet, is_member, is_root, root_content}
use Rattle.clr_clearance.specs.declared.verdicts.Verdict.TheVariants as verdict
use Rattle.clr_clearance.specs.Safety.{Safe}
use Rattle.clr_clearance.specs.MergeSets.{AreMergeable, MembersBreakNoMore, changed_by, rows_with, setting_of}
use Rattle.clr_clearance.specs.Verdicts.{first_repeated, names_fault}
use Rattle.clr_clearance.proofs.ClearLemmas.{AllDiffer, all_differ, has_at, no_member_fault, position_of}
use Rattle.clr_clearance.proofs.NameLemmas.{has_is}
use Rattle.clr_clearance.proofs.PlanLemmas.{safe_plan}
use Rattle.clr_clearance.proofs.SafeLemmas.{quiet_list_law, safe_at}
use Rattle.clr_clearance.proofs.StaticLemmas.{held_law, no_more_broken}
use Rattle.clr_merge_sets.specs.Certificates.{entries_in}
use Rattle.clr_merge_sets.specs.MergeSetNames.{merge_set}
use Rattle.clr_merge_sets.proofs.MergeSetLemmas.{names_free}
use Rattle.clr_merge_sets.specs.declared.plans.Plan.{Plan}
use Rattle.clr_merge_sets.specs.declared.plans.Plan.TheVariants as plan
use Rattle.clr_plan.specs.Plans.{IsPlan}
use Rattle.clr_merge_sets.specs.Plans.{is_cleared, is_out_of_memory}
use Rattle.clr_plan.specs.Promises.{Promises}
use Rattle.clr_choices.specs.Clearable.{AreClearable, PartsStayClearable, PlansTellClearable}

module _ (o : Office) (s : MergeSet) where
  all_cleared : names_fault o s ≡ None → Safe o s → (p : Plan) → IsPlan o s p → is_out_of_memory p ≡ false → is_cleared p ≡ true
  all_cleared named safe (plan.Cleared c) h found = refl
  all_cleared named safe (plan.Blocked order cause) h found = absurd (safe_plan o s order.items cause safe h)
  all_cleared named safe (plan.Unfit v) h found = (let both : None ≡ Some v = sym named ∙ h in absurd (cc))
  all_cleared named safe plan.OutOfMemory h found = absurd (true≢false found)

  -- the members of a cleared plan are clearable
  pub cleared_clearable : (p : Plan) → IsPlan o s p → Promises o s p → is_cleared p ≡ true → AreClearable o s
  cleared_clearable (plan.Cleared c) h proof e =
      let named = names_free o s (no_member_fault o s proof.covers.mergeable) in
      let no_more = no_more_broken o s (entries_in c.entries) proof.covers in
      record {
        named = named;
        mergeable = proof.covers.mergeable;
        no_more = no_more;
        keeps = held_law o s no_more;
        safe = proof.safe;
        cleared = all_cleared named proof.safe;
      }
  cleared_clearable (plan.Blocked order cause) h proof e = absurd (false≢true e)
  cleared_clearable (plan.Unfit v) h proof e = absurd (false≢true e)
  cleared_clearable plan.OutOfMemory h proof e = absurd (false≢true e)

pub plans_tell : PlansTellClearable
plans_tell o s p h found = (λ e. cleared_clearable o s p h.plan h.promises e, λ clearable. clearable.cleared p h.plan found)

-- some of the members --------------------------------------------------------------------------------

module _ (o : Office) (s : MergeSet) (names : List Name)
    (among : (name : Name) → is_member (merge_set s.root names) name ≡ true → is_member s name ≡ true) where
  -- they give the same rows
  same_rows : (list : List Name) (cell : CellId) → view_with (setting_of o (merge_set s.root names)) list cell ≡ view_with (setting_of o s) list cell
  unfolding view_with root_content
  same_rows [] cell = refl
  same_rows (n ∷ ns) cell = ap (λ (row : Option Row). unwrap_or (changed_by o n cell) row) (same_rows ns cell)

  among_all : AreAmong (setting_of o s) names s.members
  among_all name h = has_is s.members name ∙ among name (sym (has_is names name) ∙ h)

  same_view : (list : List Name) → rows_with o s list ≡ rows_with o (merge_set s.root names) list
  same_view list = λ i cell. sym (same_rows list cell) i

  part_breaks_no_more : MembersBreakNoMore o s → MembersBreakNoMore o (merge_set s.root names)
  part_breaks_no_more no_more fewer more part within =
      subst (λ (view : View). BreaksNoMore o.book view (rows_with o (merge_set s.root names) more)) (same_view fewer)
      (subst (BreaksNoMore o.book (rows_with o s fewer)) (same_view more) (no_more fewer more part (λ name h. among_all name (within name h))))

  pub part_mergeable : AllDiffer names → AreMergeable o s → AreMergeable o (merge_set s.root names)
  unfolding is_root
  part_mergeable differ all = record {
    kept = all.kept;
    distinct = differ;
    children = λ name h. all.children name (among name h);
    free = λ name h. all.free name (among name h);
    apart = λ m n cell hm hn. all.apart m n cell (among_all m hm) (among_all n hn);
  }

  part_clearable : AllDiffer names → AreClearable o s → AreClearable o (merge_set s.root names)
  part_clearable differ all =
      let part = merge_set s.root names in
      let mergeable = part_mergeable differ all.mergeable in
      let no_more = part_breaks_no_more all.no_more in
      let safe : Safe o part = λ commands lost quiet. safe_at o part _ _ mergeable no_more (quiet_list_law o part commands lost mergeable quiet) in
      let named = names_free o part (no_member_fault o part mergeable) in
      record {
        named = named;
        mergeable = mergeable;
        no_more = no_more;
        keeps = held_law o part no_more;
        safe = safe;
        cleared = all_cleared o part named safe;
      }

not_twice : (names : List Name) (r : Option ℕ) → option_map verdict.RepeatedMember r ≡ None → r ≡ None
not_twice names None e = refl
not_twice names (Some at) e = absurd (cc)

pub parts_stay : PartsStayClearable
parts_stay o s names all among once = part_clearable o s names among (all_differ names (not_twice names (first_repeated names) once)) all

-- the first of them ----------------------------------------------------------------------------------

in_front : {X : Type 0} (k : ℕ) (xs : List X) (i : ℕ) (x : X) → slice_get (take k xs) i ≡ Some x → slice_get xs i ≡ Some x
in_front zero [] i x e = absurd (cc)
in_front (suc k) [] i x e = absurd (cc)
in_front zero (y ∷ ys) i x e = absurd (cc)
in_front (suc k) (y ∷ ys) zero x e = e
in_front (suc k) (y ∷ ys) (suc i) x e = in_front k ys i x e

pub front_clearable : (o : Office) (root : Name) (names : List Name) (k : ℕ) → AreClearable o (merge_set root names)
    → AreClearable o (merge_set root (take k names))
front_clearable o root names k all = part_clearable o (merge_set root names) (take k names) among differ all
  where
    among : (name : Name) → is_member (merge_set root (take k names)) name ≡ true → is_member (merge_set root names) name ≡ true
    among name h = let (i, e) = position_of (take k names) name h in has_at names i name (in_front k names i name e)

    differ : AllDiffer (take k names)
    differ i j name e f = all.mergeable.distinct i j name (in_front k names i name e) (in_front k names j name f)

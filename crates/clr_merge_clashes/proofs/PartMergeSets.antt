-- Some members of a merge set, by position, where the members of the merge set are mergeable.
use Rattle.std.proofs.Common.{◌≡◌, ◌∙◌, ◌<◌, ℕ, zero, suc, true, List, [], ◌∷◌, inl, inr, Contains, Option, Some, None, arith, length, refl, subst}
use Rattle.std.specs.Prelude.{slice_get}
use Rattle.std.specs.List.{cons_option, filter_map}
use Rattle.std.specs.List.Sorted.{IsStrictlySortedBy}
use Rattle.std.specs.Ordering.{nat_cmp}
use Rattle.clr_rules.proofs.Elements.{Among, contained}
use Rattle.clr_workspaces.specs.Marks.{Name}
use Rattle.clr_needs.specs.Members.{AreApart}
use Rattle.clr_needs.proofs.PartPositions.{StandsIn, one_to_one}
use Rattle.clr_steps.specs.Offices.{Office}
use Rattle.clr_steps.specs.Quiet.{MergeSet, is_member, is_root}
use Rattle.clr_clearance.specs.Plans.{members_at}
use Rattle.clr_clearance.specs.MergeSets.{AreMergeable, change_sets}
use Rattle.clr_clearance.specs.Verdicts.{member_fault}
use Rattle.clr_clearance.proofs.ClearLemmas.{has_at, mergeable_of, position_of}
use Rattle.clr_clearance.proofs.RefusedLemmas.{names_part}
use Rattle.clr_merge_clashes.specs.Laws.{merge_set_of_part}

module _ {X : Type 0} (xs : List X) where
  some_there : (k : ℕ) → k < length xs → slice_get xs k ≡ None → ⊥
  some_there = by xs
    where
      by : (ys : List X) (k : ℕ) → k < length ys → slice_get ys k ≡ None → ⊥
      by [] k less none = absurd (omega (arith, less))
      by (y ∷ ys) zero less none = absurd (cc)
      by (y ∷ ys) (suc k) less none = by ys k (omega (arith, less)) none

  -- an element of some is one of all
  element_of : (list : List ℕ) → ((k : ℕ) → Among k list → k < length xs) → (j : ℕ) (x : X) → slice_get (filter_map (slice_get xs) list) j ≡ Some x
      → (k : ℕ) × StandsIn list j k × (slice_get xs k ≡ Some x)
  element_of [] below j x e = absurd (cc)
  element_of (k ∷ ks) below j x e = by (slice_get xs k) refl j e (λ i f. element_of ks (λ z h. below z (inr h)) i x f)
    where
      by : (o : Option X) → slice_get xs k ≡ o → (j : ℕ) → slice_get (cons_option o (filter_map (slice_get xs) ks)) j ≡ Some x
          → ((i : ℕ) → slice_get (filter_map (slice_get xs) ks) i ≡ Some x → (z : ℕ) × StandsIn ks i z × (slice_get xs z ≡ Some x))
          → (z : ℕ) × StandsIn (k ∷ ks) j z × (slice_get xs z ≡ Some x)
      by None e j f more = absurd (some_there k (below k (inl refl)) e)
      by (Some y) e zero f more = (k, refl, e ∙ f)
      by (Some y) e (suc j) f more = more j f

module _ (o : Office) (s : MergeSet) (positions : List ℕ) (fits : member_fault o s ≡ None) (apart : AreApart (change_sets o s))
    (ascending : IsStrictlySortedBy nat_cmp positions) (below : (k : ℕ) → Contains positions k → k < length s.members) where
  stands_at : (j : ℕ) (name : Name) → slice_get (members_at s positions) j ≡ Some name → (k : ℕ) × StandsIn positions j k × (slice_get s.members k ≡ Some name)
  stands_at = element_of s.members positions (λ k h. below k (contained k positions h))

  among : (name : Name) → is_member (merge_set_of_part s positions) name ≡ true → is_member s name ≡ true
  among name h =
      let (j, e) = position_of (members_at s positions) name h in
      let (k, at, is) = stands_at j name e in
      has_at s.members k name is

  -- some of them are mergeable too
  pub part_mergeable : AreMergeable o (merge_set_of_part s positions)
  unfolding is_root
  part_mergeable =
      let all = mergeable_of o s fits apart in
      record {
        kept = all.kept;
        distinct = λ i j name e f. (
            let (x, at, is) = stands_at i name e in
            let (y, there, is_too) = stands_at j name f in
            (one_to_one positions ascending).one_left i j y (subst (StandsIn positions i) (all.distinct x y name is is_too) at) there);
        children = λ name h. all.children name (among name h);
        free = λ name h. all.free name (among name h);
        apart = λ m n cell hm hn. all.apart m n cell (names_part o s positions m hm) (names_part o s positions n hn);
      }

-- Some members leave none of their touched needs uncovered exactly where they hold none of the smallest clashes of all.
use Rattle.std.proofs.Common.{◌≡◌, ◌<◌, ◌+◌, ℕ, zero, suc, List, [], ◌∷◌, ◌++◌, inl, inr, Contains, length, refl, subst, arith}
use Rattle.std.specs.List.Sorted.{IsStrictlySortedBy}
use Rattle.std.specs.Ordering.{nat_cmp}
use Rattle.clr_rows.specs.Contents.{Changes, Content, row_at}
use Rattle.clr_rules.specs.declared.rules.Rule.{Rule}
use Rattle.clr_rules.proofs.Elements.{among, contained}
use Rattle.clr_needs.specs.declared.needs.Need.{Need}
use Rattle.clr_needs.specs.Blocking.{IsBlockerOf}
use Rattle.clr_needs.specs.Covers.{IsBlocker}
use Rattle.clr_needs.specs.Members.{AreApart, setting}
use Rattle.clr_needs.specs.Needs.{IsTouchedBy}
use Rattle.clr_needs.specs.Parts.{setting_at}
use Rattle.clr_needs.specs.Picks.{Blocks}
use Rattle.clr_needs.specs.Settings.{Setting, AreDisjoint}
use Rattle.clr_needs.proofs.BlockerLaws.{AreBlockersTo, all_block}
use Rattle.clr_needs.proofs.ListedNumbers.{none_listed, one_left_out, one_listed}
use Rattle.clr_needs.proofs.NeedSubjects.{subjects_once}
use Rattle.clr_needs.proofs.PartLaws.{IsPart, possible_up}
use Rattle.clr_needs.proofs.PartLives.{IsInside}
use Rattle.clr_needs.proofs.PartPositions.{StandsIn, below_member, is_part, stands_among, stands_of}
use Rattle.clr_clashes.specs.Clashes.{HoldNoClash, IsAllIn, IsClash, LeavesNoneUncovered}
use Rattle.clr_clashes.specs.Laws.{ClashesDecideSubsets}
use Rattle.clr_clashes.proofs.Lists.{shorter_or_same}
use Rattle.clr_clashes.proofs.PartNeeds.{are_shown, blockers_inside, touched_down, touched_up, uncovered_down, uncovered_up}

module _ (rules : List Rule) (root : Content) (sets : List Changes) where
  abbrev c : Setting ℕ
  c = setting rules root sets

  -- ---- the members that break a need can be listed: it isn't that no list is one of them

  listed_to : (n : Need) (k : ℕ) → ((list : List ℕ) → AreBlockersTo c n k list → ⊥) → ⊥
  listed_to n zero none = none [] (none_listed (IsBlockerOf c n) [] refl)
  listed_to n (suc k) none = listed_to n k (λ list are.
      none list (subst (λ e. AreBlockersTo c n e list) next (one_left_out (IsBlockerOf c n) k list
      (λ blocks. none (list ++ k ∷ []) (subst (λ e. AreBlockersTo c n e (list ++ k ∷ [])) next
      (one_listed (IsBlockerOf c n) k list (list ++ k ∷ []) refl blocks are))) are)))
    where
      next : k + 1 ≡ suc k
      next = omega arith

  pub listed : (n : Need) → ((list : List ℕ) → Blocks c n list → ⊥) → ⊥
  listed n none = listed_to n (length sets) (λ list are. none list (all_block rules root sets n (length sets) list (omega arith) are))

  rises : (list : List ℕ) → IsClash c list → IsStrictlySortedBy nat_cmp list
  rises list (n, broken) = let (a, b, uncovered) = broken.uncovered in (broken.blockers a b uncovered.possible).ascending

  -- ---- members that hold no smallest clash hold none

  no_clash : (list : List ℕ) → HoldNoClash c list → (size : ℕ) (xs : List ℕ) → length xs < size → IsClash c xs → IsAllIn xs list → ⊥
  no_clash list none zero xs less clash within = absurd (omega (arith, less))
  no_clash list none (suc size) xs less clash within = none xs (record {
    clash = clash;
    smallest = λ other is in_it. elim (shorter_or_same xs other (rises xs clash) (rises other is) (λ k h. among k xs (in_it k (contained k other h)))) [
      | inl shorter ↦ absurd (no_clash list none size other (omega (arith, less, shorter)) is (λ y h. within y (in_it y h)))
      | inr same ↦ same
    ];
  }) within

  module _ (list : List ℕ) (apart : AreApart sets) (ascending : IsStrictlySortedBy nat_cmp list) (below : (k : ℕ)
      → Contains list k → k < length sets) where
    abbrev d : Setting ℕ
    d = setting_at rules root sets list

    abbrev stands : ℕ → ℕ → Type 0
    stands = StandsIn list

    part : IsPart c d stands
    part = is_part rules root sets list apart ascending (λ x h. below_member rules root sets x (below x h))

    disjoint : AreDisjoint c
    disjoint m n q first second changes changes_too = apart q m n changes changes_too

    covered_holds_none : LeavesNoneUncovered d → HoldNoClash c list
    covered_holds_none covered clash smallest within =
        let (n, broken) = smallest.clash in
        let (a, b, uncovered) = broken.uncovered in
        let (x, z, possible, touched) = broken.touched in
        let once = subjects_once c n a x b z uncovered.possible possible in
        let touched_here = subst (λ k. IsTouchedBy c n k b) once.0 (subst (λ k. IsTouchedBy c n x k) once.1 touched) in
        let inside : ((y : ℕ) → IsBlocker c n a b y → IsInside stands y) =
        (λ y h. stands_of list y (within y (((broken.blockers a b uncovered.possible).exactly y).1 h))) in
        let s = are_shown c d stands part n a b uncovered.possible inside in
        covered n
        (s.first, s.second, s.possible, touched_down c d stands part n s.first s.second a b s.in_first s.in_second uncovered inside s.possible touched_here)
        (s.first, s.second, uncovered_down c d stands part n s.first s.second a b s.in_first s.in_second uncovered inside s.possible)

    none_held_covered : HoldNoClash c list → LeavesNoneUncovered d
    none_held_covered none n (e, f, possible, touched) (p, q, uncovered) =
        let once = subjects_once d n p e q f uncovered.possible possible in
        let touched_here = subst (λ k. IsTouchedBy d n k q) once.0 (subst (λ k. IsTouchedBy d n e k) once.1 touched) in
        let u = possible_up c d stands part n p q uncovered.possible in
        let above = uncovered_up c d stands part n p q u.first u.second u.in_first u.in_second uncovered u.possible in
        listed n (λ xs blocks. no_clash list none (suc (length xs)) xs (omega arith) (
          n,
          record {
            touched = (u.first, u.second, u.possible, touched_up c d stands part n p q u.first u.second u.in_first u.in_second touched_here);
            uncovered = (u.first, u.second, above);
            blockers = blocks;
          },
        )
        (λ y h. (let (k, is) = blockers_inside c d stands part n p q u.first u.second u.in_first u.in_second uncovered u.possible y
        (((blocks u.first u.second u.possible).exactly y).0 h) in stands_among list k y is)))

pub clashes_decide : ClashesDecideSubsets
clashes_decide rules root sets positions apart ascending below =
    (covered_holds_none rules root sets positions apart ascending below, none_held_covered rules root sets positions apart ascending below)

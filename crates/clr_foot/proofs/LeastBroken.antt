-- The least need that the merge of one member breaks, in a list that may leave out what stands behind a need which no row serves.
use Rattle.std.proofs.Common.{◌≡◌, ◌∙◌, ◌<◌, ◌≤◌, ℕ, Bool, true, false, not, ◌&&◌, List, inl, inr, Option, Some, None, Contains, get_or, length, take, refl}
use Rattle.std.proofs.Common.{sym, ap}
use Rattle.std.proofs.Common.{subst}
use Rattle.std.specs.Prelude.{slice_get}
use Rattle.std.specs.Cmp.{tied_itself}
use Rattle.std.specs.List.Sorted.{IsStrictlySortedBy}
use Rattle.std.specs.Option.{is_some}
use Rattle.std.specs.Ordering.{is_gt}
use Rattle.std.specs.declared.cmp.Ordering.TheVariants.{Less}
use Rattle.std.proofs.lemmas.Bool.{false≢true}
use Rattle.clr_rows.specs.Contents.{Changes, Content}
use Rattle.clr_rows.specs.Held.{Held}
use Rattle.clr_rules.specs.declared.needs.Ask.{Ask}
use Rattle.clr_rules.specs.declared.needs.Broken.{Broken}
use Rattle.clr_rules.specs.declared.rules.Rule.{Rule}
use Rattle.clr_rules.specs.declared.sides.Side.{Side}
use Rattle.clr_rules.specs.Calls.{is_server, is_server_of, serves, suits}
use Rattle.clr_rules.specs.Sides.{is_of, sides}
use Rattle.clr_rules.specs.Needs.{BreaksNoMore, IsLeastNewlyBroken, IsNewlyBroken, broken_cmp}
use Rattle.clr_rules.proofs.BrokenOrder.{broken_total}
use Rattle.clr_needs.specs.declared.needs.Need.{Need}
use Rattle.clr_needs.specs.declared.needs.VersionId.{VersionId}
use Rattle.clr_needs.specs.Broken.{HasLivingServer, IsJudged, IsServedAfterMerge, IsUnservedAfterMerge, are_living, broken_of, is_living, view_after_merge}
use Rattle.clr_needs.specs.Members.{setting}
use Rattle.clr_needs.specs.Needs.{IsBesideIfAny, IsChanged, IsPossibleNeed, IsTouched, ask_of, held_if_any, is_fresh}
use Rattle.clr_needs.specs.Orders.{need_cmp}
use Rattle.clr_needs.specs.Settings.{Setting, DoChange, Lifetime, Always, With, Without, Lived, held_row, version}
use Rattle.clr_needs.proofs.BreakLaws.{broken_by, need_order, no_more_after, unserved_is_broken}
use Rattle.clr_needs.proofs.NeedOrder.{need_total}
use Rattle.clr_needs.proofs.Placing.{PlaceOf, after, before, here, place_of}
use Rattle.clr_needs.proofs.Reading.{all_taken, read_of}
use Rattle.clr_row_versions.specs.Gains.{IsListedOrPassed}
use Rattle.clr_new_pairs.specs.NewPairs.{BreaksAtOnce, Passes, is_unserved, is_unserved_by, is_unserved_under}
use Rattle.clr_foot.specs.Touches.{ListsTouched}
use Rattle.clr_foot.proofs.TouchSteps.{changed_is_old}

-- ---- no row serves

none_serves : (side : Option Side) (r : Held) → not (is_some side) ≡ true → is_of side r ≡ false
none_serves None r e = refl
none_serves (Some side) r e = absurd (false≢true e)

never_server : (rule : Rule) (ask : Ask) (s : Held) (t : Option Held) (r : Held) → is_unserved rule ≡ true → is_server rule ask s t r ≡ false
unfolding is_server
never_server rule ask s t r e = ap (λ b. b && suits rule ask s t r) (none_serves (sides rule).server r e)

never_served : (rules : List Rule) (ask : Ask) (s : Held) (t : Option Held) (r : Held) → is_unserved_under rules ask.rule ≡ true → serves rules ask s t r ≡ true
    → ⊥
unfolding serves is_unserved_under
never_served rules ask s t r unserved served = by (slice_get rules ask.rule) unserved served
  where
    by : (rule : Option Rule) → is_unserved_by rule ≡ true → is_server_of rule ask s t r ≡ true → ⊥
    by None e f = false≢true e
    by (Some rule) e f = false≢true (sym (never_server rule ask s t r e) ∙ f)

-- a listed need is possible
pub listed_possible : (c : Setting ℕ) (leaves_out : Bool) (needs : List Need) (n : Need) → ListsTouched c leaves_out needs → Contains needs n →
    IsPossibleNeed c n
listed_possible c leaves_out needs n listed h = let (a, b, p, touched) = listed.only n h in (a, b, p)

module _ (rules : List Rule) (root : Content) (sets : List Changes) (one : length sets ≡ 1) where
  abbrev s : Setting ℕ
  s = setting rules root sets

  -- ---- a need of two new versions that no row serves is broken

  stays : (v : VersionId) (l : Lived ℕ) → v.fresh ≡ true → version s v ≡ Some l → is_living l.life ≡ true
  stays v l new is = by l.life refl
    where
      by : (life : Lifetime ℕ) → l.life ≡ life → is_living life ≡ true
      by Always e = refl
      by (With n) e = refl
      by (Without n) e = absurd (false≢true (sym (changed_is_old rules root sets v l is (subst IsChanged (sym e) tt)).0 ∙ new))

  break_is_broken : (leaves_out : Bool) (n : Need) → IsTouched s n → BreaksAtOnce rules leaves_out n → IsUnservedAfterMerge s n
  break_is_broken leaves_out n (a, b, p, touched) breaking = (a, b, p, living n.second b p.second_is breaking.second, unserved)
    where
      first : is_living a.life ≡ true
      first = stays n.first a breaking.first p.first_is

      living : (w : Option VersionId) (b : Option (Lived ℕ)) → IsBesideIfAny s n.first a w b → is_fresh w ≡ true → are_living a b ≡ true
      living None None is e = first
      living None (Some b) is e = absurd is
      living (Some w) None is e = absurd is
      living (Some w) (Some b) is e = let second = stays w b e is.is in λ i. first i && second i

      unserved : HasLivingServer s n a b → ⊥
      unserved (v, l, serve, alive) = never_served rules (ask_of n) (held_row n.first a) (held_if_any n.second b) (held_row v l) breaking.unserved
          serve.it_serves

  abbrev IsNoMore : Need → Need → Type 0
  IsNoMore m n = is_gt (broken_cmp (broken_of m) (broken_of n)) ≡ false

  kept_not_broken : (n : Need) → IsServedAfterMerge s n → IsUnservedAfterMerge s n → ⊥
  kept_not_broken n kept (a, b, p, living, unserved) = unserved (kept a b p living)

  -- ---- the first broken one of the listed needs

  module _ (leaves_out : Bool) (changes : DoChange s) (needs read : List Need) (k : ℕ) (listed : ListsTouched s leaves_out needs) (same : read ≡ needs)
      (kept : (m : Need) → Contains (take k read) m → IsServedAfterMerge s m) where
    pub none_is_broken : length read ≤ k → BreaksNoMore rules s.root (view_after_merge s)
    none_is_broken past = no_more_after rules root sets one (λ m t. by m (listed.every m t))
      where
        all : (m : Need) → Contains needs m → IsServedAfterMerge s m
        all m h = kept m (all_taken read k m past (subst (λ ms. Contains ms m) (sym same) h))

        by : (m : Need) → IsListedOrPassed (Passes rules leaves_out) needs m → IsServedAfterMerge s m
        by m (inl h) = all m h
        by m (inr (j, h, (breaking, less))) = absurd (kept_not_broken j (all j h) (break_is_broken leaves_out j (listed.only j h) breaking))

    pub first_is_least : (n d : Need) (broken : Bool) (b : Broken) → k < length read → n ≡ get_or read k d → IsJudged s n broken → broken ≡ true
        → b ≡ broken_of n → IsLeastNewlyBroken rules s.root (view_after_merge s) b
    first_is_least n d broken b less is judged told named =
        subst (IsLeastNewlyBroken rules s.root (view_after_merge s)) (sym named)
        (record { broken = unserved_is_broken rules root sets one changes n it (listed.only n there); least = least })
      where
        there : Contains needs n
        there = subst (λ m. Contains needs m) (sym is) (read_of read needs k d same less)

        it : IsUnservedAfterMerge s n
        it = subst (IsJudged s n) told judged

        place : (m : Need) → Contains needs m → PlaceOf need_cmp read m k n
        place m h =
            place_of need_cmp read k n d m less is (subst (IsStrictlySortedBy need_cmp) (sym same) listed.ascending) (subst (λ ms. Contains ms m) (sym same) h)

        behind_it : (m : Need) → IsUnservedAfterMerge s m → need_cmp n m ≡ Less → IsNoMore n m
        behind_it m unserved_too e = ap is_gt (sym (need_order rules root sets one n m it unserved_too) ∙ e)

        at : (m : Need) → IsUnservedAfterMerge s m → PlaceOf need_cmp read m k n → IsNoMore n m
        at m unserved_too (before h) = absurd (kept_not_broken m (kept m h) unserved_too)
        at m unserved_too (here e) = subst (IsNoMore n) e (ap is_gt (tied_itself broken_total (broken_of n)))
        at m unserved_too (after e) = behind_it m unserved_too e

        behind : (m j : Need) → IsUnservedAfterMerge s m → IsUnservedAfterMerge s j → need_cmp j m ≡ Less → PlaceOf need_cmp read j k n → IsNoMore n m
        behind m j unserved_too breaking e (before h) = absurd (kept_not_broken j (kept j h) breaking)
        behind m j unserved_too breaking e (here f) = behind_it m unserved_too (ap (λ i. need_cmp i m) f ∙ e)
        behind m j unserved_too breaking e (after f) = behind_it m unserved_too (need_total.trans n j m f e)

        by : (m : Need) → IsUnservedAfterMerge s m → IsListedOrPassed (Passes rules leaves_out) needs m → IsNoMore n m
        by m unserved_too (inl h) = at m unserved_too (place m h)
        by m unserved_too (inr (j, h, (breaking, e))) = behind m j unserved_too (break_is_broken leaves_out j (listed.only j h) breaking) e (place j h)

        least : (b : Broken) → IsNewlyBroken rules s.root (view_after_merge s) b → is_gt (broken_cmp (broken_of n) b) ≡ false
        least b broken =
            let (m, h) = broken_by rules root sets one b broken in
            subst (λ x. is_gt (broken_cmp (broken_of n) x) ≡ false) (sym h.named) (by m h.broken (listed.every m h.touched))

-- Needs judged one after another, quiet commands answered one after another, and the example.
use Rattle.std.proofs.Common.{◌≡◌, ℕ, zero, suc, ◌+◌, ◌<◌, true, List, [], ◌∷◌, ◌++◌, inl, inr, refl, sym, ap, ◌∙◌, subst, arith, Option, Some, None, slice_get}
use Rattle.std.specs.List.Sorted.{IsStrictlySortedBy}
use Rattle.std.specs.declared.cmp.Ordering.TheVariants.{Less}
use Rattle.clr_rules.specs.Needs.{broken_needs, broken_below, newly_broken_needs}
use Rattle.clr_rules.proofs.Elements.{Among, among, contained, each_of, not_both, not_itself}
use Rattle.clr_needs.specs.declared.needs.Need.{Need}
use Rattle.clr_needs.specs.declared.needs.VersionId.{VersionId}
use Rattle.clr_needs.specs.Covers.{Entry, HasEntry}
use Rattle.clr_needs.specs.Needs.{IsBesideIfAny, IsPossible}
use Rattle.clr_needs.specs.Orders.{need_cmp}
use Rattle.clr_needs.specs.Settings.{Setting, Lived, version}
use Rattle.clr_needs.proofs.NeedOrder.{need_total}
use Rattle.clr_steps.specs.declared.commands.Command.{Command}
use Rattle.clr_steps.specs.declared.commands.Reply.{Reply}
use Rattle.clr_steps.specs.Names.{same_name, is_live}
use Rattle.clr_steps.specs.Offices.{Office, content_of, is_kept, stands, workspace}
use Rattle.clr_steps.specs.Effects.{after_create, effect, set_kept}
use Rattle.clr_steps.specs.Quiet.{MergeSet, is_quiet, is_root}
use Rattle.clr_steps.specs.Refusals.{depth_within, first_newly_broken, hold_breaks, refusal, refusals_of}
use Rattle.clr_steps.specs.Steps.{Answer, AreAnswers, is_lost, lost_in, step, step_or_lost}
use Rattle.clr_rows.specs.Names.{is_good_name}
use Rattle.clr_steps.proofs.RunLemmas.{lost_later, more_law}
use Rattle.clr_clearance.specs.CheckLaws.{AllJudgedLaw, FirstJudgedLaw, IsCovered, OneMoreLaw}
use Rattle.clr_clearance.specs.Examples.{FaultExample}
use Rattle.clr_clearance.specs.Runs.{AreQuiet}
use Rattle.clr_clearance.specs.Verdicts.{names_fault}

pub fault_example : FaultExample
unfolding names_fault refusal refusals_of effect step same_name is_live workspace stands is_kept content_of after_create set_kept hold_breaks first_newly_broken
    newly_broken_needs broken_needs broken_below depth_within is_good_name is_root
fault_example = refl

-- needs ------------------------------------------------------------------------------------------------------

pub all_judged : AllJudgedLaw
all_judged c entries needs list covered n a b possible touched = covered n ((list.exactly n).1 (a, b, possible, touched)) a b possible

-- a need has one row and life of each subject
module _ (c : Setting ℕ) where
  pub one_lived : (v : VersionId) (a d : Lived ℕ) → version c v ≡ Some a → version c v ≡ Some d → a ≡ d
  one_lived v a d e f = let both : Some a ≡ Some d = sym e ∙ f in cc

  pub one_beside : (v : VersionId) (a d : Lived ℕ) (w : Option VersionId) (b e : Option (Lived ℕ)) → IsBesideIfAny c v a w b → IsBesideIfAny c v d w e → b ≡ e
  one_beside v a d None None None h k = refl
  one_beside v a d None None (Some e) h k = absurd k
  one_beside v a d None (Some b) e h k = absurd h
  one_beside v a d (Some w) None e h k = absurd h
  one_beside v a d (Some w) (Some b) None h k = absurd k
  one_beside v a d (Some w) (Some b) (Some e) h k = ap Some (one_lived w b e h.is k.is)

  covered_by : (entries : List Entry) (n : Need) (a : Lived ℕ) (b : Option (Lived ℕ)) → IsPossible c n a b → HasEntry c n a b entries → IsCovered c entries n
  covered_by entries n a b possible has d e other =
      subst (λ x. HasEntry c n d x entries) (one_beside n.first a d n.second b e possible.second_is other.second_is)
      (subst (λ x. HasEntry c n x b entries) (one_lived n.first a d possible.first_is other.first_is) has)

-- where a list rises, what comes before an element stands earlier
pub record IsEarlier (needs : List Need) (at : ℕ) (m : Need) : Type 0 where
  pub before : ℕ
  pub less : before < at
  pub is : slice_get needs before ≡ Some m

pub earlier : (needs : List Need) (at : ℕ) (n m : Need) → IsStrictlySortedBy need_cmp needs → slice_get needs at ≡ Some n → Among m needs → need_cmp m n ≡ Less
    → IsEarlier needs at m
unfolding IsStrictlySortedBy
earlier [] at n m rises e there less = absurd there
earlier (x ∷ xs) zero n m rises e (inl same) less = let one : x ≡ n = cc in absurd (not_itself need_total n (subst (λ y. need_cmp y n ≡ Less) (sym same
    ∙ one) less))
earlier (x ∷ xs) zero n m rises e (inr there) less = let one : x ≡ n = cc in absurd (not_both need_total m n less (subst (λ y. need_cmp y m
    ≡ Less) one (each_of (λ y. need_cmp x y ≡ Less) m xs rises.0 there)))
earlier (x ∷ xs) (suc at) n m rises e (inl same) less = record { before = 0; less = omega arith; is = ap Some same }
earlier (x ∷ xs) (suc at) n m rises e (inr there) less =
    let rest = earlier xs at n m rises.1 e there less in
    let lesser = rest.less in
    record { before = suc rest.before; less = omega (arith, lesser); is = rest.is }

pub among_at : (needs : List Need) (at : ℕ) (n : Need) → slice_get needs at ≡ Some n → Among n needs
among_at [] at n e = absurd (cc)
among_at (x ∷ xs) zero n e = inl (let one : x ≡ n = cc in one)
among_at (x ∷ xs) (suc at) n e = inr (among_at xs at n e)

pub first_judged : FirstJudgedLaw
first_judged c entries needs at n list is covered bare =
    let (a, b, possible, touched) = (list.exactly n).0 (contained n needs (among_at needs at n is)) in (
      a,
      b,
      record {
        possible = possible;
        touched = touched;
        uncovered = λ has. bare (covered_by c entries n a b possible has);
        first = λ m d e less possible_too touched_too.
            (let place = earlier needs at n m list.ascending is (among m needs ((list.exactly m).1 (d, e, possible_too, touched_too))) less in
            covered place.before m place.less place.is d e possible_too);
      },
    )

-- quiet commands -----------------------------------------------------------------------------------------------

quiet_more : (o : Office) (merge_set : MergeSet) (commands : List Command) (replies : List Reply) (now : Office) (c : Command) (reply : Reply)
    → AreAnswers o commands replies now → AreQuiet o merge_set commands (lost_in replies) → is_quiet now merge_set c ≡ true
    → AreQuiet o merge_set (commands ++ c ∷ []) (lost_in (replies ++ reply ∷ []))
quiet_more o merge_set [] [] now c reply answers quiet is zero d e = let one : c ≡ d = cc in ap (is_quiet o merge_set) (sym one)
    ∙ ap (λ p. is_quiet p merge_set c) (sym answers) ∙ is
quiet_more o merge_set [] [] now c reply answers quiet is (suc k) d e = absurd (cc)
quiet_more o merge_set [] (r ∷ rs) now c reply answers quiet is at d e = absurd answers
quiet_more o merge_set (x ∷ cs) [] now c reply answers quiet is at d e = absurd answers
quiet_more o merge_set (x ∷ cs) (r ∷ rs) now c reply answers quiet is zero d e = quiet 0 d e
quiet_more o merge_set (x ∷ cs) (r ∷ rs) now c reply answers quiet is (suc at) d e =
    let next = answers.0 in
    let office : (step_or_lost (is_lost r) o x).office ≡ next = ap (λ (a : Answer). a.office) (sym answers.1) in
    let lost : (λ k. lost_in (r ∷ rs) (k + 1)) ≡ lost_in rs = λ i k. lost_later r rs k i in
    let lost_more : (λ k. lost_in (r ∷ rs ++ reply ∷ []) (k + 1)) ≡ lost_in (rs ++ reply ∷ []) = λ i k. lost_later r (rs ++ reply ∷ []) k i in
    let behind : AreQuiet (step_or_lost (is_lost r) o x).office merge_set cs (λ k. lost_in (r ∷ rs) (k + 1)) = λ k y g. quiet (suc k) y g in
    let rest = quiet_more next merge_set cs rs now c reply answers.2
    (subst (λ p. AreQuiet p merge_set cs (lost_in rs)) office (subst (AreQuiet (step_or_lost (is_lost r) o x).office merge_set cs) lost behind)) is in
    let whole : AreQuiet (step_or_lost (is_lost r) o x).office merge_set (cs ++ c ∷ []) (λ k. lost_in (r ∷ rs ++ reply ∷ []) (k + 1)) =
    subst (AreQuiet (step_or_lost (is_lost r) o x).office merge_set (cs ++ c ∷ [])) (sym lost_more)
    (subst (λ p. AreQuiet p merge_set (cs ++ c ∷ []) (lost_in (rs ++ reply ∷ []))) (sym office) rest) in
    whole at d e

pub one_more : OneMoreLaw
one_more o merge_set commands replies now c reply left answers quiet is last = (
  more_law o commands replies now c reply left answers last,
  quiet_more o merge_set commands
      replies now c reply answers quiet is,
)

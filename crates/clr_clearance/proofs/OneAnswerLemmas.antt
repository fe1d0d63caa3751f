-- No merge set has two plans, and no list of commands two quiet starts.
use Rattle.std.proofs.Common.{◌≡◌, ◌⊎◌, ℕ, suc, ◌+◌, ◌<◌, true, false, inl, inr, refl, sym, ap, ◌∙◌, subst, arith}
use Rattle.std.proofs.Common.{List, [], ◌∷◌, length, map, slice_get, take, Option, Some, None}
use Rattle.std.proofs.lemmas.Bool.{or_parts, true≢false}
use Rattle.std.proofs.lemmas.Cmp.{nat_cmp_total}
use Rattle.std.proofs.lemmas.Option.{slice_get_within}
use Rattle.std.specs.Cmp.{IsTotalOrder}
use Rattle.std.specs.List.{list_any}
use Rattle.std.specs.declared.cmp.Ordering.{Ordering}
use Rattle.clr_rules.proofs.Elements.{Among, among, among_mapped, contained, same_rising}
use Rattle.clr_needs.specs.declared.needs.Need.{Need}
use Rattle.clr_needs.specs.declared.needs.VersionId.{VersionId}
use Rattle.clr_needs.specs.Covers.{Entry}
use Rattle.clr_needs.specs.Needs.{IsTouched, Lists}
use Rattle.clr_needs.specs.Picks.{Blocks, HasBoth, IsLeastVersion, IsPick, Picks, ServesAs}
use Rattle.clr_needs.specs.Settings.{Setting, With, Without, Lived}
use Rattle.clr_needs.proofs.NeedOrder.{need_exact, need_total, version_exact}
use Rattle.clr_needs.proofs.VersionOrder.{version_total}
use Rattle.clr_steps.specs.declared.commands.Command.{Command}
use Rattle.clr_steps.specs.declared.commands.Reply.{Reply}
use Rattle.clr_steps.specs.Offices.{Office}
use Rattle.clr_steps.specs.Quiet.{MergeSet, is_quiet}
use Rattle.clr_steps.specs.Steps.{Answer, AreAnswers, answer, is_lost, lost_in, step, step_or_lost}
use Rattle.clr_steps.proofs.FirstLemmas.{some_is}
use Rattle.clr_steps.proofs.RunLemmas.{lost_later}
use Rattle.clr_clearance.specs.declared.verdicts.Verdict.{Verdict}
use Rattle.clr_clearance.specs.declared.verdicts.Verdict.TheVariants as verdict
use Rattle.clr_clearance.specs.ClearedRuns.{IsQuietStart, IsStop}
use Rattle.clr_clearance.specs.OneAnswer.{OneBlockedLaw, OneClearedLaw, OneKindLaw, OneStartLaw, OneUnfitLaw}
use Rattle.clr_clearance.specs.Plans.{ArePicked, IsBlocked, IsCleared, IsFirstUnpicked, of_conflict, of_shared, of_unpicked}
use Rattle.clr_clearance.specs.Runs.{AreQuiet}
use Rattle.clr_clearance.specs.MergeSets.{setting_by_position}
use Rattle.clr_clearance.specs.Verdicts.{first_conflict, member_fault, names_fault}
use Rattle.clr_clearance.proofs.ClearLemmas.{neither, order}
use Rattle.clr_clearance.proofs.OrderLemmas.{in_order}
use Rattle.clr_clearance.proofs.VerdictLemmas.{not_apart, not_both, one_cell, one_some}

-- lists and least versions --------------------------------------------------------------------------------

one_list : {X : Type 0} {cmp : X → X → Ordering} (total : IsTotalOrder cmp) (P : X → Type 0) (xs ys : List X)
    → Lists cmp P xs → Lists cmp P ys → xs ≡ ys
one_list total P xs ys one two =
    same_rising total xs ys one.ascending two.ascending
    (λ x h. among x ys ((two.exactly x).1 ((one.exactly x).0 (contained x xs h))))
    (λ x h. among x xs ((one.exactly x).1 ((two.exactly x).0 (contained x ys h))))

one_least : (P : VersionId → Type 0) (v w : VersionId) → IsLeastVersion P v → IsLeastVersion P w → v ≡ w
one_least P v w one two = elim (in_order version_total version_exact v w) [
  | inl same ↦ same
  | inr (inl before) ↦ absurd (two.1 v before one.0)
  | inr (inr after) ↦ absurd (one.1 w after two.0)
]

-- picks ---------------------------------------------------------------------------------------------------

module _ (c : Setting ℕ) where
  module _ (n : Need) (a : Lived ℕ) (b : Option (Lived ℕ)) where
    abbrev IsFirstBoth : ℕ → Type 0
    IsFirstBoth x = HasBoth c n a b x × ((y : ℕ) → y < x → ¬ (HasBoth c n a b y))

    one_both : (x y : ℕ) → IsFirstBoth x → IsFirstBoth y → x ≡ y
    one_both x y one two = elim (order x y) [
      | inl before ↦ absurd (two.1 x before one.0)
      | inr (inl same) ↦ same
      | inr (inr after) ↦ absurd (one.1 y after two.0)
    ]

    one_pair : (v w : VersionId) (r s : VersionId) → IsPick c n a b (Some (v, Some r)) → IsPick c n a b (Some (w, Some s)) → (v ≡ w) × (r ≡ s)
    one_pair v w r s p q =
        let same = one_both p.1.0 q.1.0 (p.1.1, p.1.2) (q.1.1, q.1.2) in (
          one_least (ServesAs c n a b (Without q.1.0)) v w (subst (λ x. IsLeastVersion (ServesAs c n a b (Without x)) v) same p.1.3) q.1.3,
          one_least (ServesAs c n a b (With q.1.0)) r s (subst (λ x. IsLeastVersion (ServesAs c n a b (With x)) r) same p.1.4) q.1.4,
        )

    one_pick : (p q : Option (VersionId × Option VersionId)) → IsPick c n a b p → IsPick c n a b q → p ≡ q
    one_pick None None p q = refl
    one_pick None (Some (w, None)) p q = absurd (p.0 w q.0)
    one_pick None (Some (w, Some s)) p q = absurd (p.1 q.1.0 q.1.1)
    one_pick (Some (v, None)) None p q = absurd (q.0 v p.0)
    one_pick (Some (v, None)) (Some (w, None)) p q = λ i. Some (one_least _ v w p q i, None)
    one_pick (Some (v, None)) (Some (w, Some s)) p q = absurd (q.0 v p.0)
    one_pick (Some (v, Some r)) None p q = absurd (q.1 p.1.0 p.1.1)
    one_pick (Some (v, Some r)) (Some (w, None)) p q = absurd (p.0 w q.0)
    one_pick (Some (v, Some r)) (Some (w, Some s)) p q = let (one, two) = one_pair v w r s p q in λ i. Some (one i, Some (two i))

  abbrev IsPicked : Entry → Type 0
  IsPicked e = IsTouched c e.0 × Picks c e.0 (Some (e.1, e.2))

  one_entry : (e f : Entry) → e.0 ≡ f.0 → IsPicked e → IsPicked f → e ≡ f
  one_entry e f same one two =
      let (a, b, possible, touched) = one.0 in
      let picks : Picks c e.0 (Some (f.1, f.2)) = subst (λ n. Picks c n (Some (f.1, f.2))) (sym same) two.1 in
      let witnesses : VersionId × Option VersionId = (e.1, e.2) in
      let others : VersionId × Option VersionId = (f.1, f.2) in
      let pair = some_is witnesses others (one_pick e.0 a b (Some witnesses) (Some others) (one.1 a b possible) (picks a b possible)) in
      λ i. (same i, (pair i).0, (pair i).1)

  abbrev needs_of : List Entry → List Need
  needs_of entries = map (λ (e : Entry). e.0) entries

  one_entries : (es fs : List Entry) → needs_of es ≡ needs_of fs
      → ((e : Entry) → Among e es → IsPicked e) → ((e : Entry) → Among e fs → IsPicked e) → es ≡ fs
  one_entries [] [] same one two = refl
  one_entries [] (f ∷ fs) same one two = absurd (cc)
  one_entries (e ∷ es) [] same one two = absurd (cc)
  one_entries (e ∷ es) (f ∷ fs) same one two =
      let head : e.0 ≡ f.0 = cc in
      let tail : needs_of es ≡ needs_of fs = cc in
      λ i. one_entry e f head (one e (inl refl)) (two f (inl refl)) i ∷ one_entries es fs tail (λ x h. one x (inr h)) (λ x h. two x (inr h)) i

  need_among : (entries : List Entry) (e : Entry) → Among e entries → Among e.0 (needs_of entries)
  need_among [] e h = absurd h
  need_among (f ∷ fs) e (inl same) = inl (ap (λ (x : Entry). x.0) same)
  need_among (f ∷ fs) e (inr more) = inr (need_among fs e more)

  picked_each : (entries : List Entry) → ArePicked c entries → (e : Entry) → Among e entries → IsPicked e
  picked_each entries picked e h = (
    (picked.needs.exactly e.0).0 (contained e.0 (needs_of entries) (need_among entries e h)),
    picked.picks e (contained e entries h),
  )

  one_picked : (es fs : List Entry) → ArePicked c es → ArePicked c fs → es ≡ fs
  one_picked es fs one two =
      one_entries es fs (one_list need_total (IsTouched c) (needs_of es) (needs_of fs) one.needs two.needs) (picked_each es one) (picked_each fs two)

  -- a need isn't picked for and left without witnesses
  not_unpicked : (n : Need) (p : VersionId × Option VersionId) → IsTouched c n → Picks c n (Some p) → Picks c n None → ⊥
  not_unpicked n p (a, b, possible, touched) some none =
      let clash : Some p ≡ None = one_pick n a b (Some p) None (some a b possible) (none a b possible) in
      absurd (cc)

  one_unpicked : (n m : Need) → IsFirstUnpicked c n → IsFirstUnpicked c m → n ≡ m
  one_unpicked n m one two = elim (in_order need_total need_exact n m) [
    | inl same ↦ same
    | inr (inl before) ↦ (let (p, picks) = two.first n before one.touched in absurd (not_unpicked n p one.touched picks one.none))
    | inr (inr after) ↦ (let (p, picks) = one.first m after two.touched in absurd (not_unpicked m p two.touched picks two.none))
  ]

  one_blocks : (n : Need) (list other : List ℕ) → IsTouched c n → Blocks c n list → Blocks c n other → list ≡ other
  one_blocks n list other (a, b, possible, touched) one two = one_list nat_cmp_total _ list other (one a b possible) (two a b possible)

  picked_or_unpicked : (entries : List Entry) (n : Need) → ArePicked c entries → IsFirstUnpicked c n → ⊥
  picked_or_unpicked entries n picked first =
      let (e, there, same) = among_mapped (λ (x : Entry). x.0) n entries (among n (needs_of entries) ((picked.needs.exactly n).1 first.touched)) in
      not_unpicked n (e.1, e.2) first.touched (subst (λ m. Picks c m (Some (e.1, e.2))) same (picked.picks e (contained e entries there))) first.none

-- plans ---------------------------------------------------------------------------------------------------

module _ (o : Office) (merge_set : MergeSet) where
  free_of_names : member_fault o merge_set ≡ None → names_fault o merge_set ≡ None
  free_of_names none = (neither (names_fault o merge_set) (first_conflict o 0 merge_set.members) none).0

  free_of_conflicts : member_fault o merge_set ≡ None → first_conflict o 0 merge_set.members ≡ None
  free_of_conflicts none = (neither (names_fault o merge_set) (first_conflict o 0 merge_set.members) none).1

  -- a member in conflict fails a test of members
  not_free : (v : Verdict) → first_conflict o 0 merge_set.members ≡ Some v → member_fault o merge_set ≡ None → ⊥
  not_free v found none = not_both (first_conflict o 0 merge_set.members) v (free_of_conflicts none) found

  blocked_names : (order : List ℕ) (cause : Verdict) → IsBlocked o merge_set order cause → names_fault o merge_set ≡ None
  blocked_names order cause (of_conflict at cell count none found same is) = none
  blocked_names order cause (of_shared cell i j none shared same is) = free_of_names none
  blocked_names order cause (of_unpicked n none apart least blocks is) = free_of_names none

  not_blocked : (entries : List Entry) (order : List ℕ) (cause : Verdict) → IsCleared o merge_set entries → IsBlocked o merge_set order cause → ⊥
  not_blocked entries order cause cleared (of_conflict at cell count none found same is) = not_free (verdict.Conflict at cell count) found cleared.free
  not_blocked entries order cause cleared (of_shared cell i j none shared same is) = not_apart _ cell i j shared (cleared.apart cell)
  not_blocked entries order cause cleared (of_unpicked n none apart least blocks is) = picked_or_unpicked _ entries n cleared.picked least

pub one_kind : OneKindLaw
one_kind o merge_set v entries order cause = (
  λ both. not_both (names_fault o merge_set) v (free_of_names o merge_set both.1.free) both.0,
  λ both. not_both (names_fault o merge_set) v (blocked_names o merge_set order cause both.1) both.0,
  λ both. not_blocked o merge_set entries order cause both.0 both.1,
)

pub one_unfit : OneUnfitLaw
one_unfit o merge_set v w = one_some (names_fault o merge_set) v w

pub one_cleared : OneClearedLaw
one_cleared o merge_set entries others one two = one_picked _ entries others one.picked two.picked

pub one_blocked : OneBlockedLaw
one_blocked o merge_set order other cause reason (of_conflict at cell count none found same is) (of_conflict to q many free found_too same_too is_too) =
    let one : verdict.Conflict at cell count ≡ verdict.Conflict to q many = one_some (first_conflict o 0 merge_set.members) _ _ found found_too in
    let position : at ≡ to = cc in
    (same ∙ ap (λ k. k ∷ []) position ∙ sym same_too, is ∙ one ∙ sym is_too)
one_blocked o merge_set order other cause reason (of_conflict at cell count none found same is) (of_shared q i j free shared same_too is_too) =
    absurd (not_free o merge_set _ found free)
one_blocked o merge_set order other cause reason (of_conflict at cell count none found same is) (of_unpicked n free apart least blocks is_too) =
    absurd (not_free o merge_set _ found free)
one_blocked o merge_set order other cause reason (of_shared q i j free shared same is) (of_conflict at cell count none found same_too is_too) =
    absurd (not_free o merge_set _ found free)
one_blocked o merge_set order other cause reason (of_shared q i j free shared same is) (of_shared r k l free_too shared_too same_too is_too) =
    let one : verdict.SharedCell q i j ≡ verdict.SharedCell r k l = one_cell _ q r i j k l shared shared_too in
    let first : i ≡ k = cc in
    let second : j ≡ l = cc in
    (same ∙ (λ t. first t ∷ second t ∷ []) ∙ sym same_too, is ∙ one ∙ sym is_too)
one_blocked o merge_set order other cause reason (of_shared q i j free shared same is) (of_unpicked n free_too apart least blocks is_too) =
    absurd (not_apart _ q i j shared (apart q))
one_blocked o merge_set order other cause reason (of_unpicked n free apart least blocks is) (of_conflict at cell count none found same_too is_too) =
    absurd (not_free o merge_set _ found free)
one_blocked o merge_set order other cause reason (of_unpicked n free apart least blocks is) (of_shared q i j free_too shared same_too is_too) =
    absurd (not_apart _ q i j shared (apart q))
one_blocked o merge_set order other cause reason (of_unpicked n free apart least blocks is) (of_unpicked m free_too apart_too least_too blocks_too is_too) =
    let c = setting_by_position o merge_set in
    let one = one_unpicked c n m least least_too in
    let same = one_blocks c m order other least_too.touched (subst (λ k. Blocks c k order) one blocks) blocks_too in
    (same, is ∙ ap verdict.Uncovered one ∙ sym is_too)

-- quiet starts --------------------------------------------------------------------------------------------

-- the replies end with the list, or at a command that isn't quiet
abbrev Ends : MergeSet → List Command → List Reply → Office → Type 0
Ends merge_set commands replies left =
    (length replies ≡ length commands) ⊎ ((c : Command) × (slice_get commands (length replies) ≡ Some c) × (is_quiet left merge_set c ≡ false))

ends_of : (merge_set : MergeSet) (commands : List Command) (replies : List Reply) (left : Office) (stopped : Option ℕ)
    → IsStop merge_set commands replies left stopped → Ends merge_set commands replies left
ends_of merge_set commands replies left None stop = inl stop
ends_of merge_set commands replies left (Some number) stop = inr stop.1

record IsStart (o : Office) (merge_set : MergeSet) (commands : List Command) (replies : List Reply) (left : Office) : Type 0 where
  answers : AreAnswers o (take (length replies) commands) replies left
  quiet : AreQuiet o merge_set (take (length replies) commands) (lost_in replies)
  ends : Ends merge_set commands replies left
  found : list_any is_lost replies ≡ false

start_of : (o : Office) (merge_set : MergeSet) (commands : List Command) (replies : List Reply) (left : Office) (stopped : Option ℕ)
    → IsQuietStart o merge_set commands replies left stopped → list_any is_lost replies ≡ false → IsStart o merge_set commands replies left
start_of o merge_set commands replies left stopped start found = record {
  answers = start.answers;
  quiet = start.quiet;
  ends = ends_of merge_set commands replies left stopped start.stop;
  found = found;
}

module _ (merge_set : MergeSet) (c : Command) (cs : List Command) where
  -- a first reply that isn't lost, and the rest
  record IsFirst (o : Office) (reply : Reply) (replies : List Reply) (left : Office) : Type 0 where
    quiet : is_quiet o merge_set c ≡ true
    is : reply ≡ (step o c).reply
    rest : IsStart (step o c).office merge_set cs replies left

  ends_later : (reply : Reply) (replies : List Reply) (left : Office) → Ends merge_set (c ∷ cs) (reply ∷ replies) left → Ends merge_set cs replies left
  ends_later reply replies left (inl same) = inl (omega (arith, same))
  ends_later reply replies left (inr (d, at, noisy)) = inr (d, at, noisy)

  first_of_start : (o : Office) (reply : Reply) (replies : List Reply) (left : Office)
      → IsStart o merge_set (c ∷ cs) (reply ∷ replies) left → IsFirst o reply replies left
  first_of_start o reply replies left start =
      let (next, is, rest) = start.answers in
      let parts = or_parts (is_lost reply) (list_any is_lost replies) start.found in
      let done : answer reply next ≡ step o c = is ∙ ap (λ b. step_or_lost b o c) parts.0 in
      let office : next ≡ (step o c).office = ap (λ (a : Answer). a.office) done in
      let given = (step_or_lost (is_lost reply) o c).office in
      let same : given ≡ (step o c).office = ap (λ b. (step_or_lost b o c).office) parts.0 in
      let lost : (λ k. lost_in (reply ∷ replies) (k + 1)) ≡ lost_in replies = λ i k. lost_later reply replies k i in
      let performed = take (length replies) cs in
      let behind : AreQuiet given merge_set performed (λ k. lost_in (reply ∷ replies) (k + 1)) = λ k x g. start.quiet (suc k) x g in
      record {
        quiet = start.quiet 0 c refl;
        is = ap (λ (a : Answer). a.reply) done;
        rest = record {
          answers = subst (λ p. AreAnswers p performed replies left) office rest;
          quiet = subst (λ p. AreQuiet p merge_set performed (lost_in replies)) same (subst (AreQuiet given merge_set performed) lost behind);
          ends = ends_later reply replies left start.ends;
          found = parts.1;
        };
      }

  -- where nothing is answered the first command isn't quiet
  stops_first : (o left : Office) → IsStart o merge_set (c ∷ cs) [] left → is_quiet o merge_set c ≡ false
  stops_first o left start = by start.ends
    where
      by : Ends merge_set (c ∷ cs) [] left → is_quiet o merge_set c ≡ false
      by (inl same) = absurd (omega (arith, same))
      by (inr (d, at, noisy)) =
          let one : c ≡ d = cc in
          ap (is_quiet o merge_set) one ∙ ap (λ p. is_quiet p merge_set d) (sym start.answers) ∙ noisy

  -- no list of replies stops where another goes on
  not_both_ways : (o left rest : Office) (reply : Reply) (replies : List Reply)
      → IsStart o merge_set (c ∷ cs) [] left → IsStart o merge_set (c ∷ cs) (reply ∷ replies) rest → ⊥
  not_both_ways o left rest reply replies one two =
      true≢false (sym (first_of_start o reply replies rest two).quiet ∙ stops_first o left one)

same_start : (o : Office) (merge_set : MergeSet) (commands : List Command) (replies others : List Reply) (left rest : Office)
    → IsStart o merge_set commands replies left → IsStart o merge_set commands others rest → (replies ≡ others) × (left ≡ rest)
same_start o merge_set commands [] [] left rest one two = (refl, one.answers ∙ sym two.answers)
same_start o merge_set [] [] (s ∷ ss) left rest one two = absurd two.answers
same_start o merge_set [] (r ∷ rs) others left rest one two = absurd one.answers
same_start o merge_set (c ∷ cs) [] (s ∷ ss) left rest one two = absurd (not_both_ways merge_set c cs o left rest s ss one two)
same_start o merge_set (c ∷ cs) (r ∷ rs) [] left rest one two = absurd (not_both_ways merge_set c cs o rest left r rs two one)
same_start o merge_set (c ∷ cs) (r ∷ rs) (s ∷ ss) left rest one two =
    let head = first_of_start merge_set c cs o r rs left one in
    let head_too = first_of_start merge_set c cs o s ss rest two in
    let same : r ≡ s = head.is ∙ sym head_too.is in
    let more = same_start (step o c).office merge_set cs rs ss left rest head.rest head_too.rest in
    (λ i. same i ∷ more.0 i, more.1)

-- a command at which replies stop isn't past the end
not_past : (commands : List Command) (replies : List Reply) (c : Command)
    → length replies ≡ length commands → slice_get commands (length replies) ≡ Some c → ⊥
not_past commands replies c same e = let within = slice_get_within commands (length replies) c e in omega (arith, same, within)

same_stop : (merge_set : MergeSet) (commands : List Command) (replies : List Reply) (left : Office) (stopped halted : Option ℕ)
    → IsStop merge_set commands replies left stopped → IsStop merge_set commands replies left halted → stopped ≡ halted
same_stop merge_set commands replies left None None one two = refl
same_stop merge_set commands replies left None (Some number) one two = absurd (not_past commands replies two.1.0 one two.1.1)
same_stop merge_set commands replies left (Some number) None one two = absurd (not_past commands replies one.1.0 two one.1.1)
same_stop merge_set commands replies left (Some number) (Some other) one two = ap Some (one.0 ∙ sym two.0)

pub one_start : OneStartLaw
one_start o merge_set commands replies others left rest stopped halted one two found found_too =
    let (same, office) = same_start o merge_set commands replies others left rest
    (start_of o merge_set commands replies left stopped one found)
    (start_of o merge_set commands others rest halted two found_too) in
    let stop = subst (λ p. IsStop merge_set commands others p stopped) office (subst (λ rs. IsStop merge_set commands rs left stopped) same one.stop) in
    (same, office, same_stop merge_set commands others rest stopped halted stop two.stop)

-- Who goes before whom by position, and the tests of precedences.
use Rattle.std.proofs.Common.{◌≡◌, ◌∙◌, ℕ, zero, suc, ◌+◌, ◌<◌, ◌≤◌, Bool, true, false, not, ◌==◌, ◌&&◌, ◌||◌, cond, List, [], ◌∷◌, ◌++◌, nat_lt, get_or, length}
use Rattle.std.proofs.Common.{take, refl, sym, ap, arith, Option, Some, None, slice_get, ◌⊎◌, inl, inr}
use Rattle.std.specs.List.{list_any, position}
use Rattle.std.specs.Option.{option_map, option_or}
use Rattle.std.proofs.lemmas.Bool.{and_parts, cases_Bool, false≢true, lt-ltb, le-ltb, or_left, or_right}
use Rattle.std.proofs.lemmas.Bool.Decides.{Decides-eqb}
use Rattle.std.proofs.lemmas.List.Folds.{list_any-append}
use Rattle.std.proofs.lemmas.List.{take_all, take_more}
use Rattle.std.proofs.lemmas.Option.{slice_get-get_or, slice_get-map, slice_get_within}
use Rattle.clr_rows.proofs.SchemaLemmas.{list_any-map}
use Rattle.clr_cert.specs.declared.certificates.Precedence.{Precedence}
use Rattle.std.proofs.Math.Bool.{and-false, or-false}
use Rattle.std.specs.Str.{bytes_eq}
use Rattle.clr_workspaces.specs.Marks.{Name}
use Rattle.clr_needs.specs.Settings.{has as has_by}
use Rattle.clr_steps.specs.Names.{has, same_name}
use Rattle.clr_steps.specs.Offices.{Office, is_kept, stands}
use Rattle.clr_steps.proofs.FindLemmas.{same_is, same_itself}
use Rattle.clr_clearance.specs.declared.verdicts.Verdict.{Verdict}
use Rattle.clr_clearance.specs.declared.verdicts.Verdict.TheVariants as verdict
use Rattle.clr_clearance.specs.MergeSets.{is_child}
use Rattle.clr_clearance.specs.Verdicts.{first_repeated, names_fault}
use Rattle.clr_clearance.proofs.ClearLemmas.{AllDiffer, has_at, position_of}
use Rattle.clr_clearance.proofs.NameLemmas.{has_is}
use Rattle.clr_ordered_needs.specs.Positions.{goes_before_if_any}
use Rattle.clr_ordered_needs.specs.Turns.{is_earlier}
use Rattle.clr_ordered_clearance.specs.MergeSets.{OrderedMergeSet, goes_before}
use Rattle.clr_ordered_clearance.specs.Verdicts.{misplaced_pair, names_fault_in_turn}
use Rattle.clr_merge_sets.specs.Certificates.{pairs_in}
use Rattle.clr_merge_sets.specs.Faults.{is_told_first}
use Rattle.clr_merge_sets.specs.PositionPairs.{SayWhoGoesBefore, is_at, pair_is, pairs_say}
use Rattle.clr_merge_sets.specs.declared.precedence_pairs.PositionPair.{PositionPair}
use Rattle.clr_merge_sets.proofs.NameLemmas.{NonePasses}

-- one name of a list ---------------------------------------------------------------------------------

differ : (m n : ℕ) → ¬ (m ≡ n) → (m == n) ≡ false
differ m n apart = elim (cases_Bool (m == n)) [
  | inl h ↦ absurd (apart ((Decides-eqb m n).0 h))
  | inr h ↦ h
]

is_the : (r : Option Name) (name : Name) → is_at r name ≡ true → r ≡ Some name
is_the None name h = absurd (false≢true h)
is_the (Some m) name h = ap Some (sym (same_is name m h))

at_it : (r : Option Name) (name : Name) → r ≡ Some name → is_at r name ≡ true
at_it None name e = absurd (cc)
at_it (Some m) name e = let one : m ≡ name = cc in ap (same_name name) one ∙ same_itself name

unlike : (m name : Name) → same_name m name ≡ false → same_name name m ≡ false
unlike m name apart = elim (cases_Bool (same_name name m)) [
  | inl h ↦ absurd (false≢true (sym apart ∙ ap (same_name m) (same_is name m h) ∙ same_itself m))
  | inr h ↦ h
]

pub unlike_text : (n name : Name) → bytes_eq n name ≡ false → same_name n name ≡ false
unfolding same_name
unlike_text n name e = e

module _ (names : List Name) where
  pub found_position : AllDiffer names → (at : ℕ) (n name : Name) → slice_get names at ≡ Some n → bytes_eq n name ≡ true → (j : ℕ)
      → (at == j) ≡ is_at (slice_get names j) name
  unfolding same_name
  found_position once at n name is same j = elim (cases_Bool (is_at (slice_get names j) name)) [
    | inl h ↦ (Decides-eqb at j).1 (once at j n is (is_the (slice_get names j) name h ∙ ap Some (sym (same_is n name same)))) ∙ sym h
    | inr h ↦ differ at j (λ one. false≢true (sym h ∙ at_it (slice_get names j) name (ap (slice_get names) (sym one) ∙ is ∙ ap Some (same_is n name same))))
        ∙ sym h
  ]

  pub no_position : (at : ℕ) (name : Name) → length names ≤ at → NonePasses (λ n. same_name n name) names at → (j : ℕ)
      → false ≡ is_at (slice_get names j) name
  no_position at name past none j = by (slice_get names j) refl
    where
      by : (r : Option Name) → slice_get names j ≡ r → false ≡ is_at r name
      by None e = refl
      by (Some m) e = let within = slice_get_within names j m e in sym (unlike m name (none j m (omega (arith, within, past)) e))

-- one name before another ----------------------------------------------------------------------------

earlier_there : (names : List Name) (e l : Name) → is_earlier same_name names e l ≡ true → (has names e ≡ true) × (has names l ≡ true)
earlier_there [] e l h = absurd (false≢true h)
earlier_there (n ∷ ns) e l h = by (same_name n e) refl h (earlier_there ns e l)
  where
    by : (b : Bool) → same_name n e ≡ b → cond b (has_by same_name ns l) (is_earlier same_name ns e l) ≡ true
        → (is_earlier same_name ns e l ≡ true → (has ns e ≡ true) × (has ns l ≡ true)) → (has (n ∷ ns) e ≡ true) × (has (n ∷ ns) l ≡ true)
    by true f g more = (or_left (same_name n e) (has ns e) f, or_right (same_name n l) (has ns l) (sym (has_is ns l) ∙ g))
    by false f g more =
        let rest = more g in
        (or_right (same_name n e) (has ns e) rest.0, or_right (same_name n l) (has ns l) rest.1)

behind : (n : Name) (ns : List Name) → AllDiffer (n ∷ ns) → AllDiffer ns
behind n ns once j k name e f = let one : suc j ≡ suc k = once (suc j) (suc k) name e f in omega (arith, one)

alone : (n : Name) (ns : List Name) → AllDiffer (n ∷ ns) → has ns n ≡ true → ⊥
alone n ns once h = let (k, e) = position_of ns n h in let one : 0 ≡ suc k = once 0 (suc k) n refl e in omega (arith, one)

rises : (names : List Name) (i j : ℕ) (e l : Name) → i < j → slice_get names i ≡ Some e → slice_get names j ≡ Some l → is_earlier same_name names e l ≡ true
rises [] i j e l less is at = absurd (cc)
rises (n ∷ ns) i zero e l less is at = absurd (omega (arith, less))
rises (n ∷ ns) zero (suc j) e l less is at =
    let one : n ≡ e = cc in
    ap (λ b. cond b (has_by same_name ns l) (is_earlier same_name ns e l)) (ap (same_name n) (sym one) ∙ same_itself n) ∙ has_is ns l ∙ has_at ns j l at
rises (n ∷ ns) (suc i) (suc j) e l less is at = by (same_name n e) (rises ns i j e l (omega (arith, less)) is at)
  where
    by : (b : Bool) → is_earlier same_name ns e l ≡ true → cond b (has_by same_name ns l) (is_earlier same_name ns e l) ≡ true
    by true more = has_is ns l ∙ has_at ns j l at
    by false more = more

falls : (names : List Name) (i j : ℕ) (e l : Name) → AllDiffer names → j ≤ i → slice_get names i ≡ Some e → slice_get names j ≡ Some l
    → is_earlier same_name names e l ≡ true → ⊥
falls [] i j e l once le is at h = absurd (cc)
falls (n ∷ ns) zero (suc j) e l once le is at h = absurd (omega (arith, le))
falls (n ∷ ns) i zero e l once le is at h = by (same_name n e) h
  where
    first : n ≡ l
    first = cc

    none : has ns l ≡ true → ⊥
    none there = alone n ns once (ap (has ns) first ∙ there)

    by : (b : Bool) → cond b (has_by same_name ns l) (is_earlier same_name ns e l) ≡ true → ⊥
    by true g = none (sym (has_is ns l) ∙ g)
    by false g = none (earlier_there ns e l g).1
falls (n ∷ ns) (suc i) (suc j) e l once le is at h = by (same_name n e) refl h (falls ns i j e l (behind n ns once) (omega (arith, le)) is at)
  where
    by : (b : Bool) → same_name n e ≡ b → cond b (has_by same_name ns l) (is_earlier same_name ns e l) ≡ true
        → (is_earlier same_name ns e l ≡ true → ⊥) → ⊥
    by true f g more = alone n ns once (ap (has ns) (same_is n e f) ∙ has_at ns i e is)
    by false f g more = more g

module _ (names : List Name) (once : AllDiffer names) (e l : Name) where
  not_true : (b : Bool) → (b ≡ true → ⊥) → b ≡ false
  not_true true refused = absurd (refused refl)
  not_true false refused = refl

  -- a pair that was found tells whether the one name stands before the other
  pub rising_pair : (p : PositionPair) → ((j k : ℕ) → pair_is j k p ≡ is_at (slice_get names j) e && is_at (slice_get names k) l)
      → nat_lt p.earlier p.later ≡ is_earlier same_name names e l
  rising_pair p told = by (order p.earlier p.later)
    where
      itself : pair_is p.earlier p.later p ≡ true
      itself = λ i. (Decides-eqb p.earlier p.earlier).1 refl i && (Decides-eqb p.later p.later).1 refl i

      both : (is_at (slice_get names p.earlier) e ≡ true) × (is_at (slice_get names p.later) l ≡ true)
      both = and_parts (is_at (slice_get names p.earlier) e) (is_at (slice_get names p.later) l) (sym (told p.earlier p.later) ∙ itself)

      is : slice_get names p.earlier ≡ Some e
      is = is_the (slice_get names p.earlier) e both.0

      at : slice_get names p.later ≡ Some l
      at = is_the (slice_get names p.later) l both.1

      order : (i j : ℕ) → (i < j) ⊎ (j ≤ i)
      order i j = grind arith

      by : (p.earlier < p.later) ⊎ (p.later ≤ p.earlier) → nat_lt p.earlier p.later ≡ is_earlier same_name names e l
      by (inl less) = lt-ltb p.earlier p.later less ∙ sym (rises names p.earlier p.later e l less is at)
      by (inr le) = le-ltb p.earlier p.later le ∙ sym (not_true _ (falls names p.earlier p.later e l once le is at))

  pub no_pair : ((j k : ℕ) → false ≡ is_at (slice_get names j) e && is_at (slice_get names k) l) → false ≡ is_earlier same_name names e l
  no_pair told = sym (not_true _ none)
    where
      none : is_earlier same_name names e l ≡ true → ⊥
      none h =
          let (there, too) = earlier_there names e l h in
          let (j, is) = position_of names e there in
          let (k, at) = position_of names l too in
          false≢true (told j k ∙ (λ i. at_it (slice_get names j) e is i && at_it (slice_get names k) l at i))

-- pairs of a list ------------------------------------------------------------------------------------

pub pair_at : (before : List Precedence) (k : ℕ) (p : Precedence) → k < length before → p ≡ get_or before k p
    → slice_get (pairs_in before) k ≡ Some (p.earlier, p.later)
pair_at before k p less is =
    slice_get-map (λ (q : Precedence). (q.earlier, q.later)) before k
    ∙ ap (option_map (λ (q : Precedence). (q.earlier, q.later))) (slice_get-get_or before k p less ∙ ap Some (sym is))

module _ (names : List Name) (j k : ℕ) where
  -- the pair of names is of these positions
  abbrev pub says : (Name × Name) → Bool
  says p = is_at (slice_get names j) p.0 && is_at (slice_get names k) p.1

  pub one_pair : (pairs added : List PositionPair) (p : PositionPair) (told : Bool) → added ≡ pairs ++ p ∷ [] → pair_is j k p ≡ told
      → pairs_say added j k ≡ pairs_say pairs j k || told
  one_pair pairs added p told is one =
      ap (list_any (pair_is j k)) is ∙ list_any-append (pair_is j k) pairs (p ∷ [])
      ∙ ap (λ b. pairs_say pairs j k || b) (or-false (pair_is j k p) ∙ one)

  pub silent_pair : (pairs : List PositionPair) (told : Bool) → false ≡ told → pairs_say pairs j k ≡ pairs_say pairs j k || told
  silent_pair pairs told none = sym (or-false (pairs_say pairs j k)) ∙ ap (λ b. pairs_say pairs j k || b) none

  pub said_more : (before : List Precedence) (at : ℕ) (p : Precedence) (old new : Bool) → at < length before → p ≡ get_or before at p
      → new ≡ old || says (p.earlier, p.later) → old ≡ list_any says (pairs_in (take at before)) → new ≡ list_any says (pairs_in (take (at + 1) before))
  said_more before at p old new less is one same =
      one ∙ ap (λ b. b || says (p.earlier, p.later)) same
      ∙ sym (ap (λ ps. list_any says (pairs_in ps)) (take_more before at p less ∙ ap (λ q. take at before ++ q ∷ []) (sym is))
      ∙ list_any-map says (λ (q : Precedence). (q.earlier, q.later)) (take at before ++ p ∷ [])
      ∙ list_any-append (λ (q : Precedence). says (q.earlier, q.later)) (take at before) (p ∷ [])
      ∙ (λ i. sym (list_any-map says (λ (q : Precedence). (q.earlier, q.later)) (take at before)) i || or-false (says (p.earlier, p.later)) i))

module _ (names : List Name) (j k : ℕ) where
  pub said_all : (before : List Precedence) (at : ℕ) → length before ≤ at
      → list_any (says names j k) (pairs_in (take at before)) ≡ list_any (says names j k) (pairs_in before)
  said_all before at past = ap (λ ps. list_any (says names j k) (pairs_in ps)) (take_all at before past)

none_says : {X : Type 0} (f : X → Bool) → ((x : X) → f x ≡ false) → (xs : List X) → list_any f xs ≡ false
none_says f fails [] = refl
none_says f fails (x ∷ xs) = λ i. fails x i || none_says f fails xs i

pub pairs_tell : (ordered : OrderedMergeSet) (pairs : List PositionPair)
    → ((j k : ℕ) → pairs_say pairs j k ≡ list_any (says ordered.merge_set.members j k) ordered.before) → SayWhoGoesBefore ordered pairs
pairs_tell ordered pairs same j k = same j k ∙ by (slice_get ordered.merge_set.members j) (slice_get ordered.merge_set.members k)
  where
    by : (m n : Option Name) → list_any (λ (p : Name × Name). is_at m p.0 && is_at n p.1) ordered.before ≡ goes_before_if_any (goes_before ordered) m n
    by None n = none_says (λ (p : Name × Name). is_at None p.0 && is_at n p.1) (λ p. refl) ordered.before
    by (Some m) None = none_says (λ (p : Name × Name). is_at (Some m) p.0 && is_at None p.1) (λ p. and-false (same_name p.0 m)) ordered.before
    by (Some m) (Some n) = refl

-- the tests of names ---------------------------------------------------------------------------------

module _ (o : Office) (ordered : OrderedMergeSet) where
  -- a fault that is told first is the fault; behind the others that of precedences comes first
  pub told_first : is_told_first (names_fault o ordered.merge_set) ≡ true → names_fault o ordered.merge_set ≡ names_fault_in_turn o ordered
  unfolding names_fault names_fault_in_turn
  told_first =
      by (is_kept o ordered.merge_set.root) (first_repeated ordered.merge_set.members) (misplaced_pair ordered)
      (position (λ name. not (stands o name)) ordered.merge_set.members)
      (position (λ name. not (is_child o ordered.merge_set name)) ordered.merge_set.members)
    where
      by : (b : Bool) (r : Option ℕ) (m : Option Verdict) (s t : Option ℕ)
          → is_told_first (option_or (cond b None (Some verdict.NotKept)) (option_or (option_map verdict.RepeatedMember r)
          (option_or (option_map verdict.NoWorkspace s) (option_map verdict.NotUnderRoot t)))) ≡ true
          → option_or (cond b None (Some verdict.NotKept)) (option_or (option_map verdict.RepeatedMember r)
          (option_or (option_map verdict.NoWorkspace s) (option_map verdict.NotUnderRoot t)))
          ≡ option_or (cond b None (Some verdict.NotKept)) (option_or (option_map verdict.RepeatedMember r)
          (option_or m (option_or (option_map verdict.NoWorkspace s) (option_map verdict.NotUnderRoot t))))
      by false r m s t h = refl
      by true (Some k) m s t h = refl
      by true None m (Some k) t h = absurd (false≢true h)
      by true None m None (Some k) h = absurd (false≢true h)
      by true None m None None h = absurd (false≢true h)

  pub record IsBehind : Type 0 where
    pub once : first_repeated ordered.merge_set.members ≡ None
    pub fault : option_or (misplaced_pair ordered) (names_fault o ordered.merge_set) ≡ names_fault_in_turn o ordered

  pub told_behind : is_told_first (names_fault o ordered.merge_set) ≡ false → IsBehind
  unfolding names_fault names_fault_in_turn
  told_behind h =
      let parts = by (is_kept o ordered.merge_set.root) (first_repeated ordered.merge_set.members) (misplaced_pair ordered)
      (position (λ name. not (stands o name)) ordered.merge_set.members)
      (position (λ name. not (is_child o ordered.merge_set name)) ordered.merge_set.members) h in
      record { once = parts.0; fault = parts.1 }
    where
      by : (b : Bool) (r : Option ℕ) (m : Option Verdict) (s t : Option ℕ)
          → is_told_first (option_or (cond b None (Some verdict.NotKept)) (option_or (option_map verdict.RepeatedMember r)
          (option_or (option_map verdict.NoWorkspace s) (option_map verdict.NotUnderRoot t)))) ≡ false
          → (r ≡ None) × (option_or m (option_or (cond b None (Some verdict.NotKept)) (option_or (option_map verdict.RepeatedMember r)
          (option_or (option_map verdict.NoWorkspace s) (option_map verdict.NotUnderRoot t))))
          ≡ option_or (cond b None (Some verdict.NotKept)) (option_or (option_map verdict.RepeatedMember r)
          (option_or m (option_or (option_map verdict.NoWorkspace s) (option_map verdict.NotUnderRoot t)))))
      by false r m s t h = absurd (false≢true (sym h))
      by true (Some k) m s t h = absurd (false≢true (sym h))
      by true None m s t h = (refl, refl)

-- What can be asked of some rows: every ask that they call, in order.
use Rattle.std.proofs.Common.{◌≡◌, inl, inr, ℕ, zero, suc, ◌+◌, ◌<◌, ◌≤◌, true, List, map, length, Option, Some, None, slice_get, refl, sym, ap, subst, arith}
use Rattle.std.proofs.lemmas.Bool.{and_parts, cases_lt, eqb-true, false≢true, lt-ltb}
use Rattle.std.proofs.lemmas.Cmp.{nat_cmp_total}
use Rattle.std.proofs.lemmas.Option.{slice_get_within}
use Rattle.std.specs.Cmp.{tied_itself}
use Rattle.std.specs.List.{range_with_len}
use Rattle.std.specs.List.Sorted.{IsStrictlySortedBy}
use Rattle.std.specs.Ordering.{nat_cmp, ordering_then}
use Rattle.std.specs.declared.cmp.Ordering.{Ordering}
use Rattle.std.specs.declared.cmp.Ordering.TheVariants.{Less, Equal}
use Rattle.clr_rows.specs.Held.{Held}
use Rattle.clr_rows.specs.Parts.{parts_of, part_of}
use Rattle.clr_rules.specs.declared.needs.Ask.{Ask}
use Rattle.clr_rules.specs.declared.rules.Rule.{Rule}
use Rattle.clr_rules.specs.declared.rules.Rule.TheVariants.{Unique, Crossing, Near}
use Rattle.clr_rules.specs.Calls.{ask_of_parts, is_plain, part_count, part_count_by, asks_up_to, asks, have_meeting, are_related, are_subjects, are_subjects_of}
use Rattle.clr_rules.specs.Calls.{calls}
use Rattle.clr_rules.specs.Sides.{Segment, is_of, are_of, sides}
use Rattle.clr_rules.proofs.Elements.{Among, mapped_among, among_mapped, flat_among, among_flat, all_by, rising_mapped, rising_flat}

-- the numbers of parts -------------------------------------------------------------------------
in_range : (from n m : ℕ) → from ≤ m → m < from + n → Among m (range_with_len from n)
in_range from zero m low high = absurd (omega (arith, low, high))
in_range from (suc n) m low high = elim (cases_lt from m) [
  | inl less ↦ inr (in_range (from + 1) n m (omega (arith, less)) (omega (arith, high)))
  | inr more ↦ inl (omega (arith, low, more))
]

from_range : (from n m : ℕ) → Among m (range_with_len from n) → from ≤ m
from_range from zero m h = absurd h
from_range from (suc n) m (inl same) = omega (arith, same)
from_range from (suc n) m (inr h) = let k = from_range (from + 1) n m h in omega (arith, k)

pub less_number : (m n : ℕ) → m < n → nat_cmp m n ≡ Less
less_number m n h = rw (lt-ltb m n h) refl

range_rises : (from n : ℕ) → IsStrictlySortedBy nat_cmp (range_with_len from n)
unfolding IsStrictlySortedBy
range_rises from zero = tt
range_rises from (suc n) = (
  all_by (λ m. nat_cmp from m ≡ Less) (range_with_len (from + 1) n) (λ m h. let k = from_range (from + 1) n m h in less_number from m (omega (arith, k))),
  range_rises (from + 1) n,
)

-- asks in order ---------------------------------------------------------------------------------
abbrev pub ask_cmp : Ask → Ask → Ordering
ask_cmp a b = ordering_then (nat_cmp a.rule b.rule) (ordering_then (nat_cmp a.first_part b.first_part) (nat_cmp a.second_part b.second_part))

same_number : (n : ℕ) → nat_cmp n n ≡ Equal
same_number n = tied_itself nat_cmp_total n

up_to_rise : (number m n : ℕ) → IsStrictlySortedBy ask_cmp (asks_up_to number m n)
up_to_rise number m n = rising_flat nat_cmp ask_cmp (λ i. map (λ j. ask_of_parts number i j) (range_with_len 1 n))
    (λ i. rising_mapped nat_cmp ask_cmp (λ j. ask_of_parts number i j) (λ j k e. rw (same_number number, same_number i) e) (range_with_len 1 n)
    (range_rises 1 n))
    (λ i k e x y h l.
    let (j, _, p) = among_mapped (λ j. ask_of_parts number i j) x (range_with_len 1 n) h in
    let (o, _, q) = among_mapped (λ j. ask_of_parts number k j) y (range_with_len 1 n) l in
    subst (λ (a : Ask). ask_cmp a y ≡ Less) p (subst (λ (b : Ask). ask_cmp (ask_of_parts number i j) b ≡ Less) q (rw (same_number number, e) refl)))
    (range_with_len 1 m) (range_rises 1 m)

pub asks_rise : (rules : List Rule) (number : ℕ) (s : Held) (t : Option Held) → IsStrictlySortedBy ask_cmp (asks rules number s t)
unfolding IsStrictlySortedBy
asks_rise rules number s None = (tt, tt)
asks_rise rules number s (Some t) = up_to_rise number (part_count rules number s) (part_count rules number t)

pub asked_rule : (rules : List Rule) (number : ℕ) (s : Held) (t : Option Held) (ask : Ask) → Among ask (asks rules number s t) → ask.rule ≡ number
asked_rule rules number s None ask (inl e) = sym (ap (λ (a : Ask). a.rule) e)
asked_rule rules number s None ask (inr h) = absurd h
asked_rule rules number s (Some t) ask h =
    let m = part_count rules number s in
    let n = part_count rules number t in
    let (i, _, k) = among_flat (λ i. map (λ j. ask_of_parts number i j) (range_with_len 1 n)) ask (range_with_len 1 m) h in
    let (j, _, e) = among_mapped (λ j. ask_of_parts number i j) ask (range_with_len 1 n) k in
    sym (ap (λ (a : Ask). a.rule) e)

-- every ask that calls is one of them -------------------------------------------------------------
pub up_to_has : (number m n i j : ℕ) → 1 ≤ i → i ≤ m → 1 ≤ j → j ≤ n → Among (ask_of_parts number i j) (asks_up_to number m n)
up_to_has number m n i j low high left right = flat_among (λ i. map (λ j. ask_of_parts number i j) (range_with_len 1 n)) i (ask_of_parts number i j)
    (range_with_len 1 m)
    (in_range 1 m i low (omega (arith, high)))
    (mapped_among (λ j. ask_of_parts number i j) j (range_with_len 1 n) (in_range 1 n j left (omega (arith, right))))

pub plain_parts : (ask : Ask) → is_plain ask ≡ true → (ask.first_part ≡ 1) × (ask.second_part ≡ 1)
plain_parts ask e = let p = and_parts _ _ e in (eqb-true _ _ p.0, eqb-true _ _ p.1)

-- parts that have a common point are there
part_there : (s : Held) (n : ℕ) (e : Segment) → part_of s.1.shape n ≡ Some e → (1 ≤ n) × (n ≤ length (parts_of s.1.shape))
part_there s zero e is = absurd (cc)
part_there s (suc n) e is = let h = slice_get_within (parts_of s.1.shape) n e is in (omega arith, omega (arith, h))

both_there : (o p : Option Segment) → have_meeting o p ≡ true → (a : Segment) × (b : Segment) × (o ≡ Some a) × (p ≡ Some b)
both_there None p e = absurd (false≢true e)
both_there (Some a) None e = absurd (false≢true e)
both_there (Some a) (Some b) e = (a, b, refl, refl)

-- the number of a part that is there
abbrev pub IsPart : ℕ → ℕ → Type 0
IsPart count n = (k : ℕ) × (k < count) × (n ≡ suc k)

counted : (count n : ℕ) → 1 ≤ n → n ≤ count → IsPart count n
counted count zero low high = absurd (omega (arith, low))
counted count (suc k) low high = (k, omega (arith, high), refl)

up_to_count : (count n : ℕ) → IsPart count n → (1 ≤ n) × (n ≤ count)
up_to_count count n h = let (k, less, is) = h in (omega (arith, is), omega (arith, less, is))

plain_there : (ask : Ask) → is_plain ask ≡ true → IsPart 1 ask.first_part × IsPart 1 ask.second_part
plain_there ask e = let p = plain_parts ask e in ((0, omega arith, p.0), (0, omega arith, p.1))

-- the parts of two rows that call are there
parts_there : (rule : Rule) (ask : Ask) (s t : Held) → are_related rule ask s t ≡ true
    → IsPart (part_count_by (Some rule) s) ask.first_part × IsPart (part_count_by (Some rule) t) ask.second_part
parts_there (Unique subject columns) ask s t e = plain_there ask (and_parts (is_plain ask) _ e).0
parts_there (Crossing a b server) ask s t e =
    let (p, q, is_p, is_q) = both_there (part_of s.1.shape ask.first_part) (part_of t.1.shape ask.second_part) e in
    let one = part_there s ask.first_part p is_p in
    let other = part_there t ask.second_part q is_q in
    (counted (length (parts_of s.1.shape)) ask.first_part one.0 one.1, counted (length (parts_of t.1.shape)) ask.second_part other.0 other.1)
parts_there (Near a b d) ask s t e = plain_there ask (and_parts (is_plain ask) _ e).0
parts_there _ ask s t e = absurd (false≢true e)

-- a rule that is asked of one row is asked of it as a whole
whole_alone : (rule : Rule) (s : Held) → is_of (sides rule).alone s ≡ true → part_count_by (Some rule) s ≡ 1
whole_alone (Crossing a b server) s e = absurd (false≢true e)
whole_alone _ s e = refl

pub first_part_by : (rule : Rule) (ask : Ask) (s : Held) (t : Option Held) → are_subjects rule ask s t ≡ true →
    IsPart (part_count_by (Some rule) s) ask.first_part
unfolding are_subjects
first_part_by rule ask s None e =
    let p = and_parts (is_plain ask) _ e in
    subst (λ n. IsPart n ask.first_part) (sym (whole_alone rule s p.1)) (plain_there ask p.0).0
first_part_by rule ask s (Some t) e = (parts_there rule ask s t (and_parts (are_of (sides rule).first (sides rule).second s t) _ e).1).0

pub second_part_by : (rule : Rule) (ask : Ask) (s t : Held) → are_subjects rule ask s (Some t) ≡ true → IsPart (part_count_by (Some rule) t) ask.second_part
unfolding are_subjects
second_part_by rule ask s t e = (parts_there rule ask s t (and_parts (are_of (sides rule).first (sides rule).second s t) _ e).1).1

asked_by : (r : Option Rule) (ask : Ask) (s t : Held) → are_subjects_of r ask s (Some t) ≡ true
    → Among ask (asks_up_to ask.rule (part_count_by r s) (part_count_by r t))
asked_by None ask s t e = absurd (false≢true e)
asked_by (Some rule) ask s t e =
    let m = part_count_by (Some rule) s in
    let n = part_count_by (Some rule) t in
    let one = up_to_count m ask.first_part (first_part_by rule ask s (Some t) e) in
    let other = up_to_count n ask.second_part (second_part_by rule ask s t e) in
    up_to_has ask.rule m n ask.first_part ask.second_part one.0 one.1 other.0 other.1

pub alone_plain : (r : Option Rule) (ask : Ask) (s : Held) → are_subjects_of r ask s None ≡ true → is_plain ask ≡ true
unfolding are_subjects
alone_plain None ask s e = absurd (false≢true e)
alone_plain (Some rule) ask s e = (and_parts (is_plain ask) _ e).0

pub asked : (rules : List Rule) (ask : Ask) (s : Held) (t : Option Held) → calls rules ask s t ≡ true → Among ask (asks rules ask.rule s t)
unfolding calls part_count
asked rules ask s None e = let p = plain_parts ask (alone_plain (slice_get rules ask.rule) ask s e) in inl (λ k. ask_of_parts ask.rule (sym p.0 k) (sym p.1 k))
asked rules ask s (Some t) e = asked_by (slice_get rules ask.rule) ask s t e

-- a rule that calls is there
pub rule_there : (rules : List Rule) (ask : Ask) (s : Held) (t : Option Held) → calls rules ask s t ≡ true → ask.rule < length rules
unfolding calls
rule_there rules ask s t e = go (slice_get rules ask.rule) refl e
  where
    go : (r : Option Rule) → slice_get rules ask.rule ≡ r → are_subjects_of r ask s t ≡ true → ask.rule < length rules
    go None at f = absurd (false≢true f)
    go (Some rule) at f = slice_get_within rules ask.rule rule at

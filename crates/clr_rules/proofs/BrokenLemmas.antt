-- The broken needs that are listed for a content are exactly those that its rows have, in order.
use Rattle.std.proofs.Common.{◌≡◌, ◌⊎◌, inl, inr, ℕ, zero, suc, ◌<◌, Bool, true, false, cond, not, T, List, [], ◌∷◌, length, map, filter, Option, Some, None}
use Rattle.std.proofs.Common.{slice_get, refl, sym, ap, subst, ◌∙◌, arith, All}
use Rattle.std.proofs.lemmas.Bool.{and_parts, false≢true, cases_lt}
use Rattle.std.proofs.lemmas.Cmp.{nat_cmp_total}
use Rattle.std.proofs.lemmas.List.Elements.{All-nil, All-cons}
use Rattle.std.proofs.lemmas.List.Kept.{IsStrictlySortedBy-filter}
use Rattle.std.specs.Cmp.{Equal-is, tied_itself}
use Rattle.std.specs.Cmp.Lexicographic.{options_total}
use Rattle.std.specs.FinMap.{entries, find, get-entries, entries_sorted, is_sorted}
use Rattle.std.specs.FinMap.Entries.{below_all}
use Rattle.std.specs.List.{list_any}
use Rattle.std.specs.List.Sorted.{IsStrictlySortedBy}
use Rattle.std.specs.Option.{option_map, option_cmp}
use Rattle.std.specs.Ordering.{eq_by_cmp, is_eq, is_lt, is_gt, ordering_reverse}
use Rattle.std.specs.declared.cmp.Ordering.{Ordering}
use Rattle.std.specs.declared.cmp.Ordering.TheVariants.{Less, Equal, Greater}
use Rattle.clr_rows.specs.declared.cells.CellId.{CellId}
use Rattle.clr_rows.specs.declared.rows.Row.{Row}
use Rattle.clr_rows.specs.Cells.{cell_cmp}
use Rattle.clr_rows.specs.Contents.{Content, row_at}
use Rattle.clr_rows.proofs.Tests.{first, second, less}
use Rattle.clr_rows.proofs.CellOrder.{cell_cmp_total, cell_cmp_exact}
use Rattle.clr_rules.specs.declared.needs.Broken.{Broken}
use Rattle.clr_rules.specs.declared.rules.Rule.{Rule}
use Rattle.clr_rows.specs.Held.{Held}
use Rattle.clr_rules.specs.declared.needs.Ask.{Ask}
use Rattle.clr_rules.specs.Calls.{asks, calls, serves}
use Rattle.clr_rules.specs.Books.{FitsCell, FitTogether, FitsContent}
use Rattle.clr_rules.specs.Laws.{BrokenLaw}
use Rattle.clr_rules.specs.Needs.{ask_of, broken_between, Stands, StandsBeside, IsNeed, IsMet, broken_cmp, broken_at, is_after, choices, is_broken, broken_from}
use Rattle.clr_rules.specs.Needs.{broken_of, broken_below, rows_in, broken_needs, IsBroken, IsFirstBroken}
use Rattle.clr_rules.proofs.AskLemmas.{ask_cmp, less_number, asks_rise, asked, asked_rule, rule_there}
use Rattle.clr_rules.proofs.BrokenOrder.{broken_total}
use Rattle.clr_rules.proofs.Elements.{clash, Among, among_left, among_right, among_either, kept_among, among_kept, any_by, some_of, contained, among, each_of}
use Rattle.clr_rules.proofs.Elements.{all_by, mapped_among, among_mapped, flat_among, among_flat, AllBelow, rising_joined, rising_flat, rising_mapped}

-- the rows of a content, as a list and by cell ------------------------------------------------
found : (q : CellId) (r : Row) (es : List Held) → find cell_cmp q es ≡ Some r → Among (q, r) es
found q r [] e = absurd (cc)
found q r (x ∷ es) e = go (eq_by_cmp cell_cmp q x.0) refl e (found q r es)
  where
    go : (b : Bool) → eq_by_cmp cell_cmp q x.0 ≡ b → cond b (Some x.1) (find cell_cmp q es) ≡ Some r → (find cell_cmp q es ≡ Some r → Among (q, r) es)
        → Among (q, r) (x ∷ es)
    go true p d more = let i : q ≡ x.0 = cell_cmp_exact q x.0 ((Equal-is (cell_cmp q x.0)).0 p) in let j : x.1 ≡ r = cc in inl (λ k. (sym i k, j k))
    go false p d more = inr (more d)

below_among : (x : CellId) (s : Held) (es : List Held) → T (below_all cell_cmp x es) → Among s es → cell_cmp x s.0 ≡ Less
below_among x s [] b h = absurd h
below_among x s (e ∷ es) b (inl same) = subst (λ (k : Held). cell_cmp x k.0 ≡ Less) same (less (cell_cmp x e.0) (first _ _ b))
below_among x s (e ∷ es) b (inr h) = below_among x s es (second (is_lt (cell_cmp x e.0)) (below_all cell_cmp x es) b) h

found_back : (s : Held) (es : List Held) → T (is_sorted cell_cmp es) → Among s es → find cell_cmp s.0 es ≡ Some s.1
found_back s [] b h = absurd h
found_back s (e ∷ es) b (inl same) = subst (λ (k : Held). find cell_cmp k.0 (e ∷ es) ≡ Some k.1) same
    (ap (λ r. cond (is_eq r) (Some e.1) (find cell_cmp e.0 es)) (tied_itself cell_cmp_total e.0))
found_back s (e ∷ es) b (inr h) =
    let below = first (below_all cell_cmp e.0 es) (is_sorted cell_cmp es) b in
    let later = second (below_all cell_cmp e.0 es) (is_sorted cell_cmp es) b in
    let less : cell_cmp e.0 s.0 ≡ Less = below_among e.0 s es below h in
    let apart : eq_by_cmp cell_cmp s.0 e.0 ≡ false = ap is_eq (cell_cmp_total.antisymm s.0 e.0 ∙ ap ordering_reverse less) in
    rw apart (found_back s es later h)

pub held_listed : (content : Content) (s : Held) → Stands (row_at content) s → Among s (rows_in content)
held_listed content s e = found s.0 s.1 (entries content) (sym (get-entries content s.0) ∙ e)

pub listed_stands : (content : Content) (s : Held) → Among s (rows_in content) → Stands (row_at content) s
listed_stands content s h = get-entries content s.0 ∙ found_back s (entries content) (entries_sorted content) h

-- rows in the order of their cells
abbrev pub held_cmp : Held → Held → Ordering
held_cmp s t = cell_cmp s.0 t.0

rising_rows : (es : List Held) → T (is_sorted cell_cmp es) → IsStrictlySortedBy held_cmp es
unfolding IsStrictlySortedBy
rising_rows [] b = tt
rising_rows (e ∷ es) b =
    let below = first (below_all cell_cmp e.0 es) (is_sorted cell_cmp es) b in
    let later = second (below_all cell_cmp e.0 es) (is_sorted cell_cmp es) b in
    (all_by (λ s. cell_cmp e.0 s.0 ≡ Less) es (λ s h. below_among e.0 s es below h), rising_rows es later)

pub rows_rise : (content : Content) → IsStrictlySortedBy held_cmp (rows_in content)
rows_rise content = rising_rows (entries content) (entries_sorted content)

-- the choices of subjects ---------------------------------------------------------------------
pub lt_is : (r : Ordering) → is_lt r ≡ true → r ≡ Less
lt_is Less e = refl
lt_is Equal e = absurd (false≢true e)
lt_is Greater e = absurd (false≢true e)

chosen : (content : Content) (s : Held) (t : Option Held) → StandsBeside (row_at content) s t → Among t (choices s (rows_in content))
chosen content s None h = inl refl
chosen content s (Some t) h = inr (mapped_among Some t (filter (is_after s) (rows_in content)) (kept_among (is_after s) t (rows_in content)
    (held_listed content t h.0) (ap is_lt h.1)))

choice_stands : (content : Content) (s : Held) (t : Option Held) → Among t (choices s (rows_in content)) → StandsBeside (row_at content) s t
choice_stands content s t (inl e) = subst (StandsBeside (row_at content) s) e tt
choice_stands content s t (inr h) =
    let m = among_mapped Some t (filter (is_after s) (rows_in content)) h in
    let k = among_kept (is_after s) m.0 (rows_in content) m.1 in
    subst (StandsBeside (row_at content) s) m.2 (listed_stands content m.0 k.0, lt_is (cell_cmp s.0 m.0.0) k.1)

-- what is listed for the rules below a number ------------------------------------------------
pub record Origin (rules : List Rule) (n : ℕ) (rows : List Held) (b : Broken) : Type 0 where
  pub below : b.rule < n
  pub first : Held
  pub second : Option Held
  pub first_listed : Among first rows
  pub second_listed : Among second (choices first rows)
  pub broken : is_broken rules (ask_of b) rows first second ≡ true
  pub named : b ≡ broken_at (ask_of b) first second

-- the rows and the ask of what is listed for one rule
record Source (rules : List Rule) (n : ℕ) (rows : List Held) (b : Broken) : Type 0 where
  first : Held
  second : Option Held
  ask : Ask
  first_listed : Among first rows
  second_listed : Among second (choices first rows)
  asked : Among ask (asks rules n first second)
  broken : is_broken rules ask rows first second ≡ true
  named : broken_at ask first second ≡ b

source : (rules : List Rule) (n : ℕ) (rows : List Held) (b : Broken) → Among b (broken_of rules n rows) → Source rules n rows b
unfolding broken_of broken_from
source rules n rows b h =
    let (s, k, f) = among_flat (broken_from rules n rows) b rows h in
    let (t, c, g) = among_flat (broken_between rules n rows s) b (choices s rows) f in
    let (ask, l, e) = among_mapped (λ ask. broken_at ask s t) b (filter (λ ask. is_broken rules ask rows s t) (asks rules n s t)) g in
    let m = among_kept (λ ask. is_broken rules ask rows s t) ask (asks rules n s t) l in
    record { first = s; second = t; ask = ask; first_listed = k; second_listed = c; asked = m.0; broken = m.1; named = e }

rule_from : (rules : List Rule) (n : ℕ) (rows : List Held) (b : Broken) → Among b (broken_of rules n rows) → b.rule ≡ n
rule_from rules n rows b h =
    let from = source rules n rows b h in
    sym (ap (λ (c : Broken). c.rule) from.named) ∙ asked_rule rules n from.first from.second from.ask from.asked

from_one : (rules : List Rule) (n m : ℕ) (rows : List Held) (b : Broken) → n < m → Among b (broken_of rules n rows) → Origin rules m rows b
from_one rules n m rows b less h =
    let from = source rules n rows b h in
    let ask : from.ask ≡ ask_of b = ap ask_of from.named in
    record {
      below = subst (λ (i : ℕ). i < m) (sym (rule_from rules n rows b h)) less;
      first = from.first;
      second = from.second;
      first_listed = from.first_listed;
      second_listed = from.second_listed;
      broken = subst (λ (a : Ask). is_broken rules a rows from.first from.second ≡ true) ask from.broken;
      named = sym from.named ∙ ap (λ (a : Ask). broken_at a from.first from.second) ask;
    }

pub origin : (rules : List Rule) (n : ℕ) (rows : List Held) (b : Broken) → Among b (broken_below rules n rows) → Origin rules n rows b
unfolding broken_below
origin rules zero rows b h = absurd h
origin rules (suc n) rows b h = elim (among_either b (broken_below rules n rows) (broken_of rules n rows) h) [
  | inl k ↦ (let o = origin rules n rows b k in
      record {
        below = omega (arith, o.below);
        first = o.first;
        second = o.second;
        first_listed = o.first_listed;
        second_listed = o.second_listed;
        broken =
            o.broken;
        named = o.named;
      })
  | inr k ↦ from_one rules n (suc n) rows b (omega arith) k
]

listed_from : (rules : List Rule) (ask : Ask) (rows : List Held) (s : Held) (t : Option Held) → Among s rows → Among t (choices s rows)
    → is_broken rules ask rows s t ≡ true
    → calls rules ask s t ≡ true
    → Among (broken_at ask s t) (broken_of rules ask.rule rows)
unfolding broken_of broken_from
listed_from rules ask rows s t h c e called = flat_among (broken_from rules ask.rule rows) s (broken_at ask s t) rows h
    (flat_among (broken_between rules ask.rule rows s) t (broken_at ask s t) (choices s rows) c
    (mapped_among (λ a. broken_at a s t) ask (filter (λ a. is_broken rules a rows s t) (asks rules ask.rule s t))
    (kept_among (λ a. is_broken rules a rows s t) ask (asks rules ask.rule s t) (asked rules ask s t called) e)))

below_listed : (rules : List Rule) (k n : ℕ) (rows : List Held) (b : Broken) → k < n → Among b (broken_of rules k rows) → Among b (broken_below rules n rows)
unfolding broken_below
below_listed rules k zero rows b less h = absurd (omega (arith, less))
below_listed rules k (suc n) rows b less h = elim (cases_lt k n) [
  | inl l ↦ among_left b (broken_below rules n rows) (broken_of rules n rows) (below_listed rules k n rows b l h)
  | inr l ↦ (let same : k ≡ n = omega (arith, less, l) in among_right b (broken_below rules n rows) (broken_of rules n rows)
      (subst (λ (i : ℕ). Among b (broken_of rules i rows)) same h))
]

-- listed and broken ----------------------------------------------------------------------------
is_broken_there : (rules : List Rule) (content : Content) (b : Broken) → Origin rules (length rules) (rows_in content) b → IsBroken rules (row_at content) b
is_broken_there rules content b o =
    let parts = and_parts (calls rules (ask_of b) o.first o.second) (not (list_any (serves rules (ask_of b) o.first o.second) (rows_in content))) o.broken in
    record {
      first = o.first;
      second = o.second;
      need = record {
        stands = listed_stands content o.first o.first_listed;
        beside = choice_stands content o.first o.second o.second_listed;
        they_call = parts.0;
      };
      unmet = λ m. clash (list_any (serves rules (ask_of b) o.first o.second) (rows_in content))
          (any_by (serves rules (ask_of b) o.first o.second) m.0 (rows_in content) (held_listed content m.0 m.1) m.2) parts.1;
      named = o.named;
    }

-- a need that no row serves is listed
pub unmet_listed : (rules : List Rule) (content : Content) (ask : Ask) (s : Held) (t : Option Held) → IsNeed rules (row_at content) ask s t
    → IsMet rules (row_at content) ask s t ⊎ Among (broken_at ask s t) (broken_needs rules content)
unfolding broken_needs
unmet_listed rules content ask s t need = go (list_any (serves rules ask s t) (rows_in content)) refl
  where
    go : (b : Bool) → list_any (serves rules ask s t) (rows_in content) ≡ b
        → IsMet rules (row_at content) ask s t ⊎ Among (broken_at ask s t) (broken_below rules (length rules) (rows_in content))
    go true e =
        let (r, h, f) = some_of (serves rules ask s t) (rows_in content) e in
        inl (r, listed_stands content r h, f)
    go false e = inr (below_listed rules ask.rule (length rules) (rows_in content) (broken_at ask s t) (rule_there rules ask s t need.they_call)
        (listed_from rules ask (rows_in content) s t (held_listed content s need.stands) (chosen content s t need.beside) (rw (need.they_call, e) refl)
        need.they_call))

pub broken_listed : (rules : List Rule) (content : Content) (b : Broken) → IsBroken rules (row_at content) b → Among b (broken_needs rules content)
broken_listed rules content b h = elim (unmet_listed rules content (ask_of b) h.first h.second h.need) [
  | inl m ↦ absurd (h.unmet m)
  | inr a ↦ subst (λ (c : Broken). Among c (broken_needs rules content)) (sym h.named) a
]

pub listed_broken : (rules : List Rule) (content : Content) (b : Broken) → Among b (broken_needs rules content) → IsBroken rules (row_at content) b
unfolding broken_needs
listed_broken rules content b h = is_broken_there rules content b (origin rules (length rules) (rows_in content) b h)

-- the order ------------------------------------------------------------------------------------
abbrev pub choice_cmp : Option Held → Option Held → Ordering
choice_cmp = option_cmp held_cmp

some_choices_rise : (rows : List Held) → IsStrictlySortedBy held_cmp rows → IsStrictlySortedBy choice_cmp (map Some rows)
some_choices_rise rows p = rising_mapped held_cmp choice_cmp Some (λ x z e. e) rows p

pub choices_rise : (s : Held) (rows : List Held) → IsStrictlySortedBy held_cmp rows → IsStrictlySortedBy choice_cmp (choices s rows)
unfolding IsStrictlySortedBy
choices_rise s rows p = (
  all_by (λ t. choice_cmp None t ≡ Less) (map Some (filter (is_after s) rows)) (λ t h. let m = among_mapped Some t (filter (is_after s) rows) h in
      subst (λ u. choice_cmp None u ≡ Less) m.2 refl),
  some_choices_rise (filter (is_after s) rows) (IsStrictlySortedBy-filter held_cmp (is_after s) rows p),
)

by_ask : (a b : Ask) (s : Held) (t : Option Held) → ask_cmp a b ≡ Less → broken_cmp (broken_at a s t) (broken_at b s t) ≡ Less
unfolding broken_cmp
by_ask a b s t e = rw (tied_itself cell_cmp_total s.0, tied_itself (options_total cell_cmp_total) (option_map (λ x. x.0) t)) e

by_second : (a b : Ask) (s : Held) (t u : Option Held) → a.rule ≡ b.rule → choice_cmp t u ≡ Less → broken_cmp (broken_at a s t) (broken_at b s u) ≡ Less
unfolding broken_cmp
by_second a b s t u same e = rw (same, tied_itself nat_cmp_total b.rule, tied_itself cell_cmp_total s.0, seconds t u e) refl
  where
    seconds : (t u : Option Held) → choice_cmp t u ≡ Less → option_cmp cell_cmp (option_map (λ x. x.0) t) (option_map (λ x. x.0) u) ≡ Less
    seconds None None e = absurd (cc)
    seconds None (Some u) e = refl
    seconds (Some t) None e = absurd (cc)
    seconds (Some t) (Some u) e = e

by_first : (a b : Ask) (s r : Held) (t u : Option Held) → a.rule ≡ b.rule → held_cmp s r ≡ Less → broken_cmp (broken_at a s t) (broken_at b r u) ≡ Less
unfolding broken_cmp
by_first a b s r t u same e = rw (same, tied_itself nat_cmp_total b.rule, e) refl

by_rule : (x y : Broken) → x.rule < y.rule → broken_cmp x y ≡ Less
unfolding broken_cmp
by_rule x y h = rw (less_number x.rule y.rule h) refl

between_rises : (rules : List Rule) (n : ℕ) (rows : List Held) (s : Held) (t : Option Held) → IsStrictlySortedBy broken_cmp (broken_between rules n rows s t)
between_rises rules n rows s t = rising_mapped ask_cmp broken_cmp (λ ask. broken_at ask s t) (λ a b e. by_ask a b s t e)
    (filter (λ ask. is_broken rules ask rows s t) (asks rules n s t))
    (IsStrictlySortedBy-filter ask_cmp (λ ask. is_broken rules ask rows s t) (asks rules n s t) (asks_rise rules n s t))

-- what is listed for two subjects, by its ask
between_from : (rules : List Rule) (n : ℕ) (rows : List Held) (s : Held) (t : Option Held) (b : Broken) → Among b (broken_between rules n rows s t)
    → (ask : Ask) × (ask.rule ≡ n) × (broken_at ask s t ≡ b)
between_from rules n rows s t b h =
    let (ask, l, e) = among_mapped (λ ask. broken_at ask s t) b (filter (λ ask. is_broken rules ask rows s t) (asks rules n s t)) h in
    (ask, asked_rule rules n s t ask (among_kept (λ ask. is_broken rules ask rows s t) ask (asks rules n s t) l).0, e)

between_below : (rules : List Rule) (n : ℕ) (rows : List Held) (s r : Held) (t u : Option Held)
    → ((a b : Ask) → a.rule ≡ b.rule → broken_cmp (broken_at a s t) (broken_at b r u) ≡ Less)
    → AllBelow broken_cmp (broken_between rules n rows s t) (broken_between rules n rows r u)
between_below rules n rows s r t u less x y h k =
    let (a, i, p) = between_from rules n rows s t x h in
    let (b, j, q) = between_from rules n rows r u y k in
    subst (λ (z : Broken). broken_cmp z y ≡ Less) p (subst (λ (z : Broken). broken_cmp (broken_at a s t) z ≡ Less) q (less a b (i ∙ sym j)))

from_rises : (rules : List Rule) (n : ℕ) (rows : List Held) (s : Held) → IsStrictlySortedBy held_cmp rows
    → IsStrictlySortedBy broken_cmp (broken_from rules n rows s)
unfolding broken_from
from_rises rules n rows s p = rising_flat choice_cmp broken_cmp (broken_between rules n rows s) (between_rises rules n rows s)
    (λ t u e. between_below rules n rows s s t u (λ a b same. by_second a b s t u same e)) (choices s rows) (choices_rise s rows p)

from_below : (rules : List Rule) (n : ℕ) (rows : List Held) (s r : Held) → held_cmp s r ≡ Less
    → AllBelow broken_cmp (broken_from rules n rows s) (broken_from rules n rows r)
unfolding broken_from
from_below rules n rows s r e x y h k =
    let (t, _, p) = among_flat (broken_between rules n rows s) x (choices s rows) h in
    let (u, _, q) = among_flat (broken_between rules n rows r) y (choices r rows) k in
    between_below rules n rows s r t u (λ a b same. by_first a b s r t u same e) x y p q

of_rises : (rules : List Rule) (n : ℕ) (rows : List Held) → IsStrictlySortedBy held_cmp rows → IsStrictlySortedBy broken_cmp (broken_of rules n rows)
unfolding broken_of
of_rises rules n rows p = rising_flat held_cmp broken_cmp (broken_from rules n rows) (λ s. from_rises rules n rows s p) (from_below rules n rows) rows p

below_rises : (rules : List Rule) (n : ℕ) (rows : List Held) → IsStrictlySortedBy held_cmp rows → IsStrictlySortedBy broken_cmp (broken_below rules n rows)
unfolding broken_below IsStrictlySortedBy
below_rises rules zero rows p = tt
below_rises rules (suc n) rows p = rising_joined broken_cmp (broken_below rules n rows) (broken_of rules n rows) (below_rises rules n rows p)
    (of_rises rules n rows p)
    (λ x y h k. by_rule x y (omega (arith, rule_from rules n rows y k, (origin rules n rows x h).below)))

pub broken_rises : (rules : List Rule) (content : Content) → IsStrictlySortedBy broken_cmp (broken_needs rules content)
unfolding broken_needs
broken_rises rules content = below_rises rules (length rules) (rows_in content) (rows_rise content)

-- the first --------------------------------------------------------------------------------------
not_greater : (r : Ordering) → r ≡ Less → is_gt r ≡ false
not_greater Less e = refl
not_greater Equal e = refl
not_greater Greater e = absurd (cc)

not_before_itself : (b : Broken) → is_gt (broken_cmp b b) ≡ false
not_before_itself b = ap is_gt (tied_itself broken_total b)

pub at_least : (b : Broken) (bs : List Broken) (c : Broken) → Among c (b ∷ bs) → IsStrictlySortedBy broken_cmp (b ∷ bs) → is_gt (broken_cmp b c) ≡ false
unfolding IsStrictlySortedBy
at_least b bs c (inl same) p = subst (λ (d : Broken). is_gt (broken_cmp b d) ≡ false) same (not_before_itself b)
at_least b bs c (inr h) p = not_greater (broken_cmp b c) (each_of (λ d. broken_cmp b d ≡ Less) c bs p.0 h)

first_is : (rules : List Rule) (content : Content) (bs : List Broken) → broken_needs rules content ≡ bs → IsFirstBroken rules (row_at content) (slice_get bs 0)
first_is rules content [] e = λ ask s t need. elim (unmet_listed rules content ask s t need) [
  | inl m ↦ m
  | inr a ↦ absurd (subst (λ (l : List Broken). Among (broken_at ask s t) l) e a)
]
first_is rules content (b ∷ bs) e = record {
  broken = listed_broken rules content b (subst (λ (l : List Broken). Among b l) (sym e) (inl refl));
  least = λ c h. at_least b bs c (subst (λ (l : List Broken). Among c l) e (broken_listed rules content c h)) (subst (IsStrictlySortedBy broken_cmp) e
      (broken_rises rules content));
}

pub lists_broken : BrokenLaw
lists_broken rules content = record {
  ascending = broken_rises rules content;
  exactly = λ b. (
    λ h. listed_broken rules content b (among b (broken_needs rules content) h),
    λ h. contained b (broken_needs rules content)
        (broken_listed rules content b h),
  );
  first = first_is rules content (broken_needs rules content) refl;
}

-- rows that fit ------------------------------------------------------------------------------------
pub rows_fit : (rules : List Rule) (content : Content) → FitsContent rules content → FitTogether rules (rows_in content)
rows_fit rules content fit = record {
  tables = fit.tables;
  book = fit.book;
  each = all_fit (rows_in content)
      (λ s h. fit.rows s.0 s.1 (listed_stands content s h));
}
  where
    all_fit : (rows : List Held) → ((s : Held) → Among s rows → FitsCell fit.tables s) → All (FitsCell fit.tables) rows
    all_fit [] h = All-nil (FitsCell fit.tables)
    all_fit (s ∷ rows) h = All-cons (FitsCell fit.tables) s rows (h s (inl refl)) (all_fit rows (λ r k. h r (inr k)))

-- Ascending needs, taken apart by the rules that they are of, and put together again.
use Rattle.std.proofs.Common.{◌≡◌, ◌⊎◌, inl, inr, ℕ, suc, ◌+◌, ◌<◌, ◌≤◌, Bool, true, false, List, [], ◌∷◌, ◌++◌, filter, length, refl, sym, ap, ◌∙◌, arith}
use Rattle.std.specs.Prelude.{◌==◌, nat_le}
use Rattle.std.specs.List.{AllByRecursion}
use Rattle.std.specs.List.Sorted.{IsStrictlySortedBy}
use Rattle.std.specs.Ordering.{MatchOrdering, nat_cmp, ordering_then}
use Rattle.std.specs.declared.cmp.Ordering.{Ordering}
use Rattle.std.specs.declared.cmp.Ordering.TheVariants.{Less, Equal, Greater}
use Rattle.std.proofs.lemmas.Bool.{cases_order, eq-eqb, le-leb, lt-leb, ne_eqb}
use Rattle.std.proofs.lemmas.Cmp.{ranked}
use Rattle.clr_rules.specs.declared.needs.Broken.{Broken}
use Rattle.clr_rules.specs.Needs.{broken_cmp}

-- the rule of a lesser need isn't greater
lesser_rule : (a b : Broken) → broken_cmp a b ≡ Less → a.rule ≤ b.rule
unfolding broken_cmp
lesser_rule a b less = by (nat_cmp a.rule b.rule) _ (ranked a.rule b.rule (nat_cmp a.rule b.rule) refl) less
  where
    by : (r rest : Ordering) → MatchOrdering r (a.rule < b.rule) (a.rule ≡ b.rule) (b.rule < a.rule) → ordering_then r rest ≡ Less → a.rule ≤ b.rule
    by Less rest ranks e = omega (arith, ranks)
    by Equal rest ranks e = omega (arith, ranks)
    by Greater rest ranks e = absurd cc

-- the needs of a rule, those of the rules after it, and both
abbrev pub of_rule : ℕ → List Broken → List Broken
of_rule n bs = filter (λ b. b.rule == n) bs

abbrev pub from_rule : ℕ → List Broken → List Broken
from_rule n bs = filter (λ b. nat_le n b.rule) bs

later_all : (n : ℕ) (b : Broken) (bs : List Broken) → n < b.rule → AllByRecursion (λ c. broken_cmp b c ≡ Less) bs → AllByRecursion (λ c. n < c.rule) bs
later_all n b [] lt all = tt
later_all n b (c ∷ bs) lt all = (omega (arith, lesser_rule b c all.0), later_all n b bs lt all.1)

none_here : (n : ℕ) (bs : List Broken) → AllByRecursion (λ c. n < c.rule) bs → of_rule n bs ≡ []
none_here n [] all = refl
none_here n (c ∷ bs) all = let other : (c.rule == n) ≡ false = ne_eqb c.rule n (λ e. omega (arith, all.0)) in rw other (none_here n bs all.1)

pub split : (n : ℕ) (bs : List Broken) → IsStrictlySortedBy broken_cmp bs → of_rule n bs ++ from_rule (suc n) bs ≡ from_rule n bs
unfolding IsStrictlySortedBy
split n [] rising = refl
split n (b ∷ bs) rising = elim (cases_order b.rule n) [
  | inl same ↦ (let here : (b.rule == n) ≡ true = eq-eqb b.rule n same in
      let not_later : nat_le (suc n) b.rule ≡ false = lt-leb (suc n) b.rule (omega (arith, same)) in
      let from : nat_le n b.rule ≡ true = le-leb n b.rule (omega (arith, same)) in
      rw (here, not_later, from) (ap (λ cs. b ∷ cs) (split n bs rising.1)))
  | inr (inl below) ↦ (let here : (b.rule == n) ≡ false = ne_eqb b.rule n (λ e. omega (arith, below)) in
      let not_later : nat_le (suc n) b.rule ≡ false = lt-leb (suc n) b.rule (omega (arith, below)) in
      let from : nat_le n b.rule ≡ false = lt-leb n b.rule below in
      rw (here, not_later, from) (split n bs rising.1))
  | inr (inr above) ↦ (let here : (b.rule == n) ≡ false = ne_eqb b.rule n (λ e. omega (arith, above)) in
      let later : nat_le (suc n) b.rule ≡ true = le-leb (suc n) b.rule above in
      let from : nat_le n b.rule ≡ true = le-leb n b.rule (omega (arith, above)) in
      let none = none_here n bs (later_all n b bs above rising.0) in
      rw (here, later, from, none) (ap (λ cs. b ∷ cs) (ap (λ cs. cs ++ from_rule (suc n) bs) (sym none) ∙ split n bs rising.1)))
]

-- no need is of a rule past the end
pub none_past : (n : ℕ) (bs : List Broken) → AllByRecursion (λ b. b.rule < n) bs → from_rule n bs ≡ []
none_past n [] all = refl
none_past n (b ∷ bs) all = let past : nat_le n b.rule ≡ false = lt-leb n b.rule all.0 in rw past (none_past n bs all.1)

-- each need is of a rule from the first on
pub all_from : (bs : List Broken) → from_rule 0 bs ≡ bs
all_from [] = refl
all_from (b ∷ bs) = let first : nat_le 0 b.rule ≡ true = le-leb 0 b.rule (omega arith) in rw first (ap (λ cs. b ∷ cs) (all_from bs))

-- Whether the members of a set can follow once all others are merged, told by lesser sets.
use Rattle.std.proofs.Common.{◌≡◌, ◌∙◌, ◌<◌, ◌==◌, ◌-◌, ◌^◌, ℕ, Bool, true, false, not, ◌&&◌, List, Option, [], ◌∷◌, inl, inr, refl, sym, ap, subst, arith}
use Rattle.std.proofs.Common.{get_or, Some, None}
use Rattle.std.specs.Prelude.{is_some}
use Rattle.std.proofs.lemmas.Bool.{cases_Bool, false≢true, true≢false}
use Rattle.std.proofs.lemmas.List.{get_or_read}
use Rattle.std.proofs.lemmas.Nat.{pow_pos}
use Rattle.clr_order_search.specs.declared.open_needs.OpenNeed.{OpenNeed}
use Rattle.clr_order_search.specs.OpenNeeds.{breaks_one}
use Rattle.clr_order_search.specs.Searching.{CanBeNext, CanFollow, IsNext, IsTestOf, TellsBelow, and_also, is_in, none_merged, outside}
use Rattle.clr_order_search.proofs.Rests.{alike_rest, from_front, in_front, none_left, unbroken}
use Rattle.clr_order_search.proofs.MemberSets.{all_inside, empty_where_all_outside, none_inside, one_less}

pub alike_follow : (needs : List OpenNeed) (count : ℕ) (p q : ℕ → Bool) → ((m : ℕ) → p m ≡ q m) → CanFollow needs count p → CanFollow needs count q
alike_follow needs count p q same (rest, r) = (rest, alike_rest needs count p q rest same r)

-- an answer that a test gave
pub told_true : (b : Bool) (P : Type 0) → IsTestOf b P → b ≡ true → P
told_true true P told e = told
told_true false P told e = absurd (false≢true e)

pub told_false : (b : Bool) (P : Type 0) → IsTestOf b P → b ≡ false → ¬ P
told_false true P told e = absurd (true≢false e)
told_false false P told e = told

pub tells : (b : Bool) (P : Type 0) → (b ≡ true → P) → (b ≡ false → ¬ P) → IsTestOf b P
tells true P so not_so = so refl
tells false P so not_so = not_so refl

-- what the table says of the set of all members is said for no merged one
pub all_told : (needs : List OpenNeed) (count : ℕ) (table : List Bool) (all : ℕ) (read : Bool) → all ≡ 2 ^ count - 1 → read ≡ get_or table all read
    → TellsBelow needs count table (2 ^ count) → IsTestOf read (CanFollow needs count none_merged)
all_told needs count table all read is found told =
    let some = pow_pos count in
    let long = told.long in
    subst (λ b. IsTestOf b (CanFollow needs count none_merged)) (sym (get_or_read table all read (omega (arith, is, some, long)) found false))
    (subst (λ (merged : ℕ → Bool). IsTestOf (get_or table all false) (CanFollow needs count merged)) (λ i m. same m i) (told.told all (omega (arith, is, some))))
  where
    same : (m : ℕ) → outside count all m ≡ none_merged m
    same m = ap (λ s. outside count s m) is ∙ all_inside count m

module _ (needs : List OpenNeed) (count : ℕ) where
  -- a member of the set can be next where the table says that the others can follow
  pub next_told : (table : List Bool) (left m less : ℕ) → TellsBelow needs count table left → m < count → is_in left m ≡ true → outside count left m ≡ false
      → less < left → ((x : ℕ) → is_in less x ≡ is_in left x && not (m == x))
      → IsTestOf (get_or table less false) (CanBeNext needs count left m)
  next_told table left m less told below there out lower others =
      tells (get_or table less false) (CanBeNext needs count left m)
      (λ e. (
        out,
        alike_follow needs count (outside count less) (and_also (outside count left) m) (one_less count left less m below others)
            (told_true (get_or table less false) _ (told.told less lower) e),
      ))
      (λ e can. told_false (get_or table less false) _ (told.told less lower) e
      (alike_follow needs count (and_also (outside count left) m) (outside count less) (λ x. sym (one_less count left less m below others x)) can.1))

  -- broken now, nobody can follow
  pub broken_stops : (left : ℕ) → breaks_one needs (outside count left) ≡ true → ¬ (CanFollow needs count (outside count left))
  broken_stops left h (rest, r) = true≢false (sym h ∙ unbroken needs count (outside count left) rest r)

  pub nobody_follows : breaks_one needs (outside count 0) ≡ false → CanFollow needs count (outside count 0)
  nobody_follows kept = ([], none_left needs count (outside count 0) kept (λ m less. none_inside count m less))

  pub next_follows : (left m : ℕ) → breaks_one needs (outside count left) ≡ false → IsNext needs count (outside count left) (Some m)
      → CanFollow needs count (outside count left)
  next_follows left m kept (less, out, (rest, r), first) = (m ∷ rest, in_front needs count (outside count left) m rest kept less out r)

  pub none_next_stops : (left : ℕ) → left < 2 ^ count → (left ≡ 0 → ⊥) → IsNext needs count (outside count left) None
      → ¬ (CanFollow needs count (outside count left))
  none_next_stops left within some none (m ∷ rest, r) =
      let front = from_front needs count (outside count left) m rest r in none m front.less front.out (rest, front.behind)
  none_next_stops left within some none ([], r) = some (empty_where_all_outside count left within all)
    where
      all : (m : ℕ) → m < count → outside count left m ≡ true
      all m less = elim (cases_Bool (outside count left m)) [ inl out ↦ out | inr there ↦ absurd (false≢true (r.every m less there)) ]

  -- what the search for the next member tells of the members of the set
  pub follow_told : (left : ℕ) → left < 2 ^ count → (left ≡ 0 → ⊥) → breaks_one needs (outside count left) ≡ false → (found : Option ℕ)
      → IsNext needs count (outside count left) found → IsTestOf (is_some found) (CanFollow needs count (outside count left))
  follow_told left within some kept None next = none_next_stops left within some next
  follow_told left within some kept (Some m) next = next_follows left m kept next

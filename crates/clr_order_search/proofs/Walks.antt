-- The walk from the first merge to the last: each time the first member that can be next.
use Rattle.std.proofs.Common.{◌≡◌, ◌∙◌, ◌<◌, ◌≤◌, ◌+◌, ◌-◌, ◌==◌, ◌^◌, ℕ, zero, suc, Bool, true, false, not, ◌&&◌, ◌||◌, List, [], ◌∷◌, ◌++◌, inl, inr, refl, sym}
use Rattle.std.proofs.Common.{ap, subst, arith, eqb, length, take, drop, slice_get, Some, None}
use Rattle.std.specs.List.{AllByRecursion, IsDistinct, list_any}
use Rattle.std.proofs.Math.Bool.{or-false, or_assoc}
use Rattle.std.proofs.lemmas.Bool.{false≢true, true≢false, or_cases, or_left, or_parts, or_right}
use Rattle.std.proofs.lemmas.Bool.Decides.{Decides-eqb}
use Rattle.std.proofs.lemmas.List.{append-nil, append_assoc, length-append, take-append-drop}
use Rattle.std.proofs.lemmas.Map.Steps.{le-length_from_below, length-le_from_distinct_below}
use Rattle.clr_order_search.specs.declared.open_needs.OpenNeed.{OpenNeed}
use Rattle.clr_order_search.specs.OpenNeeds.{has}
use Rattle.clr_order_search.specs.Orders.{IsFirstOrder, IsWorkingOrder}
use Rattle.clr_order_search.specs.Searching.{CanFollow, IsNext, IsRest, and_also, is_in, none_merged, outside}
use Rattle.clr_order_search.proofs.Following.{alike_follow}
use Rattle.clr_order_search.proofs.Rests.{after_first, alike_rest, at_of, from_front, in_front, of_order, order_of, same_of, unbroken}
use Rattle.clr_order_search.proofs.MemberSets.{all_inside, one_less}

-- how long orders are ------------------------------------------------------------------------------------

told_of : (q : ℕ) (xs : List ℕ) → list_any (eqb q) xs ≡ true → has xs q ≡ true
told_of q [] h = absurd (false≢true h)
told_of q (x ∷ xs) h = elim (or_cases (eqb q x) (list_any (eqb q) xs) h) [
  | inl same ↦ or_left (x == q) (has xs q) ((Decides-eqb x q).1 (sym ((Decides-eqb q x).0 same)))
  | inr behind ↦ or_right (x == q) (has xs q) (told_of q xs behind)
]

of_told : (q : ℕ) (xs : List ℕ) → has xs q ≡ true → list_any (eqb q) xs ≡ true
of_told q [] h = absurd (false≢true h)
of_told q (x ∷ xs) h = elim (or_cases (x == q) (has xs q) h) [
  | inl same ↦ or_left (eqb q x) (list_any (eqb q) xs) ((Decides-eqb q x).1 (sym (same_of x q same)))
  | inr behind ↦ or_right (eqb q x) (list_any (eqb q) xs) (of_told q xs behind)
]

none_equal : (x : ℕ) (xs : List ℕ) → has xs x ≡ false → AllByRecursion (λ y. eqb x y ≡ false) xs
none_equal x [] h = tt
none_equal x (y ∷ ys) h = let both = or_parts (y == x) (has ys x) h in (other (eqb x y) refl both.0, none_equal x ys both.1)
  where
    other : (b : Bool) → eqb x y ≡ b → (y == x) ≡ false → b ≡ false
    other false e out = refl
    other true e out = absurd (true≢false (sym ((Decides-eqb y x).1 (sym ((Decides-eqb x y).0 e))) ∙ out))

distinct : (xs : List ℕ) → ((j k m : ℕ) → slice_get xs j ≡ Some m → slice_get xs k ≡ Some m → j ≡ k) → IsDistinct eqb xs
unfolding IsDistinct
distinct [] once = tt
distinct (x ∷ xs) once = (
  none_equal x xs (out (has xs x) refl),
  distinct xs (λ j k m e f. (let one : suc j ≡ suc k = once (suc j) (suc k) m e f in omega (arith, one))),
)
  where
    out : (b : Bool) → has xs x ≡ b → b ≡ false
    out false e = refl
    out true e = let (k, f) = at_of xs x e in let one : zero ≡ suc k = once zero (suc k) x refl f in absurd (omega (arith, one))

pub no_longer : (needs : List OpenNeed) (count : ℕ) (order : List ℕ) → IsWorkingOrder needs count order → length order ≤ count
no_longer needs count order w =
    length-le_from_distinct_below order count (distinct order w.is_order.once) (λ q h. w.is_order.below q (told_of q order h))

pub no_shorter : (needs : List OpenNeed) (count : ℕ) (order : List ℕ) → IsWorkingOrder needs count order → count ≤ length order
no_shorter needs count order w = le-length_from_below order count (λ q less. of_told q order (w.is_order.every q less))

-- one more at the end ----------------------------------------------------------------------------------------

has_last : (xs : List ℕ) (m x : ℕ) → has (xs ++ m ∷ []) x ≡ (has xs x || (m == x))
has_last [] m x = or-false (m == x)
has_last (y ∷ ys) m x = ap (λ b. (y == x) || b) (has_last ys m x) ∙ sym (or_assoc (y == x) (has ys x) (m == x))

-- a position of a list with one more is one of the list, or the last
data IsPositionOf (xs : List ℕ) (m k x : ℕ) : Type 0 where
  before : slice_get xs k ≡ Some x → take k (xs ++ m ∷ []) ≡ take k xs → IsPositionOf xs m k x
  last : m ≡ x → take k (xs ++ m ∷ []) ≡ xs → IsPositionOf xs m k x

position_of : (xs : List ℕ) (m k x : ℕ) → slice_get (xs ++ m ∷ []) k ≡ Some x → IsPositionOf xs m k x
position_of [] m zero x e = let one : m ≡ x = cc in last one refl
position_of [] m (suc k) x e = absurd (cc)
position_of (y ∷ ys) m zero x e = before e refl
position_of (y ∷ ys) m (suc k) x e = by (position_of ys m k x e)
  where
    by : IsPositionOf ys m k x → IsPositionOf (y ∷ ys) m (suc k) x
    by (before f t) = before f (ap (λ zs. y ∷ zs) t)
    by (last f t) = last f (ap (λ zs. y ∷ zs) t)

-- the walk ------------------------------------------------------------------------------------------------------

module _ (needs : List OpenNeed) (count : ℕ) where
  -- so many first members of the first order that works, and those that are left
  pub record IsBegun (order : List ℕ) (left step : ℕ) : Type 0 where
    pub long : length order ≡ step
    pub merged : (m : ℕ) → outside count left m ≡ has order m
    pub joins : (rest : List ℕ) → IsRest needs count (outside count left) rest → IsRest needs count none_merged (order ++ rest)
    pub follow : CanFollow needs count (outside count left)
    pub first : (k m x : ℕ) (other : List ℕ) → slice_get order k ≡ Some x → m < x → IsWorkingOrder needs count other
        → ¬ (take (suc k) other ≡ take k order ++ m ∷ [])

  pub begun : CanFollow needs count none_merged → IsBegun [] (2 ^ count - 1) 0
  begun can = record {
    long = refl;
    merged = λ m. all_inside count m;
    joins = λ rest r. alike_rest needs count (outside count (2 ^ count - 1)) none_merged rest (all_inside count) r;
    follow = alike_follow needs count none_merged (outside count (2 ^ count - 1)) (λ m. sym (all_inside count m)) can;
    first = λ k m x other e. absurd (cc);
  }

  module _ (order : List ℕ) (left step : ℕ) (so_far : IsBegun order left step) where
    -- while members are left, one can be next
    pub some_next : step < count → IsNext needs count (outside count left) None → ⊥
    some_next less none = by so_far.follow
      where
        by : CanFollow needs count (outside count left) → ⊥
        by (m ∷ rest, r) = let front = from_front needs count (outside count left) m rest r in none m front.less front.out (rest, front.behind)
        by ([], r) =
            let enough = no_shorter needs count (order ++ []) (order_of needs count (order ++ []) (so_far.joins [] r)) in
            let same : length (order ++ []) ≡ length order = ap length (append-nil order) in
            let long = so_far.long in
            omega (arith, less, enough, same, long)

    module _ (m : ℕ) (next : IsNext needs count (outside count left) (Some m)) (less : ℕ)
        (others : (x : ℕ) → is_in less x ≡ is_in left x && not (m == x)) where
      outside_now : (x : ℕ) → outside count less x ≡ and_also (outside count left) m x
      outside_now = one_less count left less m next.0 others

      -- no order that works begins so and goes on with a lesser member
      none_before : (k : ℕ) (other : List ℕ) → k < m → IsWorkingOrder needs count other → (n : ℕ) → take n other ≡ order ++ k ∷ [] → ⊥
      none_before k other lower w n e =
          let whole : order ++ k ∷ drop n other ≡ other =
          sym (append_assoc order (k ∷ []) (drop n other)) ∙ ap (λ xs. xs ++ drop n other) (sym e) ∙ take-append-drop n other in
          let rest : IsRest needs count (λ x. none_merged x || has order x) (k ∷ drop n other) =
          after_first needs count order (k ∷ drop n other) none_merged
          (subst (IsRest needs count none_merged) (sym whole) (of_order needs count other w)) in
          let here : IsRest needs count (outside count left) (k ∷ drop n other) =
          alike_rest needs count (λ x. none_merged x || has order x) (outside count left) (k ∷ drop n other) (λ x. sym (so_far.merged x)) rest in
          let front = from_front needs count (outside count left) k (drop n other) here in
          next.3 k lower front.out (drop n other, front.behind)

      pub begun_more : (longer : List ℕ) → longer ≡ order ++ m ∷ [] → IsBegun longer less (step + 1)
      begun_more longer is = subst (λ xs. IsBegun xs less (step + 1)) (sym is) (record {
        long = length-append order (m ∷ []) ∙ (let long = so_far.long in omega (arith, long));
        merged = λ x. outside_now x ∙ ap (λ b. b || (m == x)) (so_far.merged x) ∙ sym (has_last order m x);
        joins = λ rest r. subst (IsRest needs count none_merged) (sym (append_assoc order (m ∷ []) rest))
            (so_far.joins (m ∷ rest) (in_front needs count (outside count left) m rest (unbroken needs count (outside count left) so_far.follow.0 so_far.follow.1)
            next.0 next.1 (alike_rest needs count (outside count less) (and_also (outside count left) m) rest outside_now r)));
        follow = alike_follow needs count (and_also (outside count left) m) (outside count less) (λ x. sym (outside_now x)) next.2;
        first = first;
      })
        where
          first : (k y x : ℕ) (other : List ℕ) → slice_get (order ++ m ∷ []) k ≡ Some x → y < x → IsWorkingOrder needs count other
              → ¬ (take (suc k) other ≡ take k (order ++ m ∷ []) ++ y ∷ [])
          first k y x other e lower w same = by (position_of order m k x e)
            where
              by : IsPositionOf order m k x → ⊥
              by (before f t) = so_far.first k y x other f lower w (same ∙ ap (λ xs. xs ++ y ∷ []) t)
              by (last f t) = none_before y other (subst (λ n. y < n) (sym f) lower) w (suc k) (same ∙ ap (λ xs. xs ++ y ∷ []) t)

  -- where as many are merged as there are, the order is the first that works
  pub walked : (order : List ℕ) (left step : ℕ) → IsBegun order left step → step ≡ count → IsFirstOrder needs count order
  walked order left step is done = record { working = by is.follow; first = is.first }
    where
      by : CanFollow needs count (outside count left) → IsWorkingOrder needs count order
      by ([], r) = subst (IsWorkingOrder needs count) (append-nil order) (order_of needs count (order ++ []) (is.joins [] r))
      by (m ∷ rest, r) =
          let few = no_longer needs count (order ++ m ∷ rest) (order_of needs count (order ++ m ∷ rest) (is.joins (m ∷ rest) r)) in
          let long = is.long in
          let more : length (order ++ m ∷ rest) ≡ length order + suc (length rest) = length-append order (m ∷ rest) in
          absurd (omega (arith, few, long, more, done))

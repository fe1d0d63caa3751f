-- Where no order works: each breaks a need on the way. Members that wait for one another, or trail one another, are such a case.
use Rattle.std.proofs.Common.{◌≡◌, ◌∙◌, ◌==◌, ℕ, zero, suc, Bool, true, false, not, ◌&&◌, ◌||◌, List, [], ◌∷◌, ◌⊎◌, inl, inr, refl, sym, ap, arith}
use Rattle.std.proofs.Common.{slice_get, take, Some}
use Rattle.std.specs.List.{list_any}
use Rattle.std.proofs.Math.Bool.{or-false}
use Rattle.std.proofs.lemmas.Bool.{cases_Bool, false≢true, true≢false, or_cases, or_left, or_right}
use Rattle.clr_order_search.specs.declared.open_needs.OpenNeed.{OpenNeed}
use Rattle.clr_order_search.specs.OpenNeeds.{breaks_one, has, is_broken}
use Rattle.clr_order_search.specs.Laws.{TrailingLaw, WaitingLaw}
use Rattle.clr_order_search.specs.Orders.{NoneWorks}
use Rattle.clr_order_search.specs.Searching.{CanFollow, and_also, none_merged}
use Rattle.clr_order_search.proofs.Positions.{all_of, none_of, not_of, some_of, taken}
use Rattle.clr_order_search.proofs.Rests.{itself, merged_more, of_order, same_breaks, same_of}

-- an order breaks a need on the way, or works ----------------------------------------------------------------

module _ (needs : List OpenNeed) where
  abbrev breaks_at : (ℕ → Bool) → List ℕ → ℕ → Bool
  breaks_at merged rest k = breaks_one needs (λ x. merged x || has (take k rest) x)

  breaks_or_not : (merged : ℕ → Bool) (rest : List ℕ) → ((k : ℕ) × (breaks_at merged rest k ≡ true)) ⊎ ((k : ℕ) → breaks_at merged rest k ≡ false)
  breaks_or_not merged [] = elim (cases_Bool (breaks_one needs merged)) [ inl h ↦ inl (zero, at zero ∙ h) | inr h ↦ inr (λ k. at k ∙ h) ]
    where
      at : (k : ℕ) → breaks_at merged [] k ≡ breaks_one needs merged
      at zero = same_breaks needs (λ x. merged x || has (take 0 []) x) merged (λ x. or-false (merged x))
      at (suc k) = same_breaks needs (λ x. merged x || has (take (suc k) []) x) merged (λ x. or-false (merged x))
  breaks_or_not merged (m ∷ ms) = elim (cases_Bool (breaks_one needs merged)) [
    | inl h ↦ inl (zero, here ∙ h)
    | inr h ↦ elim (breaks_or_not (and_also merged m) ms) [
      | inl (k, e) ↦ inl (suc k, behind k ∙ e)
      | inr none ↦ inr (λ k. each h none k)
    ]
  ]
    where
      here : breaks_at merged (m ∷ ms) zero ≡ breaks_one needs merged
      here = same_breaks needs (λ x. merged x || has (take 0 (m ∷ ms)) x) merged (λ x. or-false (merged x))

      behind : (k : ℕ) → breaks_at merged (m ∷ ms) (suc k) ≡ breaks_at (and_also merged m) ms k
      behind k = same_breaks needs (λ x. merged x || has (take (suc k) (m ∷ ms)) x) (λ x. and_also merged m x || has (take k ms) x)
          (λ x. sym (merged_more merged m (take k ms) x))

      each : breaks_one needs merged ≡ false → ((k : ℕ) → breaks_at (and_also merged m) ms k ≡ false) → (k : ℕ) → breaks_at merged (m ∷ ms) k ≡ false
      each h none zero = here ∙ h
      each h none (suc k) = behind k ∙ none k

  pub none_works : (count : ℕ) → ¬ (CanFollow needs count none_merged) → NoneWorks needs count
  none_works count cannot order is = elim (breaks_or_not none_merged order) [
    | inl found ↦ found
    | inr works ↦ absurd (cannot (order, of_order needs count order (record { is_order = is; works = works })))
  ]

-- needs of members that come before or after all others of some ---------------------------------------------------

pub broken_by : (needs : List OpenNeed) (need : OpenNeed) (at : ℕ) (merged : ℕ → Bool) → slice_get needs at ≡ Some need
    → ((x : ℕ) → has need.blockers.items x ≡ true → merged x ≡ true) → ((x : ℕ) → has need.helpers.items x ≡ true → merged x ≡ false)
    → breaks_one needs merged ≡ true
broken_by needs need at merged e blockers helpers = any needs at e
  where
    broken : is_broken merged need ≡ true
    broken =
        let all = all_of merged need.blockers.items blockers in
        let none = none_of merged need.helpers.items helpers in
        λ i. all i && not (none i)

    any : (ks : List OpenNeed) (k : ℕ) → slice_get ks k ≡ Some need → list_any (is_broken merged) ks ≡ true
    any [] k e = absurd (cc)
    any (n ∷ ns) zero e =
        let same : n ≡ need = cc in or_left (is_broken merged n) (list_any (is_broken merged) ns) (ap (is_broken merged) same ∙ broken)
    any (n ∷ ns) (suc k) e = or_right (is_broken merged n) (list_any (is_broken merged) ns) (any ns k e)

-- the first of some members in an order
record IsFirstOf (members order : List ℕ) (k m : ℕ) : Type 0 where
  there : has members m ≡ true
  come : has (take (suc k) order) m ≡ true
  others : (x : ℕ) → has members x ≡ true → (m ≡ x → ⊥) → has (take (suc k) order) x ≡ false

first_of : (members order : List ℕ) (w : ℕ) → has members w ≡ true → has order w ≡ true → (k : ℕ) × (m : ℕ) × IsFirstOf members order k m
first_of members [] w waits h = absurd (false≢true h)
first_of members (y ∷ ys) w waits h = elim (cases_Bool (has members y)) [
  | inl here ↦ (
    zero,
    y,
    record {
      there = here;
      come = or_left (y == y) false (itself y);
      others = λ x member apart. alone x apart;
    },
  )
  | inr other ↦ (let (k, m, first) = first_of members ys w waits (behind other) in (
    suc k,
    m,
    record {
      there = first.there;
      come = or_right (y == m) (has (take (suc k) ys) m) first.come;
      others = λ x member apart. (let rest = first.others x member apart in let not_here = differs other x member in λ i. not_here i || rest i);
    },
  ))
]
  where
    alone : (x : ℕ) → (y ≡ x → ⊥) → (y == x) || false ≡ false
    alone x apart = elim (cases_Bool (y == x)) [ inl same ↦ absurd (apart (same_of y x same)) | inr out ↦ (λ i. out i || false) ]

    behind : has members y ≡ false → has ys w ≡ true
    behind other = elim (or_cases (y == w) (has ys w) h) [
      | inl same ↦ absurd (true≢false (sym waits ∙ ap (has members) (sym (same_of y w same)) ∙ other))
      | inr there ↦ there
    ]

    differs : has members y ≡ false → (x : ℕ) → has members x ≡ true → (y == x) ≡ false
    differs other x member = elim (cases_Bool (y == x)) [
      | inl same ↦ absurd (true≢false (sym member ∙ ap (has members) (sym (same_of y x same)) ∙ other))
      | inr out ↦ out
    ]

differ_from : (m x : ℕ) (xs : List ℕ) → has xs x ≡ true → has xs m ≡ false → m ≡ x → ⊥
differ_from m x xs there out same = true≢false (sym there ∙ ap (has xs) (sym same) ∙ out)

pub waiting : WaitingLaw
waiting needs count members w waits each order is =
    let (k, m, first) = first_of members order w waits (is.every w (each w waits).below) in
    let it = each m first.there in (
      suc k,
      broken_by needs it.need it.at (has (take (suc k) order)) it.is_need
          (λ x h. ap (has (take (suc k) order)) (it.alone x h) ∙ first.come)
          (λ x h. first.others x (it.helpers x h) (differ_from m x it.need.helpers.items h it.no_helper)),
    )

-- the last of some members in an order
pub record IsLastOf (members order : List ℕ) (k m : ℕ) : Type 0 where
  pub there : has members m ≡ true
  pub is_at : slice_get order k ≡ Some m
  pub others : (x : ℕ) → has members x ≡ true → (m ≡ x → ⊥) → has order x ≡ true → has (take k order) x ≡ true

pub last_of : (members order : List ℕ) (w : ℕ) → has members w ≡ true → has order w ≡ true → (k : ℕ) × (m : ℕ) × IsLastOf members order k m
last_of members [] w waits h = absurd (false≢true h)
last_of members (y ∷ ys) w waits h = elim (cases_Bool (list_any (has members) ys)) [
  | inl more ↦ (let (v, come, there) = some_of (has members) ys more in let (k, m, last) = last_of members ys v there come in (
    suc k,
    m,
    record {
      there = last.there;
      is_at = last.is_at;
      others = λ x member apart among. elim (or_cases (y == x) (has ys x) among) [
        | inl same ↦ or_left (y == x) (has (take k ys) x) same
        | inr behind ↦ or_right (y == x) (has (take k ys) x) (last.others x member apart behind)
      ];
    },
  ))
  | inr none ↦ (
    zero,
    y,
    record {
      there = here none;
      is_at = refl;
      others = λ x member apart among. elim (or_cases (y == x) (has ys x) among) [
        | inl same ↦ absurd (apart (same_of y x same))
        | inr behind ↦ absurd (true≢false (sym member ∙ not_of (has members) ys none x behind))
      ];
    },
  )
]
  where
    here : list_any (has members) ys ≡ false → has members y ≡ true
    here none = elim (or_cases (y == w) (has ys w) h) [
      | inl same ↦ ap (has members) (same_of y w same) ∙ waits
      | inr behind ↦ absurd (true≢false (sym waits ∙ not_of (has members) ys none w behind))
    ]

-- a member isn't among those before it
not_before : (order : List ℕ) (k m : ℕ) → ((i j x : ℕ) → slice_get order i ≡ Some x → slice_get order j ≡ Some x → i ≡ j) → slice_get order k ≡ Some m
    → has (take k order) m ≡ false
not_before order k m once e = elim (cases_Bool (has (take k order) m)) [
  | inl there ↦ (let (j, less, f) = taken order k m there in let same = once j k m f e in absurd (omega (arith, less, same)))
  | inr out ↦ out
]

pub trailing : TrailingLaw
trailing needs count members w trails each order is =
    let (k, m, last) = last_of members order w trails (is.every w (each w trails).below) in
    let it = each m last.there in (
      k,
      broken_by needs it.need it.at (has (take k order)) it.is_need
          (λ x h. last.others x (it.blockers x h) (differ_from m x it.need.blockers.items h it.no_blocker) (is.every x (each x (it.blockers x h)).below))
          (λ x h. ap (has (take k order)) (it.alone x h) ∙ not_before order k m is.once last.is_at),
    )

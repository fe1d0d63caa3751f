-- Orders of the members that aren't merged yet: none is left, a member is put in front, the first of them is merged.
use Rattle.std.proofs.Common.{◌≡◌, ◌∙◌, ◌<◌, ◌==◌, ℕ, zero, suc, Bool, true, false, ◌||◌, List, [], ◌∷◌, ◌++◌, ◌⊎◌, inl, inr, refl, sym, ap, subst, arith}
use Rattle.std.proofs.Common.{Some, slice_get, take}
use Rattle.std.proofs.Math.Bool.{or-false, or_assoc}
use Rattle.std.proofs.lemmas.Bool.{cases_Bool, false≢true, true≢false, or_cases, or_left, or_parts, or_right}
use Rattle.std.proofs.lemmas.Bool.Decides.{Decides-eqb}
use Rattle.clr_order_search.specs.declared.open_needs.OpenNeed.{OpenNeed}
use Rattle.clr_order_search.specs.OpenNeeds.{breaks_one, has}
use Rattle.clr_order_search.specs.Orders.{IsWorkingOrder}
use Rattle.clr_order_search.specs.Searching.{IsRest, and_also, none_merged}

-- members of lists -----------------------------------------------------------------------------------

pub itself : (m : ℕ) → (m == m) ≡ true
itself m = (Decides-eqb m m).1 refl

pub same_of : (m x : ℕ) → (m == x) ≡ true → m ≡ x
same_of m x h = (Decides-eqb m x).0 h

pub has_at : (xs : List ℕ) (k m : ℕ) → slice_get xs k ≡ Some m → has xs m ≡ true
has_at [] k m e = absurd (cc)
has_at (x ∷ xs) zero m e = let one : x ≡ m = cc in or_left (x == m) (has xs m) ((Decides-eqb x m).1 one)
has_at (x ∷ xs) (suc k) m e = or_right (x == m) (has xs m) (has_at xs k m e)

pub at_of : (xs : List ℕ) (m : ℕ) → has xs m ≡ true → (k : ℕ) × (slice_get xs k ≡ Some m)
at_of [] m h = absurd (false≢true h)
at_of (x ∷ xs) m h = by (or_cases (x == m) (has xs m) h) (at_of xs m)
  where
    by : ((x == m) ≡ true) ⊎ (has xs m ≡ true) → (has xs m ≡ true → (k : ℕ) × (slice_get xs k ≡ Some m)) → (k : ℕ) × (slice_get (x ∷ xs) k ≡ Some m)
    by (inl same) more = (zero, ap Some (same_of x m same))
    by (inr behind) more = let (k, e) = more behind in (suc k, e)

-- whether a need is broken depends on who is merged alone
pub same_breaks : (needs : List OpenNeed) (p q : ℕ → Bool) → ((m : ℕ) → p m ≡ q m) → breaks_one needs p ≡ breaks_one needs q
same_breaks needs p q same = ap (breaks_one needs) (λ i m. same m i)

-- one more is merged, and then others
pub merged_more : (merged : ℕ → Bool) (m : ℕ) (xs : List ℕ) (x : ℕ) → (and_also merged m x || has xs x) ≡ (merged x || has (m ∷ xs) x)
merged_more merged m xs x = or_assoc (merged x) (m == x) (has xs x)

module _ (needs : List OpenNeed) (count : ℕ) where
  pub alike_rest : (p q : ℕ → Bool) (rest : List ℕ) → ((m : ℕ) → p m ≡ q m) → IsRest needs count p rest → IsRest needs count q rest
  alike_rest p q rest same r = subst (λ (merged : ℕ → Bool). IsRest needs count merged rest) (λ i m. same m i) r

  -- no need is broken at first
  pub unbroken : (merged : ℕ → Bool) (rest : List ℕ) → IsRest needs count merged rest → breaks_one needs merged ≡ false
  unbroken merged rest r = same_breaks needs merged (λ x. merged x || has (take 0 rest) x) (λ x. sym (or-false (merged x))) ∙ r.works 0

  pub none_left : (merged : ℕ → Bool) → breaks_one needs merged ≡ false → ((m : ℕ) → m < count → merged m ≡ true) → IsRest needs count merged []
  none_left merged kept all = record {
    below = λ m h. absurd (false≢true h);
    fresh = λ m h. absurd (false≢true h);
    every = λ m less out. absurd (true≢false (sym (all m less) ∙ out));
    once = λ j k m e f. absurd (cc);
    works = λ k. same_breaks needs (λ x. merged x || has (take k []) x) merged (λ x. nothing k x) ∙ kept;
  }
    where
      nothing : (k x : ℕ) → (merged x || has (take k []) x) ≡ merged x
      nothing zero x = or-false (merged x)
      nothing (suc k) x = or-false (merged x)

  -- a member in front
  pub in_front : (merged : ℕ → Bool) (m : ℕ) (rest : List ℕ) → breaks_one needs merged ≡ false → m < count → merged m ≡ false
      → IsRest needs count (and_also merged m) rest → IsRest needs count merged (m ∷ rest)
  in_front merged m rest kept less out r = record {
    below = λ x h. elim (or_cases (m == x) (has rest x) h) [ inl same ↦ subst (λ k. k < count) (same_of m x same) less | inr behind ↦ r.below x behind ];
    fresh = λ x h. elim (or_cases (m == x) (has rest x) h) [
      | inl same ↦ ap merged (sym (same_of m x same)) ∙ out
      | inr behind ↦ (or_parts (merged x) (m == x) (r.fresh x behind)).0
    ];
    every = λ x less_too out_too. by x less_too out_too (m == x) refl;
    once = once;
    works = works;
  }
    where
      by : (x : ℕ) → x < count → merged x ≡ false → (b : Bool) → (m == x) ≡ b → (m == x) || has rest x ≡ true
      by x less_too out_too true e = or_left (m == x) (has rest x) e
      by x less_too out_too false e = or_right (m == x) (has rest x) (r.every x less_too (λ i. out_too i || e i))

      not_behind : (k : ℕ) → slice_get rest k ≡ Some m → ⊥
      not_behind k e = true≢false (sym (itself m) ∙ (or_parts (merged m) (m == m) (r.fresh m (has_at rest k m e))).1)

      once : (j k x : ℕ) → slice_get (m ∷ rest) j ≡ Some x → slice_get (m ∷ rest) k ≡ Some x → j ≡ k
      once zero zero x e f = refl
      once zero (suc k) x e f = let one : m ≡ x = cc in absurd (not_behind k (f ∙ ap Some (sym one)))
      once (suc j) zero x e f = let one : m ≡ x = cc in absurd (not_behind j (e ∙ ap Some (sym one)))
      once (suc j) (suc k) x e f = ap suc (r.once j k x e f)

      works : (k : ℕ) → breaks_one needs (λ x. merged x || has (take k (m ∷ rest)) x) ≡ false
      works zero = same_breaks needs (λ x. merged x || has (take 0 (m ∷ rest)) x) merged (λ x. or-false (merged x)) ∙ kept
      works (suc k) =
          same_breaks needs (λ x. merged x || has (take (suc k) (m ∷ rest)) x) (λ x. and_also merged m x || has (take k rest) x)
          (λ x. sym (merged_more merged m (take k rest) x))
          ∙ r.works k

  -- the first of them merged
  pub record IsFrontOf (merged : ℕ → Bool) (m : ℕ) (rest : List ℕ) : Type 0 where
    pub less : m < count
    pub out : merged m ≡ false
    pub behind : IsRest needs count (and_also merged m) rest

  pub from_front : (merged : ℕ → Bool) (m : ℕ) (rest : List ℕ) → IsRest needs count merged (m ∷ rest) → IsFrontOf merged m rest
  from_front merged m rest r = record {
    less = r.below m (or_left (m == m) (has rest m) (itself m));
    out = r.fresh m (or_left (m == m) (has rest m) (itself m));
    behind = record {
      below = λ x h. r.below x (or_right (m == x) (has rest x) h);
      fresh = λ x h. (let out = r.fresh x (or_right (m == x) (has rest x) h) in let other = apart x h in λ i. out i || other i);
      every = λ x less out. (let both = or_parts (merged x) (m == x) out in still x both.1 (r.every x less both.0));
      once = λ j k x e f. (let one : suc j ≡ suc k = r.once (suc j) (suc k) x e f in omega (arith, one));
      works = λ k. same_breaks needs (λ x. and_also merged m x || has (take k rest) x) (λ x. merged x || has (take (suc k) (m ∷ rest)) x)
          (λ x. merged_more merged m (take k rest) x) ∙ r.works (suc k);
    };
  }
    where
      apart : (x : ℕ) → has rest x ≡ true → (m == x) ≡ false
      apart x h = elim (cases_Bool (m == x)) [
        | inl same ↦ (let (k, e) = at_of rest x h in
            let one : zero ≡ suc k = r.once zero (suc k) x (ap Some (same_of m x same)) e in absurd (omega (arith, one)))
        | inr other ↦ other
      ]

      still : (x : ℕ) → (m == x) ≡ false → (m == x) || has rest x ≡ true → has rest x ≡ true
      still x other h = elim (or_cases (m == x) (has rest x) h) [ inl same ↦ absurd (true≢false (sym same ∙ other)) | inr behind ↦ behind ]

  -- after the first members of an order
  pub after_first : (firsts rest : List ℕ) (merged : ℕ → Bool) → IsRest needs count merged (firsts ++ rest)
      → IsRest needs count (λ x. merged x || has firsts x) rest
  after_first [] rest merged r = alike_rest merged (λ x. merged x || has [] x) rest (λ x. sym (or-false (merged x))) r
  after_first (m ∷ ms) rest merged r =
      alike_rest (λ x. and_also merged m x || has ms x) (λ x. merged x || has (m ∷ ms) x) rest (λ x. merged_more merged m ms x)
      (after_first ms rest (and_also merged m) (from_front merged m (ms ++ rest) r).behind)

  -- an order of all members that works, as what can follow where none is merged
  pub order_of : (order : List ℕ) → IsRest needs count none_merged order → IsWorkingOrder needs count order
  order_of order r = record {
    is_order = record { below = r.below; every = λ m less. r.every m less refl; once = r.once };
    works = λ k. r.works k;
  }

  pub of_order : (order : List ℕ) → IsWorkingOrder needs count order → IsRest needs count none_merged order
  of_order order w = record {
    below = w.is_order.below;
    fresh = λ m h. refl;
    every = λ m less out. w.is_order.every m less;
    once = w.is_order.once;
    works = λ k. w.works k;
  }

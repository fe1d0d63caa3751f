-- The first pairs of a finite map, for loops over its pairs in order.
use Rattle.std.proofs.Common.{◌≡◌, ℕ, zero, suc, ◌+◌, cond, T, List, [], ◌∷◌, ◌++◌, take, length, Some, None, refl, sym, ap, subst, ◌∙◌, arith}
use Rattle.std.specs.FinMap.{FinMap, IsAntisymmetric, entries, entries_sorted, empty, insert, from_entries, from_entries_push, get, get-entries}
use Rattle.std.specs.FinMap.{get-from_entries, same_map, find, is_sorted}
use Rattle.std.specs.FinMap.Entries.{below_all}
use Rattle.std.specs.Ordering.{is_eq, ordering_reverse}
use Rattle.std.specs.declared.cmp.Ordering.{Ordering}
use Rattle.std.specs.declared.cmp.Ordering.TheVariants.{Less}
use Rattle.std.specs.Cmp.{IsTotalOrder, tied_itself}
use Rattle.std.specs.List.{slice_get}
use Rattle.clr_rows.proofs.Tests.{first, second, less}

module _ {K X : Type 0} {R : K → K → Ordering} where
  -- the map of the first pairs
  abbrev pub front : FinMap R X → ℕ → FinMap R X
  front m n = from_entries (take n (entries m))

  pub front_none : (m : FinMap R X) → front m 0 ≡ empty
  front_none m = refl

take_one_more : {A : Type 0} (xs : List A) (n : ℕ) (x : A) → slice_get xs n ≡ Some x → take (suc n) xs ≡ take n xs ++ x ∷ []
take_one_more [] n x e = absurd (cc)
take_one_more (y ∷ ys) zero x e = let same : y ≡ x = cc in ap (λ z. z ∷ []) same
take_one_more (y ∷ ys) (suc n) x e = ap (λ zs. y ∷ zs) (take_one_more ys n x e)

take_whole : {A : Type 0} (xs : List A) → take (length xs) xs ≡ xs
take_whole [] = refl
take_whole (x ∷ xs) = ap (λ zs. x ∷ zs) (take_whole xs)

module _ {K X : Type 0} (R : K → K → Ordering) where
  below_at : (k : K) (es : List (K × X)) (n : ℕ) (e : K × X) → slice_get es n ≡ Some e → T (below_all R k es) → R k e.0 ≡ Less
  below_at k [] n e at below = absurd (cc)
  below_at k (f ∷ es) zero e at below = let same : f ≡ e = cc in subst (λ (g : K × X). R k g.0 ≡ Less) same (less _ (first _ _ below))
  below_at k (f ∷ es) (suc n) e at below = below_at k es n e at (second _ _ below)

  -- a key isn't among those before it
  not_before : IsTotalOrder R → (es : List (K × X)) (n : ℕ) (e : K × X) → T (is_sorted R es) → slice_get es n ≡ Some e → find R e.0 (take n es) ≡ None
  not_before o [] n e sorted at = absurd (cc)
  not_before o (f ∷ es) zero e sorted at = refl
  not_before o (f ∷ es) (suc n) e sorted at =
      ap (λ r. cond (is_eq r) (Some f.1) (find R e.0 (take n es))) (o.antisymm e.0 f.0 ∙ ap ordering_reverse (below_at f.0 es n e at (first _ _ sorted)))
      ∙ not_before o es n e (second _ _ sorted) at

module _ {K X : Type 0} {R : K → K → Ordering} (o : IsTotalOrder R) (exact : IsAntisymmetric R) where
  pub front_more : (m : FinMap R X) (n : ℕ) (e : K × X) → slice_get (entries m) n ≡ Some e → front m (n + 1) ≡ insert (front m n) e.0 e.1
  front_more m n e at =
      let next : n + 1 ≡ suc n = omega arith in
      ap (front m) next ∙ ap (λ (es : List (K × X)). from_entries {R = R} es) (take_one_more (entries m) n e at)
      ∙ from_entries_push o exact (take n (entries m)) e.0 e.1 (not_before R o (entries m) n e (entries_sorted m) at)

  pub front_whole : (m : FinMap R X) → front m (length (entries m)) ≡ m
  front_whole m =
      ap (λ (es : List (K × X)). from_entries {R = R} es) (take_whole (entries m))
      ∙ same_map o exact (from_entries (entries m)) m (λ q. get-from_entries o (entries m) q ∙ sym (get-entries m q))

  found_at : (es : List (K × X)) (n : ℕ) (e : K × X) → T (is_sorted R es) → slice_get es n ≡ Some e → find R e.0 es ≡ Some e.1
  found_at [] n e sorted at = absurd (cc)
  found_at (f ∷ es) zero e sorted at =
      let same : f ≡ e = cc in
      subst (λ (g : K × X). find R g.0 (f ∷ es) ≡ Some g.1) same (ap (λ r. cond (is_eq r) (Some f.1) (find R f.0 es)) (tied_itself o f.0))
  found_at (f ∷ es) (suc n) e sorted at =
      ap (λ r. cond (is_eq r) (Some f.1) (find R e.0 es)) (o.antisymm e.0 f.0 ∙ ap ordering_reverse (below_at R f.0 es n e at (first _ _ sorted)))
      ∙ found_at es n e (second _ _ sorted) at

  -- what a map has at the key of one of its pairs
  pub get_at : (m : FinMap R X) (n : ℕ) (e : K × X) → slice_get (entries m) n ≡ Some e → get m e.0 ≡ Some e.1
  get_at m n e at = get-entries m e.0 ∙ found_at (entries m) n e (entries_sorted m) at

pub ruleset fronts = (front_none, front_more, front_whole)

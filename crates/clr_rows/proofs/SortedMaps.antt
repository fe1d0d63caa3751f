-- A finite map by its pairs of a key and a value, in the order of keys.
use Rattle.std.proofs.Common.{◌≡◌, ℕ, suc, zero, Bool, true, cond, T, List, [], ◌∷◌, map, Option, Some, None, refl, sym, ap, subst, ◌∙◌}
use Rattle.std.proofs.lemmas.Bool.{or_right}
use Rattle.std.specs.List.{AllByRecursion}
use Rattle.std.specs.List.Sorted.{IsStrictlySortedBy}
use Rattle.std.specs.Ordering.{is_lt, is_eq, eq_by_cmp}
use Rattle.std.specs.declared.cmp.Ordering.{Ordering}
use Rattle.std.specs.declared.cmp.Ordering.TheVariants.{Less}
use Rattle.std.specs.Cmp.{IsTotalOrder, eq_by_cmp_equiv, tied_itself}
use Rattle.std.specs.BTreeMap.{is_at}
use Rattle.std.specs.Map.{lookup, keys_of}
use Rattle.std.specs.FinMap.Entries.{find, below_all, is_sorted}
use Rattle.std.specs.FinMap.{FinMap, IsAntisymmetric, get, keys, insert, remove, empty, get-empty, from_sorted, get-from_sorted, get-insert, get-remove}
use Rattle.std.specs.FinMap.{same_map, contains_key-keys, entries-from_sorted}
use Rattle.std.specs.List.{list_any, slice_get}
use Rattle.std.specs.Option.{IfSome, IsSome, is_some}
use Rattle.clr_rows.proofs.Tests.{both}

module _ {K X : Type 0} (R : K → K → Ordering) where
  below_from_all : (x : K) (es : List (K × X)) → AllByRecursion (λ y. R x y ≡ Less) (keys_of es) → T (below_all R x es)
  below_from_all x [] h = tt
  below_from_all x (e ∷ es) h = both _ _ (subst (λ r. T (is_lt r)) (sym h.0) tt) (below_from_all x es h.1)

  -- keys that ascend make a sorted list
  pub sorted_from_ordered : (es : List (K × X)) → IsStrictlySortedBy R (keys_of es) → T (is_sorted R es)
  unfolding IsStrictlySortedBy
  sorted_from_ordered [] h = tt
  sorted_from_ordered (e ∷ es) h = both _ _ (below_from_all e.0 es h.0) (sorted_from_ordered es h.1)

  pub find_row : (es : List (K × X)) (q : K) → find R q es ≡ lookup (is_at (R q)) es
  find_row [] q = refl
  find_row (e ∷ es) q = ap (cond (is_at (R q) e.0) (Some e.1)) (find_row es q)

  -- what the map that sorted pairs make has at a key
  pub get_sorted : (es : List (K × X)) (q : K) → T (is_sorted R es) → get (from_sorted {R = R} es) q ≡ lookup (is_at (R q)) es
  get_sorted es q h = get-from_sorted R es q h ∙ find_row es q

module _ {K X : Type 0} {R : K → K → Ordering} (o : IsTotalOrder R) (exact : IsAntisymmetric R) where
  -- pairs that differ at one key make maps that differ there
  pub one_put : (es fs : List (K × X)) (s : K) (n : X) → T (is_sorted R es) → T (is_sorted R fs)
      → ((q : K) → lookup (is_at (R q)) fs ≡ cond (is_at (R s) q) (Some n) (lookup (is_at (R q)) es)) → from_sorted {R = R} fs ≡ insert (from_sorted es) s n
  one_put es fs s n se sf h = same_map o exact _ _ (λ q.
      get_sorted R fs q sf ∙ h q ∙ ap (λ b. cond b (Some n) (lookup (is_at (R q)) es)) ((eq_by_cmp_equiv o).symm s q)
      ∙ sym (get-insert o (from_sorted es) s n q ∙ ap (cond (eq_by_cmp R q s) (Some n)) (get_sorted R es q se)))

  pub one_taken : (es fs : List (K × X)) (s : K) → T (is_sorted R es) → T (is_sorted R fs)
      → ((q : K) → lookup (is_at (R q)) fs ≡ cond (is_at (R s) q) None (lookup (is_at (R q)) es)) → from_sorted {R = R} fs ≡ remove (from_sorted es) s
  one_taken es fs s se sf h = same_map o exact _ _ (λ q.
      get_sorted R fs q sf ∙ h q ∙ ap (λ b. cond b None (lookup (is_at (R q)) es)) ((eq_by_cmp_equiv o).symm s q)
      ∙ sym (get-remove o (from_sorted es) s q ∙ ap (cond (eq_by_cmp R q s) None) (get_sorted R es q se)))

-- no pairs make the empty map
pub from_sorted-empty : {K X : Type 0} {R : K → K → Ordering} → IsTotalOrder R → IsAntisymmetric R → from_sorted {K = K} {X = X} {R = R} [] ≡ empty
from_sorted-empty {R = R} o exact = same_map o exact _ _ (λ q. get-from_sorted R [] q tt ∙ sym (get-empty R q))

-- an element that passes the test
pub any_at : {A : Type 0} (p : A → Bool) (xs : List A) (i : ℕ) (x : A) → slice_get xs i ≡ Some x → p x ≡ true → list_any p xs ≡ true
any_at p [] i x e h = absurd (cc)
any_at p (y ∷ ys) zero x e h = let same : y ≡ x = cc in rw (same, h) refl
any_at p (y ∷ ys) (suc i) x e h = or_right (p y) (list_any p ys) (any_at p ys i x e h)

-- a key at a position has a value
pub held_at : {K X : Type 0} {R : K → K → Ordering} → IsTotalOrder R → (m : FinMap R X) (i : ℕ) (k : K) → slice_get (keys m) i ≡ Some k → is_some (get m k)
    ≡ true
held_at {R = R} o m i k e = contains_key-keys m k ∙ any_at (eq_by_cmp R k) (keys m) i k e (ap is_eq (tied_itself o k))

-- the key at a position, if there is one, has a value
pub held_where : {K X : Type 0} {R : K → K → Ordering} → IsTotalOrder R → (m : FinMap R X) (i : ℕ) (found : Option K) → found ≡ slice_get (keys m) i
    → IfSome found (λ k. IsSome (get m k))
held_where o m i None e = tt
held_where o m i (Some k) e = held_at o m i k (sym e)

-- the keys of sorted pairs are those of the map that they make
pub keys-from_sorted : {K X : Type 0} {R : K → K → Ordering} (es : List (K × X)) (m : FinMap R X) → T (is_sorted R es) → from_sorted es ≡ m → map (λ e. e.0) es
    ≡ keys m
keys-from_sorted {K = K} {X = X} {R = R} es m ascending is = ap (λ (xs : List (K × X)). map (λ e. e.0) xs) (sym (entries-from_sorted R es ascending))
    ∙ ap (λ (n : FinMap R X). keys n) is

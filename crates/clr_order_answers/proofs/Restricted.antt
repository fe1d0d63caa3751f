-- Of an order of all members those that a list has, by their places in it: who comes before whom stays.
use Rattle.std.proofs.Common.{◌≡◌, ◌∙◌, ◌≤◌, ◌==◌, ℕ, zero, suc, Bool, true, false, cond, List, [], ◌∷◌, Option, Some, None}
use Rattle.std.proofs.Common.{option_map, slice_get, refl, sym, ap, subst, arith}
use Rattle.clr_order_search.proofs.Rests.{itself, same_of}
use Rattle.clr_order_knots.specs.Members.{AreOnce}
use Rattle.clr_order_knots.proofs.Lists.{not_behind, once_behind, once_in_front}

-- the place of a member in a list, if it is there
pub place : List ℕ → ℕ → Option ℕ
place [] x = None
place (y ∷ ys) x = cond (y == x) (Some 0) (option_map suc (place ys x))

pub place_is : (list : List ℕ) (x i : ℕ) → place list x ≡ Some i → slice_get list i ≡ Some x
unfolding place
place_is [] x i e = absurd (cc)
place_is (y ∷ ys) x i e = by (y == x) refl (place ys x) (λ j. place_is ys x j) e
  where
    by : (b : Bool) → (y == x) ≡ b → (p : Option ℕ) → ((j : ℕ) → p ≡ Some j → slice_get ys j ≡ Some x) → cond b (Some 0) (option_map suc p) ≡ Some i
        → slice_get (y ∷ ys) i ≡ Some x
    by true same p more e = let one : 0 ≡ i = cc in subst (λ k. slice_get (y ∷ ys) k ≡ Some x) one (ap Some (same_of y x same))
    by false other None more e = absurd (cc)
    by false other (Some j) more e = let one : suc j ≡ i = cc in subst (λ k. slice_get (y ∷ ys) k ≡ Some x) one (more j refl)

pub place_there : (list : List ℕ) → AreOnce list → (x i : ℕ) → slice_get list i ≡ Some x → place list x ≡ Some i
unfolding place
place_there [] once x i e = absurd (cc)
place_there (y ∷ ys) once x zero e = let one : y ≡ x = cc in ap (λ b. cond b (Some 0) (option_map suc (place ys x))) (ap (λ z. z == x) one ∙ itself x)
place_there (y ∷ ys) once x (suc i) e = by (y == x) refl (place_there ys (once_behind y ys once) x i e)
  where
    by : (b : Bool) → (y == x) ≡ b → place ys x ≡ Some i → cond b (Some 0) (option_map suc (place ys x)) ≡ Some (suc i)
    by true same there = absurd (not_behind y ys once i (e ∙ ap Some (sym (same_of y x same))))
    by false other there = ap (option_map suc) there

pub keep : Option ℕ → List ℕ → List ℕ
keep None rest = rest
keep (Some i) rest = i ∷ rest

-- the places of those members of an order that a list has
pub restricted : List ℕ → List ℕ → List ℕ
restricted list [] = []
restricted list (x ∷ xs) = keep (place list x) (restricted list xs)

module _ (list : List ℕ) where
  -- whose place it is comes in the order
  pub of_restricted : (order : List ℕ) (k i : ℕ) → slice_get (restricted list order) k ≡ Some i
      → (j : ℕ) × (x : ℕ) × (slice_get order j ≡ Some x) × (place list x ≡ Some i)
  unfolding restricted keep
  of_restricted [] k i e = absurd (cc)
  of_restricted (x ∷ xs) k i e = by (place list x) refl k e (of_restricted xs)
    where
      by : (p : Option ℕ) → place list x ≡ p → (k : ℕ) → slice_get (keep p (restricted list xs)) k ≡ Some i
          → ((k i : ℕ) → slice_get (restricted list xs) k ≡ Some i → (j : ℕ) × (y : ℕ) × (slice_get xs j ≡ Some y) × (place list y ≡ Some i))
          → (j : ℕ) × (y : ℕ) × (slice_get (x ∷ xs) j ≡ Some y) × (place list y ≡ Some i)
      by None at k e more = let (j, y, f, g) = more k i e in (suc j, y, f, g)
      by (Some h) at zero e more = let one : h ≡ i = cc in (zero, x, refl, at ∙ ap Some one)
      by (Some h) at (suc k) e more = let (j, y, f, g) = more k i e in (suc j, y, f, g)

  -- the place of a member that comes
  pub to_restricted : (order : List ℕ) (j x i : ℕ) → slice_get order j ≡ Some x → place list x ≡ Some i → (k : ℕ) × (slice_get (restricted list order) k ≡ Some i)
  unfolding restricted keep
  to_restricted [] j x i e at = absurd (cc)
  to_restricted (y ∷ ys) zero x i e at = let one : y ≡ x = cc in (zero, ap (λ p. slice_get (keep p (restricted list ys)) zero) (ap (place list) one ∙ at))
  to_restricted (y ∷ ys) (suc j) x i e at = by (place list y) (to_restricted ys j x i e at)
    where
      by : (p : Option ℕ) → (k : ℕ) × (slice_get (restricted list ys) k ≡ Some i) → (k : ℕ) × (slice_get (keep p (restricted list ys)) k ≡ Some i)
      by None found = found
      by (Some h) (k, f) = (suc k, f)

  -- who comes before whom
  pub record ComesBefore (order : List ℕ) (a b : ℕ) : Type 0 where
    pub early : ℕ
    pub late : ℕ
    pub first : slice_get order early ≡ Some a
    pub second : slice_get order late ≡ Some b
    pub in_order : early ≤ late

  pub before_restricted : (order : List ℕ) (j k x y a b : ℕ) → slice_get order j ≡ Some x → slice_get order k ≡ Some y → j ≤ k → place list x ≡ Some a
      → place list y ≡ Some b → ComesBefore (restricted list order) a b
  unfolding restricted keep
  before_restricted [] j k x y a b e f less at to = absurd (cc)
  before_restricted (z ∷ zs) zero zero x y a b e f less at to =
      let one : z ≡ x = cc in
      let two : z ≡ y = cc in
      let here : slice_get (keep (place list z) (restricted list zs)) zero ≡ Some a = ap (λ p. slice_get (keep p (restricted list zs)) zero)
      (ap (place list) one ∙ at) in
      let there : slice_get (keep (place list z) (restricted list zs)) zero ≡ Some b = ap (λ p. slice_get (keep p (restricted list zs)) zero)
      (ap (place list) two ∙ to) in
      record { early = zero; late = zero; first = here; second = there; in_order = omega arith }
  before_restricted (z ∷ zs) zero (suc k) x y a b e f less at to =
      let one : z ≡ x = cc in
      let (i, g) = to_restricted zs k y b f to in
      let is : place list z ≡ Some a = ap (place list) one ∙ at in
      record {
        early = zero;
        late = suc i;
        first = ap (λ p. slice_get (keep p (restricted list zs)) zero) is;
        second = ap (λ p. slice_get (keep p (restricted list zs)) (suc i)) is ∙ g;
        in_order = omega arith;
      }
  before_restricted (z ∷ zs) (suc j) zero x y a b e f less at to = absurd (omega (arith, less))
  before_restricted (z ∷ zs) (suc j) (suc k) x y a b e f less at to = by (place list z) (before_restricted zs j k x y a b e f (omega (arith, less)) at to)
    where
      by : (p : Option ℕ) → ComesBefore (restricted list zs) a b → ComesBefore (keep p (restricted list zs)) a b
      by None c = c
      by (Some h) c = record {
        early = suc c.early;
        late = suc c.late;
        first = c.first;
        second = c.second;
        in_order = (let order = c.in_order in omega (arith, order));
      }

  pub once_restricted : (order : List ℕ) → AreOnce order → AreOnce (restricted list order)
  unfolding restricted keep
  once_restricted [] once = λ j k m e f. absurd (cc)
  once_restricted (x ∷ xs) once = by (place list x) refl (once_restricted xs (once_behind x xs once))
    where
      by : (p : Option ℕ) → place list x ≡ p → AreOnce (restricted list xs) → AreOnce (keep p (restricted list xs))
      by None at rest = rest
      by (Some i) at rest = once_in_front i (restricted list xs) rest (λ k e. (let (j, y, f, g) = of_restricted xs k i e in
          let two : Some x ≡ Some y = sym (place_is list x i at) ∙ place_is list y i g in
          not_behind x xs once j (f ∙ sym two)))

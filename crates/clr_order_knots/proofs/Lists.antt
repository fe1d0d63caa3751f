-- Places in lists, and members that are put behind others.
use Rattle.std.proofs.Common.{◌≡◌, ◌∙◌, ◌<◌, ◌==◌, ◌⊎◌, ℕ, zero, suc, Bool, true, List, [], ◌∷◌, ◌++◌, Some, inl, inr, Contains}
use Rattle.std.proofs.Common.{◌+◌, ◌≤◌, cond, length, map, slice_get, refl, sym, ap, subst, arith, false}
use Rattle.std.specs.List.{filter, list_all, list_any}
use Rattle.std.proofs.lemmas.Bool.{and_from, and_parts, false≢true, true≢false, or_cases, or_left, or_right}
use Rattle.std.proofs.lemmas.List.Folds.{list_any-append}
use Rattle.std.proofs.lemmas.Option.{slice_get_within}
use Rattle.clr_order_search.specs.OpenNeeds.{has}
use Rattle.clr_order_search.proofs.Rests.{at_of, has_at, itself, same_of}
use Rattle.clr_order_knots.specs.Members.{AreOnce}

-- members of two lists ---------------------------------------------------------------------------------------

pub has_either : (xs ys : List ℕ) (x : ℕ) → has (xs ++ ys) x ≡ true → (has xs x ≡ true) ⊎ (has ys x ≡ true)
has_either xs ys x h = or_cases (has xs x) (has ys x) (sym (list_any-append (λ y. y == x) xs ys) ∙ h)

pub has_left : (xs ys : List ℕ) (x : ℕ) → has xs x ≡ true → has (xs ++ ys) x ≡ true
has_left xs ys x h = list_any-append (λ y. y == x) xs ys ∙ or_left (has xs x) (has ys x) h

pub has_right : (xs ys : List ℕ) (x : ℕ) → has ys x ≡ true → has (xs ++ ys) x ≡ true
has_right xs ys x h = list_any-append (λ y. y == x) xs ys ∙ or_right (has xs x) (has ys x) h

pub once_behind : (x : ℕ) (xs : List ℕ) → AreOnce (x ∷ xs) → AreOnce xs
once_behind x xs once j k m e f = let one : suc j ≡ suc k = once (suc j) (suc k) m e f in omega (arith, one)

pub not_behind : (x : ℕ) (xs : List ℕ) → AreOnce (x ∷ xs) → (k : ℕ) → slice_get xs k ≡ Some x → ⊥
not_behind x xs once k e = let one : zero ≡ suc k = once zero (suc k) x refl e in absurd (omega (arith, one))

pub once_in_front : (x : ℕ) (xs : List ℕ) → AreOnce xs → ((k : ℕ) → slice_get xs k ≡ Some x → ⊥) → AreOnce (x ∷ xs)
once_in_front x xs once none zero zero m e f = refl
once_in_front x xs once none zero (suc k) m e f = let one : x ≡ m = cc in absurd (none k (f ∙ ap Some (sym one)))
once_in_front x xs once none (suc j) zero m e f = let one : x ≡ m = cc in absurd (none j (e ∙ ap Some (sym one)))
once_in_front x xs once none (suc j) (suc k) m e f = ap suc (once j k m e f)

pub once_joined : (xs ys : List ℕ) → AreOnce xs → AreOnce ys → ((m : ℕ) → has xs m ≡ true → has ys m ≡ true → ⊥) → AreOnce (xs ++ ys)
once_joined [] ys once too apart = too
once_joined (x ∷ xs) ys once too apart =
    once_in_front x (xs ++ ys) (once_joined xs ys (once_behind x xs once) too (λ m h. apart m (or_right (x == m) (has xs m) h)))
    (λ k e. elim (has_either xs ys x (has_at (xs ++ ys) k x e)) [
      | inl h ↦ (let (i, f) = at_of xs x h in not_behind x xs once i f)
      | inr h ↦ apart x (or_left (x == x) (has xs x) (itself x)) h
    ])

-- places ------------------------------------------------------------------------------------------------------

module _ {X : Type 0} where
  pub place_left : (xs ys : List X) (k : ℕ) (x : X) → slice_get xs k ≡ Some x → slice_get (xs ++ ys) k ≡ Some x
  place_left [] ys k x e = absurd (cc)
  place_left (z ∷ zs) ys zero x e = e
  place_left (z ∷ zs) ys (suc k) x e = place_left zs ys k x e

  pub place_right : (xs ys : List X) (k : ℕ) (x : X) → slice_get ys k ≡ Some x → (j : ℕ) × (j ≡ length xs + k) × (slice_get (xs ++ ys) j ≡ Some x)
  place_right [] ys k x e = (k, omega arith, e)
  place_right (z ∷ zs) ys k x e = let (j, is, f) = place_right zs ys k x e in (suc j, omega (arith, is), f)

  pub contained_at : (xs : List X) (x : X) → Contains xs x → (k : ℕ) × (slice_get xs k ≡ Some x)
  contained_at [] x (k, less, e) = absurd (omega (arith, less))
  contained_at (z ∷ zs) x (zero, less, e) = (zero, ap Some e)
  contained_at (z ∷ zs) x (suc k, less, e) = contained_at_behind z zs x (contained_at zs x (k, omega (arith, less), e))
    where
      contained_at_behind : (z : X) (zs : List X) (x : X) → (k : ℕ) × (slice_get zs k ≡ Some x) → (k : ℕ) × (slice_get (z ∷ zs) k ≡ Some x)
      contained_at_behind z zs x (k, e) = (suc k, e)

  pub all_at : (p : X → Bool) (xs : List X) → list_all p xs ≡ true → (k : ℕ) (x : X) → slice_get xs k ≡ Some x → p x ≡ true
  all_at p [] all k x e = absurd (cc)
  all_at p (z ∷ zs) all zero x e = let one : z ≡ x = cc in subst (λ y. p y ≡ true) one (and_parts (p z) (list_all p zs) all).0
  all_at p (z ∷ zs) all (suc k) x e = all_at p zs (and_parts (p z) (list_all p zs) all).1 k x e

  pub all_more : (p q : X → Bool) (xs : List X) → ((x : X) → p x ≡ true → q x ≡ true) → list_all p xs ≡ true → list_all q xs ≡ true
  all_more p q [] more all = refl
  all_more p q (x ∷ xs) more all =
      let both = and_parts (p x) (list_all p xs) all in
      and_from (q x) (list_all q xs) (more x both.0) (all_more p q xs more both.1)

  -- one of the elements
  abbrev pub Among : X → List X → Type 0
  Among x [] = ⊥
  Among x (y ∷ ys) = (y ≡ x) ⊎ Among x ys

  pub among_at : (xs : List X) (k : ℕ) (x : X) → slice_get xs k ≡ Some x → Among x xs
  among_at [] k x e = absurd (cc)
  among_at (z ∷ zs) zero x e = inl (cc)
  among_at (z ∷ zs) (suc k) x e = inr (among_at zs k x e)

  pub among_left : (x : X) (xs ys : List X) → Among x xs → Among x (xs ++ ys)
  among_left x [] ys h = absurd h
  among_left x (z ∷ xs) ys (inl e) = inl e
  among_left x (z ∷ xs) ys (inr h) = inr (among_left x xs ys h)

  pub among_right : (x : X) (xs ys : List X) → Among x ys → Among x (xs ++ ys)
  among_right x [] ys h = h
  among_right x (z ∷ xs) ys h = inr (among_right x xs ys h)

  pub among_either : (x : X) (xs ys : List X) → Among x (xs ++ ys) → Among x xs ⊎ Among x ys
  among_either x [] ys h = inr h
  among_either x (z ∷ xs) ys (inl e) = inl (inl e)
  among_either x (z ∷ xs) ys (inr h) = elim (among_either x xs ys h) [ inl a ↦ inl (inr a) | inr a ↦ inr a ]

  pub contained : (x : X) (xs : List X) → Among x xs → Contains xs x
  contained x [] h = absurd h
  contained x (y ∷ ys) (inl e) = (0, omega arith, e)
  contained x (y ∷ ys) (inr h) = let c = contained x ys h in (suc c.0, omega (arith, c.1), c.2)

  pub among : (x : X) (xs : List X) → Contains xs x → Among x xs
  among x [] (k, less, e) = absurd (omega (arith, less))
  among x (y ∷ ys) (zero, less, e) = inl e
  among x (y ∷ ys) (suc k, less, e) = inr (among x ys (k, omega (arith, less), e))

  pub any_by : (p : X → Bool) (x : X) (xs : List X) → Among x xs → p x ≡ true → list_any p xs ≡ true
  any_by p x [] h e = absurd h
  any_by p x (z ∷ xs) (inl s) e = or_left (p z) (list_any p xs) (ap p s ∙ e)
  any_by p x (z ∷ xs) (inr h) e = or_right (p z) (list_any p xs) (any_by p x xs h e)

  pub some_of : (p : X → Bool) (xs : List X) → list_any p xs ≡ true → (x : X) × Among x xs × (p x ≡ true)
  some_of p [] e = absurd (false≢true e)
  some_of p (z ∷ xs) e = elim (or_cases (p z) (list_any p xs) e) [ inl h ↦ (z, inl refl, h) | inr h ↦ (let m = some_of p xs h in (m.0, inr m.1, m.2)) ]

  pub any_more : (p : X → Bool) (xs ys : List X) → ((x : X) → Among x xs → Among x ys) → list_any p xs ≡ true → list_any p ys ≡ true
  any_more p xs ys within e = let (x, h, is) = some_of p xs e in any_by p x ys (within x h) is

  -- where a list ends with an element, it is split at it or before it
  pub record IsSplitBefore (xs firsts : List X) (p last : X) (others : List X) : Type 0 where
    pub rest : List X
    pub others_are : others ≡ rest ++ last ∷ []
    pub split : xs ≡ firsts ++ p ∷ rest

  pub record IsSplitAtEnd (xs firsts : List X) (p last : X) (others : List X) : Type 0 where
    pub none : others ≡ []
    pub all : firsts ≡ xs
    pub it : p ≡ last

  pub split_last : (xs firsts : List X) (p last : X) (others : List X) → xs ++ last ∷ [] ≡ firsts ++ p ∷ others
      → IsSplitAtEnd xs firsts p last others ⊎ IsSplitBefore xs firsts p last others
  split_last [] [] p last others e = inl (record { none = cc; all = refl; it = cc })
  split_last [] (f ∷ fs) p last others e = absurd (longer fs (cc))
    where
      longer : (fs : List X) → [] ≡ fs ++ p ∷ others → ⊥
      longer [] e = absurd (cc)
      longer (f ∷ fs) e = absurd (cc)
  split_last (x ∷ xs) [] p last others e =
      let same : x ≡ p = cc in
      let rest_is : others ≡ xs ++ last ∷ [] = cc in
      inr (record { rest = xs; others_are = rest_is; split = (λ i. same i ∷ xs) })
  split_last (x ∷ xs) (f ∷ fs) p last others e =
      let same : x ≡ f = cc in
      let rest_is : xs ++ last ∷ [] ≡ fs ++ p ∷ others = cc in
      elim (split_last xs fs p last others rest_is) [
        | inl s ↦ inl (record { none = s.none; all = (let all = s.all in λ i. sym same i ∷ all i); it = s.it })
        | inr s ↦ inr (record { rest = s.rest; others_are = s.others_are; split = (let split = s.split in λ i. same i ∷ split i) })
      ]

-- elements that pass a test ------------------------------------------------------------------------------------

module _ {X : Type 0} (p : X → Bool) where
  pub of_filter : (x : X) (xs : List X) → Among x (filter p xs) → Among x xs × (p x ≡ true)
  of_filter x [] h = absurd h
  of_filter x (z ∷ zs) h = by (p z) refl h (of_filter x zs)
    where
      by : (b : Bool) → p z ≡ b → Among x (cond b (z ∷ filter p zs) (filter p zs)) → (Among x (filter p zs) → Among x zs × (p x ≡ true))
          → Among x (z ∷ zs) × (p x ≡ true)
      by true e (inl same) rest = (inl same, subst (λ w. p w ≡ true) same e)
      by true e (inr h) rest = let (there, passes) = rest h in (inr there, passes)
      by false e h rest = let (there, passes) = rest h in (inr there, passes)

  pub to_filter : (x : X) (xs : List X) → Among x xs → p x ≡ true → Among x (filter p xs)
  to_filter x [] h e = absurd h
  to_filter x (z ∷ zs) (inl same) e = subst (λ b. Among x (cond b (z ∷ filter p zs) (filter p zs))) (sym (ap p same ∙ e)) (inl same)
  to_filter x (z ∷ zs) (inr h) e = by (p z) (to_filter x zs h e)
    where
      by : (b : Bool) → Among x (filter p zs) → Among x (cond b (z ∷ filter p zs) (filter p zs))
      by true h = inr h
      by false h = h

  pub filter_short : (xs : List X) → length (filter p xs) ≤ length xs
  filter_short [] = omega arith
  filter_short (z ∷ zs) = by (p z) (filter_short zs)
    where
      by : (b : Bool) → length (filter p zs) ≤ length zs → length (cond b (z ∷ filter p zs) (filter p zs)) ≤ length (z ∷ zs)
      by true short = omega (arith, short)
      by false short = omega (arith, short)

  -- where none goes, all pass
  pub filter_all : (xs : List X) → length xs ≤ length (filter p xs) → filter p xs ≡ xs
  filter_all [] long = refl
  filter_all (z ∷ zs) long = by (p z) long (filter_all zs)
    where
      by : (b : Bool) → length (z ∷ zs) ≤ length (cond b (z ∷ filter p zs) (filter p zs)) → (length zs ≤ length (filter p zs) → filter p zs ≡ zs)
          → cond b (z ∷ filter p zs) (filter p zs) ≡ z ∷ zs
      by true long rest = ap (λ ys. z ∷ ys) (rest (omega (arith, long)))
      by false long rest = let short = filter_short zs in absurd (omega (arith, long, short))

pub has_filtered : (p : ℕ → Bool) (xs : List ℕ) (m : ℕ) → has (filter p xs) m ≡ true → (has xs m ≡ true) × (p m ≡ true)
has_filtered p [] m h = absurd (false≢true h)
has_filtered p (x ∷ xs) m h = by (p x) refl h (has_filtered p xs m)
  where
    by : (b : Bool) → p x ≡ b → has (cond b (x ∷ filter p xs) (filter p xs)) m ≡ true → (has (filter p xs) m ≡ true → (has xs m ≡ true) × (p m ≡ true))
        → (has (x ∷ xs) m ≡ true) × (p m ≡ true)
    by true e h rest = elim (or_cases (x == m) (has (filter p xs) m) h) [
      | inl same ↦ (or_left (x == m) (has xs m) same, subst (λ y. p y ≡ true) (same_of x m same) e)
      | inr behind ↦ (let (there, passes) = rest behind in (or_right (x == m) (has xs m) there, passes))
    ]
    by false e h rest = let (there, passes) = rest h in (or_right (x == m) (has xs m) there, passes)

pub has_kept : (p : ℕ → Bool) (xs : List ℕ) (m : ℕ) → has xs m ≡ true → p m ≡ true → has (filter p xs) m ≡ true
has_kept p [] m h e = absurd (false≢true h)
has_kept p (x ∷ xs) m h e = elim (or_cases (x == m) (has xs m) h) [
  | inl same ↦ subst (λ b. has (cond b (x ∷ filter p xs) (filter p xs)) m ≡ true) (sym (ap p (same_of x m same) ∙ e))
      (or_left (x == m) (has (filter p xs) m) same)
  | inr behind ↦ by (p x) (has_kept p xs m behind e)
]
  where
    by : (b : Bool) → has (filter p xs) m ≡ true → has (cond b (x ∷ filter p xs) (filter p xs)) m ≡ true
    by true h = or_right (x == m) (has (filter p xs) m) h
    by false h = h

pub once_filtered : (p : ℕ → Bool) (xs : List ℕ) → AreOnce xs → AreOnce (filter p xs)
once_filtered p [] once = once
once_filtered p (x ∷ xs) once = by (p x) (once_filtered p xs (once_behind x xs once))
  where
    by : (b : Bool) → AreOnce (filter p xs) → AreOnce (cond b (x ∷ filter p xs) (filter p xs))
    by true rest = once_in_front x (filter p xs) rest (λ k e. (let there = has_filtered p xs x (has_at (filter p xs) k x e) in
        let (j, f) = at_of xs x there.0 in not_behind x xs once j f))
    by false rest = rest

-- parts of a list in which no member stands twice
pub once_first : (xs ys : List ℕ) → AreOnce (xs ++ ys) → AreOnce xs
once_first xs ys once j k m e f = once j k m (place_left xs ys j m e) (place_left xs ys k m f)

pub once_second : (xs ys : List ℕ) → AreOnce (xs ++ ys) → AreOnce ys
once_second xs ys once j k m e f =
    let (i, is, at) = place_right xs ys j m e in
    let (l, is_too, to) = place_right xs ys k m f in
    let same : i ≡ l = once i l m at to in
    omega (arith, is, is_too, same)

pub once_apart : (xs ys : List ℕ) → AreOnce (xs ++ ys) → (m : ℕ) → has xs m ≡ true → has ys m ≡ true → ⊥
once_apart xs ys once m h g =
    let (j, e) = at_of xs m h in
    let (k, f) = at_of ys m g in
    let (l, is, at) = place_right xs ys k m f in
    let same : j ≡ l = once j l m (place_left xs ys j m e) at in
    let less = slice_get_within xs j m e in
    absurd (omega (arith, is, same, less))

pub same_bool : (a b : Bool) → (a ≡ true → b ≡ true) → (b ≡ true → a ≡ true) → a ≡ b
same_bool true true f g = refl
same_bool false false f g = refl
same_bool true false f g = sym (f refl)
same_bool false true f g = g refl

pub mapped_at : {X Y : Type 0} (f : X → Y) (xs : List X) (k : ℕ) (y : Y) → slice_get (map f xs) k ≡ Some y → (x : X) × (slice_get xs k ≡ Some x) × (f x ≡ y)
mapped_at f [] k y e = absurd (cc)
mapped_at f (x ∷ xs) zero y e = (x, refl, (cc))
mapped_at f (x ∷ xs) (suc k) y e = mapped_at f xs k y e

pub at_mapped : {X Y : Type 0} (f : X → Y) (xs : List X) (k : ℕ) (x : X) → slice_get xs k ≡ Some x → slice_get (map f xs) k ≡ Some (f x)
at_mapped f [] k x e = absurd (cc)
at_mapped f (z ∷ zs) zero x e = let one : z ≡ x = cc in ap (λ y. Some (f y)) one
at_mapped f (z ∷ zs) (suc k) x e = at_mapped f zs k x e

pub empty_of_length : (xs : List ℕ) → length xs ≡ 0 → xs ≡ []
empty_of_length [] e = refl
empty_of_length (x ∷ xs) e = absurd (omega (arith, e))

pub zero_of_test : (n : ℕ) → (n == 0) ≡ true → n ≡ 0
zero_of_test n e = same_of n 0 e

pub above_of_test : (n : ℕ) → (n == 0) ≡ false → 0 < n
above_of_test zero e = absurd (true≢false (sym (itself 0) ∙ e))
above_of_test (suc n) e = omega arith

-- What is in a list, and lists that rise.
use Rattle.std.proofs.Common.{◌≡◌, ◌⊎◌, inl, inr, zero, suc, Bool, true, false, cond, not, List, [], ◌∷◌, ◌++◌, map, filter, Contains, refl, sym, ap, subst}
use Rattle.std.proofs.Common.{◌∙◌, arith}
use Rattle.std.proofs.lemmas.Bool.{or_cases, or_left, or_right}
use Rattle.std.specs.List.{list_any, flat_map, AllByRecursion}
use Rattle.std.specs.List.Sorted.{IsStrictlySortedBy}
use Rattle.std.specs.declared.cmp.Ordering.{Ordering}
use Rattle.std.specs.Cmp.{IsTotalOrder}
use Rattle.std.specs.Ordering.{ordering_reverse}
use Rattle.std.specs.declared.cmp.Ordering.TheVariants.{Less, Equal, Greater}

-- x is one of the elements
abbrev pub Among : {X : Type 0} → X → List X → Type 0
Among x [] = ⊥
Among x (y ∷ ys) = (y ≡ x) ⊎ Among x ys

-- a test isn't passed and failed
pub clash : (b : Bool) → b ≡ true → not b ≡ true → ⊥
clash true e f = absurd (cc)
clash false e f = absurd (cc)

module _ {X : Type 0} where
  pub among_left : (x : X) (xs ys : List X) → Among x xs → Among x (xs ++ ys)
  among_left x [] ys h = absurd h
  among_left x (z ∷ xs) ys (inl e) = inl e
  among_left x (z ∷ xs) ys (inr h) = inr (among_left x xs ys h)

  pub among_right : (x : X) (xs ys : List X) → Among x ys → Among x (xs ++ ys)
  among_right x [] ys h = h
  among_right x (z ∷ xs) ys h = inr (among_right x xs ys h)

  pub among_either : (x : X) (xs ys : List X) → Among x (xs ++ ys) → Among x xs ⊎ Among x ys
  among_either x [] ys h = inr h
  among_either x (z ∷ xs) ys (inl e) = inl (inl e)
  among_either x (z ∷ xs) ys (inr h) = elim (among_either x xs ys h) [ inl a ↦ inl (inr a) | inr a ↦ inr a ]

  pub kept_among : (p : X → Bool) (x : X) (xs : List X) → Among x xs → p x ≡ true → Among x (filter p xs)
  kept_among p x [] h e = absurd h
  kept_among p x (z ∷ xs) (inl s) e = let d : p z ≡ true = rw s e in rw d (inl s)
  kept_among p x (z ∷ xs) (inr h) e = go (p z) (kept_among p x xs h e)
    where
      go : (b : Bool) → Among x (filter p xs) → Among x (cond b (z ∷ filter p xs) (filter p xs))
      go true k = inr k
      go false k = k

  pub among_kept : (p : X → Bool) (x : X) (xs : List X) → Among x (filter p xs) → Among x xs × (p x ≡ true)
  among_kept p x [] h = absurd h
  among_kept p x (z ∷ xs) h = go (p z) refl h (among_kept p x xs)
    where
      go : (b : Bool) → p z ≡ b → Among x (cond b (z ∷ filter p xs) (filter p xs)) → (Among x (filter p xs) → Among x xs × (p x ≡ true)) → Among x (z ∷ xs)
          × (p x ≡ true)
      go true d (inl s) more = (inl s, rw s at d)
      go true d (inr k) more = let m = more k in (inr m.0, m.1)
      go false d k more = let m = more k in (inr m.0, m.1)

  pub any_by : (p : X → Bool) (x : X) (xs : List X) → Among x xs → p x ≡ true → list_any p xs ≡ true
  any_by p x [] h e = absurd h
  any_by p x (z ∷ xs) (inl s) e = let d : p z ≡ true = rw s e in or_left (p z) (list_any p xs) d
  any_by p x (z ∷ xs) (inr h) e = or_right (p z) (list_any p xs) (any_by p x xs h e)

  pub some_of : (p : X → Bool) (xs : List X) → list_any p xs ≡ true → (x : X) × Among x xs × (p x ≡ true)
  some_of p [] e = absurd (cc)
  some_of p (z ∷ xs) e = elim (or_cases (p z) (list_any p xs) e) [ inl h ↦ (z, inl refl, h) | inr h ↦ (let m = some_of p xs h in (m.0, inr m.1, m.2)) ]

  -- among the elements, and at a place of the list
  pub contained : (x : X) (xs : List X) → Among x xs → Contains xs x
  contained x [] h = absurd h
  contained x (y ∷ ys) (inl e) = (0, omega arith, e)
  contained x (y ∷ ys) (inr h) = let c = contained x ys h in (suc c.0, omega (arith, c.1), c.2)

  pub among : (x : X) (xs : List X) → Contains xs x → Among x xs
  among x [] (k, less, e) = absurd (omega (arith, less))
  among x (y ∷ ys) (zero, less, e) = inl e
  among x (y ∷ ys) (suc k, less, e) = inr (among x ys (k, omega (arith, less), e))

  pub each_of : (P : X → Type 0) (x : X) (xs : List X) → AllByRecursion P xs → Among x xs → P x
  each_of P x [] all h = absurd h
  each_of P x (y ∷ ys) all (inl e) = subst P e all.0
  each_of P x (y ∷ ys) all (inr h) = each_of P x ys all.1 h

  pub all_by : (P : X → Type 0) (xs : List X) → ((x : X) → Among x xs → P x) → AllByRecursion P xs
  all_by P [] h = tt
  all_by P (x ∷ xs) h = (h x (inl refl), all_by P xs (λ y k. h y (inr k)))

module _ {X Y : Type 0} where
  pub mapped_among : (f : X → Y) (x : X) (xs : List X) → Among x xs → Among (f x) (map f xs)
  mapped_among f x [] h = absurd h
  mapped_among f x (z ∷ xs) (inl e) = inl (ap f e)
  mapped_among f x (z ∷ xs) (inr h) = inr (mapped_among f x xs h)

  pub among_mapped : (f : X → Y) (y : Y) (xs : List X) → Among y (map f xs) → (x : X) × Among x xs × (f x ≡ y)
  among_mapped f y [] h = absurd h
  among_mapped f y (z ∷ xs) (inl e) = (z, inl refl, e)
  among_mapped f y (z ∷ xs) (inr h) = let m = among_mapped f y xs h in (m.0, inr m.1, m.2)

  pub flat_among : (f : X → List Y) (x : X) (y : Y) (xs : List X) → Among x xs → Among y (f x) → Among y (flat_map f xs)
  flat_among f x y [] h k = absurd h
  flat_among f x y (z ∷ xs) (inl e) k = among_left y (f z) (flat_map f xs) (rw e k)
  flat_among f x y (z ∷ xs) (inr h) k = among_right y (f z) (flat_map f xs) (flat_among f x y xs h k)

  pub among_flat : (f : X → List Y) (y : Y) (xs : List X) → Among y (flat_map f xs) → (x : X) × Among x xs × Among y (f x)
  among_flat f y [] h = absurd h
  among_flat f y (z ∷ xs) h = elim (among_either y (f z) (flat_map f xs) h) [
    | inl k ↦ (z, inl refl, k)
    | inr k ↦ (let m = among_flat f y xs k in
        (m.0, inr m.1, m.2))
  ]

-- lists that rise ----------------------------------------------------------------------------

module _ {X : Type 0} (c : X → X → Ordering) where
  -- each of the one list is below each of the other
  abbrev pub AllBelow : List X → List X → Type 0
  AllBelow xs ys = (x y : X) → Among x xs → Among y ys → c x y ≡ Less

  pub rising_joined : (xs ys : List X) → IsStrictlySortedBy c xs → IsStrictlySortedBy c ys → AllBelow xs ys → IsStrictlySortedBy c (xs ++ ys)
  unfolding IsStrictlySortedBy
  rising_joined [] ys p q below = q
  rising_joined (x ∷ xs) ys p q below = (
    all_by (λ y. c x y ≡ Less) (xs ++ ys) (λ y h. elim (among_either y xs ys h) [
      | inl k ↦ each_of (λ y. c x y ≡ Less) y xs p.0 k
      | inr k ↦ below x y (inl refl)
          k
    ]),
    rising_joined xs ys p.1 q (λ z y h k. below z y (inr h) k),
  )

module _ {X Y : Type 0} (c : X → X → Ordering) (d : Y → Y → Ordering) where
  -- lists of rising elements, each below those of the next
  pub rising_flat : (f : X → List Y) → ((x : X) → IsStrictlySortedBy d (f x)) → ((x z : X) → c x z ≡ Less → AllBelow d (f x) (f z)) → (xs : List X)
      → IsStrictlySortedBy c xs → IsStrictlySortedBy d (flat_map f xs)
  unfolding IsStrictlySortedBy
  rising_flat f each below [] p = tt
  rising_flat f each below (x ∷ xs) p = rising_joined d (f x) (flat_map f xs) (each x) (rising_flat f each below xs p.1)
      (λ y z h k. let m = among_flat f z xs k in below x m.0 (each_of (λ w. c x w ≡ Less) m.0 xs p.0 m.1) y z h m.2)

  -- rising elements that are mapped to rising ones
  pub rising_mapped : (f : X → Y) → ((x z : X) → c x z ≡ Less → d (f x) (f z) ≡ Less) → (xs : List X) → IsStrictlySortedBy c xs
      → IsStrictlySortedBy d (map f xs)
  unfolding IsStrictlySortedBy
  rising_mapped f keeps [] p = tt
  rising_mapped f keeps (x ∷ xs) p = (
    all_by (λ y. d (f x) y ≡ Less) (map f xs) (λ y h. let m = among_mapped f y xs h in subst (λ w. d (f x) w
        ≡ Less) m.2 (keeps x m.0 (each_of (λ w. c x w ≡ Less) m.0 xs p.0 m.1))),
    rising_mapped f keeps xs p.1,
  )

-- rising lists of the same elements are one list
module _ {X : Type 0} {c : X → X → Ordering} (o : IsTotalOrder c) where
  pub not_both : (x y : X) → c x y ≡ Less → c y x ≡ Less → ⊥
  not_both x y p q = absurd_less (c x y) p (o.antisymm x y ∙ ap ordering_reverse q)
    where
      absurd_less : (r : Ordering) → r ≡ Less → r ≡ Greater → ⊥
      absurd_less Less p q = absurd (cc)
      absurd_less Equal p q = absurd (cc)
      absurd_less Greater p q = absurd (cc)

  pub not_itself : (x : X) → c x x ≡ Less → ⊥
  not_itself x p = not_both x x p p

  heads : (x y : X) (xs ys : List X) → IsStrictlySortedBy c (x ∷ xs) → IsStrictlySortedBy c (y ∷ ys) → Among x (y ∷ ys) → Among y (x ∷ xs) → y ≡ x
  unfolding IsStrictlySortedBy
  heads x y xs ys p q (inl e) k = e
  heads x y xs ys p q (inr h) (inl e) = sym e
  heads x y xs ys p q (inr h) (inr k) = absurd (not_both x y (each_of (λ z. c x z ≡ Less) y xs p.0 k) (each_of (λ z. c y z ≡ Less) x ys q.0 h))

  pub same_rising : (xs ys : List X) → IsStrictlySortedBy c xs → IsStrictlySortedBy c ys → ((x : X) → Among x xs → Among x ys)
      → ((x : X) → Among x ys → Among x xs) → xs ≡ ys
  unfolding IsStrictlySortedBy
  same_rising [] [] p q there back = refl
  same_rising [] (y ∷ ys) p q there back = absurd (back y (inl refl))
  same_rising (x ∷ xs) [] p q there back = absurd (there x (inl refl))
  same_rising (x ∷ xs) (y ∷ ys) p q there back =
      let head : y ≡ x = heads x y xs ys p q (there x (inl refl)) (back y (inl refl)) in
      let tail : xs ≡ ys = same_rising xs ys p.1 q.1
      (λ z h. later z y ys (λ e. not_itself x (subst (λ w. c x w ≡ Less) (sym e ∙ head) (each_of (λ w. c x w ≡ Less) z xs p.0 h))) (there z (inr h)))
      (λ z h. later z x xs (λ e. not_itself y (subst (λ w. c y w ≡ Less) (sym e ∙ sym head) (each_of (λ w. c y w ≡ Less) z ys q.0 h))) (back z (inr h))) in
      λ i. sym head i ∷ tail i
    where
      later : (z x : X) (xs : List X) → (x ≡ z → ⊥) → Among z (x ∷ xs) → Among z xs
      later z x xs n (inl e) = absurd (n e)
      later z x xs n (inr h) = h

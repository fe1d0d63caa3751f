-- What calls add to a list, one after another.
use Rattle.std.proofs.Common.{◌≡◌, ◌<◌, ◌≤◌, ◌+◌, ℕ, List, [], ◌∷◌, ◌++◌, ◌⊎◌, inl, inr, Contains, length, get_or, take, sym, subst}
use Rattle.std.proofs.lemmas.List.Elements.{Contains-append_left, Contains-append_right, Contains-append_cases}
use Rattle.clr_rules.proofs.Elements.{contained}
use Rattle.clr_needs.proofs.Reading.{alone, all_taken, none_taken, one_more}
use Rattle.clr_row_versions.specs.Gains.{Gains, GainsSome, IsListedOrPassed, OfSome, Reaches}

module _ {X : Type 0} where
  module _ (allowed wanted : X → Type 0) where
    -- nothing is wanted
    pub gains_none : (list : List X) → ((x : X) → wanted x → ⊥) → Gains allowed wanted list list
    gains_none list none = record { kept = λ x h. h; only = λ x h. inl h; every = λ x w. absurd (none x w) }

    -- one element is wanted, and no other
    pub gains_one : (old new : List X) (y : X) → new ≡ old ++ y ∷ [] → allowed y → ((x : X) → wanted x → x ≡ y) → Gains allowed wanted old new
    gains_one old new y is may one = record {
      kept = λ x h. subst (λ xs. Contains xs x) (sym is) (Contains-append_left old (y ∷ []) x h);
      only = λ x h. by x (Contains-append_cases old (y ∷ []) x (subst (λ xs. Contains xs x) is h));
      every = λ x w. subst (λ xs. Contains xs x) (sym is) (Contains-append_right old (y ∷ []) x (contained x (y ∷ []) (inl (sym (one x w)))));
    }
      where
        by : (x : X) → Contains old x ⊎ Contains (y ∷ []) x → Contains old x ⊎ allowed x
        by x (inl h) = inl h
        by x (inr h) = inr (subst allowed (sym (alone y x h)) may)

    -- what is allowed may be more, and what is wanted less
    pub gains_as : (more less : X → Type 0) (old new : List X) → ((x : X) → allowed x → more x) → ((x : X) → less x → wanted x) → Gains allowed wanted old new
        → Gains more less old new
    gains_as more less old new may want g = record { kept = g.kept; only = λ x h. by x (g.only x h); every = λ x w. g.every x (want x w) }
      where
        by : (x : X) → Contains old x ⊎ allowed x → Contains old x ⊎ more x
        by x (inl h) = inl h
        by x (inr a) = inr (may x a)

  -- one call after another
  pub gains_both : (allowed first second wanted : X → Type 0) (old middle new : List X) → ((x : X) → wanted x → first x ⊎ second x)
      → Gains allowed first old middle
      → Gains allowed second middle new
      → Gains allowed wanted old new
  gains_both allowed first second wanted old middle new one g h = record {
    kept = λ x k. h.kept x (g.kept x k);
    only = λ x k. either x (h.only x k);
    every = λ x w. by x (one x w);
  }
    where
      either : (x : X) → Contains middle x ⊎ allowed x → Contains old x ⊎ allowed x
      either x (inl k) = g.only x k
      either x (inr a) = inr a

      by : (x : X) → first x ⊎ second x → Contains new x
      by x (inl w) = h.kept x (g.every x w)
      by x (inr w) = h.every x w

-- ---- what was added until there was no memory

module _ {X : Type 0} (allowed : X → Type 0) where
  -- nothing
  pub none_gained : (old new : List X) → new ≡ old → GainsSome allowed old new
  none_gained old new is = subst (GainsSome allowed old) (sym is) (gains_none allowed (λ x. ⊥) old (λ x w. w))

  -- what is allowed may be more
  pub some_as : (less : X → Type 0) (old new : List X) → ((x : X) → less x → allowed x) → GainsSome less old new → GainsSome allowed old new
  some_as less old new may g = gains_as less (λ x. ⊥) allowed (λ x. ⊥) old new may (λ x w. w) g

  -- all that one call adds, and some of what the next one does
  pub then_some : (first less : X → Type 0) (old middle new : List X) → ((x : X) → less x → allowed x) → Gains allowed first old middle
      → GainsSome less middle new → GainsSome allowed old new
  then_some first less old middle new may g h = gains_both allowed first (λ x. ⊥) (λ x. ⊥) old middle new (λ x w. inr w) g (some_as less middle new may h)

  -- all that one call adds, and nothing more
  pub then_none : (first : X → Type 0) (old middle new : List X) → new ≡ middle → Gains allowed first old middle → GainsSome allowed old new
  then_none first old middle new is g = then_some first allowed old middle new (λ x a. a) g (none_gained middle new is)

-- ---- what is made of each of some things, one after another

module _ {X Y : Type 0} (allowed : X → Type 0) (P : Y → X → Type 0) (ys : List Y) where
  pub of_none : (list : List X) → Gains allowed (OfSome P (take 0 ys)) list list
  of_none list = gains_none allowed (OfSome P (take 0 ys)) list (λ x w. none_taken ys w.0 w.1)

  pub of_one_more : (k : ℕ) (d : Y) (old middle new : List X) → k < length ys → Gains allowed (OfSome P (take k ys)) old middle
      → Gains allowed (P (get_or ys k d)) middle new
      → Gains allowed (OfSome P (take (k + 1) ys)) old new
  of_one_more k d old middle new less g h = gains_both allowed (OfSome P (take k ys)) (P (get_or ys k d)) (OfSome P (take (k + 1) ys)) old middle new split g h
    where
      split : (x : X) → OfSome P (take (k + 1) ys) x → OfSome P (take k ys) x ⊎ P (get_or ys k d) x
      split x w = by (one_more ys k d w.0 less w.1)
        where
          by : Contains (take k ys) w.0 ⊎ (w.0 ≡ get_or ys k d) → OfSome P (take k ys) x ⊎ P (get_or ys k d) x
          by (inl before) = inl (w.0, before, w.2)
          by (inr last) = inr (subst (λ y. P y x) last w.2)

  -- the one that is read there
  pub of_one_read : (k : ℕ) (y : Y) (old middle new : List X) → k < length ys → y ≡ get_or ys k y → Gains allowed (OfSome P (take k ys)) old middle
      → Gains allowed (P y) middle new
      → Gains allowed (OfSome P (take (k + 1) ys)) old new
  of_one_read k y old middle new less is g h = of_one_more k y old middle new less g (subst (λ z. Gains allowed (P z) middle new) is h)

  pub of_all : (k : ℕ) (old new : List X) → length ys ≤ k → Gains allowed (OfSome P (take k ys)) old new → Gains allowed (OfSome P ys) old new
  of_all k old new past g = gains_as allowed (OfSome P (take k ys)) allowed (OfSome P ys) old new (λ x a. a) (λ x w. (w.0, all_taken ys k w.0 past w.1, w.2)) g

-- ---- what may stand behind a listed element that passes it

module _ {X : Type 0} (passes : X → X → Type 0) where
  pub gains_reach : (allowed wanted : X → Type 0) (old new : List X) → Gains allowed wanted old new → Reaches passes allowed wanted old new
  gains_reach allowed wanted old new g = record { kept = g.kept; only = g.only; every = λ x w. inl (g.every x w) }

  pub reaches_as : (allowed wanted more less : X → Type 0) (old new : List X) → ((x : X) → allowed x → more x) → ((x : X) → less x → wanted x)
      → Reaches passes allowed wanted old new → Reaches passes more less old new
  reaches_as allowed wanted more less old new may want g = record { kept = g.kept; only = λ x h. by x (g.only x h); every = λ x w. g.every x (want x w) }
    where
      by : (x : X) → Contains old x ⊎ allowed x → Contains old x ⊎ more x
      by x (inl h) = inl h
      by x (inr a) = inr (may x a)

  -- one call after another
  pub reaches_both : (allowed first second wanted : X → Type 0) (old middle new : List X) → ((x : X) → wanted x → first x ⊎ second x)
      → Reaches passes allowed first old middle
      → Reaches passes allowed second middle new
      → Reaches passes allowed wanted old new
  reaches_both allowed first second wanted old middle new one g h = record {
    kept = λ x k. h.kept x (g.kept x k);
    only = λ x k. either x (h.only x k);
    every = λ x w. by x (one x w);
  }
    where
      either : (x : X) → Contains middle x ⊎ allowed x → Contains old x ⊎ allowed x
      either x (inl k) = g.only x k
      either x (inr a) = inr a

      later : (x : X) → IsListedOrPassed passes middle x → IsListedOrPassed passes new x
      later x (inl k) = inl (h.kept x k)
      later x (inr (y, k, p)) = inr (y, h.kept y k, p)

      by : (x : X) → first x ⊎ second x → IsListedOrPassed passes new x
      by x (inl w) = later x (g.every x w)
      by x (inr w) = h.every x w

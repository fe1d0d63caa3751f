-- Marks changed one after another.
use Rattle.std.proofs.Common.{◌≡◌, ℕ, suc, zero, ◌+◌, ◌<◌, List, [], ◌∷◌, ◌++◌, map, take, drop, length, slice_set, refl, arith, ap, ◌∙◌, get_or}
use Rattle.std.specs.declared.option.Option.{Option}
use Rattle.clr_rows.specs.declared.cells.CellId.{CellId}
use Rattle.clr_rows.specs.declared.rows.Row.{Row}
use Rattle.clr_deltas.specs.declared.stored_marks.StoredMark.{StoredMark}
use Rattle.clr_deltas.specs.Deltas.{AreOwnOver}

-- the first few of a list changed
abbrev first : {A : Type 0} (f : A → A) (i : ℕ) (xs : List A) → List A
first f i xs = map f (take i xs) ++ drop i xs

next : {A : Type 0} (f : A → A) (xs : List A) (i : ℕ) (d : A) → i < length xs → slice_set (first f i xs) i (f (get_or (first f i xs) i d)) ≡ first f (suc i) xs
next f [] i d lt = absurd (omega arith)
next f (x ∷ xs) zero d lt = refl
next f (x ∷ xs) (suc i) d lt = ap (λ ys. f x ∷ ys) (next f xs i d (omega arith))

-- one more is changed
pub one_changed : {A : Type 0} (f : A → A) (xs ys : List A) (i : ℕ) (d : A) → ys ≡ map f (take i xs) ++ drop i xs → i < length xs
    → slice_set ys i (f (get_or ys i d)) ≡ map f (take (i + 1) xs) ++ drop (i + 1) xs
one_changed f xs ys i d is lt =
    let same : suc i ≡ i + 1 = omega arith in
    ap (λ zs. slice_set zs i (f (get_or zs i d))) is ∙ next f xs i d lt ∙ ap (λ j. first f j xs) same

-- one of some marks is changed, and keeps what is said of it
pub own_set : (base : Option Row) (q : CellId) (ms : List StoredMark) (i : ℕ) (m d : StoredMark) → (AreOwnOver base q (get_or ms i d ∷ [])
    → AreOwnOver base q (m ∷ [])) → AreOwnOver base q ms → AreOwnOver base q (slice_set ms i m)
own_set base q [] i m d one own = own
own_set base q (x ∷ ms) zero m d one own = ((one (own.0, tt)).0, own.1)
own_set base q (x ∷ ms) (suc i) m d one own = (own.0, own_set base q ms i m d one own.1)

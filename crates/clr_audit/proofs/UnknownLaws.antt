-- The first of some needs that isn't among known ones.
use Rattle.std.proofs.Common.{◌≡◌, ◌∙◌, ◌<◌, ◌≤◌, ◌+◌, ◌==◌, ℕ, Bool, true, false, cond, not, List, [], ◌∷◌, Contains, drop, filter, get_or, length, Option, Some, None}
use Rattle.std.proofs.Common.{refl, sym, ap, subst, slice_get, arith}
use Rattle.std.proofs.lemmas.Bool.{eqb-true, false≢true}
use Rattle.std.proofs.lemmas.List.{drop_all, drop_more}
use Rattle.std.proofs.lemmas.List.Elements.{filter_agree}
use Rattle.std.specs.Cmp.{Equal-is, tied_itself}
use Rattle.std.specs.Ordering.{is_eq}
use Rattle.clr_needs.specs.Tests.{IsTestOf}
use Rattle.clr_rules.specs.declared.needs.Broken.{Broken}
use Rattle.clr_rules.specs.Needs.{broken_cmp}
use Rattle.clr_rules.proofs.BrokenOrder.{broken_exact, broken_total}
use Rattle.clr_rules.proofs.Elements.{Among, among, any_by, contained, some_of}
use Rattle.clr_audit.specs.Unknown.{first_beside, is_known}

-- tests that pass together are one
both : (a b : Bool) → (a ≡ true → b ≡ true) → (b ≡ true → a ≡ true) → a ≡ b
both true b there back = sym (there refl)
both false true there back = back refl
both false false there back = refl

-- a need is known exactly where it is among the known ones
known_among : (known : List Broken) (need : Broken) → Contains known need → is_known known need ≡ true
known_among known need h = any_by (λ k. is_eq (broken_cmp k need)) need known (among need known h) (ap is_eq (tied_itself broken_total need))

among_known : (known : List Broken) (need : Broken) → is_known known need ≡ true → Contains known need
among_known known need e =
    let (k, listed, same) = some_of (λ k. is_eq (broken_cmp k need)) known e in
    let one : k ≡ need = broken_exact k need ((Equal-is (broken_cmp k need)).0 same) in
    contained need known (subst (λ (c : Broken). Among c known) one listed)

pub told_known : (known : List Broken) (need : Broken) (told : Bool) → IsTestOf told (Contains known need) → told ≡ is_known known need
told_known known need true h = sym (known_among known need h)
told_known known need false h = both false (is_known known need) (λ e. absurd (false≢true e)) (λ e. absurd (h (among_known known need e)))

-- the order of known needs doesn't count
pub same_beside : (known other needs : List Broken) → ((b : Broken) → (Contains other b → Contains known b) × (Contains known b → Contains other b))
    → first_beside other needs ≡ first_beside known needs
unfolding first_beside
same_beside known other needs same =
    ap (λ (bs : List Broken). slice_get bs 0) (filter_agree (λ b. not (is_known other b)) (λ b. not (is_known known b)) (λ b. ap not (alike b)) needs)
  where
    alike : (b : Broken) → is_known other b ≡ is_known known b
    alike b = both (is_known other b) (is_known known b) (λ e. known_among known b ((same b).0 (among_known other b e)))
        (λ e. known_among other b ((same b).1 (among_known known b e)))

-- where none is known, the first of all is
pub beside_none : (needs : List Broken) → first_beside [] needs ≡ slice_get needs 0
unfolding first_beside
beside_none [] = refl
beside_none (need ∷ needs) = refl

pub where_none_known : (known needs : List Broken) → (length known == 0) ≡ true → slice_get needs 0 ≡ first_beside known needs
where_none_known [] needs e = sym (beside_none needs)
where_none_known (b ∷ known) needs e = absurd (let none : length (b ∷ known) ≡ 0 = eqb-true _ 0 e in omega (arith, none))

-- ---- one need after another
pub passed : (known needs : List Broken) (i : ℕ) (need : Broken) → i < length needs → is_known known (get_or needs i need) ≡ true
    → first_beside known (drop i needs) ≡ first_beside known (drop (i + 1) needs)
unfolding first_beside
passed known needs i need less e =
    let rest = filter (λ b. not (is_known known b)) (drop (i + 1) needs) in
    ap (first_beside known) (drop_more needs i need less) ∙ ap (λ b. slice_get (cond (not b) (get_or needs i need ∷ rest) rest) 0) e

pub found : (known needs : List Broken) (i : ℕ) (need : Broken) → i < length needs → is_known known (get_or needs i need) ≡ false
    → first_beside known (drop i needs) ≡ Some (get_or needs i need)
unfolding first_beside
found known needs i need less e =
    let rest = filter (λ b. not (is_known known b)) (drop (i + 1) needs) in
    ap (first_beside known) (drop_more needs i need less) ∙ ap (λ b. slice_get (cond (not b) (get_or needs i need ∷ rest) rest) 0) e

pub none_left : (known needs : List Broken) (i : ℕ) → length needs ≤ i → first_beside known (drop i needs) ≡ None
unfolding first_beside
none_left known needs i past = ap (first_beside known) (drop_all i needs past)

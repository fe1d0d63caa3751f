-- The first need that no member helps, one need after another.
use Rattle.std.proofs.Common.{◌≡◌, ◌∙◌, ◌<◌, ◌≤◌, ◌+◌, ◌==◌, ℕ, Bool, true, false, List, [], ◌∷◌, inl, inr, get_or, length, slice_get, refl, sym, ap, arith}
use Rattle.std.proofs.lemmas.Bool.{cases_lt, true≢false}
use Rattle.std.proofs.lemmas.Bool.Decides.{Decides-eqb}
use Rattle.std.proofs.lemmas.Option.{get_or_from_slice_get, slice_get_read}
use Rattle.clr_order_search.specs.declared.open_needs.OpenNeed.{OpenNeed}
use Rattle.clr_order_answers.specs.Answers.{AreAllHelped, AreHelpedTo, IsUnhelpedAt}

empty_of : (xs : List ℕ) → (length xs == 0) ≡ true → xs ≡ []
empty_of [] e = refl
empty_of (x ∷ xs) e = let none = (Decides-eqb (length (x ∷ xs)) 0).0 e in absurd (omega (arith, none))

module _ (needs : List OpenNeed) (k : ℕ) (need : OpenNeed) (less : k < length needs) (read : need ≡ get_or needs k need) (told : Bool)
    (is : told ≡ (length need.helpers.items == 0)) (so_far : AreHelpedTo needs k) where
  pub unhelped_here : told ≡ true → IsUnhelpedAt needs k
  unhelped_here e = record {
    need = need;
    there = slice_get_read needs (length needs) k need refl less read;
    unhelped = empty_of need.helpers.items (sym is ∙ e);
    first = so_far;
  }

  pub helped_more : told ≡ false → AreHelpedTo needs (k + 1)
  helped_more e other at within there none = elim (cases_lt at k) [
    | inl before ↦ so_far other at before there none
    | inr most ↦ (let same : at ≡ k = omega (arith, within, most) in
        let here : need ≡ other = read ∙ get_or_from_slice_get needs k other need (ap (slice_get needs) (sym same) ∙ there) in
        true≢false (sym (is ∙ ap (λ (n : OpenNeed). length n.helpers.items == 0) here ∙ ap (λ xs. length xs == 0) none) ∙ e))
  ]

pub all_helped : (needs : List OpenNeed) (k : ℕ) → length needs ≤ k → AreHelpedTo needs k → AreAllHelped needs
all_helped needs k past so_far need at within there none = so_far need at (omega (arith, within, past)) there none

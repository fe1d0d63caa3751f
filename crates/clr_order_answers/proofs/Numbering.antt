-- Members that are listed one after another, and their places in a list.
use Rattle.std.proofs.Common.{◌≡◌, ◌∙◌, ◌<◌, ◌+◌, ◌==◌, ℕ, zero, suc, true, false, List, [], ◌∷◌, ◌++◌, Option, None, Some, inl, inr}
use Rattle.std.proofs.Common.{get_or, length, slice_get, take, refl, sym, ap, subst}
use Rattle.std.proofs.lemmas.Bool.{false≢true, or_left}
use Rattle.std.specs.List.{cons_option}
use Rattle.std.proofs.lemmas.List.{take_more}
use Rattle.std.proofs.lemmas.List.Elements.{filter_map-append}
use Rattle.std.proofs.lemmas.Option.{slice_get-get_or}
use Rattle.clr_order_search.specs.declared.open_needs.OpenNeed.{OpenNeed}
use Rattle.clr_order_search.specs.OpenNeeds.{has}
use Rattle.clr_order_search.proofs.Rests.{has_at, itself}
use Rattle.clr_order_knots.specs.Members.{needs_at}
use Rattle.clr_order_answers.specs.Renumbering.{AddsRenumbered, AreNumberedBy, AreRenumbered, IsAmong, IsRenumbered, StandFor}
use Rattle.clr_order_knots.proofs.Lists.{contained, contained_at, has_either, has_left, has_right}
use Rattle.clr_order_knots.proofs.Places.{at_place}
use Rattle.clr_order_knots.proofs.Those.{alone}

-- places of members, one after another --------------------------------------------------------------------------

module _ (list members : List ℕ) where
  pub no_places_yet : (places : List ℕ) → places ≡ [] → StandFor list places (take 0 members)
  no_places_yet places none = subst (λ ps. StandFor list ps (take 0 members)) (sym none) (record {
    only = λ place h. absurd (false≢true h);
    every = λ m h. absurd (nothing members m h);
  })
    where
      nothing : (xs : List ℕ) (m : ℕ) → has (take 0 xs) m ≡ true → ⊥
      nothing [] m h = false≢true h
      nothing (x ∷ xs) m h = false≢true h

  module _ (k : ℕ) (old : List ℕ) (place : ℕ) (less : k < length members) (at : slice_get list place ≡ Some (get_or members k 0))
      (stand : StandFor list old (take k members)) where
    abbrev last : ℕ
    last = get_or members k 0

    placed : StandFor list (old ++ place ∷ []) (take k members ++ last ∷ [])
    placed = record {
      only = λ p h. elim (has_either old (place ∷ []) p h) [
        | inl before ↦ (let (m, is, there) = stand.only p before in (m, is, has_left (take k members) (last ∷ []) m there))
        | inr now ↦ (
          last,
          subst (λ q. slice_get list q ≡ Some last) (alone place p now) at,
          has_right (take k members) (last ∷ []) last
              (or_left (last == last) false (itself last)),
        )
      ];
      every = λ m h. elim (has_either (take k members) (last ∷ []) m h) [
        | inl before ↦ (let (p, is, there) = stand.every m before in (p, is, has_left old (place ∷ []) p there))
        | inr now ↦ (place, at ∙ ap Some (alone last m now), has_right old (place ∷ []) place (or_left (place == place) false (itself place)))
      ];
    }

    pub one_placed : (new : List ℕ) → new ≡ old ++ place ∷ [] → StandFor list new (take (k + 1) members)
    one_placed new put = subst (λ ps. StandFor list ps (take (k + 1) members)) (sym put)
        (subst (StandFor list (old ++ place ∷ [])) (sym (take_more members k 0 less)) placed)

-- needs, one after another ---------------------------------------------------------------------------------------

module _ (list : List ℕ) where
  pub needs_joined : (xs ys : List OpenNeed) (x y : OpenNeed) → AreRenumbered list xs ys → IsRenumbered list x y
      → AreRenumbered list (xs ++ x ∷ []) (ys ++ y ∷ [])
  needs_joined [] [] x y are is = (is, tt)
  needs_joined [] (b ∷ ys) x y are is = absurd are
  needs_joined (a ∷ xs) [] x y are is = absurd are
  needs_joined (a ∷ xs) (b ∷ ys) x y are is = (are.0, needs_joined xs ys x y are.1 is)

  pub renumbered_from : (needs news : List OpenNeed) → AreRenumbered list needs news → (at : ℕ) (new : OpenNeed) → slice_get news at ≡ Some new
      → (need : OpenNeed) × (slice_get needs at ≡ Some need) × IsRenumbered list need new
  renumbered_from [] [] are at new e = absurd (cc)
  renumbered_from [] (b ∷ ys) are at new e = absurd are
  renumbered_from (a ∷ xs) [] are at new e = absurd are
  renumbered_from (a ∷ xs) (b ∷ ys) are zero new e = let one : b ≡ new = cc in (a, refl, subst (IsRenumbered list a) one are.0)
  renumbered_from (a ∷ xs) (b ∷ ys) are (suc at) new e = renumbered_from xs ys are.1 at new e

  pub renumbered_to : (needs news : List OpenNeed) → AreRenumbered list needs news → (at : ℕ) (need : OpenNeed) → slice_get needs at ≡ Some need
      → (new : OpenNeed) × (slice_get news at ≡ Some new) × IsRenumbered list need new
  renumbered_to [] news are at need e = absurd (cc)
  renumbered_to (a ∷ xs) [] are at need e = absurd are
  renumbered_to (a ∷ xs) (b ∷ ys) are zero need e = let one : a ≡ need = cc in (b, refl, subst (λ n. IsRenumbered list n b) one are.0)
  renumbered_to (a ∷ xs) (b ∷ ys) are (suc at) need e = renumbered_to xs ys are.1 at need e

-- one more place, with the need that stands there, if any
module _ (list : List ℕ) (needs : List OpenNeed) (places : List ℕ) (k : ℕ) (less : k < length places) where
  abbrev at : ℕ
  at = get_or places k 0

  abbrev seen : List OpenNeed
  seen = needs_at needs (take k places)

  pub next_needs : needs_at needs (take (k + 1) places) ≡ seen ++ cons_option (slice_get needs at) []
  next_needs = ap (needs_at needs) (take_more places k 0 less) ∙ filter_map-append (slice_get needs) (take k places) (at ∷ [])

  append_none : (xs : List OpenNeed) → xs ++ [] ≡ xs
  append_none [] = refl
  append_none (x ∷ xs) = ap (λ ys. x ∷ ys) (append_none xs)

  one_option : (o : Option OpenNeed) (old new : List OpenNeed) → AreRenumbered list seen old → AddsRenumbered list o old new
      → AreRenumbered list (seen ++ cons_option o []) new
  one_option None old new are same = subst (AreRenumbered list (seen ++ [])) (sym same) (subst (λ xs. AreRenumbered list xs old) (sym (append_none seen)) are)
  one_option (Some need) old new are (other, is, put) = subst (AreRenumbered list (seen ++ need ∷ [])) (sym put) (needs_joined list seen old need other are is)

  pub one_place_renumbered : (old new : List OpenNeed) → AreRenumbered list seen old → AddsRenumbered list (slice_get needs at) old new
      → AreRenumbered list (needs_at needs (take (k + 1) places)) new
  one_place_renumbered old new are adds = subst (λ xs. AreRenumbered list xs new) (sym next_needs) (one_option (slice_get needs at) old new are adds)

  pub numbered_there : AreNumberedBy list (needs_at needs places) → (need : OpenNeed) → slice_get needs at ≡ Some need → IsAmong list need
  numbered_there numbered need e =
      let there = at_place needs places at need (has_at places k at (slice_get-get_or places k 0 less)) e in
      let (j, f) = contained_at (needs_at needs places) need (contained need (needs_at needs places) there) in
      numbered need j f

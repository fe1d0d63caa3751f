-- A need that is possible with some change sets over a root is possible with more of them, where no cell is changed by two.
use Rattle.std.proofs.Common.{◌≡◌, ◌∙◌, ◌+◌, ℕ, zero, suc, true, List, [], ◌∷◌, ◌++◌, Contains}
use Rattle.std.proofs.Common.{ap, arith, length, refl, subst, sym}
use Rattle.std.specs.Prelude.{slice_get}
use Rattle.std.specs.List.{cons_option, filter_map, range_with_len}
use Rattle.std.proofs.lemmas.List.{length-append}
use Rattle.clr_rows.specs.Contents.{Changes, Content}
use Rattle.clr_rules.specs.declared.rules.Rule.{Rule}
use Rattle.clr_rules.proofs.Elements.{among}
use Rattle.clr_needs.specs.declared.needs.Need.{Need}
use Rattle.clr_needs.specs.Members.{AreApart, setting}
use Rattle.clr_needs.specs.Needs.{IsPossibleNeed}
use Rattle.clr_needs.specs.Parts.{setting_at}
use Rattle.clr_needs.specs.Settings.{Setting, has}
use Rattle.clr_needs.proofs.PartLaws.{possible_up}
use Rattle.clr_needs.proofs.PartPositions.{StandsIn, below_member, is_part}
use Rattle.clr_merge_clashes.proofs.PartPlaces.{from_on, range_rises}

module _ {X : Type 0} where
  one_back : (x : X) (xs : List X) (k n : ℕ) → filter_map (slice_get (x ∷ xs)) (range_with_len (suc k) n) ≡ filter_map (slice_get xs) (range_with_len k n)
  one_back x xs k zero = refl
  one_back x xs k (suc n) =
      let same : suc k + 1 ≡ suc (k + 1) = omega arith in
      ap (λ from. cons_option (slice_get xs k) (filter_map (slice_get (x ∷ xs)) (range_with_len from n))) same
      ∙ ap (cons_option (slice_get xs k)) (one_back x xs (k + 1) n)

  -- what stands at the first positions
  firsts_read : (xs more : List X) → filter_map (slice_get (xs ++ more)) (range_with_len 0 (length xs)) ≡ xs
  firsts_read [] more = refl
  firsts_read (x ∷ xs) more = ap (λ ys. x ∷ ys) (one_back x (xs ++ more) 0 (length xs) ∙ firsts_read xs more)

module _ (rules : List Rule) (root : Content) (sets more : List Changes) (apart : AreApart (sets ++ more)) where
  abbrev all : List Changes
  all = sets ++ more

  abbrev firsts : List ℕ
  firsts = range_with_len 0 (length sets)

  abbrev c : Setting ℕ
  c = setting rules root all

  members : (x : ℕ) → Contains firsts x → has c.same c.members x ≡ true
  members x h =
      let (low, high) = from_on 0 (length sets) x (among x firsts h) in
      let long = length-append sets more in
      below_member rules root all x (omega (arith, high, long))

  pub possible_beside : (n : Need) → IsPossibleNeed (setting rules root sets) n → IsPossibleNeed c n
  possible_beside n possible =
      let (p, q, here) = subst (λ (list : List Changes). IsPossibleNeed (setting rules root list) n) (sym (firsts_read sets more)) possible in
      let up = possible_up c (setting_at rules root all firsts) (StandsIn firsts)
      (is_part rules root all firsts apart (range_rises 0 (length sets)) members) n p q here in
      (up.first, up.second, up.possible)

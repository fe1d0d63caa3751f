-- What the sets that are printed tell of plans.
use Rattle.std.proofs.Common.{◌≡◌, ◌∙◌, ◌+◌, ◌<◌, ◌≤◌, ◌==◌, ℕ, zero, suc, Bool, true, false, List, [], ◌∷◌, inl, inr, Contains, Option, Some, None}
use Rattle.std.proofs.Common.{ap, arith, filter, get_or, length, ltb, refl, subst, sym}
use Rattle.std.specs.Prelude.{slice_get}
use Rattle.std.specs.List.{cons_option, filter_map, range_with_len}
use Rattle.std.proofs.lemmas.Bool.{false≢true, not-false}
use Rattle.std.proofs.lemmas.Bool.Decides.{Decides-eqb, nat_tests}
use Rattle.std.proofs.lemmas.Option.{slice_get-get_or}
use Rattle.clr_rules.proofs.Elements.{Among, contained, kept_among, some_of}
use Rattle.clr_steps.specs.Offices.{Office}
use Rattle.clr_steps.specs.Quiet.{MergeSet}
use Rattle.clr_merge_clashes.specs.Beside.{beside, is_beside}
use Rattle.clr_merge_clashes.specs.Laws.{ArePositions, AreSmallestSets}
use Rattle.clr_merge_clashes.specs.declared.clash_sets.MergeClashes.{MergeClashes}
use Rattle.clr_desk_clashes.specs.Clashes.{AreTold, LinesDecidePlans, NoneIsBeside}

-- what isn't beside was looked at
looked : (found : MergeClashes) (positions : List ℕ) → NoneIsBeside found positions → (at : ℕ) → Contains positions at → Contains found.looked.items at
looked found positions none at there =
    let (x, among, same) = some_of (λ x. x == at) found.looked.items (not-false _ (none at there)) in
    subst (λ y. Contains found.looked.items y) ((Decides-eqb x at).0 same) (contained x found.looked.items among)

in_range : (from len at : ℕ) → from ≤ at → at < from + len → Among at (range_with_len from len)
in_range from zero at low high = absurd (omega arith)
in_range from (suc len) at low high = by (ltb from at) refl (in_range (from + 1) len at)
  where
    by : (b : Bool) → ltb from at ≡ b → (from + 1 ≤ at → at < from + 1 + len → Among at (range_with_len (from + 1) len))
        → Among at (range_with_len from (suc len))
    by true t rest = let less : from < at = grind (arith, nat_tests) in inr (rest (omega arith) (omega arith))
    by false t rest = let same : from ≡ at = grind (arith, nat_tests) in inl same

module _ {X Y : Type 0} (f : X → Option Y) where
  nothing_behind : (found : Option Y) (ys : List Y) → cons_option found ys ≡ [] → ys ≡ []
  nothing_behind None ys e = e
  nothing_behind (Some y) ys e = cc

  nothing_found : (xs : List X) (x : X) (y : Y) → filter_map f xs ≡ [] → Among x xs → f x ≡ Some y → ⊥
  nothing_found [] x y e there is = there
  nothing_found (z ∷ xs) x y e (inl same) is =
      let made : cons_option (f z) (filter_map f xs) ≡ y ∷ filter_map f xs = ap (λ (found : Option Y). cons_option found (filter_map f xs)) (ap f same ∙ is) in
      let none : y ∷ filter_map f xs ≡ [] = sym made ∙ e in
      cc
  nothing_found (z ∷ xs) x y e (inr there) is = nothing_found xs x y (nothing_behind (f z) (filter_map f xs) e) there is

-- where no line names members beside, none is
none_named : (s : MergeSet) (found : MergeClashes) → beside s found.looked.items ≡ [] → (positions : List ℕ) → ArePositions s positions
    → NoneIsBeside found positions
none_named s found none positions are at there = by (is_beside found.looked.items at) refl
  where
    by : (b : Bool) → is_beside found.looked.items at ≡ b → is_beside found.looked.items at ≡ false
    by false e = e
    by true e =
        let less = are.below at there in
        let among = in_range 0 (length s.members) at (omega arith) (omega (arith, less)) in
        absurd (nothing_found (slice_get s.members) (filter (is_beside found.looked.items) (range_with_len 0 (length s.members))) at
        (get_or s.members at []) none
        (kept_among (is_beside found.looked.items) at (range_with_len 0 (length s.members)) among e) (slice_get-get_or s.members at [] less))

module _ (o : Office) (s : MergeSet) (found : MergeClashes) (sets : AreSmallestSets o s found) where
  told : (positions : List ℕ) → ArePositions s positions → NoneIsBeside found positions → AreTold o s found positions
  told positions are none p planned memory =
      let decided = sets.decided positions p are planned memory in
      (λ cleared k there held. false≢true (sym (decided.blocked k there held) ∙ cleared), λ holds. decided.cleared (looked found positions none) holds)

  pub lines_decide : LinesDecidePlans o s found
  lines_decide = record {
    but_beside = told;
    none_beside = λ none positions are. told positions are (none_named s found none positions are);
  }

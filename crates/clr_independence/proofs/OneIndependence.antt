-- The independence of members has one outcome alone, memory aside.
use Rattle.std.proofs.Common.{◌≡◌, ◌∙◌, ℕ, Bool, true, false, not, ◌++◌, codes, inl, inr, refl, sym, ap, subst}
use Rattle.std.proofs.Common.{List, [], ◌∷◌, map, None}
use Rattle.std.specs.List.{flat_map, list_any}
use Rattle.clr_rules.proofs.Elements.{Among, contained}
use Rattle.clr_needs.specs.Independence.{IsIndependence}
use Rattle.clr_needs.specs.Members.{AreApart}
use Rattle.clr_needs.specs.Settings.{Setting}
use Rattle.clr_steps.specs.Offices.{Office}
use Rattle.clr_steps.specs.Quiet.{MergeSet}
use Rattle.clr_clearance.specs.declared.verdicts.Verdict.{Verdict}
use Rattle.clr_clearance.specs.declared.verdicts.Verdict.TheVariants as verdict
use Rattle.clr_clearance.specs.MergeSets.{change_sets, setting_by_position}
use Rattle.clr_clearance.specs.Verdicts as verdicts
use Rattle.clr_clearance.specs.Verdicts.{IsVerdict, member_fault}
use Rattle.clr_clearance.proofs.VerdictLemmas.{not_apart, not_both, one_verdict}
use Rattle.clr_lines.specs.Verdicts.{verdict_text}
use Rattle.clr_independence.specs.declared.independent_members.Independence.{Independence}
use Rattle.clr_independence.specs.declared.independent_members.Independence.TheVariants as said
use Rattle.clr_independence.specs.declared.member_pairs.MemberPair.{MemberPair}
use Rattle.clr_independence.specs.Independences.{IsIndependenceOf, IsUnfitFor, of_cell, of_member}
use Rattle.clr_independence.specs.IndependenceLines.{independence_line, independence_text}
use Rattle.clr_independence.specs.Pairs.{pair_members}
use Rattle.clr_independence.specs.IndependenceOutcomes.{IsIndependenceOutcome, has_dependence}
use Rattle.clr_office_reports.proofs.OneOutcome.{IsOne}
use Rattle.clr_office_reports.proofs.Outcomes.{parts_are}

one_told : (c : Setting ℕ) (x y : ℕ) (told other : Bool) → IsIndependence c x y told → IsIndependence c x y other → told ≡ other
one_told c x y true true one two = refl
one_told c x y true false one two = absurd (one two)
one_told c x y false true one two = absurd (two one)
one_told c x y false false one two = refl

abbrev IsTold : Setting ℕ → MemberPair → Type 0
IsTold c p = IsIndependence c p.first p.second p.independent

one_pair : (c : Setting ℕ) (p q : MemberPair) → pair_members p ≡ pair_members q → IsTold c p → IsTold c q → p ≡ q
one_pair c p q same one two =
    let turned : IsIndependence c p.first p.second q.independent = subst (λ (both : ℕ × ℕ). IsIndependence c both.0 both.1 q.independent) (sym same) two in
    let told = one_told c p.first p.second p.independent q.independent one turned in
    λ i. record { first = (same i).0; second = (same i).1; independent = told i }

one_pairs : (c : Setting ℕ) (ps qs : List MemberPair) → map pair_members ps ≡ map pair_members qs
    → ((p : MemberPair) → Among p ps → IsTold c p) → ((q : MemberPair) → Among q qs → IsTold c q) → ps ≡ qs
one_pairs c [] [] same one two = refl
one_pairs c [] (q ∷ qs) same one two = absurd (cc)
one_pairs c (p ∷ ps) [] same one two = absurd (cc)
one_pairs c (p ∷ ps) (q ∷ qs) same one two =
    let head : pair_members p ≡ pair_members q = cc in
    let tail : map pair_members ps ≡ map pair_members qs = cc in
    λ i. one_pair c p q head (one p (inl refl)) (two q (inl refl)) i ∷ one_pairs c ps qs tail (λ x h. one x (inr h)) (λ x h. two x (inr h)) i

module _ (o : Office) (s : MergeSet) where
  not_unfit : (v : Verdict) → IsUnfitFor o s v → member_fault o s ≡ None → AreApart (change_sets o s) → ⊥
  not_unfit v (of_member is) none apart = not_both (member_fault o s) v none is
  not_unfit v (of_cell cell i j none_before shared is) none apart = not_apart (change_sets o s) cell i j shared (apart cell)

  -- a verdict that says why a merge set is unfit is the one on a certificate without entries
  unfit_verdict : (v : Verdict) → IsUnfitFor o s v → IsVerdict o s [] v
  unfit_verdict v (of_member is) = verdicts.of_member is
  unfit_verdict v (of_cell cell i j none shared is) = verdicts.of_cell cell i j none shared is

  abbrev text_of : Independence → List ℕ
  text_of value = independence_text o.schema s.members s.root value

  abbrev text_of_pairs : List MemberPair → List ℕ
  text_of_pairs pairs = flat_map (independence_line s.members) pairs

  same_text : (value other : Independence) → IsIndependenceOf o s value → IsIndependenceOf o s other
      → (text_of value ≡ text_of other) × (has_dependence value ≡ has_dependence other)
  unfolding independence_text
  same_text (said.Unfit v) (said.Unfit w) one two =
      let same = one_verdict o s [] v w (unfit_verdict v one) (unfit_verdict w two) in
      (ap (λ x. codes "unfit " ++ verdict_text o.schema s.members s.root x) same, refl)
  same_text (said.Unfit v) (said.Pairs pairs) one two = absurd (not_unfit v one two.0 two.1)
  same_text (said.Pairs pairs) (said.Unfit v) one two = absurd (not_unfit v two one.0 one.1)
  same_text (said.Pairs pairs) (said.Pairs others) one two =
      let same : pairs.items ≡ others.items = one_pairs (setting_by_position o s) pairs.items others.items (one.2.all ∙ sym two.2.all)
      (λ p h. one.2.each p (contained p pairs.items h)) (λ p h. two.2.each p (contained p others.items h)) in
      (ap text_of_pairs same, ap (list_any (λ (p : MemberPair). not p.independent)) same)

  pub one_independence : IsOne (IsIndependenceOutcome o s)
  one_independence all other (value, of_merge_set, is) (second, of_merge_set_other, is_other) found found_other =
      let same = same_text value second of_merge_set of_merge_set_other in
      is ∙ parts_are o _ _ _ _ _ _ same.0 same.1 refl ∙ sym is_other

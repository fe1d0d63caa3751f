-- Needs that are known, and needs that aren't among others.
use Rattle.std.proofs.Common.{◌≡◌, ◌↔◌, ◌∙◌, ap, Bool, true, false, not, Contains, List, refl, subst, sym}
use Rattle.std.specs.Prelude.{filter}
use Rattle.std.specs.List.Sorted.{IsStrictlySortedBy}
use Rattle.std.specs.Ordering.{is_eq}
use Rattle.std.proofs.lemmas.Bool.{false≢true}
use Rattle.std.specs.Cmp.{Equal-is, tied_itself}
use Rattle.std.proofs.lemmas.List.Kept.{IsStrictlySortedBy-filter}
use Rattle.clr_audit.specs.Unknown.{is_known}
use Rattle.clr_needs.specs.Tests.{IsTestOf}
use Rattle.clr_rules.specs.declared.needs.Broken.{Broken}
use Rattle.clr_rules.specs.Needs.{broken_cmp}
use Rattle.clr_rules.proofs.BrokenOrder.{broken_exact, broken_total}
use Rattle.clr_rules.proofs.Elements.{Among, among, among_kept, any_by, contained, kept_among, some_of}

module _ (needs : List Broken) (need : Broken) where
  pub known_if_there : Contains needs need → is_known needs need ≡ true
  known_if_there there = any_by (λ k. is_eq (broken_cmp k need)) need needs (among need needs there) (ap is_eq (tied_itself broken_total need))

  pub there_if_known : is_known needs need ≡ true → Contains needs need
  there_if_known told =
      let (k, listed, tie) = some_of (λ k. is_eq (broken_cmp k need)) needs told in
      let one : k ≡ need = broken_exact k need ((Equal-is (broken_cmp k need)).0 tie) in
      contained need needs (subst (λ (d : Broken). Among d needs) one listed)

  pub known_by : (told : Bool) → IsTestOf told (Contains needs need) → told ≡ is_known needs need
  known_by true there = sym (known_if_there there)
  known_by false absent = go (is_known needs need) refl
    where
      go : (b : Bool) → is_known needs need ≡ b → false ≡ b
      go true e = absurd (absent (there_if_known e))
      go false e = refl

-- the same needs are known by two lists that have the same
pub same_known : (one other : List Broken) → ((x : Broken) → Contains one x ↔ Contains other x) → (need : Broken)
    → is_known one need ≡ is_known other need
same_known one other same need = known_by other need (is_known one need) (test (is_known one need) refl)
  where
    test : (told : Bool) → is_known one need ≡ told → IsTestOf told (Contains other need)
    test true e = (same need).0 (there_if_known one need e)
    test false e = λ there. false≢true (sym e ∙ known_if_there one need ((same need).1 there))

-- the needs of a list that aren't among others
abbrev left_of : List Broken → List Broken → List Broken
left_of others needs = filter (λ need. not (is_known others need)) needs

pub rises : (others needs : List Broken) → IsStrictlySortedBy broken_cmp needs → IsStrictlySortedBy broken_cmp (left_of others needs)
rises others needs ascending = IsStrictlySortedBy-filter broken_cmp (λ need. not (is_known others need)) needs ascending

not_false : (b : Bool) → not b ≡ true → b ≡ false
not_false true e = absurd (false≢true e)
not_false false e = refl

not_true : (b : Bool) → (b ≡ true → ⊥) → not b ≡ true
not_true true none = absurd (none refl)
not_true false none = refl

pub exactly : (others in_order needs : List Broken) → ((x : Broken) → Contains in_order x ↔ Contains needs x) → (need : Broken)
    → Contains (left_of others in_order) need ↔ (Contains needs need × ¬ (Contains others need))
exactly others in_order needs same need = (
  λ there. (let parts = among_kept (λ k. not (is_known others k)) need in_order (among need (left_of others in_order) there) in (
    (same need).0 (contained need in_order parts.0),
    λ among_others. false≢true (sym (not_false (is_known others need) parts.1) ∙ known_if_there others need among_others),
  )),
  λ told. contained need (left_of others in_order)
      (kept_among (λ k. not (is_known others k)) need in_order (among need in_order ((same need).1 told.0))
      (not_true (is_known others need) (λ e. told.1 (there_if_known others need e)))),
)

-- A row that lies on no part of another one never serves it under a crossing.
use Rattle.std.proofs.Common.{◌≡◌, ◌∙◌, ◌<◌, ◌≤◌, ◌+◌, ℕ, zero, suc, true, false, List, inl, inr, Option, Some, None, length, min, refl, sym, ap, subst}
use Rattle.std.proofs.Common.{add-one, arith}
use Rattle.std.specs.Prelude.{slice_get}
use Rattle.std.proofs.lemmas.Bool.{and_parts, cases_lt, false≢true}
use Rattle.std.proofs.lemmas.Option.{slice_get_past}
use Rattle.clr_rows.specs.declared.places.Place.{Place}
use Rattle.clr_rows.specs.declared.places.Shape.{Shape}
use Rattle.clr_rows.specs.Held.{Held}
use Rattle.clr_rows.specs.Parts.{part_of, parts_of}
use Rattle.clr_segments.specs.Searches.{lies_on}
use Rattle.clr_rules.specs.declared.needs.Ask.{Ask}
use Rattle.clr_rules.specs.declared.rules.Rule.{Rule}
use Rattle.clr_rules.specs.declared.rules.Rule.TheVariants.{Crossing}
use Rattle.clr_rules.specs.declared.sides.Side.{Side}
use Rattle.clr_rules.specs.Calls.{is_crossing_at, is_server, serves}
use Rattle.clr_rules.specs.Fitting.{IsSoundShape}
use Rattle.clr_rules.specs.Sides.{Segment, is_of_side, point_of}
use Rattle.clr_rules.proofs.FittingLemmas.{counted_parts}
use Rattle.clr_row_versions.specs.Serving.{IsNeverServed, LiesOnNoPart, is_on_part}
use Rattle.clr_row_versions.proofs.AskLaws.{served_by}

-- ---- points of parts

pub on_no_part : (p : Place) (shape : Shape) (k : ℕ) → IsSoundShape shape → min (length (parts_of shape)) 65535 ≤ k
    → ((j : ℕ) → j < k → is_on_part (Some p) (part_of shape (j + 1)) ≡ false)
    → (number : ℕ) → is_on_part (Some p) (part_of shape number) ≡ false
on_no_part p shape k sound past none zero = refl
on_no_part p shape k sound past none (suc n) = elim (cases_lt n k) [
  | inl less ↦ subst (λ m. is_on_part (Some p) (part_of shape m) ≡ false) (add-one n) (none n less)
  | inr most ↦ ap (is_on_part (Some p)) (slice_get_past (parts_of shape) n (omega (arith, past, most, counted_parts shape sound)))
]

on_first : (x y : Option Segment) (p : Option Place) → is_crossing_at x y p ≡ true → is_on_part p x ≡ true
on_first None y p e = absurd (false≢true e)
on_first (Some a) None p e = absurd (false≢true e)
on_first (Some a) (Some b) None e = absurd (false≢true e)
on_first (Some a) (Some b) (Some p) e = (and_parts (lies_on p a.0 a.1) (lies_on p b.0 b.1) (and_parts _ _ e).1).0

on_second : (x y : Option Segment) (p : Option Place) → is_crossing_at x y p ≡ true → is_on_part p y ≡ true
on_second None y p e = absurd (false≢true e)
on_second (Some a) None p e = absurd (false≢true e)
on_second (Some a) (Some b) None e = absurd (false≢true e)
on_second (Some a) (Some b) (Some p) e = (and_parts (lies_on p a.0 a.1) (lies_on p b.0 b.1) (and_parts _ _ e).1).1

crossing_there : (a b server : Side) (ask : Ask) (s t r : Held) → is_server (Crossing a b server) ask s (Some t) r ≡ true
    → is_crossing_at (part_of s.1.shape ask.first_part) (part_of t.1.shape ask.second_part) (point_of r) ≡ true
unfolding is_server
crossing_there a b server ask s t r e = (and_parts (is_of_side server r) _ e).1

no_crossing_alone : (a b server : Side) (ask : Ask) (s r : Held) → is_server (Crossing a b server) ask s None r ≡ true → ⊥
unfolding is_server
no_crossing_alone a b server ask s r e = false≢true (and_parts (is_of_side server r) _ e).1

-- under a crossing a row that lies on no part of another one never serves it
pub never_at_crossing : (rules : List Rule) (number : ℕ) (a b server : Side) (r s : Held) → slice_get rules number ≡ Some (Crossing a b server)
    → LiesOnNoPart r.1.shape s.1.shape → IsNeverServed rules number r s
never_at_crossing rules number a b server r s at off = record { first = first; second = second }
  where
    its_rule : (ask : Ask) → ask.rule ≡ number → slice_get rules ask.rule ≡ Some (Crossing a b server)
    its_rule ask is = ap (slice_get rules) is ∙ at

    first : (ask : Ask) (t : Option Held) → ask.rule ≡ number → serves rules ask s t r ≡ true → ⊥
    first ask None is e = no_crossing_alone a b server ask s r (served_by rules ask s None r (Crossing a b server) (its_rule ask is) e)
    first ask (Some t) is e =
        let crossing = crossing_there a b server ask s t r (served_by rules ask s (Some t) r (Crossing a b server) (its_rule ask is) e) in
        false≢true (sym (off ask.first_part) ∙ on_first (part_of s.1.shape ask.first_part) (part_of t.1.shape ask.second_part) (point_of r) crossing)

    second : (ask : Ask) (t : Held) → ask.rule ≡ number → serves rules ask t (Some s) r ≡ true → ⊥
    second ask t is e =
        let crossing = crossing_there a b server ask t s r (served_by rules ask t (Some s) r (Crossing a b server) (its_rule ask is) e) in
        false≢true (sym (off ask.second_part) ∙ on_second (part_of t.1.shape ask.first_part) (part_of s.1.shape ask.second_part) (point_of r) crossing)

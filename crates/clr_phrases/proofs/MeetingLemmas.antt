-- Where no place of whole coordinates is common to two parts.
use Rattle.std.proofs.Common.{◌≡◌, ◌≢◌, inl, inr, pos, sym, subst}
use Rattle.clr_rows.specs.declared.places.Place.{Place}
use Rattle.clr_segments.specs.Segments.{LiesOn, OneCommonPoint, SomeCommonPoint}
use Rattle.clr_segments.proofs.Integers.{by_same}
use Rattle.clr_phrases.specs.Crossings.{product_of_ways}
use Rattle.clr_phrases.specs.Meetings.{IsPart, NoCommonPlace}
use Rattle.clr_phrases.proofs.ParallelLemmas.{end_on_second, first_end, last_end}

abbrev pub LiesOnBoth : Place → Place → Place → Place → Place → Type 0
LiesOnBoth p a b c d = LiesOn p a b × LiesOn p c d

-- neither the place at which the lines cross nor an end of the first part lies on both
pub no_common_place : (a b c d q : Place) → IsPart a b → IsPart c d → SomeCommonPoint a b c d → OneCommonPoint a b c d
    → ((p : Place) → LiesOn p a b → LiesOn p c d → product_of_ways a b c d ≢ pos 0 → q ≡ p)
    → ¬ (LiesOnBoth q a b c d) → ¬ (LiesOnBoth a a b c d) → ¬ (LiesOnBoth b a b c d)
    → NoCommonPlace a b c d
no_common_place a b c d q part other some one crossing not_q not_a not_b p first second =
    by_same (product_of_ways a b c d) (pos 0)
    (λ slanted. not_q (subst (λ (z : Place). LiesOnBoth z a b c d) (sym (crossing p first second slanted)) (first, second)))
    (λ parallel. elim (end_on_second a b c d part.2 other.2 parallel some one) [ inl f ↦ not_a (first_end a b, f) | inr l ↦ not_b (last_end a b, l) ])

-- Needs settled one after another.
use Rattle.std.proofs.Common.{ℕ, List, Option, subst}
use Rattle.clr_rules.proofs.Elements.{among, contained}
use Rattle.clr_needs.specs.declared.needs.Need.{Need}
use Rattle.clr_needs.specs.Covers.{Entry}
use Rattle.clr_needs.specs.Needs.{IsPossible}
use Rattle.clr_needs.specs.Settings.{Setting, Lived}
use Rattle.clr_clearance.proofs.CheckLemmas.{among_at, earlier, one_beside, one_lived}
use Rattle.clr_ordered_needs.specs.Turns.{Order}
use Rattle.clr_ordered_clearance.specs.VerdictLaws.{AllSettledLaw, FirstUnsettledLaw, IsSettledNeed}
use Rattle.clr_ordered_clearance.specs.Verdicts.{IsSettled}

pub all_settled : AllSettledLaw
all_settled before c entries needs list settled n a b possible touched = settled n ((list.exactly n).1 (a, b, possible, touched)) a b possible

-- a need has one row and life of each subject
settled_by : (before : Order ℕ) (c : Setting ℕ) (entries : List Entry) (n : Need) (a : Lived ℕ) (b : Option (Lived ℕ)) → IsPossible c n a b
    → IsSettled before c entries n a b → IsSettledNeed before c entries n
settled_by before c entries n a b possible settled d e other =
    subst (λ x. IsSettled before c entries n d x) (one_beside c n.first a d n.second b e possible.second_is other.second_is)
    (subst (λ x. IsSettled before c entries n x b) (one_lived c n.first a d possible.first_is other.first_is) settled)

pub first_unsettled : FirstUnsettledLaw
first_unsettled before c entries needs at n list is settled bare =
    let (a, b, possible, touched) = (list.exactly n).0 (contained n needs (among_at needs at n is)) in (
      a,
      b,
      record {
        possible = possible;
        touched = touched;
        uncovered = λ here. bare (settled_by before c entries n a b possible here);
        first = λ m d e less possible_too touched_too.
            (let place = earlier needs at n m list.ascending is (among m needs ((list.exactly m).1 (d, e, possible_too, touched_too))) less in
            settled place.before m place.less place.is d e possible_too);
      },
    )

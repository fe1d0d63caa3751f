use Rattle.std.proofs.Common.{Contains, subst}
use Rattle.clr_order_answers.proofs.pairs.pairs_of.Goals as goal

pub returns : goal.returns
returns c =
    let kept = c.in_ok-kept.ensures in
    record {
      served = kept.served;
      in_order = λ p h. c.in_ok-pairs.ensures.in_order p (subst (λ ps. Contains ps p) c.as_slice.ensures.value (kept.among p h));
      needed = kept.needed;
    }

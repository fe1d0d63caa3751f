-- What a clear verdict promises under an order.
use Rattle.std.proofs.Common.{List}
use Rattle.clr_needs.specs.Covers.{Entry}
use Rattle.clr_steps.specs.Offices.{Office}
use Rattle.clr_clearance.proofs.StaticLemmas.{others_free}
use Rattle.clr_ordered_clearance.specs.MergeSets.{CoversInTurn, OrderedMergeSet}
use Rattle.clr_ordered_clearance.specs.VerdictLaws.{ClearedInTurnLaw, StaysFreeInTurn}
use Rattle.clr_ordered_clearance.proofs.HeadlineLemmas.{headline_in_turn}
use Rattle.clr_ordered_clearance.proofs.ListedLemmas.{listed_merges, own_list}
use Rattle.clr_ordered_clearance.proofs.RunLemmas.{runs_cleared}
use Rattle.clr_ordered_clearance.proofs.SafeLemmas.{covered_in_turn, held_in_turn, safe_in_turn}
use Rattle.clr_ordered_clearance.proofs.VerdictLemmas.{clear_in_turn}

stays_free : (o : Office) (ordered : OrderedMergeSet) (entries : List Entry) → CoversInTurn o ordered entries → StaysFreeInTurn o ordered
stays_free o ordered entries covers = record {
  no_more = covered_in_turn o ordered entries covers;
  keeps = held_in_turn o ordered (covered_in_turn o ordered entries covers);
  free = others_free o ordered.merge_set covers.mergeable;
}

pub cleared_in_turn : ClearedInTurnLaw
cleared_in_turn o ordered entries clear =
    let (covers, listed) = (clear_in_turn o ordered entries).0 clear in
    record {
      free = stays_free o ordered entries covers;
      safe = safe_in_turn o ordered entries covers;
      headline = headline_in_turn o ordered entries covers;
      listed = listed_merges o ordered entries ordered.merge_set.members covers (own_list o ordered covers.mergeable listed);
      lists = λ names in_turn. listed_merges o ordered entries names covers in_turn;
      runs = runs_cleared o ordered (safe_in_turn o ordered entries covers);
    }

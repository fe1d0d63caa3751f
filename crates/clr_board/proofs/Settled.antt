-- Members are left out, one after another.
use Rattle.std.proofs.Common.{◌≡◌, ℕ, suc, List, Some}
use Rattle.clr_steps.specs.Offices.{Office}
use Rattle.clr_steps.specs.Quiet.{MergeSet}
use Rattle.clr_merge_orders.specs.declared.merge_orders.MergeOrder.{MergeOrder}
use Rattle.clr_merge_orders.specs.MergeOrders.{IsFoundOrder}
use Rattle.clr_merge_clashes.specs.Laws.{merge_set_of_part}
use Rattle.clr_clash_helpers.specs.declared.helped.HelpedClash.{HelpedClash}
use Rattle.clr_board.specs.Settling.{Settles, dropped, drops, without}

-- what is found of the members that are left, in so many rounds, is found of all in more
abbrev pub Leads : Office → MergeSet → List HelpedClash → ℕ → List ℕ → ℕ → List ℕ → Type 0
Leads o s helped rounds goers more all =
    (last : List ℕ) (order : MergeOrder) → Settles o s helped rounds goers last order → Settles o s helped more all last order

-- one member less
pub leads_on : (o : Office) (s : MergeSet) (helped : List HelpedClash) (rounds : ℕ) (goers : List ℕ) (more : ℕ) (all : List ℕ) (at : ℕ) (order : MergeOrder)
    → Leads o s helped (suc rounds) goers more all → IsFoundOrder o (merge_set_of_part s goers) order → dropped helped goers order ≡ Some at
    → Leads o s helped rounds (without at goers) more all
leads_on o s helped rounds goers more all at order leads found is last final settles =
    leads last final (drops rounds goers last at order final found is settles)

use Rattle.std.proofs.Common.{nat_eq, ◌≡◌, ◌∙◌, ap, true}
use Rattle.std.specs.HashMap.{get}
use Rattle.std.specs.FinSet as set
use Rattle.clr_finders.proofs.NextLemmas.{next_as}
use Rattle.clr_grid.specs.Filing.{has_cell}
use Rattle.clr_grid.proofs.side_index.SideIndex.next_at.Goals as goal

pub returns-in-Some : goal.returns-in-Some
returns-in-Some c =
    next_as c.args.after (λ q. set.contains c.in-Some.cells.now q ≡ true) (λ q. has_cell (get nat_eq c.args.self.now.by_spot c.args.number) q
    ≡ true) c.next.result
    (λ q e. ap (λ o. has_cell o q) c.in-Some.ensures.value ∙ e) c.next.ensures

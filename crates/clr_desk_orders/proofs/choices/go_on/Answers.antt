use Rattle.std.proofs.Common.{◌∷◌, ◌++◌, [], List, subst}
use Rattle.std.proofs.lemmas.Result.{on_ok_weaker}
use Rattle.clr_workspaces.specs.Marks.{Name}
use Rattle.clr_desk_orders.specs.ChoicesInOrder.{IsAddedTo, IsChosenInOrder, IsTriedInOrder}
use Rattle.clr_desk_orders.proofs.TryingInOrder.{tried}
use Rattle.clr_desk_orders.proofs.choices.go_on.Goals as goal

pub returns : goal.returns
returns c =
    let o = c.args.office.now in
    let root = c.args.root.now in
    let name = c.args.name.now in
    let old = c.args.choice.now in
    let trial = subst (λ (taken : List Name). IsTriedInOrder o root (taken ++ name ∷ []) name c.in_ok-trial.trial) c.as_slice.ensures.value c.in_ok-trial.ensures in
    on_ok_weaker c.add.result
    (λ (added : IsAddedTo old name c.in_ok-trial.trial c.add.new.choice) (names : List Name) (so_far : IsChosenInOrder o root names old).
    tried o root names name old c.add.new.choice c.in_ok-trial.trial trial added so_far)
    c.add.ensures

use Rattle.std.proofs.Common.{◌≡◌, Bool, codes, rules, subst, true}
use Rattle.clr_steps.specs.declared.commands.Command.TheVariants as command
use Rattle.clr_work_orders.specs.Making.{IsDone}
use Rattle.clr_work_orders.proofs.trials.go_back.Goals as goal

pub returns : goal.returns
returns c =
    let o = c.args.office.now in
    let ws = c.args.ws.now in
    let there = c.roll_back.new.office in
    let first : c.in_ok-roll_back.field-0 ≡ true = search rules in
    let second : c.in_ok-drop_savepoint.field-0 ≡ true = search rules in (
      there,
      subst (λ (done : Bool). IsDone o (command.RollTo ws (codes "before_trial")) done there) first c.in_ok-roll_back.ensures,
      subst (λ (done : Bool). IsDone there (command.Unmark ws (codes "before_trial")) done c.drop_savepoint.new.office) second c.in_ok-drop_savepoint.ensures,
    )

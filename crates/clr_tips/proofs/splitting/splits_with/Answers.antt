use Rattle.std.proofs.Common.{◌∙◌, ap, ap₂}
use Rattle.clr_rows.specs.declared.rows.Row.{Row}
use Rattle.clr_tips.specs.declared.lines.Splitter.{Splitter}
use Rattle.clr_tips.specs.Rows.{serving_row}
use Rattle.clr_tips.specs.Splitting.{splits}
use Rattle.clr_tips.proofs.splitting.splits_with.Goals as goal

pub returns-in_ok-list-in-Some-Some : goal.returns-in_ok-list-in-Some-Some
returns-in_ok-list-in-Some-Some c =
    let place = c.args.place in
    let node = serving_row c.in-Some-Some.table.now c.args.side.now place in
    rw (c.in-Some-Some.is-0, c.in-Some-Some.is-1) (c.in_ok-list-in-Some-Some.ensures
    ∙ ap (λ (row : Row). splits place row c.in_ok-one-in-Some-Some.one c.in_ok-two-in-Some-Some.two) c.in_ok-node-in-Some-Some.ensures
    ∙ ap₂ (λ (one two : Splitter). splits place node one two) c.in_ok-one-in-Some-Some.ensures c.in_ok-two-in-Some-Some.ensures)

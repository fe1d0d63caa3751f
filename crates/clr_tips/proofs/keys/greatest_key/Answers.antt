use Rattle.std.proofs.Common.{◌∙◌, ℕ, ap, map}
use Rattle.clr_steps.specs.Readings.{changes_in, if_stands}
use Rattle.clr_steps.specs.Offices.{content_of}
use Rattle.clr_tips.specs.Keys.{greatest_in, standing_key}
use Rattle.clr_tips.proofs.keys.greatest_key.Goals as goal

pub returns : goal.returns
returns c = λ e.
    let o = c.args.office.now in
    let root = c.args.root.now in
    let table = c.args.table in
    c.greatest_in.ensures
    ∙ ap (λ (k : ℕ). greatest_in table k c.as_slice.result.now) (c.standing_key-standing.ensures ∙ ap (standing_key table) c.in_ok-rows.ensures)
    ∙ ap (greatest_in table (standing_key table (if_stands o root (content_of o root))))
    (c.as_slice.ensures.value ∙ c.in_ok-all.ensures.members.changes ∙ ap (map (changes_in o)) e)

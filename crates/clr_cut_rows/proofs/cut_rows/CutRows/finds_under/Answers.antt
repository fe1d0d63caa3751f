use Rattle.std.proofs.Common.{◌∙◌, sym}
use Rattle.clr_rows.specs.Held.{held_of}
use Rattle.clr_cut_rows.proofs.SearchLemmas.{left_told, none_told, right_if_told}
use Rattle.clr_cut_rows.proofs.cut_rows.CutRows.finds_under.Goals as goal

pub returns-then-is_near_touching : goal.returns-then-is_near_touching
returns-then-is_near_touching g c = left_told c.is_near_touching.result c.if-is_near_touching.true
    (c.is_near_touching.ensures (held_of c.args.held) c.in_ok-near.ensures)

pub returns-then-not-may_serve_under : goal.returns-then-not-may_serve_under
returns-then-not-may_serve_under g c = none_told c.is_near_touching.result _ c.if-is_near_touching.false
    (sym c.may_serve_under.ensures ∙ c.if-not-may_serve_under.true) (c.is_near_touching.ensures (held_of c.args.held) c.in_ok-near.ensures)

pub returns : goal.returns
returns g c = right_if_told c.is_near_touching.result _ c.in_ok-touched.touched c.if-is_near_touching.false
    (sym c.may_serve_under.ensures ∙ c.if-not-may_serve_under.false) (c.is_near_touching.ensures (held_of c.args.held) c.in_ok-near.ensures)
    (c.in_ok-touched.ensures (held_of c.args.held) c.in_ok-near.ensures)

use Rattle.std.proofs.Common.{◌≡◌, ◌∙◌, ◌++◌, ap, append-nil, map, sym, subst, List}
use Rattle.std.specs.Option.{option_map}
use Rattle.std.specs.Ordering.{is_lt}
use Rattle.std.specs.Prelude.{OnOk}
use Rattle.clr_rows.specs.Held.{held_of}
use Rattle.clr_rules.specs.declared.needs.Broken.{Broken}
use Rattle.clr_audit.proofs.FitLaws.{fit_beside}
use Rattle.clr_audit.proofs.NeedLaws.{at_among, beside_is, beside_before, beside_none}
use Rattle.clr_audit.proofs.searching.Search.add_beside.Goals as goal

pub add_two_if_broken-requires-clause-fit : goal.add_two_if_broken-requires-clause-fit
add_two_if_broken-requires-clause-fit c = fit_beside c.args.self.now.book.now (held_of c.args.first) (held_of c.in-Some.second)
    (map held_of c.args.self.now.rows.now) c.requires.fit
    (at_among (map held_of c.args.self.now.rows.now) c.args.filed_part.position (held_of c.in-Some.second) (sym c.row_at.ensures
    ∙ ap (option_map held_of) c.in-Some.is))

pub returns-in-Some-clause-ok : goal.returns-in-Some-clause-ok
returns-in-Some-clause-ok c =
    let is = beside_is c.args.self.now c.args.servers.now (held_of c.args.first) c.args.part c.args.filed_part.position c.args.filed_part.part
    (option_map held_of c.row_at.result) (held_of c.in-Some.second)
    c.row_at.ensures (ap (option_map held_of) c.in-Some.is) (sym (c.is_lt.ensures ∙ ap is_lt c.cmp.ensures) ∙ c.if-is_lt.true) in
    subst (λ (more : List Broken). OnOk c.add_two_if_broken.result (c.add_two_if_broken.new.list.items ≡ c.args.list.now.items ++ more))
    (sym is) c.add_two_if_broken.ensures.ok

pub returns-in_default-clause-ok : goal.returns-in_default-clause-ok
returns-in_default-clause-ok c =
    sym (ap (λ (more : List Broken). c.args.list.now.items ++ more)
    (beside_before c.args.self.now c.args.servers.now (held_of c.args.first) c.args.part c.args.filed_part.position c.args.filed_part.part
    (option_map held_of c.row_at.result) (held_of c.in-Some.second)
    c.row_at.ensures (ap (option_map held_of) c.in-Some.is) (sym (c.is_lt.ensures ∙ ap is_lt c.cmp.ensures) ∙ c.if-is_lt.false))
    ∙ append-nil c.args.list.now.items)

pub returns-in_default-2-clause-ok : goal.returns-in_default-2-clause-ok
returns-in_default-2-clause-ok c =
    sym (ap (λ (more : List Broken). c.args.list.now.items ++ more)
    (beside_none c.args.self.now c.args.servers.now (held_of c.args.first) c.args.part c.args.filed_part.position c.args.filed_part.part
    (option_map held_of c.row_at.result)
    c.row_at.ensures (ap (option_map held_of) c.in_default.is)) ∙ append-nil c.args.list.now.items)

use Rattle.std.proofs.Common.{◌∙◌, ap, map, sym}
use Rattle.std.specs.Option.{option_map}
use Rattle.clr_rows.specs.Held.{held_of}
use Rattle.clr_rules.proofs.FittingLemmas.{first_sound, second_sound}
use Rattle.clr_audit.specs.PartServers.{may_serve_part_by}
use Rattle.clr_audit.specs.Searches.{may_serve_if}
use Rattle.clr_audit.proofs.FitLaws.{fit_beside}
use Rattle.clr_audit.proofs.NeedLaws.{at_among}
use Rattle.clr_audit.proofs.searching.Search.may_serve_at.Goals as goal

pub may_serve_part-requires-clause-first : goal.may_serve_part-requires-clause-first
may_serve_part-requires-clause-first c = first_sound c.args.self.now.book.now (held_of c.args.first) (map held_of c.args.self.now.rows.now) c.requires.fit

pub may_serve_part-requires-clause-server : goal.may_serve_part-requires-clause-server
may_serve_part-requires-clause-server c = second_sound c.args.self.now.book.now (held_of c.args.first) (held_of c.in-Some.server)
    (map held_of c.args.self.now.rows.now)
    (fit_beside c.args.self.now.book.now (held_of c.args.first) (held_of c.in-Some.server) (map held_of c.args.self.now.rows.now) c.requires.fit
    (at_among (map held_of c.args.self.now.rows.now) c.args.filed_part.position (held_of c.in-Some.server) (sym c.row_at.ensures
    ∙ ap (option_map held_of) c.in-Some.is)))

pub returns-in-Some : goal.returns-in-Some
returns-in-Some c = c.may_serve_part.ensures ∙ ap (λ o. may_serve_part_by o c.args.part (held_of c.args.first) (held_of c.in-Some.server)) (sym c.rule.ensures)
    ∙ ap (may_serve_if c.args.self.now.book.now c.args.self.now.rule c.args.part (held_of c.args.first)) (sym (ap (option_map held_of) c.in-Some.is)
    ∙ c.row_at.ensures)

pub returns-in-None : goal.returns-in-None
returns-in-None c = ap (may_serve_if c.args.self.now.book.now c.args.self.now.rule c.args.part (held_of c.args.first))
    (sym (ap (option_map held_of) c.in-None.is) ∙ c.row_at.ensures)

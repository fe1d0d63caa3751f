use Rattle.std.proofs.Common.{◌∙◌, ap, sym}
use Rattle.std.specs.Option.{option_map}
use Rattle.clr_rows.specs.Held.{held_of}
use Rattle.clr_audit.specs.Searches.{serves_if}
use Rattle.clr_audit.proofs.searching.Search.serves_at.Goals as goal

pub returns-in-Some : goal.returns-in-Some
returns-in-Some c = c.serves.ensures ∙ ap (serves_if c.args.self.now.book.now c.args.ask (held_of c.args.first) (option_map held_of c.args.second))
    (sym (ap (option_map held_of) c.in-Some.is) ∙ c.row_at.ensures)

pub returns-in-None : goal.returns-in-None
returns-in-None c = ap (serves_if c.args.self.now.book.now c.args.ask (held_of c.args.first) (option_map held_of c.args.second))
    (sym (ap (option_map held_of) c.in-None.is) ∙ c.row_at.ensures)

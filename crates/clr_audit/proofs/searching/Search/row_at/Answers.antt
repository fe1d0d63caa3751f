use Rattle.std.proofs.Common.{◌∙◌, ap, sym}
use Rattle.std.proofs.lemmas.Option.{slice_get-map}
use Rattle.std.specs.Option.{option_map}
use Rattle.clr_rows.specs.Held.{held_of}
use Rattle.clr_audit.proofs.searching.Search.row_at.Goals as goal

pub returns : goal.returns
returns c = ap (option_map held_of) (c.copied.ensures ∙ c.row_by_position.ensures) ∙ sym (slice_get-map held_of c.args.self.now.rows.now c.args.position)

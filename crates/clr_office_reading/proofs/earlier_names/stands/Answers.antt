use Rattle.std.proofs.Common.{◌≡◌, false, sym, ap, ◌∙◌}
use Rattle.std.specs.Prelude.{◌||◌}
use Rattle.std.specs.List.{list_any}
use Rattle.std.specs.Str.{bytes_eq}
use Rattle.clr_rows.specs.Names.{live_name}
use Rattle.clr_deltas.specs.Deltas.{Delta}
use Rattle.clr_office_reading.proofs.earlier_names.stands.Goals as goal

pub returns-else-is_live : goal.returns-else-is_live
returns-else-is_live c = λ earlier named.
    let other : bytes_eq c.args.name.now live_name ≡ false = sym c.is_live.ensures ∙ c.if-is_live.false in
    c.contains.ensures ∙ named c.args.name.now ∙ ap (λ live. live || list_any (λ (l : Delta). bytes_eq c.args.name.now l.name) earlier) (sym other)

use Rattle.std.proofs.Common.{[], None, append-nil, option_map, refl, subst, sym}
use Rattle.clr_office.specs.NameHints.{IsMeant}
use Rattle.clr_office.proofs.name_hints.add_hint.Goals as goal

pub returns-in_default : goal.returns-in_default
returns-in_default c =
    let meant = subst (λ near. IsMeant c.args.office.now c.args.name.now (option_map (λ other. other.now) near)) c.in_default.is c.in_ok-near.ensures in
    ([], (None, meant, refl), sym (append-nil c.args.lines.now.items))

use Rattle.std.proofs.Common.{◌∙◌, ◌&&◌, ap, sym}
use Rattle.std.specs.List.{list_any}
use Rattle.clr_rows.proofs.SchemaLemmas.{list_any-map}
use Rattle.clr_cert.specs.declared.certificates.Precedence.{Precedence}
use Rattle.clr_workspaces.specs.Marks.{Name}
use Rattle.clr_steps.specs.Names.{same_name}
use Rattle.clr_desk_merges.proofs.waiting.goes_before.Goals as goal

pub returns : goal.returns
returns c =
    let says = λ (p : Name × Name). same_name p.0 c.args.earlier.now && same_name p.1 c.args.later.now in
    c.is_among.ensures
    ∙ ap (list_any (λ (p : Precedence). same_name p.earlier c.args.earlier.now && same_name p.later c.args.later.now)) c.as_slice.ensures
    ∙ sym (list_any-map says (λ (p : Precedence). (p.earlier, p.later)) c.args.certificate.now.before)

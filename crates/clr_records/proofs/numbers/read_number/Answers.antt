use Rattle.std.proofs.Common.{◌≡◌, ◌∙◌, sym, ap, rules, FitsSigned, w64}
use Rattle.std.specs.Fmt.{signed_decimal}
use Rattle.std.proofs.lemmas.Int.{to_z-of_z}
use Rattle.std.proofs.lemmas.Bool.{false≢true}
use Rattle.std.proofs.lemmas.Slice.Eq.{bytes_eq-Decides}
use Rattle.clr_rows.proofs.SchemaLemmas.{number_within}
use Rattle.clr_records.proofs.Decimals.{number_again, no_number, parsed}
use Rattle.clr_records.proofs.numbers.read_number.Goals as goal

pub returns-in-Ok : goal.returns-in-Ok
returns-in-Ok c =
    let fits : FitsSigned w64 c.in-Ok.number = search rules in
    let same : c.format.result.now ≡ c.args.text.now = (bytes_eq-Decides c.format.result.now c.args.text.now).0 (sym c.if-eq.ensures) in
    let written : signed_decimal c.in-Ok.number ≡ c.args.text.now = ap signed_decimal (sym (to_z-of_z w64 c.in-Ok.number fits))
    ∙ (sym c.format.ensures.text ∙ same) in
    rw (to_z-of_z w64 c.in-Ok.number fits, ← written) (sym (number_again c.in-Ok.number (number_within _ fits)))

pub returns-in_default : goal.returns-in_default
returns-in_default c = sym (no_number c.args.text.now (λ z e is.
    let fits : FitsSigned w64 c.in-Ok.number = search rules in
    let same = parsed z _ _ e is c.parse.ensures.value.0 in
    let n_is : c.in-Ok.number ≡ z = cc (same, c.in-Ok.is) in
    let written : c.format.result.now ≡ c.args.text.now = c.format.ensures.text ∙ (ap signed_decimal (to_z-of_z w64 c.in-Ok.number fits ∙ n_is) ∙ sym is) in
    false≢true (c.if-eq.ensures ∙ (bytes_eq-Decides c.format.result.now c.args.text.now).1 written)))

use Rattle.std.proofs.Common.{◌≡◌, length, map, Ok, refl, sym, ap, ◌∙◌}
use Rattle.std.proofs.lemmas.List.{length-map}
use Rattle.std.proofs.lemmas.Result.{err_from_is_err_and}
use Rattle.clr_readings.specs.Readings.{◌>>=◌}
use Rattle.clr_readings.proofs.FaultTurns.{fails_with}
use Rattle.clr_rule_text.specs.declared.stated_rules.StatedRule.{StatedRule}
use Rattle.clr_rule_text.specs.Fields.{each_in, text_lacks_memory}
use Rattle.clr_rule_text.specs.Known.{known_needs}
use Rattle.clr_rule_text.specs.Rules.{rule_over, rules_of}
use Rattle.clr_rule_text.proofs.KnownLemmas.{each_in_length}
use Rattle.clr_rule_text.proofs.rules.read_rules.Goals as goal

pub known_needs-requires : goal.known_needs-requires
known_needs-requires g c =
    let stated = c.in_ok-stated_rules.field-0.items in
    let as_many = each_in_length (rule_over c.args.schema.now) c.in_ok-parts.parts.0.items c.in_ok-rules.rules.items c.in_ok-rules.ensures in
    ap length (c.as_slice.ensures.value ∙ c.in_ok-parts.ensures.known)
    ∙ length-map stated (λ (s : StatedRule). s.known)
    ∙ sym (length-map stated (λ (s : StatedRule). s.rule))
    ∙ ap length (sym c.in_ok-parts.ensures.rules)
    ∙ sym as_many
    ∙ ap length (sym c.in-Ok.ensures.made)

pub returns-in_err-known-clause-value : goal.returns-in_err-known-clause-value
unfolding rules_of
returns-in_err-known-clause-value g c =
    let p = err_from_is_err_and c.from_residual-in_err-known.result c.from_residual-in_err-known.ensures.1 in
    let tables = c.args.schema.now in
    let d = g.J.JsonValue.stands_for c.args.json.now in
    let stated = c.in_ok-stated_rules.field-0.items in
    let rules = c.in_ok-rules.rules.items in
    let named = map (λ (s : StatedRule). s.known) stated in
    let over : each_in (rule_over tables) (map (λ (s : StatedRule). s.rule) stated) ≡ Ok rules = rw c.in_ok-parts.ensures.rules at c.in_ok-rules.ensures in
    let names = c.as_slice.ensures.value ∙ c.in_ok-parts.ensures.known in
    let read : known_needs tables 0 rules named >>= (λ known. Ok (rules, known)) ≡ rules_of c.args.format tables d =
    rw (c.in_ok-stated_rules.ensures, over, c.in-Ok.ensures.judged) refl in
    rw (p.1, p.2) (fails_with text_lacks_memory c.in_err-known.field-0.0 (known_needs tables 0 rules named) (λ known. Ok (rules, known))
    (rules_of c.args.format tables d) (rw (names, c.in-Ok.ensures.made) at c.in_err-known.ensures) read)

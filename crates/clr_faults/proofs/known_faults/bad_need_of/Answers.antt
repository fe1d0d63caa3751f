use Rattle.std.proofs.Common.{◌≡◌, List, length, map, Ok, refl, sym, ap, ◌∙◌}
use Rattle.std.proofs.lemmas.List.{length-map}
use Rattle.clr_rule_text.specs.declared.stated_rules.StatedRule.{StatedRule}
use Rattle.clr_rule_text.specs.Rules.{rule_over}
use Rattle.clr_rule_text.proofs.KnownLemmas.{each_in_length}
use Rattle.clr_faults.proofs.UnreadRules.{no_needs}
use Rattle.clr_faults.proofs.known_faults.bad_need_of.Goals as goal

pub bad_need-requires : goal.bad_need-requires
bad_need-requires c =
    let stated = c.args.stated.items in
    let as_many = each_in_length (rule_over c.args.schema.now) c.in_ok-parts.parts.0.items c.in-Ok.rules.items c.in-Ok.ensures in
    ap length (c.as_slice.ensures.value ∙ c.in_ok-parts.ensures.known)
    ∙ length-map stated (λ (s : StatedRule). s.known)
    ∙ sym (length-map stated (λ (s : StatedRule). s.rule))
    ∙ ap length (sym c.in_ok-parts.ensures.rules)
    ∙ sym as_many
    ∙ ap length (sym c.in-Ok-new.ensures.made)

pub returns-in-Err : goal.returns-in-Err
returns-in-Err c =
    no_needs c.args.schema.now c.args.stated.items c.in_ok-parts.parts.0.items c.in-Err.fault c.unless_lost.result c.in_ok-parts.ensures.rules c.in-Err.ensures
    c.unless_lost.ensures

use Rattle.std.proofs.Common.{◌∙◌, ap, false, sym}
use Rattle.std.specs.Option.{option_map_or}
use Rattle.clr_steps.specs.Names.{same_name}
use Rattle.clr_merge_sets.proofs.ListLemmas.{read_at}
use Rattle.clr_choices.proofs.held.is_member_at.Goals as goal

pub returns-in-Some : goal.returns-in-Some
unfolding same_name
returns-in-Some c =
    let member = c.in-Some.member.now in
    let there = read_at c.args.members.now c.args.at member c.in-Some.ensures.lookup.3.0 (c.in-Some.ensures.lookup.3.1 member) in
    c.eq.ensures ∙ ap (same_name member.now) c.as_str.ensures ∙ sym (ap (λ r. option_map_or (λ m. same_name m c.args.name.now) r false) there)

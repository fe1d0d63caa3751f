use Rattle.std.proofs.Common.{◌∙◌, None, SFits, Some, ap, cond, of_z, rules, sym, to_z, to_z-of_z, w64}
use Rattle.clr_layer_changes.specs.declared.faults.LayersFault.TheVariants as of_layer
use Rattle.clr_layer_faults.specs.FoundFaults.{found_at}
use Rattle.clr_layer_faults.proofs.RecordLemmas.{no_own_key, own_key}
use Rattle.clr_layer_faults.proofs.record_faults.key_fault.Goals as goal

pub returns-in_default : goal.returns-in_default
returns-in_default c = no_own_key c.args.number c.args.key c.args.keys.now c.in_default.is

pub returns-then-branch : goal.returns-then-branch
returns-then-branch c =
    let fits : SFits w64 c.in-Some.key = search rules in
    own_key c.args.number c.args.key (to_z w64 (of_z w64 c.in-Some.key)) c.args.keys.now c.insert.new.self c.in_ok-insert.field-0 None
    (c.in-Some.is ∙ ap Some (sym (to_z-of_z fits))) c.in_ok-insert.ensures.added c.in_ok-insert.ensures.updates
    (sym (ap (λ b. cond b None (Some (found_at c.args.number (Some 0) of_layer.KeyTwice))) c.if-branch.true))

pub returns : goal.returns
returns c =
    let fits : SFits w64 c.in-Some.key = search rules in
    own_key c.args.number c.args.key (to_z w64 (of_z w64 c.in-Some.key)) c.args.keys.now c.insert.new.self c.in_ok-insert.field-0
    (Some (found_at c.args.number (Some 0) of_layer.KeyTwice)) (c.in-Some.is ∙ ap Some (sym (to_z-of_z fits))) c.in_ok-insert.ensures.added
    c.in_ok-insert.ensures.updates (sym (ap (λ b. cond b None (Some (found_at c.args.number (Some 0) of_layer.KeyTwice))) c.if-branch.false))

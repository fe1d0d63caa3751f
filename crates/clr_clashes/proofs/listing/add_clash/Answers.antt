use Rattle.std.proofs.Common.{false, not, rules, true}
use Rattle.std.proofs.lemmas.Fn.{filter_same}
use Rattle.clr_clashes.specs.declared.listing.Clash.{Clash}
use Rattle.clr_clashes.specs.Keeping.{is_all_in}
use Rattle.clr_clashes.proofs.Adding.{added, not_added, told}
use Rattle.clr_clashes.proofs.listing.add_clash.Goals as goal

pub returns-then-hold_clash : goal.returns-then-hold_clash
returns-then-hold_clash c = not_added c.args.clashes.now.items c.args.clash
    (told c.hold_clash.result true c.args.clashes.now.items c.as_slice.result.now c.args.clash.members.items c.as_slice-2.result.now
    c.hold_clash.ensures c.as_slice.ensures.value c.as_slice-2.ensures.value c.if-hold_clash.true)

pub returns : goal.returns
returns c = added c.args.clashes.now.items c.args.clash c.retain.new.self.items c.push.new.self.items
    (told c.hold_clash.result false c.args.clashes.now.items c.as_slice.result.now c.args.clash.members.items c.as_slice-2.result.now
    c.hold_clash.ensures c.as_slice.ensures.value c.as_slice-2.ensures.value c.if-hold_clash.false)
    (filter_same _ (λ (j : Clash). not (is_all_in c.args.clash.members.items j.members.items)) _ (λ x b g call. search rules) _ _ c.retain.ensures.filtered)
    c.in_ok-push.ensures.items

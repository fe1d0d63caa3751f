use Rattle.std.proofs.Common.{ℕ, Bor, Global, List, Option, Vec, map, subst}
use Rattle.std.specs.Prelude.{IfSome}
use Rattle.clr_workspaces.specs.Marks.{Name}
use Rattle.clr_clashes.specs.declared.listing.Clash.{Clash}
use Rattle.clr_clashes.specs.ListedClashes.{listed_clash_of}
use Rattle.clr_choices.specs.Looked.{ArePositionsOf, IsBlockedAt}
use Rattle.clr_choices.proofs.Looking.{known_if_any}
use Rattle.clr_choices.proofs.looked.known_plan.Goals as goal

pub returns : goal.returns
returns c =
    let looked = c.args.looked.now in
    let members = map (λ (name : Bor Name). name.now) c.args.members.now in
    let positions = c.in-Some.positions.items in
    let plan = c.in_ok-blocked.blocked in
    let found = subst (λ (r : Option (Vec ℕ Global)). IfSome r (λ (v : Vec ℕ Global). ArePositionsOf c.as_slice-names.result.now members v.items)) c.in-Some.is
    c.in_ok-positions.ensures in
    let at = subst (λ (ns : List Name). ArePositionsOf ns members positions) c.as_slice-names.ensures.value found in
    let blocked = subst (λ (ks : List Clash). IfSome plan (IsBlockedAt (map listed_clash_of ks) c.as_slice-found.result.now)) c.as_slice-broken.ensures.value
    c.in_ok-blocked.ensures in
    known_if_any c.parts_break_listed_needs.ensures c.args.office.now c.args.root.now looked.names.items members (map listed_clash_of looked.broken.items)
    positions c.requires at plan
    (subst (λ (ps : List ℕ). IfSome plan (IsBlockedAt (map listed_clash_of looked.broken.items) ps)) c.as_slice-found.ensures.value blocked)

use Rattle.std.proofs.Common.{◌≡◌, ◌∙◌, ◌++◌, List, [], ap, append-nil, cond, sym}
use Rattle.clr_spots.specs.declared.spot_maps.FiledPart.{FiledPart}
use Rattle.clr_spots.specs.Filing.{near}
use Rattle.clr_audit.proofs.Beginnings.{firsts_begun, partners_begun, seconds_begun}
use Rattle.clr_rows.proofs.BeginningLaws.{on_err}
use Rattle.clr_audit.proofs.role_index.RoleIndex.add_partners.Goals as goal
use Rattle.clr_audit.proofs.role_index.RoleIndex.add_partners.Goals.{then-roles+in_ok-add_near-2, else-roles}

pub returns-in_err-add_near-clause-err : goal.returns-in_err-add_near-clause-err
returns-in_err-add_near-clause-err c =
    on_err _ (partners_begun c.args.self.now c.args.roles c.args.spots.now.list c.args.spots.now.wide c.args.list.now.items c.add_near.new.list.items
    c.in_err-add_near.ensures.err)

pub returns-in_err-add_near-2-clause-err : goal.returns-in_err-add_near-2-clause-err
returns-in_err-add_near-2-clause-err c =
    on_err _ (firsts_begun c.args.self.now c.args.roles c.args.spots.now.list c.args.spots.now.wide c.args.list.now.items c.add_near.new.list.items
    c.add_near-then-roles.new.list.items
    c.if-roles.true c.in_ok-add_near.ensures.ok c.in_err-add_near-2.ensures.err)

pub returns-in_err-add_near-3-clause-err : goal.returns-in_err-add_near-3-clause-err
returns-in_err-add_near-3-clause-err c =
    let old = c.args.list.now.items in
    let spots = c.args.spots.now in
    let boths = near c.args.self.now.boths spots.list spots.wide in
    let firsts = near c.args.self.now.firsts spots.list spots.wide in
    let mid : c.if-roles.list.items ≡ (old ++ boths) ++ cond c.args.roles.second firsts [] = elim c.if-roles.branch [
      | then-roles+in_ok-add_near-2 w ↦ ap (λ v. v.items) w.list-is ∙ w.in_ok-add_near-2.ensures.ok
          ∙ ap (λ (es : List FiledPart). es ++ firsts) c.in_ok-add_near.ensures.ok
          ∙ ap (λ b. (old ++ boths) ++ cond b firsts []) (sym w.if-roles.true)
      | else-roles w ↦ ap (λ v. v.items) w.list-is ∙ c.in_ok-add_near.ensures.ok ∙ sym (append-nil (old ++ boths))
          ∙ ap (λ b. (old ++ boths) ++ cond b firsts []) (sym w.if-roles.false)
    ] in
    on_err _ (seconds_begun c.args.self.now c.args.roles spots.list spots.wide old c.if-roles.list.items c.add_near-then-roles-2.new.list.items
    c.if-roles-2.true mid c.in_err-add_near-3.ensures.err)

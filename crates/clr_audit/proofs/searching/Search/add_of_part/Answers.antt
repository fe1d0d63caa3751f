use Rattle.std.proofs.Common.{◌≡◌, ◌∙◌, ◌++◌, ap, map, refl, sym, subst, List}
use Rattle.clr_rows.specs.Held.{held_of}
use Rattle.clr_rules.proofs.Elements.{Among, among, contained}
use Rattle.clr_spots.specs.declared.spot_maps.FiledPart.{FiledPart}
use Rattle.clr_audit.specs.RoleFiling.{partners}
use Rattle.clr_rows.proofs.BeginningLaws.{on_err}
use Rattle.clr_audit.proofs.Gaining.{gains_no_more}
use Rattle.clr_audit.proofs.NeedLaws.{FindAll, IsReady, part_alike, part_gains, part_some}
use Rattle.clr_audit.proofs.searching.Search.add_of_part.Goals as goal

pub returns-clause-ok : goal.returns-clause-ok
returns-clause-ok c =
    let search = c.args.self.now in
    let spots = c.in_ok-spots.spots in
    let near = partners search.index.now c.args.roles spots.list spots.wide in
    let found : c.add_partners.new.list.items ≡ near = c.in_ok-add_partners.ensures.ok ∙ ap (λ (xs : List FiledPart). xs ++ near) c.new-beside.ensures.items in
    let all = λ (e : FiledPart) (h : Among e near). subst (Among e) (sym c.as_slice-2.ensures.value)
    (among e c.put_in_order.new.list.items ((c.put_in_order.ensures.same e).1 (contained e c.add_partners.new.list.items (subst (Among e) (sym found) h)))) in
    let ready : IsReady search spots c.args.part (held_of c.args.first) =
    record { fit = c.requires.fit; filed = c.requires.filed; list = c.in_ok-spots.ensures.list; wide = c.in_ok-spots.ensures.wide } in
    let alike = subst (FindAll search c.args.part (held_of c.args.first)) (sym (c.as_slice.ensures.value ∙ c.in_ok-servers.ensures))
    (part_alike search spots c.args.part (held_of c.args.first) ready) in
    part_gains search spots c.as_slice.result.now c.args.part (held_of c.args.first) c.args.roles c.as_slice-2.result.now c.args.list.now.items
    c.add_beside_all.new.list.items ready alike c.requires.one c.requires.roles all c.in_ok-add_beside_all.ensures.ok

pub returns-in_err-spots-clause-err : goal.returns-in_err-spots-clause-err
returns-in_err-spots-clause-err c = on_err _ (gains_no_more c.args.self.now.book.now (map held_of c.args.self.now.rows.now) _ _ refl)

pub returns-in_err-add_partners-clause-err : goal.returns-in_err-add_partners-clause-err
returns-in_err-add_partners-clause-err c = on_err _ (gains_no_more c.args.self.now.book.now (map held_of c.args.self.now.rows.now) _ _ refl)

pub returns-in_err-servers-clause-err : goal.returns-in_err-servers-clause-err
returns-in_err-servers-clause-err c = on_err _ (gains_no_more c.args.self.now.book.now (map held_of c.args.self.now.rows.now) _ _ refl)

pub returns-in_err-add_beside_all-clause-err : goal.returns-in_err-add_beside_all-clause-err
returns-in_err-add_beside_all-clause-err c =
    let search = c.args.self.now in
    let spots = c.in_ok-spots.spots in
    let ready : IsReady search spots c.args.part (held_of c.args.first) =
    record { fit = c.requires.fit; filed = c.requires.filed; list = c.in_ok-spots.ensures.list; wide = c.in_ok-spots.ensures.wide } in
    let alike = subst (FindAll search c.args.part (held_of c.args.first)) (sym (c.as_slice.ensures.value ∙ c.in_ok-servers.ensures))
    (part_alike search spots c.args.part (held_of c.args.first) ready) in
    on_err _ (part_some search c.as_slice.result.now c.args.part (held_of c.args.first) c.as_slice-2.result.now c.args.list.now.items
    c.add_beside_all.new.list.items alike c.requires.one c.in_err-add_beside_all.ensures.err)

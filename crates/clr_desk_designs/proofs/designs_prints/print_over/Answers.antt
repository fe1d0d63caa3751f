use Rattle.std.proofs.Common.{List, ap, subst, sym, ◌∙◌}
use Rattle.std.proofs.lemmas.Result.{IfOk-weaker}
use Rattle.clr_rows.specs.Contents.{Content}
use Rattle.clr_rows.specs.Schemas.{FitsSchema}
use Rattle.clr_rows.specs.declared.tables.TableDef.{TableDef}
use Rattle.clr_steps.specs.Offices.{Office}
use Rattle.clr_designs.specs.Designs.{with_live}
use Rattle.clr_layer_changes.specs.Wanted.{united}
use Rattle.clr_desk_prints.specs.Printing.{printed}
use Rattle.clr_desk_designs.specs.InTurn.{AreMade, IsFirstRefused, IsPrintOfDesigns, IsTextOf, of_all, of_first}
use Rattle.clr_desk_designs.specs.Made.{AreAllMade}
use Rattle.clr_desk_designs.specs.declared.made_designs.MadeDesigns.{MadeDesigns}
use Rattle.clr_desk_designs.proofs.TurnLemmas.{same_tables}
use Rattle.clr_desk_designs.proofs.designs_prints.print_over.Goals as goal

pub office_with_live-requires : goal.office_with_live-requires
office_with_live-requires c = (c.args.office.now, c.requires.read, c.requires.copied)

pub print_of_moved-requires : goal.print_of_moved-requires
print_of_moved-requires c =
    let o = c.args.office.now in
    let copied = c.args.copied.now in
    let left = c.make_in_turn.new.office in
    let before = c.in_ok-before.ensures o c.requires.read in
    let made = subst (λ (m : MadeDesigns). AreAllMade c.in_ok-taken.taken c.args.options c.args.may_remove c.in_ok-before.before c.args.designs.now m left)
    c.in-Made.is c.in_ok-notes.ensures in
    let same = same_tables c.in_ok-taken.taken c.args.options c.args.may_remove c.in_ok-before.before c.args.designs.now left c.in-Made.notes.items made
    ∙ ap (λ (p : Office). p.schema) before in
    subst (λ (ts : List TableDef). FitsSchema ts c.live-live.result.now) (sym same)
    (subst (λ (m : Content). FitsSchema o.schema m) (sym c.live-live.ensures.value) c.live-live.ensures.admitted.fit.rows.live)

pub returns-in-Made : goal.returns-in-Made
returns-in-Made c =
    let o = c.args.office.now in
    let copied = c.args.copied.now in
    let options = c.args.options in
    let may_remove = c.args.may_remove in
    let designs = c.args.designs.now in
    let left = c.make_in_turn.new.office in
    let before = c.in_ok-before.ensures o c.requires.read in
    let taken = c.in_ok-taken.ensures ∙ ap (λ (live : Content). united live copied) c.live-live.ensures.value in
    let over = subst (λ (p : Office). AreAllMade c.in_ok-taken.taken options may_remove p designs c.in_ok-notes.field-0 left) before c.in_ok-notes.ensures in
    let among = subst (λ (m : Content). AreAllMade m options may_remove (with_live o copied) designs c.in_ok-notes.field-0 left) taken over in
    let made = subst (λ (m : MadeDesigns). AreAllMade (united o.live copied) options may_remove (with_live o copied) designs m left) c.in-Made.is among in
    IfOk-weaker c.print_of_moved.result (λ p. IsTextOf (with_live left c.live-live.result.now) c.in-Made.notes.items (printed p))
    (λ p. IsPrintOfDesigns (united o.live copied) options may_remove designs (λ (next : Office). with_live next o.live) (with_live o copied) (printed p))
    (λ p h. of_all left c.in-Made.notes.items made
    (subst (λ (m : Content). IsTextOf (with_live left m) c.in-Made.notes.items (printed p)) c.live-live.ensures.value h)) c.print_of_moved.ensures

pub returns : goal.returns
returns c =
    let o = c.args.office.now in
    let copied = c.args.copied.now in
    let options = c.args.options in
    let may_remove = c.args.may_remove in
    let designs = c.args.designs.now in
    let left = c.make_in_turn.new.office in
    let before = c.in_ok-before.ensures o c.requires.read in
    let taken = c.in_ok-taken.ensures ∙ ap (λ (live : Content). united live copied) c.live-live.ensures.value in
    let over = subst (λ (p : Office). AreAllMade c.in_ok-taken.taken options may_remove p designs c.in_ok-notes.field-0 left) before c.in_ok-notes.ensures in
    let among = subst (λ (m : Content). AreAllMade m options may_remove (with_live o copied) designs c.in_ok-notes.field-0 left) taken over in
    of_first (subst (λ (m : MadeDesigns). AreAllMade (united o.live copied) options may_remove (with_live o copied) designs m left) c.in-Refused.is among)

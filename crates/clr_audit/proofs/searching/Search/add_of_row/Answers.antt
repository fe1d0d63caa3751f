use Rattle.std.proofs.Common.{ap, map, sym, subst, List}
use Rattle.clr_rows.specs.Held.{held_of}
use Rattle.clr_rules.specs.declared.needs.Broken.{Broken}
use Rattle.clr_audit.specs.Searches.{GainsBroken, IsAlone}
use Rattle.clr_rows.proofs.BeginningLaws.{on_err}
use Rattle.clr_audit.proofs.Gaining.{gains_no_more, gains_until}
use Rattle.clr_audit.proofs.NeedLaws.{none_alone, none_paired, row_gains}
use Rattle.clr_audit.proofs.searching.Search.add_of_row.Goals as goal
use Rattle.clr_audit.proofs.searching.Search.add_of_row.Goals.{then-roles+in_ok-add_alone, else-roles}

pub returns-in_ok-add_pairs-clause-ok : goal.returns-in_ok-add_pairs-clause-ok
returns-in_ok-add_pairs-clause-ok c =
    let book = c.args.self.now.book.now in
    let rows = map held_of c.args.self.now.rows.now in
    let n = c.args.self.now.rule in
    let s = held_of c.args.first in
    let before = c.args.list.now.items in
    let alone : GainsBroken book rows (IsAlone n s) before c.if-roles.list.items = elim c.if-roles.branch [
      | then-roles+in_ok-add_alone w ↦ subst (λ (xs : List Broken). GainsBroken book rows (IsAlone n s) before xs) (sym (ap (λ v. v.items) w.list-is))
          w.in_ok-add_alone.ensures.ok
      | else-roles w ↦ subst (λ (xs : List Broken). GainsBroken book rows (IsAlone n s) before xs) (sym (ap (λ v. v.items) w.list-is))
          (none_alone book rows n s c.roles_of-roles.result before c.roles_of-roles.ensures w.if-roles.false)
    ] in
    row_gains book rows n s before c.if-roles.list.items c.add_pairs.new.list.items alone c.in_ok-add_pairs.ensures.ok

pub returns-else-roles-3-clause-ok : goal.returns-else-roles-3-clause-ok
returns-else-roles-3-clause-ok c =
    let book = c.args.self.now.book.now in
    let rows = map held_of c.args.self.now.rows.now in
    let n = c.args.self.now.rule in
    let s = held_of c.args.first in
    let before = c.args.list.now.items in
    let alone : GainsBroken book rows (IsAlone n s) before c.if-roles.list.items = elim c.if-roles.branch [
      | then-roles+in_ok-add_alone w ↦ subst (λ (xs : List Broken). GainsBroken book rows (IsAlone n s) before xs) (sym (ap (λ v. v.items) w.list-is))
          w.in_ok-add_alone.ensures.ok
      | else-roles w ↦ subst (λ (xs : List Broken). GainsBroken book rows (IsAlone n s) before xs) (sym (ap (λ v. v.items) w.list-is))
          (none_alone book rows n s c.roles_of-roles.result before c.roles_of-roles.ensures w.if-roles.false)
    ] in
    row_gains book rows n s before c.if-roles.list.items c.if-roles.list.items alone
    (none_paired book rows n s c.roles_of-roles.result c.if-roles.list.items c.roles_of-roles.ensures c.if-roles-2.false c.if-roles-3.false)

pub returns-in_err-add_alone-clause-err : goal.returns-in_err-add_alone-clause-err
returns-in_err-add_alone-clause-err c = on_err _ (gains_no_more c.args.self.now.book.now (map held_of c.args.self.now.rows.now) _ _
    c.in_err-add_alone.ensures.err)

pub returns-in_err-add_pairs-clause-err : goal.returns-in_err-add_pairs-clause-err
returns-in_err-add_pairs-clause-err c =
    let book = c.args.self.now.book.now in
    let rows = map held_of c.args.self.now.rows.now in
    let n = c.args.self.now.rule in
    let s = held_of c.args.first in
    let before = c.args.list.now.items in
    let alone : GainsBroken book rows (IsAlone n s) before c.if-roles.list.items = elim c.if-roles.branch [
      | then-roles+in_ok-add_alone w ↦ subst (λ (xs : List Broken). GainsBroken book rows (IsAlone n s) before xs) (sym (ap (λ v. v.items) w.list-is))
          w.in_ok-add_alone.ensures.ok
      | else-roles w ↦ subst (λ (xs : List Broken). GainsBroken book rows (IsAlone n s) before xs) (sym (ap (λ v. v.items) w.list-is))
          (none_alone book rows n s c.roles_of-roles.result before c.roles_of-roles.ensures w.if-roles.false)
    ] in
    on_err _ (gains_until book rows (IsAlone n s) before c.if-roles.list.items c.add_pairs.new.list.items alone c.in_err-add_pairs.ensures.err)

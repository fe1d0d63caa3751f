use Rattle.std.proofs.Common.{◌≡◌, ℕ, IsTrue, List, length, take, arith, rules, subst, sym}
use Rattle.clr_rows.specs.declared.tables.TableDef.{TableDef}
use Rattle.clr_desk_layers.specs.Since.{IsFirstOther}
use Rattle.clr_desk_layers.proofs.SchemaLemmas.{none_at_end, one_more_same, other_behind, there}
use Rattle.clr_desk_layers.proofs.schemas.first_other.Goals as goal

pub loop-i-preserved : goal.loop-i-preserved
loop-i-preserved c =
    let on : IsTrue c.is_table_at.result = search rules in
    one_more_same c.args.tables.now c.args.others.now c.loop-i.i c.index-tables-i.result (omega arith) c.index-tables-i.is (c.is_table_at.ensures.0 on)
    c.loop-i.invariant

pub returns-in-Some-clause-other : goal.returns-in-Some-clause-other
returns-in-Some-clause-other c =
    let tables = c.args.tables.now in
    let others = c.args.others.now in
    let table = c.in-Some.other.now in
    let end : c.loop-i.i ≡ length tables = omega arith in
    let same = subst (λ (n : ℕ). take n tables ≡ take n others) end c.loop-i.invariant in
    let there_is = c.in-Some.ensures.lookup in
    let found = there others (length tables) table there_is.3.0 there_is.1 in
    subst (λ (name : List ℕ). IsFirstOther tables others name) (sym c.as_str-in-Some.ensures)
    (other_behind tables others table same found (none_at_end tables others tables))

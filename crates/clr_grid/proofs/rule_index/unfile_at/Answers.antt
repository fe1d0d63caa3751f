use Rattle.std.proofs.Common.{inl, arith}
use Rattle.clr_grid.proofs.IndexLemmas.{filed_set, none_past, one_or, set_here, set_lean, set_only}
use Rattle.clr_grid.proofs.rule_index.unfile_at.Goals as goal

pub returns-then-rule-len-clause-kept : goal.returns-then-rule-len-clause-kept
returns-then-rule-len-clause-kept c n b k q stay e =
    filed_set c.args.rules.now.items c.args.rule c.index_mut-index.result.now c.unfile.new.self n b k q (omega (arith, c.if-rule-len.true, c.len.ensures))
    c.index_mut-index.ensures.value (λ same. c.unfile.ensures.kept b k q (stay same)) e

pub returns-then-rule-len-clause-fewer : goal.returns-then-rule-len-clause-fewer
returns-then-rule-len-clause-fewer c n b k q e =
    one_or (set_only c.args.rules.now.items c.args.rule c.index_mut-index.result.now c.unfile.new.self n b k q
    (omega (arith, c.if-rule-len.true, c.len.ensures)) c.index_mut-index.ensures.value (λ same there. inl (c.unfile.ensures.fewer b k q there)) e)

pub returns-then-rule-len-clause-gone : goal.returns-then-rule-len-clause-gone
returns-then-rule-len-clause-gone c b k key e =
    c.unfile.ensures.gone b k key (set_here c.args.rules.now.items c.args.rule c.unfile.new.self b k c.args.cell
    (omega (arith, c.if-rule-len.true, c.len.ensures)) e)

pub returns-else-rule-len-clause-gone : goal.returns-else-rule-len-clause-gone
returns-else-rule-len-clause-gone c b k key e = none_past c.args.rules.now.items c.args.rule b k c.args.cell (omega (arith, c.if-rule-len.false, c.len.ensures))
    e

pub returns-then-rule-len-clause-lean : goal.returns-then-rule-len-clause-lean
returns-then-rule-len-clause-lean c = set_lean c.args.rules.now.items c.args.rule c.index_mut-index.result.now c.unfile.new.self c.index_mut-index.ensures.value
    c.unfile.ensures.lean

use Rattle.std.proofs.Common.{◌∙◌, sym}
use Rattle.clr_layer_changes.specs.Keys.{is_free}
use Rattle.clr_layer_changes.proofs.KeyLemmas.{first_here, first_behind, first_of_keys, keys_end, none_within, none_passed, one_passed}
use Rattle.clr_layer_changes.proofs.keys.least_free.Goals as goal

pub loop-key-init : goal.loop-key-init
loop-key-init c = record {
  left = first_of_keys (is_free c.args.live.now c.args.rows.now c.args.table) c.args.first;
  passed = none_passed (is_free c.args.live.now c.args.rows.now c.args.table) c.args.first;
}

pub loop-key-preserved : goal.loop-key-preserved
loop-key-preserved c =
    let p = is_free c.args.live.now c.args.rows.now c.args.table in
    let is = sym c.is_free.ensures ∙ c.if-is_free.false in
    record {
      left = sym (first_behind p keys_end c.loop-key.key c.loop-key-test.true is) ∙ c.loop-key.invariant.left;
      passed = one_passed p c.args.first c.loop-key.key c.loop-key.invariant.passed is;
    }

pub returns-then-is_free-clause-value : goal.returns-then-is_free-clause-value
returns-then-is_free-clause-value c =
    let p = is_free c.args.live.now c.args.rows.now c.args.table in
    sym (first_here p keys_end c.loop-key.key c.loop-key-test.true (sym c.is_free.ensures ∙ c.if-is_free.true)) ∙ c.loop-key.invariant.left

pub returns-clause-value : goal.returns-clause-value
returns-clause-value c =
    let p = is_free c.args.live.now c.args.rows.now c.args.table in
    sym (none_within p keys_end c.loop-key.key c.loop-key-test.false) ∙ c.loop-key.invariant.left

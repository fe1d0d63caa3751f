use Rattle.std.proofs.Common.{◌∙◌, ap, arith, below_more, not}
use Rattle.clr_merge_sets.proofs.RepeatLemmas.{first_is, no_names, none_is, one_name, told_new}
use Rattle.clr_merge_sets.proofs.repeats.first_repeated.Goals as goal

pub loop-position-init : goal.loop-position-init
loop-position-init g c = record {
  held = no_names (g.N.NameList.names c.args.names.now) _ c.new-earlier.ensures.empty;
  different = λ k less. absurd
      (omega (arith, less));
}

pub returns-in-Ok-false : goal.returns-in-Ok-false
returns-in-Ok-false g c =
    let names = g.N.NameList.names c.args.names.now in
    let at = c.loop-position.position in
    first_is names at (omega arith) c.loop-position.invariant.different
    (told_new names at c.loop-position.earlier c.name_at.result c.in-Ok-false.field-0 c.name_at.ensures c.in-Ok-false.ensures.added
    c.loop-position.invariant.held ∙ ap not c.in-Ok-false.field-0-test)

pub loop-position-preserved : goal.loop-position-preserved
loop-position-preserved g c =
    let names = g.N.NameList.names c.args.names.now in
    let at = c.loop-position.position in
    let new = told_new names at c.loop-position.earlier c.name_at.result c.in-Ok-true.field-0 c.name_at.ensures c.in-Ok-true.ensures.added
    c.loop-position.invariant.held ∙ ap not c.in-Ok-true.field-0-test in
    record {
      held = one_name names at c.loop-position.earlier c.insert.new.self c.name_at.result c.name_at.ensures c.in-Ok-true.ensures.updates
          c.loop-position.invariant.held;
      different = below_more _ _ c.loop-position.invariant.different new;
    }

pub returns : goal.returns
returns g c = none_is (g.N.NameList.names c.args.names.now) c.loop-position.position (omega arith) c.loop-position.invariant.different

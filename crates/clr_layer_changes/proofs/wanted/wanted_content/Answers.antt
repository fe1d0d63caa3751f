use Rattle.std.proofs.Common.{◌≡◌, ◌+◌, List, Ok, Err, sym, ap, subst, arith}
use Rattle.clr_rows.specs.declared.tables.TableDef.{TableDef}
use Rattle.clr_rows.specs.Contents.{Content}
use Rattle.clr_layer_changes.specs.declared.faults.FaultyLayer.{FaultyLayer}
use Rattle.clr_layer_changes.specs.declared.options.GivenLayer.{GivenLayer}
use Rattle.clr_layer_changes.specs.declared.options.LayerOptions.{LayerOptions}
use Rattle.clr_layer_changes.specs.Wanted.{at_layer, wanted_over, with_layer_at}
use Rattle.clr_layer_changes.proofs.FitLemmas.{wanted_fits}
use Rattle.clr_layer_changes.proofs.TurnLemmas.{after_rest, begins, ends, goes_on, stops}
use Rattle.clr_layer_changes.proofs.wanted.wanted_content.Goals as goal

all_layers : (schema : List TableDef) (base taken : Content) (options : LayerOptions) (layers : List GivenLayer)
    → after_rest (with_layer_at schema taken options layers) 0 base 0 layers ≡ wanted_over schema base taken options layers
unfolding wanted_over
all_layers schema base taken options layers = begins (with_layer_at schema taken options layers) 0 base layers

pub loop-i-init : goal.loop-i-init
loop-i-init c =
    let all = all_layers c.args.schema.now c.args.base.now c.args.taken.now c.args.options c.args.layers.now in
    rw c.in_ok-content.ensures all

pub loop-i-preserved : goal.loop-i-preserved
loop-i-preserved c =
    let layers = c.args.layers.now in
    let f = with_layer_at c.args.schema.now c.args.taken.now c.args.options layers in
    let layer = c.index-layers-i.result in
    let same : c.loop-i.i ≡ 0 + c.loop-i.i = omega arith in
    let made : f c.loop-i.i c.loop-i.content layer ≡ Ok c.put_layer.new.content = ap (at_layer c.loop-i.i) (rw c.in_default.is at c.in_ok-put.ensures) in
    goes_on f 0 c.loop-i.i c.loop-i.content c.put_layer.new.content layer layers (wanted_over c.args.schema.now c.args.base.now c.args.taken.now c.args.options layers)
    c.loop-i-test.true c.index-layers-i.is
    (subst (λ n. f n c.loop-i.content layer ≡ Ok c.put_layer.new.content) same made) c.loop-i.invariant

pub returns-in-Err : goal.returns-in-Err
returns-in-Err c =
    let layers = c.args.layers.now in
    let f = with_layer_at c.args.schema.now c.args.taken.now c.args.options layers in
    let layer = c.index-layers-i.result in
    let same : c.loop-i.i ≡ 0 + c.loop-i.i = omega arith in
    let why : FaultyLayer = record { layer = c.loop-i.i; number = c.in-Err.number; fault = c.in-Err.fault } in
    let refused : f c.loop-i.i c.loop-i.content layer ≡ Err why = ap (at_layer c.loop-i.i) (rw c.in-Err.is at c.in_ok-put.ensures) in
    let read = sym (stops f 0 c.loop-i.i c.loop-i.content why layer layers (wanted_over c.args.schema.now c.args.base.now c.args.taken.now c.args.options layers) c.loop-i-test.true
    c.index-layers-i.is
    (subst (λ n. f n c.loop-i.content layer ≡ Err why) same refused) c.loop-i.invariant) in
    record { content = read; fit = λ fits. tt }

pub returns : goal.returns
returns c =
    let layers = c.args.layers.now in
    let f = with_layer_at c.args.schema.now c.args.taken.now c.args.options layers in
    let read = ends f 0 c.loop-i.i c.loop-i.content layers (wanted_over c.args.schema.now c.args.base.now c.args.taken.now c.args.options layers) c.loop-i-test.false
    c.loop-i.invariant in
    record { content = sym read; fit = λ fits. wanted_fits c.args.schema.now c.args.base.now c.args.taken.now c.args.options layers c.loop-i.content fits read }

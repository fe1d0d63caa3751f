use Rattle.std.proofs.Common.{◌≡◌, ◌+◌, List, map, Result, Ok, Err, sym, ap, subst, arith, ◌∙◌}
use Rattle.std.specs.FinMap as finite
use Rattle.clr_rows.specs.declared.tables.TableDef.{TableDef}
use Rattle.clr_rows.specs.Contents.{Changes, Content}
use Rattle.clr_rows.proofs.ChangeLemmas.{changes-self}
use Rattle.clr_change.specs.declared.edits.Edit.{Edit}
use Rattle.clr_readings.specs.Readings.{◌>>=◌}
use Rattle.clr_layer_changes.specs.declared.faults.FaultyLayer.{FaultyLayer}
use Rattle.clr_layer_changes.specs.declared.options.GivenLayer.{GivenLayer}
use Rattle.clr_layer_changes.specs.declared.options.LayerOptions.{LayerOptions}
use Rattle.clr_layer_changes.specs.Changes.{edit_of, edits_between}
use Rattle.clr_layer_changes.specs.Wanted.{at_layer, wanted_over, with_layer_at}
use Rattle.clr_layer_changes.proofs.TurnLemmas.{after_rest, begins, ends, goes_on, stops}
use Rattle.clr_layer_changes.proofs.layer_edits.wanted_edits.Goals as goal

all_layers : (schema : List TableDef) (base taken : Content) (options : LayerOptions) (layers : List GivenLayer)
    → after_rest (with_layer_at schema taken options layers) 0 base 0 layers ≡ wanted_over schema base taken options layers
unfolding wanted_over
all_layers schema base taken options layers = begins (with_layer_at schema taken options layers) 0 base layers

-- the edits that lead to what is read, or the fault
leading : Content → Result Content FaultyLayer → Result (List Edit) FaultyLayer
leading base read = read >>= λ content. Ok (edits_between base content)

pub loop-i-init : goal.loop-i-init
loop-i-init c =
    let base = c.args.base.now in
    (base, c.new-set.ensures ∙ sym (changes-self base), all_layers c.args.schema.now base c.args.taken.now c.args.options c.args.layers.now)

pub loop-i-preserved : goal.loop-i-preserved
loop-i-preserved c =
    let layers = c.args.layers.now in
    let f = with_layer_at c.args.schema.now c.args.taken.now c.args.options layers in
    let layer = c.index-layers-i.result in
    let (content, set_is, so_far) = c.loop-i.invariant in
    let same : c.loop-i.i ≡ 0 + c.loop-i.i = omega arith in
    let noted = rw c.in_default.is at c.in_ok-noted.ensures content set_is in
    let made : f c.loop-i.i content layer ≡ Ok noted.0 = ap (at_layer c.loop-i.i) noted.1 in (
      noted.0,
      noted.2,
      goes_on f 0 c.loop-i.i content noted.0 layer layers (wanted_over c.args.schema.now c.args.base.now c.args.taken.now c.args.options layers)
          c.loop-i-test.true c.index-layers-i.is
          (subst (λ n. f n content layer ≡ Ok noted.0) same made) so_far,
    )

pub returns-in-Err : goal.returns-in-Err
unfolding leading
returns-in-Err c =
    let layers = c.args.layers.now in
    let f = with_layer_at c.args.schema.now c.args.taken.now c.args.options layers in
    let layer = c.index-layers-i.result in
    let (content, set_is, so_far) = c.loop-i.invariant in
    let same : c.loop-i.i ≡ 0 + c.loop-i.i = omega arith in
    let why : FaultyLayer = record { layer = c.loop-i.i; number = c.in-Err.number; fault = c.in-Err.fault } in
    let noted = rw c.in-Err.is at c.in_ok-noted.ensures content set_is in
    let refused : f c.loop-i.i content layer ≡ Err why = ap (at_layer c.loop-i.i) noted in
    sym (ap (leading c.args.base.now) (stops f 0 c.loop-i.i content why layer layers
    (wanted_over c.args.schema.now c.args.base.now c.args.taken.now c.args.options layers) c.loop-i-test.true c.index-layers-i.is
    (subst (λ n. f n content layer ≡ Err why) same refused) so_far))

pub returns : goal.returns
unfolding leading
returns c =
    let layers = c.args.layers.now in
    let f = with_layer_at c.args.schema.now c.args.taken.now c.args.options layers in
    let (content, set_is, so_far) = c.loop-i.invariant in
    let read = ends f 0 c.loop-i.i content layers (wanted_over c.args.schema.now c.args.base.now c.args.taken.now c.args.options layers) c.loop-i-test.false
    so_far in
    ap Ok (c.in_ok-edits.ensures ∙ ap (λ (s : Changes). map edit_of (finite.entries s)) set_is) ∙ sym (ap (leading c.args.base.now) read)

use Rattle.std.proofs.Common.{◌≡◌, ◌∙◌, ◌+◌, ◌<◌, ◌∷◌, [], ◌++◌, List, Option, Some, Bor, ap, arith, get_or, length, map, refl, subst, sym, take}
use Rattle.std.proofs.lemmas.List.{length-map}
use Rattle.std.proofs.lemmas.Option.{slice_get-get_or, slice_get-map, slice_get_read}
use Rattle.std.specs.Option.{option_map}
use Rattle.clr_workspaces.specs.Marks.{Name}
use Rattle.clr_steps.specs.Readings.{changes_in}
use Rattle.clr_clearance.specs.declared.verdicts.Verdict.{Verdict}
use Rattle.clr_merge_sets.proofs.MergeSetLemmas.{map_more, named_at}
use Rattle.clr_merge_clashes.specs.Lone.{AreCauses}
use Rattle.clr_merge_clashes.proofs.Causes.{one_cause_more}
use Rattle.clr_merge_clashes.proofs.lone.causes_alone.Goals as goal

pub cause_alone-requires : goal.cause_alone-requires
cause_alone-requires c =
    let o = c.args.office.now in
    let at = c.loop-at.at in
    let names = c.args.names.now in
    let none : Bor Name = record { ref_ptr = (0, 0); now = [] } in
    let name = get_or names at none in
    let sets = c.args.sets.now in
    let set = c.index-sets-at.result in
    let long = ap length c.requires ∙ length-map (map (λ (n : Bor Name). n.now) names) (changes_in o) ∙ length-map names (λ (n : Bor Name). n.now) in
    let less : at < length sets = omega (arith, long, c.loop-at-test.true) in
    let named = slice_get-map (λ (n : Bor Name). n.now) names at ∙ ap (option_map (λ (n : Bor Name). n.now)) (slice_get-get_or names at none
    c.loop-at-test.true) in
    let found = named_at o (map (λ (n : Bor Name). n.now) names) sets at set c.requires
    (slice_get_read sets (length sets) at set refl less c.index-sets-at.is) in
    let both : Some name.now ≡ Some found.0 = sym named ∙ found.1 in
    let same : name.now ≡ found.0 = cc in
    found.2 ∙ ap (changes_in o) (sym same)

pub loop-at-preserved : goal.loop-at-preserved
loop-at-preserved c =
    let o = c.args.office.now in
    let root = c.args.root.now in
    let names = c.args.names.now in
    let k = c.loop-at.at in
    let none : Bor Name = record { ref_ptr = (0, 0); now = [] } in
    let name = get_or names k none in
    let seen : List Name = map (λ (n : Bor Name). n.now) (take k names) in
    let more : map (λ (n : Bor Name). n.now) (take (k + 1) names) ≡ seen ++ name.now ∷ [] =
    map_more (λ (n : Bor Name). n.now) names k name (slice_get-get_or names k none c.loop-at-test.true) in
    let all = one_cause_more o root seen c.loop-at.causes.items name.now c.in_ok-cause_alone.field-0 c.loop-at.invariant c.in_ok-cause_alone.ensures in
    subst (λ (ns : List Name). AreCauses o root ns c.push.new.self.items) (sym more)
    (subst (λ (causes : List (Option Verdict)). AreCauses o root (seen ++ name.now ∷ []) causes) (sym c.in_ok-push.ensures.items) all)

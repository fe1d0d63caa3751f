use Rattle.std.proofs.Common.{Bor, List, ℕ, [], rules}
use Rattle.std.specs.Option.{option_map}
use Rattle.std.proofs.lemmas.Float.{le_right}
use Rattle.clr_hints.proofs.NearestLemmas.{turn_passes, turn_stays}
use Rattle.clr_hints.proofs.names.nearest.Goals.{then-alike-most, else-alike-most}
use Rattle.clr_hints.proofs.names.nearest.Goals as goal

pub loop-other-preserved : goal.loop-other-preserved
loop-other-preserved c =
    let name = c.args.name.now in
    let names = c.args.names.now in
    let at = c.loop-other.other-index in
    let past : Bor (List ℕ) = record { ref_ptr = (0, 0); now = [] } in
    let here = c.loop-other.invariant in
    let near = option_map (λ (other : Bor (List ℕ)). other.now) c.loop-other.best in
    let alike = c.in_ok-alike.alike in
    let read = c.in_ok-alike.ensures.value in
    elim c.if-alike-most.branch [
      | then-alike-most w ↦ rw (w.best-is, w.most-is) (record {
        same = search rules;
        whole = search rules;
        listed = search rules;
        nearest = turn_passes name names at near past c.loop-other.most alike c.loop-other-test.true here.nearest here.most read w.if-alike-most.true;
        most = read;
      })
      | else-alike-most w ↦ rw (w.best-is, w.most-is) (record {
        same = search rules;
        whole = search rules;
        listed = here.listed;
        nearest = turn_stays name names at near past c.loop-other.most alike c.loop-other-test.true here.nearest here.most read
            (le_right _ _ c.in_ok-alike.ensures.range.0) w.if-alike-most.false;
        most = here.most;
      })
    ]

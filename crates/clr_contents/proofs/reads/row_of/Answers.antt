use Rattle.std.proofs.Common.{◌≡◌, ap, sym, ◌∙◌, arith}
use Rattle.std.specs.FinMap as finite
use Rattle.std.specs.Option.{option_copied}
use Rattle.clr_rows.specs.Contents.{Content, row_at}
use Rattle.clr_deltas.specs.Differences.{Differences}
use Rattle.clr_deltas.specs.Deltas.{wholes}
use Rattle.clr_workspaces.specs.Workspaces.{workspace_at}
use Rattle.clr_deltas.proofs.Meaning.{live-wholes}
use Rattle.clr_contents.proofs.ReadLemmas.{found_current, none_current, found_base, none_base}
use Rattle.clr_contents.proofs.reads.row_of.Goals as goal

pub returns-in-Some : goal.returns-in-Some
returns-in-Some c =
    let found = ap (λ (d : Differences). finite.get d c.args.cell) (sym c.current.ensures) ∙ sym c.get.ensures ∙ ap option_copied c.in-Some.is in
    c.as_ref.ensures.value ∙ found_current c.args.live.now c.args.map.now c.loop-at.at (omega arith) c.loop-at.invariant.within c.args.cell _ found
    ∙ c.loop-at.invariant.same

pub returns-in-Some-get : goal.returns-in-Some-get
returns-in-Some-get c =
    let none = ap (λ (d : Differences). finite.get d c.args.cell) (sym c.current.ensures) ∙ sym c.get.ensures ∙ ap option_copied c.in_default.is in
    let found = ap (λ (d : Differences). finite.get d c.args.cell) (sym c.base.ensures) ∙ sym c.get-in-loop-at.ensures ∙ ap option_copied c.in-Some-get.is in
    c.as_ref-in-Some-get.ensures.value ∙ found_base c.args.live.now c.args.map.now c.loop-at.at c.args.cell _ c.requires.rooted (omega arith)
    c.loop-at.invariant.within found
    ∙ none_current c.args.live.now c.args.map.now c.loop-at.at (omega arith) c.loop-at.invariant.within c.args.cell none ∙ c.loop-at.invariant.same

pub loop-at-preserved : goal.loop-at-preserved
loop-at-preserved c =
    let none = ap (λ (d : Differences). finite.get d c.args.cell) (sym c.current.ensures) ∙ sym c.get.ensures ∙ ap option_copied c.in_default.is in
    let none_below = ap (λ (d : Differences). finite.get d c.args.cell) (sym c.base.ensures) ∙ sym c.get-in-loop-at.ensures
    ∙ ap option_copied c.in_default-get.is in
    record {
      within = let up = c.parent_of-at.ensures.earlier in let here = c.loop-at.invariant.within in omega arith;
      same = none_base c.args.live.now c.args.map.now c.loop-at.at (omega arith) c.loop-at.invariant.within _ c.parent_of-at.ensures.found
          c.parent_of-at.ensures.earlier c.args.cell none_below
          ∙ none_current c.args.live.now c.args.map.now c.loop-at.at (omega arith) c.loop-at.invariant.within c.args.cell none ∙ c.loop-at.invariant.same;
    }

pub returns : goal.returns
returns c =
    let first : c.loop-at.at ≡ 0 = omega arith in
    c.get-2.ensures ∙ sym (ap (λ (m : Content). row_at m c.args.cell) (live-wholes c.args.live.now c.args.map.now (omega (arith, c.loop-at.invariant.within))))
    ∙ ap (λ k. row_at (workspace_at (wholes c.args.live.now c.args.map.now) k).current c.args.cell) (sym first) ∙ c.loop-at.invariant.same

use Rattle.clr_needs.specs.Members.{lifetime}
use Rattle.clr_foot.specs.Scenes.{setting_in}
use Rattle.clr_merge_sets.specs.PositionPairs.{pairs_say}
use Rattle.clr_check.proofs.CoverLemmas.{one_unlisted, other_unlisted, together_told}
use Rattle.clr_needs.proofs.TestLemmas.{it_is, it_is_not}
use Rattle.clr_check.proofs.covers.cover_together.Goals as goal
use Rattle.clr_check.proofs.covers.cover_together.Goals.{then-not-is_among-via-then-not-is_among, then-not-is_among-via-else-not-is_among+then-not-is_among-2}

pub returns-then-not-is_among : goal.returns-then-not-is_among
returns-then-not-is_among g c a b possible =
    let before = pairs_say c.args.pairs.now in
    let s = setting_in g.V.RowView.content c.args.scene.now in
    elim c.then-not-is_among.branch [
      | then-not-is_among-via-then-not-is_among w ↦ one_unlisted before s c.args.need.now c.args.servers.now c.requires a b possible c.args.one c.args.two
          (it_is_not _ _ w.if-not-is_among.true c.is_among.ensures)
      | then-not-is_among-via-else-not-is_among+then-not-is_among-2 w ↦ other_unlisted before s c.args.need.now c.args.servers.now c.requires a b possible
          c.args.one c.args.two
          (it_is_not _ _ w.if-not-is_among-2.true w.is_among-else-not-is_among.ensures)
    ]

pub returns-in-Some-Some : goal.returns-in-Some-Some
returns-in-Some-Some g c a b possible =
    together_told (pairs_say c.args.pairs.now) (setting_in g.V.RowView.content c.args.scene.now) c.args.need.now c.args.servers.now c.requires a b possible
    c.args.one c.args.two (lifetime c.in-Some-Some.one) (lifetime c.in-Some-Some.two) _
    (it_is _ _ c.if-not-is_among.false c.is_among.ensures) (it_is _ _ c.if-not-is_among-2.false c.is_among-else-not-is_among.ensures) c.in-Some-Some.ensures
    c.in-Some-Some.ensures' c.one_always_lives.ensures

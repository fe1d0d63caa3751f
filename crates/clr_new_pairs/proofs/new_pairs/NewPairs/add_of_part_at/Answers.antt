use Rattle.std.proofs.Common.{◌≡◌, ◌∙◌, ◌++◌, List, None, ap, subst, sym}
use Rattle.clr_spots.specs.RoleSpots.{subject_spots_under}
use Rattle.clr_spots.specs.Spots.{are_many, unless_many}
use Rattle.clr_spots.specs.declared.spot_maps.FiledPart.{FiledPart}
use Rattle.clr_spots.specs.Filing.{with_filed, near}
use Rattle.clr_row_versions.specs.Candidates.{IsNeedAmong}
use Rattle.clr_row_versions.specs.Gains.{OfSome}
use Rattle.clr_new_pairs.specs.NewPairs.{IsNeedOfFiledPart, IsNeedWithPart, UpTo, filed_part}
use Rattle.clr_row_versions.specs.RootVersions.{setting_in}
use Rattle.clr_row_versions.proofs.Gaining.{gains_as}
use Rattle.clr_new_pairs.proofs.NewPairLaws.{part_found}
use Rattle.clr_row_versions.proofs.VersionFits.{fit_one}
use Rattle.clr_new_pairs.proofs.new_pairs.NewPairs.add_of_part_at.Goals as goal

pub subject_spots-requires-clause-fit : goal.subject_spots-requires-clause-fit
subject_spots-requires-clause-fit g c = fit_one (setting_in g.V.RowView.content c.args.self.now.versions) c.requires.fit c.args.one _ c.requires.one
    c.as_held.ensures

pub returns-clause-filed : goal.returns-clause-filed
returns-clause-filed g c =
    let rules = c.args.self.now.versions.book.now in
    let list = c.in_ok-spots.ensures.list ∙ ap (λ h. unless_many (subject_spots_under rules c.args.rule c.args.part h)) c.as_held.ensures in
    let wide = c.in_ok-spots.ensures.wide ∙ ap (λ h. are_many (subject_spots_under rules c.args.rule c.args.part h)) c.as_held.ensures in
    c.in_ok-file.ensures.ok ∙ (λ i. with_filed c.args.filed.now (filed_part c.args.position c.args.part) (list i) (wide i))

pub returns-clause-needs : goal.returns-clause-needs
returns-clause-needs g c =
    let s = setting_in g.V.RowView.content c.args.self.now.versions in
    let rules = c.args.self.now.versions.book.now in
    let spots = c.in_ok-spots.spots in
    let list = c.in_ok-spots.ensures.list ∙ ap (λ h. unless_many (subject_spots_under rules c.args.rule c.args.part h)) c.as_held.ensures in
    let wide = c.in_ok-spots.ensures.wide ∙ ap (λ h. are_many (subject_spots_under rules c.args.rule c.args.part h)) c.as_held.ensures in
    let beside = near c.args.filed.now spots.list spots.wide in
    let read : c.as_slice.result.now ≡ beside = c.as_slice.ensures.value ∙ c.in_ok-add_near.ensures.ok
    ∙ ap (λ (es : List FiledPart). es ++ beside) c.new-beside.ensures.items in
    let among = IsNeedAmong rules c.args.rule None c.args.one c.args.fresh.now in
    let of_filed = IsNeedOfFiledPart rules c.args.rule c.args.fresh.now c.args.one c.args.part in
    gains_as among (OfSome (λ e. UpTo c.args.last (of_filed e)) c.as_slice.result.now) among
    (UpTo c.args.last (IsNeedWithPart rules c.args.rule c.args.fresh.now c.args.position c.args.one c.args.part)) _ _
    (λ n w. w)
    (λ n w. let found = subst (λ es. OfSome of_filed es n) (sym read)
    (part_found s c.requires.fit c.args.rule c.args.fresh.now c.args.position c.args.filed.now c.requires.before c.args.one c.args.part spots.list spots.wide n
    list wide w.0) in (found.0, found.1, (found.2, w.1)))
    c.in_ok-add_of_filed_parts.ensures

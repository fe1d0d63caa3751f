use Rattle.std.proofs.Common.{◌∙◌, ◌<◌, Some, subst}
use Rattle.std.proofs.lemmas.List.{length-map}
use Rattle.clr_row_versions.proofs.ChangerSteps.{are_changers, first_of, found_at}
use Rattle.clr_row_versions.proofs.Searches.{sets_of}
use Rattle.clr_row_versions.proofs.member_changes.Members.changer.Goals as goal

pub returns-clause-first : goal.returns-clause-first
returns-clause-first c =
    first_of (sets_of c.args.self.now.sets.items) c.args.cell (Some c.in_ok-changers.changers.now)
    (found_at c.args.self.now.changers c.args.cell c.key_of.result _ c.key_of.ensures
    c.in_ok-changers.ensures.value ∙ c.args.self.now.changed_by c.args.cell)

pub returns-clause-position : goal.returns-clause-position
returns-clause-position c =
    let refs = c.args.self.now.sets.items in
    let changers = c.in_ok-changers.changers.now in
    let are = are_changers (sets_of refs) c.args.cell (Some changers)
    (found_at c.args.self.now.changers c.args.cell c.key_of.result _ c.key_of.ensures
    c.in_ok-changers.ensures.value ∙ c.args.self.now.changed_by c.args.cell) in
    subst (λ n. changers.first < n) (length-map refs (λ s. s.now)) are.0.below

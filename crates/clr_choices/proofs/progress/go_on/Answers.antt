use Rattle.std.proofs.Common.{◌∷◌, ◌++◌, [], Bool, List, subst, sym, take}
use Rattle.std.proofs.lemmas.Result.{on_ok_weaker}
use Rattle.clr_workspaces.specs.Marks.{Name}
use Rattle.clr_choices.specs.Progress.{IsAdded, IsFollowed, IsProgress, IsTried}
use Rattle.clr_choices.proofs.Trying.{followed, tried}
use Rattle.clr_choices.proofs.progress.go_on.Goals as goal

pub returns-then-follow : goal.returns-then-follow
returns-then-follow c =
    let old = c.args.progress.now in
    let new = c.follow.new.self in
    let name = c.args.name.now in
    let followed_it = subst (λ (b : Bool). IsFollowed old name b new) c.if-follow.true c.follow.ensures in
    λ names so_far. followed c.args.office.now c.args.root.now names name old new followed_it so_far

pub returns : goal.returns
returns c =
    let o = c.args.office.now in
    let root = c.args.root.now in
    let name = c.args.name.now in
    let now = c.follow.new.self in
    let same = subst (λ (b : Bool). IsFollowed c.args.progress.now name b now) c.if-follow.false c.follow.ensures in
    let trial = subst (λ (cleared : List Name). IsTried o root (take now.count cleared ++ name ∷ []) name c.in_ok-trial.trial)
    c.as_slice.ensures.value c.in_ok-trial.ensures in
    on_ok_weaker c.add.result
    (λ (added : IsAdded now name c.in_ok-trial.trial c.add.new.self) (names : List Name) (so_far : IsProgress o root names c.args.progress.now).
    tried o root names name now c.add.new.self c.in_ok-trial.trial trial added (subst (IsProgress o root names) (sym same) so_far))
    c.add.ensures

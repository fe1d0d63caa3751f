use Rattle.std.proofs.Common.{◌≡◌, ℕ, suc, ◌+◌, ◌<◌, true, false, nat_le, ◌&&◌, List, ◌∷◌, drop, refl, ap, sym, ◌∙◌, arith}
use Rattle.std.proofs.Math.Bool.{and-false}
use Rattle.std.proofs.lemmas.Bool.{le-leb}
use Rattle.std.proofs.lemmas.Grind.{common_steps}
use Rattle.clr_rows.specs.Contents.{no_rows}
use Rattle.clr_workspaces.specs.Marks.{saved_count}
use Rattle.clr_workspace_parts.specs.Parts.{bare_mark, bare_marks, has_new_name}
use Rattle.clr_workspaces.specs.declared.limits.TheConstants.{MOST_SAVEPOINTS}
use Rattle.clr_deltas.specs.declared.stored_marks.StoredMark.{StoredMark}
use Rattle.clr_workspace_parts.proofs.PartLemmas.{drop_at, rest_is, past_all, are_new, new_skip, not_new, good_from}
use Rattle.clr_workspace_parts.proofs.MarkLemmas.{saved_as_stored}
use Rattle.clr_workspace_parts.proofs.part_checks.has_good_savepoints.Goals as goal

too_many : (a b : ℕ) → b < a → nat_le a b ≡ false
too_many a b lt = grind (arith, common_steps)

pub loop-i-init : goal.loop-i-init
loop-i-init c = refl

pub returns-then-not-has_new_name : goal.returns-then-not-has_new_name
returns-then-not-has_new_name c =
    let ms = c.args.marks.now in
    let i = c.loop-i.i in
    let m = c.index-marks-i.result in
    let next : i + 1 ≡ suc i = omega arith in
    let left = drop_at ms i m (omega arith) ∙ ap (λ x. x ∷ drop (suc i) ms) (sym c.index-marks-i.is) in
    let new = ap (λ (xs : List StoredMark). has_new_name (bare_mark m) (bare_marks xs)) (ap (λ n. drop n ms) (sym next) ∙ sym (rest_is ms (i + 1)))
    ∙ sym c.has_new_name.ensures ∙ c.if-not-has_new_name.true in
    let none : are_new (bare_marks ms) ≡ false = sym c.loop-i.invariant ∙ ap (λ (xs : List StoredMark). are_new (bare_marks xs)) left
    ∙ not_new (bare_mark m) (bare_marks (drop (suc i) ms)) new in
    sym (good_from (bare_marks ms) ∙ ap (λ b. b && nat_le (saved_count (bare_marks ms)) MOST_SAVEPOINTS) none)

pub loop-i-preserved : goal.loop-i-preserved
loop-i-preserved c =
    let ms = c.args.marks.now in
    let i = c.loop-i.i in
    let m = c.index-marks-i.result in
    let next : i + 1 ≡ suc i = omega arith in
    let left = drop_at ms i m (omega arith) ∙ ap (λ x. x ∷ drop (suc i) ms) (sym c.index-marks-i.is) in
    let new = ap (λ (xs : List StoredMark). has_new_name (bare_mark m) (bare_marks xs)) (ap (λ n. drop n ms) (sym next) ∙ sym (rest_is ms (i + 1)))
    ∙ sym c.has_new_name.ensures ∙ c.if-not-has_new_name.false in
    ap (λ n. are_new (bare_marks (drop n ms))) next ∙ sym (new_skip (bare_mark m) (bare_marks (drop (suc i) ms)) new)
    ∙ ap (λ (xs : List StoredMark). are_new (bare_marks xs)) (sym left) ∙ c.loop-i.invariant

pub returns-then-count_saved-gt-MOST_SAVEPOINTS : goal.returns-then-count_saved-gt-MOST_SAVEPOINTS
returns-then-count_saved-gt-MOST_SAVEPOINTS c =
    let ms = c.args.marks.now in
    let count = c.count_saved.ensures ∙ sym (saved_as_stored no_rows ms) in
    let many = c.if-count_saved-gt-MOST_SAVEPOINTS.true in
    sym (good_from (bare_marks ms) ∙ ap (λ b. are_new (bare_marks ms) && b) (too_many _ _ (omega (arith, count, many))) ∙ and-false (are_new (bare_marks ms)))

pub returns : goal.returns
returns c =
    let ms = c.args.marks.now in
    let all : are_new (bare_marks ms) ≡ true = sym c.loop-i.invariant
    ∙ ap (λ (xs : List StoredMark). are_new (bare_marks xs)) (past_all ms c.loop-i.i (omega arith)) in
    let count = c.count_saved.ensures ∙ sym (saved_as_stored no_rows ms) in
    let few = c.if-count_saved-gt-MOST_SAVEPOINTS.false in
    sym (good_from (bare_marks ms) ∙ (λ i. all i && le-leb (saved_count (bare_marks ms)) MOST_SAVEPOINTS (omega (arith, count, few)) i))

use Rattle.std.proofs.Common.{◌≡◌, ℕ, ◌<◌, ◌&&◌, List, length, ap, sym, ◌∙◌}
use Rattle.std.specs.List.{list_all}
use Rattle.clr_rows.specs.Contents.{Content, no_rows}
use Rattle.clr_deltas.specs.Deltas.{Delta, delta_at, wholes}
use Rattle.clr_workspaces.specs.Marks.{Mark, Name, saved_names}
use Rattle.clr_workspaces.specs.Workspaces.{workspace_at}
use Rattle.clr_deltas.specs.declared.stored_marks.StoredMark.{StoredMark}
use Rattle.clr_deltas.proofs.Meaning.{name-wholes}
use Rattle.clr_contents.proofs.ReadLemmas.{marks-wholes}
use Rattle.clr_workspace_parts.specs.Parts.{bare_mark, bare_marks, is_savepoint_or_child, is_marked_once, has_child_marks, has_good_marks}
use Rattle.clr_workspaces.specs.Soundness.{are_good_savepoints}
use Rattle.std.proofs.Math.Bool.{and-false}
use Rattle.clr_workspace_parts.proofs.PartLemmas.{all_map, good_alike}
use Rattle.clr_workspace_parts.proofs.part_checks.has_good_marks.Goals as goal

-- the marks of a workspace are good where the bare marks of its delta are
bare : (live : Content) (ls : List Delta) (at : ℕ) (name : Name) (ms : List StoredMark) → name ≡ (delta_at ls at).name → ms ≡ (delta_at ls at).marks
    → 0 < at → at < length ls
    → (let ws = wholes live ls in
    has_good_marks ws (workspace_at ws at) ≡ (are_good_savepoints (saved_names (bare_marks ms))
    && (list_all (λ m. is_savepoint_or_child ws name (bare_mark m)) ms && list_all (is_marked_once name (bare_marks ms)) ws)))
bare live ls at name ms named are some lt =
    let ws = wholes live ls in
    let w = workspace_at ws at in
    let same : w.name ≡ name = name-wholes live ls at ∙ sym named in
    ap (λ (ns : List Mark). are_good_savepoints (saved_names ns) && has_child_marks ws w.name ns) (marks-wholes live ls at some lt)
    ∙ good_alike ws w.name w.base no_rows (delta_at ls at).marks
    ∙ (λ i. are_good_savepoints (saved_names (bare_marks (sym are i))) && has_child_marks ws (same i) (bare_marks (sym are i)))
    ∙ ap (λ b. are_good_savepoints (saved_names (bare_marks ms)) && (b && list_all (is_marked_once name (bare_marks ms)) ws))
    (all_map bare_mark (is_savepoint_or_child ws name) ms)

pub returns-then-not-has_good_savepoints : goal.returns-then-not-has_good_savepoints
returns-then-not-has_good_savepoints c =
    let ws = wholes c.args.live.now c.args.map.now in
    let name = c.name_at-name.result.now in
    let ms = c.marks-marks.result.now in
    sym (bare c.args.live.now c.args.map.now c.args.at name ms c.name_at-name.ensures c.marks-marks.ensures c.requires.child c.requires.within
    ∙ ap (λ b. b && (list_all (λ m. is_savepoint_or_child ws name (bare_mark m)) ms && list_all (is_marked_once name (bare_marks ms)) ws))
    (sym c.has_good_savepoints.ensures ∙ c.if-not-has_good_savepoints.true))

pub returns-then-not-are_savepoints_or_children : goal.returns-then-not-are_savepoints_or_children
returns-then-not-are_savepoints_or_children c =
    let ws = wholes c.args.live.now c.args.map.now in
    let name = c.name_at-name.result.now in
    let ms = c.marks-marks.result.now in
    sym (bare c.args.live.now c.args.map.now c.args.at name ms c.name_at-name.ensures c.marks-marks.ensures c.requires.child c.requires.within
    ∙ ap (λ b. are_good_savepoints (saved_names (bare_marks ms)) && (b && list_all (is_marked_once name (bare_marks ms)) ws))
    (sym c.are_savepoints_or_children.ensures ∙ c.if-not-are_savepoints_or_children.true)
    ∙ and-false (are_good_savepoints (saved_names (bare_marks ms))))

pub returns : goal.returns
returns c =
    let ws = wholes c.args.live.now c.args.map.now in
    let name = c.name_at-name.result.now in
    let ms = c.marks-marks.result.now in
    let saved = sym c.has_good_savepoints.ensures ∙ c.if-not-has_good_savepoints.false in
    let childs = sym c.are_savepoints_or_children.ensures ∙ c.if-not-are_savepoints_or_children.false in
    c.are_marked_once.ensures ∙ sym (bare c.args.live.now c.args.map.now c.args.at name ms c.name_at-name.ensures c.marks-marks.ensures c.requires.child
    c.requires.within ∙ (λ i. saved i && (childs i && list_all (is_marked_once name (bare_marks ms)) ws)))

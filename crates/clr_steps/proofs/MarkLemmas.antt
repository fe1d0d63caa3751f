-- A savepoint's name stands once among the marks.
use Rattle.std.proofs.Common.{◌≡◌, ℕ, zero, suc, true, false, not, ◌&&◌, List, [], ◌∷◌, Some, refl, ap, ◌∙◌}
use Rattle.std.specs.List.{list_any, list_all}
use Rattle.std.specs.Str.{bytes_eq}
use Rattle.std.specs.Cmp.Lexicographic.{bytes_decides}
use Rattle.std.proofs.lemmas.Bool.{and_parts, false≢true, or_parts, not-true}
use Rattle.clr_rows.specs.Names.{is_good_name}
use Rattle.clr_rows.specs.Schemas.{are_distinct}
use Rattle.clr_workspaces.specs.Marks.{Name, Mark, Saved, ChildMark, find_mark, is_saved_as, saved_names}
use Rattle.clr_workspaces.specs.Soundness.{are_good_savepoints}
use Rattle.clr_steps.proofs.FirstLemmas.{IsNone, IsFirst, IsOnly, first_at_position}

none_saved : (s : Name) (marks : List Mark) → list_any (bytes_eq s) (saved_names marks) ≡ false → IsNone (is_saved_as s) marks
none_saved s [] h = tt
none_saved s (Saved name content ∷ marks) h = let both = or_parts (bytes_eq s name) (list_any (bytes_eq s) (saved_names marks)) h in
    (both.0, none_saved s marks both.1)
none_saved s (ChildMark name ∷ marks) h = (refl, none_saved s marks h)

only_first : (s : Name) (marks : List Mark) (i : ℕ) → are_distinct (saved_names marks) ≡ true → IsFirst (is_saved_as s) marks i → IsOnly (is_saved_as s) marks i
only_first s [] i distinct h = absurd h
only_first s (Saved name content ∷ marks) zero distinct h =
    let one : s ≡ name = (bytes_decides s name).0 h in
    let other = not-true _ (and_parts (not (list_any (bytes_eq name) (saved_names marks))) (are_distinct (saved_names marks)) distinct).0 in
    (h, none_saved s marks (ap (λ n. list_any (bytes_eq n) (saved_names marks)) one ∙ other))
only_first s (Saved name content ∷ marks) (suc i) distinct h = (
  h.0,
  only_first s marks i (and_parts (not (list_any (bytes_eq name) (saved_names marks)))
      (are_distinct (saved_names marks)) distinct).1 h.1,
)
only_first s (ChildMark name ∷ marks) zero distinct h = absurd (false≢true h)
only_first s (ChildMark name ∷ marks) (suc i) distinct h = (h.0, only_first s marks i distinct h.1)

pub only_savepoint : (s : Name) (marks : List Mark) (i : ℕ) → are_good_savepoints (saved_names marks) ≡ true → find_mark marks s ≡ Some i
    → IsOnly (is_saved_as s) marks i
only_savepoint s marks i good e =
    let names = saved_names marks in
    let first = (and_parts (list_all is_good_name names && are_distinct names) _ good).0 in
    only_first s marks i (and_parts (list_all is_good_name names) (are_distinct names) first).1 (first_at_position (is_saved_as s) marks i e)

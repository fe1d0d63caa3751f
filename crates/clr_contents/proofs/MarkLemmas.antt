-- What is read of marks.
use Rattle.std.proofs.Common.{◌≡◌, ℕ, suc, zero, ◌<◌, true, List, [], ◌∷◌, length, map, unwrap_or, refl, ap, sym, subst, ◌∙◌, arith}
use Rattle.std.specs.FinMap as finite
use Rattle.std.proofs.lemmas.List.{length-map}
use Rattle.clr_rows.specs.declared.cells.CellId.{CellId}
use Rattle.clr_rows.specs.Contents.{Content, row_at}
use Rattle.clr_deltas.specs.Differences.{seen_over}
use Rattle.clr_deltas.proofs.DifferenceLemmas.{row-seen_over}
use Rattle.clr_workspaces.specs.Marks.{Mark, mark_at, is_saved, saved_content}
use Rattle.clr_workspaces.specs.Workspaces.{Workspace, workspace_at}
use Rattle.clr_deltas.specs.Deltas.{Delta, delta_at, whole_mark, wholes, stored_at, saved_differences}
use Rattle.clr_deltas.specs.declared.stored_marks.StoredMark.{StoredMark}
use Rattle.clr_deltas.specs.declared.stored_marks.StoredMark.TheVariants as stored
use Rattle.clr_contents.proofs.ReadLemmas.{marks-wholes}

-- what a savepoint saved
pub saved_there : (b : Content) (ms : List StoredMark) (i : ℕ) → is_saved (mark_at (map (whole_mark b) ms) i) ≡ true
    → saved_content (mark_at (map (whole_mark b) ms) i) ≡ seen_over b (saved_differences (stored_at ms i))
saved_there b [] i e = absurd (cc)
saved_there b (stored.Saved name d ∷ ms) zero e = refl
saved_there b (stored.Child name ∷ ms) zero e = absurd (cc)
saved_there b (m ∷ ms) (suc i) e = saved_there b ms i e

pub length-marks : (live : Content) (ls : List Delta) (at : ℕ) → 0 < at → at < length ls → length (workspace_at (wholes live ls) at).marks
    ≡ length (delta_at ls at).marks
length-marks live ls at some lt = ap (λ (ms : List Mark). length ms) (marks-wholes live ls at some lt)
    ∙ length-map (delta_at ls at).marks (whole_mark (workspace_at (wholes live ls) at).base)

pub saved_within : (ms : List Mark) (i : ℕ) → is_saved (mark_at ms i) ≡ true → i < length ms
saved_within [] i e = absurd (cc)
saved_within (m ∷ ms) zero e = omega arith
saved_within (m ∷ ms) (suc i) e = let more = saved_within ms i e in omega (arith, more)

-- a savepoint of a workspace under LIVE
module _ (live : Content) (ls : List Delta) (at : ℕ) (some : 0 < at) (lt : at < length ls) (mark : ℕ)
    (saved : is_saved (mark_at (workspace_at (wholes live ls) at).marks mark) ≡ true) where
  abbrev here : Workspace
  here = workspace_at (wholes live ls) at

  abbrev marks : List StoredMark
  marks = (delta_at ls at).marks

  pub saved_stored : mark < length (delta_at ls at).marks
  saved_stored = subst (λ n. mark < n) (length-marks live ls at some lt) (saved_within here.marks mark saved)

  pub content-saved : saved_content (mark_at (workspace_at (wholes live ls) at).marks mark)
      ≡ seen_over (workspace_at (wholes live ls) at).base (saved_differences (stored_at (delta_at ls at).marks mark))
  content-saved =
      let same = marks-wholes live ls at some lt in
      ap (λ (ns : List Mark). saved_content (mark_at ns mark)) same
      ∙ saved_there here.base marks mark (ap (λ (ns : List Mark). is_saved (mark_at ns mark)) (sym same) ∙ saved)

  pub row-saved : (q : CellId) → row_at (saved_content (mark_at (workspace_at (wholes live ls) at).marks mark)) q
      ≡ unwrap_or (finite.get (saved_differences (stored_at (delta_at ls at).marks mark)) q) (row_at (workspace_at (wholes live ls) at).base q)
  row-saved q = ap (λ (m : Content). row_at m q) content-saved ∙ row-seen_over here.base (saved_differences (stored_at marks mark)) q

-- Audits beside known needs, of finders and of trees.
use Rattle.std.proofs.Common.{◌≡◌, ◌∙◌, inl, ◌<◌, ◌++◌, ◌+◌, ℕ, List, [], ◌∷◌, length, take, Option, Some, None, Result, IfOk, true, refl, ap, slice_set, subst, sym}
use Rattle.std.specs.Result.{result_err}
use Rattle.std.proofs.Math.Seq.{take-length}
use Rattle.std.proofs.lemmas.List.{length-map, map-set, take_more}
use Rattle.std.specs.declared.alloc.AllocError.{AllocError}
use Rattle.clr_rows.specs.Contents.{Content, no_rows, row_at}
use Rattle.clr_rules.specs.declared.needs.Broken.{Broken}
use Rattle.clr_rules.specs.declared.rules.Rule.{Rule}
use Rattle.clr_rules.specs.Needs.{Holds, IsBroken, broken_needs}
use Rattle.clr_rules.proofs.BrokenLemmas.{listed_broken}
use Rattle.clr_rules.proofs.Elements.{Among}
use Rattle.clr_finders.specs.RowMaps.{FiledRows}
use Rattle.clr_workspaces.specs.Workspaces.{Workspace, workspace_at}
use Rattle.clr_workspaces.specs.Operations.{set_kept, with_kept}
use Rattle.clr_audit.specs.Unknown.{first_beside, first_unknown}
use Rattle.clr_audit.proofs.UnknownLaws.{beside_none}
use Rattle.clr_steps.specs.Refusals.{first_broken, first_newly_broken}
use Rattle.clr_grid.specs.Finders.{AreFinders, IsFinderAt, IsFinderOf}
use Rattle.clr_grid.proofs.Indexes.{one_at, one_more, one_set}
use Rattle.clr_judges.specs.KeptContents.{kept_content, kept_contents}
use Rattle.clr_judges.proofs.Contents.{newly_is}
use Rattle.clr_judges.proofs.Kept.{content_at}

-- where every rule holds, no broken need is unknown
none_by : (book : List Rule) (content : Content) (known needs : List Broken) → ((b : Broken) → Among b needs → IsBroken book (row_at content) b)
    → Holds book (row_at content) → first_beside known needs ≡ None
unfolding first_beside
none_by book content known [] broken holds = refl
none_by book content known (b ∷ bs) broken holds = let is = broken b (inl refl) in absurd (is.unmet (holds _ _ _ is.need))

pub none_unknown : (book : List Rule) (known : List Broken) (content : Content) → Holds book (row_at content) → first_unknown book known content ≡ None
none_unknown book known content holds = none_by book content known (broken_needs book content) (λ b h. listed_broken book content b h) holds

-- where no need is known, the least of all is unknown
pub all_unknown : (book : List Rule) (content : Content) → first_unknown book [] content ≡ first_broken book content
unfolding first_broken
all_unknown book content = beside_none (broken_needs book content)

-- beside no rows each is broken anew
pub found_alone : {X : Type 0} (r : Result (Result X Broken) AllocError) (book : List Rule) (content : Content)
    → IfOk r (λ found. result_err found ≡ first_unknown book [] content) → IfOk r (λ found. result_err found ≡ first_newly_broken book no_rows content)
found_alone r book content h =
    subst (λ (n : Option Broken). IfOk r (λ found. result_err found ≡ n)) (all_unknown book content ∙ sym (newly_is book content)) h

-- ---- one workspace after another
pub one_found : (book : List Rule) (ws : List Workspace) (at : ℕ) (old new : List (Option FiledRows)) (finder : Option FiledRows) → at < length ws
    → AreFinders book (take at (kept_contents ws)) old
    → IsFinderAt book (kept_content (workspace_at ws at)) finder → new ≡ old ++ finder ∷ [] → AreFinders book (take (at + 1) (kept_contents ws)) new
one_found book ws at old new finder lt are is e =
    let cs = kept_contents ws in
    let within : at < length cs = subst (λ n. at < n) (sym (length-map ws kept_content)) lt in
    subst (AreFinders book (take (at + 1) cs)) (sym e)
    (subst (λ m. AreFinders book m (old ++ finder ∷ [])) (sym (take_more cs at None within))
    (one_more book (take at cs) old are (one_at cs at) finder (subst (λ c. IsFinderAt book c finder) (sym (content_at ws at)) is)))

pub all_found : (book : List Rule) (ws : List Workspace) (at : ℕ) (finders : List (Option FiledRows)) → at ≡ length ws
    → AreFinders book (take at (kept_contents ws)) finders → AreFinders book (kept_contents ws) finders
all_found book ws at finders all are =
    subst (λ cs. AreFinders book cs finders) (ap (λ n. take n (kept_contents ws)) (all ∙ sym (length-map ws kept_content)) ∙ take-length (kept_contents ws)) are

-- ---- a workspace that is to be kept
pub after_holding : (book : List Rule) (ws : List Workspace) (at : ℕ) (old new : List (Option FiledRows)) (finder : FiledRows) →
    AreFinders book (kept_contents ws) old
    → IsFinderOf book (workspace_at ws at).current finder → new ≡ slice_set old at (Some finder) → AreFinders book (kept_contents (set_kept ws at true)) new
after_holding book ws at old new finder are is e =
    let w = workspace_at ws at in
    subst (AreFinders book (kept_contents (set_kept ws at true))) (sym e)
    (subst (λ cs. AreFinders book cs (slice_set old at (Some finder))) (sym (map-set kept_content ws at (with_kept true w)))
    (one_set book (kept_contents ws) old are at (Some w.current) (Some finder) is))

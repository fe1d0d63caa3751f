-- A workspace whose finder has noted what its content is to be.
use Rattle.std.proofs.Common.{◌≡◌, ◌∙◌, ◌<◌, ℕ, Bool, true, false, cond, List, length, Option, Some, None, refl, sym, ap, subst, slice_set}
use Rattle.std.specs.Prelude.{MatchOption, Result, Ok, Err, OnOk, OnErr, ⊤}
use Rattle.std.specs.FinMap as finite
use Rattle.std.specs.Option.{option_map}
use Rattle.std.specs.declared.alloc.AllocError.{AllocError}
use Rattle.std.proofs.lemmas.List.{length-map, length-set, set-get_or}
use Rattle.clr_rows.specs.Contents.{Content, Changes, changes, taken_over}
use Rattle.clr_rows.proofs.ChangeLemmas.{taken_over-own}
use Rattle.clr_rules.specs.declared.rules.Rule.{Rule}
use Rattle.clr_finders.specs.RowMaps.{FiledRows}
use Rattle.clr_workspaces.specs.Workspaces.{Workspace, workspace_at}
use Rattle.clr_grid.specs.Finders.{AreFinders, HasForgotten, HasNoted, HasSettled, IsChangedAt, IsFinderAt}
use Rattle.clr_judges.specs.KeptContents.{IsPrepared, kept_content, kept_contents}
use Rattle.clr_grid.proofs.Indexes.{all_forgotten, all_settled, as_many, finder_at, one_at}
use Rattle.clr_judges.proofs.Kept.{content_at, with_content}

-- ---- what a call answered
pub where_none : {A P : Type 0} (Q : Type 0) (o : Option A) → o ≡ None → MatchOption o P (λ _. Q) → P
where_none {A} {P} Q o e h = subst (λ (o : Option A). MatchOption o P (λ _. Q)) e h

-- ---- finders of a tree
module _ (book : List Rule) (ws : List Workspace) (finders : List (Option FiledRows)) (are : AreFinders book (kept_contents ws) finders) where
  pub along : length finders ≡ length ws
  along = as_many book (kept_contents ws) finders are ∙ length-map ws kept_content

  pub within : (at : ℕ) → at < length ws → at < length finders
  within at lt = subst (λ n. at < n) (sym along) lt

  pub one_is : (at : ℕ) → IsFinderAt book (kept_content (workspace_at ws at)) (one_at finders at)
  one_is at = subst (λ c. IsFinderAt book c (one_at finders at)) (content_at ws at) (finder_at book (kept_contents ws) finders are at)

  nothing_pending : (content : Option Content) (finder : Option FiledRows) → IsFinderAt book content finder →
      MatchOption finder ⊤ (λ f. f.pending ≡ finite.empty)
  nothing_pending None None is = tt
  nothing_pending (Some content) (Some finder) is = is.1
  nothing_pending None (Some finder) is = absurd is
  nothing_pending (Some content) None is = absurd is

  pub free : (at : ℕ) → MatchOption (one_at finders at) ⊤ (λ f. f.pending ≡ finite.empty)
  free at = nothing_pending _ (one_at finders at) (one_is at)

  no_finder : (finder : Option FiledRows) → IsFinderAt book None finder → finder ≡ None
  no_finder None is = refl
  no_finder (Some finder) is = absurd is

  -- where rules needn't hold there is no finder
  pub not_kept : (at : ℕ) (next : Content) → (workspace_at ws at).kept ≡ false → IsPrepared book ws at next finders
  not_kept at next flag =
      let w = workspace_at ws at in
      let none : one_at finders at ≡ None = no_finder (one_at finders at)
      (subst (λ (b : Bool). IsFinderAt book (cond b (Some w.current) None) (one_at finders at)) flag (one_is at)) in
      record {
        before = finders;
        were = are;
        changed = changes w.current next;
        leads = taken_over-own w.current next;
        noted = (
          None,
          subst (λ f. HasNoted book (changes w.current next) f None) (sym none) tt,
          sym (ap (slice_set finders at) (sym none)
              ∙ set-get_or finders at None),
        );
      }

  pub prepared : (at : ℕ) (changed : Changes) (new : List (Option FiledRows)) → IsChangedAt (HasNoted book changed) at finders new
      → IsPrepared book ws at (taken_over (workspace_at ws at).current changed) new
  prepared at changed new noted = record { before = finders; were = are; changed = changed; leads = refl; noted = noted }

-- ---- a finder that has noted
module _ (book : List Rule) (ws : List Workspace) (at : ℕ) (next : Content) (mid : List (Option FiledRows)) (is : IsPrepared book ws at next mid) where
  pub along_mid : length mid ≡ length ws
  along_mid = ap length is.noted.2 ∙ length-set is.before at is.noted.0 ∙ along book ws is.before is.were

  pub within_mid : (here : ℕ) → here < length ws → here < length mid
  within_mid here lt = subst (λ n. here < n) (sym along_mid) lt

  same_next : option_map (λ content. taken_over content is.changed) (one_at (kept_contents ws) at) ≡ option_map (λ _. next) (one_at (kept_contents ws) at)
  same_next = ap (option_map (λ content. taken_over content is.changed)) (content_at ws at) ∙ by (workspace_at ws at).kept
      ∙ sym (ap (option_map (λ _. next)) (content_at ws at))
    where
      by : (b : Bool) → option_map (λ content. taken_over content is.changed) (cond b (Some (workspace_at ws at).current) None)
          ≡ option_map (λ _. next) (cond b (Some (workspace_at ws at).current) None)
      by true = ap Some is.leads
      by false = refl

  pub settled : (new : List (Option FiledRows)) → IsChangedAt HasSettled at mid new → AreFinders book (with_content (kept_contents ws) at next) new
  settled new h = subst (λ o. AreFinders book (slice_set (kept_contents ws) at o) new) same_next (all_settled book (kept_contents ws) is.before mid new
      is.changed at is.were is.noted h)

  pub forgotten : (new : List (Option FiledRows)) → IsChangedAt HasForgotten at mid new → AreFinders book (kept_contents ws) new
  forgotten new h = all_forgotten book (kept_contents ws) is.before mid new is.changed at is.were is.noted h

  -- the tree is changed, or no memory was found
  pub finished : (new : List (Option FiledRows)) (vs left : List Workspace) → kept_contents vs ≡ with_content (kept_contents ws) at next
      → (made : Result Unit AllocError)
      → OnOk made (left ≡ vs) → OnErr made (left ≡ ws) → OnOk made (IsChangedAt HasSettled at mid new) → OnErr made (IsChangedAt HasForgotten at mid new)
      → AreFinders book (kept_contents left) new
  finished new vs left contents (Ok u) ok err done lost = subst (λ cs. AreFinders book cs new) (sym (ap kept_contents ok ∙ contents)) (settled new done)
  finished new vs left contents (Err x) ok err done lost = subst (λ cs. AreFinders book cs new) (sym (ap kept_contents err)) (forgotten new lost)

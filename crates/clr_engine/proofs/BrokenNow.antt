-- The needs that an office breaks, by the names and by the positions of what breaks them.
use Rattle.std.proofs.Common.{◌≡◌, ◌∙◌, ℕ, true, List, [], Option, Some, None, Result, Ok, Err, IfOk, length, refl, sym, ap, subst}
use Rattle.std.specs.List.Sorted.{IsStrictlySortedBy}
use Rattle.std.proofs.lemmas.Bool.{false≢true}
use Rattle.clr_rows.specs.declared.tables.TableDef.{TableDef}
use Rattle.clr_rows.specs.Contents.{Content, row_at}
use Rattle.clr_rules.specs.declared.needs.Broken.{Broken}
use Rattle.clr_rules.specs.declared.rules.Rule.{Rule}
use Rattle.clr_rules.specs.Needs.{IsBroken}
use Rattle.clr_rules.proofs.Elements.{among}
use Rattle.clr_workspaces.specs.Workspaces.{Workspace, find, workspace_at}
use Rattle.clr_workspaces.specs.Soundness.{IsSound}
use Rattle.clr_steps.specs.Invariants.{HoldsWhereKept}
use Rattle.clr_steps.specs.Offices.{Office, office_of}
use Rattle.clr_steps.specs.Positions.{content_at, kept_at}
use Rattle.clr_steps.proofs.SeenLemmas.{kept_is, seen, within}
use Rattle.clr_judges.specs.BrokenNeeds.{AreBrokenBelow, IsBrokenBelow}
use Rattle.clr_engine.specs.BrokenNow.{AreBrokenNow, IsBrokenNow}

pub if_ok : {X E : Type 0} (r : Result X E) (P Q : X → Type 0) → ((x : X) → P x → Q x) → IfOk r P → IfOk r Q
if_ok (Ok x) P Q f h = f x h
if_ok (Err e) P Q f h = h

module _ (schema : List TableDef) (book : List Rule) (ws : List Workspace) (sound : IsSound ws) where
  by_name : (b : Broken) → IsBrokenBelow book ws (length ws) b → IsBrokenNow (office_of schema book ws) b
  by_name b (at, lt, flag, broken) =
      let n = (workspace_at ws at).name in
      let there = sound.rooted.own at lt in (
        n,
        kept_is schema book ws sound n ∙ ap (kept_at ws) there ∙ flag,
        subst (λ (m : Content). IsBroken book (row_at m) b) (sym ((seen schema book ws sound n).content ∙ ap (content_at ws) there)) broken,
      )

  by_position : (b : Broken) → IsBrokenNow (office_of schema book ws) b → IsBrokenBelow book ws (length ws) b
  by_position b (n, kept, broken) = by (find ws n) refl (sym (kept_is schema book ws sound n) ∙ kept)
    where
      by : (r : Option ℕ) → find ws n ≡ r → kept_at ws r ≡ true → IsBrokenBelow book ws (length ws) b
      by None e k = absurd (false≢true k)
      by (Some at) e k = (
        at,
        within schema book ws sound n at e,
        k,
        subst (λ (m : Content). IsBroken book (row_at m) b) ((seen schema book ws sound n).content ∙ ap (content_at ws) e) broken,
      )

  pub broken_now : (o : Office) → office_of schema book ws ≡ o → (list : List Broken) → AreBrokenBelow book ws (length ws) list → AreBrokenNow o list
  broken_now o is list are = subst (λ (o : Office). AreBrokenNow o list) is (record {
    ascending = are.ascending;
    exactly = λ b. (λ h. by_name b ((are.exactly b).0 h), λ h. (are.exactly b).1 (by_position b h));
  })

-- where every rule holds, no need is broken
pub none_broken : (o : Office) → HoldsWhereKept o → AreBrokenNow o []
unfolding IsStrictlySortedBy
none_broken o holds = record {
  ascending = tt;
  exactly = λ b. (λ h. absurd (among b [] h), λ (n, kept, is). absurd (is.unmet (holds n kept _ _ _ is.need)));
}

-- Needs judged one after another under an order, by the entries of each.
use Rattle.std.proofs.Common.{◌≡◌, ℕ, ◌+◌, ◌<◌, ◌≤◌, ◌⊎◌, ◌↔◌, inl, inr, Bool, true, false, List, Contains, Option, Some, None, get_or, length, sym, ap}
use Rattle.std.proofs.Common.{◌∙◌, subst, arith}
use Rattle.std.specs.Prelude.{slice_get}
use Rattle.std.proofs.lemmas.Option.{slice_get-get_or}
use Rattle.clr_cert.specs.declared.certificates.Entry.{Entry}
use Rattle.clr_needs.specs.declared.needs.Need.{Need}
use Rattle.clr_needs.specs.Covers.{Entry as Witnesses}
use Rattle.clr_needs.specs.Needs.{AreTouchedNeeds, IsPossible, IsPossibleNeed}
use Rattle.clr_needs.specs.Settings.{Setting, Lived}
use Rattle.clr_needs.proofs.NeedOrder.{unread}
use Rattle.clr_needs.proofs.VersionOrder.{unread as unread_version}
use Rattle.clr_ordered_needs.specs.Covers.{AreCovered, SubjectsNeverMeet}
use Rattle.clr_ordered_needs.specs.Turns.{Order}
use Rattle.clr_ordered_clearance.specs.VerdictLaws.{IsSettledNeed}
use Rattle.clr_ordered_clearance.proofs.SettledLemmas.{all_settled, first_unsettled}
use Rattle.clr_merge_sets.specs.Certificates.{entries_in}
use Rattle.clr_check.specs.Entries.{HasCover, IsEntryOf, IsLeastUncovered}
use Rattle.clr_needs.specs.Tests.{IsTestOf}
use Rattle.clr_check.proofs.EntryLemmas.{covered_has, has_covered}

-- what a read past the end would give
abbrev pub no_entry : Entry
no_entry = record { need = unread; one = unread_version; two = None }

-- one need -----------------------------------------------------------------------------------------

-- the entries of a need are found among entries by need, and a test tells whether one of them covers it, or its subjects never stand together
pub record AreJudged (before : Order ℕ) (c : Setting ℕ) (entries : List Entry) (n : Need) (told : Bool) : Type 0 where
  pub sorted : List Entry
  pub found : List Entry
  pub same : (e : Entry) → Contains sorted e ↔ Contains entries e
  pub those : (e : Entry) → Contains found e ↔ IsEntryOf sorted n e
  pub tells : (a : Lived ℕ) (b : Option (Lived ℕ)) → IsPossible c n a b → IsTestOf told (SubjectsNeverMeet before a b ⊎ HasCover before c n a b found)

module _ (before : Order ℕ) (c : Setting ℕ) (entries : List Entry) (n : Need) where
  pub need_settled : AreJudged before c entries n true → IsSettledNeed before c (entries_in entries) n
  need_settled judged a b possible = elim (judged.tells a b possible) [
    | inl never ↦ inl never
    | inr cover ↦ inr (covered_has before c n a b entries judged.sorted judged.found judged.same judged.those cover)
  ]

  pub need_unsettled : AreJudged before c entries n false → IsPossibleNeed c n → ¬ (IsSettledNeed before c (entries_in entries) n)
  need_unsettled judged (a, b, possible) settled = judged.tells a b possible (elim (settled a b possible) [
    | inl never ↦ inl never
    | inr has ↦ inr (has_covered before c n a b entries judged.sorted judged.found judged.same judged.those has)
  ])

-- one after another ----------------------------------------------------------------------------------

module _ (before : Order ℕ) (c : Setting ℕ) (entries : List Witnesses) where
  abbrev pub AllBefore : List Need → ℕ → Type 0
  AllBefore needs at = (k : ℕ) (m : Need) → k < at → slice_get needs k ≡ Some m → IsSettledNeed before c entries m

  pub none_before : (needs : List Need) → AllBefore needs 0
  none_before needs k m less e = absurd (omega (arith, less))

  pub one_before : (needs : List Need) (at : ℕ) (d : Need) → at < length needs → IsSettledNeed before c entries (get_or needs at d) → AllBefore needs at
      → AllBefore needs (at + 1)
  one_before needs at d within settled earlier k m less e = elim (side k less) [
    | inl h ↦ earlier k m h e
    | inr h ↦ subst (IsSettledNeed before c entries)
        (let both : Some (get_or needs at d) ≡ Some m = sym (slice_get-get_or needs at d within) ∙ ap (slice_get needs) (sym h) ∙ e in cc) settled
  ]
    where
      side : (k : ℕ) → k < at + 1 → (k < at) ⊎ (k ≡ at)
      side k h = grind (arith, h)

  pub all_before : (needs read : List Need) (at : ℕ) → AreTouchedNeeds c needs → read ≡ needs → length read ≤ at → AllBefore read at → AreCovered before c entries
  all_before needs read at are same past earlier = all_settled before c entries read (subst (AreTouchedNeeds c) (sym same) are) (λ n h. here n h)
    where
      here : (n : Need) → Contains read n → IsSettledNeed before c entries n
      here n (k, within, is) = earlier k n (omega (arith, within, past)) (slice_get-get_or read k n within ∙ ap Some is)

  pub first_after : (needs read : List Need) (at : ℕ) (d : Need) → AreTouchedNeeds c needs → read ≡ needs → at < length read → AllBefore read at
      → ¬ (IsSettledNeed before c entries (get_or read at d))
      → IsLeastUncovered before c entries (get_or read at d)
  first_after needs read at d are same within earlier bare = first_unsettled before c entries read at (get_or read at d) (subst (AreTouchedNeeds c) (sym same) are)
      (slice_get-get_or read at d within) earlier bare

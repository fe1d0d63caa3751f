-- Lives where the merged members have come in turn: what lasts while another does, what never lives with another, and of which two one always lives.
use Rattle.std.proofs.Common.{◌≡◌, ◌∙◌, true, List, ◌⊎◌, inl, inr, refl, sym, ap, not, Option}
use Rattle.std.proofs.lemmas.Bool.{cases_Bool, false≢true}
use Rattle.clr_needs.specs.declared.needs.Need.{Need}
use Rattle.clr_needs.specs.declared.needs.VersionId.{VersionId}
use Rattle.clr_needs.specs.Independence.{Names, NamesIfAny}
use Rattle.clr_needs.specs.Needs.{IsPossible, Serves}
use Rattle.clr_needs.specs.Settings.{Setting, Lifetime, Always, With, Without, Lived, has}
use Rattle.clr_needs.proofs.Lives.{lives}
use Rattle.clr_needs.proofs.NeedSubjects.{involved_member}
use Rattle.clr_ordered_needs.specs.Covers.{LastsWhile, NeverBothLive, OneAlwaysLives}
use Rattle.clr_ordered_needs.specs.Turns.{Order, AreInTurn, IsUpTo}

-- whom a life names is a member
abbrev pub NamesMembers : {A : Type 0} → Setting A → Lifetime A → Type 0
NamesMembers {A} c l = (x : A) → Names l x → has c.same c.members x ≡ true

-- so it is of the lives of subjects, and of what serves
module _ {A : Type 0} (c : Setting A) (n : Need) (a : Lived A) (b : Option (Lived A)) (possible : IsPossible c n a b) where
  pub first_named : NamesMembers c a.life
  first_named x names = involved_member c n a b x possible (inl names)

  pub second_named : (x : A) → NamesIfAny b x → has c.same c.members x ≡ true
  second_named x names = involved_member c n a b x possible (inr (inl names))

  pub server_named : (v : VersionId) (l : Lived A) → Serves c n a b v l → NamesMembers c l.life
  server_named v l serve x names = involved_member c n a b x possible (inr (inr (v, l, serve, names)))

module _ {A : Type 0} (before : Order A) (c : Setting A) (ts : List A) (in_turn : AreInTurn before c ts) where
  -- where a member is merged, so is each up to it
  merged_too : (n p : A) → has c.same c.members n ≡ true → IsUpTo before n p → has c.same ts p ≡ true → has c.same ts n ≡ true
  merged_too n p member (inl same) h = ap (has c.same ts) same ∙ h
  merged_too n p member (inr goes) h = in_turn n p goes member h

  -- where a member isn't merged, neither is any that it is up to
  waits_too : (n p : A) → has c.same c.members n ≡ true → IsUpTo before n p → not (has c.same ts n) ≡ true → not (has c.same ts p) ≡ true
  waits_too n p member up h = elim (cases_Bool (has c.same ts p)) [
    | inl merged ↦ absurd (false≢true (sym (ap not (merged_too n p member up merged)) ∙ h))
    | inr out ↦ ap not out
  ]

  pub lasts_too : (l k : Lifetime A) → LastsWhile before l k → NamesMembers c l → NamesMembers c k → lives c ts k ≡ true → lives c ts l ≡ true
  lasts_too Always k while named named_too h = refl
  lasts_too (With n) (With p) while named named_too h = merged_too n p (named n refl) while h
  lasts_too (Without p) (Without n) while named named_too h = waits_too n p (named_too n refl) while h
  lasts_too _ _ while named named_too h = absurd while

  never_by : (n p : A) → has c.same c.members n ≡ true → IsUpTo before n p → has c.same ts p ≡ true → not (has c.same ts n) ≡ true → ⊥
  never_by n p member up h k = false≢true (sym (ap not (merged_too n p member up h)) ∙ k)

  pub never_both : (l k : Lifetime A) → NeverBothLive before l k → NamesMembers c l → NamesMembers c k → lives c ts l ≡ true → lives c ts k ≡ true → ⊥
  never_both (With p) (Without n) never named named_too h g = never_by n p (named_too n refl) never h g
  never_both (Without n) (With p) never named named_too h g = never_by n p (named n refl) never g h
  never_both _ _ never named named_too h g = absurd never

  one_merged : (n p : A) → has c.same c.members n ≡ true → IsUpTo before n p → (has c.same ts n ≡ true) ⊎ (not (has c.same ts p) ≡ true)
  one_merged n p member up = elim (cases_Bool (has c.same ts p)) [ inl merged ↦ inl (merged_too n p member up merged) | inr out ↦ inr (ap not out) ]

  pub one_lives : (l k : Lifetime A) → OneAlwaysLives before l k → NamesMembers c l → NamesMembers c k → (lives c ts l ≡ true) ⊎ (lives c ts k ≡ true)
  one_lives (With n) (Without p) one named named_too = one_merged n p (named n refl) one
  one_lives (Without p) (With n) one named named_too = elim (one_merged n p (named_too n refl) one) [ inl h ↦ inr h | inr h ↦ inl h ]
  one_lives _ _ one named named_too = absurd one

-- The members that are told to help a need are just those that do.
use Rattle.std.proofs.Common.{◌≡◌, ◌∙◌, ◌<◌, ◌≤◌, ℕ, Bool, true, false, List, ◌⊎◌, inl, inr, Option, Some, None, arith, length, refl, sym, subst}
use Rattle.std.specs.List.{list_any}
use Rattle.std.specs.Ordering.{nat_cmp}
use Rattle.std.proofs.lemmas.Bool.{true≢false}
use Rattle.clr_rows.specs.Contents.{Changes, Content}
use Rattle.clr_rules.specs.declared.rules.Rule.{Rule}
use Rattle.clr_rules.proofs.Elements.{among, any_by, contained, some_of}
use Rattle.clr_needs.specs.declared.needs.Need.{Need}
use Rattle.clr_needs.specs.declared.needs.VersionId.{VersionId}
use Rattle.clr_needs.specs.Blocking.{has_subject_of_life}
use Rattle.clr_needs.specs.Covers.{IsLifeOf}
use Rattle.clr_needs.specs.Independence.{Involves, Names, NamesIfAny}
use Rattle.clr_needs.specs.Members.{setting}
use Rattle.clr_needs.specs.Needs.{AreServers, IsPossible, IsPossibleNeed, Lists}
use Rattle.clr_needs.specs.Settings.{Setting, With, Without, Lived}
use Rattle.clr_needs.specs.Witnesses.{has_life_at}
use Rattle.clr_needs.proofs.BlockerLaws.{life_at, lives_as, member_below, same_told, subject_told, told_subject}
use Rattle.clr_needs.proofs.ListedNumbers.{AreListedTo, all_listed}
use Rattle.clr_needs.proofs.NeedSubjects.{involved_member, subjects_once}
use Rattle.clr_ordered_needs.specs.Helpers.{IsHelper}
use Rattle.clr_open_needs.specs.OpenNeeds.{Helps, IsHelperOf, IsToldHelper}

module _ (c : Setting ℕ) (n : Need) where
  pub takes_is_helper : (told : Bool) (x : ℕ) → IsPossibleNeed c n → told ≡ has_subject_of_life (Without x) c n → told ≡ true → IsHelperOf c n x
  takes_is_helper told x (a, b, p) is e = (a, b, p, by (subject_told c n (Without x) a b p (sym is ∙ e)))
    where
      by : (a.life ≡ Without x) ⊎ IsLifeOf (Without x) b → IsHelper c n a b x
      by (inl h) = inl h
      by (inr h) = inr (inl h)

  module _ (servers : List VersionId) (are : AreServers c n servers) (x : ℕ) where
    brings_is_helper : list_any (has_life_at (With x) c) servers ≡ true → IsHelperOf c n x
    brings_is_helper e =
        let (v, there, lives) = some_of (has_life_at (With x) c) servers e in
        let (a, b, l, p, serve) = (are.exactly v).0 (contained v servers there) in
        (a, b, p, inr (inr (v, l, serve, same_told l.life (With x) (sym (life_at c n (With x) v l serve.is) ∙ lives))))

    neither_is_helper : has_subject_of_life (Without x) c n ≡ false → list_any (has_life_at (With x) c) servers ≡ false → ¬ (IsHelperOf c n x)
    neither_is_helper out none (a, b, p, inl h) = true≢false (sym (told_subject c n (Without x) a b p (inl h)) ∙ out)
    neither_is_helper out none (a, b, p, inr (inl h)) = true≢false (sym (told_subject c n (Without x) a b p (inr h)) ∙ out)
    neither_is_helper out none (a, b, p, inr (inr (v, l, serve, h))) =
        true≢false (sym (any_by (has_life_at (With x) c) v servers (among v servers ((are.exactly v).1 (a, b, l, p, serve)))
        (life_at c n (With x) v l serve.is ∙ lives_as (With x) l h)) ∙ none)

    pub told_helper : (told : Bool) → told ≡ has_subject_of_life (Without x) c n → told ≡ false → (r : Bool)
        → r ≡ list_any (has_life_at (With x) c) servers → IsToldHelper c n x r
    told_helper told is out true brings = brings_is_helper (sym brings)
    told_helper told is out false brings = neither_is_helper (sym is ∙ out) (sym brings)

  -- a member that helps a need is involved in it
  pub helper_involves : (a : Lived ℕ) (b : Option (Lived ℕ)) (x : ℕ) → IsHelper c n a b x → Involves c n a b x
  helper_involves a b x (inl e) = inl (subst (λ l. Names l x) (sym e) refl)
  helper_involves a b x (inr (inl e)) = inr (inl (by b e))
    where
      by : (b : Option (Lived ℕ)) → IsLifeOf (Without x) b → NamesIfAny b x
      by None e = absurd e
      by (Some m) e = subst (λ l. Names l x) e refl
  helper_involves a b x (inr (inr (v, l, serve, e))) = inr (inr (v, l, serve, subst (λ k. Names k x) (sym e) refl))

  -- the helpers below a position
  abbrev pub AreHelpersTo : ℕ → List ℕ → Type 0
  AreHelpersTo k list = AreListedTo (IsHelperOf c n) k list

module _ (rules : List Rule) (root : Content) (sets : List Changes) (n : Need) where
  abbrev s : Setting ℕ
  s = setting rules root sets

  pub helper_below : (a : Lived ℕ) (b : Option (Lived ℕ)) → IsPossible s n a b → (x : ℕ) → IsHelper s n a b x → x < length sets
  helper_below a b p x helps = member_below rules root sets x (involved_member s n a b x p (helper_involves s n a b x helps))

  only : (a : Lived ℕ) (b : Option (Lived ℕ)) → IsPossible s n a b → (x : ℕ) → IsHelperOf s n x → IsHelper s n a b x
  only a b p x (d, e, q, w) = let once = subjects_once s n a d b e p q in subst (λ l. IsHelper s n l b x) once.0 (subst (λ m. IsHelper s n d m x) once.1 w)

  below : (k x : ℕ) → length sets ≤ k → IsHelperOf s n x → x < k
  below k x past (d, e, q, w) = let less = helper_below d e q x w in omega (arith, less, past)

  pub all_help : (k : ℕ) (list : List ℕ) → length sets ≤ k → AreHelpersTo s n k list → Helps s n list
  all_help k list past are a b p =
      let all : Lists nat_cmp (IsHelperOf s n) list = all_listed (IsHelperOf s n) k list (λ x w. below k x past w) are in
      record { ascending = all.ascending; exactly = λ x. (λ h. only a b p x ((all.exactly x).0 h), λ w. (all.exactly x).1 (a, b, p, w)) }

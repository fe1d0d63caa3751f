-- The members that are told to break a need are just those that do.
use Rattle.std.proofs.Common.{◌≡◌, ◌∙◌, ◌<◌, ◌≤◌, ◌+◌, ◌==◌, ℕ, zero, suc, Bool, true, false, List, ◌⊎◌, inl, inr, Option, Some, None}
use Rattle.std.proofs.Common.{length, refl, sym, ap, subst, arith}
use Rattle.std.specs.List.{range_with_len}
use Rattle.std.proofs.lemmas.Bool.{false≢true, true≢false, or_cases, or_left, or_right}
use Rattle.std.proofs.lemmas.Bool.Decides.{Decides-eqb}
use Rattle.clr_rows.specs.Contents.{Changes, Content}
use Rattle.clr_rules.specs.declared.rules.Rule.{Rule}
use Rattle.clr_needs.specs.declared.needs.Need.{Need}
use Rattle.clr_needs.specs.declared.needs.VersionId.{VersionId}
use Rattle.clr_needs.specs.Blocking.{IsBlockerOf, has_life, has_life_by, has_subject_of_life, same_life}
use Rattle.clr_needs.specs.Covers.{IsBlocker, IsLifeOf}
use Rattle.clr_needs.specs.Members.{setting}
use Rattle.clr_needs.specs.Needs.{AreServers, IsBesideIfAny, IsPossible, IsPossibleNeed}
use Rattle.clr_needs.specs.Picks.{Blocks}
use Rattle.clr_needs.specs.Settings.{Setting, Lifetime, Always, With, Without, Lived, has, version}
use Rattle.clr_needs.specs.Witnesses.{IsLeastPassing, IsPassing, has_life_at}
use Rattle.clr_needs.proofs.ListedNumbers.{AreListedTo}
use Rattle.clr_needs.proofs.NeedSubjects.{blocker_involves, involved_member, subjects_once}

pub same_told : (l m : Lifetime ℕ) → same_life l m ≡ true → l ≡ m
same_told Always Always e = refl
same_told (With m) (With n) e = ap With ((Decides-eqb m n).0 e)
same_told (Without m) (Without n) e = ap Without ((Decides-eqb m n).0 e)
same_told _ _ e = absurd (false≢true e)

told_same : (l : Lifetime ℕ) → same_life l l ≡ true
told_same Always = refl
told_same (With m) = (Decides-eqb m m).1 refl
told_same (Without m) = (Decides-eqb m m).1 refl

pub lives_as : (life : Lifetime ℕ) (l : Lived ℕ) → l.life ≡ life → same_life l.life life ≡ true
lives_as life l e = ap (same_life l.life) (sym e) ∙ told_same l.life

module _ (c : Setting ℕ) (n : Need) where
  pub life_at : (life : Lifetime ℕ) (v : VersionId) (l : Lived ℕ) → version c v ≡ Some l → has_life life (version c v) ≡ same_life l.life life
  life_at life v l is = ap (has_life life) is

  -- a subject with this life
  pub subject_told : (life : Lifetime ℕ) (a : Lived ℕ) (b : Option (Lived ℕ)) → IsPossible c n a b → has_subject_of_life life c n ≡ true → (a.life ≡ life)
      ⊎ IsLifeOf life b
  subject_told life a b p e = by n.second b p.second_is e
    where
      by : (w : Option VersionId) (b : Option (Lived ℕ)) → IsBesideIfAny c n.first a w b → has_life_by life c n.first w ≡ true → (a.life ≡ life)
          ⊎ IsLifeOf life b
      by None None is e = inl (same_told a.life life (sym (life_at life n.first a p.first_is) ∙ e))
      by None (Some b) is e = absurd is
      by (Some w) None is e = absurd is
      by (Some w) (Some b) is e = elim (or_cases (has_life life (version c n.first)) (has_life life (version c w)) e) [
        | inl h ↦ inl (same_told a.life life (sym (life_at life n.first a p.first_is) ∙ h))
        | inr h ↦ inr (sym (same_told b.life life (sym (life_at life w b is.is) ∙ h)))
      ]

  pub told_subject : (life : Lifetime ℕ) (a : Lived ℕ) (b : Option (Lived ℕ)) → IsPossible c n a b → (a.life ≡ life) ⊎ IsLifeOf life b →
      has_subject_of_life life c n
      ≡ true
  told_subject life a b p h = by n.second b p.second_is h
    where
      by : (w : Option VersionId) (b : Option (Lived ℕ)) → IsBesideIfAny c n.first a w b → (a.life ≡ life) ⊎ IsLifeOf life b →
          has_life_by life c n.first w ≡ true
      by None None is (inl h) = life_at life n.first a p.first_is ∙ lives_as life a h
      by None None is (inr h) = absurd h
      by None (Some b) is h = absurd is
      by (Some w) None is h = absurd is
      by (Some w) (Some b) is (inl h) = or_left (has_life life (version c n.first)) (has_life life (version c w)) (life_at life n.first a p.first_is
          ∙ lives_as life a h)
      by (Some w) (Some b) is (inr h) = or_right (has_life life (version c n.first)) (has_life life (version c w)) (life_at life w b is.is
          ∙ lives_as life b (sym h))

  pub brings_is_blocker : (told : Bool) (x : ℕ) → IsPossibleNeed c n → told ≡ has_subject_of_life (With x) c n → told ≡ true → IsBlockerOf c n x
  brings_is_blocker told x (a, b, p) is e = (a, b, p, by (subject_told (With x) a b p (sym is ∙ e)))
    where
      by : (a.life ≡ With x) ⊎ IsLifeOf (With x) b → IsBlocker c n a b x
      by (inl h) = inl h
      by (inr h) = inr (inl h)

  module _ (servers : List VersionId) (are : AreServers c n servers) (x : ℕ) where
    pub takes_is_blocker : (v : VersionId) → IsPassing (has_life_at (Without x) c) servers v → IsBlockerOf c n x
    takes_is_blocker v (h, e) =
        let (a, b, l, p, serve) = (are.exactly v).0 h in
        (a, b, p, inr (inr (v, l, serve, same_told l.life (Without x) (sym (life_at (Without x) v l serve.is) ∙ e))))

    pub neither_is_blocker : (told : Bool) → told ≡ has_subject_of_life (With x) c n → told ≡ false → IsLeastPassing (has_life_at (Without x) c) servers None
        → ¬ (IsBlockerOf c n x)
    neither_is_blocker told is e none (a, b, p, inl h) = true≢false (sym (told_subject (With x) a b p (inl h)) ∙ sym is ∙ e)
    neither_is_blocker told is e none (a, b, p, inr (inl h)) = true≢false (sym (told_subject (With x) a b p (inr h)) ∙ sym is ∙ e)
    neither_is_blocker told is e none (a, b, p, inr (inr (v, l, serve, h))) =
        none v ((are.exactly v).1 (a, b, l, p, serve), life_at (Without x) v l serve.is ∙ lives_as (Without x) l h)

  -- ---- one member after another

  -- the blockers below a position
  abbrev pub AreBlockersTo : ℕ → List ℕ → Type 0
  AreBlockersTo k list = AreListedTo (IsBlockerOf c n) k list

-- a member is below the number of sets
pub range_below : (len from k : ℕ) → has (λ i j. i == j) (range_with_len from len) k ≡ true → k < from + len
range_below zero from k h = absurd (false≢true h)
range_below (suc len) from k h = by (or_cases (from == k) (has (λ i j. i == j) (range_with_len (from + 1) len) k) h) (range_below len (from + 1) k)
  where
    by : (from == k ≡ true) ⊎ (has (λ i j. i == j) (range_with_len (from + 1) len) k ≡ true) → (has (λ i j. i == j) (range_with_len (from + 1) len) k ≡ true
        → k < (from + 1) + len) → k < from + suc len
    by (inl e) later = let same = (Decides-eqb from k).0 e in omega (arith, same)
    by (inr g) later = let less = later g in omega (arith, less)

module _ (rules : List Rule) (root : Content) (sets : List Changes) where
  abbrev s : Setting ℕ
  s = setting rules root sets

  pub member_below : (x : ℕ) → has s.same s.members x ≡ true → x < length sets
  member_below x h = let less = range_below (length sets) 0 x h in omega (arith, less)

  module _ (n : Need) where
    pub blocker_below : (a : Lived ℕ) (b : Option (Lived ℕ)) → IsPossible s n a b → (x : ℕ) → IsBlocker s n a b x → x < length sets
    blocker_below a b p x blocks = member_below x (involved_member s n a b x p (blocker_involves s n a b x blocks))

    pub all_block : (k : ℕ) (list : List ℕ) → length sets ≤ k → AreBlockersTo s n k list → Blocks s n list
    all_block k list past are a b p = record {
      ascending = are.ascending;
      exactly = λ x. (
        λ h. only x ((are.exactly x).0 h).holds,
        λ w. (are.exactly x).1
            (record { below = (let less = blocker_below a b p x w in omega (arith, less, past)); holds = (a, b, p, w) }),
      );
    }
      where
        only : (x : ℕ) → IsBlockerOf s n x → IsBlocker s n a b x
        only x (d, e, q, w) = let once = subjects_once s n a d b e p q in subst (λ l. IsBlocker s n l b x) once.0 (subst (λ m. IsBlocker s n d m x) once.1 w)

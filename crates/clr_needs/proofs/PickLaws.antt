-- The witnesses that are found among the versions that serve a need are those that a planner names.
use Rattle.std.proofs.Common.{◌≡◌, ◌∙◌, ◌<◌, ℕ, true, List, ◌⊎◌, inl, inr, Option, Some, None, Contains, length, sym, ap, subst}
use Rattle.std.proofs.lemmas.Bool.{or_cases, or_left, or_right}
use Rattle.clr_rows.specs.Contents.{Changes, Content}
use Rattle.clr_rules.specs.declared.rules.Rule.{Rule}
use Rattle.clr_needs.specs.declared.needs.Need.{Need}
use Rattle.clr_needs.specs.declared.needs.VersionId.{VersionId}
use Rattle.clr_needs.specs.Blocking.{has_subject_of_life, same_life}
use Rattle.clr_needs.specs.Covers.{CoversAlone, IsLifeOf, Lasts}
use Rattle.clr_needs.specs.Members.{setting}
use Rattle.clr_needs.specs.Needs.{AreServers, IsPossible, Serves}
use Rattle.clr_needs.specs.Picks.{HasBoth, IsLeastVersion, IsPick, Picks, ServesAs}
use Rattle.clr_needs.specs.Settings.{Setting, Lifetime, Always, With, Without, Lived}
use Rattle.clr_needs.specs.Witnesses.{HasPair, IsFirstPair, IsLeastPassing, IsPassing, has_life_at, lasts, lasts_at}
use Rattle.clr_needs.proofs.BlockerLaws.{blocker_below, life_at, lives_as, same_told, subject_told, told_subject}
use Rattle.clr_needs.proofs.NeedSubjects.{subjects_once}

pub least_as : (P Q : VersionId → Type 0) (v : VersionId) → ((w : VersionId) → P w → Q w) → ((w : VersionId) → Q w → P w) → IsLeastVersion P v
    → IsLeastVersion Q v
least_as P Q v there back (is, least) = (there v is, λ w lesser h. least w lesser (back w h))

-- a version lasts beside the subjects of a need just where it is told to
module _ (c : Setting ℕ) (n : Need) (a : Lived ℕ) (b : Option (Lived ℕ)) (p : IsPossible c n a b) where
  pub told_lasting : (l : Lived ℕ) → lasts c n (Some l) ≡ true → Lasts l.life a b
  told_lasting l e = by (or_cases (same_life l.life Always) (has_subject_of_life l.life c n) e)
    where
      either : (a.life ≡ l.life) ⊎ IsLifeOf l.life b → Lasts l.life a b
      either (inl h) = inr (inl (sym h))
      either (inr h) = inr (inr h)

      by : (same_life l.life Always ≡ true) ⊎ (has_subject_of_life l.life c n ≡ true) → Lasts l.life a b
      by (inl h) = inl (same_told l.life Always h)
      by (inr h) = either (subject_told c n l.life a b p h)

  pub lasting_told : (l : Lived ℕ) → Lasts l.life a b → lasts c n (Some l) ≡ true
  lasting_told l (inl h) = or_left (same_life l.life Always) (has_subject_of_life l.life c n) (lives_as Always l h)
  lasting_told l (inr (inl h)) = or_right (same_life l.life Always) (has_subject_of_life l.life c n) (told_subject c n l.life a b p (inl (sym h)))
  lasting_told l (inr (inr h)) = or_right (same_life l.life Always) (has_subject_of_life l.life c n) (told_subject c n l.life a b p (inr h))

module _ (c : Setting ℕ) (n : Need) (servers : List VersionId) (are : AreServers c n servers) (a : Lived ℕ) (b : Option (Lived ℕ))
    (p : IsPossible c n a b) where
  -- ---- the versions that serve

  pub listed_serves : (v : VersionId) → Contains servers v → (l : Lived ℕ) × Serves c n a b v l
  listed_serves v h =
      let (x, y, l, q, serve) = (are.exactly v).0 h in
      let once = subjects_once c n a x b y p q in
      (l, subst (λ d. Serves c n d b v l) once.0 (subst (λ e. Serves c n x e v l) once.1 serve))

  pub serving_listed : (v : VersionId) (l : Lived ℕ) → Serves c n a b v l → Contains servers v
  serving_listed v l serve = (are.exactly v).1 (a, b, l, p, serve)

  -- ---- the servers that last

  covers : (v : VersionId) → IsPassing (lasts_at c n) servers v → CoversAlone c n a b v
  covers v (h, e) = let (l, serve) = listed_serves v h in (l, serve, told_lasting c n a b p l (sym (ap (lasts c n) serve.is) ∙ e))

  covers_and_lasts : (v : VersionId) → CoversAlone c n a b v → IsPassing (lasts_at c n) servers v
  covers_and_lasts v (l, serve, last) = (serving_listed v l serve, ap (lasts c n) serve.is ∙ lasting_told c n a b p l last)

  -- ---- the servers with a given life

  serves_as : (life : Lifetime ℕ) (v : VersionId) → IsPassing (has_life_at life c) servers v → ServesAs c n a b life v
  serves_as life v (h, e) = let (l, serve) = listed_serves v h in (l, serve, same_told l.life life (sym (life_at c n life v l serve.is) ∙ e))

  serving_as : (life : Lifetime ℕ) (v : VersionId) → ServesAs c n a b life v → IsPassing (has_life_at life c) servers v
  serving_as life v (l, serve, is) = (serving_listed v l serve, life_at c n life v l serve.is ∙ lives_as life l is)

  least_served : (life : Lifetime ℕ) (v : VersionId) → IsLeastVersion (IsPassing (has_life_at life c) servers) v → IsLeastVersion (ServesAs c n a b life) v
  least_served life v = least_as (IsPassing (has_life_at life c) servers) (ServesAs c n a b life) v (serves_as life) (serving_as life)

  both_pass : (x : ℕ) → HasBoth c n a b x → HasPair c servers x
  both_pass x ((v, h), (w, k)) = ((v, serving_as (Without x) v h), (w, serving_as (With x) w k))

  -- ---- what is picked

  none_alone : IsLeastPassing (lasts_at c n) servers None → (u : VersionId) → ¬ (CoversAlone c n a b u)
  none_alone none u h = none u (covers_and_lasts u h)

  is_alone : (v : VersionId) → IsLeastPassing (lasts_at c n) servers (Some v) → IsPick c n a b (Some (v, None))
  is_alone v least = least_as (IsPassing (lasts_at c n) servers) (CoversAlone c n a b) v covers covers_and_lasts least

  are_two : (count : ℕ) (v w : VersionId) → IsLeastPassing (lasts_at c n) servers None → IsFirstPair c servers count (Some (v, w))
      → IsPick c n a b (Some (v, Some w))
  are_two count v w none (x, two, first) = (
    none_alone none,
    (
      x,
      ((v, (least_served (Without x) v two.0).0), (w, (least_served (With x) w two.1).0)),
      λ y less h. first y less (both_pass y h),
      least_served (Without x)
          v two.0,
      least_served (With x) w two.1,
    ),
  )

module _ (c : Setting ℕ) (n : Need) (servers : List VersionId) (are : AreServers c n servers) where
  pub picks_alone : (v : VersionId) → IsLeastPassing (lasts_at c n) servers (Some v) → Picks c n (Some (v, None))
  picks_alone v least a b p = is_alone c n servers are a b p v least

  pub picks_two : (count : ℕ) (v w : VersionId) → IsLeastPassing (lasts_at c n) servers None → IsFirstPair c servers count (Some (v, w))
      → Picks c n (Some (v, Some w))
  picks_two count v w none first a b p = are_two c n servers are a b p count v w none first

module _ (rules : List Rule) (root : Content) (sets : List Changes) (n : Need) (servers : List VersionId) where
  abbrev s : Setting ℕ
  s = setting rules root sets

  pub picks_none : AreServers s n servers → IsLeastPassing (lasts_at s n) servers None → IsFirstPair s servers (length sets) None → Picks s n None
  picks_none are none first a b p = (none_alone s n servers are a b p none, λ x h. first x (below x h) (both_pass s n servers are a b p x h))
    where
      below : (x : ℕ) → HasBoth s n a b x → x < length sets
      below x h = let (v, served) = h.0 in blocker_below rules root sets n a b p x (inr (inr (v, served.0, served.1, served.2)))

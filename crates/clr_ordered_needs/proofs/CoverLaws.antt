-- Where each touched need is covered under an order, the root with the changes over it of members that have come in turn breaks no need but those that
-- it breaks with fewer of them.
use Rattle.std.proofs.Common.{◌≡◌, ◌∙◌, true, List, [], ◌∷◌, inl, inr, refl, sym, ap, Option, Some, None}
use Rattle.std.proofs.lemmas.Bool.{cases_Bool, false≢true, or_left, or_right}
use Rattle.clr_rules.specs.Needs.{BreaksNoMore, Holds}
use Rattle.clr_needs.specs.declared.needs.Need.{Need}
use Rattle.clr_needs.specs.declared.needs.VersionId.{VersionId}
use Rattle.clr_needs.specs.Covers.{Entry, IsLifeOf}
use Rattle.clr_needs.specs.Independence.{NamesIfAny}
use Rattle.clr_needs.specs.Needs.{IsTouchedBy, Serves, is_fresh}
use Rattle.clr_needs.specs.Settings.{Setting, AreDisjoint, AreAmong, Lifetime, Always, With, Without, Lived, has, view_with}
use Rattle.clr_needs.proofs.CoverLaws.{fewer_serve, of_root}
use Rattle.clr_needs.proofs.Lives.{lives}
use Rattle.clr_needs.proofs.Meetings.{HasServer, IsKeptIn, IsStandingNeed, met_by, no_more_where_met}
use Rattle.clr_needs.proofs.Merges.{IsMerge}
use Rattle.clr_ordered_needs.specs.Covers.{AreCovered, CoversAlone, CoverTogether, EachHasCover, HasCover, HasEntry, Lasts, LastsWhileIfAny, SubjectsNeverMeet}
use Rattle.clr_ordered_needs.specs.Covers.{WitnessesCover}
use Rattle.clr_ordered_needs.specs.Laws.{CoveredBreaksNoMore, CoveredHolds}
use Rattle.clr_ordered_needs.specs.Turns.{Order, AreInTurn}
use Rattle.clr_ordered_needs.proofs.TurnLives.{NamesMembers, first_named, lasts_too, never_both, one_lives, second_named, server_named}

-- a need that stands with more members -------------------------------------------------------------

-- where each touched need that stands has a server, no more is broken than with fewer members
module _ {A : Type 0} (c : Setting A) (apart : AreDisjoint c) (fewer more : List A) (part : AreAmong c fewer more) (members : AreAmong c more c.members) where
  abbrev pub TouchedAreServed : Type 0
  TouchedAreServed = (n : Need) (a : Lived A) (b : Option (Lived A)) → IsStandingNeed c more n a b → IsTouchedBy c n a b → HasServer c more n a b

  merge : IsMerge c more
  merge = record { apart = apart; part = members }

  merge_too : IsMerge c fewer
  merge_too = record { apart = apart; part = λ m h. members m (part m h) }

  module _ (served : TouchedAreServed) (n : Need) (a : Lived A) (b : Option (Lived A)) (need : IsStandingNeed c more n a b) where
    -- what serves with fewer stays, or a member changes it and so touches the need
    server_of_fewer : HasServer c fewer n a b → HasServer c more n a b
    server_of_fewer s = by s.lived.life refl
      where
        by : (l : Lifetime A) → s.lived.life ≡ l → HasServer c more n a b
        by Always e = record { id = s.id; lived = s.lived; serves = s.serves; lives = ap (lives c more) e }
        by (With m) e = record {
          id = s.id;
          lived = s.lived;
          serves = s.serves;
          lives = ap (lives c more) e ∙ part m (sym (ap (lives c fewer) e) ∙ s.lives);
        }
        by (Without m) e = served n a b need (inr (s.id, s.lived, s.serves, rw e tt))

    standing_is_served : IsKeptIn c (view_with c fewer) n a b → HasServer c more n a b
    standing_is_served kept = elim (cases_Bool n.first.fresh) [
      | inl new ↦ served n a b need (inl (or_left n.first.fresh (is_fresh n.second) new))
      | inr old ↦ elim (cases_Bool (is_fresh n.second)) [
        | inl new ↦ served n a b need (inl (or_right n.first.fresh (is_fresh n.second) new))
        | inr old_too ↦ server_of_fewer (fewer_serve c fewer more part n a b need.possible merge_too need kept old old_too)
      ]
    ]

  pub no_more_where_served : TouchedAreServed → BreaksNoMore c.rules (view_with c fewer) (view_with c more)
  no_more_where_served served =
      no_more_where_met c (view_with c fewer) more merge (λ n a b need kept. met_by c more n a b merge (standing_is_served served n a b need kept))

-- where every rule holds in the root, it holds where no more is broken
pub held_where_no_more : {A : Type 0} (c : Setting A) (ts : List A) → BreaksNoMore c.rules (view_with c []) (view_with c ts) → Holds c.rules c.root
    → Holds c.rules (view_with c ts)
held_where_no_more c ts no_more holds ask first second need = of_root c ts no_more ask first second (λ now. holds ask first second now) need

-- members that have come in turn --------------------------------------------------------------------

module _ {A : Type 0} (before : Order A) (c : Setting A) where
  -- entries that cover give each need a cover
  pub each_has_cover : (es : List Entry) → AreCovered before c es → EachHasCover before c
  each_has_cover es covered n a b possible touched = elim (covered n a b possible touched) [ inl never ↦ inl never | inr has ↦ inr (found es has) ]
    where
      found : (xs : List Entry) → HasEntry before c n a b xs → (v : VersionId) × (w : Option VersionId) × WitnessesCover before c n a b v w
      found [] h = absurd h
      found (e ∷ xs) (inl here) = (e.1, e.2, here.1)
      found (e ∷ xs) (inr later) = found xs later

  module _ (ts : List A) (in_turn : AreInTurn before c ts) (n : Need) (a : Lived A) (b : Option (Lived A)) (need : IsStandingNeed c ts n a b) where
    first_members : NamesMembers c a.life
    first_members = first_named c n a b need.possible

    second_members : (x : A) → NamesIfAny b x → has c.same c.members x ≡ true
    second_members = second_named c n a b need.possible

    server_members : (v : VersionId) (l : Lived A) → Serves c n a b v l → NamesMembers c l.life
    server_members = server_named c n a b need.possible

    -- the subjects stand together
    both_stand : SubjectsNeverMeet before a b → ⊥
    both_stand = by b second_members (λ l h. need.live l (inr h))
      where
        by : (d : Option (Lived A)) → ((x : A) → NamesIfAny d x → has c.same c.members x ≡ true) → ((l : Lifetime A) → IsLifeOf l d → lives c ts l ≡ true)
            → SubjectsNeverMeet before a d → ⊥
        by None named live never = never
        by (Some d) named live never =
            never_both before c ts in_turn a.life d.life never first_members named (need.live a.life (inl refl)) (live d.life refl)

    lasting_life : (v : VersionId) (l : Lived A) → Serves c n a b v l → Lasts before l.life a b → lives c ts l.life ≡ true
    lasting_life v l serve (inl while) = lasts_too before c ts in_turn l.life a.life while (server_members v l serve) first_members (need.live a.life (inl refl))
    lasting_life v l serve (inr while) = by b second_members (λ k h. need.live k (inr h)) while
      where
        by : (d : Option (Lived A)) → ((x : A) → NamesIfAny d x → has c.same c.members x ≡ true) → ((k : Lifetime A) → IsLifeOf k d → lives c ts k ≡ true)
            → LastsWhileIfAny before l.life d → lives c ts l.life ≡ true
        by None named live while = absurd while
        by (Some d) named live while = lasts_too before c ts in_turn l.life d.life while (server_members v l serve) named (live d.life refl)

    alone : (v : VersionId) → CoversAlone before c n a b v → HasServer c ts n a b
    alone v (l, serve, lasts) = record { id = v; lived = l; serves = serve; lives = lasting_life v l serve lasts }

    together : (v w : VersionId) → CoverTogether before c n a b v w → HasServer c ts n a b
    together v w (l, m, serve, serve_too, one) =
        elim (one_lives before c ts in_turn l.life m.life one (server_members v l serve) (server_members w m serve_too)) [
          | inl h ↦ record { id = v; lived = l; serves = serve; lives = h }
          | inr h ↦ record { id = w; lived = m; serves = serve_too; lives = h }
        ]

    -- a standing need with witnesses has a server
    witness_serves : (v : VersionId) (w : Option VersionId) → WitnessesCover before c n a b v w → HasServer c ts n a b
    witness_serves v None cover = alone v cover
    witness_serves v (Some w) (inl cover) = alone v cover
    witness_serves v (Some w) (inr (inl cover)) = alone w cover
    witness_serves v (Some w) (inr (inr cover)) = together v w cover

    covered_is_served : HasCover before c n a b → HasServer c ts n a b
    covered_is_served (inl never) = absurd (both_stand never)
    covered_is_served (inr (v, w, cover)) = witness_serves v w cover

  pub each_breaks_no_more : EachHasCover before c → AreDisjoint c → (fewer more : List A) → AreAmong c fewer more → AreAmong c more c.members
      → AreInTurn before c more → BreaksNoMore c.rules (view_with c fewer) (view_with c more)
  each_breaks_no_more each apart fewer more part members in_turn = no_more_where_served c apart fewer more part members
      (λ n a b need touched. covered_is_served more in_turn n a b need (each n a b need.possible touched))

  pub covered_breaks_no_more : CoveredBreaksNoMore before c
  covered_breaks_no_more es apart covered = each_breaks_no_more (each_has_cover es covered) apart

  pub covered_holds : CoveredHolds before c
  covered_holds es apart covered holds ts part in_turn =
      held_where_no_more c ts (covered_breaks_no_more es apart covered [] ts (λ m h. absurd (false≢true h)) part in_turn) holds

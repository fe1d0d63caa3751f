-- What covers a need where the first of a pair goes before the second.
use Rattle.std.proofs.Common.{◌≡◌, ◌∙◌, ◌⊎◌, ◌<◌, ◌≤◌, ◌+◌, ℕ, true, false, List, Option, Some, None, inl, inr, Contains, get_or, length, take, sym, subst}
use Rattle.std.proofs.lemmas.Bool.{true≢false}
use Rattle.clr_needs.specs.declared.needs.Need.{Need}
use Rattle.clr_needs.specs.declared.needs.VersionId.{VersionId}
use Rattle.clr_needs.specs.Blocking.{has_subject_of_life}
use Rattle.clr_needs.specs.Covers.{IsLifeOf}
use Rattle.clr_needs.specs.Needs.{AreServers, IsPossible, Serves}
use Rattle.clr_needs.specs.Settings.{Setting, Lifetime, With, Without, Lived}
use Rattle.clr_needs.specs.Witnesses.{IsLeastPassing, IsPassing, has_life_at}
use Rattle.clr_needs.proofs.BlockerLaws.{life_at, lives_as, same_told, subject_told, told_subject}
use Rattle.clr_needs.proofs.PickLaws.{listed_serves, serving_listed}
use Rattle.clr_needs.proofs.Reading.{all_taken, none_taken, one_more, read_in}
use Rattle.clr_ordered_needs.specs.Covers.{Lasts, LastsWhile, LastsWhileIfAny, NeverBothLive, OneAlwaysLives, SubjectsNeverMeet}
use Rattle.clr_ordered_needs.specs.Turns.{Order}
use Rattle.clr_order_answers.specs.declared.pairs.Pair.{Pair}
use Rattle.clr_listed_covers.specs.declared.covers.Cover.{Cover}
use Rattle.clr_listed_covers.specs.declared.covers.Cover.TheVariants as cover
use Rattle.clr_listed_covers.specs.Covers.{IsCoverByPair, IsCoverByPairs, IsNoPairFor}

module _ (before : Order ℕ) (a : Lived ℕ) (b : Option (Lived ℕ)) where
  -- a subject has the life
  abbrev HasLife : Lifetime ℕ → Type 0
  HasLife k = (a.life ≡ k) ⊎ IsLifeOf k b

  -- what lasts while a subject's life does
  lasts_with : (l k : Lifetime ℕ) → HasLife k → LastsWhile before l k → Lasts before l a b
  lasts_with l k (inl same) while = inl (subst (LastsWhile before l) (sym same) while)
  lasts_with l k (inr of) while = inr (by b of)
    where
      by : (d : Option (Lived ℕ)) → IsLifeOf k d → LastsWhileIfAny before l d
      by None h = absurd h
      by (Some d) same = subst (LastsWhile before l) same while

  -- a subject that a member brings, and one that another took away before
  never_meet : (x y : ℕ) → before x y ≡ true → HasLife (With y) → HasLife (Without x) → SubjectsNeverMeet before a b
  never_meet x y goes = by b
    where
      by : (d : Option (Lived ℕ)) → (a.life ≡ With y) ⊎ IsLifeOf (With y) d → (a.life ≡ Without x) ⊎ IsLifeOf (Without x) d → SubjectsNeverMeet before a d
      by d (inl e) (inl f) = let one : With y ≡ Without x = sym e ∙ f in absurd (cc)
      by None (inl e) (inr f) = absurd f
      by None (inr e) k = absurd e
      by (Some d) (inl e) (inr f) = subst (λ k. NeverBothLive before k d.life) (sym e) (subst (NeverBothLive before (With y)) f (inr goes))
      by (Some d) (inr e) (inl f) = subst (λ k. NeverBothLive before k d.life) (sym f) (subst (NeverBothLive before (Without x)) e (inr goes))
      by (Some d) (inr e) (inr f) = let one : With y ≡ Without x = e ∙ sym f in absurd (cc)

module _ (c : Setting ℕ) (n : Need) (servers : List VersionId) (are : AreServers c n servers) (p : Pair) where
  -- a server that has been found by its life
  serving_with : (life : Lifetime ℕ) (a : Lived ℕ) (b : Option (Lived ℕ)) → IsPossible c n a b → (v : VersionId) → IsPassing (has_life_at life c) servers v
      → (l : Lived ℕ) × Serves c n a b v l × (l.life ≡ life)
  serving_with life a b possible v (there, is) =
      let (l, serve) = listed_serves c n servers are a b possible v there in
      (l, serve, same_told l.life life (sym (life_at c n life v l serve.is) ∙ is))

  -- no server of a life is found where none has it
  passing_of : (life : Lifetime ℕ) (a : Lived ℕ) (b : Option (Lived ℕ)) → IsPossible c n a b → (v : VersionId) (l : Lived ℕ) → Serves c n a b v l
      → l.life ≡ life → IsPassing (has_life_at life c) servers v
  passing_of life a b possible v l serve e = (serving_listed c n servers are a b possible v l serve, life_at c n life v l serve.is ∙ lives_as life l e)

  neither_blocks : has_subject_of_life (With p.later) c n ≡ false → IsLeastPassing (has_life_at (Without p.later) c) servers None → IsNoPairFor c n p
  neither_blocks out none a b possible helps (inl e) = true≢false (sym (told_subject c n (With p.later) a b possible (inl e)) ∙ out)
  neither_blocks out none a b possible helps (inr (inl h)) = true≢false (sym (told_subject c n (With p.later) a b possible (inr h)) ∙ out)
  neither_blocks out none a b possible helps (inr (inr (v, l, serve, e))) = none v (passing_of (Without p.later) a b possible v l serve e)

  neither_helps : has_subject_of_life (Without p.earlier) c n ≡ false → IsLeastPassing (has_life_at (With p.earlier) c) servers None → IsNoPairFor c n p
  neither_helps out none a b possible (inl e) blocks = true≢false (sym (told_subject c n (Without p.earlier) a b possible (inl e)) ∙ out)
  neither_helps out none a b possible (inr (inl h)) blocks = true≢false (sym (told_subject c n (Without p.earlier) a b possible (inr h)) ∙ out)
  neither_helps out none a b possible (inr (inr (v, l, serve, e))) blocks = none v (passing_of (With p.earlier) a b possible v l serve e)

  -- the first takes a subject away ------------------------------------------------------------------------

  pub subjects_leave_and_come : has_subject_of_life (Without p.earlier) c n ≡ true → has_subject_of_life (With p.later) c n ≡ true
      → IsCoverByPair c n p (Some cover.NeverMeet)
  subjects_leave_and_come leaves comes = (
    λ before goes a b possible. never_meet before a b p.earlier p.later goes (subject_told c n (With p.later) a b possible comes)
        (subject_told c n (Without p.earlier) a b possible leaves),
    tt,
  )

  pub server_outlasts : has_subject_of_life (Without p.earlier) c n ≡ true → (v : VersionId) → IsLeastPassing (has_life_at (Without p.later) c) servers (Some v)
      → IsCoverByPair c n p (Some (cover.Witnesses v None))
  server_outlasts leaves v (is, least) = (
    λ before goes a b possible. (
        let (l, serve, e) = serving_with (Without p.later) a b possible v is in (
          l,
          serve,
          lasts_with before a b l.life (Without p.earlier) (subject_told c n (Without p.earlier) a b possible leaves)
              (subst (λ k. LastsWhile before k (Without p.earlier)) (sym e) (inr goes)),
        )
        ),
    ((are.exactly v).0 is.0, tt),
  )

  pub no_leaving_pair : has_subject_of_life (With p.later) c n ≡ false → IsLeastPassing (has_life_at (Without p.later) c) servers None
      → IsCoverByPair c n p None
  no_leaving_pair out none = neither_blocks out none

  -- the first brings a server --------------------------------------------------------------------------------

  pub no_coming_pair : has_subject_of_life (Without p.earlier) c n ≡ false → IsLeastPassing (has_life_at (With p.earlier) c) servers None
      → IsCoverByPair c n p None
  no_coming_pair out none = neither_helps out none

  pub server_comes_first : has_subject_of_life (With p.later) c n ≡ true → (v : VersionId) → IsLeastPassing (has_life_at (With p.earlier) c) servers (Some v)
      → IsCoverByPair c n p (Some (cover.Witnesses v None))
  server_comes_first comes v (is, least) = (
    λ before goes a b possible. (
        let (l, serve, e) = serving_with (With p.earlier) a b possible v is in (
          l,
          serve,
          lasts_with before a b l.life (With p.later) (subject_told c n (With p.later) a b possible comes)
              (subst (λ k. LastsWhile before k (With p.later)) (sym e) (inr goes)),
        )
        ),
    ((are.exactly v).0 is.0, tt),
  )

  pub servers_take_turns : (v w : VersionId) → IsLeastPassing (has_life_at (With p.earlier) c) servers (Some v)
      → IsLeastPassing (has_life_at (Without p.later) c) servers (Some w)
      → IsCoverByPair c n p (Some (cover.Witnesses v (Some w)))
  servers_take_turns v w (is, least) (is_too, least_too) = (
    λ before goes a b possible. (
        let (l, serve, e) = serving_with (With p.earlier) a b possible v is in
        let (m, serve_too, f) = serving_with (Without p.later) a b possible w is_too in
        inr (inr (
          l,
          m,
          serve,
          serve_too,
          subst (λ k. OneAlwaysLives before k m.life) (sym e) (subst (OneAlwaysLives before (With p.earlier)) (sym f) (inr goes)),
        ))
        ),
    ((are.exactly v).0 is.0, (are.exactly w).0 is_too.0),
  )

-- what a read past the end would give
abbrev pub unread_pair : Pair
unread_pair = record { earlier = 0; later = 0 }

-- pairs, one after another ------------------------------------------------------------------------------

module _ (c : Setting ℕ) (n : Need) (pairs : List Pair) where
  -- none of the first pairs serves the need
  abbrev pub NoneServes : ℕ → Type 0
  NoneServes k = (p : Pair) → Contains (take k pairs) p → IsNoPairFor c n p

  pub none_serves_yet : NoneServes 0
  none_serves_yet p h = absurd (none_taken pairs p h)

  module _ (k : ℕ) (d : Pair) (less : k < length pairs) where
    pub none_serves_more : NoneServes k → IsCoverByPair c n (get_or pairs k d) None → NoneServes (k + 1)
    none_serves_more so_far none p h = by (one_more pairs k d p less h)
      where
        by : Contains (take k pairs) p ⊎ (p ≡ get_or pairs k d) → IsNoPairFor c n p
        by (inl earlier) = so_far p earlier
        by (inr same) = subst (IsNoPairFor c n) (sym same) none

    pub pair_covers : (found : Cover) → IsCoverByPair c n (get_or pairs k d) (Some found) → IsCoverByPairs c n pairs (Some found)
    pair_covers found (covers, serve) = (λ before keeps. covers before (keeps (get_or pairs k d) (read_in pairs k d less)), serve)

  pub none_serves : (k : ℕ) → length pairs ≤ k → NoneServes k → IsCoverByPairs c n pairs None
  none_serves k past so_far p h = so_far p (all_taken pairs k p past h)

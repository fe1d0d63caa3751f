-- Possible needs whose subjects stand where some members are merged, and what meets them there.
use Rattle.std.proofs.Common.{◌≡◌, ◌∙◌, true, List, [], ◌⊎◌, inl, inr, refl, ap, Option, Some, None}
use Rattle.std.specs.Prelude.{◌∷◌}
use Rattle.clr_rules.specs.declared.needs.Ask.{Ask}
use Rattle.clr_rules.specs.Needs.{BreaksNoMore, Holds, IsKept, IsMet, IsNeed, StandsBeside, View}
use Rattle.clr_rows.specs.Held.{Held}
use Rattle.clr_needs.specs.declared.needs.Need.{Need}
use Rattle.clr_needs.specs.declared.needs.VersionId.{VersionId}
use Rattle.clr_needs.specs.Covers.{CoversAlone, CoverTogether, Entry, HasEntry, IsLifeOf, Lasts, WitnessesCover}
use Rattle.clr_needs.specs.Needs.{IsBesideIfAny, IsPossible, Serves, ask_of, held_if_any, need_of}
use Rattle.clr_needs.specs.Settings.{Setting, Lifetime, Lived, held_row, view_with}
use Rattle.clr_needs.proofs.Merges.{IsMerge}
use Rattle.clr_needs.proofs.Lives.{has_version, lives, never_both, one_of_both, living_stands}

module _ {A : Type 0} (c : Setting A) where
  -- the life of the one subject or of the other
  abbrev pub IsSubjectLife : Lived A → Option (Lived A) → Lifetime A → Type 0
  IsSubjectLife a b l = (l ≡ a.life) ⊎ IsLifeOf l b

  -- a possible need whose subjects' lives go on where these members are merged
  pub record IsStandingNeed (ts : List A) (n : Need) (a : Lived A) (b : Option (Lived A)) : Type 0 where
    pub possible : IsPossible c n a b
    pub live : (l : Lifetime A) → IsSubjectLife a b l → lives c ts l ≡ true

  -- a row that stands there serves the need
  abbrev pub IsMetIn : List A → Need → Lived A → Option (Lived A) → Type 0
  IsMetIn ts n a b = IsMet c.rules (view_with c ts) (ask_of n) (held_row n.first a) (held_if_any n.second b)

  -- ---- standing needs are the needs of the merged rows

  pub is_need : (ts : List A) (n : Need) (a : Lived A) (b : Option (Lived A)) → IsMerge c ts → IsStandingNeed ts n a b
      → IsNeed c.rules (view_with c ts) (ask_of n) (held_row n.first a) (held_if_any n.second b)
  is_need ts n a b merge need = record {
    stands = living_stands c ts merge n.first a need.possible.first_is (need.live a.life (inl refl));
    beside = beside n.second b need.possible.second_is (λ l h. need.live l (inr h));
    they_call = need.possible.they_call;
  }
    where
      beside : (w : Option VersionId) (m : Option (Lived A)) → IsBesideIfAny c n.first a w m → ((l : Lifetime A) → IsLifeOf l m → lives c ts l ≡ true)
          → StandsBeside (view_with c ts) (held_row n.first a) (held_if_any w m)
      beside None None is live = tt
      beside None (Some m) is live = absurd is
      beside (Some w) None is live = absurd is
      beside (Some w) (Some m) is live = (living_stands c ts merge w m is.is (live m.life refl), is.ascending)

  subject_lives : (ts : List A) (a : Lived A) (b : Option (Lived A)) → lives c ts a.life ≡ true → ((l : Lifetime A) → IsLifeOf l b → lives c ts l ≡ true)
      → (l : Lifetime A) → IsSubjectLife a b l → lives c ts l ≡ true
  subject_lives ts a b first second l (inl e) = ap (lives c ts) e ∙ first
  subject_lives ts a b first second l (inr h) = second l h

  -- what is asked of standing needs of which a fact holds is asked of the needs of the merged rows
  each_met : (P : Ask → Held → Option Held → Type 0) (ts : List A) → IsMerge c ts
      → ((n : Need) (a : Lived A) (b : Option (Lived A)) → IsStandingNeed ts n a b → P (ask_of n) (held_row n.first a) (held_if_any n.second b) → IsMetIn ts n a b)
      → (ask : Ask) (first : Held) (second : Option Held) → P ask first second → IsNeed c.rules (view_with c ts) ask first second
      → IsMet c.rules (view_with c ts) ask first second
  each_met P ts merge met ask first None fact need =
      let v = has_version c ts merge first.0 first.1 need.stands in
      let a : Lived A = record { row = first.1; life = v.life } in
      met (need_of ask (record { cell = first.0; fresh = v.fresh }) None) a None
      (record { possible = record { first_is = v.is; second_is = tt; they_call = need.they_call }; live = subject_lives ts a None v.lives (λ l h. absurd h) })
      fact
  each_met P ts merge met ask first (Some second) fact need =
      let v = has_version c ts merge first.0 first.1 need.stands in
      let w = has_version c ts merge second.0 second.1 need.beside.0 in
      let a : Lived A = record { row = first.1; life = v.life } in
      let b : Lived A = record { row = second.1; life = w.life } in
      met (need_of ask (record { cell = first.0; fresh = v.fresh }) (Some (record { cell = second.0; fresh = w.fresh }))) a (Some b)
      (record {
        possible = record {
          first_is = v.is;
          second_is = record {
            is = w.is;
            ascending = need.beside.1;
            not_opposed = never_both c ts v.life w.life v.lives
                w.lives;
          };
          they_call = need.they_call;
        };
        live = subject_lives ts a (Some b) v.lives (λ l h. ap (lives c ts) h ∙ w.lives);
      })
      fact

  -- every rule holds there where each standing need is met
  pub holds_where_met : (ts : List A) → IsMerge c ts → ((n : Need) (a : Lived A) (b : Option (Lived A)) → IsStandingNeed ts n a b → IsMetIn ts n a b)
      → Holds c.rules (view_with c ts)
  holds_where_met ts merge met ask first second need = each_met (λ k s t. Unit {0}) ts merge (λ n a b stand fact. met n a b stand) ask first second tt need

  -- no more is broken there than in other rows where each standing need is met that is kept by those
  abbrev pub IsKeptIn : View → Need → Lived A → Option (Lived A) → Type 0
  IsKeptIn view n a b = IsKept c.rules view (ask_of n) (held_row n.first a) (held_if_any n.second b)

  pub no_more_where_met : (before : View) (ts : List A) → IsMerge c ts
      → ((n : Need) (a : Lived A) (b : Option (Lived A)) → IsStandingNeed ts n a b → IsKeptIn before n a b → IsMetIn ts n a b)
      → BreaksNoMore c.rules before (view_with c ts)
  no_more_where_met before ts merge met ask first second kept need = each_met (IsKept c.rules before) ts merge met ask first second kept need

  -- ---- who serves

  -- a serving version whose life goes on
  pub record HasServer (ts : List A) (n : Need) (a : Lived A) (b : Option (Lived A)) : Type 0 where
    pub id : VersionId
    pub lived : Lived A
    pub serves : Serves c n a b id lived
    pub lives : lives c ts lived.life ≡ true

  pub met_by : (ts : List A) (n : Need) (a : Lived A) (b : Option (Lived A)) → IsMerge c ts → HasServer ts n a b → IsMetIn ts n a b
  met_by ts n a b merge s = (held_row s.id s.lived, living_stands c ts merge s.id s.lived s.serves.is s.lives, s.serves.it_serves)

  pub server_of : (ts : List A) (n : Need) (a : Lived A) (b : Option (Lived A)) → IsMerge c ts → IsMetIn ts n a b → HasServer ts n a b
  server_of ts n a b merge (server, stands, serve) =
      let v = has_version c ts merge server.0 server.1 stands in
      record {
        id = record { cell = server.0; fresh = v.fresh };
        lived = record { row = server.1; life = v.life };
        serves = record { is = v.is; it_serves = serve };
        lives = v.lives;
      }

  -- ---- witnesses

  module _ (ts : List A) (n : Need) (a : Lived A) (b : Option (Lived A)) (need : IsStandingNeed ts n a b) where
    lasting_life : (l : Lifetime A) → Lasts l a b → lives c ts l ≡ true
    lasting_life l (inl always) = ap (lives c ts) always
    lasting_life l (inr life) = need.live l life

    alone : (v : VersionId) → CoversAlone c n a b v → HasServer ts n a b
    alone v (l, serve, lasts) = record { id = v; lived = l; serves = serve; lives = lasting_life l.life lasts }

    together : (v w : VersionId) → CoverTogether c n a b v w → HasServer ts n a b
    together v w (l, m, serve, serve_too, opposed) = elim (one_of_both c ts l.life m.life opposed) [
      | inl h ↦ record { id = v; lived = l; serves = serve; lives = h }
      | inr h ↦ record { id = w; lived = m; serves = serve_too; lives = h }
    ]

    witness : (v : VersionId) (w : Option VersionId) → WitnessesCover c n a b v w → HasServer ts n a b
    witness v None cover = alone v cover
    witness v (Some w) (inl cover) = alone v cover
    witness v (Some w) (inr (inl cover)) = alone w cover
    witness v (Some w) (inr (inr cover)) = together v w cover

    -- a standing need with an entry has a server
    pub entry_serves : (es : List Entry) → HasEntry c n a b es → HasServer ts n a b
    entry_serves [] h = absurd h
    entry_serves (e ∷ es) (inl here) = witness e.1 e.2 here.1
    entry_serves (e ∷ es) (inr later) = entry_serves es later

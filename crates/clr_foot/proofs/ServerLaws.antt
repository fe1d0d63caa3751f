-- The versions that are found to serve are just those that do.
use Rattle.std.proofs.Common.{◌≡◌, ◌∙◌, ◌<◌, ℕ, Bool, true, false, List, [], ◌⊎◌, inl, inr, Option, Some, None, Contains, length, refl, sym, ap, subst}
use Rattle.std.specs.Prelude.{◌↔◌}
use Rattle.std.specs.Option.{option_map}
use Rattle.std.proofs.lemmas.Bool.{false≢true}
use Rattle.clr_rules.specs.declared.needs.Ask.{Ask}
use Rattle.clr_rules.specs.Calls.{calls, serves}
use Rattle.clr_rules.proofs.AskLemmas.{rule_there}
use Rattle.clr_rules.proofs.Elements.{among}
use Rattle.clr_needs.specs.declared.needs.Need.{Need}
use Rattle.clr_needs.specs.declared.needs.VersionId.{VersionId}
use Rattle.clr_row_versions.specs.declared.versions.Version.{Version}
use Rattle.clr_row_versions.specs.Candidates.{IsServerAmong}
use Rattle.clr_row_versions.specs.Gains.{Gains}
use Rattle.clr_needs.specs.Needs.{IsBesideIfAny, IsPossible, IsPossibleNeed, IsServing, ask_of, held_if_any}
use Rattle.clr_needs.specs.Settings.{Setting, Lived, held_row, version}
use Rattle.clr_foot.specs.Touches.{IsNeighbour, IsServerOf}
use Rattle.clr_row_versions.specs.Versions.{AreAt, Finds, HasVersion, IsAtIfAny, IsNamed, IsNamedIfAny, row_and_life, row_of, version_of}
use Rattle.clr_foot.proofs.SharingLaws.{may_serve_there, near_server, server_near}
use Rattle.clr_foot.proofs.TouchLaws.{lived_is}

module _ (c : Setting ℕ) where
  -- ---- the servers that are found

  module _ (ask : Ask) (s : Version) (t : Option Version) (old others : List Version) where
    abbrev Serving : List Version → VersionId → Type 0
    Serving rs = IsServerAmong c.rules ask s t rs

    serving_is : (rs : List Version) (v : VersionId) → AreAt c rs → Serving rs v → IsServerOf c ask s t v
    serving_is rs v are (r, h, same, serve) =
        (row_and_life r, ap (version c) (sym same) ∙ are r h, (λ i. serves c.rules ask (row_of s) (option_map row_of t) ((sym same i).cell, r.row.now)) ∙ serve)

    server_is_listed : (rs : List Version) (v : VersionId) (l : Lived ℕ) → AreAt c rs → version c v ≡ Some l
        → serves c.rules ask (row_of s) (option_map row_of t) (held_row v l) ≡ true → HasVersion rs v → Serving rs v
    server_is_listed rs v l are is serve (r, h, same) =
        let row = lived_is c r v l same (are r h) is in
        (r, h, same, (λ i. serves c.rules ask (row_of s) (option_map row_of t) ((same i).cell, (row i).row)) ∙ serve)

    pub servers_exactly : (empty middle names : List VersionId) (v : VersionId) → calls c.rules ask (row_of s) (option_map row_of t) ≡ true
        → Finds c false (IsNeighbour true c.rules ask.rule (row_of s)) old
        → Finds c true (IsNeighbour true c.rules ask.rule (row_of s)) others
        → empty ≡ []
        → Gains (Serving old) (Serving old) empty middle
        → Gains (Serving others) (Serving others) middle names
        → Contains names v ↔ IsServerOf c ask s t v
    servers_exactly empty middle names v called found found_too none g h = (λ k. only (h.only v k), every)
      where
        first : Contains empty v ⊎ Serving old v → IsServerOf c ask s t v
        first (inl k) = absurd (among v [] (subst (λ vs. Contains vs v) none k))
        first (inr w) = serving_is old v found.are w

        only : Contains middle v ⊎ Serving others v → IsServerOf c ask s t v
        only (inl k) = first (g.only v k)
        only (inr w) = serving_is others v found_too.are w

        every : IsServerOf c ask s t v → Contains names v
        every (l, is, serve) = by v.fresh refl
          where
            near : IsNeighbour true c.rules ask.rule (row_of s) (held_row v l)
            near = near_server c.rules ask.rule (row_of s) (held_row v l) (server_near c.rules ask (row_of s) (option_map row_of t) (held_row v l) called
                serve).0
                (may_serve_there c.rules ask (row_of s) (option_map row_of t) (held_row v l) called serve)

            by : (b : Bool) → v.fresh ≡ b → Contains names v
            by false e =
                let same : version_of false v.cell ≡ v = λ i. record { cell = v.cell; fresh = sym e i } in
                h.kept v (g.every v (server_is_listed old v l found.are is serve (subst (HasVersion old) same (found.every v.cell l (ap (version c) same
                ∙ is) near))))
            by true e =
                let same : version_of true v.cell ≡ v = λ i. record { cell = v.cell; fresh = sym e i } in
                h.every v (server_is_listed others v l found_too.are is serve (subst (HasVersion others) same (found_too.every v.cell l (ap (version c) same
                ∙ is) near)))

  -- ---- the subjects of a possible need

  pub at_too : (id : Option VersionId) (v : Option Version) → IsNamedIfAny c id v → IsAtIfAny c v
  at_too None None h = tt
  at_too None (Some v) h = absurd h
  at_too (Some id) None h = tt
  at_too (Some id) (Some v) h = h.1

  pub first_row : (id : VersionId) (v : Version) (l : Lived ℕ) → IsNamed c id v → version c id ≡ Some l → row_of v ≡ held_row id l
  first_row id v l h is = let row = lived_is c v id l h.0 h.1 is in λ i. ((h.0 i).cell, (row i).row)

  second_row : (first : VersionId) (a : Lived ℕ) (id : Option VersionId) (v : Option Version) (b : Option (Lived ℕ)) → IsNamedIfAny c id v
      → IsBesideIfAny c first a id b → option_map row_of v ≡ held_if_any id b
  second_row first a None None b h is = refl
  second_row first a None (Some v) b h is = absurd h
  second_row first a (Some id) v None h is = absurd is
  second_row first a (Some id) None (Some b) h is = let clash : None ≡ Some b = sym h ∙ is.is in cc
  second_row first a (Some id) (Some v) (Some b) h is = ap Some (first_row id v b h is.is)

  module _ (n : Need) (s : Version) (t : Option Version) (named : IsNamed c n.first s) (named_too : IsNamedIfAny c n.second t) where
    rows_are : (a : Lived ℕ) (b : Option (Lived ℕ)) → IsPossible c n a b → (row_of s ≡ held_row n.first a) × (option_map row_of t ≡ held_if_any n.second b)
    rows_are a b p = (first_row n.first s a named p.first_is, second_row n.first a n.second t b named_too p.second_is)

    pub subjects_call : IsPossibleNeed c n → calls c.rules (ask_of n) (row_of s) (option_map row_of t) ≡ true
    subjects_call (a, b, p) = let rows = rows_are a b p in (λ i. calls c.rules (ask_of n) (rows.0 i) (rows.1 i)) ∙ p.they_call

    -- its servers are those of its subjects
    pub serving_same : (v : VersionId) → IsPossibleNeed c n → IsServerOf c (ask_of n) s t v ↔ IsServing c n v
    serving_same v (a, b, p) = (there, back)
      where
        there : IsServerOf c (ask_of n) s t v → IsServing c n v
        there (l, is, serve) =
            let rows = rows_are a b p in
            (a, b, l, p, record { is = is; it_serves = sym (λ i. serves c.rules (ask_of n) (rows.0 i) (rows.1 i) (held_row v l)) ∙ serve })

        back : IsServing c n v → IsServerOf c (ask_of n) s t v
        back (x, y, l, q, serve) = let rows = rows_are x y q in (
          l,
          serve.is,
          (λ i. serves c.rules (ask_of n) (rows.0 i) (rows.1 i) (held_row v l))
              ∙ serve.it_serves,
        )

    -- what is told of one version
    pub serving_told : (v : VersionId) (r : Version) → IsNamed c v r → (ask : Ask) → ask ≡ ask_of n → (told : Bool)
        → told ≡ serves c.rules ask (row_of s) (option_map row_of t) (row_of r)
        → IsPossibleNeed c n
        → (told ≡ true) ↔ IsServing c n v
    serving_told v r is_named ask asks told is possible = (there, back)
      where
        same : (l : Lived ℕ) → version c v ≡ Some l
            → serves c.rules ask (row_of s) (option_map row_of t) (row_of r) ≡ serves c.rules (ask_of n) (row_of s) (option_map row_of t) (held_row v l)
        same l at = λ i. serves c.rules (asks i) (row_of s) (option_map row_of t) (first_row v r l is_named at i)

        at : version c v ≡ Some (row_and_life r)
        at = ap (version c) (sym is_named.0) ∙ is_named.1

        there : told ≡ true → IsServing c n v
        there e = (serving_same v possible).0 (row_and_life r, at, sym (same (row_and_life r) at) ∙ sym is ∙ e)

        back : IsServing c n v → told ≡ true
        back w = let (l, there, serve) = (serving_same v possible).1 w in is ∙ same l there ∙ serve

  pub none_serving : (n : Need) (v : VersionId) → version c v ≡ None → (false ≡ true) ↔ IsServing c n v
  none_serving n v none = (λ e. absurd (false≢true e), λ (a, b, l, p, serve). (let clash : None ≡ Some l = sym none ∙ serve.is in cc))

  pub possible_number : (n : Need) → IsPossibleNeed c n → n.rule < length c.rules
  possible_number n (a, b, p) = rule_there c.rules (ask_of n) (held_row n.first a) (held_if_any n.second b) p.they_call

  pub possible_there : (n : Need) → IsPossibleNeed c n → version c n.first ≡ None → ⊥
  possible_there n (a, b, p) none = let clash : None ≡ Some a = sym none ∙ p.first_is in cc

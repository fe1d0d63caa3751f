-- Witnesses are picked for each possible need, or it is told that there are none: the versions of a setting can be gone over.
use Rattle.std.proofs.Common.{◌≡◌, ◌∙◌, ◌<◌, ◌⊎◌, ◌&&◌, ℕ, zero, suc, Bool, true, false, List, [], ◌∷◌, ◌++◌, inl, inr, Option, Some, None, cond, length}
use Rattle.std.proofs.Common.{refl, sym, ap, subst, arith, is_some}
use Rattle.std.specs.Prelude.{slice_get}
use Rattle.std.specs.FinMap as finite
use Rattle.std.specs.List.{flat_map}
use Rattle.std.specs.Option.{option_map, option_map_or}
use Rattle.std.specs.Ordering.{eq_by_cmp}
use Rattle.std.specs.declared.cmp.Ordering.{Ordering}
use Rattle.std.specs.declared.cmp.Ordering.TheVariants.{Less, Equal, Greater}
use Rattle.std.proofs.lemmas.Bool.{and_from, and_parts, cases_Bool, cases_lt, false≢true}
use Rattle.clr_rows.specs.declared.cells.CellId.{CellId}
use Rattle.clr_rows.specs.declared.cells.Change.{Change}
use Rattle.clr_rows.specs.declared.rows.Row.{Row}
use Rattle.clr_rows.specs.Cells.{cell_cmp}
use Rattle.clr_rows.specs.Contents.{Changes, Content}
use Rattle.clr_rows.proofs.RowLemmas.{tied_cells}
use Rattle.clr_rules.specs.declared.rules.Rule.{Rule}
use Rattle.clr_rules.specs.Calls.{serves}
use Rattle.clr_rules.proofs.Elements.{Among, among_left, among_right, flat_among, not_itself, some_of}
use Rattle.clr_needs.specs.declared.needs.Need.{Need}
use Rattle.clr_needs.specs.declared.needs.VersionId.{VersionId}
use Rattle.clr_needs.specs.Blocking.{same_life}
use Rattle.clr_needs.specs.Covers.{CoversAlone}
use Rattle.clr_needs.specs.Members.{after_at, changed_cells, setting}
use Rattle.clr_needs.specs.Needs.{IsPossible, IsPossibleNeed, Serves, ask_of, held_if_any}
use Rattle.clr_needs.specs.Orders.{version_cmp}
use Rattle.clr_needs.specs.Picks.{HasBoth, IsLeastVersion, IsPick, Picks, ServesAs}
use Rattle.clr_needs.specs.Settings.{Setting, Lifetime, With, Without, Lived, changer, held_row, version}
use Rattle.clr_needs.specs.Witnesses.{lasts}
use Rattle.clr_needs.proofs.BlockerLaws.{blocker_below, lives_as, same_told}
use Rattle.clr_needs.proofs.Lives.{new_is, old_is, version_by, version_by_changer}
use Rattle.clr_needs.proofs.NeedSubjects.{subjects_once}
use Rattle.clr_needs.proofs.PickLaws.{lasting_told, told_lasting}
use Rattle.clr_needs.proofs.VersionOrder.{version_total}

-- the least of a list that passes a test ------------------------------------------------------------

module _ (test : VersionId → Bool) where
  abbrev IsLeastOf : List VersionId → Option VersionId → Type 0
  IsLeastOf ids None = (v : VersionId) → Among v ids → test v ≡ true → ⊥
  IsLeastOf ids (Some v) = (test v ≡ true) × ((w : VersionId) → Among w ids → test w ≡ true → version_cmp w v ≡ Less → ⊥)

  abbrev HasLeast : List VersionId → Type 0
  HasLeast ids = (found : Option VersionId) × IsLeastOf ids found

  module _ (i : VersionId) (ids : List VersionId) where
    passed_by : test i ≡ false → HasLeast ids → HasLeast (i ∷ ids)
    passed_by fails (None, none) = (
      None,
      λ v h passes. elim h [
        | inl same ↦ false≢true (sym fails ∙ ap test same ∙ passes)
        | inr more ↦ none v more passes
      ],
    )
    passed_by fails (Some u, (is, least)) = (
      Some u,
      (
        is,
        λ w h passes less. elim h [
          | inl same ↦ false≢true (sym fails ∙ ap test same ∙ passes)
          | inr more ↦ least w more passes less
        ],
      ),
    )

    beside : test i ≡ true → HasLeast ids → HasLeast (i ∷ ids)
    beside passes (None, none) = (
      Some i,
      (
        passes,
        λ w h others less. elim h [
          | inl same ↦ not_itself version_total w (subst (λ u. version_cmp w u ≡ Less) same less)
          | inr more ↦ none w more others
        ],
      ),
    )
    beside passes (Some u, (is, least)) = by (version_cmp i u) refl
      where
        before : version_cmp i u ≡ Less → HasLeast (i ∷ ids)
        before first = (
          Some i,
          (
            passes,
            λ w h others less. elim h [
              | inl same ↦ not_itself version_total w (subst (λ x. version_cmp w x ≡ Less) same less)
              | inr more ↦ least w more others (version_total.trans w i u less first)
            ],
          ),
        )

        behind : ¬ (version_cmp i u ≡ Less) → HasLeast (i ∷ ids)
        behind later = (
          Some u,
          (
            is,
            λ w h others less. elim h [
              | inl same ↦ later (subst (λ x. version_cmp x u ≡ Less) (sym same) less)
              | inr more ↦ least w more others less
            ],
          ),
        )

        by : (o : Ordering) → version_cmp i u ≡ o → HasLeast (i ∷ ids)
        by Less e = before e
        by Equal e = behind (λ less. (let both : Equal ≡ Less = sym e ∙ less in absurd (cc)))
        by Greater e = behind (λ less. (let both : Greater ≡ Less = sym e ∙ less in absurd (cc)))

  least_of : (ids : List VersionId) → HasLeast ids
  least_of [] = (None, λ v h passes. h)
  least_of (i ∷ ids) = elim (cases_Bool (test i)) [ inl passes ↦ beside i ids passes (least_of ids) | inr fails ↦ passed_by i ids fails (least_of ids) ]

module _ (rules : List Rule) (root : Content) (sets : List Changes) where
  abbrev c : Setting ℕ
  c = setting rules root sets

  -- all versions ------------------------------------------------------------------------------------

  abbrev both_at : CellId → List VersionId
  both_at q = record { cell = q; fresh = false } ∷ record { cell = q; fresh = true } ∷ []

  abbrev cells : List CellId
  cells = finite.keys root ++ changed_cells sets

  abbrev versions : List VersionId
  versions = flat_map both_at cells

  key_among : {X : Type 0} (m : finite.FinMap cell_cmp X) (q : CellId) → is_some (finite.get m q) ≡ true → Among q (finite.keys m)
  key_among m q h =
      let (p, there, same) = some_of (eq_by_cmp cell_cmp q) (finite.keys m) (sym (finite.contains_key-keys m q) ∙ h) in
      subst (λ x. Among x (finite.keys m)) (sym (tied_cells q p same)) there

  some_mapped : {X Y : Type 0} (f : X → Y) (r : Option X) → is_some (option_map f r) ≡ true → is_some r ≡ true
  some_mapped f None e = absurd (false≢true e)
  some_mapped f (Some x) e = refl

  set_among : (list : List Changes) (n : ℕ) (q : CellId) → is_some (after_at (slice_get list n) q) ≡ true → Among q (changed_cells list)
  unfolding changed_cells
  set_among [] n q h = absurd (false≢true h)
  set_among (s ∷ list) zero q h = among_left q (finite.keys s) (changed_cells list) (key_among s q (some_mapped (λ (e : Change). e.after) (finite.get s q) h))
  set_among (s ∷ list) (suc n) q h = among_right q (finite.keys s) (changed_cells list) (set_among list n q h)

  old_among : (q : CellId) (x : Option ℕ) (l : Lived ℕ) → version_by c false q x ≡ Some l → Among q cells
  old_among q x l e = among_left q (finite.keys root) (changed_cells sets) (key_among root q (ap is_some (old_is c x (c.root q) l e).0))

  new_among : (q : CellId) (x : Option ℕ) (l : Lived ℕ) → version_by c true q x ≡ Some l → Among q cells
  new_among q None l e = absurd (let no : None ≡ Some l = e in cc)
  new_among q (Some m) l e = among_right q (finite.keys root) (changed_cells sets) (set_among sets m q (ap is_some (new_is c m (c.after m q) l e).0))

  version_among : (v : VersionId) (l : Lived ℕ) → version c v ≡ Some l → Among v versions
  version_among v l e = by v.fresh refl (sym (version_by_changer c v) ∙ e)
    where
      by : (fresh : Bool) → v.fresh ≡ fresh → version_by c v.fresh v.cell (changer c v.cell) ≡ Some l → Among v versions
      by false old is = flat_among both_at v.cell v cells
          (old_among v.cell (changer c v.cell) l (ap (λ f. version_by c f v.cell (changer c v.cell)) (sym old) ∙ is))
          (inl (λ i. record { cell = v.cell; fresh = sym old i }))
      by true new is = flat_among both_at v.cell v cells
          (new_among v.cell (changer c v.cell) l (ap (λ f. version_by c f v.cell (changer c v.cell)) (sym new) ∙ is))
          (inr (inl (λ i. record { cell = v.cell; fresh = sym new i })))

  -- the servers of one need ---------------------------------------------------------------------------

  module _ (n : Need) (a : Lived ℕ) (b : Option (Lived ℕ)) where
    abbrev serves_as : VersionId → (Lived ℕ → Bool) → Lived ℕ → Bool
    serves_as v p l = serves rules (ask_of n) (held_row n.first a) (held_if_any n.second b) (held_row v l) && p l

    abbrev passes : (Lived ℕ → Bool) → VersionId → Bool
    passes p v = option_map_or (serves_as v p) (version c v) false

    -- a version that serves and passes
    abbrev IsServer : (Lived ℕ → Bool) → VersionId → Type 0
    IsServer p v = (l : Lived ℕ) × Serves c n a b v l × (p l ≡ true)

    told_server : (p : Lived ℕ → Bool) (v : VersionId) → passes p v ≡ true → IsServer p v
    told_server p v h = by (version c v) refl h
      where
        by : (r : Option (Lived ℕ)) → version c v ≡ r → option_map_or (serves_as v p) r false ≡ true → IsServer p v
        by None is e = absurd (false≢true e)
        by (Some l) is e =
            let both = and_parts (serves rules (ask_of n) (held_row n.first a) (held_if_any n.second b) (held_row v l)) (p l) e in
            (l, record { is = is; it_serves = both.0 }, both.1)

    server_told : (p : Lived ℕ → Bool) (v : VersionId) → IsServer p v → passes p v ≡ true
    server_told p v (l, serve, e) = ap (λ r. option_map_or (serves_as v p) r false) serve.is
        ∙ and_from (serves rules (ask_of n) (held_row n.first a) (held_if_any n.second b) (held_row v l)) (p l) serve.it_serves e

    -- the least version of which P holds, or none
    abbrev IsFoundLeast : (VersionId → Type 0) → Type 0
    IsFoundLeast P = ((v : VersionId) × IsLeastVersion P v) ⊎ ((v : VersionId) → ¬ (P v))

    module _ (P : VersionId → Type 0) (p : Lived ℕ → Bool) (there : (v : VersionId) → P v → IsServer p v) (back : (v : VersionId) → IsServer p v → P v) where
      found_least : IsFoundLeast P
      found_least = by (least_of (passes p) versions)
        where
          listed : (v : VersionId) → P v → Among v versions
          listed v h = let (l, serve, e) = there v h in version_among v l serve.is

          by : HasLeast (passes p) versions → IsFoundLeast P
          by (None, none) = inr (λ v h. none v (listed v h) (server_told p v (there v h)))
          by (Some u, (is, least)) = inl (u, (back u (told_server p u is), λ w less h. least w (listed w h) (server_told p w (there w h)) less))

    least_as : (life : Lifetime ℕ) → IsFoundLeast (ServesAs c n a b life)
    least_as life = found_least (ServesAs c n a b life) (λ l. same_life l.life life)
        (λ v (l, serve, e). (l, serve, lives_as life l e))
        (λ v (l, serve, e). (l, serve, same_told l.life life e))

    module _ (possible : IsPossible c n a b) where
      least_alone : IsFoundLeast (CoversAlone c n a b)
      least_alone = found_least (CoversAlone c n a b) (λ l. lasts c n (Some l))
          (λ v (l, serve, e). (l, serve, lasting_told c n a b possible l e))
          (λ v (l, serve, e). (l, serve, told_lasting c n a b possible l e))

      -- the first member that takes a serving version away and brings another
      record IsFirstBoth (x : ℕ) (v w : VersionId) : Type 0 where
        both : HasBoth c n a b x
        first : (y : ℕ) → y < x → ¬ (HasBoth c n a b y)
        taken : IsLeastVersion (ServesAs c n a b (Without x)) v
        brought : IsLeastVersion (ServesAs c n a b (With x)) w

      abbrev HasFirstBoth : ℕ → Type 0
      HasFirstBoth k = ((x : ℕ) × (v : VersionId) × (w : VersionId) × IsFirstBoth x v w) ⊎ ((x : ℕ) → x < k → ¬ (HasBoth c n a b x))

      one_more : (k : ℕ) → ((x : ℕ) → x < k → ¬ (HasBoth c n a b x)) → HasFirstBoth (suc k)
      one_more k none = by (least_as (Without k)) (least_as (With k))
        where
          neither : ¬ (HasBoth c n a b k) → HasFirstBoth (suc k)
          neither not_both = inr (λ x less h. elim (cases_lt x k) [
            | inl below ↦ none x below h
            | inr most ↦ not_both (subst (HasBoth c n a b) (let same : x ≡ k = omega (arith, less, most) in same) h)
          ])

          by : IsFoundLeast (ServesAs c n a b (Without k)) → IsFoundLeast (ServesAs c n a b (With k)) → HasFirstBoth (suc k)
          by (inl (v, old)) (inl (w, new)) = inl (k, v, w, record { both = ((v, old.0), (w, new.0)); first = none; taken = old; brought = new })
          by (inr no_old) new = neither (λ h. no_old h.0.0 h.0.1)
          by (inl old) (inr no_new) = neither (λ h. no_new h.1.0 h.1.1)

      first_both : (k : ℕ) → HasFirstBoth k
      first_both zero = inr (λ x less. absurd (omega (arith, less)))
      first_both (suc k) = by (first_both k)
        where
          by : HasFirstBoth k → HasFirstBoth (suc k)
          by (inl found) = inl found
          by (inr none) = one_more k none

      pick_here : (pick : Option (VersionId × Option VersionId)) × IsPick c n a b pick
      pick_here = by least_alone
        where
          below : (x : ℕ) → HasBoth c n a b x → x < length sets
          below x h = let (v, served) = h.0 in blocker_below rules root sets n a b possible x (inr (inr (v, served.0, served.1, served.2)))

          two : ((v : VersionId) → ¬ (CoversAlone c n a b v)) → HasFirstBoth (length sets) → (pick : Option (VersionId × Option VersionId))
              × IsPick c n a b pick
          two none (inl (x, v, w, is)) = (Some (v, Some w), (none, (x, is.both, is.first, is.taken, is.brought)))
          two none (inr no_both) = (None, (none, λ x h. no_both x (below x h) h))

          by : IsFoundLeast (CoversAlone c n a b) → (pick : Option (VersionId × Option VersionId)) × IsPick c n a b pick
          by (inl (v, least)) = (Some (v, None), least)
          by (inr none) = two none (first_both (length sets))

  pub pick_there : (n : Need) → IsPossibleNeed c n → (pick : Option (VersionId × Option VersionId)) × Picks c n pick
  pick_there n (a, b, possible) =
      let (pick, is) = pick_here n a b possible in (
        pick,
        λ x y other. (let once = subjects_once c n x a y b other possible in
            subst (λ d. IsPick c n x d pick) once.1 (subst (λ l. IsPick c n l b pick) once.0 is)),
      )

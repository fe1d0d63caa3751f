-- The first version that serves and is looked for, cell by cell.
use Rattle.std.proofs.Common.{◌≡◌, ◌∙◌, ◌<◌, ℕ, Bool, true, false, List, inl, inr, Option, Some, None, length, refl, sym, ap, subst}
use Rattle.std.specs.Prelude.{IfSome}
use Rattle.std.specs.Option.{option_map}
use Rattle.std.specs.Ordering.{bool_cmp, is_gt, ordering_reverse, ordering_then}
use Rattle.std.specs.declared.cmp.Ordering.{Ordering}
use Rattle.std.specs.declared.cmp.Ordering.TheVariants.{Less, Equal, Greater}
use Rattle.std.proofs.lemmas.Bool.{true≢false}
use Rattle.clr_rows.specs.declared.cells.CellId.{CellId}
use Rattle.clr_rows.specs.Cells.{cell_cmp}
use Rattle.clr_rows.specs.Contents.{Changes, Content}
use Rattle.clr_rows.proofs.CellOrder.{cell_cmp_exact, cell_cmp_total}
use Rattle.clr_rules.specs.declared.needs.Ask.{Ask}
use Rattle.clr_rules.specs.declared.rules.Rule.{Rule}
use Rattle.clr_rules.specs.Calls.{calls, serves}
use Rattle.clr_finders.specs.declared.row_spots.RuleSpots.{RuleSpots}
use Rattle.clr_finders.specs.NextCells.{IsBehind, IsNextOf}
use Rattle.clr_finders.specs.Sharing.{IsSettledFor, Settled, rule_spots}
use Rattle.clr_needs.specs.declared.needs.Need.{Need}
use Rattle.clr_needs.specs.declared.needs.VersionId.{VersionId}
use Rattle.clr_needs.specs.Broken.{IsServedAfterMerge, is_living_at}
use Rattle.clr_needs.specs.Covers.{CoversAlone}
use Rattle.clr_needs.specs.Members.{setting}
use Rattle.clr_needs.specs.Needs.{IsPossible, IsPossibleNeed, Serves, ask_of}
use Rattle.clr_needs.specs.Picks.{IsLeastVersion, Picks}
use Rattle.clr_needs.specs.Settings.{Setting, Lived, held_row, version}
use Rattle.clr_needs.specs.Witnesses.{lasts}
use Rattle.clr_needs.proofs.NeedSubjects.{subjects_once}
use Rattle.clr_needs.proofs.PickLaws.{lasting_told, least_as, told_lasting}
use Rattle.clr_foot.specs.declared.first_servers.Sought.{Sought}
use Rattle.clr_foot.specs.declared.first_servers.Sought.TheVariants.{Living, Lasting}
use Rattle.clr_row_versions.specs.declared.versions.Version.{Version}
use Rattle.clr_foot.specs.FirstServers.{IsFirstAt, IsFoundCell, IsServerSought, IsServingSought, IsToldServer, is_sought}
use Rattle.clr_foot.specs.Touches.{IsNeighbour}
use Rattle.clr_foot.specs.NewRows.{AreNewRowsFiled}
use Rattle.clr_row_versions.specs.Versions.{IsNamed, IsNamedIfAny, row_and_life, row_of, version_of}
use Rattle.clr_foot.proofs.ServerLaws.{first_row, serving_same}
use Rattle.clr_foot.proofs.SharingLaws.{may_serve_there, near_server, server_near}
use Rattle.clr_foot.proofs.VersionLists.{new_cell_found, old_cell_found}

-- ---- one version

module _ (sought : Sought) (c : Setting ℕ) (n : Need) (s : Version) (t : Option Version) where
  abbrev Is : VersionId → Type 0
  Is v = IsServerSought sought c n s t v

  abbrev IsTold : VersionId → Bool → Type 0
  IsTold v told = IsToldServer sought c n s t v told

  -- ---- one cell

  told_not : (v : VersionId) (b : Bool) → IsTold v b → b ≡ false → Is v → ⊥
  told_not v b w e = subst (IsTold v) e w

  module _ (q : CellId) (a : Bool) (old : IsTold (version_of false q) a) where
    module _ (fails : a ≡ false) (b : Bool) (new : IsTold (version_of true q) b) where
      pub none_at : b ≡ false → IsFirstAt sought c n s t q None
      none_at e false = told_not (version_of false q) a old fails
      none_at e true = told_not (version_of true q) b new e

  -- ---- cell after cell

  named_so : (v : VersionId) (fresh : Bool) (q : CellId) → q ≡ v.cell → fresh ≡ v.fresh → version_of fresh q ≡ v
  named_so v fresh q same alike = λ i. record { cell = same i; fresh = alike i }

  module _ (P : CellId → Type 0) (covers : (v : VersionId) → Is v → P v.cell) (after : Option CellId) (before : (v : VersionId) → Is v → IsBehind after v.cell)
      (next : Option CellId) (is_next : IsNextOf P after next) (cell : CellId) (is : next ≡ Some cell) where
    not_past : (v : VersionId) → Is v → is_gt (cell_cmp cell v.cell) ≡ false
    not_past v w = (subst (IsNextOf P after) is is_next).reached v.cell (covers v w) (before v w)

    pub still_behind : IsFirstAt sought c n s t cell None → (v : VersionId) → Is v → IsBehind (Some cell) v.cell
    still_behind none v w = by (cell_cmp cell v.cell) refl
      where
        by : (o : Ordering) → cell_cmp cell v.cell ≡ o → cell_cmp cell v.cell ≡ Less
        by Less e = e
        by Equal e = absurd (none v.fresh (subst Is (sym (named_so v v.fresh cell (cell_cmp_exact cell v.cell e) refl)) w))
        by Greater e = absurd (true≢false (sym (ap is_gt e) ∙ not_past v w))

    pub is_least : (v : VersionId) → IsFirstAt sought c n s t cell (Some v) → IsLeastVersion Is v
    is_least v (here, w, old_fails) = (w, λ u lesser h. by u h (cell_cmp u.cell v.cell) refl lesser)
      where
        by_fresh : (u : VersionId) → Is u → u.cell ≡ v.cell → (a b : Bool) → u.fresh ≡ a → v.fresh ≡ b → bool_cmp a b ≡ Less → ⊥
        by_fresh u h same false true old new e = old_fails new (subst Is (sym (named_so u false cell (sym here ∙ sym same) (sym old))) h)
        by_fresh u h same false false old new e = absurd (cc)
        by_fresh u h same true false old new e = absurd (cc)
        by_fresh u h same true true old new e = absurd (cc)

        by : (u : VersionId) → Is u → (o : Ordering) → cell_cmp u.cell v.cell ≡ o → ordering_then (cell_cmp u.cell v.cell) (bool_cmp u.fresh v.fresh) ≡ Less → ⊥
        by u h Less e lesser = true≢false (sym (ap is_gt (cell_cmp_total.antisymm v.cell u.cell ∙ ap ordering_reverse e))
            ∙ ap (λ q. is_gt (cell_cmp q u.cell)) here ∙ not_past u h)
        by u h Equal e lesser = by_fresh u h (cell_cmp_exact u.cell v.cell e) u.fresh v.fresh refl refl
            (sym (ap (λ o. ordering_then o (bool_cmp u.fresh v.fresh)) e) ∙ lesser)
        by u h Greater e lesser = let clash : Greater ≡ Less = sym (ap (λ o. ordering_then o (bool_cmp u.fresh v.fresh)) e) ∙ lesser in cc

-- ---- the cells of versions that serve are found

module _ (rules : List Rule) (root : Content) (sets : List Changes) (old new : Settled) (settled : IsSettledFor old rules root)
    (filed : AreNewRowsFiled new rules sets) where
  abbrev c : Setting ℕ
  c = setting rules root sets

  pub server_found : (sought : Sought) (n : Need) (s : Version) (t : Option Version) (x : RuleSpots) → n.rule < length rules
      → calls rules (ask_of n) (row_of s) (option_map row_of t) ≡ true
      → x ≡ rule_spots rules n.rule (row_of s)
      → (v : VersionId) → IsServerSought sought c n s t v → IsFoundCell old new n.rule x v.cell
  server_found sought n s t x below called spots v ((l, is, serve), looked) = subst (λ y. IsFoundCell old new n.rule y v.cell) (sym spots) (by v.fresh refl)
    where
      near : IsNeighbour true rules n.rule (row_of s) (held_row v l)
      near = near_server rules n.rule (row_of s) (held_row v l) (server_near rules (ask_of n) (row_of s) (option_map row_of t) (held_row v l) called serve).0
          (may_serve_there rules (ask_of n) (row_of s) (option_map row_of t) (held_row v l) called serve)

      by : (b : Bool) → v.fresh ≡ b → IsFoundCell old new n.rule (rule_spots rules n.rule (row_of s)) v.cell
      by false e = inl (old_cell_found rules root sets true n.rule (row_of s) below old v.cell l settled (ap (λ b. version c (version_of b v.cell)) (sym e)
          ∙ is) near)
      by true e = inr (new_cell_found rules root sets true n.rule (row_of s) below new v.cell l filed (ap (λ b. version c (version_of b v.cell)) (sym e)
          ∙ is) near)

-- ---- of a need

if_some_as : {X : Type 0} (P Q : X → Type 0) (o : Option X) → ((x : X) → P x → Q x) → IfSome o P → IfSome o Q
if_some_as P Q None may h = tt
if_some_as P Q (Some x) may h = may x h

pub of_need : (sought : Sought) (c : Setting ℕ) (n : Need) (s : Version) (t : Option Version) → IsNamed c n.first s → IsNamedIfAny c n.second t
    → IsPossibleNeed c n → (found : Option VersionId)
    → IfSome found (IsLeastVersion (IsServerSought sought c n s t)) → IfSome found (IsLeastVersion (IsServingSought sought c n))
of_need sought c n s t named named_too possible found = if_some_as (IsLeastVersion (IsServerSought sought c n s t))
    (IsLeastVersion (IsServingSought sought c n)) found
    (λ v. least_as (IsServerSought sought c n s t) (IsServingSought sought c n) v (λ v w. ((serving_same c n s t named named_too v possible).0 w.0, w.1))
    (λ v w. ((serving_same c n s t named named_too v possible).1 w.0, w.1)))

-- the least one that serves and lasts is picked
module _ (c : Setting ℕ) (n : Need) (a : Lived ℕ) (b : Option (Lived ℕ)) (p : IsPossible c n a b) where
  covers : (v : VersionId) → IsServingSought Lasting c n v → CoversAlone c n a b v
  covers v ((x, y, l, q, serve), e) =
      let once = subjects_once c n a x b y p q in
      (l, subst (λ d. Serves c n d b v l) once.0 (subst (λ e. Serves c n x e v l) once.1 serve), told_lasting c n a b p l (sym (ap (lasts c n) serve.is) ∙ e))

  covering : (v : VersionId) → CoversAlone c n a b v → IsServingSought Lasting c n v
  covering v (l, serve, last) = ((a, b, l, p, serve), ap (lasts c n) serve.is ∙ lasting_told c n a b p l last)

pub picks_least : (c : Setting ℕ) (n : Need) (v : VersionId) → IsLeastVersion (IsServingSought Lasting c n) v → Picks c n (Some (v, None))
picks_least c n v least a b p = least_as (IsServingSought Lasting c n) (CoversAlone c n a b) v (covers c n a b p) (covering c n a b p) least

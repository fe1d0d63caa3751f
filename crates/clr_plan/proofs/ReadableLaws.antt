-- The certificate of a cleared plan has good names, cells that the schema names, and parts of paths; so it is read back.
use Rattle.std.proofs.Common.{◌≡◌, ◌≤◌, ◌<◌, ℕ, suc, Bool, true, false, cond, ◌||◌, List, [], ◌∷◌, Option, Some, None}
use Rattle.std.proofs.Common.{refl, sym, subst, arith, get_or, length, map, leb}
use Rattle.std.specs.Prelude.{IfSome, MatchOption, slice_get}
use Rattle.std.specs.Cmp.Lexicographic.{bytes_decides}
use Rattle.std.specs.List.{All}
use Rattle.std.specs.Option.{option_map_or}
use Rattle.std.proofs.lemmas.Bool.{false≢true, leb-true}
use Rattle.std.proofs.lemmas.List.Elements.{Contains-get_or}
use Rattle.std.proofs.lemmas.Option.{slice_get-get_or}
use Rattle.clr_rows.specs.Held.{Held}
use Rattle.clr_rows.specs.Names.{is_good_name, live_name}
use Rattle.clr_rows.specs.Schemas.{cell_fault}
use Rattle.clr_rows.proofs.SchemaLemmas.{cell_named, fits_table, row_parts}
use Rattle.clr_rules.specs.declared.books.faults.RuleFault.TheVariants.{TooMany}
use Rattle.clr_rules.specs.declared.limits.TheConstants.{MOST_RULES}
use Rattle.clr_rules.specs.declared.rules.Rule.{Rule}
use Rattle.clr_rules.specs.declared.rules.Rule.TheVariants.{Crossing}
use Rattle.clr_rules.specs.Books.{FitsCell, book_fault, first_fault}
use Rattle.clr_rules.specs.Calls.{calls, part_count, part_count_by}
use Rattle.clr_rules.proofs.AskLemmas.{rule_there}
use Rattle.clr_rules.proofs.CallLaws.{alone_parts, first_part_there, second_part_there}
use Rattle.clr_rules.proofs.Elements.{Among, among, contained, mapped_among}
use Rattle.clr_workspaces.specs.Marks.{Name}
use Rattle.clr_workspaces.specs.Workspaces.{Workspace, workspace_at}
use Rattle.clr_needs.specs.declared.needs.Need.{Need}
use Rattle.clr_needs.specs.declared.needs.VersionId.{VersionId}
use Rattle.clr_needs.specs.Covers.{Entry as Witnesses}
use Rattle.clr_needs.specs.Needs.{IsBesideIfAny, IsPossible, ask_of, held_if_any}
use Rattle.clr_needs.specs.Picks.{IsPick}
use Rattle.clr_needs.specs.Settings.{Lived, Setting, held_row, version}
use Rattle.clr_steps.specs.Names.{is_live, same_name}
use Rattle.clr_steps.specs.Offices.{Office, find_name, is_kept, workspace}
use Rattle.clr_steps.specs.Quiet.{MergeSet}
use Rattle.clr_steps.proofs.FindLemmas.{found_name}
use Rattle.clr_clearance.specs.MergeSets.{setting_by_position}
use Rattle.clr_clearance.proofs.ClearLemmas.{faultless, has_at}
use Rattle.clr_clearance.proofs.StaticLemmas.{child_under}
use Rattle.clr_cert.specs.declared.certificates.Certificate.{Certificate}
use Rattle.clr_cert.specs.declared.certificates.Entry.{Entry}
use Rattle.clr_cert.specs.declared.limits.TheConstants.{GREATEST_PART}
use Rattle.clr_cert.specs.Texts.{IsInSchema, IsPart, IsReadBack, IsWellFormed, IsWellFormedEntry, IsWellFormedPrecedence}
use Rattle.clr_cert.proofs.CertificateAgain.{read_again}
use Rattle.clr_cert.proofs.EntryAgain.{entry_read_back}
use Rattle.clr_merge_sets.specs.Certificates.{entries_in, witnesses_of}
use Rattle.clr_merge_sets.proofs.MergeSetLemmas.{version_fits}
use Rattle.clr_plan.specs.Certificates.{IsWhole, ReadablePlanLaw}
use Rattle.clr_plan.specs.Plans.{IsClearance, IsPlan}

-- names --------------------------------------------------------------------------------------------

found_good : (name : Name) (ws : List Workspace) (w : Workspace) → ((i : ℕ) → i < length ws → is_good_name (workspace_at ws i).name ≡ true)
    → find_name name ws ≡ Some w → is_good_name w.name ≡ true
found_good name [] w good e = absurd (cc)
found_good name (v ∷ vs) w good e = by (same_name name v.name) e (found_good name vs w (λ i lt. good (suc i) (omega (arith, lt))))
  where
    by : (b : Bool) → cond b (Some v) (find_name name vs) ≡ Some w → (find_name name vs ≡ Some w → is_good_name w.name ≡ true) → is_good_name w.name ≡ true
    by true h later = let one : v ≡ w = cc in subst (λ (x : Workspace). is_good_name x.name ≡ true) one (good 0 (omega arith))
    by false h later = later h

module _ (o : Office) (whole : IsWhole o) where
  -- the name of each workspace is good
  named_good : (name : Name) (w : Workspace) → workspace o name ≡ Some w → is_good_name name ≡ true
  unfolding workspace
  named_good name w e = subst (λ (n : Name). is_good_name n ≡ true) (found_name o name w e) (by (is_live name) e)
    where
      by : (b : Bool) → cond b None (find_name name o.workspaces) ≡ Some w → is_good_name w.name ≡ true
      by true h = absurd (cc)
      by false h = found_good name o.workspaces w (λ i lt. whole.tree.rooted.good (suc i) (omega (arith, lt))) h

  -- and that of LIVE
  kept_good : (name : Name) → is_kept o name ≡ true → is_good_name name ≡ true
  unfolding is_kept is_live is_good_name
  kept_good name kept = by (is_live name) refl (workspace o name) refl kept
    where
      by : (b : Bool) → is_live name ≡ b → (r : Option Workspace) → workspace o name ≡ r → (b || option_map_or (λ (w : Workspace). w.kept) r false) ≡ true
          → is_good_name name ≡ true
      by true live r e h = subst (λ (n : Name). is_good_name n ≡ true) (sym ((bytes_decides name live_name).0 live)) refl
      by false live None e h = absurd (false≢true h)
      by false live (Some w) e h = named_good name w e

  -- cells and parts ----------------------------------------------------------------------------------

  cell_of_row : (s : Held) → FitsCell o.schema s → cell_fault o.schema s.0 ≡ None
  cell_of_row s fits = let (table, is, passed) = fits_table o.schema s.0 s.1 fits in cell_named o.schema s.0 table is passed.key

  few_asked : (r : Option Rule) (s : Held) → FitsCell o.schema s → part_count_by r s ≤ GREATEST_PART
  few_asked (Some (Crossing a b server)) s fits = let few = row_parts o.schema s.0 s.1 fits in omega (arith, few)
  few_asked _ s fits = omega arith

  is_part : (rules : List Rule) (number k part : ℕ) (s : Held) → FitsCell o.schema s → k < part_count rules number s → part ≡ suc k → IsPart part
  unfolding part_count
  is_part rules number k part s fits less is =
      let few = few_asked (slice_get rules number) s fits in
      (omega (arith, is), omega (arith, few, less, is))

  -- entries ------------------------------------------------------------------------------------------

  module _ (s : MergeSet) where
    abbrev c : Setting ℕ
    c = setting_by_position o s

    version_named : (v : VersionId) (l : Lived ℕ) → version c v ≡ Some l → IsInSchema o.schema v
    version_named v l e = cell_of_row (held_row v l) (version_fits o whole.admitted s v l e)

    second_named : (n : Need) (a : Lived ℕ) (second : Option VersionId) (b : Option (Lived ℕ)) → IsBesideIfAny c n.first a second b
        → calls c.rules (ask_of n) (held_row n.first a) (held_if_any second b) ≡ true
        → MatchOption second (n.second_part ≡ 1) (λ v. IsInSchema o.schema v × IsPart n.second_part)
    second_named n a None None beside called = (alone_parts c.rules (ask_of n) (held_row n.first a) called).1
    second_named n a None (Some l) beside called = absurd beside
    second_named n a (Some v) None beside called = absurd beside
    second_named n a (Some v) (Some l) beside called =
        let fits = version_fits o whole.admitted s v l beside.is in
        let (k, less, is) = second_part_there c.rules (ask_of n) (held_row n.first a) (held_row v l) called in
        (version_named v l beside.is, is_part c.rules n.rule k n.second_part (held_row v l) fits less is)

    module _ (e : Entry) (a : Lived ℕ) (b : Option (Lived ℕ)) (possible : IsPossible c e.need a b) where
      witnesses_named : (one : VersionId) (two : Option VersionId) → IsPick c e.need a b (Some (one, two)) → IsInSchema o.schema one
          × IfSome two (IsInSchema o.schema)
      witnesses_named one None pick = let (l, serves, lasts) = pick.0 in (version_named one l serves.is, tt)
      witnesses_named one (Some two) pick =
          let (x, both, first, old, new) = pick.1 in
          let (l, serves, life) = old.0 in
          let (m, serves_too, life_too) = new.0 in
          (version_named one l serves.is, version_named two m serves_too.is)

      pub entry_named : IsPick c e.need a b (Some (e.one, e.two)) → IsWellFormedEntry o.schema e
      entry_named pick =
          let fits = version_fits o whole.admitted s e.need.first a possible.first_is in
          let (k, less, is) = first_part_there c.rules (ask_of e.need) (held_row e.need.first a) (held_if_any e.need.second b) possible.they_call in
          let witnesses = witnesses_named e.one e.two pick in
          record {
            first = version_named e.need.first a possible.first_is;
            first_part = is_part c.rules e.need.rule k e.need.first_part (held_row e.need.first a) fits less is;
            second = second_named e.need a e.need.second b possible.second_is possible.they_call;
            one = witnesses.0;
            two = witnesses.1;
          }

      rule_number : e.need.rule < length o.book
      rule_number = rule_there c.rules (ask_of e.need) (held_row e.need.first a) (held_if_any e.need.second b) possible.they_call

    -- certificates -------------------------------------------------------------------------------------

    few_rules : length o.book ≤ MOST_RULES
    unfolding book_fault
    few_rules = leb-true (length o.book) MOST_RULES (by (leb (length o.book) MOST_RULES) whole.admitted.fit.book)
      where
        by : (b : Bool) → cond b (first_fault o.schema 0 o.book) (Some (MOST_RULES, TooMany)) ≡ None → b ≡ true
        by true h = refl
        by false h = absurd (cc)

    module _ (cert : Certificate) (h : IsClearance o s cert) where
      pub record IsNamed (e : Entry) : Type 0 where
        pub well_formed : IsWellFormedEntry o.schema e
        pub rule : e.need.rule < length o.book

      named : (e : Entry) → Among e cert.entries → IsNamed e
      named e here =
          let listed = contained (witnesses_of e) (entries_in cert.entries) (mapped_among witnesses_of e cert.entries here) in
          let need = contained e.need (map (λ (w : Witnesses). w.0) (entries_in cert.entries))
          (mapped_among (λ (w : Witnesses). w.0) (witnesses_of e) (entries_in cert.entries) (among (witnesses_of e) (entries_in cert.entries) listed)) in
          let (a, b, possible, touched) = (h.cleared.picked.needs.exactly e.need).0 need in
          record { well_formed = entry_named e a b possible (h.cleared.picked.picks (witnesses_of e) listed a b possible); rule = rule_number e a b possible }

      each_named : (k : ℕ) (d : Entry) → k < length cert.entries → IsNamed (get_or cert.entries k d)
      each_named k d less =
          named (get_or cert.entries k d) (among (get_or cert.entries k d) cert.entries (Contains-get_or cert.entries k d less))

      members_good : All (λ (name : Name). is_good_name name ≡ true) s.members
      members_good k d less =
          let faults = faultless o s h.cleared.free in
          let name = get_or s.members k d in
          let child = child_under o s name (faults.children name (has_at s.members k name (slice_get-get_or s.members k d less))) in
          named_good name child.at child.is

      pub well_formed : IsWellFormed o.schema cert
      well_formed = record {
        root = subst (λ (t : MergeSet). is_good_name t.root ≡ true) (sym h.merge_set) (kept_good s.root (faultless o s h.cleared.free).kept);
        members = subst (λ (t : MergeSet). All (λ (name : Name). is_good_name name ≡ true) t.members) (sym h.merge_set) members_good;
        before = subst (All IsWellFormedPrecedence) (sym h.without_order) (λ k d less. absurd (omega (arith, less)));
        entries = λ k d less. (each_named k d less).well_formed;
      }

      pub each_read_back : All (IsReadBack o.schema) cert.entries
      each_read_back k d less =
          let is = each_named k d less in
          let few = few_rules in
          entry_read_back o.schema (get_or cert.entries k d) whole.tables is.well_formed (omega (arith, is.rule, few))

pub readable : ReadablePlanLaw
readable o s p whole h c e =
    let cleared : IsClearance o s c = subst (IsPlan o s) e h in
    let named = well_formed o whole s c cleared in
    record { well_formed = named; read_back = read_again o.schema c named.root named.members named.before (each_read_back o whole s c cleared) }

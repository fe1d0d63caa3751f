-- The certificate of members that are covered in their order has good names, cells that the schema names, and parts of paths; so it is read back.
use Rattle.std.proofs.Common.{◌≡◌, ◌≤◌, ◌<◌, ℕ, suc, Bool, true, false, cond, ◌||◌, List, [], ◌∷◌, Option, Some, None}
use Rattle.std.proofs.Common.{Contains, refl, sym, subst, arith, get_or, length, map, leb}
use Rattle.std.specs.Prelude.{IfSome, MatchOption, slice_get}
use Rattle.std.specs.Cmp.Lexicographic.{bytes_decides}
use Rattle.std.specs.List.{All}
use Rattle.std.specs.Option.{option_map_or}
use Rattle.std.proofs.lemmas.Bool.{false≢true, leb-true}
use Rattle.std.proofs.lemmas.List.Elements.{Contains-get_or}
use Rattle.std.proofs.lemmas.Option.{slice_get-get_or}
use Rattle.clr_rows.specs.Held.{Held}
use Rattle.clr_rows.specs.Names.{is_good_name, live_name}
use Rattle.clr_rows.proofs.SchemaLemmas.{cell_named, fits_table, row_parts}
use Rattle.clr_rules.specs.declared.books.faults.RuleFault.TheVariants.{TooMany}
use Rattle.clr_rules.specs.declared.limits.TheConstants.{MOST_RULES}
use Rattle.clr_rules.specs.declared.rules.Rule.{Rule}
use Rattle.clr_rules.specs.declared.rules.Rule.TheVariants.{Crossing}
use Rattle.clr_rules.specs.Books.{FitsCell, book_fault, first_fault}
use Rattle.clr_rules.specs.Calls.{calls, part_count, part_count_by}
use Rattle.clr_rules.proofs.AskLemmas.{rule_there}
use Rattle.clr_rules.proofs.CallLaws.{alone_parts, first_part_there, second_part_there}
use Rattle.clr_rules.proofs.Elements.{among, among_mapped, contained}
use Rattle.clr_workspaces.specs.Marks.{Name}
use Rattle.clr_workspaces.specs.Workspaces.{Workspace, workspace_at}
use Rattle.clr_needs.specs.declared.needs.Need.{Need}
use Rattle.clr_needs.specs.declared.needs.VersionId.{VersionId}
use Rattle.clr_needs.specs.Needs.{IsBesideIfAny, IsServing, ask_of, held_if_any}
use Rattle.clr_needs.specs.Settings.{Lived, Setting, held_row, version}
use Rattle.clr_steps.specs.Names.{is_live, same_name}
use Rattle.clr_steps.specs.Offices.{Office, find_name, is_kept, workspace}
use Rattle.clr_steps.specs.Quiet.{MergeSet}
use Rattle.clr_steps.proofs.FindLemmas.{found_name}
use Rattle.clr_clearance.specs.MergeSets.{setting_by_position}
use Rattle.clr_clearance.specs.Verdicts.{member_fault}
use Rattle.clr_clearance.proofs.ClearLemmas.{faultless, has_at}
use Rattle.clr_clearance.proofs.StaticLemmas.{child_under}
use Rattle.clr_cert.specs.declared.certificates.Certificate.{Certificate}
use Rattle.clr_cert.specs.declared.certificates.Entry.{Entry}
use Rattle.clr_cert.specs.declared.limits.TheConstants.{GREATEST_PART}
use Rattle.clr_cert.specs.Texts.{IsInSchema, IsPart, IsReadBack, IsWellFormed, IsWellFormedEntry, IsWellFormedPrecedence}
use Rattle.clr_cert.proofs.CertificateAgain.{read_again}
use Rattle.clr_cert.proofs.EntryAgain.{entry_read_back}
use Rattle.clr_merge_sets.specs.Certificates.{merge_set_of}
use Rattle.clr_merge_sets.specs.declared.plans.Plan.{Plan}
use Rattle.clr_merge_sets.specs.declared.plans.Plan.TheVariants as plan
use Rattle.clr_merge_sets.proofs.MergeSetLemmas.{version_fits}
use Rattle.clr_plan.specs.Certificates.{IsReadable, IsReadableWhereCleared, IsWhole}
use Rattle.clr_order_answers.specs.declared.pairs.Pair.{Pair}
use Rattle.clr_listed_covers.specs.declared.listed_covers.ListedCover.{ListedCover}
use Rattle.clr_listed_covers.specs.declared.listed_covers.ListedCover.TheVariants as listed
use Rattle.clr_listed_covers.specs.Entries.{AreServing}
use Rattle.clr_listed_covers.specs.ListedCovers.{IsListedCover, StandsAsListed}
use Rattle.clr_ordered_plans.specs.Listed.{IsPlanOfListed, precedence_of}
use Rattle.clr_ordered_plans.specs.Plans.{IsListedPlan, IsOfListed}
use Rattle.clr_ordered_plans.proofs.ListedNames.{named}

-- names --------------------------------------------------------------------------------------------

found_good : (name : Name) (ws : List Workspace) (w : Workspace) → ((i : ℕ) → i < length ws → is_good_name (workspace_at ws i).name ≡ true)
    → find_name name ws ≡ Some w → is_good_name w.name ≡ true
found_good name [] w good e = absurd (cc)
found_good name (v ∷ vs) w good e = by (same_name name v.name) e (found_good name vs w (λ i lt. good (suc i) (omega (arith, lt))))
  where
    by : (b : Bool) → cond b (Some v) (find_name name vs) ≡ Some w → (find_name name vs ≡ Some w → is_good_name w.name ≡ true) → is_good_name w.name ≡ true
    by true h later = let one : v ≡ w = cc in subst (λ (x : Workspace). is_good_name x.name ≡ true) one (good 0 (omega arith))
    by false h later = later h

module _ (o : Office) (whole : IsWhole o) where
  -- the name of each workspace is good
  named_good : (name : Name) (w : Workspace) → workspace o name ≡ Some w → is_good_name name ≡ true
  unfolding workspace
  named_good name w e = subst (λ (n : Name). is_good_name n ≡ true) (found_name o name w e) (by (is_live name) e)
    where
      by : (b : Bool) → cond b None (find_name name o.workspaces) ≡ Some w → is_good_name w.name ≡ true
      by true h = absurd (cc)
      by false h = found_good name o.workspaces w (λ i lt. whole.tree.rooted.good (suc i) (omega (arith, lt))) h

  -- and that of LIVE
  kept_good : (name : Name) → is_kept o name ≡ true → is_good_name name ≡ true
  unfolding is_kept is_live is_good_name
  kept_good name kept = by (is_live name) refl (workspace o name) refl kept
    where
      by : (b : Bool) → is_live name ≡ b → (r : Option Workspace) → workspace o name ≡ r → (b || option_map_or (λ (w : Workspace). w.kept) r false) ≡ true
          → is_good_name name ≡ true
      by true live r e h = subst (λ (n : Name). is_good_name n ≡ true) (sym ((bytes_decides name live_name).0 live)) refl
      by false live None e h = absurd (false≢true h)
      by false live (Some w) e h = named_good name w e

  -- cells and parts ----------------------------------------------------------------------------------

  few_asked : (r : Option Rule) (s : Held) → FitsCell o.schema s → part_count_by r s ≤ GREATEST_PART
  few_asked (Some (Crossing a b server)) s fits = let few = row_parts o.schema s.0 s.1 fits in omega (arith, few)
  few_asked _ s fits = omega arith

  is_part : (rules : List Rule) (number k part : ℕ) (s : Held) → FitsCell o.schema s → k < part_count rules number s → part ≡ suc k → IsPart part
  unfolding part_count
  is_part rules number k part s fits less is =
      let few = few_asked (slice_get rules number) s fits in
      (omega (arith, is), omega (arith, few, less, is))

  -- entries ------------------------------------------------------------------------------------------

  module _ (s : MergeSet) where
    abbrev c : Setting ℕ
    c = setting_by_position o s

    version_named : (v : VersionId) (l : Lived ℕ) → version c v ≡ Some l → IsInSchema o.schema v
    version_named v l e =
        let fits = version_fits o whole.admitted s v l e in
        let (table, is, passed) = fits_table o.schema v.cell l.row fits in
        cell_named o.schema v.cell table is passed.key

    second_named : (n : Need) (a : Lived ℕ) (second : Option VersionId) (b : Option (Lived ℕ)) → IsBesideIfAny c n.first a second b
        → calls c.rules (ask_of n) (held_row n.first a) (held_if_any second b) ≡ true
        → MatchOption second (n.second_part ≡ 1) (λ v. IsInSchema o.schema v × IsPart n.second_part)
    second_named n a None None beside called = (alone_parts c.rules (ask_of n) (held_row n.first a) called).1
    second_named n a None (Some l) beside called = absurd beside
    second_named n a (Some v) None beside called = absurd beside
    second_named n a (Some v) (Some l) beside called =
        let fits = version_fits o whole.admitted s v l beside.is in
        let (k, less, is) = second_part_there c.rules (ask_of n) (held_row n.first a) (held_row v l) called in
        (version_named v l beside.is, is_part c.rules n.rule k n.second_part (held_row v l) fits less is)

    serving_named : (n : Need) (v : VersionId) → IsServing c n v → IsInSchema o.schema v
    serving_named n v (a, b, l, possible, serve) = version_named v l serve.is

    two_named : (n : Need) (w : Option VersionId) → IfSome w (IsServing c n) → IfSome w (IsInSchema o.schema)
    two_named n None h = tt
    two_named n (Some v) h = serving_named n v h

    pub record IsNamed (e : Entry) : Type 0 where
      pub well_formed : IsWellFormedEntry o.schema e
      pub rule : e.need.rule < length o.book

    entry_named : (e : Entry) → AreServing c e → IsNamed e
    entry_named e serving =
        let (a, b, l, possible, serve) = serving.0 in
        let fits = version_fits o whole.admitted s e.need.first a possible.first_is in
        let (k, less, is) = first_part_there c.rules (ask_of e.need) (held_row e.need.first a) (held_if_any e.need.second b) possible.they_call in
        record {
          well_formed = record {
            first = version_named e.need.first a possible.first_is;
            first_part = is_part c.rules e.need.rule k e.need.first_part (held_row e.need.first a) fits less is;
            second = second_named e.need a e.need.second b possible.second_is possible.they_call;
            one = version_named e.one l serve.is;
            two = two_named e.need e.two serving.1;
          };
          rule = rule_there c.rules (ask_of e.need) (held_row e.need.first a) (held_if_any e.need.second b) possible.they_call;
        }

    -- certificates -------------------------------------------------------------------------------------

    few_rules : length o.book ≤ MOST_RULES
    unfolding book_fault
    few_rules = leb-true (length o.book) MOST_RULES (by (leb (length o.book) MOST_RULES) whole.admitted.fit.book)
      where
        by : (b : Bool) → cond b (first_fault o.schema 0 o.book) (Some (MOST_RULES, TooMany)) ≡ None → b ≡ true
        by true h = refl
        by false h = absurd (cc)

    module _ (free : member_fault o s ≡ None) where
      member_good : (k : ℕ) (name : Name) → slice_get s.members k ≡ Some name → is_good_name name ≡ true
      member_good k name e =
          let child = child_under o s name ((faultless o s free).children name (has_at s.members k name e)) in
          named_good name child.at child.is

      pair_good : (p : Pair) → StandsAsListed c p → IsWellFormedPrecedence (precedence_of s.members p)
      pair_good p stands = record {
        earlier = member_good p.earlier _ (named o s p.earlier stands.earlier);
        later = member_good p.later _ (named o s p.later stands.later);
      }

      module _ (cert : Certificate) (pairs : List Pair) (same : merge_set_of cert ≡ s) (before : cert.before ≡ map (precedence_of s.members) pairs)
          (stand : (p : Pair) → Contains pairs p → StandsAsListed c p) (serving : (e : Entry) → Contains cert.entries e → AreServing c e) where
        each_named : (k : ℕ) (d : Entry) → k < length cert.entries → IsNamed (get_or cert.entries k d)
        each_named k d less = entry_named (get_or cert.entries k d) (serving (get_or cert.entries k d) (Contains-get_or cert.entries k d less))

        before_good : All IsWellFormedPrecedence (map (precedence_of s.members) pairs)
        before_good k d less =
            let list = map (precedence_of s.members) pairs in
            let one = get_or list k d in
            let (p, there, is) = among_mapped (precedence_of s.members) one pairs (among one list (Contains-get_or list k d less)) in
            subst IsWellFormedPrecedence is (pair_good p (stand p (contained p pairs there)))

        well_formed : IsWellFormed o.schema cert
        well_formed = record {
          root = subst (λ (t : MergeSet). is_good_name t.root ≡ true) (sym same) (kept_good s.root (faultless o s free).kept);
          members = subst (λ (t : MergeSet). All (λ (name : Name). is_good_name name ≡ true) t.members) (sym same)
              (λ k d less. member_good k (get_or s.members k d) (slice_get-get_or s.members k d less));
          before = subst (All IsWellFormedPrecedence) (sym before) before_good;
          entries = λ k d less. (each_named k d less).well_formed;
        }

        each_read_back : All (IsReadBack o.schema) cert.entries
        each_read_back k d less =
            let is = each_named k d less in
            let few = few_rules in
            entry_read_back o.schema (get_or cert.entries k d) whole.tables is.well_formed (omega (arith, is.rule, few))

        pub readable_certificate : IsReadable o cert
        readable_certificate = record {
          well_formed = well_formed;
          read_back = read_again o.schema cert well_formed.root well_formed.members well_formed.before each_read_back;
        }

of_cover : (o : Office) (s : MergeSet) → IsWhole o → member_fault o s ≡ None → (cover : ListedCover) → IsListedCover (setting_by_position o s) cover
    → (cert : Certificate) → IsPlanOfListed s cover (plan.Cleared cert) → IsReadable o cert
of_cover o s whole free (listed.Covered pairs entries) told cert (same, before, are) =
    readable_certificate o whole s free cert pairs.items same before told.listed
    (λ e h. told.under.serving e (subst (λ (es : List Entry). Contains es e) are h))
of_cover o s whole free (listed.Broken need count) told cert h = absurd h

pub readable_in_order : (o : Office) (s : MergeSet) (p : Plan) → IsWhole o → IsListedPlan o s p → IsReadableWhereCleared o p
readable_in_order o s p whole h c e =
    let of : IsOfListed o s (plan.Cleared c) = subst (IsListedPlan o s) e h in
    of_cover o s whole of.free of.cover of.told c of.is_plan

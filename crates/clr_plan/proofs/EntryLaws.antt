-- Entries of touched needs, one need after another.
use Rattle.std.proofs.Common.{◌≡◌, ◌∙◌, ◌<◌, ◌≤◌, ◌+◌, ℕ, List, [], ◌∷◌, ◌++◌, ◌⊎◌, inl, inr, Option, Some, None, Contains, get_or, length, map, take, refl}
use Rattle.std.proofs.Common.{sym, ap, subst}
use Rattle.std.specs.declared.cmp.Ordering.TheVariants.{Less}
use Rattle.std.proofs.lemmas.List.{map-append, take_all, take_more}
use Rattle.std.proofs.lemmas.List.Elements.{Contains-append_cases}
use Rattle.clr_rules.proofs.Elements.{among, among_mapped, contained, not_both, not_itself}
use Rattle.clr_cert.specs.declared.certificates.Entry.{Entry}
use Rattle.clr_needs.specs.declared.needs.Need.{Need}
use Rattle.clr_needs.specs.declared.needs.VersionId.{VersionId}
use Rattle.clr_needs.specs.Covers.{Entry as Witnesses}
use Rattle.clr_needs.specs.Needs.{AreTouchedNeeds}
use Rattle.clr_needs.specs.Orders.{need_cmp}
use Rattle.clr_needs.specs.Picks.{Picks}
use Rattle.clr_needs.specs.Settings.{Setting}
use Rattle.clr_needs.proofs.Reading.{read_in}
use Rattle.clr_needs.proofs.Placing.{PlaceOf, after, before, here, place_of}
use Rattle.clr_clearance.specs.Plans.{ArePicked, IsFirstUnpicked}
use Rattle.clr_needs.proofs.NeedOrder.{need_total}
use Rattle.clr_merge_sets.specs.Certificates.{entries_in, witnesses_of}

module _ (c : Setting ℕ) where
  abbrev pub need_of : Entry → Need
  need_of e = e.need

  -- entries of some needs, each with the witnesses picked for its need
  pub record AreEntriesOf (needs : List Need) (list : List Entry) : Type 0 where
    pub needs_are : map need_of list ≡ needs
    pub picks : (e : Entry) → Contains list e → Picks c e.need (Some (e.one, e.two))

  pub no_entries : (needs : List Need) (list : List Entry) → list ≡ [] → AreEntriesOf (take 0 needs) list
  no_entries needs list none = record { needs_are = ap (map need_of) none; picks = λ e h. absurd (among e [] (subst (λ es. Contains es e) none h)) }

  module _ (needs : List Need) (k : ℕ) (d : Need) (less : k < length needs) where
    pub one_entry : (old new : List Entry) (e : Entry) → new ≡ old ++ e ∷ [] → e.need ≡ get_or needs k d → Picks c (get_or needs k d) (Some (e.one, e.two))
        → AreEntriesOf (take k needs) old
        → AreEntriesOf (take (k + 1) needs) new
    one_entry old new e is named picks so_far = record {
      needs_are = ap (map need_of) is ∙ map-append need_of old (e ∷ []) ∙ (λ i. so_far.needs_are i ++ named i ∷ []) ∙ sym (take_more needs k d less);
      picks = λ f h. by f (Contains-append_cases old (e ∷ []) f (subst (λ es. Contains es f) is h));
    }
      where
        last : (f : Entry) → (e ≡ f) ⊎ ⊥ → Picks c f.need (Some (f.one, f.two))
        last f (inl same) = subst (λ (x : Entry). Picks c x.need (Some (x.one, x.two))) same (subst (λ n. Picks c n (Some (e.one, e.two))) (sym named) picks)
        last f (inr none) = absurd none

        by : (f : Entry) → Contains old f ⊎ Contains (e ∷ []) f → Picks c f.need (Some (f.one, f.two))
        by f (inl h) = so_far.picks f h
        by f (inr h) = last f (among f (e ∷ []) h)

    -- an earlier need has witnesses
    has_pick : (list : List Entry) (m : Need) → AreEntriesOf (take k needs) list → Contains (take k needs) m → (p : VersionId × Option VersionId)
        × Picks c m (Some p)
    has_pick list m so_far h =
        let (e, there, same) = among_mapped need_of m list (among m (map need_of list) (subst (λ ns. Contains ns m) (sym so_far.needs_are) h)) in
        ((e.one, e.two), subst (λ n. Picks c n (Some (e.one, e.two))) same (so_far.picks e (contained e list there)))

    pub first_unpicked : (list : List Entry) → AreTouchedNeeds c needs → AreEntriesOf (take k needs) list → Picks c (get_or needs k d) None
        → IsFirstUnpicked c (get_or needs k d)
    first_unpicked list touched so_far none = record {
      touched = (touched.exactly (get_or needs k d)).0 (read_in needs k d less);
      none = none;
      first = λ m lesser is. by m lesser (place_of need_cmp needs k (get_or needs k d) d m less refl touched.ascending ((touched.exactly m).1 is));
    }
      where
        by : (m : Need) → need_cmp m (get_or needs k d) ≡ Less → PlaceOf need_cmp needs m k (get_or needs k d) → (p : VersionId × Option VersionId)
            × Picks c m (Some p)
        by m lesser (before h) = has_pick list m so_far h
        by m lesser (here e) = absurd (not_itself need_total m (subst (λ n. need_cmp m n ≡ Less) e lesser))
        by m lesser (after e) = absurd (not_both need_total m (get_or needs k d) lesser e)

  -- ---- entries of all of them

  entries_needs : (list : List Entry) → map (λ (e : Witnesses). e.0) (entries_in list) ≡ map need_of list
  entries_needs [] = refl
  entries_needs (e ∷ es) = ap (λ ns. e.need ∷ ns) (entries_needs es)

  pub all_entries : (needs : List Need) (k : ℕ) (list : List Entry) → length needs ≤ k → AreTouchedNeeds c needs → AreEntriesOf (take k needs) list
      → ArePicked c (entries_in list)
  all_entries needs k list past touched so_far = record {
    needs = subst (AreTouchedNeeds c) (sym (entries_needs list ∙ so_far.needs_are ∙ take_all k needs past)) touched;
    picks = λ claim h. (let (e, there, same) = among_mapped witnesses_of claim list (among claim (entries_in list) h) in
        subst (λ (x : Witnesses). Picks c x.0 (Some (x.1, x.2))) same (so_far.picks e (contained e list there)));
  }

-- Entries of touched needs, one need after another.
use Rattle.std.proofs.Common.{◌≡◌, ◌∙◌, ◌<◌, ◌≤◌, ◌+◌, ◌⊎◌, ℕ, List, [], ◌∷◌, ◌++◌, Option, Some, None, inl, inr, Contains, get_or, length, take}
use Rattle.std.proofs.Common.{refl, sym, subst}
use Rattle.std.proofs.lemmas.List.{map-append}
use Rattle.std.proofs.lemmas.List.Elements.{Contains-append_cases}
use Rattle.clr_rules.proofs.Elements.{among}
use Rattle.clr_cert.specs.declared.certificates.Entry.{Entry}
use Rattle.clr_needs.specs.declared.needs.Need.{Need}
use Rattle.clr_needs.specs.declared.needs.VersionId.{VersionId}
use Rattle.clr_needs.specs.Covers.{Entry as Witnesses, IsBlocker}
use Rattle.clr_needs.specs.Needs.{AreTouchedNeeds, IsPossible, IsPossibleNeed, IsTouched}
use Rattle.clr_needs.specs.Picks.{Picks}
use Rattle.clr_needs.specs.Settings.{Setting, Lived}
use Rattle.clr_needs.proofs.NeedSubjects.{subjects_once}
use Rattle.clr_needs.proofs.Reading.{all_taken, alone, none_taken, one_more}
use Rattle.clr_ordered_needs.specs.Covers.{EachHasCover, HasEntry, SubjectsNeverMeet, WitnessesCover}
use Rattle.clr_ordered_needs.specs.Turns.{Order}
use Rattle.clr_order_answers.specs.declared.pairs.Pair.{Pair}
use Rattle.clr_scene_orders.specs.SceneOrders.{order_by}
use Rattle.clr_listed_covers.specs.declared.covers.Cover.TheVariants as cover
use Rattle.clr_listed_covers.specs.Covers.{IsCoverByPairs, Keeps}
use Rattle.clr_listed_covers.specs.Entries.{AreEntriesUnder, AreServing, IsEntryUnder, IsHelpedBy, witnesses_in, witnesses_of}
use Rattle.clr_listed_covers.proofs.Picked.{helped_by, pick_covers, pick_serves}

-- where a pair serves a need, it isn't said that none does
pub not_none : (c : Setting ℕ) (n : Need) (pairs : List Pair) → IsHelpedBy c pairs n → IsCoverByPairs c n pairs None → ⊥
not_none c n pairs (p, there, (a, b, possible, helps), (d, e, possible_too, blocks)) none =
    let once = subjects_once c n a d b e possible possible_too in
    none p there a b possible helps (subst (λ l. IsBlocker c n l b p.later) once.0 (subst (λ m. IsBlocker c n d m p.later) once.1 blocks))

-- what pairs give is an entry
pub entry_by : (c : Setting ℕ) (n : Need) (pairs : List Pair) (v : VersionId) (w : Option VersionId)
    → IsCoverByPairs c n pairs (Some (cover.Witnesses v w)) → IsEntryUnder c pairs n (Some (record { need = n; one = v; two = w }))
entry_by c n pairs v w (covers, serve) = record { need = refl; covers = covers; serving = serve }

-- and so is what is picked
pub picked_entry : (c : Setting ℕ) (n : Need) (pairs : List Pair) → IsTouched c n → (v : VersionId) (w : Option VersionId) → Picks c n (Some (v, w))
    → IsEntryUnder c pairs n (Some (record { need = n; one = v; two = w }))
picked_entry c n pairs (x, y, possible, touched) v w picks = record {
  need = refl;
  covers = λ before keeps a b p. pick_covers before c n a b v w (picks a b p);
  serving = pick_serves c n x y possible v w (picks x y possible);
}

-- where nothing is picked, a pair serves
pub pair_for : (c : Setting ℕ) (n : Need) (pairs : List Pair) → IsTouched c n → EachHasCover (order_by pairs) c → Picks c n None → IsHelpedBy c pairs n
pair_for c n pairs (a, b, possible, touched) each none = helped_by c n a b possible touched (none a b possible) pairs each

pub touched_possible : (c : Setting ℕ) (n : Need) → IsTouched c n → IsPossibleNeed c n
touched_possible c n (a, b, possible, touched) = (a, b, possible)

module _ (before : Order ℕ) (c : Setting ℕ) (n : Need) (a : Lived ℕ) (b : Option (Lived ℕ)) where
  entry_left : (es fs : List Witnesses) → HasEntry before c n a b es → HasEntry before c n a b (es ++ fs)
  entry_left [] fs h = absurd h
  entry_left (e ∷ es) fs (inl h) = inl h
  entry_left (e ∷ es) fs (inr h) = inr (entry_left es fs h)

  entry_last : (es : List Witnesses) (e : Witnesses) → e.0 ≡ n → WitnessesCover before c n a b e.1 e.2 → HasEntry before c n a b (es ++ e ∷ [])
  entry_last [] e is covers = inl (is, covers)
  entry_last (f ∷ es) e is covers = inr (entry_last es e is covers)

module _ (c : Setting ℕ) (pairs : List Pair) where
  -- the need has an entry, or its subjects never stand together
  abbrev IsSettled : List Entry → Need → Type 0
  IsSettled list n = (before : Order ℕ) → Keeps before pairs → (a : Lived ℕ) (b : Option (Lived ℕ)) → IsPossible c n a b
      → SubjectsNeverMeet before a b ⊎ HasEntry before c n a b (witnesses_in list)

  -- entries of the first needs
  pub record AreEntriesTo (needs : List Need) (k : ℕ) (list : List Entry) : Type 0 where
    pub settled : (n : Need) → Contains (take k needs) n → IsSettled list n
    pub serving : (e : Entry) → Contains list e → AreServing c e

  pub no_entries_yet : (needs : List Need) (list : List Entry) → list ≡ [] → AreEntriesTo needs 0 list
  no_entries_yet needs list none = record {
    settled = λ n h. absurd (none_taken needs n h);
    serving = λ e h. absurd (among e [] (subst (λ es. Contains es e) none h));
  }

  module _ (needs : List Need) (k : ℕ) (d : Need) (less : k < length needs) (old : List Entry) (so_far : AreEntriesTo needs k old) where
    pub none_more : (new : List Entry) → new ≡ old → IsEntryUnder c pairs (get_or needs k d) None → AreEntriesTo needs (k + 1) new
    none_more new is never = subst (AreEntriesTo needs (k + 1)) (sym is) (record {
      settled = λ n h. by n (one_more needs k d n less h);
      serving = so_far.serving;
    })
      where
        by : (n : Need) → Contains (take k needs) n ⊎ (n ≡ get_or needs k d) → IsSettled old n
        by n (inl earlier) before keeps a b possible = so_far.settled n earlier before keeps a b possible
        by n (inr same) before keeps a b possible = inl (never before keeps a b (subst (λ m. IsPossible c m a b) same possible))

    pub one_entry_more : (new : List Entry) (e : Entry) → new ≡ old ++ e ∷ [] → IsEntryUnder c pairs (get_or needs k d) (Some e)
        → AreEntriesTo needs (k + 1) new
    one_entry_more new e is entry = subst (AreEntriesTo needs (k + 1)) (sym is) (record {
      settled = λ n h. by n (one_more needs k d n less h);
      serving = λ f h. serves f (Contains-append_cases old (e ∷ []) f h);
    })
      where
        serves : (f : Entry) → Contains old f ⊎ Contains (e ∷ []) f → AreServing c f
        serves f (inl h) = so_far.serving f h
        serves f (inr h) = subst (AreServing c) (sym (alone e f h)) entry.serving

        joined : witnesses_in (old ++ e ∷ []) ≡ witnesses_in old ++ witnesses_of e ∷ []
        joined = map-append witnesses_of old (e ∷ [])

        by : (n : Need) → Contains (take k needs) n ⊎ (n ≡ get_or needs k d) → IsSettled (old ++ e ∷ []) n
        by n (inl earlier) before keeps a b possible = elim (so_far.settled n earlier before keeps a b possible) [
          | inl never ↦ inl never
          | inr h ↦ inr (subst (HasEntry before c n a b) (sym joined) (entry_left before c n a b (witnesses_in old) (witnesses_of e ∷ []) h))
        ]
        by n (inr same) before keeps a b possible =
            let covers = entry.covers before keeps a b (subst (λ m. IsPossible c m a b) same possible) in
            inr (subst (HasEntry before c n a b) (sym joined) (entry_last before c n a b (witnesses_in old) (witnesses_of e) (entry.need ∙ sym same)
            (subst (λ m. WitnessesCover before c m a b e.one e.two) (sym same) covers)))

  pub all_entries : (needs : List Need) (k : ℕ) (list : List Entry) → length needs ≤ k → AreTouchedNeeds c needs → AreEntriesTo needs k list
      → AreEntriesUnder c pairs list
  all_entries needs k list past touched so_far = record {
    covered = λ before keeps n a b possible by. so_far.settled n (all_taken needs k n past ((touched.exactly n).1 (a, b, possible, by))) before keeps a b
        possible;
    serving = so_far.serving;
  }

pub read_touched : (c : Setting ℕ) (n : Need) (needs : List Need) → AreTouchedNeeds c needs → Contains needs n → IsTouched c n
read_touched c n needs touched h = (touched.exactly n).0 h

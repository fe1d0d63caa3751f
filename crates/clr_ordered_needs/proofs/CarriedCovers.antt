-- Entries that cover a setting under an order, carried over to a later one, in which some members are merged and some are gone.
use Rattle.std.proofs.Common.{◌≡◌, ◌∙◌, ◌⊎◌, true, List, [], ◌∷◌, inl, inr, refl, sym, ap, subst, map, Option, Some, None}
use Rattle.std.specs.Option.{option_map}
use Rattle.clr_needs.specs.declared.needs.Need.{Need}
use Rattle.clr_needs.specs.declared.needs.VersionId.{VersionId}
use Rattle.clr_needs.specs.Covers.{Entry, IsLifeOf}
use Rattle.clr_needs.specs.Independence.{NamesIfAny}
use Rattle.clr_needs.specs.Needs.{Serves}
use Rattle.clr_needs.specs.Settings.{Setting, Lifetime, Always, With, Without, Lived, has}
use Rattle.clr_ordered_needs.specs.Covers.{AreCovered, CoversAlone, HasEntry, Lasts, LastsWhile, LastsWhileIfAny, NeverBothLive, OneAlwaysLives}
use Rattle.clr_ordered_needs.specs.Covers.{SubjectsNeverMeet, WitnessesCover}
use Rattle.clr_ordered_needs.specs.Laws.{CoversLast}
use Rattle.clr_ordered_needs.specs.Later.{Fate, Gone, IsLater, IsLaterInTurn, Merged, Stays}
use Rattle.clr_ordered_needs.specs.Turns.{Order, IsUpTo}
use Rattle.clr_ordered_needs.proofs.CarriedNeeds.{OldNeed, goes, goes_with, goes_without, old_need, on, on_entry, on_need}
use Rattle.clr_ordered_needs.proofs.CarriedNeeds.{serves_on, was_touched, with_life}
use Rattle.clr_ordered_needs.proofs.TurnLives.{NamesMembers, first_named, second_named, server_named}

module _ {A B : Type 0} (before : Order A) (c : Setting A) (now_before : Order B) (next : Setting B) (fate : A → Fate B) where
  abbrev goes_on_as : Lifetime A → Option (Lifetime B)
  goes_on_as l = goes c next fate l

  -- what becomes of a member that is another, or goes before it
  data GoUpTo (n p : Fate B) : Type 0 where
    merged : n ≡ Merged → GoUpTo n p
    gone : p ≡ Gone → GoUpTo n p
    both : (y w : B) → n ≡ Stays y → p ≡ Stays w → IsUpTo now_before y w → GoUpTo n p

  module _ (turns : IsLaterInTurn before c now_before fate) where
    go_up_to : (n p : A) → has c.same c.members n ≡ true → IsUpTo before n p → GoUpTo (fate n) (fate p)
    go_up_to n p member (inl same) = by (fate n) refl
      where
        by : (f : Fate B) → fate n ≡ f → GoUpTo (fate n) (fate p)
        by Merged e = merged e
        by Gone e = gone (ap fate (sym same) ∙ e)
        by (Stays y) e = both y y e (ap fate (sym same) ∙ e) (inl refl)
    go_up_to n p member (inr goes) = by (fate n) refl (fate p) refl
      where
        by : (f : Fate B) → fate n ≡ f → (g : Fate B) → fate p ≡ g → GoUpTo (fate n) (fate p)
        by Merged e g k = merged e
        by Gone e g k = gone (turns.gone_first n p member goes e)
        by (Stays y) e Merged k = merged (turns.merged_first n p member goes k)
        by (Stays y) e Gone k = gone k
        by (Stays y) e (Stays w) k = both y w e k (inr (turns.goes_first n p y w goes e k))

    -- of two lives of which one always went on, one lasts, or one of both always goes on
    abbrev OneGoesOn : Lifetime A → Lifetime A → Type 0
    OneGoesOn l m = (k : Lifetime B) × (j : Lifetime B) × (goes_on_as l ≡ Some k) × (goes_on_as m ≡ Some j) × OneAlwaysLives now_before k j

    one_by : (n p : A) → has c.same c.members n ≡ true → IsUpTo before n p → (goes_with c next fate (fate n) ≡ Some Always)
        ⊎ ((goes_without c next fate (fate p) ≡ Some Always) ⊎ ((y : B) × (w : B) × (fate n ≡ Stays y) × (fate p ≡ Stays w) × IsUpTo now_before y w))
    one_by n p member up = by (go_up_to n p member up)
      where
        by : GoUpTo (fate n) (fate p) → (goes_with c next fate (fate n) ≡ Some Always)
            ⊎ ((goes_without c next fate (fate p) ≡ Some Always) ⊎ ((y : B) × (w : B) × (fate n ≡ Stays y) × (fate p ≡ Stays w) × IsUpTo now_before y w))
        by (merged e) = inl (ap (goes_with c next fate) e)
        by (gone e) = inr (inl (ap (goes_without c next fate) e))
        by (both y w e f h) = inr (inr (y, w, e, f, h))

    one_goes : (l m : Lifetime A) → NamesMembers c l → NamesMembers c m → OneAlwaysLives before l m → (goes_on_as l ≡ Some Always)
        ⊎ ((goes_on_as m ≡ Some Always) ⊎ OneGoesOn l m)
    one_goes (With n) (Without p) named named_too up = elim (one_by n p (named n refl) up) [
      | inl g ↦ inl g
      | inr (inl g) ↦ inr (inl g)
      | inr (inr (y, w, e, f, h)) ↦ inr (inr (With y, Without w, ap (goes_with c next fate) e, ap (goes_without c next fate) f, h))
    ]
    one_goes (Without p) (With n) named named_too up = elim (one_by n p (named_too n refl) up) [
      | inl g ↦ inr (inl g)
      | inr (inl g) ↦ inl g
      | inr (inr (y, w, e, f, h)) ↦ inr (inr (Without w, With y, ap (goes_without c next fate) f, ap (goes_with c next fate) e, h))
    ]
    one_goes _ _ named named_too up = absurd up

    -- lives that never went on both never do, where each goes on
    never_by : (n p : A) (k j : Lifetime B) → has c.same c.members n ≡ true → IsUpTo before n p → goes_with c next fate (fate p) ≡ Some k
        → goes_without c next fate (fate n) ≡ Some j → NeverBothLive now_before k j
    never_by n p k j member up g h = by (go_up_to n p member up)
      where
        by : GoUpTo (fate n) (fate p) → NeverBothLive now_before k j
        by (merged e) = let one : None ≡ Some j = sym (ap (goes_without c next fate) e) ∙ h in absurd (cc)
        by (gone e) = let one : None ≡ Some k = sym (ap (goes_with c next fate) e) ∙ g in absurd (cc)
        by (both y w e f up_now) =
            let one : Some (With w) ≡ Some k = sym (ap (goes_with c next fate) f) ∙ g in
            let two : Some (Without y) ≡ Some j = sym (ap (goes_without c next fate) e) ∙ h in
            let with : With w ≡ k = cc in
            let without : Without y ≡ j = cc in
            subst (λ l. NeverBothLive now_before l j) with (subst (NeverBothLive now_before (With w)) without up_now)

    turned : (k j : Lifetime B) → NeverBothLive now_before k j → NeverBothLive now_before j k
    turned (With p) (Without n) h = h
    turned (Without n) (With p) h = h
    turned _ _ h = absurd h

    still_never : (l m : Lifetime A) (k j : Lifetime B) → goes_on_as l ≡ Some k → goes_on_as m ≡ Some j → NamesMembers c l → NamesMembers c m
        → NeverBothLive before l m → NeverBothLive now_before k j
    still_never (With p) (Without n) k j g h named named_too up = never_by n p k j (named_too n refl) up g h
    still_never (Without n) (With p) k j g h named named_too up = turned j k (never_by n p j k (named n refl) up h g)
    still_never _ _ k j g h named named_too up = absurd up

    -- what lasts while a life goes on that still does lasts while it does
    still_lasts : (l k : Lifetime A) (j : Lifetime B) → goes_on_as k ≡ Some j → NamesMembers c l → NamesMembers c k → LastsWhile before l k
        → (i : Lifetime B) × (goes_on_as l ≡ Some i) × LastsWhile now_before i j
    still_lasts Always k j g named named_too up = (Always, refl, tt)
    still_lasts (With n) (With p) j g named named_too up = by (go_up_to n p (named n refl) up)
      where
        by : GoUpTo (fate n) (fate p) → (i : Lifetime B) × (goes_with c next fate (fate n) ≡ Some i) × LastsWhile now_before i j
        by (merged e) = (Always, ap (goes_with c next fate) e, tt)
        by (gone e) = let one : None ≡ Some j = sym (ap (goes_with c next fate) e) ∙ g in absurd (cc)
        by (both y w e f up_now) =
            let one : Some (With w) ≡ Some j = sym (ap (goes_with c next fate) f) ∙ g in
            let with : With w ≡ j = cc in
            (With y, ap (goes_with c next fate) e, subst (LastsWhile now_before (With y)) with up_now)
    still_lasts (Without p) (Without n) j g named named_too up = by (go_up_to n p (named_too n refl) up)
      where
        by : GoUpTo (fate n) (fate p) → (i : Lifetime B) × (goes_without c next fate (fate p) ≡ Some i) × LastsWhile now_before i j
        by (merged e) = let one : None ≡ Some j = sym (ap (goes_without c next fate) e) ∙ g in absurd (cc)
        by (gone e) = (Always, ap (goes_without c next fate) e, tt)
        by (both y w e f up_now) =
            let one : Some (Without y) ≡ Some j = sym (ap (goes_without c next fate) e) ∙ g in
            let without : Without y ≡ j = cc in
            (Without w, ap (goes_without c next fate) f, subst (LastsWhile now_before (Without w)) without up_now)
    still_lasts _ _ j g named named_too up = absurd up

    module _ (later : IsLater c next fate) where
      -- what covered a need covers it, under its new name ------------------------------------------------------

      module _ (n : Need) (d : Lived B) (e : Option (Lived B)) (old : OldNeed c next fate later n d e) where
        abbrev CoversOld : VersionId → Type 0
        CoversOld = CoversAlone before c old.need old.a old.b

        abbrev CoversNow : VersionId → Type 0
        CoversNow = CoversAlone now_before next n d e

        abbrev renamed : VersionId → VersionId
        renamed = on c next fate

        first_members : NamesMembers c old.a.life
        first_members = first_named c old.need old.a old.b old.possible

        server_members : (v : VersionId) (l : Lived A) → Serves c old.need old.a old.b v l → NamesMembers c l.life
        server_members = server_named c old.need old.a old.b old.possible

        abbrev GoesAsSecond : Lifetime A → Type 0
        GoesAsSecond m = (k : Lifetime B) × (goes_on_as m ≡ Some k) × IsLifeOf k e

        with_second : (f : Option (Lived B)) (i j : Lifetime B) → IsLifeOf j f → LastsWhile now_before i j → LastsWhileIfAny now_before i f
        with_second None i j of h = absurd of
        with_second (Some x) i j same h = subst (LastsWhile now_before i) same h

        lasts_on : (l : Lifetime A) → NamesMembers c l → Lasts before l old.a old.b → (k : Lifetime B) × (goes_on_as l ≡ Some k) × Lasts now_before k d e
        lasts_on l named (inl up) = let (k, g, h) = still_lasts l old.a.life d.life old.first named first_members up in (k, g, inl h)
        lasts_on l named (inr up) = by old.b (second_named c old.need old.a old.b old.possible) old.second up
          where
            by : (x : Option (Lived A)) → ((m : A) → NamesIfAny x m → has c.same c.members m ≡ true) → ((m : Lifetime A) → IsLifeOf m x → GoesAsSecond m)
                → LastsWhileIfAny before l x → (k : Lifetime B) × (goes_on_as l ≡ Some k) × Lasts now_before k d e
            by None named_too second up = absurd up
            by (Some x) named_too second up =
                let (j, f, of) = second x.life refl in
                let (k, g, h) = still_lasts l x.life j f named named_too up in
                (k, g, inr (with_second e k j of h))

        alone_on : (v : VersionId) → CoversOld v → CoversNow (renamed v)
        alone_on v (l, s, lasts) =
            let (k, g, h) = lasts_on l.life (server_members v l s) lasts in
            (with_life c next fate later l.row k, serves_on c next fate later n d e old v l k s g, h)

        always_on : (v : VersionId) (l : Lived A) → Serves c old.need old.a old.b v l → goes_on_as l.life ≡ Some Always → CoversNow (renamed v)
        always_on v l s g = (with_life c next fate later l.row Always, serves_on c next fate later n d e old v l Always s g, inl tt)

        witnesses_on : (v : VersionId) (w : Option VersionId) → WitnessesCover before c old.need old.a old.b v w
            → WitnessesCover now_before next n d e (renamed v) (option_map renamed w)
        witnesses_on v None covers = alone_on v covers
        witnesses_on v (Some w) (inl one) = inl (alone_on v one)
        witnesses_on v (Some w) (inr (inl two)) = inr (inl (alone_on w two))
        witnesses_on v (Some w) (inr (inr (l, m, s, t, one))) = elim (one_goes l.life m.life (server_members v l s) (server_members w m t) one) [
          | inl g ↦ inl (always_on v l s g)
          | inr (inl g) ↦ inr (inl (always_on w m t g))
          | inr (inr (k, j, g, h, still)) ↦ inr (inr (
            with_life c next fate later l.row k,
            with_life c next fate later m.row j,
            serves_on c next fate later n d e old v l k s g,
            serves_on c next fate later n d e old w m j t h,
            still,
          ))
        ]

        entry_on : (es : List Entry) → HasEntry before c old.need old.a old.b es → HasEntry now_before next n d e (map (on_entry c next fate) es)
        entry_on [] none = absurd none
        entry_on (x ∷ xs) (inl (same, covers)) = inl (ap (on_need c next fate) same ∙ old.named, witnesses_on x.1 x.2 covers)
        entry_on (x ∷ xs) (inr more) = inr (entry_on xs more)

        -- subjects that never stood together never do
        never_on : SubjectsNeverMeet before old.a old.b → SubjectsNeverMeet now_before d e
        never_on = by old.b (second_named c old.need old.a old.b old.possible) old.second
          where
            beside : (f : Option (Lived B)) (k : Lifetime B) → IsLifeOf k f → NeverBothLive now_before d.life k → SubjectsNeverMeet now_before d f
            beside None k of h = absurd of
            beside (Some y) k same h = subst (NeverBothLive now_before d.life) same h

            by : (x : Option (Lived A)) → ((m : A) → NamesIfAny x m → has c.same c.members m ≡ true) → ((m : Lifetime A) → IsLifeOf m x → GoesAsSecond m)
                → SubjectsNeverMeet before old.a x → SubjectsNeverMeet now_before d e
            by None named second never = absurd never
            by (Some x) named second never =
                let (k, g, of) = second x.life refl in
                beside e k of (still_never old.a.life x.life d.life k old.first g first_members named never)

      -- entries that covered the setting under the order cover the later one, their versions under new names
      carried : (es : List Entry) → AreCovered before c es → AreCovered now_before next (map (on_entry c next fate) es)
      carried es covered n d e possible touched =
          let old = old_need c next fate later n d e possible in
          elim (covered old.need old.a old.b old.possible (was_touched c next fate later n d e old touched)) [
            | inl never ↦ inl (never_on n d e old never)
            | inr has ↦ inr (entry_on n d e old es has)
          ]

pub covers_last : {A B : Type 0} (before : Order A) (c : Setting A) (now_before : Order B) (next : Setting B) (fate : A → Fate B)
    → CoversLast before c now_before next fate
covers_last before c now_before next fate later turns es covered =
    (map (on_entry c next fate) es, carried before c now_before next fate turns later es covered)

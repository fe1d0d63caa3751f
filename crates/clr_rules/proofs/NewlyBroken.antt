-- The needs that one content breaks and another doesn't: just those of the listed ones that weren't broken before with the same rows.
use Rattle.std.proofs.Common.{◌≡◌, ◌∙◌, inl, inr, Bool, true, false, ◌&&◌, not, List, [], ◌∷◌, filter, Option, Some, None, refl, sym, ap, subst, slice_get}
use Rattle.std.proofs.lemmas.Bool.{and_parts, cases_Bool, false≢true, not-true}
use Rattle.std.proofs.lemmas.List.Kept.{IsStrictlySortedBy-filter}
use Rattle.std.specs.Cmp.{Equal-is, tied_itself}
use Rattle.std.specs.List.{list_any}
use Rattle.std.specs.List.Sorted.{IsStrictlySortedBy}
use Rattle.std.specs.Option.{option_map}
use Rattle.std.specs.Ordering.{is_eq}
use Rattle.clr_rows.specs.declared.cells.CellId.{CellId}
use Rattle.clr_rows.specs.Contents.{Content, row_at}
use Rattle.clr_rows.specs.Held.{Held}
use Rattle.clr_rows.specs.Same.{same}
use Rattle.clr_rows.proofs.SameLemmas.{same_decides}
use Rattle.clr_rules.specs.declared.needs.Ask.{Ask}
use Rattle.clr_rules.specs.declared.needs.Broken.{Broken}
use Rattle.clr_rules.specs.declared.rules.Rule.{Rule}
use Rattle.clr_rules.specs.Laws.{HeldBeforeLaw, NewlyBrokenLaw}
use Rattle.clr_rules.specs.Needs.{Holds, IsBroken, IsFirstNewlyBroken, IsKept, IsMet, IsNeed, IsNewlyBroken, Stands, StandsBeside, View}
use Rattle.clr_rules.specs.Needs.{ask_of, broken_at, broken_cmp, broken_needs, newly_broken_needs, same_beside, was_broken}
use Rattle.clr_rules.proofs.BrokenLemmas.{at_least, broken_listed, broken_rises, listed_broken, unmet_listed}
use Rattle.clr_rules.proofs.BrokenOrder.{broken_exact, broken_total}
use Rattle.clr_rules.proofs.Elements.{Among, among, among_kept, any_by, contained, kept_among, some_of}

-- one cell has one row
same_held : (view : View) (s t : Held) → s.0 ≡ t.0 → Stands view s → Stands view t → s ≡ t
same_held view s t e is is_too = let rows : Some s.1 ≡ Some t.1 = sym is ∙ ap view e ∙ is_too in let row : s.1 ≡ t.1 = cc in λ i. (e i, row i)

abbrev cells_of : Option Held → Option CellId
cells_of t = option_map (λ x. x.0) t

second_held : (view : View) (s : Held) (t u : Option Held) → cells_of t ≡ cells_of u → StandsBeside view s t → StandsBeside view s u → t ≡ u
second_held view s None None e h k = refl
second_held view s None (Some u) e h k = absurd (cc)
second_held view s (Some t) None e h k = absurd (cc)
second_held view s (Some t) (Some u) e h k = let cell : t.0 ≡ u.0 = cc in ap Some (same_held view t u cell h.0 k.0)

module _ (rules : List Rule) (before after : Content) where
  -- rows that stand in both are the same there
  stand_same : (s : Held) → Stands (row_at before) s → Stands (row_at after) s → same (row_at before s.0) (row_at after s.0) ≡ true
  stand_same s is is_too = (same_decides (row_at before s.0) (row_at after s.0)).1 (is ∙ sym is_too)

  beside_same : (s : Held) (t : Option Held) → StandsBeside (row_at before) s t → StandsBeside (row_at after) s t
      → same_beside before after (cells_of t) ≡ true
  beside_same s None h k = refl
  beside_same s (Some t) h k = stand_same t h.0 k.0

  stands_before : (s : Held) → same (row_at before s.0) (row_at after s.0) ≡ true → Stands (row_at after) s → Stands (row_at before) s
  stands_before s e is = (same_decides (row_at before s.0) (row_at after s.0)).0 e ∙ is

  beside_before : (s : Held) (t : Option Held) → same_beside before after (cells_of t) ≡ true → StandsBeside (row_at after) s t
      → StandsBeside (row_at before) s t
  beside_before s None e h = tt
  beside_before s (Some t) e h = (stands_before t e h.0, h.1)

  -- a need that wasn't broken before is kept before
  kept_before : (b : Broken) (s : Held) (t : Option Held) → b ≡ broken_at (ask_of b) s t → IsNeed rules (row_at after) (ask_of b) s t
      → was_broken rules before after b ≡ false → IsKept rules (row_at before) (ask_of b) s t
  kept_before b s t named need fails now = elim (unmet_listed rules before (ask_of b) s t now) [
    | inl met ↦ met
    | inr among ↦ absurd (false≢true (sym fails ∙ told among))
  ]
    where
      told : Among (broken_at (ask_of b) s t) (broken_needs rules before) → was_broken rules before after b ≡ true
      told h =
          let listed = any_by (λ c. is_eq (broken_cmp c b)) b (broken_needs rules before)
          (subst (λ (c : Broken). Among c (broken_needs rules before)) (sym named) h) (ap is_eq (tied_itself broken_total b)) in
          let first = subst (λ (c : Broken). same (row_at before c.first) (row_at after c.first) ≡ true) (sym named) (stand_same s now.stands need.stands) in
          let second = subst (λ (c : Broken). same_beside before after c.second ≡ true) (sym named) (beside_same s t now.beside need.beside) in
          λ i. listed i && (first i && second i)

  -- a need that was broken before isn't kept before
  not_kept : (b : Broken) (s : Held) (t : Option Held) → b ≡ broken_at (ask_of b) s t → IsNeed rules (row_at after) (ask_of b) s t
      → was_broken rules before after b ≡ true → IsKept rules (row_at before) (ask_of b) s t → ⊥
  not_kept b s t named need told kept =
      let parts = and_parts (list_any (λ c. is_eq (broken_cmp c b)) (broken_needs rules before)) _ told in
      let rows = and_parts (same (row_at before b.first) (row_at after b.first)) (same_beside before after b.second) parts.1 in
      let first = subst (λ (c : Broken). same (row_at before c.first) (row_at after c.first) ≡ true) named rows.0 in
      let second = subst (λ (c : Broken). same_beside before after c.second ≡ true) named rows.1 in
      let (c, listed, e) = some_of (λ c. is_eq (broken_cmp c b)) (broken_needs rules before) parts.0 in
      let one : c ≡ b = broken_exact c b ((Equal-is (broken_cmp c b)).0 e) in
      let was = listed_broken rules before b (subst (λ (d : Broken). Among d (broken_needs rules before)) one listed) in
      let now : IsNeed rules (row_at before) (ask_of b) s t = record {
        stands = stands_before s first need.stands;
        beside = beside_before s t second need.beside;
        they_call = need.they_call;
      } in
      let names : broken_at (ask_of b) was.first was.second ≡ broken_at (ask_of b) s t = sym was.named ∙ named in
      let same_first : was.first ≡ s = same_held (row_at before) was.first s (ap (λ (d : Broken). d.first) names) was.need.stands now.stands in
      let beside = subst (λ (x : Held). StandsBeside (row_at before) x was.second) same_first was.need.beside in
      let same_second : was.second ≡ t = second_held (row_at before) s was.second t (ap (λ (d : Broken). d.second) names) beside now.beside in
      was.unmet (subst (λ (x : Held). IsMet rules (row_at before) (ask_of b) x was.second) (sym same_first)
      (subst (λ (x : Option Held). IsMet rules (row_at before) (ask_of b) s x) (sym same_second) (kept now)))

  abbrev is_new : Broken → Bool
  is_new b = not (was_broken rules before after b)

  pub listed_newly : (b : Broken) → Among b (newly_broken_needs rules before after) → IsNewlyBroken rules (row_at before) (row_at after) b
  unfolding newly_broken_needs
  listed_newly b h =
      let (listed, new) = among_kept is_new b (broken_needs rules after) h in
      let is = listed_broken rules after b listed in
      record {
        first = is.first;
        second = is.second;
        need = is.need;
        unmet = is.unmet;
        kept = kept_before b is.first is.second is.named is.need (not-true _ new);
        named = is.named;
      }

  pub newly_listed : (b : Broken) → IsNewlyBroken rules (row_at before) (row_at after) b → Among b (newly_broken_needs rules before after)
  unfolding newly_broken_needs
  newly_listed b is = kept_among is_new b (broken_needs rules after)
      (broken_listed rules after b (record { first = is.first; second = is.second; need = is.need; unmet = is.unmet; named = is.named }))
      (elim (cases_Bool (was_broken rules before after b)) [
        | inl told ↦ absurd (not_kept b is.first is.second is.named is.need told is.kept)
        | inr fails ↦ ap not fails
      ])

  pub newly_rises : IsStrictlySortedBy broken_cmp (newly_broken_needs rules before after)
  unfolding newly_broken_needs
  newly_rises = IsStrictlySortedBy-filter broken_cmp is_new (broken_needs rules after) (broken_rises rules after)

  first_newly : (bs : List Broken) → newly_broken_needs rules before after ≡ bs → IsFirstNewlyBroken rules (row_at before) (row_at after) (slice_get bs 0)
  first_newly [] e = λ ask s t kept need. elim (unmet_listed rules after ask s t need) [
    | inl met ↦ met
    | inr h ↦ (let is = listed_broken rules after (broken_at ask s t) h in absurd (subst (λ (l : List Broken). Among (broken_at ask s t) l) e
        (newly_listed (broken_at ask s t) (record { first = s; second = t; need = need; unmet = unmet is need; kept = kept; named = refl }))))
  ]
    where
      unmet : {ask : Ask} {s : Held} {t : Option Held} → IsBroken rules (row_at after) (broken_at ask s t) → IsNeed rules (row_at after) ask s t
          → IsMet rules (row_at after) ask s t → ⊥
      unmet {ask} {s} {t} is need met =
          let same_first : is.first ≡ s = same_held (row_at after) is.first s (sym (ap (λ (d : Broken). d.first) is.named)) is.need.stands need.stands in
          let beside = subst (λ (x : Held). StandsBeside (row_at after) x is.second) same_first is.need.beside in
          let same_second : is.second ≡ t = second_held (row_at after) s is.second t (sym (ap (λ (d : Broken). d.second) is.named)) beside need.beside in
          is.unmet (subst (λ (x : Held). IsMet rules (row_at after) ask x is.second) (sym same_first)
          (subst (λ (x : Option Held). IsMet rules (row_at after) ask s x) (sym same_second) met))
  first_newly (b ∷ bs) e = record {
    broken = listed_newly b (subst (λ (l : List Broken). Among b l) (sym e) (inl refl));
    least = λ c h. at_least b bs c (subst (λ (l : List Broken). Among c l) e (newly_listed c h)) (subst (IsStrictlySortedBy broken_cmp) e newly_rises);
  }

pub lists_newly_broken : NewlyBrokenLaw
lists_newly_broken rules before after = record {
  ascending = newly_rises rules before after;
  exactly = λ b. (
    λ h. listed_newly rules before after b (among b (newly_broken_needs rules before after) h),
    λ h. contained b (newly_broken_needs rules before after) (newly_listed rules before after b h),
  );
  first = first_newly rules before after (newly_broken_needs rules before after) refl;
}

-- ---- where every rule held

all_pass : {X : Type 0} (p : X → Bool) (xs : List X) → ((x : X) → Among x xs → p x ≡ true) → filter p xs ≡ xs
all_pass p [] h = refl
all_pass p (x ∷ xs) h = rw (h x (inl refl)) (ap (λ ys. x ∷ ys) (all_pass p xs (λ y k. h y (inr k))))

none_was : (rules : List Rule) (before after : Content) → Holds rules (row_at before) → (b : Broken) → not (was_broken rules before after b) ≡ true
none_was rules before after holds b = elim (cases_Bool (list_any (λ c. is_eq (broken_cmp c b)) (broken_needs rules before))) [
  | inl some ↦ (let (c, listed, e) = some_of (λ c. is_eq (broken_cmp c b)) (broken_needs rules before) some in
      let is = listed_broken rules before c listed in absurd (is.unmet (holds _ _ _ is.need)))
  | inr none ↦ ap (λ x. not (x && (same (row_at before b.first) (row_at after b.first) && same_beside before after b.second))) none
]

pub all_where_held : HeldBeforeLaw
unfolding newly_broken_needs
all_where_held rules before holds = record {
  holds = λ after more ask s t need. more ask s t (λ now. holds ask s t now) need;
  all = λ after. all_pass (λ b. not (was_broken rules before after b)) (broken_needs rules after) (λ b h. none_was rules before after holds b);
}

-- The needs that the merge of one member breaks: just the touched ones whose subjects stand then, and no version that serves.
use Rattle.std.proofs.Common.{◌≡◌, ◌∙◌, ◌<◌, ◌+◌, ◌==◌, ℕ, Bool, true, false, ◌&&◌, not, List, [], ◌∷◌, ◌⊎◌, inl, inr, Option, Some, None, Contains}
use Rattle.std.proofs.Common.{get_or, length, take, refl, sym, ap, subst, unwrap_or}
use Rattle.std.specs.List.{range_with_len}
use Rattle.std.specs.Option.{option_cmp, option_map}
use Rattle.std.specs.Ordering.{bool_cmp, nat_cmp, ordering_then}
use Rattle.std.specs.declared.cmp.Ordering.{Ordering}
use Rattle.std.specs.declared.cmp.Ordering.TheVariants.{Less, Equal, Greater}
use Rattle.std.proofs.lemmas.Bool.{and_parts, cases_Bool, false≢true, or_cases, or_left, or_right}
use Rattle.std.proofs.lemmas.Bool.Decides.{Decides-eqb}
use Rattle.clr_rows.specs.declared.cells.CellId.{CellId}
use Rattle.clr_rows.specs.Cells.{cell_cmp}
use Rattle.clr_rows.specs.Contents.{Changes, Content}
use Rattle.clr_rows.specs.Held.{Held}
use Rattle.std.specs.Prelude.{⊤, if◌then◌else◌}
use Rattle.clr_rows.proofs.CellOrder.{cell_cmp_exact}
use Rattle.clr_rules.specs.declared.needs.Broken.{Broken}
use Rattle.clr_rules.specs.declared.rules.Rule.{Rule}
use Rattle.clr_rules.specs.Calls.{serves}
use Rattle.clr_rules.specs.Needs.{BreaksNoMore, IsKept, IsMet, IsNeed, IsNewlyBroken, broken_at, broken_cmp}
use Rattle.clr_rules.specs.Needs as audit
use Rattle.clr_needs.specs.declared.needs.Need.{Need}
use Rattle.clr_needs.specs.declared.needs.VersionId.{VersionId}
use Rattle.clr_needs.specs.Broken.{HasLivingServer, IsJudged, IsServedAfterMerge, IsUnservedAfterMerge, are_living, broken_of, is_living, is_living_at}
use Rattle.clr_needs.specs.Broken.{view_after_merge}
use Rattle.clr_needs.specs.Covers.{IsLifeOf}
use Rattle.clr_needs.specs.Independence.{Names}
use Rattle.clr_needs.specs.Members.{setting}
use Rattle.clr_needs.specs.Needs.{AreServers, AreTouchedNeeds, IsPossibleNeed, IsBesideIfAny, IsPossible, IsTouched, IsTouchedBy, ask_of, held_if_any, is_fresh}
use Rattle.clr_needs.specs.Needs.{need_of}
use Rattle.clr_needs.specs.Orders.{need_cmp, version_cmp}
use Rattle.clr_needs.specs.Settings.{Setting, AreDisjoint, DoChange, Lifetime, Always, With, Without, Lived, changer, has, held_row, new_version, old_version, view_with}
use Rattle.clr_needs.specs.Settings.{version}
use Rattle.clr_needs.proofs.CoverLaws.{root_server}
use Rattle.clr_needs.proofs.Lives.{has_version, lives, names_member, never_both, old_is}
use Rattle.clr_needs.proofs.Meetings.{HasServer, IsKeptIn, IsStandingNeed, IsSubjectLife, is_need, met_by, no_more_where_met, server_of}
use Rattle.clr_needs.proofs.Reading.{one_more}
use Rattle.clr_needs.proofs.Merges.{IsMerge, root_is, taken_over}
use Rattle.clr_needs.proofs.NeedSubjects.{subjects_once}
use Rattle.clr_needs.proofs.TouchedLaws.{touched_is_kept}

module _ (rules : List Rule) (root : Content) (sets : List Changes) (one : length sets ≡ 1) where
  abbrev s : Setting ℕ
  s = setting rules root sets

  -- the one member
  abbrev ts : List ℕ
  ts = 0 ∷ []

  members_are : s.members ≡ ts
  members_are = ap (range_with_len 0) one

  member_is : (n : ℕ) → has s.same s.members n ≡ true → n ≡ 0
  member_is n h = by (or_cases (0 == n) false (subst (λ ms. has s.same ms n ≡ true) members_are h))
    where
      by : (0 == n ≡ true) ⊎ (false ≡ true) → n ≡ 0
      by (inl e) = sym ((Decides-eqb 0 n).0 e)
      by (inr e) = absurd (false≢true e)

  apart : AreDisjoint s
  apart m n q first second changes changes_too = member_is m first ∙ sym (member_is n second)

  merge : IsMerge s ts
  merge = record { apart = apart; part = λ n h. subst (λ ms. has s.same ms n ≡ true) (sym members_are) h }

  merged_is : (q : CellId) → view_with s ts q ≡ view_after_merge s q
  merged_is q = taken_over s 0 [] q ∙ ap (unwrap_or (s.after 0 q)) (root_is s q)

  views : view_with s ts ≡ view_after_merge s
  views = λ i q. merged_is q i

  -- ---- lives

  life_told : (v : VersionId) (l : Lived ℕ) → version s v ≡ Some l → lives s ts l.life ≡ is_living l.life
  life_told v l is = by l.life refl
    where
      member : (n : ℕ) → Names l.life n → (0 == n) ≡ true
      member n names = (Decides-eqb 0 n).1 (sym (member_is n (names_member s v l n is names)))

      by : (life : Lifetime ℕ) → l.life ≡ life → lives s ts life ≡ is_living life
      by Always e = refl
      by (With n) e = or_left (0 == n) false (member n (subst (λ k. Names k n) (sym e) refl))
      by (Without n) e = ap not (or_left (0 == n) false (member n (subst (λ k. Names k n) (sym e) refl)))

  module _ (n : Need) (a : Lived ℕ) (b : Option (Lived ℕ)) (p : IsPossible s n a b) where
    it_stands : are_living a b ≡ true → IsStandingNeed s ts n a b
    it_stands living = record { possible = p; live = λ l h. by n.second b p.second_is living l h }
      where
        by : (w : Option VersionId) (b : Option (Lived ℕ)) → IsBesideIfAny s n.first a w b → are_living a b ≡ true → (l : Lifetime ℕ) → IsSubjectLife s a b l
            → lives s ts l ≡ true
        by None None is e l (inl f) = ap (lives s ts) f ∙ life_told n.first a p.first_is ∙ e
        by None None is e l (inr f) = absurd f
        by None (Some b) is e l h = absurd is
        by (Some w) None is e l h = absurd is
        by (Some w) (Some b) is e l (inl f) = ap (lives s ts) f ∙ life_told n.first a p.first_is ∙ (and_parts (is_living a.life) (is_living b.life) e).0
        by (Some w) (Some b) is e l (inr f) = ap (lives s ts) f ∙ life_told w b is.is ∙ (and_parts (is_living a.life) (is_living b.life) e).1

    living_too : IsStandingNeed s ts n a b → are_living a b ≡ true
    living_too need = by n.second b p.second_is (λ l h. need.live l (inr h))
      where
        first : is_living a.life ≡ true
        first = sym (life_told n.first a p.first_is) ∙ need.live a.life (inl refl)

        by : (w : Option VersionId) (b : Option (Lived ℕ)) → IsBesideIfAny s n.first a w b → ((l : Lifetime ℕ) → IsLifeOf l b → lives s ts l ≡ true)
            → are_living a b ≡ true
        by None None is live = first
        by None (Some b) is live = absurd is
        by (Some w) None is live = absurd is
        by (Some w) (Some b) is live = let second = sym (life_told w b is.is) ∙ live b.life refl in λ i. first i && second i

  server_stands : (n : Need) (a : Lived ℕ) (b : Option (Lived ℕ)) → HasLivingServer s n a b → HasServer s ts n a b
  server_stands n a b (v, l, serve, living) = record { id = v; lived = l; serves = serve; lives = life_told v l serve.is ∙ living }

  server_lives : (n : Need) (a : Lived ℕ) (b : Option (Lived ℕ)) → HasServer s ts n a b → HasLivingServer s n a b
  server_lives n a b h = (h.id, h.lived, h.serves, sym (life_told h.id h.lived h.serves.is) ∙ h.lives)

  -- ---- a standing need is touched, or a row that stays serves it

  touched_or_served : (n : Need) (a : Lived ℕ) (b : Option (Lived ℕ)) → IsPossible s n a b → IsKeptIn s s.root n a b
      → IsTouchedBy s n a b ⊎ HasServer s ts n a b
  touched_or_served n a b p kept = elim (cases_Bool n.first.fresh) [
    | inl new ↦ inl (inl (or_left n.first.fresh (is_fresh n.second) new))
    | inr old ↦ elim (cases_Bool (is_fresh n.second)) [
      | inl new ↦ inl (inl (or_right n.first.fresh (is_fresh n.second) new))
      | inr old_too ↦ stays (root_server s n a b p apart kept old old_too)
    ]
  ]
    where
      stays : HasServer s [] n a b → IsTouchedBy s n a b ⊎ HasServer s ts n a b
      stays h = by h.lived.life refl
        where
          by : (l : Lifetime ℕ) → h.lived.life ≡ l → IsTouchedBy s n a b ⊎ HasServer s ts n a b
          by Always e = inr (record { id = h.id; lived = h.lived; serves = h.serves; lives = ap (lives s ts) e })
          by (With m) e = absurd (false≢true (sym (ap (lives s []) e) ∙ h.lives))
          by (Without m) e = inl (inr (h.id, h.lived, h.serves, rw e tt))

  -- ---- no more is broken where each touched need is served

  pub no_more_after : ((n : Need) → IsTouched s n → IsServedAfterMerge s n) → BreaksNoMore rules s.root (view_after_merge s)
  no_more_after served = subst (BreaksNoMore rules s.root) views
      (no_more_where_met s s.root ts merge
      (λ n a b need kept. met_by s ts n a b merge (by n a b need (touched_or_served n a b need.possible kept))))
    where
      by : (n : Need) (a : Lived ℕ) (b : Option (Lived ℕ)) → IsStandingNeed s ts n a b → IsTouchedBy s n a b ⊎ HasServer s ts n a b → HasServer s ts n a b
      by n a b need (inl touched) = server_stands n a b (served n (a, b, need.possible, touched) a b need.possible (living_too n a b need.possible need))
      by n a b need (inr h) = h

  -- ---- broken needs

  pub unserved_is_broken : DoChange s → (n : Need) → IsUnservedAfterMerge s n → IsTouched s n → IsNewlyBroken rules s.root (view_after_merge s) (broken_of n)
  unserved_is_broken changes n (a, b, p, living, unserved) (x, y, q, touched) = subst (λ view. IsNewlyBroken rules s.root view (broken_of n)) views (record {
    first = held_row n.first a;
    second = held_if_any n.second b;
    need = is_need s ts n a b merge (it_stands n a b p living);
    unmet = λ met. unserved (server_lives n a b (server_of s ts n a b merge met));
    kept = (let once = subjects_once s n a x b y p q in
        subst (λ k. IsKeptIn s s.root n k b) once.0 (subst (λ k. IsKeptIn s s.root n x k) once.1 (touched_is_kept s changes n x y q touched)));
    named = same_names n.second b p.second_is;
  })
    where
      same_names : (w : Option VersionId) (b : Option (Lived ℕ)) → IsBesideIfAny s n.first a w b
          → broken_of (need_of (ask_of n) n.first w) ≡ broken_at (ask_of n) (held_row n.first a) (held_if_any w b)
      same_names None None is = refl
      same_names None (Some b) is = absurd is
      same_names (Some w) None is = absurd is
      same_names (Some w) (Some b) is = refl

  -- a broken need is that of a touched one that nothing serves
  pub record IsBrokenBy (b : Broken) (n : Need) : Type 0 where
    pub broken : IsUnservedAfterMerge s n
    pub touched : IsTouched s n
    pub named : b ≡ broken_of n

  pub broken_by : (b : Broken) → IsNewlyBroken rules s.root (view_after_merge s) b → (n : Need) × IsBrokenBy b n
  broken_by b broken = by b (subst (λ view. IsNewlyBroken rules s.root view b) (sym views) broken)
    where
      break_of : (b : Broken) (n : Need) (x : Lived ℕ) (y : Option (Lived ℕ)) → IsStandingNeed s ts n x y → IsKeptIn s s.root n x y → b ≡ broken_of n
          → (HasServer s ts n x y → ⊥) → (n : Need) × IsBrokenBy b n
      break_of b n x y need kept named unserved = go (touched_or_served n x y need.possible kept)
        where
          go : IsTouchedBy s n x y ⊎ HasServer s ts n x y → (n : Need) × IsBrokenBy b n
          go (inl touched) = (
            n,
            record {
              broken = (x, y, need.possible, living_too n x y need.possible need, λ h. unserved (server_stands n x y h));
              touched = (x, y, need.possible, touched);
              named = named;
            },
          )
          go (inr h) = absurd (unserved h)

      by : (b : Broken) → IsNewlyBroken rules s.root (view_with s ts) b → (n : Need) × IsBrokenBy b n
      by b broken = go broken.first broken.second broken.need broken.unmet broken.kept broken.named
        where
          go : (first : Held) (second : Option Held) → IsNeed rules (view_with s ts) (audit.ask_of b) first second
              → (IsMet rules (view_with s ts) (audit.ask_of b) first second → ⊥)
              → IsKept rules s.root (audit.ask_of b) first second
              → b ≡ broken_at (audit.ask_of b) first second → (n : Need) × IsBrokenBy b n
          go first None need unmet kept named =
              let v = has_version s ts merge first.0 first.1 need.stands in
              let x : Lived ℕ = record { row = first.1; life = v.life } in
              let n = need_of (audit.ask_of b) (record { cell = first.0; fresh = v.fresh }) None in
              let stand : IsStandingNeed s ts n x None =
              record { possible = record { first_is = v.is; second_is = tt; they_call = need.they_call }; live = λ l h. alone l x v.lives h } in
              break_of b n x None stand kept named (λ h. unmet (met_by s ts n x None merge h))
            where
              alone : (l : Lifetime ℕ) (x : Lived ℕ) → lives s ts x.life ≡ true → IsSubjectLife s x None l → lives s ts l ≡ true
              alone l x living (inl e) = ap (lives s ts) e ∙ living
              alone l x living (inr e) = absurd e
          go first (Some second) need unmet kept named =
              let v = has_version s ts merge first.0 first.1 need.stands in
              let w = has_version s ts merge second.0 second.1 need.beside.0 in
              let x : Lived ℕ = record { row = first.1; life = v.life } in
              let y : Lived ℕ = record { row = second.1; life = w.life } in
              let n = need_of (audit.ask_of b) (record { cell = first.0; fresh = v.fresh }) (Some (record { cell = second.0; fresh = w.fresh })) in
              let stand : IsStandingNeed s ts n x (Some y) = record {
                possible = record {
                  first_is = v.is;
                  second_is = record {
                    is = w.is;
                    ascending = need.beside.1;
                    not_opposed = never_both s ts v.life w.life
                        v.lives w.lives;
                  };
                  they_call = need.they_call;
                };
                live = λ l h. both l x y v.lives w.lives h;
              } in
              break_of b n x (Some y) stand kept named (λ h. unmet (met_by s ts n x (Some y) merge h))
            where
              both : (l : Lifetime ℕ) (x y : Lived ℕ) → lives s ts x.life ≡ true → lives s ts y.life ≡ true → IsSubjectLife s x (Some y) l → lives s ts l ≡ true
              both l x y living living_too (inl e) = ap (lives s ts) e ∙ living
              both l x y living living_too (inr e) = ap (lives s ts) e ∙ living_too

  -- ---- the order of needs whose subjects stand is that of their cells

  abbrev LivesAt : VersionId → Type 0
  LivesAt v = (l : Lived ℕ) × (version s v ≡ Some l) × (is_living l.life ≡ true)

  old_unchanged : (q : CellId) (x : Option ℕ) (l : Lived ℕ) → old_version x (s.root q) ≡ Some l → is_living l.life ≡ true → x ≡ None
  old_unchanged q None l is living = refl
  old_unchanged q (Some n) l is living = absurd (false≢true (sym (ap is_living (old_is s (Some n) (s.root q) l is).1) ∙ living))

  never_old_and_new : (v w : VersionId) → v.cell ≡ w.cell → v.fresh ≡ false → w.fresh ≡ true → LivesAt v → LivesAt w → ⊥
  unfolding version
  never_old_and_new v w same old new (l, is, living) (m, at, alive) =
      let is_old = ap (λ b. if b then new_version s.after v.cell (changer s v.cell) else old_version (changer s v.cell) (s.root v.cell)) (sym old) ∙ is in
      let is_new = ap (λ b. if b then new_version s.after w.cell (changer s w.cell) else old_version (changer s w.cell) (s.root w.cell)) (sym new) ∙ at in
      let none = old_unchanged v.cell (changer s v.cell) l is_old living in
      let clash : None ≡ Some m = ap (new_version s.after w.cell) (sym (ap (changer s) (sym same) ∙ none)) ∙ is_new in
      cc

  flags_tie : (v w : VersionId) → v.cell ≡ w.cell → LivesAt v → LivesAt w → bool_cmp v.fresh w.fresh ≡ Equal
  flags_tie v w same first second = by v.fresh w.fresh refl refl
    where
      by : (f g : Bool) → v.fresh ≡ f → w.fresh ≡ g → bool_cmp f g ≡ Equal
      by true true e h = refl
      by false false e h = refl
      by false true e h = absurd (never_old_and_new v w same e h first second)
      by true false e h = absurd (never_old_and_new w v (sym same) h e second first)

  version_order : (v w : VersionId) → LivesAt v → LivesAt w → version_cmp v w ≡ cell_cmp v.cell w.cell
  version_order v w first second = by (cell_cmp v.cell w.cell) refl
    where
      by : (o : Ordering) → cell_cmp v.cell w.cell ≡ o → ordering_then o (bool_cmp v.fresh w.fresh) ≡ o
      by Less e = refl
      by Greater e = refl
      by Equal e = flags_tie v w (cell_cmp_exact v.cell w.cell e) first second

  abbrev LivesAtToo : Option VersionId → Type 0
  LivesAtToo None = ⊤
  LivesAtToo (Some v) = LivesAt v

  second_order : (v w : Option VersionId) → LivesAtToo v → LivesAtToo w
      → option_cmp version_cmp v w ≡ option_cmp cell_cmp (option_map (λ (i : VersionId). i.cell) v) (option_map (λ (i : VersionId). i.cell) w)
  second_order None None first second = refl
  second_order None (Some w) first second = refl
  second_order (Some v) None first second = refl
  second_order (Some v) (Some w) first second = version_order v w first second

  subjects_live : (n : Need) → IsUnservedAfterMerge s n → LivesAt n.first × LivesAtToo n.second
  subjects_live n (a, b, p, living, unserved) = by n.second b p.second_is living
    where
      by : (w : Option VersionId) (b : Option (Lived ℕ)) → IsBesideIfAny s n.first a w b → are_living a b ≡ true → LivesAt n.first × LivesAtToo w
      by None None is e = ((a, p.first_is, e), tt)
      by None (Some b) is e = absurd is
      by (Some w) None is e = absurd is
      by (Some w) (Some b) is e = let both = and_parts (is_living a.life) (is_living b.life) e in ((a, p.first_is, both.0), (b, is.is, both.1))

  pub need_order : (m n : Need) → IsUnservedAfterMerge s m → IsUnservedAfterMerge s n → need_cmp m n ≡ broken_cmp (broken_of m) (broken_of n)
  unfolding broken_cmp
  need_order m n broken unserved_too =
      let first = subjects_live m broken in
      let second = subjects_live n unserved_too in
      λ i. ordering_then (nat_cmp m.rule n.rule) (ordering_then (version_order m.first n.first first.0 second.0 i)
      (ordering_then (second_order m.second n.second first.1 second.1 i) (ordering_then (nat_cmp m.first_part n.first_part)
      (nat_cmp m.second_part n.second_part))))

-- ---- one need

module _ (c : Setting ℕ) (n : Need) where
  module _ (servers read : List VersionId) (are : AreServers c n servers) (same : read ≡ servers) where
    pub none_living : (told : Bool) → IsPossibleNeed c n → ((a : Lived ℕ) (b : Option (Lived ℕ)) → IsPossible c n a b → told ≡ are_living a b) → told ≡ true
        → ((v : VersionId) → Contains read v → is_living_at (version c v) ≡ true → ⊥) → IsUnservedAfterMerge c n
    none_living told (a, b, p) tells stand none = (
      a,
      b,
      p,
      sym (tells a b p) ∙ stand,
      λ h. none h.0 (subst (λ vs. Contains vs h.0) (sym same) ((are.exactly h.0).1 (a, b, h.1, p, h.2))) (ap is_living_at h.2.is ∙ h.3),
    )

    pub some_living : (v : VersionId) → Contains read v → is_living_at (version c v) ≡ true → IsServedAfterMerge c n
    some_living v h living a b p stand =
        let (x, y, l, q, serve) = (are.exactly v).0 (subst (λ vs. Contains vs v) same h) in
        let once = subjects_once c n a x b y p q in (
          v,
          l,
          record {
            is = serve.is;
            it_serves = sym (λ i. serves c.rules (ask_of n) (held_row n.first (once.0 i)) (held_if_any n.second (once.1 i)) (held_row v l))
                ∙ serve.it_serves;
          },
          sym (ap is_living_at serve.is) ∙ living,
        )

  -- a touched need is possible
  pub touched_possible : (needs : List Need) → AreTouchedNeeds c needs → Contains needs n → IsPossibleNeed c n
  touched_possible needs are h = let (a, b, p, touched) = (are.exactly n).0 h in (a, b, p)

-- the judgement of one more need
pub kept_more : (c : Setting ℕ) (needs : List Need) (k : ℕ) (n : Need) (d : Need) (broken : Bool) → k < length needs → n ≡ get_or needs k d
    → ((m : Need) → Contains (take k needs) m → IsServedAfterMerge c m) → IsJudged c n broken → broken ≡ false
    → (m : Need) → Contains (take (k + 1) needs) m → IsServedAfterMerge c m
kept_more c needs k n d broken less is kept judged fails m h = by (one_more needs k d m less h)
  where
    by : Contains (take k needs) m ⊎ (m ≡ get_or needs k d) → IsServedAfterMerge c m
    by (inl earlier) = kept m earlier
    by (inr last) = subst (IsServedAfterMerge c) (is ∙ sym last) (subst (IsJudged c n) fails judged)

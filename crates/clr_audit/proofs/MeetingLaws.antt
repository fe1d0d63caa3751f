-- Rows that serve, and rows that share.
use Rattle.std.proofs.Common.{slice_get, refl, ◌||◌, ◌⊎◌, get_or, take, ◌≡◌, ◌∙◌, ◌<◌, ◌≤◌, ◌+◌, ◌∷◌, [], arith, ◌&&◌, ℕ, true, false, List, Some, None, Contains, inl, inr, length, sym, ap, subst}
use Rattle.std.specs.FinMap as finite
use Rattle.std.specs.Option.{option_map}
use Rattle.std.proofs.lemmas.Bool.{false≢true, or_left, or_right}
use Rattle.clr_rows.specs.declared.cells.CellId.{CellId}
use Rattle.clr_rows.specs.Cells.{cell_cmp}
use Rattle.clr_rows.specs.Contents.{Content, row_at}
use Rattle.std.specs.declared.cmp.Ordering.TheVariants.{Less}
use Rattle.clr_needs.proofs.Reading.{all_taken, one_more}
use Rattle.clr_rows.specs.Held.{Held}
use Rattle.clr_rules.specs.declared.needs.Ask.{Ask}
use Rattle.clr_rules.specs.declared.rules.Rule.{Rule}
use Rattle.clr_rules.specs.Books.{FitTogether, FitsContent}
use Rattle.clr_rules.specs.Calls.{ask_of_parts, calls, part_count, plain_ask}
use Rattle.std.proofs.lemmas.Bool.{cases_lt}
use Rattle.clr_rules.specs.Needs.{Holds, IsMet, Stands, View, rows_in}
use Rattle.clr_rules.specs.Roles.{roles_under}
use Rattle.clr_rules.proofs.AskLemmas.{rule_there}
use Rattle.clr_audit.specs.Meeting.{AreMet, AreMetUnder, IsMetBeside, IsMetIfCalled, IsPairMet, IsPartMet}
use Rattle.clr_rules.specs.Sides.{has_role, has_role_by}
use Rattle.clr_rules.proofs.BrokenLemmas.{held_listed, rows_fit}
use Rattle.clr_rules.proofs.CallLaws.{alone_parts, called_by, first_part_there, second_part_there, subjects_beside}
use Rattle.clr_rules.proofs.Elements.{Among, contained}
use Rattle.clr_rules.proofs.Fits.{AreAmong, fit_part}
use Rattle.clr_rules.proofs.FittingLemmas.{distance_fits}
use Rattle.clr_rules.proofs.RoleLemmas.{subjects_have_roles}
use Rattle.clr_spots.specs.Spots.{are_sharing, share_by, share_under}
use Rattle.clr_spots.proofs.ShareLaws.{subjects_share}
use Rattle.clr_finders.specs.Sharing.{IsSettledFor, Settled, found_cells, row_spots, rule_spots, sharing}
use Rattle.clr_finders.proofs.PassingCells.{passes_in}
use Rattle.clr_finders.proofs.SharingLemmas.{found_sharing}

-- the rows of a content that stand fit beside all of them
pub fit_standing : (rules : List Rule) (content : Content) (s : Held) → FitsContent rules content → Stands (row_at content) s
    → FitTogether rules (s ∷ rows_in content)
fit_standing rules content s fits at = fit_part rules (s ∷ rows_in content) (rows_in content) (rows_fit rules content fits) each
  where
    each : AreAmong (s ∷ rows_in content) (rows_in content)
    each x (inl e) = subst (λ y. Among y (rows_in content)) e (held_listed content s at)
    each x (inr h) = h

pub fit_two_standing : (rules : List Rule) (content : Content) (s t : Held) → FitsContent rules content → Stands (row_at content) s → Stands (row_at content) t
    → FitTogether rules (s ∷ (t ∷ rows_in content))
fit_two_standing rules content s t fits at beside = fit_part rules (s ∷ (t ∷ rows_in content)) (rows_in content) (rows_fit rules content fits) each
  where
    each : AreAmong (s ∷ (t ∷ rows_in content)) (rows_in content)
    each x (inl e) = subst (λ y. Among y (rows_in content)) e (held_listed content s at)
    each x (inr (inl e)) = subst (λ y. Among y (rows_in content)) e (held_listed content t beside)
    each x (inr (inr h)) = h

-- the second subject is found beside the first
pub is_found : (rules : List Rule) (content : Content) (settled : Settled) (ask : Ask) (s t : Held) → FitsContent rules content
    → IsSettledFor settled rules content → ask.rule < length rules → Stands (row_at content) t → calls rules ask s (Some t) ≡ true
    → Contains (found_cells false settled ask.rule (rule_spots rules ask.rule s)) t.0
unfolding sharing has_role share_under
is_found rules content settled ask s t fits is below stands called =
    let (rule, at, subjects) = called_by rules ask s (Some t) called in
    let roles = subjects_have_roles rule ask s (Some t) subjects in
    let shared = subjects_share rule ask s (Some t) (distance_fits rules (rows_in content) ask.rule rule (rows_fit rules content fits) at) subjects in
    let sharing_both : are_sharing rules ask.rule s t ≡ true =
    (λ i. has_role_by (at i) s && (has_role_by (at i) t && share_by (at i) s t)) ∙ (λ i. roles.0 i && (roles.1 i && shared i)) in
    contained t.0 (found_cells false settled ask.rule (rule_spots rules ask.rule s))
    (subst (Among t.0) (sym (found_sharing rules content settled ask.rule s is below))
    (passes_in (are_sharing rules ask.rule s) content t.0 t.1 stands sharing_both))

-- a row alone is asked one thing
pub asked_alone : (rules : List Rule) (ask : Ask) (s : Held) (number : ℕ) → ask.rule ≡ number → calls rules ask s None ≡ true → ask ≡ plain_ask number
asked_alone rules ask s number is called = let parts = alone_parts rules ask s called in λ i. record {
  rule = is i;
  first_part = parts.0 i;
  second_part = parts.1 i;
}

-- the second of two rows beside others
pub fit_second : (rules : List Rule) (s t : Held) (rows : List Held) → FitTogether rules (s ∷ (t ∷ rows)) → FitTogether rules (t ∷ [])
fit_second rules s t rows fit = fit_part rules (t ∷ []) (s ∷ (t ∷ rows)) fit each
  where
    each : AreAmong (t ∷ []) (s ∷ (t ∷ rows))
    each x (inl e) = inr (inl e)
    each x (inr h) = absurd h

-- ---- the parts of two rows, one after another

module _ (rules : List Rule) (view : View) (number : ℕ) (s t : Held) where
  -- the first parts of the second row
  abbrev pub AreSecondMet : ℕ → ℕ → Type 0
  AreSecondMet part n = (k : ℕ) → k < n → IsMetIfCalled rules view (ask_of_parts number part (k + 1)) s (Some t)

  pub all_second : (part n : ℕ) → part_count rules number t ≤ n → AreSecondMet part n → IsPartMet rules view number part s t
  all_second part n count met ask is first called =
      let w = second_part_there rules ask s t called in
      let below : w.0 < n = omega (arith, subst (λ m. w.0 < part_count rules m t) is w.1, count) in
      let second : ask.second_part ≡ w.0 + 1 = omega (arith, w.2) in
      let same : ask ≡ ask_of_parts number part (w.0 + 1) = λ i. record { rule = is i; first_part = first i; second_part = second i } in
      subst (λ a. IsMet rules view a s (Some t)) (sym same) (met w.0 below (subst (λ a. calls rules a s (Some t) ≡ true) same called))

  -- the first parts of the first row
  abbrev pub AreFirstMet : ℕ → Type 0
  AreFirstMet n = (k : ℕ) → k < n → IsPartMet rules view number (k + 1) s t

  pub all_first : (n : ℕ) → part_count rules number s ≤ n → AreFirstMet n → IsPairMet rules view number s t
  all_first n count met ask is called =
      let w = first_part_there rules ask s (Some t) called in
      let below : w.0 < n = omega (arith, subst (λ m. w.0 < part_count rules m s) is w.1, count) in
      let first : ask.first_part ≡ w.0 + 1 = omega (arith, w.2) in
      met w.0 below ask is first called

-- ---- the cells near a row, one after another

module _ (rules : List Rule) (view : View) (number : ℕ) (s : Held) (cells : List CellId) where
  -- the first cells
  abbrev pub AreMetAt : ℕ → Type 0
  AreMetAt n = (q : CellId) → Contains (take n cells) q → IsMetBeside rules view number s q

  pub one_met : (n : ℕ) (d : CellId) → n < length cells → AreMetAt n → IsMetBeside rules view number s (get_or cells n d) → AreMetAt (n + 1)
  one_met n d less before one q h = by (one_more cells n d q less h)
    where
      by : Contains (take n cells) q ⊎ (q ≡ get_or cells n d) → IsMetBeside rules view number s q
      by (inl w) = before q w
      by (inr e) = subst (IsMetBeside rules view number s) (sym e) one

-- all that were found are met, so all that stand beside the row are
pub all_met : (rules : List Rule) (content : Content) (settled : Settled) (number : ℕ) (s : Held) (cells : List CellId) (n : ℕ) → FitsContent rules content
    → IsSettledFor settled rules content → number < length rules
    → ((q : CellId) → Contains (found_cells false settled number (rule_spots rules number s)) q → Contains cells q)
    → length cells ≤ n → AreMetAt rules (row_at content) number s cells n
    → (t : Held) → Stands (row_at content) t → cell_cmp s.0 t.0 ≡ Less → IsPairMet rules (row_at content) number s t
all_met rules content settled number s cells n fits is below found past met t stands after ask same called =
    let at_cell = all_taken cells n t.0 past (found t.0
    (subst (λ m. Contains (found_cells false settled m (rule_spots rules m s)) t.0) same
    (is_found rules content settled ask s t fits is (subst (λ m. m < length rules) (sym same) below) stands called))) in
    met t.0 at_cell t.1 stands after ask same called

-- ---- all that is asked of a row

-- a row without a role is asked nothing
pub idle : (rules : List Rule) (view : View) (s : Held) (number : ℕ) → (rule_spots rules number s).has_role ≡ false
    → AreMetUnder rules view number s
unfolding has_role rule_spots
idle rules view s number none ask t is need =
    let (rule, at, subjects) = called_by rules ask s t need.they_call in
    let role = (subjects_have_roles rule ask s t subjects).0 in
    absurd (false≢true (sym none ∙ (λ i. has_role_by (slice_get rules (sym is i)) s) ∙ (λ i. has_role_by (at i) s) ∙ role))

module _ (rules : List Rule) (view : View) (s : Held) where
  -- what a rule asks of the row alone
  abbrev pub IsAloneMet : ℕ → Type 0
  IsAloneMet number = (ask : Ask) → ask.rule ≡ number → IsMetIfCalled rules view ask s None

  -- what a rule asks of the row and of rows at greater cells
  abbrev pub ArePairsMet : ℕ → Type 0
  ArePairsMet number = (t : Held) → Stands view t → cell_cmp s.0 t.0 ≡ Less → IsPairMet rules view number s t

  pub both_met : (number : ℕ) → IsAloneMet number → ArePairsMet number → AreMetUnder rules view number s
  both_met number alone pairs ask None is need = alone ask is need.they_call
  both_met number alone pairs ask (Some t) is need = pairs t need.beside.0 need.beside.1 ask is need.they_call

  -- a row that may not be one of two has no need beside another
  pub unpaired : (number : ℕ) → ((roles_under rules number s).first || (roles_under rules number s).second) ≡ false → ArePairsMet number
  unpaired number apart t stands after ask is called = elim (subjects_beside rules ask s t called) [
    | inl w ↦ absurd (false≢true (sym apart ∙ or_left _ _ (subst (λ n. (roles_under rules n s).first ≡ true) is w.0)))
    | inr w ↦ absurd (false≢true (sym apart ∙ or_right _ _ (subst (λ n. (roles_under rules n s).second ≡ true) is w.1)))
  ]

  -- the first rules
  abbrev pub AreRulesMet : ℕ → Type 0
  AreRulesMet n = (k : ℕ) → k < n → AreMetUnder rules view k s

  pub one_rule : (n : ℕ) → AreRulesMet n → AreMetUnder rules view n s → AreRulesMet (n + 1)
  one_rule n before one k less = elim (cases_lt k n) [
    | inl l ↦ before k l
    | inr l ↦ (let same : n ≡ k = omega (arith, less, l) in subst (λ m. AreMetUnder rules view m s) same one)
  ]

  pub all_rules : (n : ℕ) → length rules ≤ n → AreRulesMet n → AreMet rules view s
  all_rules n count met ask t need = met ask.rule (omega (arith, rule_there rules ask s t need.they_call, count)) ask t refl need

-- what a finder keeps of a row that stands
pub kept_spots : (rules : List Rule) (content : Content) (settled : Settled) (s : Held) → IsSettledFor settled rules content → Stands (row_at content) s
    → finite.get settled s.0 ≡ Some (row_spots rules s)
kept_spots rules content settled s is at = is s.0 ∙ ap (option_map (λ row. row_spots rules (s.0, row))) at

-- ---- the rows of a content, one after another

-- the needs of each row are met, or the row is among those that are left
pub record AreLeft (rules : List Rule) (view : View) (all rest : List Held) : Type 0 where
  pub within : (s : Held) → Among s rest → Among s all
  pub met : (s : Held) → Among s all → AreMet rules view s ⊎ Among s rest

pub all_left : (rules : List Rule) (view : View) (all rest : List Held) → rest ≡ all → AreLeft rules view all rest
all_left rules view all rest same = record {
  within = λ s h. subst (Among s) same h;
  met = λ s h. inr (subst (Among s) (sym same) h);
}

pub one_less : (rules : List Rule) (view : View) (all rest : List Held) (s : Held) → AreLeft rules view all (s ∷ rest) → AreMet rules view s
    → AreLeft rules view all rest
one_less rules view all rest s left one = record {
  within = λ t h. left.within t (inr h);
  met = λ t h. elim (left.met t h) [
    | inl w ↦ inl w
    | inr w ↦ elim w [ inl e ↦ inl (subst (AreMet rules view) e one) | inr later ↦ inr later ]
  ];
}

pub none_left : (rules : List Rule) (content : Content) (rest : List Held) → rest ≡ [] → AreLeft rules (row_at content) (rows_in content) rest
    → Holds rules (row_at content)
none_left rules content rest ended left ask s t need = elim (left.met s (held_listed content s need.stands)) [
  | inl w ↦ w ask t need
  | inr w ↦ absurd (subst (Among s) ended w)
]

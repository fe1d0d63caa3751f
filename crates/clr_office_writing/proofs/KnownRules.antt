-- Rules that are written with their known needs are read back with them.
use Rattle.std.proofs.Common.{◌≡◌, ◌⊎◌, inl, inr, ℕ, zero, suc, ◌+◌, ◌<◌, List, [], ◌∷◌, ◌++◌, length, map, filter, Option, Some, None, Ok, refl, sym, ap, subst, ◌∙◌, add-one, arith}
use Rattle.std.specs.Prelude.{◌==◌, true, slice_get}
use Rattle.std.specs.List.{AllByRecursion, enumerate_from}
use Rattle.std.specs.List.Sorted.{IsStrictlySortedBy}
use Rattle.std.proofs.lemmas.Bool.{eqb-true}
use Rattle.std.proofs.lemmas.Option.{none-some, same_Some}
use Rattle.serde_json.specs.Data.{Data}
use Rattle.serde_json.specs.View.{items_of}
use Rattle.clr_rows.specs.declared.tables.TableDef.{TableDef}
use Rattle.clr_rows.specs.Schemas.{schema_fault}
use Rattle.clr_rules.specs.declared.needs.Broken.{Broken}
use Rattle.clr_rules.specs.declared.rules.Rule.{Rule}
use Rattle.clr_rules.specs.Books.{FitsBook}
use Rattle.clr_rules.specs.Needs.{broken_cmp}
use Rattle.clr_rules.proofs.Elements.{Among, all_by, among_kept, each_of}
use Rattle.clr_rule_text.specs.declared.formats.Format.{Format}
use Rattle.clr_rule_text.specs.declared.formats.Format.TheVariants.{Third, Fourth}
use Rattle.clr_rule_text.specs.declared.named_rules.NamedRule.{NamedRule}
use Rattle.clr_rule_text.specs.declared.named_rules.NamedRule.TheVariants.{Unique, Partner, EndNode, Crossing, Near}
use Rattle.clr_rule_text.specs.declared.need_names.NeedName.{NeedName}
use Rattle.clr_rule_text.specs.declared.stated_rules.StatedRule.{StatedRule}
use Rattle.clr_rule_text.specs.Fields.{each, each_in}
use Rattle.clr_rule_text.specs.Known.{known_need, known_needs, need_name_of}
use Rattle.clr_rule_text.specs.Rules.{rules_of, stated_rule_of, stated_rules_of}
use Rattle.clr_office_writing.specs.KnownData.{known_of_rule, need_data}
use Rattle.clr_office_writing.specs.KnownFits.{FitsKnown, FitsRule}
use Rattle.clr_office_writing.specs.RuleData.{named_rule, named_rule_data, rule_data}
use Rattle.clr_office_writing.proofs.KnownRead.{need_again, need_name, need_read}
use Rattle.clr_office_writing.proofs.KnownSplit.{all_from, from_rule, none_past, of_rule, split}
use Rattle.clr_office_writing.proofs.ListsRead.{each_found, each_read}
use Rattle.clr_office_writing.proofs.RulesRead.{IsRuleWithin, named_rule_read, rules_found}

-- each rule with the names of its known needs
abbrev pub stated : List TableDef → List Broken → ℕ × Rule → StatedRule
stated tables known r = record { rule = named_rule tables r.1; known = map need_name (of_rule r.0 known) }

-- a rule without known needs, of format 3
without_read : (r : NamedRule) → IsRuleWithin r → stated_rule_of Third (named_rule_data None r) ≡ Ok (record { rule = r; known = [] })
unfolding stated_rule_of
without_read r within = rw (named_rule_read None r within) refl

-- a rule with known needs, of format 4
with_read : (r : NamedRule) (needs : List Broken) → IsRuleWithin r → each (need_name_of r) (items_of (map need_data needs)) ≡ Ok (map need_name needs)
    → stated_rule_of Fourth (named_rule_data (Some needs) r) ≡ Ok (record { rule = r; known = map need_name needs })
unfolding stated_rule_of
with_read (Unique subject columns) needs within names = rw (named_rule_read (Some needs) (Unique subject columns) within, names) refl
with_read (Partner subject columns server server_columns) needs within names =
    rw (named_rule_read (Some needs) (Partner subject columns server server_columns) within, names) refl
with_read (EndNode subject tip server) needs within names = rw (named_rule_read (Some needs) (EndNode subject tip server) within, names) refl
with_read (Crossing a b server) needs within names = rw (named_rule_read (Some needs) (Crossing a b server) within, names) refl
with_read (Near a b d) needs within names = rw (named_rule_read (Some needs) (Near a b d) within, names) refl

module _ (tables : List TableDef) where
  pub without_all : (n : ℕ) (rules : List Rule) → AllByRecursion IsRuleWithin (map (named_rule tables) rules)
      → each (stated_rule_of Third) (items_of (map (rule_data tables []) (enumerate_from n rules))) ≡ Ok (map (stated tables []) (enumerate_from n rules))
  unfolding each
  without_all n [] within = refl
  without_all n (r ∷ rules) within = rw (without_read (named_rule tables r) within.0, without_all (n + 1) rules within.1) refl

  -- the rules with their names, without those of their needs
  pub rules_of_stated : (known : List Broken) (n : ℕ) (rules : List Rule)
      → map (λ (s : StatedRule). s.rule) (map (stated tables known) (enumerate_from n rules)) ≡ map (named_rule tables) rules
  rules_of_stated known n [] = refl
  rules_of_stated known n (r ∷ rules) = ap (λ rs. named_rule tables r ∷ rs) (rules_of_stated known (n + 1) rules)

module _ (tables : List TableDef) (book : List Rule) (known : List Broken) where
  -- what a need has that is of the rule at a number
  need_fits : (n : ℕ) (r : Rule) → slice_get book n ≡ Some r → (b : Broken) → b.rule ≡ n → FitsRule tables book b → (need_name_of (named_rule tables r) (need_data b)
      ≡ Ok (need_name b)) × (known_need tables n r (need_name b) ≡ Ok b)
  need_fits n r is b here fits =
      let same : fits.of_rule ≡ r = same_Some fits.of_rule r (sym fits.is ∙ ap (slice_get book) here ∙ is) in
      subst (λ q. (need_name_of (named_rule tables q) (need_data b) ≡ Ok (need_name b)) × (known_need tables n q (need_name b) ≡ Ok b)) same
      (need_read tables fits.of_rule b fits.first fits.kind fits.parts, need_again tables n fits.of_rule b here fits.first fits.kind fits.parts)

  module _ (fits : FitsKnown tables book known) where
    each_fits : (n : ℕ) (r : Rule) → slice_get book n ≡ Some r → (b : Broken) → Among b (of_rule n known) → (need_name_of (named_rule tables r) (need_data b)
        ≡ Ok (need_name b)) × (known_need tables n r (need_name b) ≡ Ok b)
    each_fits n r is b listed =
        let kept = among_kept (λ b. b.rule == n) b known listed in
        need_fits n r is b (eqb-true b.rule n kept.1) (each_of (FitsRule tables book) b known fits.each kept.0)

    names_read : (n : ℕ) (r : Rule) → slice_get book n ≡ Some r
        → each (need_name_of (named_rule tables r)) (items_of (map need_data (of_rule n known))) ≡ Ok (map need_name (of_rule n known))
    unfolding each
    names_read n r is = go (of_rule n known) (λ b listed. (each_fits n r is b listed).0)
      where
        go : (bs : List Broken) → ((b : Broken) → Among b bs → need_name_of (named_rule tables r) (need_data b) ≡ Ok (need_name b))
            → each (need_name_of (named_rule tables r)) (items_of (map need_data bs)) ≡ Ok (map need_name bs)
        go [] one = refl
        go (b ∷ bs) one = rw (one b (inl refl), go bs (λ c listed. one c (inr listed))) refl

    needs_found : (n : ℕ) (r : Rule) → slice_get book n ≡ Some r → each_in (known_need tables n r) (map need_name (of_rule n known)) ≡ Ok (of_rule n known)
    needs_found n r is =
        each_found (λ b. known_need tables n r (need_name b) ≡ Ok b) (known_need tables n r) need_name (λ b again. again) (of_rule n known)
        (all_by (λ b. known_need tables n r (need_name b) ≡ Ok b) (of_rule n known) (λ b listed. (each_fits n r is b listed).1))

    -- the rules from a number on are those of the book
    abbrev Follow : ℕ → List Rule → Type 0
    Follow n rules = (k : ℕ) (r : Rule) → slice_get rules k ≡ Some r → slice_get book (n + k) ≡ Some r

    first_follows : (n : ℕ) (r : Rule) (rules : List Rule) → Follow n (r ∷ rules) → slice_get book n ≡ Some r
    first_follows n r rules follow = ap (slice_get book) (let e : n ≡ n + 0 = omega arith in e) ∙ follow 0 r refl

    others_follow : (n : ℕ) (r : Rule) (rules : List Rule) → Follow n (r ∷ rules) → Follow (suc n) rules
    others_follow n r rules follow = λ k q is. ap (slice_get book) (let e : suc n + k ≡ n + suc k = omega arith in e) ∙ follow (suc k) q is

    -- rules that are written with their known needs
    abbrev pub with_needs : ℕ × Rule → Data
    with_needs r = named_rule_data (Some (of_rule r.0 known)) (named_rule tables r.1)

    pub stated_read : (n : ℕ) (rules : List Rule) → Follow n rules → AllByRecursion IsRuleWithin (map (named_rule tables) rules)
        → each (stated_rule_of Fourth) (items_of (map with_needs (enumerate_from n rules))) ≡ Ok (map (stated tables known) (enumerate_from n rules))
    unfolding each
    stated_read n [] follow within = refl
    stated_read n (r ∷ rules) follow within =
        rw (with_read (named_rule tables r) (of_rule n known) within.0 (names_read n r (first_follows n r rules follow)))
        (rw (add-one n) (rw (stated_read (suc n) rules (others_follow n r rules follow) within.1) refl))

    pub needs_again : (n : ℕ) (rules : List Rule) → Follow n rules → AllByRecursion (λ b. b.rule < n + length rules) known
        → known_needs tables n rules (map (λ (s : StatedRule). s.known) (map (stated tables known) (enumerate_from n rules))) ≡ Ok (from_rule n known)
    unfolding known_needs
    needs_again n [] follow below = ap (λ bs. Ok bs) (sym (none_past n known (all_by (λ b. b.rule < n) known (λ b listed.
        let lt = each_of (λ b. b.rule < n + 0) b known below listed in omega (arith, lt)))))
    needs_again n (r ∷ rules) follow below =
        rw (needs_found n r (first_follows n r rules follow))
        (rw (add-one n)
        (rw (needs_again (suc n) rules (others_follow n r rules follow) (all_by (λ b. b.rule < suc n + length rules) known (λ b listed.
        let lt = each_of (λ b. b.rule < n + length (r ∷ rules)) b known below listed in omega (arith, lt))))
        (ap (λ bs. Ok bs) (split n known fits.ascend))))

    some_below : (rules : List Rule) (n : ℕ) (r : Rule) → slice_get rules n ≡ Some r → n < length rules
    some_below [] n r is = absurd (none-some r is)
    some_below (q ∷ rules) zero r is = omega arith
    some_below (q ∷ rules) (suc n) r is = omega (arith, some_below rules n r is)

    pub all_needs_again : known_needs tables 0 book (map (λ (s : StatedRule). s.known) (map (stated tables known) (enumerate_from 0 book))) ≡ Ok known
    all_needs_again =
        needs_again 0 book (λ k r is. ap (slice_get book) (let e : 0 + k ≡ k = omega arith in e) ∙ is) (all_by (λ b. b.rule < 0 + length book) known (λ b listed.
        let f = each_of (FitsRule tables book) b known fits.each listed in
        let lt = some_below book b.rule f.of_rule f.is in
        omega (arith, lt))) ∙ ap (λ bs. Ok bs) (all_from known)

    -- the rules of a value, where they are those of the book with these needs
    pub rules_stand : (format : Format) (d : Data) → schema_fault tables ≡ None → FitsBook tables book
        → stated_rules_of format d ≡ Ok (map (stated tables known) (enumerate_from 0 book)) → rules_of format tables d ≡ Ok (book, known)
    unfolding rules_of
    rules_stand format d schema fit read =
        rw (read, rules_of_stated tables known 0 book, rules_found tables schema book fit, fit, all_needs_again) refl

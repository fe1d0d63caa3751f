-- A sorted list of just the broken needs of all rules is the audit of a content.
use Rattle.std.proofs.Common.{◌≡◌, ◌⊎◌, inl, inr, ℕ, ◌<◌, Bool, true, false, List, [], Option, Some, None, Contains, length, refl, sym, ap, subst, ◌∙◌, arith}
use Rattle.std.proofs.lemmas.Bool.{false≢true}
use Rattle.std.specs.List.{list_any}
use Rattle.std.specs.List.Sorted.{IsStrictlySortedBy}
use Rattle.std.specs.Ordering.{is_lt}
use Rattle.clr_rows.specs.Cells.{cell_cmp}
use Rattle.clr_rows.specs.Contents.{Content, row_at}
use Rattle.clr_rules.specs.declared.needs.Ask.{Ask}
use Rattle.clr_rules.specs.declared.needs.Broken.{Broken}
use Rattle.clr_rules.specs.declared.rules.Rule.{Rule}
use Rattle.clr_rules.specs.Calls.{serves}
use Rattle.clr_rules.specs.Needs.{IsBroken, IsMet, StandsBeside, ask_of, broken_needs, broken_cmp, rows_in}
use Rattle.clr_rows.specs.Held.{Held}
use Rattle.clr_rules.proofs.AskLemmas.{rule_there}
use Rattle.clr_rules.proofs.BrokenOrder.{broken_total}
use Rattle.clr_rules.proofs.BrokenLemmas.{held_listed, listed_stands, lists_broken, lt_is}
use Rattle.clr_rules.proofs.Elements.{Among, among, contained, any_by, some_of, same_rising}
use Rattle.clr_audit.specs.Searches.{GainsBroken, IsSecondAmong, IsBrokenAmong}

-- broken among the rows of a content, and in it ------------------------------------------------
beside_stands : (content : Content) (s : Held) (t : Option Held) → IsSecondAmong (rows_in content) s t → StandsBeside (row_at content) s t
beside_stands content s None h = tt
beside_stands content s (Some t) h = (listed_stands content t (among t (rows_in content) h.0), lt_is (cell_cmp s.0 t.0) h.1)

stands_beside : (content : Content) (s : Held) (t : Option Held) → StandsBeside (row_at content) s t → IsSecondAmong (rows_in content) s t
stands_beside content s None h = tt
stands_beside content s (Some t) h = (contained t (rows_in content) (held_listed content t h.0), ap is_lt h.1)

pub is_broken : (rules : List Rule) (content : Content) (b : Broken) → IsBrokenAmong rules (rows_in content) b → IsBroken rules (row_at content) b
is_broken rules content b h = record {
  first = h.first;
  second = h.second;
  need = record {
    stands = listed_stands content h.first (among h.first (rows_in content) h.listed);
    beside = beside_stands content h.first h.second h.beside;
    they_call = h.they_call;
  };
  unmet = λ m. absurd (false≢true (sym h.unmet ∙ any_by (serves rules (ask_of b) h.first h.second) m.0 (rows_in content) (held_listed content m.0 m.1) m.2));
  named = h.named;
}

none_serves : (rules : List Rule) (content : Content) (ask : Ask) (s : Held) (t : Option Held) → (IsMet rules (row_at content) ask s t → ⊥)
    → list_any (serves rules ask s t) (rows_in content) ≡ false
none_serves rules content ask s t unmet = go (list_any (serves rules ask s t) (rows_in content)) refl
  where
    go : (b : Bool) → list_any (serves rules ask s t) (rows_in content) ≡ b → b ≡ false
    go false e = refl
    go true e = let (r, h, f) = some_of (serves rules ask s t) (rows_in content) e in absurd (unmet (r, listed_stands content r h, f))

pub broken_among : (rules : List Rule) (content : Content) (b : Broken) → IsBroken rules (row_at content) b → IsBrokenAmong rules (rows_in content) b
broken_among rules content b h = record {
  first = h.first;
  second = h.second;
  listed = contained h.first (rows_in content) (held_listed content h.first h.need.stands);
  beside = stands_beside content h.first h.second h.need.beside;
  they_call = h.need.they_call;
  unmet = none_serves rules content (ask_of b) h.first h.second h.unmet;
  named = h.named;
}

-- the audit --------------------------------------------------------------------------------------
-- the rows are those of a content, and the list has gained the needs of all rules
pub audit_is : (rules : List Rule) (content : Content) (rows : List Held) (gained list : List Broken) (count : ℕ) → rows ≡ rows_in content → length rules
    ≡ count
    → GainsBroken rules rows (λ b h. b.rule < count) [] gained → IsStrictlySortedBy broken_cmp list → ((b : Broken) → (Contains list b → Contains gained b)
    × (Contains gained b → Contains list b))
    → list ≡ broken_needs rules content
audit_is rules content rows gained list count rows_are all gains rising same =
    let whole = lists_broken rules content in
    let gains_here : GainsBroken rules (rows_in content) (λ b h. b.rule < count) [] gained =
    subst (λ (r : List Held). GainsBroken rules r (λ b h. b.rule < count) [] gained) rows_are gains in
    same_rising broken_total list (broken_needs rules content) rising whole.ascending
    (λ b h. there b (gains_here.only b ((same b).0 (contained b list h))))
    (λ b h. let is = broken_among rules content b ((whole.exactly b).0 (contained b (broken_needs rules content) h)) in
    among b list ((same b).1 (gains_here.found b is (omega (arith, all, rule_there rules (ask_of b) is.first is.second is.they_call)))))
  where
    there : (b : Broken) → Contains [] b ⊎ IsBrokenAmong rules (rows_in content) b → Among b (broken_needs rules content)
    there b (inl h) = absurd (among b [] h)
    there b (inr h) = among b (broken_needs rules content) (((lists_broken rules content).exactly b).1 (is_broken rules content b h))

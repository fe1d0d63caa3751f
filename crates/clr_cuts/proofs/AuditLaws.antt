-- Rows of a root that have what serves their needs break just what the root breaks of these.
use Rattle.std.proofs.Common.{◌∙◌, List, Option, Some, None}
use Rattle.clr_rows.specs.Held.{Held}
use Rattle.clr_rules.specs.declared.needs.Ask.{Ask}
use Rattle.clr_rules.specs.declared.needs.Broken.{Broken}
use Rattle.clr_rules.specs.declared.rules.Rule.{Rule}
use Rattle.clr_rules.specs.Needs.{Holds, IsBroken, IsMet, IsNeed, View, ask_of}
use Rattle.clr_cuts.specs.Audits.{AreSections, AreServed}
use Rattle.clr_cuts.specs.Laws.{IsAuditedAlike, IsAuditedBySections}

module _ (rules : List Rule) (root rows : View) (served : AreServed rules root rows) where
  need_up : (ask : Ask) (s : Held) (t : Option Held) → IsNeed rules rows ask s t → IsNeed rules root ask s t
  need_up ask s None need = record { stands = served.of_root s.0 s.1 need.stands; beside = tt; they_call = need.they_call }
  need_up ask s (Some t) need = record {
    stands = served.of_root s.0 s.1 need.stands;
    beside = (served.of_root t.0 t.1 need.beside.0, need.beside.1);
    they_call = need.they_call;
  }

  met_up : (ask : Ask) (s : Held) (t : Option Held) → IsMet rules rows ask s t → IsMet rules root ask s t
  met_up ask s t (r, stands, it) = (r, served.of_root r.0 r.1 stands, it)

  met_down : (ask : Ask) (s : Held) (t : Option Held) → IsNeed rules rows ask s t → IsMet rules root ask s t → IsMet rules rows ask s t
  met_down ask s t need (r, stands, it) =
      (r, served.servers r.0 r.1 stands (record { ask = ask; first = s; second = t; need = need; it_serves = it }) ∙ stands, it)

  pub audited_alike : IsAuditedAlike rules root rows
  audited_alike = record {
    met = λ ask s t need. (met_up ask s t, met_down ask s t need);
    holds = λ holds ask s t need. met_down ask s t need (holds ask s t (need_up ask s t need));
  }

  pub broken_up : (b : Broken) → IsBroken rules rows b → IsBroken rules root b
  broken_up b it = record {
    first = it.first;
    second = it.second;
    need = need_up (ask_of b) it.first it.second it.need;
    unmet = λ met. it.unmet (met_down (ask_of b) it.first it.second it.need met);
    named = it.named;
  }

  pub broken_down : (b : Broken) (it : IsBroken rules root b) → IsNeed rules rows (ask_of b) it.first it.second → IsBroken rules rows b
  broken_down b it need = record {
    first = it.first;
    second = it.second;
    need = need;
    unmet = λ met. it.unmet (met_up (ask_of b) it.first it.second met);
    named = it.named;
  }

module _ {K : Type 0} (rules : List Rule) (root : View) (sections : K → View) (are : AreSections rules root sections) where
  broken_somewhere : (b : Broken) → IsBroken rules root b → (k : K) × IsBroken rules (sections k) b
  broken_somewhere b it =
      let (k, need) = are.all (ask_of b) it.first it.second it.need in
      (k, broken_down rules root (sections k) (are.served k) b it need)

  holds_all : ((k : K) → Holds rules (sections k)) → Holds rules root
  holds_all holds ask s t need =
      let (k, there) = are.all ask s t need in
      met_up rules root (sections k) (are.served k) ask s t (holds k ask s t there)

  pub audited_by_sections : IsAuditedBySections rules root sections
  audited_by_sections = record {
    broken = λ b. (broken_somewhere b, λ h. (let (k, it) = h in broken_up rules root (sections k) (are.served k) b it));
    holds = holds_all;
  }

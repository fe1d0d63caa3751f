-- No merge set has two plans.
use Rattle.std.proofs.Common.{◌≡◌, ◌∙◌, List, [], ◌∷◌, refl, sym}
use Rattle.std.proofs.lemmas.Bool.{true≢false}
use Rattle.clr_cert.specs.declared.certificates.Certificate.{Certificate}
use Rattle.clr_cert.specs.declared.certificates.Entry.{Entry}
use Rattle.clr_clearance.proofs.OneAnswerLemmas.{one_blocked, one_cleared, one_kind, one_unfit}
use Rattle.clr_merge_sets.specs.Certificates.{entries_in, merge_set_of, witnesses_of}
use Rattle.clr_merge_sets.specs.declared.plans.Plan.TheVariants as plan
use Rattle.clr_plan.specs.OnePlan.{OnePlanLaw}

-- entries with the same witnesses are the same
same_entries : (es fs : List Entry) → entries_in es ≡ entries_in fs → es ≡ fs
same_entries [] [] same = refl
same_entries [] (f ∷ fs) same = absurd (cc)
same_entries (e ∷ es) [] same = absurd (cc)
same_entries (e ∷ es) (f ∷ fs) same =
    let head : witnesses_of e ≡ witnesses_of f = cc in
    let tail : entries_in es ≡ entries_in fs = cc in
    λ i. record { need = (head i).0; one = (head i).1; two = (head i).2 } ∷ same_entries es fs tail i

same_certificates : (c d : Certificate) → merge_set_of c ≡ merge_set_of d → c.before ≡ d.before → entries_in c.entries ≡ entries_in d.entries → c ≡ d
same_certificates c d merge_set before entries = λ i. record {
  root = (merge_set i).root;
  members = (merge_set i).members;
  before = before i;
  entries = same_entries c.entries d.entries entries i;
}

pub one_plan : OnePlanLaw
one_plan o s (plan.Unfit v) (plan.Unfit w) one two found found_too = one_unfit o s v w one two
one_plan o s (plan.Unfit v) (plan.Blocked order cause) one two found found_too = absurd ((one_kind o s v [] order.items cause).1 (one, two))
one_plan o s (plan.Unfit v) (plan.Cleared c) one two found found_too = absurd ((one_kind o s v (entries_in c.entries) [] v).0 (one, two.cleared))
one_plan o s (plan.Unfit v) plan.OutOfMemory one two found found_too = absurd (true≢false found_too)
one_plan o s (plan.Blocked order cause) (plan.Unfit v) one two found found_too = absurd ((one_kind o s v [] order.items cause).1 (two, one))
one_plan o s (plan.Blocked order cause) (plan.Blocked other reason) one two found found_too = one_blocked o s order.items other.items cause reason one two
one_plan o s (plan.Blocked order cause) (plan.Cleared c) one two found found_too =
    absurd ((one_kind o s cause (entries_in c.entries) order.items cause).2 (two.cleared, one))
one_plan o s (plan.Blocked order cause) plan.OutOfMemory one two found found_too = absurd (true≢false found_too)
one_plan o s (plan.Cleared c) (plan.Unfit v) one two found found_too = absurd ((one_kind o s v (entries_in c.entries) [] v).0 (two, one.cleared))
one_plan o s (plan.Cleared c) (plan.Blocked order cause) one two found found_too =
    absurd ((one_kind o s cause (entries_in c.entries) order.items cause).2 (one.cleared, two))
one_plan o s (plan.Cleared c) (plan.Cleared d) one two found found_too =
    same_certificates c d (one.merge_set ∙ sym two.merge_set) (one.without_order ∙ sym two.without_order)
    (one_cleared o s (entries_in c.entries) (entries_in d.entries) one.cleared two.cleared)
one_plan o s (plan.Cleared c) plan.OutOfMemory one two found found_too = absurd (true≢false found_too)
one_plan o s plan.OutOfMemory q one two found found_too = absurd (true≢false found)

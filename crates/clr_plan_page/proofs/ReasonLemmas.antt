-- Reasons of plans, and clashes of designs, that are told.
use Rattle.std.proofs.Common.{◌≡◌, ◌∙◌, ℕ, false, List, [], ◌∷◌, ◌++◌, ap, append_assoc, arith, codes, inl, inr, refl, subst, sym}
use Rattle.std.proofs.lemmas.List.{append-nil}
use Rattle.std.specs.Global.{Global}
use Rattle.std.specs.declared.vec.Vec.{Vec}
use Rattle.clr_rows.specs.Contents.{Changes}
use Rattle.clr_cert.specs.declared.certificates.Certificate.{Certificate}
use Rattle.clr_cert.specs.declared.certificates.Entry.{Entry}
use Rattle.clr_steps.specs.Offices.{Office}
use Rattle.clr_steps.specs.Quiet.{MergeSet}
use Rattle.clr_clearance.specs.declared.verdicts.Verdict.{Verdict}
use Rattle.clr_clearance.specs.Plans.{members_at}
use Rattle.clr_clearance.specs.MergeSets.{change_sets}
use Rattle.clr_merge_clashes.specs.MergeClashes.{IsFaultOfNames}
use Rattle.clr_merge_sets.specs.declared.plans.Plan.{Plan}
use Rattle.clr_merge_sets.specs.declared.plans.Plan.TheVariants as plan
use Rattle.clr_plan_answers.specs.Answers.{answer_text}
use Rattle.clr_order_sentences.specs.OrderSentences.{AreOrderSentences}
use Rattle.clr_plan_sentences.specs.Causes.{IsCause}
use Rattle.clr_plan_sentences.specs.declared.told_rows.CauseWords.{CauseWords}
use Rattle.clr_work_orders.specs.declared.trials.Trial.{Trial}
use Rattle.clr_work_orders.specs.Among.{among_text}
use Rattle.clr_page_parts.specs.Causes.{cause_shown}
use Rattle.clr_plan_page.specs.Causes.{AreBlocked, trials_shown}
use Rattle.clr_plan_page.specs.Clashes.{TellsClashes, is_lost}
use Rattle.clr_plan_page.specs.Designs.{AreDesigns, designs_shown}
use Rattle.clr_plan_page.specs.Needs.{needs_shown}
use Rattle.clr_plan_page.specs.Reasons.{AreReasons, IsWhy}
use Rattle.clr_page_parts.specs.Shown.{Adds, Shown, Heading, said}
use Rattle.clr_page_parts.proofs.SectionLemmas.{in_a_row}

-- a cause, and then what was tried
pub blocked_told : (o : Office) (s : MergeSet) (sets : List Changes) (order : List ℕ) (v : Verdict) (among : List ℕ) (trials : List Trial)
    (cause : CauseWords) (old one new : List Shown) → IsCause o s sets v cause → among ≡ among_text (members_at s order)
    → one ≡ old ++ cause_shown cause → new ≡ one ++ trials_shown among trials → Adds (AreBlocked o s sets order v trials) old new
blocked_told o s sets order v among trials cause old one new is told e f =
    let tried = trials_shown (among_text (members_at s order)) trials in (
      cause_shown cause ++ tried,
      (cause, is, refl),
      f ∙ ap (λ (text : List ℕ). one ++ trials_shown text trials) told ∙ ap (λ (blocks : List Shown). blocks ++ tried) e
          ∙ append_assoc old (cause_shown cause) tried,
    )

pub reasons_of_cleared : (o : Office) (s : MergeSet) (sets : List Changes) (p : Plan) (trials : List Trial) (c : Certificate) (entries : List Entry)
    (old new : List Shown) → p ≡ plan.Cleared c → entries ≡ c.entries → new ≡ old ++ needs_shown o s.members sets entries
    → Adds (AreReasons o s sets p trials) old new
reasons_of_cleared o s sets p trials c entries old new is same e =
    let told = needs_shown o s.members sets entries in (
      told,
      subst (λ (q : Plan). AreReasons o s sets q trials told) (sym is) (ap (needs_shown o s.members sets) same),
      e,
    )

pub reasons_of_blocked : (o : Office) (s : MergeSet) (sets : List Changes) (p : Plan) (trials : List Trial) (order : Vec ℕ Global) (v : Verdict)
    (positions : List ℕ) (old new : List Shown) → p ≡ plan.Blocked order v → positions ≡ order.items
    → Adds (AreBlocked o s sets positions v trials) old new → Adds (AreReasons o s sets p trials) old new
reasons_of_blocked o s sets p trials order v positions old new is same (more, blocked, e) = (
  more,
  subst (λ (q : Plan). AreReasons o s sets q trials more) (sym is) (subst (λ (ks : List ℕ). AreBlocked o s sets ks v trials more) same blocked),
  e,
)

pub no_reasons : (o : Office) (s : MergeSet) (sets : List Changes) (p : Plan) (trials : List Trial) (old : List Shown)
    → AreReasons o s sets p trials [] → Adds (AreReasons o s sets p trials) old old
no_reasons o s sets p trials old none = ([], none, sym (append-nil old))

pub why_whole : (o : Office) (s : MergeSet) (sets : List Changes) (p : Plan) (trials : List Trial) (words orders : List ℕ)
    (none one two three all : List Shown)
    → sets ≡ change_sets o s → words ≡ answer_text s p → AreOrderSentences o s p orders → none ≡ [] → one ≡ none ++ Heading (codes "Why") ∷ []
    → two ≡ one ++ said words → Adds (AreReasons o s sets p trials) two three → all ≡ three ++ said orders → IsWhy o s p trials all
why_whole o s sets p trials words orders none one two three all are answer told nothing e f (more, reasons, g) h = (
  more,
  subst (λ (changes : List Changes). AreReasons o s changes p trials more) are reasons,
  orders,
  told,
  in_a_row none one two all (Heading (codes "Why")) (said words) (more ++ said orders) nothing e f
      (h ∙ ap (λ (blocks : List Shown). blocks ++ said orders) g ∙ append_assoc two more (said orders))
      ∙ ap (λ (text : List ℕ). Heading (codes "Why") ∷ (said text ++ (more ++ said orders))) answer,
)

pub designs_whole : (o : Office) (s : MergeSet) (sets : List Changes) (none one two all : List Shown) → sets ≡ change_sets o s → none ≡ []
    → one ≡ none ++ Heading (codes "The designs") ∷ [] → two ≡ one ++ designs_shown o.schema s.members sets → Adds (TellsClashes o s) two all
    → AreDesigns o s all
designs_whole o s sets none one two all are nothing e f (told, clashes, g) = record {
  told = told;
  clashes = clashes;
  whole = in_a_row none one two all (Heading (codes "The designs")) (designs_shown o.schema s.members sets) told nothing e f g
      ∙ ap (λ (changes : List Changes). Heading (codes "The designs") ∷ (designs_shown o.schema s.members changes ++ told)) are;
}

-- no clashes are told where a name is unfit
pub fault_told : (o : Office) (s : MergeSet) (fault : Verdict) (old : List Shown) → IsFaultOfNames o s fault → is_lost fault ≡ false
    → Adds (TellsClashes o s) old old
fault_told o s fault old (inl named) known = ([], inr (fault, named, refl), sym (append-nil old))
fault_told o s fault old (inr lost) known = grind (arith, ap is_lost lost, known)

use Rattle.std.proofs.Common.{◌≡◌, ◌∙◌, ◌++◌, ℕ, List, ap, codes, map, string_bytes, subst₂}
use Rattle.clr_rows.specs.declared.tables.TableDef.{TableDef}
use Rattle.clr_workspaces.specs.Marks.{Name}
use Rattle.clr_clearance.specs.Plans.{members_at}
use Rattle.clr_merge_sets.specs.MergeSetNames.{merge_set}
use Rattle.clr_plan.specs.PlanLines.{plan_text}
use Rattle.clr_work_orders.specs.declared.trials.Trial.{Trial}
use Rattle.clr_plan_sentences.specs.Sentences.{IsSentences}
use Rattle.clr_work_orders.specs.Among.{among_text}
use Rattle.clr_work_orders.specs.Trials.{AreTrialsOf}
use Rattle.clr_order_sentences.specs.OrderSentences.{AreOrderSentences}
use Rattle.clr_work_orders.specs.WorkOrders.{set_apart, trials_text}
use Rattle.clr_merge_sets.proofs.ReadLemmas.{of_value}
use Rattle.clr_work_orders.proofs.work_orders.work_order.Goals as goal

-- the parts of a text are equal, so the texts are
worded : (a b among told x y lines more : List ℕ) (ts us : List Trial) → a ≡ b → among ≡ told → ts ≡ us → x ≡ y → lines ≡ more
    → a ++ trials_text among ts ++ set_apart x ++ codes "\n" ++ lines ≡ b ++ trials_text told us ++ set_apart y ++ codes "\n" ++ more
worded a b among told x y lines more ts us e f g h k =
    ap (λ (t : List ℕ). t ++ trials_text among ts ++ set_apart x ++ codes "\n" ++ lines) e
    ∙ ap (λ (t : List ℕ). b ++ trials_text t ts ++ set_apart x ++ codes "\n" ++ lines) f
    ∙ ap (λ (t : List Trial). b ++ trials_text told t ++ set_apart x ++ codes "\n" ++ lines) g
    ∙ ap (λ (t : List ℕ). b ++ trials_text told us ++ set_apart t ++ codes "\n" ++ lines) h
    ∙ ap (λ (t : List ℕ). b ++ trials_text told us ++ set_apart y ++ codes "\n" ++ t) k

pub plan_changes-planned-requires : goal.plan_changes-planned-requires
plan_changes-planned-requires c = c.as_slice.ensures.value ∙ c.in_ok-members.ensures.members.changes

pub order_sentences-requires : goal.order_sentences-requires
order_sentences-requires c =
    let read = c.in_ok-members.ensures in
    of_value c.args.office.now c.args.root.now (map (λ name. name.now) c.args.names.now) c.in_ok-members.members read.members read.names

pub try_remedies-requires : goal.try_remedies-requires
try_remedies-requires c =
    let read = c.in_ok-members.ensures in
    of_value c.args.office.now c.args.root.now (map (λ name. name.now) c.args.names.now) c.in_ok-members.members read.members read.names

pub returns-clause-order : goal.returns-clause-order
returns-clause-order c =
    let s = merge_set c.args.root.now (map (λ name. name.now) c.args.names.now) in
    let p = c.plan_changes-planned.result in
    let o = c.args.office.now in
    let m = c.in_ok-members.members in
    let read = c.in_ok-members.ensures in
    let are = of_value o s.root s.members m read.members read.names in
    let text = string_bytes c.in_ok-sentences.sentences in
    let orders = string_bytes c.in_ok-orders.orders in
    let among = c.in_ok-among.ensures ∙ ap (λ (order : List ℕ). among_text (members_at s order)) c.order_of.ensures in
    let lines = c.as_slice-3.ensures.value ∙ c.in_ok-lines.ensures
    ∙ ap (λ (tables : List TableDef). plan_text tables s.members s.root p) c.schema.ensures.value in record {
      plan = p;
      planned = record {
        plan = c.plan_changes-planned.ensures.plan;
        promises = c.plan_changes-planned.ensures.promises;
        exact = c.plan_changes-planned.ensures.exact;
      };
      sentences = string_bytes c.in_ok-sentences.sentences;
      told = subst₂ (λ (names : List Name) (root : Name). IsSentences o (merge_set root names) p text) read.names read.members.root
          (c.in_ok-sentences.ensures are);
      trials = c.in_ok-trials.trials.items;
      tried = subst₂ (λ (names : List Name) (root : Name). AreTrialsOf o (merge_set root names) p c.in_ok-trials.trials.items) read.names read.members.root
          c.in_ok-trials.ensures.tried;
      orders = orders;
      ordered = subst₂ (λ (names : List Name) (root : Name). AreOrderSentences o (merge_set root names) p orders) read.names read.members.root
          c.in_ok-orders.ensures;
      text = c.in_ok-text.ensures ∙ worded _ _ _ _ _ _ _ _ _ _ c.as_str.ensures.value (c.as_str-2.ensures.value ∙ among) c.as_slice-2.ensures.value
          c.as_str-3.ensures.value lines;
      cleared = c.is_cleared.ensures;
      lost = c.is_out_of_memory.ensures;
    }

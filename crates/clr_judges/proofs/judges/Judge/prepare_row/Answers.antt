use Rattle.std.proofs.Common.{◌∙◌, sym}
use Rattle.std.specs.Option.{option_copied}
use Rattle.clr_rows.specs.Contents.{set_cell}
use Rattle.clr_change.specs.ChangeSets.{set_change}
use Rattle.clr_workspaces.specs.Workspaces.{workspace_at}
use Rattle.clr_judges.proofs.Contents.{changes_one}
use Rattle.clr_judges.proofs.Prepared.{not_kept}
use Rattle.clr_judges.proofs.judges.Judge.prepare_row.Goals as goal

pub returns-then-not-kept-clause-prepared : goal.returns-then-not-kept-clause-prepared
returns-then-not-kept-clause-prepared c =
    not_kept c.args.self.now c.args.tree.now.list c.args.finders.now c.requires.served.are c.args.at _ (sym c.kept.ensures ∙ c.if-not-kept.true)

pub prepare_content-requires-clause-lead : goal.prepare_content-requires-clause-lead
prepare_content-requires-clause-lead c =
    let w = workspace_at c.args.tree.now.list c.args.at in record {
      next = set_cell w.current c.args.cell (option_copied c.args.row);
      lead = changes_one w.current c.args.cell (option_copied c.args.row) c.set.new.self (c.in_ok-set.ensures.ok
          ∙ (λ i. set_change (c.new-changed.ensures i) c.args.cell (c.read.ensures i) (option_copied c.args.row)));
      fit = c.requires.fit;
    }

pub returns-clause-judged : goal.returns-clause-judged
returns-clause-judged c =
    let w = workspace_at c.args.tree.now.list c.args.at in
    c.prepare_content.ensures.judged (set_cell w.current c.args.cell (option_copied c.args.row)) (changes_one w.current c.args.cell (option_copied c.args.row) c.set.new.self (c.in_ok-set.ensures.ok
    ∙ (λ i. set_change (c.new-changed.ensures i) c.args.cell (c.read.ensures i) (option_copied c.args.row))))

pub returns-clause-prepared : goal.returns-clause-prepared
returns-clause-prepared c =
    let w = workspace_at c.args.tree.now.list c.args.at in
    c.prepare_content.ensures.prepared (set_cell w.current c.args.cell (option_copied c.args.row)) (changes_one w.current c.args.cell (option_copied c.args.row) c.set.new.self (c.in_ok-set.ensures.ok
    ∙ (λ i. set_change (c.new-changed.ensures i) c.args.cell (c.read.ensures i) (option_copied c.args.row))))

use Rattle.std.proofs.Common.{◌≡◌, ℕ, List, None, Ok, ap, subst, sym, ◌∙◌}
use Rattle.clr_office_texts.specs.Drafts.{draft_in, opened_in}
use Rattle.clr_office_texts.proofs.LineEnds.{draft-ended, ended, opened-ended}
use Rattle.clr_office_reports.proofs.reports.dump_text.Goals as goal

pub returns-clause-text : goal.returns-clause-text
returns-clause-text c = c.in_ok-push.ensures.items ∙ ap ended c.in_ok-text.ensures.text

pub returns-clause-again : goal.returns-clause-again
returns-clause-again c =
    subst (λ (text : List ℕ). draft_in text ≡ Ok c.args.office.now) (sym c.in_ok-push.ensures.items)
    (draft-ended c.in_ok-text.text.items c.args.office.now c.in_ok-text.ensures.again)

pub returns-clause-admitted : goal.returns-clause-admitted
returns-clause-admitted c =
    subst (λ (text : List ℕ). opened_in text ≡ Ok (c.args.office.now, None)) (sym c.in_ok-push.ensures.items)
    (opened-ended c.in_ok-text.text.items c.args.office.now c.in_ok-text.ensures.again ∙ c.in_ok-text.ensures.admitted)

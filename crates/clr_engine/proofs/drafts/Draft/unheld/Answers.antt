use Rattle.std.proofs.Common.{◌≡◌, ℕ, Option, subst}
use Rattle.std.specs.Prelude.{IfOk}
use Rattle.clr_rules.specs.declared.needs.Broken.{Broken}
use Rattle.clr_engine.proofs.Unheld.{unheld_is}
use Rattle.clr_engine.proofs.drafts.Draft.unheld.Goals as goal

pub unheld-requires : goal.unheld-requires
unheld-requires c = let fit = c.self.invariant in record { tables = c.self.inside.schema; book = fit.book; rows = fit.rows }

pub returns : goal.returns
returns c =
    let inside = c.self.inside in
    subst (λ (first : Option (ℕ × Broken)). IfOk c.unheld.result (λ found. found ≡ first))
    (unheld_is inside.schema inside.judge c.args.known.now inside.tree.list c.args.self.now c.unheld.ensures.sound c.self.view_is) c.unheld.ensures.first

use Rattle.std.proofs.Common.{◌≡◌, ◌+◌, ◌∷◌, [], inl, inr, map, sym, subst, take, List, Contains}
use Rattle.std.proofs.lemmas.List.{take_all}
use Rattle.clr_rows.specs.declared.cells.Held.{Held as Borrowed}
use Rattle.clr_rows.specs.Held.{held_of}
use Rattle.clr_rules.proofs.Elements.{Among, among, contained, among_either}
use Rattle.clr_audit.specs.Searches.{IsOfRow, IsOfRule}
use Rattle.clr_rows.proofs.BeginningLaws.{on_err}
use Rattle.clr_audit.proofs.FitLaws.{rows_more}
use Rattle.clr_audit.proofs.Gaining.{gains_more, gains_less, gains_until}
use Rattle.clr_audit.proofs.searching.Search.add_all.Goals as goal

pub loop-first-preserved : goal.loop-first-preserved
loop-first-preserved c =
    let n = c.args.self.now.rule in
    let rows = c.args.self.now.rows.now in
    let i = c.loop-first.first-index in
    let s = held_of c.first-item.result in
    let more = rows_more rows i c.first-item.result c.loop-first-test.true c.first-item.is in
    gains_more c.args.self.now.book.now (map held_of rows) (λ b h. (b.rule ≡ n) × Contains (map held_of (take i rows)) h.first) (IsOfRow n s) (λ b h. (b.rule
    ≡ n) × Contains (map held_of (take (i + 1) rows)) h.first)
    c.args.list.now.items c.loop-first.list.items c.add_of_row.new.list.items c.loop-first.invariant c.in_ok-add_of_row.ensures.ok
    (λ b h w. elim (among_either h.first (map held_of (take i rows)) (s
    ∷ []) (subst (Among h.first) more (among h.first (map held_of (take (i + 1) rows)) w.1))) [
      | inl l ↦ inl (w.0, contained h.first (map held_of (take i rows)) l)
      | inr (inl e) ↦ inr (w.0, sym e)
      | inr (inr l) ↦ absurd l
    ])

pub returns-clause-ok : goal.returns-clause-ok
returns-clause-ok c =
    let n = c.args.self.now.rule in
    let rows = c.args.self.now.rows.now in
    gains_less c.args.self.now.book.now (map held_of rows) (λ b h. (b.rule ≡ n) × Contains (map held_of (take c.loop-first.first-index rows)) h.first)
    (IsOfRule n) c.args.list.now.items c.loop-first.list.items c.loop-first.invariant
    (λ b h w. (
      w,
      subst (λ (held : List Borrowed). Contains (map held_of held) h.first) (sym (take_all c.loop-first.first-index rows c.loop-first-test.false))
          h.listed,
    ))

pub returns-in_err-add_of_row-clause-err : goal.returns-in_err-add_of_row-clause-err
returns-in_err-add_of_row-clause-err c =
    let rows = c.args.self.now.rows.now in
    on_err _ (gains_until c.args.self.now.book.now (map held_of rows) (λ b h. (b.rule ≡ c.args.self.now.rule)
    × Contains (map held_of (take c.loop-first.first-index rows)) h.first)
    c.args.list.now.items c.loop-first.list.items c.add_of_row.new.list.items c.loop-first.invariant c.in_err-add_of_row.ensures.err)

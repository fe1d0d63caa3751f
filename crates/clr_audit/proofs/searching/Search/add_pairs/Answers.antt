use Rattle.std.proofs.Common.{◌≡◌, ◌<◌, ◌+◌, inl, inr, map, subst, ℕ, arith}
use Rattle.std.proofs.lemmas.Bool.{cases_lt}
use Rattle.clr_rows.specs.Held.{held_of}
use Rattle.clr_audit.specs.Searches.{IsOfPart, IsPaired}
use Rattle.clr_rows.proofs.BeginningLaws.{on_err}
use Rattle.clr_audit.proofs.Gaining.{gains_more, gains_less, gains_until}
use Rattle.clr_audit.proofs.NeedLaws.{first_there}
use Rattle.clr_audit.proofs.searching.Search.add_pairs.Goals as goal

pub loop-part-preserved : goal.loop-part-preserved
loop-part-preserved c =
    let n = c.args.self.now.rule in
    let s = held_of c.args.first in
    let part = c.loop-part.part in
    gains_more c.args.self.now.book.now (map held_of c.args.self.now.rows.now) (λ b h. (k : ℕ) × (k < part)
    × IsOfPart n s (k + 1) b h) (IsOfPart n s (part + 1)) (λ b h. (k : ℕ) × (k < part + 1) × IsOfPart n s (k + 1) b h)
    c.args.list.now.items c.loop-part.list.items c.add_of_part.new.list.items c.loop-part.invariant c.in_ok-add_of_part.ensures.ok
    (λ b h w. elim (cases_lt w.0 part) [
      | inl l ↦ inl (w.0, l, w.2)
      | inr l ↦ (let same : w.0 ≡ part = omega (arith, w.1, l) in inr (subst (λ (k : ℕ). IsOfPart n s (k + 1) b h) same w.2))
    ])

pub returns-clause-ok : goal.returns-clause-ok
returns-clause-ok c =
    let n = c.args.self.now.rule in
    let s = held_of c.args.first in
    let part = c.loop-part.part in
    gains_less c.args.self.now.book.now (map held_of c.args.self.now.rows.now) (λ b h. (k : ℕ) × (k < part) × IsOfPart n s (k + 1) b h) (IsPaired n s)
    c.args.list.now.items c.loop-part.list.items c.loop-part.invariant
    (λ b h w. let there = first_there c.args.self.now.book.now (map held_of c.args.self.now.rows.now) n s b h w.0 w.1 in (
      there.0,
      omega (arith, there.1, c.loop-part-test.false, c.part_count-part-end.ensures, c.loop-part.auto.part-end),
      (w.0, w.1, w.2, omega (arith, there.2)),
    ))

pub returns-in_err-add_of_part-clause-err : goal.returns-in_err-add_of_part-clause-err
returns-in_err-add_of_part-clause-err c =
    let n = c.args.self.now.rule in
    let s = held_of c.args.first in
    on_err _ (gains_until c.args.self.now.book.now (map held_of c.args.self.now.rows.now) (λ b h. (k : ℕ) × (k < c.loop-part.part) × IsOfPart n s (k + 1) b h)
    c.args.list.now.items c.loop-part.list.items c.add_of_part.new.list.items c.loop-part.invariant c.in_err-add_of_part.ensures.err)

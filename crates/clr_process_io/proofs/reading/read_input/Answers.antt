use Rattle.std.proofs.Common.{◌≡◌, ℕ, List, [], take, Option, append-nil, subst, rules}
use Rattle.std.proofs.KnownBytes.{Consumes-trans}
use Rattle.std.specs.Io.KnownBytes.{Consumes}
use Rattle.clr_process_io.proofs.reading.read_input.Goals as goal

-- a last read that gave no byte
reads_none : (before mid after : Option (List ℕ)) (text buffer : List ℕ) (count : ℕ) → count ≡ 0 → Consumes before mid text
    → Consumes mid after (take count buffer) → Consumes before after text
reads_none before mid after text buffer count none first second =
    let nothing = subst (λ n. Consumes mid after (take n buffer)) none second in
    subst (Consumes before after) (append-nil text) (Consumes-trans before mid after text [] first nothing)

pub returns-then-count-eq0-clause-whole : goal.returns-then-count-eq0-clause-whole
returns-then-count-eq0-clause-whole g c =
    (reads_none _ _ _ _ _ _ c.if-count-eq0.true c.loop-buffer.invariant.so_far c.in-Ok.ensures.bytes, c.in-Ok.ensures.end c.if-count-eq0.true, search rules)

pub loop-buffer-preserved : goal.loop-buffer-preserved
loop-buffer-preserved g c = record {
  good = search rules;
  so_far = rw c.in_ok-extend_from_slice.ensures.items (Consumes-trans _ _ _ _ _ c.loop-buffer.invariant.so_far c.in-Ok.ensures.bytes);
  room = search rules;
}

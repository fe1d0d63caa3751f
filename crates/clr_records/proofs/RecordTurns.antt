-- The records that a reader gives in turn are the records of the text: as many turns as the text has bytes are enough.
use Rattle.std.proofs.Common.{◌≡◌, ℕ, zero, suc, ◌≤◌, ◌<◌, ◌==◌, ◌&&◌, Bool, true, false, cond, List, [], ◌∷◌, length, Option, Some, None, refl, sym, ap, subst}
use Rattle.std.proofs.Common.{arith}
use Rattle.csv.specs.Machine.{Read, next_record, step, start_record, start_field, in_field, after_end, is_end, ends_at_end, ends_with, is_byte, line_feed}
use Rattle.csv.specs.Reading.{AreRecords, Reached, records, records_from}
use Rattle.csv.specs.declared.parser.Config.{Config}
use Rattle.csv.specs.declared.parser.Terminator.{Terminator}
use Rattle.csv.specs.declared.parser.Terminator.TheVariants as term
use Rattle.csv.specs.declared.parser.State.{State}
use Rattle.csv.specs.declared.parser.State.TheVariants as st
use Rattle.csv.specs.declared.parser.Action.{Action}
use Rattle.csv.specs.declared.parser.Action.TheVariants as act

-- where a byte ends a record, no record has begun after it
abbrev Rests : State × Action → Type 0
Rests p = is_end p.1 ≡ true → ends_at_end p.0 ≡ false

whichever : (b : Bool) (p q : State × Action) → Rests p → Rests q → Rests (cond b p q)
whichever true p q hp hq = hp
whichever false p q hp hq = hq

return_rests : (b : Bool) → ends_at_end (cond b st.AfterCr st.StartRecord) ≡ false
return_rests true = refl
return_rests false = refl

line_rests : (t : Terminator) (c : ℕ) → ends_at_end (after_end t c) ≡ false
line_rests term.CRLF c = return_rests _
line_rests (term.Any t) c = refl

goes_on : (s : State) (a : Action) → is_end a ≡ false → Rests (s, a)
goes_on s a e ended = cc

field_rests : (cfg : Config) (c : ℕ) → Rests (in_field cfg c)
field_rests cfg c = whichever (c == cfg.delimiter) (st.StartField, act.EndField) (cond (ends_with cfg.terminator c) (after_end cfg.terminator c, act.EndRecord)
    (st.InField, act.Copy)) (goes_on st.StartField act.EndField refl)
    (whichever (ends_with cfg.terminator c) (after_end cfg.terminator c, act.EndRecord) (st.InField, act.Copy) (λ e. line_rests cfg.terminator c)
    (goes_on st.InField act.Copy refl))

first_rests : (cfg : Config) (c : ℕ) → Rests (start_field cfg c)
first_rests cfg c = whichever (cfg.quoting && (c == cfg.quote)) (st.InQuoted, act.Skip) (in_field cfg c) (goes_on st.InQuoted act.Skip refl) (field_rests cfg c)

record_rests : (cfg : Config) (c : ℕ) → Rests (start_record cfg c)
record_rests cfg c = whichever (ends_with cfg.terminator c) (st.StartRecord, act.Skip) (cond (is_byte cfg.comment c) (st.InComment, act.Skip)
    (start_field cfg c)) (goes_on st.StartRecord act.Skip refl)
    (whichever (is_byte cfg.comment c) (st.InComment, act.Skip) (start_field cfg c) (goes_on st.InComment act.Skip refl) (first_rests cfg c))

step_rests : (cfg : Config) (s : State) (c : ℕ) → Rests (step cfg s c)
step_rests cfg st.StartRecord c = record_rests cfg c
step_rests cfg st.StartField c = first_rests cfg c
step_rests cfg st.InField c = field_rests cfg c
step_rests cfg st.InQuoted c = whichever (cfg.quoting && (c == cfg.quote)) (st.AfterQuote, act.Skip) (cond (cfg.quoting
    && is_byte cfg.escape c) (st.InEscape, act.Skip) (st.InQuoted, act.Copy)) (goes_on st.AfterQuote act.Skip refl)
    (whichever (cfg.quoting && is_byte cfg.escape c) (st.InEscape, act.Skip) (st.InQuoted, act.Copy) (goes_on st.InEscape act.Skip refl)
    (goes_on st.InQuoted act.Copy refl))
step_rests cfg st.InEscape c = goes_on st.InQuoted act.Copy refl
step_rests cfg st.AfterQuote c = whichever (cfg.quoting && cfg.double_quote && (c == cfg.quote)) (st.InQuoted, act.Copy) (in_field cfg c)
    (goes_on st.InQuoted act.Copy refl) (field_rests cfg c)
step_rests cfg st.InComment c = whichever (c == line_feed) (st.StartRecord, act.Skip) (st.InComment, act.Skip) (goes_on st.StartRecord act.Skip refl)
    (goes_on st.InComment act.Skip refl)
step_rests cfg st.AfterCr c = whichever (c == line_feed) (st.StartRecord, act.Skip) (start_record cfg c) (goes_on st.StartRecord act.Skip refl)
    (record_rests cfg c)

-- what a read of a record leaves: fewer bytes where no record had begun, and a state in which none has
record Leaves (s : State) (text : List ℕ) (p : Read) : Type 0 where
  fewer : ends_at_end s ≡ false → length p.2 < length text
  no_more : length p.2 ≤ length text
  rests : ends_at_end p.1 ≡ false

at_end : (s : State) (b : Bool) (fields : List (List ℕ)) (p : Read) → ends_at_end s ≡ b → cond b (Some (fields, st.StartRecord, [])) None ≡ Some p
    → Leaves s [] p
at_end s false fields p is e = absurd cc
at_end s true fields p is e =
    let q : Read = (fields, st.StartRecord, []) in
    let same : q ≡ p = cc in
    subst (λ (x : Read). Leaves s [] x) same (record { fewer = λ f. absurd cc; no_more = omega arith; rests = refl })

at_byte : (s : State) (b : Bool) (fields : List (List ℕ)) (s2 : State) (c : ℕ) (rest : List ℕ) (more : Option Read) (p : Read)
    → (b ≡ true → ends_at_end s2 ≡ false) → (more ≡ Some p → Leaves s2 rest p) → cond b (Some (fields, s2, rest)) more ≡ Some p → Leaves s (c ∷ rest) p
at_byte s true fields s2 c rest more p ends later e =
    let q : Read = (fields, s2, rest) in
    let same : q ≡ p = cc in
    subst (λ (x : Read). Leaves s (c ∷ rest) x) same (record { fewer = λ f. omega arith; no_more = omega arith; rests = ends refl })
at_byte s false fields s2 c rest more p ends later e =
    let left = later e in
    let le = left.no_more in
    record { fewer = λ f. omega arith; no_more = omega arith; rests = left.rests }

leaves : (cfg : Config) (text : List ℕ) (s : State) (fields : List (List ℕ)) (field : List ℕ) (p : Read) → next_record cfg s fields field text ≡ Some p
    → Leaves s text p
unfolding next_record
leaves cfg [] s fields field p e = at_end s _ _ p refl e
leaves cfg (c ∷ rest) s fields field p e = at_byte s _ _ _ c rest _ p (step_rests cfg s c) (leaves cfg rest _ _ _ p) e

-- a text has no more records than bytes
few : (cfg : Config) (rows : List (List (List ℕ))) (s s2 : State) (text left : List ℕ) → ends_at_end s ≡ false → Reached cfg s text rows s2 left
    → length rows ≤ length text
unfolding Reached
few cfg [] s s2 text left begun h = omega arith
few cfg (r ∷ rs) s s2 text left begun h =
    let one = leaves cfg text s [] [] h.0 h.1 in
    let lt = one.fewer begun in
    let le = few cfg rs h.0.1 s2 h.0.2 left one.rests h.3 in
    omega arith

enough : (cfg : Config) (rows : List (List (List ℕ))) (n : ℕ) (s s2 : State) (text left : List ℕ) → length rows < n → Reached cfg s text rows s2 left
    → next_record cfg s2 [] [] left ≡ None → records_from cfg n s text ≡ rows
unfolding Reached records_from
enough cfg [] zero s s2 text left lt h e = absurd (omega arith)
enough cfg (r ∷ rs) zero s s2 text left lt h e = absurd (omega arith)
enough cfg [] (suc n) s s2 text left lt h e =
    let none : next_record cfg s [] [] text ≡ None = rw (h.0, h.1) e in
    rw none refl
enough cfg (r ∷ rs) (suc n) s s2 text left lt h e =
    let others = enough cfg rs n h.0.1 s2 h.0.2 left (omega arith) h.3 e in
    rw (h.1, others) (ap (λ (x : List (List ℕ)). x ∷ rs) (sym h.2))

-- rows that were read in turn, up to where no more was found, are the records
pub all_read : (cfg : Config) (text : List ℕ) (rows : List (List (List ℕ))) → AreRecords cfg st.StartRecord text rows → records cfg text ≡ rows
all_read cfg text rows h =
    let le = few cfg rows st.StartRecord h.0 text h.1 refl h.2 in
    enough cfg rows _ st.StartRecord h.0 text h.1 (omega arith) h.2 h.3

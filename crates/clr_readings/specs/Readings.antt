-- One reading after another, and what a call gives beside what is read.
use Rattle.std.specs.Prelude.{◌≡◌, ℕ, Bool, Option, Some, None, Result, Ok, Err, if◌then◌else◌}
use Rattle.std.specs.Bool.{MatchBool, OnFalse}

-- one reading after another, the second of what the first gives, up to the first fault
infixl 10 ◌>>=◌
abbrev pub ◌>>=◌ : {A B E : Type 0} → Result A E → (A → Result B E) → Result B E
(Ok x) >>= f = f x
(Err e) >>= f = Err e

-- a value that is there, or a fault in its place
abbrev pub or_fault : {A E : Type 0} → E → Option A → Result A E
or_fault e None = Err e
or_fault e (Some x) = Ok x

-- Below, lacks_memory tells which fault says that memory ran out.

-- a fault that a call answers is the fault of what is read, unless it says that memory ran out
abbrev pub Fails : {A E : Type 0} → (E → Bool) → E → Result A E → Type 0
Fails lacks_memory e read = OnFalse (lacks_memory e) (read ≡ Err e)

-- a call gives what is read, as a view shows it, unless memory ran out
abbrev pub Gives : {A B E : Type 0} → (E → Bool) → (A → B) → Result A E → Result B E → Type 0
Gives lacks_memory view (Ok x) read = read ≡ Ok (view x)
Gives lacks_memory view (Err e) read = Fails lacks_memory e read

-- a fault with the number of its record is the fault of what is read, unless it says that memory ran out, with number 0
abbrev pub FailsAt : {A E : Type 0} → (E → Bool) → ℕ → E → Result A (ℕ × E) → Type 0
FailsAt lacks_memory n e read = MatchBool (lacks_memory e) (n ≡ 0) (read ≡ Err (n, e))

abbrev pub GivesAt : {A B E : Type 0} → (E → Bool) → (A → B) → Result A (ℕ × E) → Result B (ℕ × E) → Type 0
GivesAt lacks_memory view (Ok x) read = read ≡ Ok (view x)
GivesAt lacks_memory view (Err e) read = FailsAt lacks_memory e.0 e.1 read

-- a fault of a record beside its number, or beside 0 where it says that memory ran out
abbrev pub numbered_fault : {E : Type 0} → (E → Bool) → ℕ → E → ℕ × E
numbered_fault lacks_memory n e = (if lacks_memory e then 0 else n, e)

-- The meeting of two segments of one line, seen along one axis.
use Rattle.std.specs.Prelude.{◌≡◌, ◌≢◌, ℕ, ℤ, ◌*◌, ◌<◌, ◌≤◌}
use Rattle.std.specs.Int.{int_min, int_max}
use Rattle.clr_segments.specs.declared.meeting.Meet.{Meet}
use Rattle.clr_segments.specs.declared.meeting.Meet.TheVariants.{Apart, Once, Overlap}
use Rattle.clr_segments.specs.Segments.{part_way}

-- one number stands s / d of the way from p to q, and t / d of the way from r to u
pub record CommonNumber (p q r u : ℤ) (d s t : ℕ) : Type 0 where
  pub positive : 0 < d
  pub on_first : s ≤ d
  pub on_second : t ≤ d
  pub equal : part_way d s p q ≡ part_way d t r u

-- some number is common to the ways from p to q and from r to u
abbrev pub SomeCommonNumber : ℤ → ℤ → ℤ → ℤ → Type 0
SomeCommonNumber p q r u = (d : ℕ) × (s : ℕ) × (t : ℕ) × CommonNumber p q r u d s t

-- at most one number is common to both ways
abbrev pub OneCommonNumber : ℤ → ℤ → ℤ → ℤ → Type 0
OneCommonNumber p q r u = (d s t d' s' t' : ℕ)
    → CommonNumber p q r u d s t
    → CommonNumber p q r u d' s' t'
    → s * d' ≡ s' * d

-- two numbers that differ are common to both ways
pub record TwoCommonNumbers (p q r u : ℤ) : Type 0 where
  pub d : ℕ
  pub s : ℕ
  pub t : ℕ
  pub d' : ℕ
  pub s' : ℕ
  pub t' : ℕ
  pub one : CommonNumber p q r u d s t
  pub another : CommonNumber p q r u d' s' t'
  pub differ : s * d' ≢ s' * d

-- how the ranges between p and q and between r and u meet
abbrev pub RangesMeet : Meet → ℤ → ℤ → ℤ → ℤ → Type 0
RangesMeet Apart p q r u = (d s t : ℕ) → CommonNumber p q r u d s t → ⊥
RangesMeet Once p q r u = SomeCommonNumber p q r u × OneCommonNumber p q r u
RangesMeet Overlap p q r u = TwoCommonNumbers p q r u

-- the greater of the two lower ends
abbrev pub greater_low : ℤ → ℤ → ℤ → ℤ → ℤ
greater_low p q r u = int_max (int_min p q) (int_min r u)

-- the lesser of the two upper ends
abbrev pub lesser_high : ℤ → ℤ → ℤ → ℤ → ℤ
lesser_high p q r u = int_min (int_max p q) (int_max r u)

use denote.Shadow.{shadow}
use denote.Text.{Utf8}
use Rattle.clr_call_test_kit.proofs.cases.first_wrong.Given as goal

abbrev pub invariant-loop-at : goal.invariant-loop-at
invariant-loop-at g l = goal.F-IsAlwaysCallable g l.is_so × shadow (Utf8 l.left) × shadow (Utf8 l.before)

-- What is said of something in a folder that isn't as it has to be.
use Rattle.std.specs.Prelude.{ℕ, false, List, ◌++◌, codes}
use Rattle.clr_streams.specs.Shown.{shown}

-- its name on one line, and what is wrong with it
abbrev pub unfit_remark : List ℕ → List ℕ → List ℕ
unfit_remark name sentence = shown false name ++ codes ": " ++ sentence ++ codes "\n"

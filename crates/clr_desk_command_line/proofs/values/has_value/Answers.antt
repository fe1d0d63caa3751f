use Rattle.std.proofs.Common.{◌≡◌, ◌∙◌, Option, Some, None, ap, is_some, option_map, refl}
use Rattle.clap.proofs.WalkLemmas.{first_value-rows}
use Rattle.clap.specs.Words.{found_of}
use Rattle.clr_desk_command_line.proofs.values.has_value.Goals as goal

some_as : {A B : Type 0} (f : A → B) (o : Option A) → is_some o ≡ is_some (option_map f o)
some_as f (Some a) = refl
some_as f None = refl

pub returns : goal.returns
returns c = c.is_some.ensures ∙ some_as (λ s. s.now) c.get_str.result ∙ ap is_some
    (c.get_str.ensures ∙ first_value-rows (found_of c.args.matches.now) c.args.option.now)

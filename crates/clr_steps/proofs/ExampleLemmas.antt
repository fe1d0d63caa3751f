-- The examples, computed.
use Rattle.std.proofs.Common.{refl}
use Rattle.clr_rows.specs.Names.{is_good_name}
use Rattle.clr_steps.specs.Names.{same_name, is_live}
use Rattle.clr_steps.specs.Offices.{workspace, stands, is_kept, content_of}
use Rattle.clr_steps.specs.Effects.{rolled_content, after_create, after_remove, after_mark, after_unmark, after_roll_to, after_roll_all, set_kept, effect}
use Rattle.clr_steps.specs.Refusals.{depth_within, has_child, breaks, refusals_of, refusal}
use Rattle.clr_steps.specs.Steps.{step}
use Rattle.clr_steps.specs.Examples.{NameExample, SavepointExample, RollExample, LevelExample}

pub names : NameExample
unfolding refusal refusals_of effect step same_name is_live workspace stands is_kept content_of after_create set_kept breaks has_child depth_within is_good_name
names = refl

pub savepoints : SavepointExample
unfolding refusal refusals_of effect step same_name is_live workspace stands is_kept content_of after_create after_remove after_mark after_unmark after_roll_to
    rolled_content breaks has_child depth_within is_good_name
savepoints = refl

pub rolls : RollExample
unfolding refusal refusals_of effect step same_name is_live workspace stands is_kept content_of after_create after_remove after_mark after_unmark after_roll_to
    after_roll_all rolled_content breaks has_child depth_within is_good_name
rolls = refl

pub levels : LevelExample
unfolding refusal refusals_of effect step same_name is_live workspace stands is_kept content_of after_create breaks has_child depth_within is_good_name
levels = refl

use Rattle.clr_skipped_records.proofs.SoundLemmas.{sound_records_are_sound, sound_texts_are_read}
use Rattle.clr_skipped_records.proofs.laws.sound_records_stay_sound.Goals as goal

pub returns-clause-records : goal.returns-clause-records
returns-clause-records c = sound_records_are_sound

pub returns-clause-texts : goal.returns-clause-texts
returns-clause-texts c = sound_texts_are_read c.faults_tell_refusals.ensures

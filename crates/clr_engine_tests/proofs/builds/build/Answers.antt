use Rattle.clr_engine_tests.proofs.PartLemmas.{bare_parts_fit}
use Rattle.clr_engine_tests.proofs.builds.build.Goals as goal

pub build-requires : goal.build-requires
build-requires c =
    let read = c.args.read in
    bare_parts_fit read.schema read.book read.live c.args.parts.items c.requires.fits.book c.requires.fits.live c.requires.bare

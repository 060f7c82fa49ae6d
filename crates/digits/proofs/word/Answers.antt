-- `digits::word` meets its contract. Assumes nothing.
use Rattle.digits.proofs.Words.{bytes_of}
use Rattle.digits.proofs.word.Goals as goal

pub returns : goal.returns
returns c = bytes_of c.args.a c.args.b c.args.c c.args.d c.ranges.a.fits c.ranges.b.fits c.ranges.c.fits c.ranges.d.fits

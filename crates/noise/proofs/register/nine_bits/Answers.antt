-- The two bytes hold the nine bits.
use Rattle.noise.proofs.Seeds.{nine_bits_lem}
use Rattle.noise.proofs.register.nine_bits.Goals as goal

pub returns : goal.returns
returns c = simp (c.from.ensures, c.from-2.ensures) (nine_bits_lem c.args.bytes.now c.args.lane c.fits-bytes)

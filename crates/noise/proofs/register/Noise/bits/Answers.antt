-- The lane and the channel are inside.
use Rattle.std.proofs.lemmas.Bool.{lt-ltb}
use Rattle.noise.proofs.Lanes.{channel_of_lane}
use Rattle.noise.proofs.register.Noise.bits.Goals as goal

pub returns-then-channel-lt3 : goal.returns-then-channel-lt3
returns-then-channel-lt3 c =
    rw (lt-ltb c.args.lane 16 c.if-lane-lt16.true, lt-ltb c.args.channel 3 c.if-channel-lt3.true) (channel_of_lane c.args.self.now.lanes c.args.lane c.args.channel c.if-channel-lt3.true)

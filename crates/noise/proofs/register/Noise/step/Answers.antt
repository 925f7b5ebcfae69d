-- The new bit is the taps', and the rest is moved up.
use Rattle.std.proofs.Common.{◌≡◌, ◌+◌, ◌*◌, ◌%◌, ◌^◌, ap, ◌∙◌, arith}
use Rattle.noise.specs.Noise.{number_of, stepped}
use Rattle.noise.proofs.Steps.{tapped_below, stepped_bits}
use Rattle.noise.proofs.register.Noise.step.Goals as goal

pub moved_up-self-requires : goal.moved_up-self-requires
moved_up-self-requires c = let b = tapped_below (number_of 9 c.args.self.now.lanes) in omega arith

pub returns : goal.returns
unfolding stepped
returns c =
    let was = number_of 9 c.args.self.now.lanes in
    let e : number_of 9 c.moved_up-self.result ≡ stepped was = c.moved_up-self.ensures ∙ ap (λ f. (was * 2 + f) % 2 ^ 144) c.taps-fresh.ensures in
    record { number = e; bits = rw e (stepped_bits was) }

-- Worked words of the two units.
use Rattle.std.specs.Prelude.{◌≡◌, ◌*◌, ◌^◌, true, pos, negsuc}
use Rattle.ieee.specs.Laws.{twice_midpoint}
use Rattle.units.specs.Rules.{half, single}
use Rattle.ieee.specs.Operations.{number}

pub record HalfWords : Type 0 where
  pub tie_to_even_below : half.add 0x3C00 0x1000 ≡ 0x3C00
  pub tie_to_even_above : half.add 0x3C01 0x1000 ≡ 0x3C02
  pub below_midpoint : half.add 0x7BFF 0x4BFF ≡ 0x7BFF
  pub at_midpoint : half.add 0x7BFF 0x4C00 ≡ 0x7C00
  pub third : half.div 0x3C00 0x4200 ≡ 0x3555
  pub root_of_two : half.sqrt 0x4000 ≡ 0x3DA8
  pub minus_half : half.floor 0xB800 ≡ 0xBC00
  pub rounded_twice : half.number (pos 1074266113) ≡ 0x7400
  pub rounded_once : number 11 15 (pos 1074266113) ≡ 0x7401
  pub smallest_setting : half.number (pos 1) ≡ 0x0100
  pub overflow_at_65520 : twice_midpoint 11 15 ≡ 2 * (65520 * 2 ^ 24)
  pub minus_zero : half.negative 0x8000 ≡ true
  pub upper_bits : half.add 0xFFFF3C00 0xABCD3C00 ≡ 0x4000
  pub payload : half.abs 0xFE01 ≡ 0x7E01

pub record SingleWords : Type 0 where
  pub tie_to_even_below : single.add 0x3F800000 0x33800000 ≡ 0x3F800000
  pub tie_to_even_above : single.add 0x3F800001 0x33800000 ≡ 0x3F800002
  pub third : single.div 0x3F800000 0x40400000 ≡ 0x3EAAAAAB
  pub root_of_two : single.sqrt 0x40000000 ≡ 0x3FB504F3
  pub minus_half : single.floor 0xBF000000 ≡ 0xBF800000
  pub greatest_setting : single.number (pos 2147483647) ≡ 0x47000000
  pub smallest_setting : single.number (negsuc 0) ≡ 0xB7800000

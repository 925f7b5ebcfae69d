-- The lanes and the bits of a seed.
use Rattle.std.proofs.Common.{◌≡◌, ℕ, ◌+◌, ◌*◌, ◌/◌, ◌%◌, ◌^◌, ◌<◌, List, length, get_or, sym, ap, ◌∙◌, arith}
use Rattle.std.proofs.lemmas.Nat.{shr-shr}
use Rattle.noise.specs.Noise.{bit, number_of, Seeded}
use Rattle.noise.proofs.Numbers.{part_below, bit_below, number_below, entry_is}

module _ (bytes : List ℕ) where
  -- two bytes in a row are sixteen bits
  pair_is : (s : ℕ) → get_or bytes s 0 < 256 → get_or bytes (s + 1) 0 < 256 → get_or bytes s 0 + get_or bytes (s + 1) 0 * 256 ≡ number_of 8 bytes / 2 ^ (8 * s) % 2 ^ 16
  pair_is s p q =
      let e : 8 * (s + 1) ≡ 8 * s + 8 = omega arith in
      let next : number_of 8 bytes / 2 ^ (8 * (s + 1)) ≡ number_of 8 bytes / 2 ^ (8 * s) / 256 = ap (λ x. number_of 8 bytes / 2 ^ x) e ∙ sym (shr-shr (number_of 8 bytes) (8 * s) 8) in
      let a = entry_is 8 bytes s in
      let b = entry_is 8 bytes (s + 1) in
      omega arith

  pub nine_bits_lem : (lane : ℕ) → ((i : ℕ) → get_or bytes i 0 < 256) → (get_or bytes (lane + lane / 8) 0 + get_or bytes (lane + lane / 8 + 1) 0 * 256) / 2 ^ (lane % 8) % 512 ≡ number_of 8 bytes / 2 ^ (9 * lane) % 512
  nine_bits_lem lane fit =
      let s : ℕ = lane + lane / 8 in
      let e : 8 * s + lane % 8 ≡ 9 * lane = omega arith in
      ap (λ p. p / 2 ^ (lane % 8) % 512) (pair_is s (fit s) (fit (s + 1)))
      ∙ (part_below (number_of 8 bytes / 2 ^ (8 * s)) 16 (lane % 8) 9 (omega arith)
      ∙ (ap (λ x. x % 512) (shr-shr (number_of 8 bytes) (8 * s) (lane % 8)) ∙ ap (λ x. number_of 8 bytes / 2 ^ x % 512) e))

  pub seed_below : length bytes ≡ 18 → number_of 8 bytes < 2 ^ 144
  seed_below l = let b : number_of 8 bytes < 2 ^ (8 * 18) = rw l at (number_below 8 bytes) in b

  pub seed_bits : length bytes ≡ 18 → Seeded bytes (number_of 8 bytes)
  seed_bits l =
      record {
        small = seed_below l;
        held = λ j b h k.
            let m : ℕ = number_of 8 bytes / 2 ^ (8 * j) in
            ap (λ x. x % 2) (sym (shr-shr (number_of 8 bytes) (8 * j) b))
            ∙ (sym (bit_below m 8 b k) ∙ (ap (λ x. bit x b) (entry_is 8 bytes j) ∙ bit_below (get_or bytes j 0) 8 b k));
      }

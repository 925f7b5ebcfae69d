-- What a word stands for, by its pattern's place against infinity's.
use Rattle.std.proofs.Common.{◌≡◌, ℕ, ◌<◌, Bool, sym, ◌∙◌, arith}
use Rattle.std.proofs.lemmas.Bool.{cond-true, cond-false, eq-eqb, ne_eqb}
use Rattle.ieee.specs.Formats.{not_number, infinite, finite, infinity, pattern, negative, steps, decode, value_of}
use Rattle.ieee.proofs.FormatLaws.{under_infinity, from_infinity}

same : (p e w m : ℕ) (s : Bool) → m ≡ pattern p e w → s ≡ negative p e w → value_of p e s m ≡ decode p e w
unfolding decode
same p e w m s a b = rw (a, b)

pub finite_word : (p e w m : ℕ) (s : Bool) → m ≡ pattern p e w → s ≡ negative p e w → m < infinity p e → finite s (steps p m) ≡ decode p e w
finite_word p e w m s a b h = sym (under_infinity p e s m h) ∙ same p e w m s a b

pub infinite_word : (p e w m : ℕ) (s : Bool) → m ≡ pattern p e w → s ≡ negative p e w → m ≡ infinity p e → infinite s ≡ decode p e w
infinite_word p e w m s a b h = sym (from_infinity p e s m (omega arith) ∙ cond-true _ _ _ (eq-eqb m (infinity p e) h)) ∙ same p e w m s a b

pub other_word : (p e w m : ℕ) (s : Bool) → m ≡ pattern p e w → s ≡ negative p e w → infinity p e < m → not_number ≡ decode p e w
other_word p e w m s a b h =
    sym (from_infinity p e s m (omega arith) ∙ cond-false _ _ _ (ne_eqb m (infinity p e) (λ (x : m ≡ infinity p e). omega arith))) ∙ same p e w m s a b

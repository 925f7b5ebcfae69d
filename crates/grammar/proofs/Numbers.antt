-- Decimal numbers of at most 65535, read digit by digit.
use Rattle.std.proofs.Common.{◌≡◌, ℕ, zero, suc, ◌+◌, ◌-◌, ◌*◌, ◌^◌, ◌<◌, ◌≤◌, true, List, [], ◌∷◌, length, get_or, Some, None, decimal, Option, sym, ap, ◌∙◌, inl, inr, arith, rules, MatchOption, nat_le, ◌≢◌}
use Rattle.std.specs.Str.{all_ascii_digits}
use Rattle.std.proofs.lemmas.Str.Parse.{IsNumeralModel, numerals_by_fold}
use Rattle.std.proofs.lemmas.Fmt.{digits_decimal, digits_value-decimal, decimal-digits_value, decimal_nonempty, first_decimal, decimal_digit, decimal_injective}
use Rattle.std.specs.List.{between}
use Rattle.std.proofs.lemmas.Slice.{first_rest}
use Rattle.std.specs.Bool.{then_some}
use Rattle.std.proofs.lemmas.Bool.{cases_Bool, leb-true, leb-false, cases_lt}
use Rattle.grammar.specs.Grammar.{read_on, ReadsOn, NotNumber, NumberUpTo}

own : IsNumeralModel (λ ds. all_ascii_digits ds ≡ true) (read_on 0)
own = numerals_by_fold _ (search rules) read_on (search rules)

pub grows : (n : ℕ) (ds : List ℕ) → n ≤ read_on n ds
grows n [] = omega arith
grows n (c ∷ ds) = omega (arith, grows (n * 10 + (c - 48)) ds)

wide : (v : ℕ) → v ≤ 65535 → v < 2 ^ 64
wide v h = omega arith

pub none_empty : (ds : List ℕ) → length ds ≡ 0 → NotNumber 65535 ds
none_empty ds e v h d = omega (arith, decimal_nonempty v (wide v h), ap length d)

-- only 0 has a zero in front
pub none_padded : (ds : List ℕ) → 1 < length ds → get_or ds 0 0 ≡ 48 → NotNumber 65535 ds
none_padded ds more f zero h d = omega (arith, ap length (d ∙ decimal_digit 0 (omega arith)))
none_padded ds more f (suc v) h d = omega (arith, ap (λ l. get_or l 0 0) d, first_decimal (suc v) (omega arith) (wide (suc v) h))

alone_from : (ds : List ℕ) → 0 < length ds → (1 < length ds → ⊥) → length ds ≡ 1
alone_from ds some h = elim (cases_lt 1 (length ds)) [ inl l ↦ absurd (h l) | inr l ↦ omega arith ]

pub by_digits : (ds : List ℕ) (r : Option ℕ) → 0 < length ds → ((1 < length ds) × (get_or ds 0 0 ≡ 48) → ⊥) → ReadsOn 0 ds r → MatchOption r (NotNumber 65535 ds) (NumberUpTo 65535 ds)
by_digits ds None some f h = λ v le d. omega (arith, h (rw d (digits_decimal own v (wide v le))), ap (read_on 0) d, digits_value-decimal own v (wide v le))
by_digits ds (Some v) some f h =
    let le = h.2 in
    (le, sym (decimal-digits_value own ds h.0 some (λ e. alone_from ds some (λ more. f (more, e))) (omega (arith, h.1))) ∙ ap decimal (sym h.1))

-- what a test of the digits says of numbers
pub ruleset numerals = (none_empty, none_padded, by_digits)

-- a number has one text, and a text one number
pub same_number : (v w : ℕ) → v ≤ 65535 → w ≤ 65535 → decimal v ≡ decimal w → v ≡ w
same_number v w p q e = decimal_injective v w (wide v p) (wide w q) e

module _ (text : List ℕ) (some : 0 < length text) (dollar : get_or text 0 0 ≡ 36) where
  split : text ≡ 36 ∷ between 1 (length text) text
  split = first_rest text 0 some ∙ ap (λ b. b ∷ between 1 (length text) text) dollar

  pub no_register : ((v : ℕ) → v ≤ 31 → between 1 (length text) text ≡ decimal v → ⊥) → (v : ℕ) → v ≤ 31 → text ≡ 36 ∷ decimal v → ⊥
  no_register h v le e =
      let s = split in
      let same : between 1 (length text) text ≡ decimal v = cc in
      h v le same

  -- a number behind a dollar sign is a register where it is at most 31
  pub register_or_none : (n : ℕ) → NumberUpTo 65535 (between 1 (length text) text) n → MatchOption (then_some (nat_le n 31) n) ((v : ℕ) → v ≤ 31 → text ≢ 36 ∷ decimal v) (λ v. (v ≤ 31) × (text ≡ 36 ∷ decimal v))
  register_or_none n told =
      elim (cases_Bool (nat_le n 31)) [
        | inl small ↦ rw small (leb-true n 31 small, split ∙ ap (λ l. 36 ∷ l) told.1)
        | inr large ↦ rw large (no_register (λ v le e. omega (arith, leb-false n 31 large, same_number v n (omega arith) told.0 (sym e ∙ told.1))))
      ]

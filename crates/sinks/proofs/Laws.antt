-- A placed block, and what puts and gets make of each other.
use Rattle.std.proofs.Common.{◌≡◌, ℕ, ◌<◌, List, [], map, length, get_or, Ok, Err, Result, ap, ◌∙◌, inl, inr, arith}
use Rattle.std.proofs.lemmas.List.{length-set, set-set, get_or-set_same, get_or-set_other, get_or-map}
use Rattle.std.proofs.lemmas.Bool.{cases_lt, lt-ltb, le-ltb, cond-true, cond-false}
use Rattle.sinks.specs.declared.fault.Fault.{Fault}
use Rattle.sinks.specs.declared.fault.Fault.TheVariants.{Place}
use Rattle.sinks.specs.Pictures.{Picture, Put, block_count, colour_of, placed, colour_at, get_answer}
use Rattle.sinks.specs.Laws.{PutThenGot}

module _ (p : Picture) (place : ℕ) (values : List ℕ) where
  count_placed : block_count (placed p place values) ≡ block_count p
  unfolding block_count placed
  count_placed = length-set p.blocks place (map colour_of values)

  placed_twice : (others : List ℕ) → placed (placed p place values) place others ≡ placed p place others
  unfolding placed
  placed_twice others = ap (λ (bs : List (List ℕ)). record { blocks = bs }) (set-set p.blocks place (map colour_of values) (map colour_of others))

  colour_same : (lane : ℕ) → place < block_count p → lane < length values → colour_at (placed p place values) place lane ≡ colour_of (get_or values lane 0)
  unfolding block_count placed colour_at
  colour_same lane h l = ap (λ b. get_or b lane 0) (get_or-set_same p.blocks place (map colour_of values) [] h) ∙ get_or-map colour_of values lane 0 0 l

  colour_other : (at lane : ℕ) → (at ≡ place → ⊥) → colour_at (placed p place values) at lane ≡ colour_at p at lane
  unfolding placed colour_at
  colour_other at lane n = ap (λ b. get_or b lane 0) (get_or-set_other p.blocks place at (map colour_of values) [] n)

  -- a put that is taken
  module _ (r : Result (Unit {0}) Fault) (p' : Picture) (d : Put p place values r p') (t : r ≡ Ok tt) where
    there : place < block_count p
    there =
        elim (cases_lt place (block_count p)) [
          | inl h ↦ h
          | inr h ↦ let n : r ≡ Err Place = d.answer ∙ cond-false _ _ _ (le-ltb place (block_count p) h) in let z : ◌≡◌ {A = ℕ} 0 1 = cc in absurd (omega arith)
        ]

    taken : p' ≡ placed p place values
    taken = d.leaves ∙ cond-true _ _ _ (lt-ltb place (block_count p) there)

    kept : block_count p' ≡ block_count p
    kept = ap block_count taken ∙ count_placed

    pub then_put : (others : List ℕ) (s : Result (Unit {0}) Fault) (p'' : Picture) → Put p' place others s p'' → Put p place others s p''
    then_put others s p'' q =
        record {
          answer = rw kept at q.answer;
          leaves = q.leaves ∙ rw (kept, lt-ltb place (block_count p) there, taken) (placed_twice others);
        }

    pub then_got : (at lane : ℕ) (s : Result ℕ Fault) → length values ≡ 16 → s ≡ get_answer p' at lane → PutThenGot p place values at lane s p'
    then_got at lane s l e =
        record {
          leaves = d.leaves;
          count = kept;
          refused = λ h. absurd (omega (arith, there));
          same = λ h a k. e ∙ rw (taken, a, count_placed, lt-ltb place (block_count p) h, lt-ltb lane 16 k, colour_same lane h (omega arith));
          no_lane = λ h a k. e ∙ rw (taken, a, count_placed, lt-ltb place (block_count p) h, le-ltb lane 16 k);
          other = λ h n. e ∙ rw (taken, count_placed, colour_other at lane n);
        }

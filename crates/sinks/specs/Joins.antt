-- Two pictures in a row.
use Rattle.std.specs.Prelude.{◌≡◌, ℕ, zero, suc, ◌+◌, ◌-◌, ◌<◌, ◌≤◌, min, Bool, true, false, cond, ltb, List, [], ◌∷◌, ◌++◌, map, take, Err, Result, nat_lt, slice_index, slice_set, refl}
use Rattle.std.proofs.Common.{sym, ◌∙◌, inl, inr, arith}
use Rattle.std.proofs.Math.Path.{ap}
use Rattle.std.proofs.ByRecursion.{All-append, All-take}
use Rattle.std.proofs.lemmas.List.{length-take, length-append, get_or-take, get_or_append_left, get_or-append_right, set-append_left, set-append_right}
use Rattle.std.proofs.lemmas.Bool.{cases_lt, lt-ltb, le-ltb}
use Rattle.sinks.specs.declared.fault.Fault.{Fault}
use Rattle.sinks.specs.declared.fault.Fault.TheVariants.{Place}
use Rattle.sinks.specs.Pictures.{Picture, most_blocks, Good, GoodBlock, Put, block_count, colour_of, placed, colour_at, get_answer, joined}

pub count_joined : (a b : Picture) → block_count (joined a b) ≡ min (block_count a + block_count b) most_blocks
unfolding block_count joined
count_joined a b = simp (length-take, length-append) (omega arith)

pub good_joined : (a b : Picture) → Good a → Good b → Good (joined a b)
unfolding joined
good_joined a b g h =
    record {
      few = rw (count_joined a b) (omega arith);
      colours = All-take GoodBlock most_blocks (a.blocks ++ b.blocks) (All-append GoodBlock a.blocks b.blocks g.colours h.colours);
    }

take_set : {X : Type 0} (n : ℕ) (xs : List X) (i : ℕ) (x : X) → take n (slice_set xs i x) ≡ slice_set (take n xs) i x
take_set zero xs i x = refl
take_set (suc n) [] i x = refl
take_set (suc n) (y ∷ ys) zero x = refl
take_set (suc n) (y ∷ ys) (suc i) x = ap (λ zs. y ∷ zs) (take_set n ys i x)

same_test : (a b c d : ℕ) → (a < b → c < d) → (b ≤ a → d ≤ c) → nat_lt a b ≡ nat_lt c d
same_test a b c d f g =
    elim (cases_lt a b) [
      | inl h ↦ lt-ltb a b h ∙ sym (lt-ltb c d (f h))
      | inr h ↦ le-ltb a b h ∙ sym (le-ltb c d (g h))
    ]

in_both : (t : Bool) (f : Picture → Picture) (x y z : Picture) → f x ≡ z → f (cond t x y) ≡ cond t z (f y)
in_both true f x y z e = e
in_both false f x y z e = refl

module _ (a b : Picture) (place : ℕ) (cut : place < most_blocks) where
  module _ (h : place < block_count a) where
    test_first : ltb place (block_count (joined a b)) ≡ nat_lt place (block_count a)
    test_first = same_test place (block_count (joined a b)) place (block_count a) (λ _. h) (λ u. omega (arith, count_joined a b))

    placed_first : (values : List ℕ) → joined (placed a place values) b ≡ placed (joined a b) place values
    unfolding block_count joined placed
    placed_first values =
        ap (λ (bs : List (List ℕ)). record { blocks = bs }) (ap (take most_blocks) (sym (set-append_left a.blocks b.blocks place (map colour_of values) h)) ∙ take_set most_blocks (a.blocks ++ b.blocks) place (map colour_of values))

    pub put_first : (values : List ℕ) (r : Result (Unit {0}) Fault) (a' : Picture) → Put a place values r a' → Put (joined a b) place values r (joined a' b)
    put_first values r a' p =
        record {
          answer = rw test_first p.answer;
          leaves = rw (test_first, p.leaves) (in_both (nat_lt place (block_count a)) (λ x. joined x b) (placed a place values) a (placed (joined a b) place values) (placed_first values));
        }

    colour_first : (lane : ℕ) → colour_at (joined a b) place lane ≡ colour_at a place lane
    unfolding block_count joined colour_at
    colour_first lane = ap (λ block. slice_index block lane) (get_or-take most_blocks (a.blocks ++ b.blocks) place [] cut ∙ get_or_append_left a.blocks b.blocks [] place h)

    pub get_first : (lane : ℕ) → get_answer a place lane ≡ get_answer (joined a b) place lane
    get_first lane = rw (test_first, colour_first lane)

  module _ (n : ℕ) (e : n ≡ block_count a) (h : n ≤ place) where
    test_second : ltb place (block_count (joined a b)) ≡ nat_lt (place - n) (block_count b)
    test_second = same_test place (block_count (joined a b)) (place - n) (block_count b) (λ u. omega (arith, count_joined a b)) (λ u. omega (arith, count_joined a b))

    placed_second : (values : List ℕ) → joined a (placed b (place - n) values) ≡ placed (joined a b) place values
    unfolding block_count joined placed
    placed_second values =
        ap (λ (bs : List (List ℕ)). record { blocks = bs }) (ap (take most_blocks) (sym (set-append_right a.blocks b.blocks n place (map colour_of values) (sym e) h)) ∙ take_set most_blocks (a.blocks ++ b.blocks) place (map colour_of values))

    pub put_second : (values : List ℕ) (r : Result (Unit {0}) Fault) (b' : Picture) → Put b (place - n) values r b' → Put (joined a b) place values r (joined a b')
    put_second values r b' p =
        record {
          answer = rw test_second p.answer;
          leaves = rw (test_second, p.leaves) (in_both (nat_lt (place - n) (block_count b)) (joined a) (placed b (place - n) values) b (placed (joined a b) place values) (placed_second values));
        }

    colour_second : (lane : ℕ) → colour_at (joined a b) place lane ≡ colour_at b (place - n) lane
    unfolding block_count joined colour_at
    colour_second lane = ap (λ block. slice_index block lane) (get_or-take most_blocks (a.blocks ++ b.blocks) place [] cut ∙ get_or-append_right a.blocks b.blocks n place [] (sym e) h)

    pub get_second : (lane : ℕ) → get_answer b (place - n) lane ≡ get_answer (joined a b) place lane
    get_second lane = rw (test_second, colour_second lane)

-- a place behind the cut
module _ (a b : Picture) (place : ℕ) (h : most_blocks ≤ place) where
  cut_off : ltb place (block_count (joined a b)) ≡ false
  cut_off = le-ltb place (block_count (joined a b)) (omega (arith, count_joined a b))

  pub put_cut : (values : List ℕ) → Put (joined a b) place values (Err Place) (joined a b)
  put_cut values = record { answer = rw cut_off; leaves = rw cut_off }

  pub get_cut : (lane : ℕ) → Err Place ≡ get_answer (joined a b) place lane
  get_cut lane = rw cut_off

-- What a sink holds, and what a put and a get mean.
use Rattle.std.specs.Prelude.{◌≡◌, ℕ, ◌-◌, ◌%◌, ◌<◌, ◌≤◌, cond, List, [], ◌++◌, map, length, take, Ok, Err, Result, nat_lt, slice_index, slice_index_or, slice_set}
use Rattle.std.specs.List.{AllByRecursion}
use Rattle.sinks.specs.declared.fault.Fault.{Fault}
use Rattle.sinks.specs.declared.fault.Fault.TheVariants.{Place, Lane}

abbrev pub most_blocks : ℕ
most_blocks = 19200

-- the colours of each block, lane by lane
pub record Picture : Type 0 where
  pub blocks : List (List ℕ)

unfoldable pub block_count : Picture → ℕ
block_count p = length p.blocks

-- a value's low twelve bits
abbrev pub colour_of : ℕ → ℕ
colour_of v = v % 4096

-- sixteen colours
abbrev pub GoodBlock : List ℕ → Type 0
GoodBlock b = (length b ≡ 16) × AllByRecursion (λ c. c < 4096) b

pub record Good (p : Picture) : Type 0 where
  pub few : block_count p ≤ most_blocks
  pub colours : AllByRecursion GoodBlock p.blocks

-- the picture with one block replaced
unfoldable pub placed : Picture → ℕ → List ℕ → Picture
placed p place values = record { blocks = slice_set p.blocks place (map colour_of values) }

-- the colour of a lane of a block
unfoldable pub colour_at : Picture → ℕ → ℕ → ℕ
colour_at p place lane = slice_index (slice_index_or p.blocks place []) lane

-- what a put answers, and the picture that it leaves
abbrev pub put_answer : Picture → ℕ → Result (Unit {0}) Fault
put_answer p place = cond (nat_lt place (block_count p)) (Ok tt) (Err Place)

abbrev pub after_put : Picture → ℕ → List ℕ → Picture
after_put p place values = cond (nat_lt place (block_count p)) (placed p place values) p

pub record Put (before : Picture) (place : ℕ) (values : List ℕ) (r : Result (Unit {0}) Fault) (after : Picture) : Type 0 where
  pub answer : r ≡ put_answer before place
  pub leaves : after ≡ after_put before place values

-- what a get answers: the place is looked at first
abbrev pub get_answer : Picture → ℕ → ℕ → Result ℕ Fault
get_answer p place lane = cond (nat_lt place (block_count p)) (cond (nat_lt lane 16) (Ok (colour_at p place lane)) (Err Lane)) (Err Place)

-- one picture's blocks and then another's, cut at 19,200
unfoldable pub joined : Picture → Picture → Picture
joined a b = record { blocks = take most_blocks (a.blocks ++ b.blocks) }

-- a put in two pictures in a row goes to the one that holds its place, and the other stays
pub record PutInRow (a b : Picture) (place : ℕ) (values : List ℕ) (r : Result (Unit {0}) Fault) (a' b' : Picture) : Type 0 where
  pub first : place < block_count a → Put a place values r a' × (b' ≡ b)
  pub second : block_count a ≤ place → place < most_blocks → (a' ≡ a) × Put b (place - block_count a) values r b'
  pub cut : most_blocks ≤ place → (a' ≡ a) × (b' ≡ b)

-- What puts and gets make of each other.
use Rattle.std.specs.Prelude.{◌≡◌, ℕ, ◌<◌, ◌≤◌, List, Ok, Err, Result, ◌≢◌, slice_index}
use Rattle.sinks.specs.declared.fault.Fault.{Fault}
use Rattle.sinks.specs.declared.fault.Fault.TheVariants.{Place, Lane}
use Rattle.sinks.specs.Pictures.{Picture, block_count, colour_of, after_put, get_answer}

-- a put and then a get, if the put is taken
pub record PutThenGot (before : Picture) (place : ℕ) (values : List ℕ) (at lane : ℕ) (r : Result ℕ Fault) (after : Picture) : Type 0 where
  pub leaves : after ≡ after_put before place values
  pub count : block_count after ≡ block_count before
  pub refused : block_count before ≤ place → r ≡ Err Place
  pub same : place < block_count before → at ≡ place → lane < 16 → r ≡ Ok (colour_of (slice_index values lane))
  pub no_lane : place < block_count before → at ≡ place → 16 ≤ lane → r ≡ Err Lane
  pub other : place < block_count before → (at ≢ place) → r ≡ get_answer before at lane

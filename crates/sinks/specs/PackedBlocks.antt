-- Blocks of three bytes for each two lanes.
use Rattle.std.specs.Prelude.{◌≡◌, ℕ, zero, suc, ◌+◌, ◌*◌, ◌/◌, ◌%◌, ◌<◌, List, [], map, length, drop, Some, None, ◌==◌, ◌≢◌, ◌≤◌, slice_get, slice_index, slice_index_or, slice_set}
use Rattle.std.specs.Simd.{first_chunks}
use Rattle.std.proofs.Common.{sym, subst, ◌∙◌, inl, inr, add-zero, arith}
use Rattle.std.proofs.lemmas.List.FromFn.{length-map-range_with_len, get_or-map-range_with_len, fill_by_all}
use Rattle.std.proofs.lemmas.List.Edits.{fill_by_more}
use Rattle.std.proofs.ByRecursion.{All-from_get_or}
use Rattle.std.proofs.lemmas.List.{length-map, length-set, get_or-map, get_or-take, get_or-drop}
use Rattle.std.proofs.lemmas.Option.{slice_get-get_or, slice_get_past}
use Rattle.std.proofs.lemmas.Bool.{cases_eq, cond_both}
use Rattle.sinks.specs.Pictures.{GoodBlock, colour_of}
use Rattle.sinks.specs.Memories.{packed_byte, packed_bytes, packed_lane, packed_block}

lane_below : (bytes : List ℕ) (lane : ℕ) → packed_lane bytes lane < 4096
lane_below bytes lane = cond_both (lane % 2 == 0) _ _ (λ x. x < 4096) (λ e. omega arith) (λ e. omega arith)

chunk_of : (n k : ℕ) (xs : List ℕ) (j i : ℕ) → j < k → i < n → slice_index (slice_index_or (first_chunks n k xs) j []) i ≡ slice_index xs (n * j + i)
chunk_of n zero xs j i h l = absurd (omega arith)
chunk_of n (suc k) xs zero i h l = let z : n * 0 + i ≡ i = omega arith in rw z (get_or-take n xs i 0 l)
chunk_of n (suc k) xs (suc j) i h l =
    let e : n * suc j + i ≡ n + (n * j + i) = omega arith in
    rw e (chunk_of n k (drop n xs) j i (omega arith) l ∙ get_or-drop n xs (n * j + i) 0)

-- an element of one of the chunks that `as_chunks` gives
pub chunk_at : (n : ℕ) (xs : List ℕ) (chunks : List (List ℕ)) (j i : ℕ) → chunks ≡ first_chunks n (length xs / n) xs → j < length xs / n → i < n → slice_index (slice_index_or chunks j []) i ≡ slice_index xs (n * j + i)
chunk_at n xs chunks j i e h l = rw e (chunk_of n (length xs / n) xs j i h l)

pub packed_good : (part : List ℕ) → length part ≡ 24 → GoodBlock (packed_block part)
unfolding packed_block
packed_good part l =
    (length-map-range_with_len (packed_lane part) 0 16, All-from_get_or (λ c. c < 4096) (packed_block part) 0 (λ k h. rw (get_or-map-range_with_len (packed_lane part) 0 16 k k 0 (omega (arith, length-map-range_with_len (packed_lane part) 0 16)) (omega arith)) (lane_below part k)))

module _ (values : List ℕ) (j : ℕ) where
  pub byte_0 : packed_byte values (3 * j) ≡ colour_of (slice_index values (2 * j)) % 256
  byte_0 = let e : 3 * j % 3 ≡ 0 = omega arith in let q : 3 * j / 3 ≡ j = omega arith in rw (e, q)

  pub byte_1 : packed_byte values (3 * j + 1) ≡ colour_of (slice_index values (2 * j)) / 256 + colour_of (slice_index values (2 * j + 1)) % 16 * 16
  byte_1 = let e : (3 * j + 1) % 3 ≡ 1 = omega arith in let q : (3 * j + 1) / 3 ≡ j = omega arith in rw (e, q)

  pub byte_2 : packed_byte values (3 * j + 2) ≡ colour_of (slice_index values (2 * j + 1)) / 16
  byte_2 = let e : (3 * j + 2) % 3 ≡ 2 = omega arith in let q : (3 * j + 2) / 3 ≡ j = omega arith in rw (e, q)

byte_at : (values : List ℕ) (i : ℕ) → i < 24 → slice_index (packed_bytes values) i ≡ packed_byte values i
unfolding packed_bytes
byte_at values i h = get_or-map-range_with_len (packed_byte values) 0 24 i i 0 h (omega arith)

lane_even : (values : List ℕ) (j : ℕ) → j < 8 → packed_lane (packed_bytes values) (2 * j) ≡ colour_of (slice_index values (2 * j))
lane_even values j h =
    let e : 2 * j % 2 ≡ 0 = omega arith in
    let q : 2 * j / 2 ≡ j = omega arith in
    rw (e, q, byte_at values (3 * j) (omega arith), byte_at values (3 * j + 1) (omega arith), byte_0 values j, byte_1 values j) (omega arith)

lane_odd : (values : List ℕ) (j : ℕ) → j < 8 → packed_lane (packed_bytes values) (2 * j + 1) ≡ colour_of (slice_index values (2 * j + 1))
lane_odd values j h =
    let e : (2 * j + 1) % 2 ≡ 1 = omega arith in
    let q : (2 * j + 1) / 2 ≡ j = omega arith in
    rw (e, q, byte_at values (3 * j + 1) (omega arith), byte_at values (3 * j + 2) (omega arith), byte_1 values j, byte_2 values j) (omega arith)

lane_back : (values : List ℕ) (lane : ℕ) → lane < 16 → packed_lane (packed_bytes values) lane ≡ colour_of (slice_index values lane)
lane_back values lane h =
    let P : ℕ → Type 0 = λ i. packed_lane (packed_bytes values) i ≡ colour_of (slice_index values i) in
    elim (cases_eq (lane % 2) 0) [
      | inl e ↦ let s : 2 * (lane / 2) ≡ lane = omega arith in subst P s (lane_even values (lane / 2) (omega arith))
      | inr n ↦ let s : 2 * (lane / 2) + 1 ≡ lane = omega arith in subst P s (lane_odd values (lane / 2) (omega arith))
    ]

-- a lane of a block
pub lane_at : (bytes : List ℕ) (lane : ℕ) → lane < 16 → slice_index (packed_block bytes) lane ≡ packed_lane bytes lane
unfolding packed_block
lane_at bytes lane h = get_or-map-range_with_len (packed_lane bytes) 0 16 lane lane 0 h (omega arith)

pub no_lane : (bytes : List ℕ) (lane : ℕ) → 16 ≤ lane → None ≡ slice_get (packed_block bytes) lane
unfolding packed_block
no_lane bytes lane h = sym (slice_get_past (packed_block bytes) lane (omega (arith, length-map-range_with_len (packed_lane bytes) 0 16)))

-- a lane lies in the three bytes of its pair
module _ (bytes : List ℕ) (chunks : List (List ℕ)) (three : List ℕ) (lane : ℕ) (l : length bytes ≡ 24) (front : chunks ≡ first_chunks 3 (length bytes / 3) bytes) (h : lane < 16) (here : three ≡ slice_index_or chunks (lane / 2) []) (fits : (i : ℕ) → slice_index bytes i < 256) where
  byte : (i : ℕ) → i < 3 → slice_index three i ≡ slice_index bytes (3 * (lane / 2) + i)
  byte i k = rw here (chunk_at 3 bytes chunks (lane / 2) i front (omega arith) k)

  some_lane : (colour : ℕ) → colour ≡ packed_lane bytes lane → Some colour ≡ slice_get (packed_block bytes) lane
  unfolding packed_block
  some_lane colour e = rw (e, ← lane_at bytes lane h) (sym (slice_get-get_or (packed_block bytes) lane 0 (omega (arith, length-map-range_with_len (packed_lane bytes) 0 16))))

  pub lane_low : lane % 2 ≡ 0 → Some (slice_index three 0 + slice_index three 1 % 16 * 256) ≡ slice_get (packed_block bytes) lane
  lane_low e = some_lane _ (rw (byte 0 (omega arith), byte 1 (omega arith), e, add-zero) (omega (arith, fits (3 * (lane / 2)), fits (3 * (lane / 2) + 1))))

  pub lane_high : lane % 2 ≢ 0 → Some (slice_index three 1 / 16 + slice_index three 2 * 16) ≡ slice_get (packed_block bytes) lane
  lane_high n = let e : lane % 2 ≡ 1 = omega arith in some_lane _ (rw (byte 1 (omega arith), byte 2 (omega arith), e) (omega (arith, fits (3 * (lane / 2) + 1), fits (3 * (lane / 2) + 2))))

pub packed_back : (values : List ℕ) → length values ≡ 16 → packed_block (packed_bytes values) ≡ map colour_of values
unfolding packed_block
packed_back values l =
    let n : length (map colour_of values) ≡ 16 = length-map values colour_of ∙ l in
    sym (fill_by_all (packed_lane (packed_bytes values)) (map colour_of values) 16 0 n (λ k h. get_or-map colour_of values k 0 0 (omega arith) ∙ sym (lane_back values k h)))

pub packed_length : (values : List ℕ) → length (packed_bytes values) ≡ 24
unfolding packed_bytes
packed_length values = length-map-range_with_len (packed_byte values) 0 24

-- three more bytes
pub packed_more : (values block : List ℕ) (j a b c : ℕ) → a ≡ packed_byte values (3 * j) → b ≡ packed_byte values (3 * j + 1) → c ≡ packed_byte values (3 * j + 2)
    → 3 * j + 2 < length block → ((k : ℕ) → k < 3 * j → slice_index block k ≡ packed_byte values k)
    → (k : ℕ) → k < 3 * (j + 1) → slice_index (slice_set (slice_set (slice_set block (3 * j) a) (3 * j + 1) b) (3 * j + 2) c) k ≡ packed_byte values k
packed_more values block j a b c p q r l inv k h =
    let f : ℕ → ℕ = packed_byte values in
    let one = fill_by_more f block (3 * j) 0 (omega arith) inv in
    let two = fill_by_more f (slice_set block (3 * j) (f (3 * j))) (3 * j + 1) 0 (simp length-set (omega arith)) one in
    rw (p, q, r) (fill_by_more f (slice_set (slice_set block (3 * j) (f (3 * j))) (3 * j + 1) (f (3 * j + 1))) (3 * j + 2) 0 (simp length-set (omega arith)) (λ i u. two i (omega arith)) k (omega arith))

pub packed_all : (values block : List ℕ) → length block ≡ 24 → ((k : ℕ) → k < 24 → slice_index block k ≡ packed_byte values k) → block ≡ packed_bytes values
unfolding packed_bytes
packed_all values block l inv = fill_by_all (packed_byte values) block 24 0 l inv

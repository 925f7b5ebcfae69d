-- The picture that lies in a lent memory, in parts of one width.
use Rattle.std.specs.Prelude.{ℕ, ◌+◌, ◌*◌, ◌/◌, ◌%◌, min, cond, List, ◌++◌, map, length, take, drop, ◌==◌, nat_lt, slice_index}
use Rattle.std.specs.List.{range_with_len}
use Rattle.sinks.specs.Pictures.{Picture, most_blocks, colour_of}

-- how many whole parts a memory has, 19,200 at most
abbrev pub count_in : {A : Type 0} → ℕ → List A → ℕ
count_in width memory = min (length memory / width) most_blocks

abbrev pub part_at : {A : Type 0} → ℕ → ℕ → List A → List A
part_at width place memory = take width (drop (width * place) memory)

-- each part read as a block
unfoldable pub picture_in : {A : Type 0} → ℕ → (List A → List ℕ) → List A → Picture
picture_in width read memory = record { blocks = map (λ place. read (part_at width place memory)) (range_with_len 0 (count_in width memory)) }

-- the memory with just one part replaced
unfoldable pub replaced : {A : Type 0} → ℕ → ℕ → List A → List A → List A
replaced width place part memory = take (width * place) memory ++ (part ++ drop (width * place + width) memory)

-- what a put leaves of the whole memory
abbrev pub written : {A : Type 0} → ℕ → ℕ → List A → List A → List A
written width place part memory = cond (nat_lt place (count_in width memory)) (replaced width place part memory) memory

-- a number for each lane
abbrev pub plain_block : List ℕ → List ℕ
plain_block numbers = map colour_of numbers

abbrev pub plain_picture : List ℕ → Picture
plain_picture memory = picture_in 16 plain_block memory

-- lanes 2j and 2j + 1 in three bytes: the low 8 bits of the first; its high 4 bits below the low 4 bits of the second; the high 8 bits of the second
abbrev pub packed_byte : List ℕ → ℕ → ℕ
packed_byte values i =
    let first : ℕ = colour_of (slice_index values (2 * (i / 3))) in
    let second : ℕ = colour_of (slice_index values (2 * (i / 3) + 1)) in
    cond (i % 3 == 0) (first % 256) (cond (i % 3 == 1) (first / 256 + second % 16 * 16) (second / 16))

-- the 24 bytes of a block
unfoldable pub packed_bytes : List ℕ → List ℕ
packed_bytes values = map (packed_byte values) (range_with_len 0 24)

-- the colour of a lane; a byte is below 256 as it stands
abbrev pub packed_lane : List ℕ → ℕ → ℕ
packed_lane bytes lane =
    let start : ℕ = 3 * (lane / 2) in
    let middle : ℕ = slice_index bytes (start + 1) % 256 in
    cond (lane % 2 == 0) (slice_index bytes start % 256 + middle % 16 * 256) (middle / 16 + slice_index bytes (start + 2) % 256 * 16)

unfoldable pub packed_block : List ℕ → List ℕ
packed_block bytes = map (packed_lane bytes) (range_with_len 0 16)

abbrev pub packed_picture : List ℕ → Picture
packed_picture memory = picture_in 24 packed_block memory

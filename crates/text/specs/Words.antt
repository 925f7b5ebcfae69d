-- The words of instructions: 20 bits, the code in bits 19 to 16.
use Rattle.std.specs.Prelude.{◌≡◌, ℕ, ◌+◌, ◌-◌, ◌*◌, ◌/◌, ◌%◌, ◌^◌, ◌≤◌}
use Rattle.operations.specs.Codes.{binary_code, unary_code}
use Rattle.grammar.specs.Grammar.{Opd, reg, num, lab}
use Rattle.grammar.specs.Forms.{Ins, binary, unary, cmov, bltz, setx, loop, done, nop, Formed}

-- the number in an operand; the target stands for a label
abbrev pub value : ℕ → Opd → ℕ
value target (reg v) = v
value target (num v) = v
value target (lab n) = target

-- code, destination (register 16 + D), A and B, in bits 19-16, 15-12, 11-7 and 6-2
abbrev pub packed : ℕ → ℕ → ℕ → ℕ → ℕ
packed code d a b = code * 2 ^ 16 + (d - 16) * 2 ^ 12 + a * 2 ^ 7 + b * 2 ^ 2

-- a branch has its target's upper four bits in bits 15-12 and the lower seven in bits 6-0
abbrev pub word_of : Ins → ℕ → ℕ
word_of (binary op d a b) target = packed (binary_code op) (value target d) (value target a) (value target b)
word_of (unary op d a) target = packed (unary_code op) (value target d) (value target a) 0
word_of (cmov d a b) target = packed 8 (value target d) (value target a) (value target b)
word_of (bltz a t) target = 13 * 2 ^ 16 + (value target t / 2 ^ 7) * 2 ^ 12 + value target a * 2 ^ 7 + value target t % 2 ^ 7
word_of (setx v) target = 14 * 2 ^ 16 + value target v
word_of (loop t) target = 15 * 2 ^ 16 + value target t
word_of done target = 10 * 2 ^ 16
word_of nop target = 0

-- the fields of a word with a destination: all bits are told
pub record Packed (code d a b w : ℕ) : Type 0 where
  pub code_is : w / 2 ^ 16 ≡ code
  pub destination_is : 16 + w / 2 ^ 12 % 2 ^ 4 ≡ d
  pub a_is : w / 2 ^ 7 % 2 ^ 5 ≡ a
  pub b_is : w / 2 ^ 2 % 2 ^ 5 ≡ b
  pub rest_is : w % 2 ^ 2 ≡ 0

-- the fields of a branch: source and target
pub record Branches (a target w : ℕ) : Type 0 where
  pub code_is : w / 2 ^ 16 ≡ 13
  pub a_is : w / 2 ^ 7 % 2 ^ 5 ≡ a
  pub target_is : (w / 2 ^ 12 % 2 ^ 4) * 2 ^ 7 + w % 2 ^ 7 ≡ target

-- the fields of a word with one number
pub record Numbered (code v w : ℕ) : Type 0 where
  pub code_is : w / 2 ^ 16 ≡ code
  pub value_is : w % 2 ^ 16 ≡ v

-- what the bits of an instruction's word say
abbrev pub Fields : Ins → ℕ → ℕ → Type 0
Fields (binary op d a b) target w = Packed (binary_code op) (value target d) (value target a) (value target b) w
Fields (unary op d a) target w = Packed (unary_code op) (value target d) (value target a) 0 w
Fields (cmov d a b) target w = Packed 8 (value target d) (value target a) (value target b) w
Fields (bltz a t) target w = Branches (value target a) (value target t) w
Fields (setx v) target w = Numbered 14 (value target v) w
Fields (loop t) target w = Numbered 15 (value target t) w
Fields done target w = Numbered 10 0 w
Fields nop target w = Numbered 0 0 w

-- each field of each word can be read back
abbrev pub WordFields : Type 0
WordFields = (i : Ins) (target : ℕ) → Formed i → target ≤ 2047 → Fields i target (word_of i target)

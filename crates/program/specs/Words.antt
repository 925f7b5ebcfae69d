-- Word formats: a code in bits 19 to 16 and the fields that go with it. Bits without a use have no part in it.
use Rattle.std.specs.Prelude.{◌≡◌, ℕ, ◌+◌, ◌*◌, ◌/◌, ◌%◌, cond, Some, None, Option, Result, MatchResult, ◌==◌, nat_lt}
use Rattle.operations.specs.declared.Binary.{Binary}
use Rattle.operations.specs.declared.Binary.TheVariants.{Add, Sub, Mul, Div}
use Rattle.operations.specs.declared.Unary.{Unary}
use Rattle.operations.specs.declared.Unary.TheVariants.{Floor, Abs, Sqrt}
use Rattle.operations.specs.Codes.{binary_code, unary_code}
use Rattle.program.specs.declared.word.Instruction.{Instruction}
use Rattle.program.specs.declared.word.Instruction.TheVariants as ins
use Rattle.program.specs.declared.word.UnknownWord.{UnknownWord}

abbrev pub code_of : ℕ → ℕ
code_of w = w / 65536

-- bits 15 to 12, 11 to 7 and 6 to 2
abbrev pub field_d : ℕ → ℕ
field_d w = w / 4096 % 16

abbrev pub field_a : ℕ → ℕ
field_a w = w / 128 % 32

abbrev pub field_b : ℕ → ℕ
field_b w = w / 4 % 32

-- bits 15 to 12, then bits 6 to 0
abbrev pub branch_target : ℕ → ℕ
branch_target w = field_d w * 128 + w % 128

abbrev pub loop_target : ℕ → ℕ
loop_target w = w % 2048

-- the function of two registers, or of one, with this code
abbrev pub binary_of : ℕ → Binary
binary_of c = cond (c == binary_code Add) Add (cond (c == binary_code Sub) Sub (cond (c == binary_code Mul) Mul Div))

abbrev pub unary_of : ℕ → Unary
unary_of c = cond (c == unary_code Floor) Floor (cond (c == unary_code Abs) Abs Sqrt)

unfoldable pub decoded : ℕ → Option Instruction
decoded w =
    cond (nat_lt (code_of w) 4) (Some (ins.Binary (binary_of (code_of w)) (field_d w) (field_a w) (field_b w)))
    (cond (nat_lt (code_of w) 7) (Some (ins.Unary (unary_of (code_of w)) (field_d w) (field_a w)))
    (cond (code_of w == 8) (Some (ins.Cmov (field_d w) (field_a w) (field_b w)))
    (cond (code_of w == 10) (Some ins.Done)
    (cond (code_of w == 13) (Some (ins.Bltz (field_a w) (branch_target w)))
    (cond (code_of w == 14) (Some (ins.Setx (w % 65536)))
    (cond (code_of w == 15) (Some (ins.Loop (loop_target w))) None))))))

-- the instruction of the word, or an error where it has none
abbrev pub Decodes : ℕ → Result Instruction UnknownWord → Type 0
Decodes word r = MatchResult r (λ i. decoded word ≡ Some i) (λ _. decoded word ≡ None)

-- The seven rules that a program of L words keeps, as predicates over addresses. Each rule is said by what breaks it, and where.
use Rattle.std.specs.Prelude.{◌≡◌, ℕ, suc, ◌<◌, ◌≤◌, ◌⊎◌, List, length, Some, None, slice_index}
use Rattle.program.specs.declared.word.Instruction.{Instruction}
use Rattle.program.specs.declared.word.Instruction.TheVariants.{Done, Bltz, Setx, Loop}
use Rattle.program.specs.Words.{decoded}

-- the instruction i stands at the address a
pub record At (words : List ℕ) (a : ℕ) (i : Instruction) : Type 0 where
  pub within : a < length words
  pub is : decoded (slice_index words a) ≡ Some i

-- the setx at s, of count n, is the nearest before l
pub record Feeds (words : List ℕ) (s n l : ℕ) : Type 0 where
  pub setx : At words s (Setx n)
  pub before : s < l
  pub nearest : (k m : ℕ) → s < k → k < l → At words k (Setx m) → ⊥

-- the loop at l with target t and its setx at s, of count n
pub record Looped (words : List ℕ) (s n t l : ℕ) : Type 0 where
  pub loop : At words l (Loop t)
  pub backward : t ≤ l
  pub fed : Feeds words s n l
  pub inside : s < t
  pub alone : (k u : ℕ) → s < k → k < l → At words k (Loop u) → ⊥

-- 1: the length is 1 to 2,048
abbrev pub WrongLength : List ℕ → Type 0
WrongLength words = (length words ≡ 0) ⊎ (2048 < length words)

-- 2: each word is below 2 ^ 20 and has a code in use
pub record WrongWord (words : List ℕ) (a : ℕ) : Type 0 where
  pub within : a < length words
  pub unknown : decoded (slice_index words a) ≡ None

-- 3: the last word is done, and no other word is
pub record WrongEnding (words : List ℕ) (a : ℕ) : Type 0 where
  pub within : a < length words
  pub ending : ((suc a ≡ length words) × (At words a Done → ⊥)) ⊎ ((suc a < length words) × At words a Done)

-- 4: a branch goes forward, and no further than the last word
pub record WrongTarget (words : List ℕ) (b : ℕ) : Type 0 where
  pub register : ℕ
  pub target : ℕ
  pub branch : At words b (Bltz register target)
  pub outside : (target ≤ b) ⊎ (length words ≤ target)

-- 5: no setx stands strictly between a branch and its target
pub record SkipsSetx (words : List ℕ) (b : ℕ) : Type 0 where
  pub register : ℕ
  pub target : ℕ
  pub setx : ℕ
  pub count : ℕ
  pub branch : At words b (Bltz register target)
  pub skipped : At words setx (Setx count)
  pub behind : b < setx
  pub before : setx < target

-- 6: a loop goes back, the nearest setx before it stands below its target, and no other loop stands between
pub record WrongLoop (words : List ℕ) (l : ℕ) : Type 0 where
  pub target : ℕ
  pub loop : At words l (Loop target)
  pub unfed : (s n : ℕ) → Looped words s n target l → ⊥

-- 7: no branch goes to an address above a loop's target and up to the loop
pub record EntersLoop (words : List ℕ) (b : ℕ) : Type 0 where
  pub register : ℕ
  pub target : ℕ
  pub loop : ℕ
  pub start : ℕ
  pub branch : At words b (Bltz register target)
  pub looped : At words loop (Loop start)
  pub above : start < target
  pub upto : target ≤ loop

-- the program keeps all seven
pub record Accepted (words : List ℕ) : Type 0 where
  pub length_good : WrongLength words → ⊥
  pub words_good : (a : ℕ) → WrongWord words a → ⊥
  pub ending_good : (a : ℕ) → WrongEnding words a → ⊥
  pub targets_good : (a : ℕ) → WrongTarget words a → ⊥
  pub setx_good : (a : ℕ) → SkipsSetx words a → ⊥
  pub loops_good : (a : ℕ) → WrongLoop words a → ⊥
  pub entries_good : (a : ℕ) → EntersLoop words a → ⊥

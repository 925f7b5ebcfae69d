-- The agreement of lockstep with the lanes' runs alone, for every accepted program, every rules, every frame and all registers.
use Rattle.std.specs.Prelude.{◌≡◌, ℕ, ◌<◌, ◌≤◌, List, [], length, sum, slice_index, slice_index_or}
use Rattle.units.specs.Rules.{Rules}
use Rattle.program.specs.declared.word.Instruction.TheVariants as ins
use Rattle.program.specs.Rules.{Accepted, At}
use Rattle.program.specs.Limits.{Limit}
use Rattle.lanes.specs.Lanes.{Frame}
use Rattle.lanes.specs.Alone.{Ends}
use Rattle.lanes.specs.Together.{Together, Awake, starts, FetchAt, Fetches, Finishes}

-- a lone run ends, in one way only, and within the slot limit
pub record EndsOnce (words : List ℕ) (limit : ℕ) (u : Rules) (f : Frame) (i : ℕ) (own : List ℕ) : Type 0 where
  pub steps : ℕ
  pub left : List ℕ
  pub ends : Ends words u f i own steps left
  pub within : steps ≤ limit
  pub one : (k : ℕ) (r : List ℕ) → Ends words u f i own k r → (k ≡ steps) × (r ≡ left)

-- The lockstep run ends, in one way only, and within the slot limit; each lane is left with the registers of its run alone; the slots are
-- at least each lane's steps and at most the sum of all.
pub record Agrees (words : List ℕ) (limit : ℕ) (u : Rules) (f : Frame) (lanes : List (List ℕ)) : Type 0 where
  pub slots : ℕ
  pub left : List (List ℕ)
  pub steps : List ℕ
  pub finishes : Finishes words u f lanes slots left
  pub within : slots ≤ limit
  pub one : (k : ℕ) (r : List (List ℕ)) → Finishes words u f lanes k r → (k ≡ slots) × (r ≡ left)
  pub sixteen : length steps ≡ 16
  pub alone : (i : ℕ) → i < 16 → Ends words u f i (slice_index_or lanes i []) (slice_index steps i) (slice_index_or left i [])
  pub longest : (i : ℕ) → i < 16 → slice_index steps i ≤ slots
  pub all : slots ≤ sum steps

-- at every fetch some lane is awake, and at done all are
pub record AwakeAtFetches (words : List ℕ) (u : Rules) (f : Frame) (lanes : List (List ℕ)) : Type 0 where
  pub some : (k p : ℕ) (s : Together) → Fetches words u f (starts lanes) k s → FetchAt s p → (i : ℕ) × (i < 16) × Awake s p i
  pub all : (k p : ℕ) (s : Together) → Fetches words u f (starts lanes) k s → FetchAt s p → At words p ins.Done → (i : ℕ) → i < 16 → Awake s p i

abbrev pub LanesAgree : Type 0
LanesAgree =
    (words : List ℕ) (limit : ℕ) → Accepted words → Limit words limit → (u : Rules) (f : Frame)
    → ((i : ℕ) (own : List ℕ) → EndsOnce words limit u f i own)
    × ((lanes : List (List ℕ)) → length lanes ≡ 16 → Agrees words limit u f lanes × AwakeAtFetches words u f lanes)

-- Sixteen lanes in lockstep: one address and one X, and a wake address for each lane.
use Rattle.std.specs.Prelude.{◌≡◌, ℕ, zero, suc, ◌<◌, ◌≤◌, cond, List, [], length, replicate, nat_lt, slice_index, slice_index_or}
use Rattle.units.specs.Rules.{Rules}
use Rattle.program.specs.declared.word.Instruction.{Instruction}
use Rattle.program.specs.declared.word.Instruction.TheVariants as ins
use Rattle.program.specs.Rules.{At}
use Rattle.lanes.specs.Lanes.{Frame, source, obeyed}
use Rattle.lanes.specs.Alone.{counted}

-- the address, X, each lane's wake address and each lane's own registers
pub record Together : Type 0 where
  pub at : ℕ
  pub x : ℕ
  pub wakes : List ℕ
  pub lanes : List (List ℕ)

abbrev pub wake_of : Together → ℕ → ℕ
wake_of s i = slice_index s.wakes i

abbrev pub own_of : Together → ℕ → List ℕ
own_of s i = slice_index_or s.lanes i []

-- a lane is awake at p when its wake address is at most p
abbrev pub Awake : Together → ℕ → ℕ → Type 0
Awake s p i = wake_of s i ≤ p

-- address, X and all wake addresses are 0 at the start
abbrev pub starts : List (List ℕ) → Together
starts lanes = record { at = 0; x = 0; wakes = replicate 16 0; lanes = lanes }

-- The address of the next fetch: where the core stands if some lane is awake there, else the least wake address.
pub data FetchAt (s : Together) : ℕ → Type 0 where
  stays : (i : ℕ) → i < 16 → Awake s s.at i → FetchAt s s.at
  moves : (i : ℕ) → i < 16 → ((j : ℕ) → j < 16 → s.at < wake_of s j) → ((j : ℕ) → j < 16 → wake_of s i ≤ wake_of s j) → FetchAt s (wake_of s i)

-- the wake address after a word of a lane that is awake: a taken branch sets it
abbrev pub woken : Rules → Frame → ℕ → Instruction → List ℕ → ℕ → ℕ
woken u f i (ins.Binary o d a b) own w = w
woken u f i (ins.Unary o d a) own w = w
woken u f i (ins.Cmov d a b) own w = w
woken u f i ins.Done own w = w
woken u f i (ins.Bltz a d) own w = cond (u.negative (source u f i own a)) d w
woken u f i (ins.Setx n) own w = w
woken u f i (ins.Loop t) own w = w

-- the core's address after the word at p: a loop goes back while X lasts
abbrev pub onward : Instruction → ℕ → ℕ → ℕ
onward (ins.Binary o d a b) x p = suc p
onward (ins.Unary o d a) x p = suc p
onward (ins.Cmov d a b) x p = suc p
onward ins.Done x p = suc p
onward (ins.Bltz a d) x p = suc p
onward (ins.Setx n) x p = suc p
onward (ins.Loop t) x p = cond (nat_lt 0 x) t (suc p)

-- One lane at a fetch: awake it obeys the word, asleep it does nothing.
pub data LaneFetch (u : Rules) (f : Frame) (i p : ℕ) (w : Instruction) : ℕ → List ℕ → ℕ → List ℕ → Type 0 where
  obeys : (wake : ℕ) (own : List ℕ) → wake ≤ p → LaneFetch u f i p w wake own (woken u f i w own wake) (obeyed u f i w own)
  sleeps : (wake : ℕ) (own : List ℕ) → p < wake → LaneFetch u f i p w wake own wake own

-- The word w at p is fetched, and is not done.
pub record Fetch (words : List ℕ) (u : Rules) (f : Frame) (s : Together) (p : ℕ) (w : Instruction) (s' : Together) : Type 0 where
  pub address : FetchAt s p
  pub word : At words p w
  pub goes_on : w ≡ ins.Done → ⊥
  pub at_is : s'.at ≡ onward w s.x p
  pub x_is : s'.x ≡ counted w s.x
  pub wakes_are : length s'.wakes ≡ length s.wakes
  pub lanes_are : length s'.lanes ≡ length s.lanes
  pub lane : (i : ℕ) → i < 16 → LaneFetch u f i p w (wake_of s i) (own_of s i) (wake_of s' i) (own_of s' i)

-- k fetches lead from the first state to the last
pub data Fetches (words : List ℕ) (u : Rules) (f : Frame) (first : Together) : ℕ → Together → Type 0 where
  none : Fetches words u f first zero first
  then : (k p : ℕ) (w : Instruction) (s s' : Together) → Fetches words u f first k s → Fetch words u f s p w s' → Fetches words u f first (suc k) s'

-- The lockstep run ends after so many slots, done included, with these registers.
pub record Finishes (words : List ℕ) (u : Rules) (f : Frame) (lanes : List (List ℕ)) (slots : ℕ) (left : List (List ℕ)) : Type 0 where
  pub before : ℕ
  pub last : Together
  pub place : ℕ
  pub fetches : Fetches words u f (starts lanes) before last
  pub address : FetchAt last place
  pub done : At words place ins.Done
  pub slots_are : slots ≡ suc before
  pub left_are : left ≡ last.lanes

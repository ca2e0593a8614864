-- A run: calls one after the other, each handed the state that the call before returned. Assumes nothing.
use Rattle.std.specs.Prelude.{ℕ, zero, suc, ◌≤◌, ◌≡◌}
use Rattle.answer.specs.Number.{number_of}
use Rattle.standard.specs.Core.{Frame}
use Rattle.calls.specs.Call.{Call, Playing, Outcome, frame_of, played}

-- the state before call i
unfoldable pub carried : Playing → (ℕ → Call) → ℕ → Playing
carried s c zero = s
carried s c (suc i) = (played (carried s c i) (c i)).after

-- what call i answers and leaves
abbrev pub outcome : Playing → (ℕ → Call) → ℕ → Outcome
outcome s c i = played (carried s c i) (c i)

-- the frame of call i
abbrev pub frame_at : Playing → (ℕ → Call) → ℕ → Frame
frame_at s c i = frame_of (carried s c i) (c i)

-- every call up to i is accepted
abbrev pub Accepted : Playing → (ℕ → Call) → ℕ → Type 0
Accepted s c i = (j : ℕ) → j ≤ i → number_of (outcome s c j).answer ≡ 0

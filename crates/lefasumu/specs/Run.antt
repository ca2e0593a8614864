-- A run through lent memory: a start, then calls, each handed the memory that the call before left. Assumes nothing.
use Rattle.std.specs.Prelude.{ℕ, zero, suc, List, ◌≡◌, Float}
use Rattle.answer.specs.Number.{number_of}
use Rattle.calls.specs.Call.{Call, fresh}
use Rattle.calls.specs.Run.{outcome}
use Rattle.lefasumu.specs.Api.{Called, started_in, called_in}

-- the memory before call i
unfoldable pub memory_at : List Float → ℕ → (ℕ → Call) → ℕ → List Float
memory_at m slots c zero = (started_in m slots).memory
memory_at m slots c (suc i) = (called_in (memory_at m slots c i) (c i)).memory

-- call i
abbrev pub call_at : List Float → ℕ → (ℕ → Call) → ℕ → Called
call_at m slots c i = called_in (memory_at m slots c i) (c i)

-- it is call i of the definitions
pub record Told (m : List Float) (slots : ℕ) (c : ℕ → Call) (i : ℕ) : Type 0 where
  pub answer : (call_at m slots c i).answer ≡ number_of (outcome (fresh slots) c i).answer
  pub left : (call_at m slots c i).left ≡ (outcome (fresh slots) c i).left
  pub right : (call_at m slots c i).right ≡ (outcome (fresh slots) c i).right

-- The queues beside a run of the decoder: before every call they are its own numbers with each ring turned around, and both of its outputs are what is mixed
-- from the samples that the queues write. Assumes nothing.
use Prim.Native.Nat.{ℕ, ◌≤◌}
use native.Mathlib.Omega.{arith}
use mathlib.Core.Path.{◌≡◌, sym, ap, ◌∙◌}
use mathlib.Core.List.{List}
use lib.Ieee.{Float}
use Rattle.answer.specs.Number.{number_of}
use Rattle.calls.specs.Call.{Call, fresh, answer}
use Rattle.calls.specs.Run.{carried, frame_at}
use Rattle.calls.proofs.Outcomes.{answered}
use Rattle.ps_decoder.specs.Run.{decoder_at, answer_at, left_at, right_at}
use Rattle.ps_decoder.proofs.Run.{near_at, run_is}
use Rattle.ps_state.specs.State.{core_of, playing_of}
use Rattle.queue_decorr.specs.Run.{mirrored, Holds, queues_at}
use Rattle.queue_decorr.proofs.Calls.{queues_near, Mixed, same_carried, same_sound}
use Rattle.queue_decorr.proofs.Held.{runs_of, held_call}

module _ (asked : ℕ) (c : ℕ → Call) where
  -- a call that the decoder accepts is one that the definitions accept
  pub accepts : (i : ℕ) → number_of (answer_at asked c i) ≡ 0 → number_of (answer (carried (fresh asked) c i) (c i)) ≡ 0
  accepts i e = ap number_of (sym (answered (carried (fresh asked) c i) (c i)) ∙ sym (run_is asked c i).answer) ∙ e

  few_slots : (i : ℕ) → (carried (fresh asked) c i).slots ≤ 32
  unfolding playing_of
  few_slots i = rw (← (near_at asked c i).slots) (omega arith)

  -- lists that hold its samples are there for every call that is accepted
  pub held_calls : (i : ℕ) → number_of (answer (carried (fresh asked) c i) (c i)) ≡ 0 → Holds (frame_at (fresh asked) c i) (runs_of (frame_at (fresh asked) c i)) (c i).input
  held_calls i accepted = held_call (carried (fresh asked) c i) (c i) (few_slots i) accepted

  module _ (split : ℕ → List Float)
      (holds : (i : ℕ) → number_of (answer (carried (fresh asked) c i) (c i)) ≡ 0 → Holds (frame_at (fresh asked) c i) (split i) (c i).input) where
    pub same_numbers : (i : ℕ) → queues_at asked c split i ≡ mirrored (decoder_at asked c i)
    unfolding playing_of
    same_numbers i =
        same_carried asked c split holds i
        ∙ sym (queues_near (core_of (decoder_at asked c i)) (carried (fresh asked) c i).core (near_at asked c i).core)

    pub decoder_sound : (i : ℕ) → number_of (answer_at asked c i) ≡ 0 → Mixed asked c split i (left_at asked c i) (right_at asked c i)
    decoder_sound i e =
        let told = run_is asked c i in
        let mixed = same_sound asked c split holds i (accepts i e) in
        record { left = told.left ∙ mixed.left; right = told.right ∙ mixed.right }

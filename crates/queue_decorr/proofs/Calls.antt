-- The queues beside a run of the decoder's calls: before every call they are those of the state that the definitions carry, so what they write is what is
-- mixed, and both outputs are made of it. Assumes nothing.
use Prim.Native.Nat.{ℕ, zero, suc, ◌<◌}
use mathlib.Core.Path.{◌≡◌, refl, sym, ap, ◌∙◌}
use mathlib.Core.Bool.{Bool, true, false, cond}
use mathlib.Core.List.{List}
use borrow.Author.Tests.{eqb-true}
use lib.Dec.{eqb}
use lib.Ieee.{Float}
use Rattle.answer.specs.Number.{number_of}
use Rattle.calls.specs.Call.{Call, Playing, Outcome, fresh, answer, layout, frame_of, after, rows_of, played}
use Rattle.calls.specs.Near.{NearCore}
use Rattle.calls.specs.Run.{carried, frame_at, outcome}
use Rattle.calls.proofs.Outcomes.{done, refusal, done_played}
use Rattle.calls.proofs.Rows.{synthesised_same, rows_same}
use Rattle.complex.specs.declared.Complex.{Complex}
use Rattle.layout.specs.Numbers.{channels_of}
use Rattle.planar.specs.Frame.{qmf_rows}
use Rattle.ps_map.specs.Bands.{band_of, conjugated_of}
use Rattle.standard.specs.declared.Matrix.{Matrix}
use Rattle.standard.specs.Core.{Core, Frame, ready, decorrelated, matrix_then, left_at, right_at}
use Rattle.standard.specs.Hybrid.{synthesised}
use Rattle.standard.specs.Mixing.{left_of, right_of}
use Rattle.queue_decorr.specs.declared.QueueDecorr.{QueueDecorr}
use Rattle.queue_decorr.specs.Run.{queues_of, Holds, queues_after, written_at, queues_at, heard_at, mixed_at}
use Rattle.queue_decorr.proofs.Memory.{with_same}
use Rattle.queue_decorr.proofs.Same.{same_fresh}
use Rattle.queue_decorr.proofs.Silence.{zeros}
use Rattle.queue_decorr.proofs.Steps.{queues_in, detectors_same, same_step, same_written}

-- states that are near are in the same queues
pub queues_near : (s t : Core) → NearCore s t → queues_of s ≡ queues_of t
unfolding queues_of
queues_near s t near =
    (λ i.
    record {
      layout = s.layout;
      cued = near.cued i;
      queues = with_same s.layout s.channel t.channel (zeros 1794) (zeros 1794) near.channel refl i;
      detectors = detectors_same s.layout s.detector t.detector (zeros 102) (zeros 102) near.detector refl i;
    })
    ∙ sym (queues_in t s.layout (sym near.layout))

-- ---- the rows of call i, mixed from what the queues wrote

abbrev pub mixed_rows : ℕ → (ℕ → Call) → (ℕ → List Float) → (Bool → Matrix → Complex → Complex → Complex) → ℕ → List Float
mixed_rows asked c split side i =
    qmf_rows (carried (fresh asked) c i).slots (λ n q. synthesised (layout (carried (fresh asked) c i) (c i)) (λ k. mixed_at asked c split side i n k) q)

pub record Mixed (asked : ℕ) (c : ℕ → Call) (split : ℕ → List Float) (i : ℕ) (left_out right-out : List Float) : Type 0 where
  pub left : left_out ≡ mixed_rows asked c split left_of i
  pub right : right-out ≡ mixed_rows asked c split right_of i

-- ---- a run of calls, in which each that is accepted has lists that hold its samples

module _ (asked : ℕ) (c : ℕ → Call) (split : ℕ → List Float)
    (holds : (i : ℕ) → number_of (answer (carried (fresh asked) c i) (c i)) ≡ 0 → Holds (frame_at (fresh asked) c i) (split i) (c i).input) where
  pub same_carried : (i : ℕ) → queues_at asked c split i ≡ queues_of (carried (fresh asked) c i).core
  unfolding queues_at carried played after fresh
  same_carried zero = same_fresh
  same_carried (suc i) = rw (same_carried i) (go (eqb (number_of (answer s (c i))) 0) refl)
    where
      s : Playing
      s = carried (fresh asked) c i

      go : (accepted : Bool) → eqb (number_of (answer s (c i))) 0 ≡ accepted
          → cond accepted (queues_after (frame_at (fresh asked) c i) (split i) (c i).input (queues_of s.core)) (queues_of s.core)
          ≡ queues_of (cond {A = Outcome} accepted (done s (c i)) (refusal s (c i))).after.core
      go true e = same_step (frame_of s (c i)) (split i) (c i).input (holds i (eqb-true (number_of (answer s (c i))) 0 e)) s.core
      go false e = refl

  -- ---- an accepted call
  module _ (i : ℕ) (accepted : number_of (answer (carried (fresh asked) c i) (c i)) ≡ 0) where
    abbrev g : Frame
    g = frame_at (fresh asked) c i

    abbrev start : Core
    start = ready g.head (carried (fresh asked) c i).core

    pub same_heard : (n k : ℕ) → n < g.head.slots → k < channels_of g.head.layout → heard_at asked c split i n k ≡ decorrelated g start n k
    same_heard n k u v =
        ap (λ (q : QueueDecorr). written_at g (split i) (c i).input q n k) (same_carried i)
        ∙ same_written g (split i) (c i).input (holds i accepted) (carried (fresh asked) c i).core n k u v

    -- a side of the definitions is mixed from the same
    side_same : (side : Bool → Matrix → Complex → Complex → Complex) (mixed : Frame → Core → ℕ → ℕ → Complex)
        → ((n k : ℕ) → mixed g start n k ≡ side (conjugated_of g.head.layout k) (matrix_then g start (band_of g.head.layout k) n) (g.sample n k) (decorrelated g start n k))
        → rows_of (carried (fresh asked) c i) (c i) mixed ≡ mixed_rows asked c split side i
    unfolding frame_of
    side_same side mixed is =
        let s = carried (fresh asked) c i in
        rows_same s.slots _ _
        (λ n q u v. synthesised_same (layout s (c i)) (mixed g start n) (λ k. mixed_at asked c split side i n k)
        (λ k w. is n k ∙ ap (side (conjugated_of g.head.layout k) (matrix_then g start (band_of g.head.layout k) n) (g.sample n k)) (sym (same_heard n k u w)))
        q v)

    pub same_sound : Mixed asked c split i (outcome (fresh asked) c i).left (outcome (fresh asked) c i).right
    unfolding left_at right_at
    same_sound =
        let made = done_played (carried (fresh asked) c i) (c i) accepted in
        record {
          left = ap (λ (o : Outcome). o.left) made ∙ side_same left_of left_at (λ n k. refl);
          right = ap (λ (o : Outcome). o.right) made ∙ side_same right_of right_at (λ n k. refl);
        }

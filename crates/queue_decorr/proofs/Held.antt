-- Every accepted call has lists that hold its samples: the runs of the split bands' channels, and the input itself. Assumes nothing.
use Prim.Native.Nat.{ℕ, ◌+◌, ◌*◌, ◌<◌, ◌≤◌, ◌-◌}
use native.Mathlib.Omega.{arith}
use mathlib.Core.Path.{◌≡◌, refl, ap, ◌∙◌}
use mathlib.Core.Bool.{Bool, true, false, cond}
use mathlib.Core.List.{List}
use borrow.Author.Tests.{ltb-true, ltb-false, le-ltb}
use lib.Dec.{ltb}
use lib.Ieee.{Float}
use lib.ListN.{length}
use Rattle.answer.specs.declared.Answer.TheVariants.{Done}
use Rattle.answer.specs.Number.{number_of}
use Rattle.calls.specs.Call.{Call, Playing, input_answer, answer, layout, slot_at, frame_of}
use Rattle.calls.proofs.Accepts.{accepted_fits, taken_room}
use Rattle.layout.specs.Numbers.{unsplit_from_of}
use Rattle.lists.specs.Part.{part}
use Rattle.lists.specs.Rows.{rows}
use Rattle.lists.proofs.Rows.{rows_length, rows_part}
use Rattle.planar.specs.Cells.{cell, planar}
use Rattle.planar.specs.Frame.{sample_at, qmf_at, qmf_band_of}
use Rattle.planar.proofs.Cells.{planar_at, planar_length}
use Rattle.standard.specs.Core.{Frame}
use Rattle.standard.specs.Hybrid.{hybrid}
use Rattle.queue_decorr.specs.Run.{Holds}

-- a run of 32 slots for each channel of a split band
abbrev pub runs_of : Frame → List Float
runs_of f = rows (λ k. planar 32 (λ n. f.sample n k)) (unsplit_from_of f.head.layout)

module _ (f : Frame) where
  abbrev run_of : ℕ → List Float
  run_of k = planar 32 (λ n. f.sample n k)

  abbrev count : ℕ
  count = unsplit_from_of f.head.layout

  runs_length : length (runs_of f) ≡ count * 64
  runs_length = rows_length run_of 64 count (λ k u. planar_length 32 (λ n. f.sample n k))

  run_at : (n k : ℕ) → n < 32 → k < count → sample_at (runs_of f) n k ≡ f.sample n k
  run_at n k u v =
      let place : 64 * k ≡ k * 64 = omega arith in
      ap (λ (a : ℕ). cell 32 (part a 64 (runs_of f)) n) place
      ∙ ap (λ (run : List Float). cell 32 run n) (rows_part run_of 64 count (λ j w. planar_length 32 (λ m. f.sample m j)) k v)
      ∙ planar_at 32 (λ m. f.sample m k) n u

  held_frame : (input : List Float) → f.head.slots ≤ 32 → 128 * f.head.slots ≤ length input
      → ((n k : ℕ) → count ≤ k → qmf_at input n (qmf_band_of f.head.layout k) ≡ f.sample n k) → Holds f (runs_of f) input
  held_frame input few long unsplit =
      record { slots = few; split_long = omega (arith, runs_length); input_long = long; samples = λ n k u v. go n k u (ltb k count) refl }
    where
      go : (n k : ℕ) → n < f.head.slots → (t : Bool) → ltb k count ≡ t
          → cond t (sample_at (runs_of f) n k) (qmf_at input n (qmf_band_of f.head.layout k)) ≡ f.sample n k
      go n k u true e = run_at n k (omega arith) (ltb-true k count e)
      go n k u false e = unsplit n k (ltb-false k count e)

pub held_call : (s : Playing) (c : Call) → s.slots ≤ 32 → number_of (answer s c) ≡ 0 → Holds (frame_of s c) (runs_of (frame_of s c)) c.input
unfolding frame_of hybrid slot_at input_answer
held_call s c few accepted =
    held_frame (frame_of s c) c.input few (omega (arith, taken_room s.slots c.input (length c.left) (length c.right) taken))
    (λ n k u. let here : n + 6 - 6 ≡ n = omega arith in rw (le-ltb k (unsplit_from_of (layout s c)) u, le-ltb (n + 6) 6 (omega arith), here))
  where
    taken : input_answer s.slots c.input (length c.left) (length c.right) ≡ Done
    taken = let fits = accepted_fits s c accepted in rw (fits.buffers, fits.samples)

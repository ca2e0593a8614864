-- A queue of complex numbers, d real parts and then d imaginary parts: what it holds, what comes out, and what a shift leaves. Assumes nothing.
use Prim.Native.Nat.{ℕ, ◌+◌, ◌/◌, ◌<◌, ◌≤◌, ◌-◌}
use native.Mathlib.Omega.{arith}
use mathlib.Core.Path.{◌≡◌, sym, ap, ap₂, ◌∙◌}
use mathlib.Core.List.{List, ◌∷◌, ◌++◌, map}
use lib.Ieee.{Float}
use lib.ListN.{length, take, drop, get_or-map}
use lib.Seq.{take_at, drop_at}
use Rattle.complex.specs.declared.Complex.{Complex}
use Rattle.lists.specs.Part.{part, put}
use Rattle.lists.proofs.Parts.{tail_lent, tail_back}
use Rattle.lists.specs.Queue as lists
use Rattle.lists.specs.Queue.{pushed}
use Rattle.lists.specs.Rows.{tabulate}
use Rattle.lists.proofs.Maps.{tabulate_length, tabulate_at, tabulate_same}
use Rattle.lists.proofs.Queue.{queue_push}
use Rattle.planar.specs.Cells.{cell}
use Rattle.planar.proofs.Cells.{planar_is, planar_at, planar_length, planar_same}
use Rattle.standard.specs.Channel.{back}
use Rattle.standard.specs.Numbers.{nought}
use Rattle.queue_decorr.specs.Queues.{shifted, oldest_of, queue_of, history_in}

pub queue_length : (d : ℕ) (history : List Complex) → length (queue_of d history) ≡ d + d
queue_length d history = planar_length d (λ i. back i history)

-- histories that are alike as far as the queue reaches are in one queue
pub queue_same : (d : ℕ) (g h : List Complex) → ((i : ℕ) → i < d → back i g ≡ back i h) → queue_of d g ≡ queue_of d h
queue_same d g h alike = planar_same d (λ i. back i g) (λ i. back i h) alike

-- what a queue holds
pub held_at : (d : ℕ) (queue : List Float) (i : ℕ) → i < d → back i (history_in d queue) ≡ cell d queue i
held_at d queue i u = tabulate_at (λ j. cell d queue j) d i nought u

pub held_again : (d : ℕ) (history : List Complex) (i : ℕ) → i < d → back i (history_in d (queue_of d history)) ≡ back i history
held_again d history i u = held_at d (queue_of d history) i u ∙ planar_at d (λ j. back j history) i u

module _ (d : ℕ) (queue : List Float) (long : length queue ≡ d + d) where
  -- it is the queue of that
  pub queue_round : queue_of d (history_in d queue) ≡ queue
  queue_round = sym (planar_is d queue (λ i. back i (history_in d queue)) long (λ i u. sym (held_at d queue i u)))

  half : length queue / 2 ≡ d
  half = omega arith

  pub oldest_is : 1 ≤ d → oldest_of queue ≡ back (d - 1) (history_in d queue)
  oldest_is some = rw half (sym (held_at d queue (d - 1) (omega arith)))

  -- one part of each entry, as a queue of its own
  abbrev part_of : (Complex → Float) → List Complex → List Float
  part_of of history = tabulate (λ i. of (back i history)) d

  part_queue : (of : Complex → Float) (history : List Complex) → part_of of history ≡ lists.queue_of (of nought) d (map of history)
  part_queue of history = tabulate_same _ _ d (λ i u. sym (get_or-map of history i nought))

  part_pushed : (of : Complex → Float) (x : Complex) (history : List Complex) → pushed (of x) (part_of of history) ≡ part_of of (x ∷ history)
  part_pushed of x history =
      ap (pushed (of x)) (part_queue of history) ∙ queue_push (of nought) d (of x) (map of history) ∙ sym (part_queue of (x ∷ history))

  -- the new entry is the newest of its history
  pub shift_is : (x : Complex) → shifted x queue ≡ queue_of d (x ∷ history_in d queue)
  shift_is x =
      let history = history_in d queue in
      let re = part_of (λ z. z.re) history in
      let im = part_of (λ z. z.im) history in
      let wide : length re ≡ d = tabulate_length (λ i. (back i history).re) d in
      let front : take d queue ≡ re = ap (take d) (sym queue_round) ∙ take_at re im d wide in
      let behind : drop d queue ≡ im = ap (drop d) (sym queue_round) ∙ drop_at re im d wide in
      rw (half, front, behind) (ap₂ (λ (a b : List Float). a ++ b) (part_pushed (λ z. z.re) x history) (part_pushed (λ z. z.im) x history))

-- ---- the two halves of a queue, lent one after the other

module _ (queue front : List Float) (h : ℕ) (room : h ≤ length queue) (kept : length front ≡ h) where
  abbrev half_done : List Float
  half_done = front ++ drop h queue

  pub second_lent : part h (length half_done - h) half_done ≡ drop h queue
  second_lent = tail_lent h (length half_done - h) half_done (omega arith) ∙ drop_at front (drop h queue) h kept

  pub second_back : (behind : List Float) → put h (length half_done - h) half_done behind ≡ front ++ behind
  second_back behind = tail_back h (length half_done - h) half_done behind (omega arith) ∙ ap (λ (t : List Float). t ++ behind) (take_at front (drop h queue) h kept)

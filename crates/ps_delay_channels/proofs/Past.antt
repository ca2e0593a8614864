-- What came in is what the memory held, and then the frame: so what stands j slots back is read off one of the two. Assumes nothing.
use mathlib.Core.Path.{◌≡◌, refl, sym, ap, ◌∙◌}
use mathlib.Core.Logic.{◌⊎◌, inl, inr}
use mathlib.Core.Bool.{Bool, true, false}
use mathlib.Core.List.{List, ◌∷◌}
use Prim.Native.Nat.{ℕ, zero, suc, ◌+◌, ◌-◌, ◌*◌, ◌%◌, ◌<◌, ◌≤◌}
use native.Mathlib.Nat.{eq-or-lt_of_le, zero-add}
use native.Mathlib.Omega.{arith}
use borrow.Author.Tests.{ltb-true, ltb-false}
use lib.Dec.{ltb}
use lib.Ieee.{Float}
use Rattle.complex.specs.declared.Complex.{Complex}
use Rattle.planar.specs.Cells.{cell}
use Rattle.planar.specs.Frame.{qmf_at}
use Rattle.standard.specs.Channel.{back, past_at}
use Rattle.ps_delay_channels.specs.declared.rows.Delay.{Delay}
use Rattle.ps_delay_channels.specs.Spans.{earlier}

module _ (past : List Complex) (x : ℕ → Complex) where
  -- from before the frame
  past_before : (n i : ℕ) → back (n + i) (past_at past x n) ≡ back i past
  unfolding past_at
  past_before zero i = ap (λ (j : ℕ). back j past) (zero-add i)
  past_before (suc n) i =
      let older : suc n + i ≡ suc (n + i) = omega arith in
      rw older (past_before n i)

  -- and from the frame
  past_frame : (n i : ℕ) → i < n → back (n - suc i) (past_at past x n) ≡ x i
  unfolding past_at
  past_frame zero i u = absurd (omega arith)
  past_frame (suc n) i u = go (eq-or-lt_of_le at_most) (past_frame n i)
    where
      at_most : i ≤ n
      at_most = omega arith

      go : (i ≡ n) ⊎ (i < n) → (i < n → back (n - suc i) (past_at past x n) ≡ x i) → back (suc n - suc i) (x n ∷ past_at past x n) ≡ x i
      go (inl e) before = let newest : suc n - suc i ≡ 0 = omega arith in rw newest (ap x (sym e))
      go (inr l) before = let older : suc n - suc i ≡ suc (n - suc i) = omega arith in rw older (before l)

-- so a slot's delayed sample is the history's, where the rows of the memory hold what came before the frame
module _ (d : Delay) (before input : List Float) (past : List Complex) (q : ℕ)
    (held : (m : ℕ) → m < d.slots → cell 1 before (24 * ((d.position + m) % 14) + 2 * (q - d.first)) ≡ back (d.slots - suc m) past) where
  pub earlier_back : (n i : ℕ) → i < d.slots → earlier d before input (n + i) q ≡ back (d.slots - suc i) (past_at past (λ m. qmf_at input m q) n)
  unfolding earlier
  earlier_back n i u = go (ltb (n + i) d.slots) refl
    where
      go : (t : Bool) → ltb (n + i) d.slots ≡ t → earlier d before input (n + i) q ≡ back (d.slots - suc i) (past_at past (λ m. qmf_at input m q) n)
      go true e =
          let l : n + i < d.slots = ltb-true (n + i) d.slots e in
          let far : n + (d.slots - suc (n + i)) ≡ d.slots - suc i = omega arith in
          rw e (held (n + i) l ∙ sym (rw far at (past_before past (λ m. qmf_at input m q) n (d.slots - suc (n + i)))))
      go false e =
          let l : d.slots ≤ n + i = ltb-false (n + i) d.slots e in
          let far : n - suc (n + i - d.slots) ≡ d.slots - suc i = omega arith in
          rw e (sym (rw far at (past_frame past (λ m. qmf_at input m q) n (n + i - d.slots) (omega arith))))

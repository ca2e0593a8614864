-- Every slot before the last border lies in some region, so that what stood there before is never read. Assumes nothing.
use mathlib.Core.Path.{◌≡◌, refl}
use mathlib.Core.Bool.{Bool, true, false, cond, ◌&&◌}
use mathlib.Core.List.{List}
use Prim.Native.Nat.{ℕ, zero, suc, ◌<◌}
use native.Mathlib.Omega.{arith}
use borrow.Author.Tests.{le-leb, leb-false}
use lib.Dec.{leb}
use lib.Ieee.{Float}
use Rattle.standard.specs.declared.Matrix.{Matrix}
use Rattle.standard.specs.Interpolation.{start, border_at, between, filled_by}

-- slot n after the regions of e envelopes, as `filled_by` of the standard, from what was there
unfoldable pub filled_over : List ℕ → (ℕ → ℕ → Float) → (ℕ → Matrix) → (ℕ → Matrix) → ℕ → ℕ → Matrix
filled_over borders t h old n zero = old n
filled_over borders t h old n (suc e) =
    cond (leb (start borders e) n && leb n (border_at borders e)) (between (h e) (h (suc e)) (t e n)) (filled_over borders t h old n e)

module _ (borders : List ℕ) (t : ℕ → ℕ → Float) (h : ℕ → Matrix) (old : ℕ → Matrix) (n : ℕ) where
  pub covered : (e : ℕ) → n < start borders e → filled_over borders t h old n e ≡ filled_by borders t h n e
  unfolding filled_over filled_by
  covered zero u = absurd (omega arith)
  covered (suc e) u = by (leb (start borders e) n) refl (λ less. covered e less)
    where
      -- n is at most the last border: it lies in the last region or before it
      up_to : leb n (border_at borders e) ≡ true
      up_to = le-leb n (border_at borders e) (omega arith)

      by : (b : Bool) → leb (start borders e) n ≡ b → (n < start borders e → filled_over borders t h old n e ≡ filled_by borders t h n e)
          → cond (leb (start borders e) n && leb n (border_at borders e)) (between (h e) (h (suc e)) (t e n)) (filled_over borders t h old n e)
          ≡ cond (leb (start borders e) n && leb n (border_at borders e)) (between (h e) (h (suc e)) (t e n)) (filled_by borders t h n e)
      by true s earlier = rw (s, up_to)
      by false s earlier = rw s (earlier (leb-false (start borders e) n s))

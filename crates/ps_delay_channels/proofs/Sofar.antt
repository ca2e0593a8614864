-- Rows whose bands change span by span: spans side by side are one, and after the last one the rows are known. Assumes nothing.
use mathlib.Core.Path.{◌≡◌, refl, ◌∙◌}
use mathlib.Core.Bool.{Bool, true, false, cond}
use mathlib.Core.List.{List}
use Prim.Native.Nat.{ℕ, ◌+◌, ◌*◌, ◌<◌, ◌≤◌}
use native.Mathlib.Omega.{arith}
use borrow.Author.Tests.{ltb-true, ltb-false}
use lib.Dec.{ltb}
use lib.Ieee.{Float}
use lib.ListN.{length}
use Rattle.complex.specs.declared.Complex.{Complex}
use Rattle.planar.specs.Frame.{qmf_at, qmf_rows}
use Rattle.planar.proofs.Rows.{rows_are}
use Rattle.ps_delay_channels.specs.Spans.{Banded}

pub banded_none : (from slots : ℕ) (f : ℕ → ℕ → Complex) (old : List Float) → Banded from 0 slots f old old
banded_none from slots f old =
    record { long = refl; inside = λ n q h u v. absurd (omega arith); below = λ n q h u. refl; above = λ n q h u v. refl }

pub banded_more : {from count slots : ℕ} {f : ℕ → ℕ → Complex} {old mid new : List Float} → Banded from count slots f old mid
    → (further more : ℕ) → further ≡ from + count → Banded further more slots f mid new → Banded from (count + more) slots f old new
banded_more {from} {count} {slots} {f} {old} {mid} {new} b further more e c =
    record {
      long = c.long ∙ b.long;
      inside = λ n q h u v. go n q h u v (ltb q further) refl;
      below = λ n q h u. c.below n q h (omega arith) ∙ b.below n q h u;
      above = λ n q h u v. c.above n q h (omega arith) v ∙ b.above n q h (omega arith) v;
    }
  where
    go : (n q : ℕ) → n < slots → from ≤ q → q < from + (count + more) → (t : Bool) → ltb q further ≡ t → qmf_at new n q ≡ f n q
    go n q h u v true r =
        let l : q < further = ltb-true q further r in
        c.below n q h l ∙ b.inside n q h u (omega arith)
    go n q h u v false r =
        let l : further ≤ q = ltb-false q further r in
        c.inside n q h l (omega arith)

pub banded_alike : {from count slots : ℕ} {f : ℕ → ℕ → Complex} {old new : List Float} → Banded from count slots f old new
    → (g : ℕ → ℕ → Complex) → ((n q : ℕ) → n < slots → from ≤ q → q < from + count → f n q ≡ g n q) → Banded from count slots g old new
banded_alike b g same =
    record { long = b.long; inside = λ n q h u v. b.inside n q h u v ∙ same n q h u v; below = b.below; above = b.above }

-- where the bands from `from` to the last are new
pub banded_all : {from count slots : ℕ} {f : ℕ → ℕ → Complex} {old new : List Float} → Banded from count slots f old new → from + count ≡ 64 → length old ≡ 128 * slots
    → new ≡ qmf_rows slots (λ n q. cond (ltb q from) (qmf_at old n q) (f n q))
banded_all {from} {count} {slots} {f} {old} {new} b all size =
    rows_are (λ n q. cond (ltb q from) (qmf_at old n q) (f n q)) slots new (b.long ∙ size) (λ n q h u. go n q h u (ltb q from) refl)
  where
    go : (n q : ℕ) → n < slots → q < 64 → (t : Bool) → ltb q from ≡ t → qmf_at new n q ≡ cond (ltb q from) (qmf_at old n q) (f n q)
    go n q h u true r = rw r (b.below n q h (ltb-true q from r))
    go n q h u false r = rw r (b.inside n q h (ltb-false q from r) (omega arith))

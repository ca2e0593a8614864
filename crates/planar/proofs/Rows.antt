-- QMF rows: a number of them, their length, and when a list is one of rows. Assumes nothing.
use mathlib.Core.Path.{◌≡◌, refl, sym, ap, ◌∙◌}
use mathlib.Core.Logic.{◌≢◌}
use mathlib.Core.Bool.{Bool, true, false, cond}
use mathlib.Core.List.{List}
use Prim.Native.Nat.{ℕ, ◌+◌, ◌*◌, ◌/◌, ◌%◌, ◌<◌}
use native.Mathlib.Omega.{arith}
use borrow.Author.Tests.{eqb-true, eqb-false}
use lib.Dec.{eqb}
use lib.Ieee.{Float, nan}
use lib.ListN.{length, get_or}
use lib.Seq.{ext_get_or}
use Rattle.complex.specs.declared.Complex.{Complex}
use Rattle.lists.proofs.Maps.{tabulate_length, tabulate_at}
use Rattle.planar.specs.Frame.{qmf_at, qmf_rows}
use Rattle.planar.proofs.Cells.{by_parts}

pub qmf_at_lem : (slots : ℕ) (y : ℕ → ℕ → Complex) (n q : ℕ) → n < slots → q < 64 → qmf_at (qmf_rows slots y) n q ≡ y n q
qmf_at_lem slots y n q u v =
    let row : (128 * n + 2 * q) / 128 ≡ n = omega arith in
    let band : (128 * n + 2 * q) % 128 / 2 ≡ q = omega arith in
    let even : (128 * n + 2 * q) % 2 ≡ 0 = omega arith in
    let row-too : (128 * n + 2 * q + 1) / 128 ≡ n = omega arith in
    let band-too : (128 * n + 2 * q + 1) % 128 / 2 ≡ q = omega arith in
    let odd : (128 * n + 2 * q + 1) % 2 ≡ 1 = omega arith in
    by_parts
    (tabulate_at _ (128 * slots) (128 * n + 2 * q) nan (omega arith) ∙ rw (even, row, band))
    (tabulate_at _ (128 * slots) (128 * n + 2 * q + 1) nan (omega arith) ∙ rw (odd, row-too, band-too))

pub rows_length : (slots : ℕ) (y : ℕ → ℕ → Complex) → length (qmf_rows slots y) ≡ 128 * slots
rows_length slots y = tabulate_length (λ i. cond (eqb (i % 2) 0) (y (i / 128) (i % 128 / 2)).re (y (i / 128) (i % 128 / 2)).im) (128 * slots)

-- a list of rows is what its columns are
pub rows_are : (z : ℕ → ℕ → Complex) (slots : ℕ) (new : List Float) → length new ≡ 128 * slots → ((n q : ℕ) → n < slots → q < 64 → qmf_at new n q ≡ z n q) → new ≡ qmf_rows slots z
rows_are z slots new size each =
    ext_get_or nan new (qmf_rows slots z) (size ∙ sym (tabulate_length number (128 * slots)))
    (λ i h. let u : i < 128 * slots = omega arith in at i u (eqb (i % 2) 0) refl ∙ sym (tabulate_at number (128 * slots) i nan u))
  where
    number : ℕ → Float
    number i = cond (eqb (i % 2) 0) (z (i / 128) (i % 128 / 2)).re (z (i / 128) (i % 128 / 2)).im

    at : (i : ℕ) → i < 128 * slots → (t : Bool) → eqb (i % 2) 0 ≡ t → get_or new i nan ≡ number i
    at i h true e =
        let even : i % 2 ≡ 0 = eqb-true (i % 2) 0 e in
        let place : i ≡ 128 * (i / 128) + 2 * (i % 128 / 2) = omega arith in
        rw e (ap (λ (j : ℕ). get_or new j nan) place ∙ ap (λ (v : Complex). v.re) (each (i / 128) (i % 128 / 2) (omega arith) (omega arith)))
    at i h false e =
        let not-even : i % 2 ≢ 0 = eqb-false (i % 2) 0 e in
        let place : i ≡ 128 * (i / 128) + 2 * (i % 128 / 2) + 1 = omega arith in
        rw e (ap (λ (j : ℕ). get_or new j nan) place ∙ ap (λ (v : Complex). v.im) (each (i / 128) (i % 128 / 2) (omega arith) (omega arith)))

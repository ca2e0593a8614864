-- `ps_hybrid_analysis::filter::Bank::modulated` meets its contract: the pair that is read is the tap's root. Assumes nothing.
use mathlib.Core.Path.{◌≡◌, sym, ◌∙◌}
use mathlib.Core.List.{List}
use Prim.Native.Nat.{ℕ, ◌*◌}
use native.Mathlib.Omega.{arith}
use lib.Ieee.{Float, nan}
use lib.ListN.{get_or}
use Rattle.decimals.specs.declared.Prototype.{Prototype}
use Rattle.planar.specs.Cells.{cell}
use Rattle.standard.specs.Hybrid.{modulation}
use Rattle.ps_hybrid_analysis.specs.Stages.{Waves, turn_of}
use Rattle.ps_hybrid_analysis.proofs.Taps.{complex_tap, real_tap, tap_read}
use Rattle.ps_hybrid_analysis.proofs.filter.Bank.modulated.Goals as goal

-- the pair at the turn's place of the prototype's own roots
root : (p : Prototype) (q m : ℕ) (turn : ℕ) (waves : List Float) → Waves p waves → turn ≡ turn_of p q m → cell 1 waves (2 * turn) ≡ modulation p q m
root p q m turn waves w t = rw t (w.at q m)

pub returns-then-is_complex : goal.returns-then-is_complex
returns-then-is_complex c =
    let a = c.args in
    let b = a.self.now in
    complex_tap b.prototype (get_or b.g a.m nan) a.q a.m (cell 1 b.waves (2 * c.turn-turn.result)) (tap_read b.prototype a.m b.own (omega arith))
    (root b.prototype a.q a.m c.turn-turn.result b.waves b.roots c.turn-turn.ensures.0)
    (sym c.is_complex.ensures ∙ c.if-is_complex.true)

pub returns-else-is_complex : goal.returns-else-is_complex
returns-else-is_complex c =
    let a = c.args in
    let b = a.self.now in
    real_tap b.prototype (get_or b.g a.m nan) a.q a.m (cell 1 b.waves (2 * c.turn-turn.result)) (tap_read b.prototype a.m b.own (omega arith))
    (root b.prototype a.q a.m c.turn-turn.result b.waves b.roots c.turn-turn.ensures.0)
    (sym c.is_complex.ensures ∙ c.if-is_complex.false)

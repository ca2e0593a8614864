-- `cue::digits::bytes` meets its contract: the bytes written and those of the digits left make the whole, and zeros stand behind them. Assumes nothing.
use mathlib.Core.Path.{◌≡◌}
use mathlib.Core.List.{[]}
use Prim.Native.Nat.{◌+◌, ◌*◌}
use native.Mathlib.Omega.{arith}
use lib.ListN.{drop, replicate, length-drop}
use Rattle.limits.specs.Limits as limits
use Rattle.lists.proofs.Padded.{padded_filled}
use Rattle.lists.proofs.Fills.{filled_none, filled_more}
use Rattle.cue.specs.Digits.{bytes_of}
use Rattle.cue.proofs.Pairs.{bytes_step, bytes_none}
use Rattle.cue.proofs.digits.bytes.Goals as goal

pub loop-i-init : goal.loop-i-init
loop-i-init c = filled_none (bytes_of _) (replicate limits.bytes 0)

pub loop-i-preserved : goal.loop-i-preserved
loop-i-preserved c =
    let text = c.args.text.now in
    let next : 2 * (c.loop-i.i + 1) ≡ 2 * c.loop-i.i + 2 = omega arith in
    rw next (filled_more c.loop-i.invariant _ (rw c.byte.ensures (bytes_step text (2 * c.loop-i.i) (omega arith))) (omega arith))

pub returns : goal.returns
returns c =
    let text = c.args.text.now in
    let none : bytes_of (drop (2 * c.loop-i.i) text) ≡ [] = bytes_none _ (simp length-drop (omega arith)) in
    padded_filled 0 limits.bytes (rw none at c.loop-i.invariant)

-- `ps_data::kinds::positions` meets its contract: the border bytes are the first places of the frame's, and zeros stand behind them. Assumes nothing.
use mathlib.Core.Path.{◌≡◌}
use mathlib.Core.List.{List}
use Prim.Native.Nat.{ℕ, ◌+◌, ◌-◌, min}
use native.Mathlib.Omega.{arith}
use borrow.Author.Rules.{rules}
use lib.ListN.{length, take, drop, length-drop}
use lib.Seq.{length-take-le}
use Rattle.limits.specs.Limits as limits
use Rattle.lists.proofs.Padded.{padded_front}
use Rattle.ps_data.proofs.kinds.positions.Goals as goal

pub returns-then-h : goal.returns-then-h
returns-then-h c =
    let count : ℕ = c.min-count.result in
    let borders : List ℕ = take count (drop 4 c.args.bytes.now) in
    let few : count ≡ min c.args.h.envelopes limits.envelopes = search rules in
    let same : 4 + count - 4 ≡ count = omega arith in
    let copied : c.copy_from_slice.new.self ≡ borders = rw same at c.copy_from_slice.ensures.after in
    let long : length borders ≡ count = length-take-le count (drop 4 c.args.bytes.now) (simp length-drop (omega (arith, few))) in
    rw (c.if-h.true, ← few, padded_front 0 limits.envelopes borders (omega (arith, few)), long, copied)

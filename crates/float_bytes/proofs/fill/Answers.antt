-- `float_bytes::fill` meets its contract: each float is that of its eight bytes. Assumes nothing.
use mathlib.Core.Path.{◌≡◌, ap, ◌∙◌}
use mathlib.Core.List.{[], map}
use Prim.Native.Nat.{ℕ, ◌/◌}
use native.Mathlib.Omega.{arith}
use lib.Ieee.{binary64, of_bits}
use lib.ListN.{length, get_or}
use Rattle.lists.proofs.Maps.{tabulated_none, tabulated_more, tabulated_all, mapped}
use Rattle.float_bytes.specs.Bytes.{floats_of}
use Rattle.float_bytes.proofs.Turns.{float_in, floats_chunks}
use Rattle.float_bytes.proofs.fill.Goals as goal

pub loop-i-init : goal.loop-i-init
loop-i-init c = tabulated_none (λ k. float_in (get_or c.as_chunks.result.0.now k [])) c.args.out.now

pub loop-i-preserved : goal.loop-i-preserved
loop-i-preserved c =
    tabulated_more c.loop-i.invariant c.float_of.result (c.float_of.ensures ∙ ap (of_bits binary64) c.from_le_bytes.ensures) (omega arith)

pub returns : goal.returns
returns c =
    let b = c.args.b.now in
    let words = c.as_chunks.result.0.now in
    let count : length b / 8 ≡ length c.args.out.now = omega (arith, c.requires) in
    tabulated_all c.loop-i.invariant (length words) (omega arith) (omega (arith, c.as_chunks.ensures.front_len))
    ∙ mapped float_in words []
    ∙ ap (map float_in) c.as_chunks.ensures.front
    ∙ floats_chunks (length b / 8) b
    ∙ ap (λ (k : ℕ). floats_of k b) count

-- `float_bytes::spill` meets its contract: each float's eight bytes are stored in their place. Assumes nothing.
use mathlib.Core.Path.{◌≡◌, sym, ap, ◌∙◌}
use mathlib.Core.List.{List, ◌++◌}
use Prim.Native.Nat.{ℕ, ◌+◌, ◌*◌}
use native.Mathlib.Omega.{arith}
use lib.ListN.{take, length}
use lib.Seq.{take_all}
use Rattle.lists.proofs.Front.{front_none, front_put, front_all}
use Rattle.float_bytes.specs.Bytes.{bytes_of, eight}
use Rattle.float_bytes.proofs.Turns.{eight_le, bytes_more}
use Rattle.float_bytes.proofs.spill.Goals as goal

pub loop-i-init : goal.loop-i-init
unfolding bytes_of
loop-i-init c = front_none c.args.out.now

pub loop-i-preserved : goal.loop-i-preserved
loop-i-preserved c =
    let i = c.loop-i.i in
    let xs = c.args.xs.now in
    let x = c.bits_of.result in
    let more : bytes_of (take (i + 1) xs) ≡ bytes_of (take i xs) ++ c.copy_from_slice.new.self =
    bytes_more xs i (omega arith) ∙ ap (λ (n : ℕ). bytes_of (take i xs) ++ eight n) (sym c.bits_of.ensures)
    ∙ ap (λ (t : List ℕ). bytes_of (take i xs) ++ t) (sym (c.copy_from_slice.ensures.after ∙ c.to_le_bytes.ensures ∙ eight_le x)) in
    let next : 8 * (i + 1) ≡ 8 * i + 8 = omega arith in
    rw (more, next) (front_put c.loop-i.invariant 8 c.copy_from_slice.new.self (ap length (c.copy_from_slice.ensures.after ∙ c.to_le_bytes.ensures)))

pub returns : goal.returns
returns c =
    let xs = c.args.xs.now in
    front_all c.loop-i.invariant (omega (arith, c.requires)) ∙ ap bytes_of (take_all c.loop-i.i xs (omega arith))

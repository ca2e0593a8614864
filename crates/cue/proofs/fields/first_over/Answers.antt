-- `cue::fields::first_over` meets its contract: the bytes passed fit, so those left decide. Assumes nothing.
use borrow.Author.Rules.{rules}
use borrow.Author.Tests.{le-leb, lt-leb}
use mathlib.Core.Path.{◌≡◌, sym, ◌∙◌}
use mathlib.Core.Bool.{true, false}
use Prim.Native.Nat.{◌+◌, ◌*◌, ◌-◌}
use native.Mathlib.Nat.{sub-zero, zero-mul, add-zero, mul-le-mul}
use native.Mathlib.Omega.{arith}
use lib.Dec.{leb}
use lib.ListN.{get_or}
use Rattle.cue.specs.Checks.{every, found}
use Rattle.cue.proofs.Finding.{found_step}
use Rattle.cue.proofs.fields.first_over.Goals as goal

pub loop-i-init : goal.loop-i-init
loop-i-init c = simp (sub-zero, zero-mul, add-zero)

pub overflow_mul-here : goal.overflow_mul-here
overflow_mul-here c = omega (arith, mul-le-mul {n₁ = c.loop-i.i} {m₁ = c.args.apart} {n₂ = 255} {m₂ = 35} (omega arith) (omega arith))

pub overflow_add-here : goal.overflow_add-here
overflow_add-here c = omega (arith, mul-le-mul {n₁ = c.loop-i.i} {m₁ = c.args.apart} {n₂ = 255} {m₂ = 35} (omega arith) (omega arith))

pub loop-i-preserved : goal.loop-i-preserved
loop-i-preserved c =
    let a = c.args in
    let byte : c.unwrap_or.result ≡ get_or a.bytes.now (a.place + c.loop-i.i * a.apart) 0 = search rules in
    let passes : leb (get_or a.bytes.now (a.place + c.loop-i.i * a.apart) 0) a.most ≡ true = rw (← byte) (le-leb _ _ c.if-most-unwrap_or.false) in
    c.loop-i.invariant ∙ rw (found_step a.bytes.now a.most a.count c.loop-i.i a.apart a.place (omega arith), passes)

pub returns-then-most-unwrap_or : goal.returns-then-most-unwrap_or
returns-then-most-unwrap_or c =
    let a = c.args in
    let byte : c.unwrap_or.result ≡ get_or a.bytes.now (a.place + c.loop-i.i * a.apart) 0 = search rules in
    let fails : leb (get_or a.bytes.now (a.place + c.loop-i.i * a.apart) 0) a.most ≡ false = rw (← byte) (lt-leb _ _ c.if-most-unwrap_or.true) in
    sym (c.loop-i.invariant ∙ rw (found_step a.bytes.now a.most a.count c.loop-i.i a.apart a.place (omega arith), fails))

pub returns : goal.returns
unfolding found every
returns c =
    let none : c.args.count - c.loop-i.i ≡ 0 = omega arith in
    sym (c.loop-i.invariant ∙ rw none)

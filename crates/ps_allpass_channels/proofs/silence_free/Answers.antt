-- `ps_allpass_channels::silence_free` meets its contract: the last group's lanes behind its last channel are lent to be cleared. Assumes nothing.
use mathlib.Core.Path.{◌≡◌}
use Prim.Native.Nat.{◌+◌, ◌-◌, ◌*◌, ◌/◌}
use native.Mathlib.Omega.{arith}
use Rattle.layout.specs.Numbers.{all_pass_of}
use Rattle.layout.proofs.Bounds.{bounds}
use Rattle.ps_allpass_channels.proofs.Freeing.{last_group}
use Rattle.ps_allpass_channels.proofs.silence_free.Goals as goal

pub overflow_mul-at : goal.overflow_mul-at
overflow_mul-at c = record { fits = omega (arith, c.all_pass.ensures, (bounds c.args.layout).all_pass) }

pub overflow_add-at : goal.overflow_add-at
overflow_add-at c = record { fits = omega (arith, c.all_pass.ensures, (bounds c.args.layout).all_pass) }

pub offset_bounds-delays-at : goal.offset_bounds-delays-at
offset_bounds-delays-at c = record { fits = omega (arith, c.all_pass.ensures, (bounds c.args.layout).all_pass) }

pub slice_bounds-silence-end : goal.slice_bounds-silence-end
slice_bounds-silence-end c = omega (arith, c.all_pass.ensures, last_group c.args.layout)

pub returns : goal.returns
returns c =
    let at = 112 * (all_pass_of c.args.layout / 4) in
    let wide : at + 112 - at ≡ 112 = omega arith in
    rw (c.silence.ensures, c.all_pass.ensures, c.all_pass-2.ensures, wide)

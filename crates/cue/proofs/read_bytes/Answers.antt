-- `cue::read_bytes` meets its contract: the places are near. Assumes nothing.
use borrow.Author.Rules.{rules}
use Prim.Native.Nat.{◌≤◌}
use native.Mathlib.Omega.{arith}
use Rattle.cue.proofs.Sizes.{places_near}
use Rattle.cue.proofs.read_bytes.Goals as goal

pub overflow_mul-places : goal.overflow_mul-places
overflow_mul-places c =
    let few : c.header-header.result.envelopes ≤ 255 = search rules in
    let near : c.places-places.result.end ≤ 65536 = rw c.places-places.ensures (places_near c.header-header.result few).end in
    omega (arith, near)

-- `ps_allpass_channels::rows::pass_unsplit` meets its contract: bands below 5, those of four desks, and two more. Assumes nothing.
use mathlib.Core.Path.{◌≡◌, ap}
use mathlib.Core.List.{List}
use Prim.Native.Nat.{ℕ, ◌+◌, ◌-◌, ◌*◌, ◌/◌, ◌%◌, ◌≤◌}
use native.Mathlib.Omega.{arith}
use lib.Ieee.{Float}
use Rattle.complex.specs.declared.Complex.{Complex}
use Rattle.planar.specs.Cells.{cell}
use Rattle.ps_allpass_channels.specs.Desks.{standing, Rowed}
use Rattle.ps_allpass_channels.proofs.Leaving.{rowed_then, rowed_next}
use Rattle.ps_allpass_channels.proofs.rows.pass_unsplit.Goals as goal

module _ (desks : List Float) (place split unsplit : ℕ) where
  -- the band of a channel
  abbrev passed : ℕ → Complex
  passed q = standing desks place (q + unsplit - split)

  abbrev lined : ℕ → Complex
  lined q = cell 4 desks (136 * ((5 + unsplit - split) / 4) + place + 136 * ((q - 5) / 4) + (q - 5) % 4)

  -- the bands of the desks behind the lowest
  on_desks : split ≤ 5 → split ≤ unsplit → (5 + unsplit - split) % 4 ≡ 0 → (old row new : List Float) → Rowed passed split 5 old row → Rowed lined 5 21 row new
      → Rowed passed split 21 old new
  on_desks least more whole old row new a b =
      rowed_then passed lined split 5 21 old row new a b least (omega arith) (λ q u v. ap (cell 4 desks) (here q u))
    where
      here : (q : ℕ) → 5 ≤ q
          → 136 * ((5 + unsplit - split) / 4) + place + 136 * ((q - 5) / 4) + (q - 5) % 4
          ≡ 136 * ((q + unsplit - split) / 4) + (q + unsplit - split) % 4 + place
      here q u = omega arith

pub pass_desks-requires : goal.pass_desks-requires
pass_desks-requires c =
    omega arith

pub returns : goal.returns
returns c =
    let a = c.args in
    let desks = a.desks.now in
    let value = passed desks a.place a.split a.unsplit in
    let old = a.row.now in
    let r1 = c.pass_low.new.row in
    let r2 = c.pass_desks.new.row in
    let r3 = c.lay.new.row in
    let r4 = c.lay-2.new.row in
    let least = c.requires.split_bound.0 in
    rowed_next value a.split 22 23 old r3 r4 c.side-last.result (omega arith)
    (rowed_next value a.split 21 22 old r2 r3 c.side-next.result (omega arith)
    (on_desks desks a.place a.split a.unsplit least c.requires.split_bound.1.0 c.requires.split_bound.1.1.1 old r1 r2 c.pass_low.ensures c.pass_desks.ensures)
    c.lay.ensures c.side-next.ensures (omega (arith, least)))
    c.lay-2.ensures c.side-last.ensures (omega (arith, least))

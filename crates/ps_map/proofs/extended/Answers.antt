-- `ps_map::extended` meets its contract: a row that is cut to the length reads as one that is padded to it. Assumes nothing.
use mathlib.Core.Path.{ap, ◌∙◌}
use Prim.Native.Nat.{ℕ}
use lib.IntN.{pos}
use lib.ListN.{take}
use Rattle.ps_map.specs.Maps.{padded_row}
use Rattle.ps_map.proofs.Held.{held_cut}
use Rattle.ps_map.proofs.extended.Goals as goal

pub returns : goal.returns
returns c =
    let v = c.args.v.now in
    c.copied.ensures ∙ ap (λ (k : ℕ). padded_row (take k v)) c.min.ensures ∙ held_cut (pos 0) 34 c.args.length v

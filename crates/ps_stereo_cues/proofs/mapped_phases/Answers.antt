-- `ps_stereo_cues::mapped_phases` meets its contract: the row is extended to its places and they are mapped. Assumes nothing.
use mathlib.Core.Path.{◌≡◌, ap, ◌∙◌}
use mathlib.Core.List.{List}
use Prim.Native.Nat.{ℕ, ◌≤◌}
use native.Mathlib.Omega.{arith}
use lib.IntN.{ℤ}
use lib.ListN.{take}
use Rattle.calls.specs.Cues.{mapped_phases, indices_of, envelope_row}
use Rattle.cue.specs.Fields.{parameters_of}
use Rattle.cue.proofs.Sizes.{parameters_small}
use Rattle.ps_map.specs.Maps.{map_row, padded_row, extended_to}
use Rattle.ps_stereo_cues.proofs.Rows.{used_indices, extended_first}
use Rattle.ps_stereo_cues.proofs.mapped_phases.Goals as goal

pub returns : goal.returns
unfolding mapped_phases
returns c =
    let few : c.parameters-wanted.result ≤ 34 = omega (arith, c.parameters-wanted.ensures, parameters_small c.args.config.iid) in
    let first : List ℤ = take c.used.result c.envelope_row-row.result.at in
    let lent : let a = c.args in
    take c.parameters-wanted.result c.extended-extended.result ≡ extended_to (parameters_of a.config.iid) (indices_of (envelope_row a.kind a.e)) = ap (take c.parameters-wanted.result) c.extended-extended.ensures
    ∙ extended_first c.parameters-wanted.result first few
    ∙ ap (λ (n : ℕ). extended_to n first) c.parameters-wanted.ensures
    ∙ ap (extended_to (parameters_of c.args.config.iid)) (used_indices c.envelope_row-row.result _ c.used.result c.envelope_row-row.ensures c.used.ensures) in
    c.map_row.ensures ∙ ap (λ (v : List ℤ). padded_row (map_row v c.args.layout)) lent

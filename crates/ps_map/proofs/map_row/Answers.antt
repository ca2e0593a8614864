-- `ps_map::map_row` meets its contract: each return is the case of `map_row` that its tests pick. Assumes nothing.
use mathlib.Core.Path.{◌≡◌, sym, ap, ◌∙◌}
use mathlib.Core.List.{List, map}
use Prim.Native.Nat.{ℕ, ◌*◌}
use native.Mathlib.Omega.{arith}
use lib.IntN.{ℤ}
use lib.ListN.{length, take}
use Rattle.layout.specs.Numbers.{bands_of}
use Rattle.ps_map.specs.Maps.{index_from, duplicated, padded_row}
use Rattle.ps_map.specs.Tables.{sources_of}
use Rattle.ps_map.proofs.Duplicates.{duplicated_length}
use Rattle.ps_map.proofs.Maps.{kept, from_other, ten_to_twenty, ten_by_twenty, first_twenty}
use Rattle.ps_map.proofs.map_row.Goals as goal

pub returns-then-v-bands : goal.returns-then-v-bands
returns-then-v-bands c = c.copied.ensures ∙ ap padded_row (sym (kept c.args.v.now c.args.layout (c.if-v-bands.true ∙ c.bands.ensures)))

pub returns-then-v-ne10 : goal.returns-then-v-ne10
returns-then-v-ne10 c =
    let s = c.args in
    c.brought.ensures ∙ ap padded_row (sym (from_other s.v.now s.layout (λ h. c.if-v-bands.false (h ∙ sym c.bands.ensures)) c.if-v-ne10.true))

pub returns-in-Bands20 : goal.returns-in-Bands20
returns-in-Bands20 c =
    let s = c.args in
    c.doubled-twice.ensures ∙ ap padded_row (sym (ten_to_twenty s.v.now s.layout c.if-v-ne10.false (ap bands_of c.in-Bands20.is)))

pub slice_bounds-brought-end : goal.slice_bounds-brought-end
slice_bounds-brought-end c =
    let lent : take 20 c.doubled-twice.result ≡ duplicated c.args.v.now = ap (take 20) c.doubled-twice.ensures ∙ first_twenty c.args.v.now c.if-v-ne10.false in
    sym (ap length lent ∙ duplicated_length c.args.v.now ∙ ap (λ (n : ℕ). 2 * n) c.if-v-ne10.false)

pub returns-in-Bands34 : goal.returns-in-Bands34
returns-in-Bands34 c =
    let lent : take 20 c.doubled-twice.result ≡ duplicated c.args.v.now = ap (take 20) c.doubled-twice.ensures ∙ first_twenty c.args.v.now c.if-v-ne10.false in
    let s = c.args in
    c.brought-in-Bands34.ensures
    ∙ ap (λ (t : List ℤ). padded_row (map (index_from t) (sources_of s.layout))) lent
    ∙ ap padded_row (sym (ten_by_twenty s.v.now s.layout c.if-v-ne10.false (λ h. let e : bands_of s.layout ≡ 34 = ap bands_of c.in-Bands34.is in omega arith)))

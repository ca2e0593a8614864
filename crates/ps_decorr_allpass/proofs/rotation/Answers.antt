-- `ps_decorr_allpass::rotation` meets its contract: a channel past the table's end has its pair past the end too. Assumes nothing.
use Rattle.std.proofs.Common.{◌≡◌, ℕ, ◌+◌, ◌*◌, ◌≤◌, List, length, get_or, ℤ, pos, ◌∙◌, arith}
use lib.ListN.{get_or-eq_default}
use Rattle.fixed.specs.Real.{pair_at}
use Rattle.ps_decorr_allpass.proofs.rotation.Goals as goal

-- past the end every pair is the same
past_end : (table : List ℤ) (i j : ℕ) → length table ≤ i → length table ≤ j → pair_at table i ≡ pair_at table j
past_end table i j h u =
    let none : (n : ℕ) → length table ≤ n → get_or table n (pos 0) ≡ pos 0 = λ n r. get_or-eq_default table (pos 0) {n = n} r in
    simp (none i h, none j u, none (i + 1) (omega arith), none (j + 1) (omega arith))

pub returns-else-k-table : goal.returns-else-k-table
returns-else-k-table c =
    let a = c.args in
    c.pair-else-k-table.ensures ∙ past_end a.table.now (length a.table.now) (8 * a.k + a.place) (omega arith) (omega arith)

-- The hybrid samples of a slot: which case the lists' lengths pick, and what the two loops leave. Assumes nothing.
use mathlib.Core.Path.{◌≡◌, sym, ap, ◌∙◌}
use mathlib.Core.List.{List}
use Prim.Native.Nat.{ℕ, ◌+◌, ◌*◌, ◌<◌, ◌≤◌, ◌-◌}
use borrow.Author.Tests.{lt-ltb, le-ltb, lt-leb, le-leb}
use native.Mathlib.Omega.{arith}
use lib.Ieee.{Float, nan}
use lib.ListN.{length, get_or}
use Rattle.complex.specs.declared.Complex.{Complex}
use Rattle.layout.specs.declared.Layout.{Layout}
use Rattle.layout.specs.Numbers.{channels_of, split_of, unsplit_from_of}
use Rattle.lists.proofs.Parts.{part_at}
use Rattle.planar.specs.Cells.{cell}
use Rattle.planar.specs.Frame.{sample_at, qmf_at, sample_in}
use Rattle.planar.proofs.Cells.{by_parts}
use Rattle.plain_slots.specs.Rows.{samples_after}
use Rattle.plain_slots.proofs.Carried.{Carried, carried_both}

-- what each loop puts
abbrev pub in_run : List Float → ℕ → ℕ → Complex
in_run split n k = cell 32 split (64 * k + n)

abbrev pub in_slot : List Float → ℕ → ℕ → ℕ → ℕ → Complex
in_slot input n bands unsplit k = qmf_at input n (k + bands - unsplit)

run_is : (split : List Float) (n k : ℕ) → n < 32 → in_run split n k ≡ sample_at split n k
run_is split n k u =
    let behind : 64 * k + n + 32 ≡ 64 * k + (n + 32) = omega arith in
    by_parts (sym (part_at _ 64 split n nan (omega arith))) (ap (λ (i : ℕ). get_or split i nan) behind ∙ sym (part_at _ 64 split (n + 32) nan (omega arith)))

module _ (l : Layout) (n : ℕ) (split input row : List Float) where
  pub late : 32 ≤ n → row ≡ samples_after l n split input row
  unfolding samples_after
  late h = rw (le-ltb n 32 h)

  module _ (small : n < 32) where
    pub short_split : length split < 64 * unsplit_from_of l → row ≡ samples_after l n split input row
    unfolding samples_after
    short_split h = rw (lt-ltb n 32 small, lt-leb (64 * unsplit_from_of l) _ h)

    module _ (runs : 64 * unsplit_from_of l ≤ length split) where
      pub short_input : length input < 128 * n + 128 → row ≡ samples_after l n split input row
      unfolding samples_after
      short_input h = rw (lt-ltb n 32 small, le-leb (64 * unsplit_from_of l) _ runs, lt-leb (128 * n + 128) _ h)

      module _ (slot : 128 * n + 128 ≤ length input) where
        pub short_row : length row < 2 * channels_of l → row ≡ samples_after l n split input row
        unfolding samples_after
        short_row h = rw (lt-ltb n 32 small, le-leb (64 * unsplit_from_of l) _ runs, le-leb (128 * n + 128) _ slot, lt-leb (2 * channels_of l) _ h)

        pub filled : {half next : List Float} → 2 * channels_of l ≤ length row → Carried (in_run split n) 0 (unsplit_from_of l) row half
            → Carried (in_slot input n (split_of l) (unsplit_from_of l)) (unsplit_from_of l) (channels_of l) half next → next ≡ samples_after l n split input row
        unfolding samples_after
        filled h r s =
            rw (lt-ltb n 32 small, le-leb (64 * unsplit_from_of l) _ runs, le-leb (128 * n + 128) _ slot, le-leb (2 * channels_of l) _ h)
            (carried_both (sample_in l split input n) (channels_of l) r s
            (λ i u. rw (lt-ltb i (unsplit_from_of l) u) (run_is split n i small))
            (λ i u w. rw (le-ltb i (unsplit_from_of l) u)))

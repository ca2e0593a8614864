-- A stereo band hears only itself, in the numbers that two runs of the decoder write. Assumes nothing.
use Rattle.std.specs.Prelude.{ℕ, ◌+◌, ◌-◌, ◌≤◌, ◌<◌, ◌≡◌}
use Rattle.borders.specs.Borders.{slots_of}
use Rattle.calls.specs.Call.{Call}
use Rattle.layout.specs.declared.Layout.{Layout}
use Rattle.layout.specs.Numbers.{split_of, unsplit_from_of}
use Rattle.planar.specs.Frame.{qmf_at}
use Rattle.ps_map.specs.Bands.{band_of}
use Rattle.ps_decoder.specs.Run.{left_at, right_at}

-- call i of two decoders writes the same bits for each unsplit QMF band q under band b
pub record SameNumbers (l : Layout) (b asked asked-too : ℕ) (c d : ℕ → Call) (i : ℕ) : Type 0 where
  pub left : (n q : ℕ) → n < slots_of asked → split_of l ≤ q → q < 64 → band_of l (q + unsplit_from_of l - split_of l) ≡ b
      → qmf_at (left_at asked c i) n q ≡ qmf_at (left_at asked-too d i) n q
  pub right : (n q : ℕ) → n < slots_of asked → split_of l ≤ q → q < 64 → band_of l (q + unsplit_from_of l - split_of l) ≡ b
      → qmf_at (right_at asked c i) n q ≡ qmf_at (right_at asked-too d i) n q

-- §8.5.2, document 01, 'Indices': an index is the one before it and a delta, brought into the range of its kind. Assumes nothing.
use Rattle.std.specs.Prelude.{ℕ, ℤ, pos, negsuc, ◌+ℤ◌}
use Rattle.integers.specs.Integers.{byte_z, clamp_z, wrap_z}
use Rattle.ps_rows.specs.declared.Kind.{Kind}
use Rattle.ps_rows.specs.declared.Kind.TheVariants.{Coarse, Fine, Coherence, Phase}

-- IID clamps to -7..7 or, fine, to -15..15, ICC to 0..7; IPD and OPD wrap modulo 8
abbrev pub within : Kind → ℤ → ℤ
within Coarse z = clamp_z (negsuc 6) (pos 7) z
within Fine z = clamp_z (negsuc 14) (pos 15) z
within Coherence z = clamp_z (pos 0) (pos 7) z
within Phase z = wrap_z z

-- a delta is a signed two's-complement byte
unfoldable pub step : Kind → ℤ → ℕ → ℤ
step kind previous delta = within kind (previous +ℤ byte_z delta)

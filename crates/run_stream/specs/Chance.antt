-- The generator of oracle/README.md. Assumes nothing.
use Rattle.std.specs.Prelude.{ℕ, ◌+◌, ◌*◌, ◌%◌}

-- what comes after a state
abbrev pub after : ℕ → ℕ
after x = (x * 1664525 + 1013904223) % 4294967296

-- How much of what was asked for a read brought. Assumes nothing.
use Rattle.std.specs.Prelude.{Result, Ok, Err, ℕ}
use Rattle.programme.specs.declared.files.Cut.{Cut}

-- what came, also where the read failed behind it
abbrev pub came : Result ℕ Cut → ℕ
came (Ok count) = count
came (Err cut) = cut.came

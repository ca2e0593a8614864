-- The head of a record, 56 bytes, numbers the lowest byte first (oracle/README.md, "Streams"). Assumes nothing.
use Rattle.std.specs.Prelude.{ℕ, Bool, ◌&&◌, cond, eqb, leb, List, get_or, Result, Ok, Err}
use Rattle.std.specs.Float.{binary64}
use Rattle.std.specs.Float.Ieee.{of_bits}
use Rattle.float_bytes.specs.Bytes.{half_at, word_at}
use Rattle.run_stream.specs.declared.head.Head.{Head}
use Rattle.run_stream.specs.declared.head.Kind.{Kind}
use Rattle.run_stream.specs.declared.head.Kind.TheVariants.{End, Run, Call}

-- what a record is; another byte says nothing
abbrev pub kind_of : ℕ → Result Kind ℕ
kind_of n = cond (eqb n 0) (Ok End) (cond (eqb n 1) (Ok Run) (cond (eqb n 2) (Ok Call) (Err n)))

unfoldable pub head_of : List ℕ → Head
head_of b =
    record {
      kind = kind_of (get_or b 0 0);
      answer = get_or b 1 0;
      number = word_at b 8;
      state = half_at b 4;
      step = of_bits binary64 (word_at b 16);
      width = get_or b 2 0;
      reach = half_at b 24;
      given = half_at b 28;
      line = half_at b 32;
      input = half_at b 36;
      left = half_at b 40;
      right = half_at b 44;
    }

-- at most 5,632 numbers of input, given or not, 4,352 of each side, and 2,048 characters
abbrev pub fits_in : Head → Bool
fits_in h = leb h.input 5632 && leb h.left 4352 && leb h.right 4352 && leb h.line 2048 && leb h.given 5632

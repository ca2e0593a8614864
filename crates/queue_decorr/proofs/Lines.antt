-- Four lists in a line, of 4, 6, 8 and 10 numbers, as a chain's queues stand. Assumes nothing.
use native.Mathlib.Omega.{arith}
use mathlib.Core.Path.{◌≡◌, sym, ap, ◌∙◌}
use mathlib.Core.List.{List, ◌++◌}
use lib.Ieee.{Float}
use lib.ListN.{length, take, drop, length-append}
use lib.Seq.{take_at, take-add, drop-drop, take_all}
use Rattle.lists.specs.Part.{part}
use Rattle.lists.proofs.Parts.{part_back}

module _ (a b c d : List Float) (la : length a ≡ 4) (lb : length b ≡ 6) (lc : length c ≡ 8) (ld : length d ≡ 10) where
  abbrev line : List Float
  line = a ++ (b ++ (c ++ d))

  pub line_length : length line ≡ 28
  line_length = simp (length-append, la, lb, lc, ld)

  pub record Parts : Type 0 where
    pub first : part 0 4 line ≡ a
    pub second : part 4 6 line ≡ b
    pub third : part 10 8 line ≡ c
    pub fourth : part 18 10 line ≡ d

  pub line_parts : Parts
  line_parts =
      record {
        first = take_at a (b ++ (c ++ d)) 4 la;
        second = part_back 4 6 a (b ++ (c ++ d)) (omega arith) ∙ rw la (take_at b (c ++ d) 6 lb);
        third = part_back 10 8 a (b ++ (c ++ d)) (omega arith) ∙ rw la (part_back 6 8 b (c ++ d) (omega arith) ∙ rw lb (take_at c d 8 lc));
        fourth =
            part_back 18 10 a (b ++ (c ++ d)) (omega arith)
            ∙ rw la (part_back 14 10 b (c ++ d) (omega arith) ∙ rw lb (part_back 8 10 c d (omega arith) ∙ rw lc (take_all 10 d (omega arith))));
      }

-- a list of 28 numbers is its parts in a line
pub line_of : (xs : List Float) → length xs ≡ 28 → part 0 4 xs ++ (part 4 6 xs ++ (part 10 8 xs ++ part 18 10 xs)) ≡ xs
line_of xs long =
    sym
    (sym (take_all 28 xs (omega arith))
    ∙ take-add 4 24 xs
    ∙ ap (λ (t : List Float). take 4 xs ++ t) (take-add 6 18 (drop 4 xs))
    ∙ ap (λ (t : List Float). take 4 xs ++ (part 4 6 xs ++ t)) {x = take 18 (drop 6 (drop 4 xs))} (ap (take 18) (drop-drop 6 4 xs) ∙ take-add 8 10 (drop 10 xs))
    ∙ ap (λ (t : List Float). take 4 xs ++ (part 4 6 xs ++ (part 10 8 xs ++ t))) (ap (take 10) (drop-drop 8 10 xs)))

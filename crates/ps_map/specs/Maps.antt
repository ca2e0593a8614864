-- §8.6.4.6.1: parameters mapped between 10, 20 and 34 stereo bands. Indices are averaged in whole numbers, toward zero, as ANSI C divides;
-- coefficients in floats, each operation rounded once. Assumes nothing.
use Rattle.std.specs.Prelude.{ℕ, List, [], ◌∷◌, map, cond, eqb, ℤ, pos, ◌+ℤ◌, ◌*ℤ◌, Float, length, get_or}
use Rattle.std.specs.Float.{binary64}
use Rattle.std.specs.Float.Ieee.{add, mul, div, of_int}
use Rattle.integers.specs.Integers.{to_zero}
use Rattle.lists.specs.Padded.{padded}
use Rattle.layout.specs.declared.Layout.{Layout}
use Rattle.layout.specs.declared.Layout.TheVariants.{Bands20, Bands34}
use Rattle.layout.specs.Numbers.{bands_of}
use Rattle.ps_map.specs.declared.MapSrc.{MapSrc}
use Rattle.ps_map.specs.declared.MapSrc.TheVariants.{Single, Avg, Avg4, W21, W12}
use Rattle.ps_map.specs.Tables.{sources_of}

-- ---- what a source makes of a row, for any kind of number

-- what stands past a row's end, and the averages (a + b)/2, (a + b + c + d)/4, (2a + b)/3, (a + 2b)/3
pub record Averages (A : Type 0) : Type 0 where
  pub none : A
  pub of_two : A → A → A
  pub of_four : A → A → A → A → A
  pub first_twice : A → A → A
  pub second_twice : A → A → A

module _ {A : Type 0} (by : Averages A) where
  abbrev pub at : List A → ℕ → A
  at v i = get_or v i by.none

  abbrev pub made : List A → MapSrc → A
  made v (Single i) = at v i
  made v (Avg i j) = by.of_two (at v i) (at v j)
  made v (Avg4 i j k l) = by.of_four (at v i) (at v j) (at v k) (at v l)
  made v (W21 i j) = by.first_twice (at v i) (at v j)
  made v (W12 i j) = by.second_twice (at v i) (at v j)

-- ---- indices

abbrev pub index_averages : Averages ℤ
index_averages = record {
  none = pos 0;
  of_two = λ a b. to_zero (a +ℤ b) 2;
  of_four = λ a b c d. to_zero (a +ℤ b +ℤ c +ℤ d) 4;
  first_twice = λ a b. to_zero (pos 2 *ℤ a +ℤ b) 3;
  second_twice = λ a b. to_zero (a +ℤ pos 2 *ℤ b) 3;
}

abbrev pub index_at : List ℤ → ℕ → ℤ
index_at v i = at index_averages v i

abbrev pub index_from : List ℤ → MapSrc → ℤ
index_from v source = made index_averages v source

-- from 10 to 20: each parameter twice
abbrev pub duplicated : List ℤ → List ℤ
duplicated [] = []
duplicated (x ∷ v) = x ∷ x ∷ duplicated v

-- from 10, 20 or 34 to the bands of a layout; 10 to 34 goes by 20
unfoldable pub map_row : List ℤ → Layout → List ℤ
map_row v layout =
    cond (eqb (length v) (bands_of layout)) v
    (cond (eqb (length v) 10) (from_ten v layout) (map (index_from v) (sources_of layout)))
  where
    from_ten : List ℤ → Layout → List ℤ
    from_ten v Bands20 = duplicated v
    from_ten v Bands34 = map (index_from (duplicated v)) (sources_of Bands34)

-- the 34 places that hold a row: zeros after it
abbrev pub padded_row : List ℤ → List ℤ
padded_row v = padded 34 (pos 0) v

-- a row of phases extended with zeros, or cut, to a length
abbrev pub extended_to : ℕ → List ℤ → List ℤ
extended_to n v = padded n (pos 0) v

-- ---- coefficients

-- a whole number as a float
abbrev pub whole : ℕ → Float
whole n = of_int binary64 (pos n)

abbrev pub coefficient_averages : Averages Float
coefficient_averages = record {
  none = whole 0;
  of_two = λ a b. div binary64 (add binary64 a b) (whole 2);
  of_four = λ a b c d. div binary64 (add binary64 (add binary64 (add binary64 a b) c) d) (whole 4);
  first_twice = λ a b. div binary64 (add binary64 (mul binary64 (whole 2) a) b) (whole 3);
  second_twice = λ a b. div binary64 (add binary64 a (mul binary64 (whole 2) b)) (whole 3);
}

abbrev pub coefficient_at : List Float → ℕ → Float
coefficient_at v i = at coefficient_averages v i

abbrev pub coefficient_from : List Float → MapSrc → Float
coefficient_from v source = made coefficient_averages v source

-- padded coefficients brought to a layout from the other one, in 34 places: zeros after them
unfoldable pub map_coefficients : List Float → Layout → List Float
map_coefficients v layout = padded 34 (whole 0) (map (coefficient_from v) (sources_of layout))

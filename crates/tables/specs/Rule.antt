-- The rule of a table of whole numbers of 2^-52 (document 01, 'Constants'): groups of a fixed width, whose squares sum nearly to a given number.
-- Assumes nothing.
use Rattle.std.specs.Prelude.{◌≡◌, List, [], ◌∷◌, ℕ, ◌+◌, ◌*◌, ◌^◌, ◌<◌, ◌≤◌, ℤ, pos, nat_abs, length, take, drop, get_or}

-- a and b differ by at most d
pub record Near (a b d : ℕ) : Type 0 where
  pub over : a ≤ b + d
  pub under : b ≤ a + d

-- the sum of the squares
abbrev pub squares : List ℤ → ℕ
squares [] = 0
squares (z ∷ zs) = nat_abs z * nat_abs z + squares zs

-- group k of a table whose groups have `width` numbers each
abbrev pub group : ℕ → List ℤ → ℕ → List ℤ
group width table k = take width (drop (k * width) table)

-- `count` groups; the squares of each sum to `total` within `slack`; and every number is so small that a float holds it exactly
pub record Ruled (table : List ℤ) (count width total slack : ℕ) : Type 0 where
  pub counted : length table ≡ count * width
  pub near : (k : ℕ) → k < count → Near (squares (group width table k)) total slack
  pub small : (i : ℕ) → i < count * width → nat_abs (get_or table i (pos 0)) < 2 ^ 53

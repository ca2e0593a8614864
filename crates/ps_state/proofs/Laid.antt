-- Parts of a list that are stored from the last to the first. Assumes nothing.
use mathlib.Core.Path.{◌≡◌, refl, ap, ◌∙◌}
use mathlib.Core.List.{List, [], ◌∷◌, ◌++◌}
use Prim.Native.Nat.{ℕ, ◌+◌, ◌<◌}
use native.Mathlib.Omega.{arith}
use lib.ListN.{length, take, set}
use lib.Ieee.{Float}
use Rattle.lists.specs.Part.{put}
use Rattle.lists.proofs.Parts.{placed, tail_back}

-- a part to store, and how many places are its
pub record Piece : Type 0 where
  pub long : ℕ
  pub now : List Float

abbrev pub piece : ℕ → List Float → Piece
piece n q = record { long = n; now = q }

abbrev pub total : List Piece → ℕ
total [] = 0
total (p ∷ ps) = p.long + total ps

abbrev pub joined : Piece → List Piece → List Float
joined p [] = p.now
joined p (q ∷ ps) = p.now ++ joined q ps

-- from place a on, the last first
abbrev pub puts : ℕ → List Piece → List Float → List Float
puts a [] m = m
puts a (p ∷ ps) m = put a p.long (puts (a + p.long) ps m) p.now

pub laid : (a : ℕ) (p : Piece) (ps : List Piece) (m : List Float) → length m ≡ a + (p.long + total ps) → puts a (p ∷ ps) m ≡ take a m ++ joined p ps
laid a p [] m l = tail_back a p.long m p.now (omega arith)
laid a p (q ∷ ps) m l =
    placed m _ (joined q ps) p.now a p.long (a + p.long) (laid (a + p.long) q ps m (omega arith)) refl (omega arith)

-- a single number before them, stored last
pub headed : (v : Float) (p : Piece) (ps : List Piece) (m : List Float) → length m ≡ 1 + (p.long + total ps) → set (puts 1 (p ∷ ps) m) 0 v ≡ v ∷ joined p ps
headed v p ps m l = ap (λ (t : List Float). set t 0 v) (laid 1 p ps m l) ∙ first m (omega arith)
  where
    first : (n : List Float) → 0 < length n → set (take 1 n ++ joined p ps) 0 v ≡ v ∷ joined p ps
    first [] h = absurd (omega arith)
    first (x ∷ n) h = refl

-- three parts that are a whole list
pub three_laid : (a b c : ℕ) (m p q r : List Float) {x y z : List Float} → length m ≡ 0 + (a + (b + (c + 0))) → p ≡ x → q ≡ y → r ≡ z
    → put 0 a (put (0 + a) b (put (0 + a + b) c m r) q) p ≡ x ++ (y ++ z)
three_laid a b c m p q r l ep eq er = laid 0 (piece a p) (piece b q ∷ piece c r ∷ []) m l ∙ rw (ep, eq, er)

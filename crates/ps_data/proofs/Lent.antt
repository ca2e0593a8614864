-- A kind's rows stand from its place to the end of the line. Assumes nothing.
use mathlib.Core.Path.{◌≡◌, sym, ap, ◌∙◌}
use mathlib.Core.Bool.{Bool, true, false, not}
use mathlib.Core.List.{List}
use Prim.Native.Nat.{ℕ, ◌-◌, ◌<◌, ◌≤◌, min}
use native.Mathlib.Omega.{arith}
use lib.Dec.{T, ltb, ltb→lt, nltb→le}
use lib.ListN.{length, take, drop, drop_of_length-le}
use Rattle.lists.proofs.Parts.{tail_lent}

-- what `&bytes[from..]` lends, where a place past the end was limited to it
pub lent_from : (place from : ℕ) (bytes : List ℕ) → from ≡ min place (length bytes) → take (length bytes - from) (drop from bytes) ≡ drop place bytes
lent_from place from bytes e = tail_lent from (length bytes - from) bytes (omega arith) ∙ go (ltb place (length bytes)) (ltb→lt place (length bytes)) (nltb→le place (length bytes))
  where
    go : (t : Bool) → (T t → place < length bytes) → (T (not t) → length bytes ≤ place) → drop from bytes ≡ drop place bytes
    go true a b =
        let inside : place < length bytes = a tt in
        let same : from ≡ place = omega arith in
        ap (λ (n : ℕ). drop n bytes) same
    go false a b =
        let past : length bytes ≤ place = b tt in
        drop_of_length-le bytes {i = from} (omega arith) ∙ sym (drop_of_length-le bytes past)

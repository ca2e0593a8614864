-- The places that hold a row, for any number of places and any kind of element: each reads as the row does, with zeros past its end. Assumes nothing.
use mathlib.Core.Path.{◌≡◌, refl, sym, ap, ◌∙◌}
use mathlib.Core.Bool.{Bool, true, false, not}
use mathlib.Core.List.{List, [], ◌∷◌, ◌++◌}
use Prim.Native.Nat.{ℕ, zero, suc, ◌≤◌, ◌<◌, min}
use native.Mathlib.Nat.{le_refl}
use native.Mathlib.Omega.{arith}
use lib.Dec.{T, ltb, ltb→lt, nltb→le, leb, leb→le, nleb→lt}
use lib.ListN.{length, take, get_or, replicate, get_or-eq_default}
use lib.Seq.{get_or-take, ext_get_or, take_all, take-append-le}
use Rattle.lists.specs.Padded.{padded}
use Rattle.lists.specs.Rows.{tabulate}
use Rattle.lists.proofs.Padded.{padded_length}
use Rattle.lists.proofs.Maps.{tabulate_length, tabulate_at}

module _ {A : Type 0} (z : A) where
  padded_at : (v : List A) (m i : ℕ) → get_or (v ++ replicate m z) i z ≡ get_or v i z
  padded_at [] zero i = refl
  padded_at [] (suc m) zero = refl
  padded_at [] (suc m) (suc i) = padded_at [] m i
  padded_at (x ∷ v) m zero = refl
  padded_at (x ∷ v) m (suc i) = padded_at v m i

  reads : (n : ℕ) (v : List A) (i : ℕ) → i < n → get_or (padded n z v) i z ≡ get_or v i z
  reads n v i h = get_or-take n (v ++ replicate n z) i z h ∙ padded_at v n i

  -- the row is written place by place
  pub held_places : (n : ℕ) (v : List A) → tabulate (λ i. get_or v i z) n ≡ padded n z v
  held_places n v =
      ext_get_or z (tabulate (λ i. get_or v i z) n) (padded n z v) (tabulate_length (λ i. get_or v i z) n ∙ sym (padded_length z n v))
      (λ i h. let u : i < n = (rw tabulate_length at h) in tabulate_at (λ j. get_or v j z) n i z u ∙ sym (reads n v i u))

  -- zeros between a row and the end change nothing
  pub held_twice : (n m : ℕ) (v : List A) → length v ≤ m → padded n z (padded m z v) ≡ padded n z v
  held_twice n m v h =
      ext_get_or z (padded n z (padded m z v)) (padded n z v) (padded_length z n (padded m z v) ∙ sym (padded_length z n v))
      (λ i u. let l : i < n = (rw padded_length at u) in reads n (padded m z v) i l ∙ anywhere i (ltb i m) (ltb→lt i m) (nltb→le i m) ∙ sym (reads n v i l))
    where
      anywhere : (i : ℕ) (t : Bool) → (T t → i < m) → (T (not t) → m ≤ i) → get_or (padded m z v) i z ≡ get_or v i z
      anywhere i true a b = reads m v i (a tt)
      anywhere i false a b =
          let past : m ≤ i = b tt in
          get_or-eq_default (padded m z v) z {n = i} (rw padded_length past) ∙ sym (get_or-eq_default v z {n = i} (omega arith))

  -- a row that is cut to a length reads as one that is padded to it
  pub held_cut : (n m : ℕ) (v : List A) → padded n z (take (min m (length v)) v) ≡ padded n z (padded m z v)
  held_cut n m v = go (leb m (length v)) (leb→le m (length v)) (nleb→lt m (length v))
    where
      go : (t : Bool) → (T t → m ≤ length v) → (T (not t) → length v < m) → padded n z (take (min m (length v)) v) ≡ padded n z (padded m z v)
      go true a b =
          let few : m ≤ length v = a tt in
          let least : min m (length v) ≡ m = omega arith in
          rw least (ap (padded n z) (sym (take-append-le m v (replicate m z) few)))
      go false a b =
          let past : length v < m = b tt in
          let least : min m (length v) ≡ length v = omega arith in
          rw (least, take_all (length v) v (le_refl (length v))) (sym (held_twice n m v (omega arith)))

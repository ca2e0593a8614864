-- What `array::from_fn` makes, where each call leaves the closure as it was: f of each place. Assumes nothing.
use mathlib.Core.Path.{◌≡◌, refl, sym, ap, subst, ◌∙◌}
use mathlib.Core.Logic.{◌⊎◌, inl, inr}
use mathlib.Core.List.{List}
use Prim.Native.Nat.{ℕ, zero, suc, ◌+◌, ◌≤◌, ◌<◌}
use native.Mathlib.Nat.{eq-or-lt_of_le}
use native.Mathlib.Omega.{arith}
use denote.Param.Members.{Mut, Called}
use lib.ListN.{length, get_or}
use lib.Seq.{ext_get_or}
use Rattle.std.specs.Array.{IsFromFnResultFrom, IsFromFnResult}
use Rattle.lists.specs.Rows.{tabulate}
use Rattle.lists.proofs.Maps.{tabulate_length, tabulate_at}

module _ {F B : Type 0} {g : Mut F (ℕ × Unit {0}) B} (f : F) (h : ℕ → B) (step : (i : ℕ) (y : B) (q : F) → Called g f (i, tt) y q → (q ≡ f) × (y ≡ h i)) where
  made_from : (ys : List B) (i n : ℕ) → IsFromFnResultFrom g f ys i n → (k : ℕ) (d : B) → i ≤ k → k < i + n → get_or ys k d ≡ h k
  made_from ys i zero made k d low high = absurd (omega arith)
  made_from ys i (suc n) (q, y, here, called, rest) k d low high = go (eq-or-lt_of_le low) (λ l. made_from ys (i + 1) n left k d l (omega arith))
    where
      same : (q ≡ f) × (y ≡ h i)
      same = step i y q called

      left : IsFromFnResultFrom g f ys (i + 1) n
      left = subst (λ (p : F). IsFromFnResultFrom g p ys (i + 1) n) same.0 rest

      go : (i ≡ k) ⊎ (i < k) → (i + 1 ≤ k → get_or ys k d ≡ h k) → get_or ys k d ≡ h k
      go (inl e) later = ap (λ (j : ℕ). get_or ys j d) (sym e) ∙ here.1 d ∙ same.1 ∙ ap h e
      go (inr l) later = later (omega arith)

  pub from_fn_is : (ys : List B) (n : ℕ) → IsFromFnResult g f ys n → ys ≡ tabulate h n
  from_fn_is ys n r =
      ext_get_or (h 0) ys (tabulate h n) (r.long ∙ sym (tabulate_length h n))
      (λ k u. let low : k < n = (rw r.long at u) in made_from ys 0 n r.each k (h 0) (omega arith) (omega arith) ∙ sym (tabulate_at h n k (h 0) low))

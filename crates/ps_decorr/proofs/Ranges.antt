-- What the kind of a channel says of its number. Assumes nothing.
use Prim.Native.Nat.{ℕ, ◌≤◌, ◌<◌}
use mathlib.Core.Path.{◌≡◌, refl, sym, subst, ◌∙◌}
use mathlib.Core.Bool.{Bool, true, false, cond}
use borrow.Author.Tests.{ltb-true, ltb-false}
use lib.Dec.{ltb}
use Rattle.layout.specs.declared.Kind.{Kind}
use Rattle.layout.specs.declared.Kind.TheVariants.{AllPass, Long, Short}
use Rattle.layout.specs.declared.Layout.{Layout}
use Rattle.layout.specs.Numbers.{all_pass_of, short_delay_of, kind_of}

abbrev pub Told : Layout → ℕ → Kind → Type 0
Told l k AllPass = k < all_pass_of l
Told l k Long = (all_pass_of l ≤ k) × (k < short_delay_of l)
Told l k Short = (all_pass_of l ≤ k) × (short_delay_of l ≤ k)

pub told : (l : Layout) (k : ℕ) {r kind : Kind} → r ≡ kind_of l k → r ≡ kind → Told l k kind
told l k {r} {kind} e f = subst (Told l k) (sym e ∙ f) (go (ltb k (all_pass_of l)) (ltb k (short_delay_of l)) refl refl)
  where
    go : (s t : Bool) → ltb k (all_pass_of l) ≡ s → ltb k (short_delay_of l) ≡ t → Told l k (cond s AllPass (cond t Long Short))
    go true t e f = ltb-true k (all_pass_of l) e
    go false true e f = (ltb-false k (all_pass_of l) e, ltb-true k (short_delay_of l) f)
    go false false e f = (ltb-false k (all_pass_of l) e, ltb-false k (short_delay_of l) f)

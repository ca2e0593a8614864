-- Where the filters of a split band go: into the band's own span of hybrid channels, by the two layouts' tables case by case. Assumes nothing.
use mathlib.Core.Path.{◌≡◌, refl}
use mathlib.Core.Logic.{◌⊎◌, inl, inr}
use Prim.Native.Nat.{ℕ, zero, suc, ◌+◌, ◌*◌, ◌<◌, ◌≤◌}
use native.Mathlib.Nat.{mul-le-mul}
use native.Mathlib.Omega.{arith}
use Rattle.layout.specs.declared.Layout.{Layout}
use Rattle.layout.specs.declared.Layout.TheVariants.{Bands20, Bands34}
use Rattle.layout.specs.Numbers.{split_of, unsplit_from_of, first_channel_of}
use Rattle.decimals.specs.declared.Prototype.{Prototype}
use Rattle.decimals.specs.declared.Prototype.TheVariants.{EighthsOfBand0, Halves, Twelfths, EighthsOfBand1, Quarters}
use Rattle.standard.specs.Hybrid.{prototype_for, filters_of, channel_for}
use Rattle.standard.proofs.Spans.{spans}

-- a product of two small factors
pub product_most : (a b : ℕ) → a ≤ 44 → b ≤ 54 → a * b ≤ 2376
product_most a b h l = mul-le-mul h l

-- filters 2 and 5 of QMF band 0 join in channel 4, 3 and 4 in channel 5
pub joined_71 : (q : ℕ) → (q ≡ 2) ⊎ (q ≡ 5) → channel_for Bands20 0 q ≡ 4
joined_71 q (inl e) = rw e
joined_71 q (inr e) = rw e

pub others_71 : (q : ℕ) → (q ≡ 0 → ⊥) → (q ≡ 1 → ⊥) → (q ≡ 2 → ⊥) → (q ≡ 5 → ⊥) → (q ≡ 6 → ⊥) → (q ≡ 7 → ⊥)
    → channel_for Bands20 0 q ≡ 5
others_71 zero a b c d e f = absurd (a refl)
others_71 (suc zero) a b c d e f = absurd (b refl)
others_71 (suc (suc zero)) a b c d e f = absurd (c refl)
others_71 (suc (suc (suc zero))) a b c d e f = refl
others_71 (suc (suc (suc (suc zero)))) a b c d e f = refl
others_71 (suc (suc (suc (suc (suc zero))))) a b c d e f = absurd (d refl)
others_71 (suc (suc (suc (suc (suc (suc zero)))))) a b c d e f = absurd (e refl)
others_71 (suc (suc (suc (suc (suc (suc (suc zero))))))) a b c d e f = absurd (f refl)
others_71 (suc (suc (suc (suc (suc (suc (suc (suc q)))))))) a b c d e f = refl

pub filters_most : (p : Prototype) → filters_of p ≤ 12
filters_most EighthsOfBand0 = omega arith
filters_most Halves = omega arith
filters_most Twelfths = omega arith
filters_most EighthsOfBand1 = omega arith
filters_most Quarters = omega arith

-- the channel of a filter of the layout with 34 bands
pub channel_of_34 : (p q : ℕ) → p < 5 → channel_for Bands34 p q ≡ first_channel_of Bands34 p + q
channel_of_34 zero q h = refl
channel_of_34 (suc zero) q h = refl
channel_of_34 (suc (suc zero)) q h = refl
channel_of_34 (suc (suc (suc zero))) q h = refl
channel_of_34 (suc (suc (suc (suc zero)))) q h = refl
channel_of_34 (suc (suc (suc (suc (suc p))))) q h = absurd (omega arith)

-- ---- a filter's channel is in its band's span
pub record Inside (l : Layout) (p q : ℕ) : Type 0 where
  pub from : first_channel_of l p ≤ channel_for l p q
  pub to : channel_for l p q < first_channel_of l (suc p)

pub channel_inside : (l : Layout) (p q : ℕ) → p < split_of l → q < filters_of (prototype_for l p) → Inside l p q
channel_inside Bands20 zero zero h u = record { from = omega arith; to = omega arith }
channel_inside Bands20 zero (suc zero) h u = record { from = omega arith; to = omega arith }
channel_inside Bands20 zero (suc (suc zero)) h u = record { from = omega arith; to = omega arith }
channel_inside Bands20 zero (suc (suc (suc zero))) h u = record { from = omega arith; to = omega arith }
channel_inside Bands20 zero (suc (suc (suc (suc zero)))) h u = record { from = omega arith; to = omega arith }
channel_inside Bands20 zero (suc (suc (suc (suc (suc zero))))) h u = record { from = omega arith; to = omega arith }
channel_inside Bands20 zero (suc (suc (suc (suc (suc (suc zero)))))) h u = record { from = omega arith; to = omega arith }
channel_inside Bands20 zero (suc (suc (suc (suc (suc (suc (suc zero))))))) h u = record { from = omega arith; to = omega arith }
channel_inside Bands20 zero (suc (suc (suc (suc (suc (suc (suc (suc q)))))))) h u = absurd (omega arith)
channel_inside Bands20 (suc zero) zero h u = record { from = omega arith; to = omega arith }
channel_inside Bands20 (suc zero) (suc zero) h u = record { from = omega arith; to = omega arith }
channel_inside Bands20 (suc zero) (suc (suc q)) h u = absurd (omega arith)
channel_inside Bands20 (suc (suc zero)) q h u = record { from = omega arith; to = omega arith }
channel_inside Bands20 (suc (suc (suc p))) q h u = absurd (omega arith)
channel_inside Bands34 zero q h u = record { from = omega arith; to = omega arith }
channel_inside Bands34 (suc zero) q h u = record { from = omega arith; to = omega arith }
channel_inside Bands34 (suc (suc zero)) q h u = record { from = omega arith; to = omega arith }
channel_inside Bands34 (suc (suc (suc zero))) q h u = record { from = omega arith; to = omega arith }
channel_inside Bands34 (suc (suc (suc (suc zero)))) q h u = record { from = omega arith; to = omega arith }
channel_inside Bands34 (suc (suc (suc (suc (suc p))))) q h u = absurd (omega arith)

-- so it is one of the layout's
pub channel_few : (l : Layout) (p q r : ℕ) → p < split_of l → q < filters_of (prototype_for l p) → r ≡ channel_for l p q → (r ≡ channel_for l p q) × (r < unsplit_from_of l)
channel_few l p q r h u e = (e, omega (arith, (channel_inside l p q h u).to, (spans l (suc p)).most))

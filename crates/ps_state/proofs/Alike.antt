-- States that are near are held by the same numbers: an image or a ring of d entries reads a history no further back than d. Assumes nothing.
use Prim.Native.Nat.{ℕ, suc, ◌+◌, ◌-◌, ◌*◌, ◌/◌, ◌%◌, ◌<◌}
use native.Mathlib.Omega.{arith}
use mathlib.Core.Path.{◌≡◌, refl, ap, ap₂, ◌∙◌}
use mathlib.Core.Bool.{Bool, true, false, cond}
use mathlib.Core.List.{List, [], ◌∷◌, ◌++◌}
use borrow.Author.Tests.{ltb-true, lt-ltb, le-ltb}
use lib.Dec.{ltb}
use lib.Ieee.{Float, nan}
use lib.ListN.{length, get_or}
use Rattle.calls.specs.Call.{Playing}
use Rattle.calls.specs.Near.{Alike, reach_of, NearChannel, Near}
use Rattle.complex.specs.declared.Complex.{Complex}
use Rattle.layout.specs.declared.Layout.{Layout}
use Rattle.layout.specs.declared.Layout.TheVariants.{Bands20, Bands34}
use Rattle.layout.specs.Numbers.{split_of, bands_of, channels_of, all_pass_of, short_delay_of, groups_of}
use Rattle.layout.proofs.Bounds.{bounds}
use Rattle.lists.specs.Ring.{age}
use Rattle.lists.specs.Rows.{rows}
use Rattle.lists.proofs.Maps.{tabulate_same}
use Rattle.lists.proofs.Ring.{age_small}
use Rattle.lists.proofs.Rows.{rows_same}
use Rattle.planar.specs.Frame.{numbers_of, phase_numbers}
use Rattle.planar.specs.Window.{image_of}
use Rattle.ps_decorr.specs.Channels.{plain_with}
use Rattle.ps_decorr_allpass.specs.Memory.{cell_of, owner_of, delays_with}
use Rattle.ps_decorr_transient.specs.Gains.{detector_numbers, detectors_with}
use Rattle.ps_stereo.specs.declared.PsStereo.{PsStereo}
use Rattle.ps_stereo.specs.Kept.{matrices_with, phases_with, stereo_with}
use Rattle.standard.specs.Channel.{Channel, back}
use Rattle.standard.specs.Detector.{Detector}
use Rattle.standard.specs.Mixing.{Kept}
use Rattle.ps_state.specs.declared.PsDecoder.{PsDecoder}
use Rattle.ps_state.specs.State.{history_with, turn_after, stored}

-- ---- images

image_alike : (d : ℕ) (g h : List Complex) → Alike d g h → image_of d g ≡ image_of d h
image_alike d g h alike =
    ap₂ (λ (a b : List Float). a ++ b)
    (tabulate_same (λ i. (back (d - suc i) g).re) (λ i. (back (d - suc i) h).re) d (λ i u. ap (λ (z : Complex). z.re) (alike (d - suc i) (omega arith))))
    (tabulate_same (λ i. (back (d - suc i) g).im) (λ i. (back (d - suc i) h).im) d (λ i u. ap (λ (z : Complex). z.im) (alike (d - suc i) (omega arith))))

-- the two parts of a complex number
abbrev numbers : Complex → List Float
numbers z = z.re ∷ z.im ∷ []

-- a choice that differs only where the test fails
chosen : {A : Type 0} (t : Bool) (x y z : A) → (t ≡ true → x ≡ y) → cond t x z ≡ cond t y z
chosen true x y z e = e refl
chosen false x y z e = refl

-- how far back each kind of channel looks
reach_chain : (l : Layout) (k : ℕ) → k < all_pass_of l → reach_of l k ≡ 2
reach_chain l k u = rw (lt-ltb k (all_pass_of l) u)

reach_long : (l : Layout) (j : ℕ) → j < 12 → reach_of l (all_pass_of l + j) ≡ 14
reach_long Bands20 j u = rw (le-ltb (30 + j) 30 (omega arith), lt-ltb (30 + j) 42 (omega arith))
reach_long Bands34 j u = rw (le-ltb (50 + j) 50 (omega arith), lt-ltb (50 + j) 62 (omega arith))

reach_short : (l : Layout) (j : ℕ) → reach_of l (short_delay_of l + j) ≡ 1
reach_short Bands20 j = rw (le-ltb (42 + j) 30 (omega arith), le-ltb (42 + j) 42 (omega arith))
reach_short Bands34 j = rw (le-ltb (62 + j) 50 (omega arith), le-ltb (62 + j) 62 (omega arith))

chain_inside : (l : Layout) (k : ℕ) → k < all_pass_of l → k < channels_of l
chain_inside l k u = let b = bounds l in omega arith

long_inside : (l : Layout) (j : ℕ) → j < 12 → all_pass_of l + j < channels_of l
long_inside l j u = let b = bounds l in omega arith

short_inside : (l : Layout) (j : ℕ) → j < 29 → short_delay_of l + j < channels_of l
short_inside l j u = omega (arith, (bounds l).last)

-- ---- the channels

module _ (l : Layout) (c d : ℕ → Channel) (near : (k : ℕ) → k < channels_of l → NearChannel l k (c k) (d k)) where
  past_alike : (k reach : ℕ) → k < channels_of l → reach_of l k ≡ reach → Alike reach (c k).past (d k).past
  past_alike k reach u e i v = (near k u).past i (rw e v)

  cell_alike : (t k : ℕ) → k < all_pass_of l → (j : ℕ) → cell_of t (c k) j ≡ cell_of t (d k) j
  unfolding cell_of
  cell_alike t k u j =
      let n = near k (chain_inside l k u) in
      rw (
        past_alike k 2 (chain_inside l k u) (reach_chain l k u) (age 2 t j) (age_small 2 t j (omega arith)),
        n.first u (age 3 t (j - 2)) (age_small 3 t (j - 2) (omega arith)),
        n.second u (age 4 t (j - 5)) (age_small 4 t (j - 5) (omega arith)),
        n.third u (age 5 t (j - 9)) (age_small 5 t (j - 9) (omega arith)),
      )

  delays_alike : (t : ℕ) (old : List Float) → delays_with l t c old ≡ delays_with l t d old
  unfolding delays_with
  delays_alike t old =
      tabulate_same _ _ (length old)
      (λ m u.
      ap (λ (x : Float). cond (ltb m (112 * groups_of l)) x (get_or old m nan))
      (chosen (ltb (owner_of m) (all_pass_of l)) _ _ _ (λ e. rw (cell_alike t (owner_of m) (ltb-true (owner_of m) (all_pass_of l) e) (m % 112 / 8)))))

  plain_alike : (t : ℕ) → plain_with l t c ≡ plain_with l t d
  unfolding plain_with
  plain_alike t =
      ap₂ (λ (a b : List Float). a ++ b)
      (rows_same _ _ 14
      (λ r u. rows_same _ _ 12
      (λ j v. ap numbers (past_alike (all_pass_of l + j) 14 (long_inside l j v) (reach_long l j v) (age 14 t r) (age_small 14 t r (omega arith))))))
      (rows_same _ _ 29 (λ j u. ap numbers (past_alike (short_delay_of l + j) 1 (short_inside l j u) (reach_short l j) 0 (omega arith))))

-- ---- the bands

-- the same rows in front of the same rest
laid_alike : {A : Type 0} (f g : ℕ → List A) (n : ℕ) (rest : List A) → ((k : ℕ) → k < n → f k ≡ g k) → rows f n ++ rest ≡ rows g n ++ rest
laid_alike {A} f g n rest same = ap (λ (a : List A). a ++ rest) (rows_same f g n same)

detectors_alike : (l : Layout) (c d : ℕ → Detector) → ((b : ℕ) → b < bands_of l → c b ≡ d b) → (old : List Float) → detectors_with l c old ≡ detectors_with l d old
unfolding detectors_with
detectors_alike l c d same old = laid_alike _ _ (bands_of l) _ (λ b u. ap detector_numbers (same b u))

stereo_alike : (l : Layout) (c d : ℕ → Kept) → ((b : ℕ) → b < bands_of l → c b ≡ d b) → (old : PsStereo) → stereo_with l c old ≡ stereo_with l d old
unfolding matrices_with phases_with
stereo_alike l c d same old = λ i. record { matrices = matrices i; phases = phases i }
  where
    matrices : matrices_with l c old.matrices ≡ matrices_with l d old.matrices
    matrices = laid_alike _ _ (bands_of l) _ (λ b u. ap (λ (x : Kept). numbers_of x.matrix) (same b u))

    phases : phases_with l c old.phases ≡ phases_with l d old.phases
    phases = laid_alike _ _ (bands_of l) _ (λ b u. ap (λ (x : Kept). phase_numbers x.ipd x.opd) (same b u))

-- ---- the whole

history_alike : (l : Layout) (g h : ℕ → List Complex) → ((p : ℕ) → p < split_of l → Alike 6 (g p) (h p)) → (old : List Float) → history_with l g old ≡ history_with l h old
unfolding history_with
history_alike l g h alike old = laid_alike _ _ (split_of l) _ (λ p u. image_alike 6 (g p) (h p) (alike p u))

pub stored_near : (old : PsDecoder) (s t : Playing) → Near s t → stored old s ≡ stored old t
unfolding stored
stored_near old s t near =
    let core = near.core in
    let l = s.core.layout in
    let e : l ≡ t.core.layout = core.layout in
    let history = history_alike l s.past t.past near.past old.history ∙ ap (λ (x : Layout). history_with x t.past old.history) e in
    let turn = turn_after old s.slots in
    let same : turn ≡ turn_after old t.slots = ap (turn_after old) near.slots in
    let delays = delays_alike l s.core.channel t.core.channel core.channel turn old.decorr.delays
    ∙ ap₂ (λ (x : Layout) (n : ℕ). delays_with x n t.core.channel old.decorr.delays) e same in
    let plain = plain_alike l s.core.channel t.core.channel core.channel turn ∙ ap₂ (λ (x : Layout) (n : ℕ). plain_with x n t.core.channel) e same in
    let detectors = detectors_alike l s.core.detector t.core.detector core.detector old.decorr.detectors
    ∙ ap (λ (x : Layout). detectors_with x t.core.detector old.decorr.detectors) e in
    let stereo = stereo_alike l s.core.kept t.core.kept core.kept old.stereo ∙ ap (λ (x : Layout). stereo_with x t.core.kept old.stereo) e in
    λ i. record {
      asked = old.asked;
      layout = core.layout i;
      cued = core.cued i;
      lines = near.lines i;
      history = history i;
      decorr = record { turn = same i; delays = delays i; plain = plain i; detectors = detectors i };
      stereo = stereo i;
    }

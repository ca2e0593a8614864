-- The tests of the code, one after the other, are the definition's. Assumes nothing.
use mathlib.Core.Path.{◌≡◌, refl, sym}
use Rattle.std.proofs.Math.Bool.{and_assoc}
use mathlib.Core.Bool.{Bool, true, false, ◌&&◌, true≢false}
use mathlib.Core.List.{List}
use Prim.Native.Nat.{ℕ, ◌+◌, ◌*◌, ◌%◌, ◌≤◌}
use borrow.Author.Tests.{leb-true}
use lib.Dec.{eqb, leb}
use lib.Ieee.{Float}
use lib.ListN.{length, take}
use Rattle.answer.specs.declared.Answer.TheVariants.{Done, Buffers, Sample}
use Rattle.lists.specs.All.{all}
use Rattle.calls.specs.Call.{buffers_fit, sample_fits, samples_fit, input_answer}

-- ---- the lengths

-- the tests joined from the first on
pub all_fit : (slots input left right : ℕ) {rows lefts : Bool} → rows ≡ eqb (input % 128) 0 && leb (128 * (slots + 6)) input
    → lefts ≡ rows && eqb left (128 * slots) → lefts && eqb right (128 * slots) ≡ buffers_fit slots input left right
unfolding buffers_fit
all_fit slots input left right e f = rw (f, e, and_assoc, and_assoc)

-- lengths that fit leave room for the rows that are read
pub fit_room : (slots input left right : ℕ) → buffers_fit slots input left right ≡ true → 128 * (slots + 6) ≤ input
unfolding buffers_fit
fit_room slots input left right = go (eqb (input % 128) 0) (leb (128 * (slots + 6)) input) refl
  where
    go : (s t : Bool) → leb (128 * (slots + 6)) input ≡ t → s && (t && (eqb left (128 * slots) && eqb right (128 * slots))) ≡ true → 128 * (slots + 6) ≤ input
    go true true e f = leb-true (128 * (slots + 6)) input e
    go true false e f = absurd (true≢false (sym f))
    go false t e f = absurd (true≢false (sym f))

-- ---- the answer, when the slots and the two answers before it are known

module _ (slots : ℕ) (input : List Float) (left right : ℕ) (fit : Bool) (fits : fit ≡ buffers_fit slots (length input) left right) where
  pub refused_buffers : fit ≡ false → Buffers ≡ input_answer slots input left right
  unfolding input_answer
  refused_buffers e = rw (← fits, e)

  module _ (good : fit ≡ true) (sound : Bool) (sounds : sound ≡ all sample_fits (take (128 * (slots + 6)) input)) where
    pub accepted : sound ≡ true → Done ≡ input_answer slots input left right
    unfolding input_answer samples_fit
    accepted e = rw (← fits, good, ← sounds, e)

    pub refused_sample : sound ≡ false → Sample ≡ input_answer slots input left right
    unfolding input_answer samples_fit
    refused_sample e = rw (← fits, good, ← sounds, e)

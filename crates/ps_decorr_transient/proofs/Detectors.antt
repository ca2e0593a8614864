-- A detector that is kept is read again, and every other number is as it was. Assumes nothing.
use mathlib.Core.Path.{◌≡◌, refl, sym, ap, ap₂, ◌∙◌}
use mathlib.Core.Bool.{Bool, true, false}
use mathlib.Core.List.{List, [], ◌∷◌, ◌++◌}
use Prim.Native.Nat.{ℕ, suc, ◌+◌, ◌*◌, ◌<◌, ◌≤◌}
use native.Mathlib.Omega.{arith}
use borrow.Author.Tests.{ltb-true, ltb-false}
use lib.Dec.{ltb}
use lib.Ieee.{Float, nan}
use lib.ListN.{length, take, drop, get_or, set, length-set, length-drop, take-append-drop}
use lib.Seq.{get_or-set_same, get_or-set_other, ext_get_or, get_or-drop, drop-cons}
use Rattle.lists.specs.Part.{part}
use Rattle.lists.specs.Rows.{rows}
use Rattle.lists.proofs.Rows.{rows_same, rows_cut}
use Rattle.standard.specs.Detector.{Detector}
use Rattle.ps_decorr_transient.specs.Gains.{detector_of, detector_numbers}
use Rattle.ps_decorr_transient.specs.Rows.{Detected}

-- equal parts make equal detectors
by_parts : {x y : Detector} → x.peak ≡ y.peak → x.smooth ≡ y.smooth → x.difference ≡ y.difference → x ≡ y
by_parts p q r = λ i. record { peak = p i; smooth = q i; difference = r i }

module _ (memory : List Float) (b : ℕ) (d : Detector) where
  abbrev one : List Float
  one = set memory (3 * b) d.peak

  abbrev two : List Float
  two = set one (3 * b + 1) d.smooth

  abbrev kept : List Float
  kept = set two (3 * b + 2) d.difference

  kept_same : 3 * b + 3 ≤ length memory → detector_of kept b ≡ d
  kept_same room =
      by_parts
      (get_or-set_other two (3 * b + 2) (3 * b) d.difference nan (λ (e : 3 * b ≡ 3 * b + 2). omega arith)
      ∙ get_or-set_other one (3 * b + 1) (3 * b) d.smooth nan (λ (e : 3 * b ≡ 3 * b + 1). omega arith)
      ∙ get_or-set_same memory (3 * b) d.peak nan (omega arith))
      (get_or-set_other two (3 * b + 2) (3 * b + 1) d.difference nan (λ (e : 3 * b + 1 ≡ 3 * b + 2). omega arith)
      ∙ get_or-set_same one (3 * b + 1) d.smooth nan (simp length-set (omega arith)))
      (get_or-set_same two (3 * b + 2) d.difference nan (simp length-set (omega arith)))

  kept_other : (i : ℕ) → (3 * b ≤ i → i < 3 * b + 3 → ⊥) → get_or kept i nan ≡ get_or memory i nan
  kept_other i o =
      get_or-set_other two (3 * b + 2) i d.difference nan (λ (e : i ≡ 3 * b + 2). o (omega arith) (omega arith))
      ∙ get_or-set_other one (3 * b + 1) i d.smooth nan (λ (e : i ≡ 3 * b + 1). o (omega arith) (omega arith))
      ∙ get_or-set_other memory (3 * b) i d.peak nan (λ (e : i ≡ 3 * b). o (omega arith) (omega arith))

-- ---- band after band
pub detected_none : (first : ℕ) (new : ℕ → Detector) (l : List Float) → Detected first first new l l
detected_none first new l = record { long = refl; inside = λ b u v. absurd (omega arith); outside = λ i o. refl }

-- the detector of another band
pub detected_other : {first last : ℕ} {new : ℕ → Detector} {old l : List Float} → Detected first last new old l → (b : ℕ) → (first ≤ b → b < last → ⊥) → detector_of l b ≡ detector_of old b
detected_other r b o =
    by_parts (r.outside (3 * b) (λ g h. o (omega arith) (omega arith))) (r.outside (3 * b + 1) (λ g h. o (omega arith) (omega arith)))
    (r.outside (3 * b + 2) (λ g h. o (omega arith) (omega arith)))

pub detected_and : {first middle last : ℕ} {new : ℕ → Detector} {old l next : List Float} → Detected first middle new old l → Detected middle last new l next
    → first ≤ middle → middle ≤ last → Detected first last new old next
detected_and {first} {middle} {last} {new} {old} {l} {next} r s low high =
    record {
      long = s.long ∙ r.long;
      inside = λ b u v. one b u v (ltb b middle) refl;
      outside = λ i o. s.outside i (λ g h. o (omega arith) h) ∙ r.outside i (λ g h. o g (omega arith));
    }
  where
    one : (b : ℕ) → first ≤ b → b < last → (t : Bool) → ltb b middle ≡ t → detector_of next b ≡ new b
    one b u v true e =
        let below : b < middle = ltb-true b middle e in
        detected_other s b (λ g h. omega arith) ∙ r.inside b u below
    one b u v false e = s.inside b (ltb-false b middle e) v

-- the new ones by another name
pub detected_same : {first last : ℕ} {new other : ℕ → Detector} {old l : List Float} → Detected first last new old l → ((b : ℕ) → first ≤ b → b < last → new b ≡ other b) → Detected first last other old l
detected_same r e = record { long = r.long; inside = λ b u v. r.inside b u v ∙ e b u v; outside = r.outside }

pub detected_one : (l : List Float) (b : ℕ) (d : Detector) → 3 * b + 3 ≤ length l → Detected b (b + 1) (λ i. d) l (kept l b d)
detected_one l b d room =
    record {
      long = simp length-set;
      inside = λ i u v.
          let same : i ≡ b = omega arith in
          ap (detector_of (kept l b d)) same ∙ kept_same l b d room;
      outside = λ i o. kept_other l b d i (λ g h. o g (omega arith));
    }

pub detected_more : {first b : ℕ} {new : ℕ → Detector} {old l next : List Float} {d : Detector} → Detected first b new old l → (last : ℕ) → last ≡ b + 1
    → Detected b (b + 1) (λ i. d) l next → d ≡ new b → first ≤ b → Detected first last new old next
detected_more {b = b} {new} r last one s e low =
    rw one (detected_and r (detected_same s (λ i u v. e ∙ ap new (let same : b ≡ i = omega arith in same))) low (omega arith))

-- ---- the list of the detectors
three : (l : List Float) (i : ℕ) → i + 3 ≤ length l → take 3 (drop i l) ≡ get_or l i nan ∷ get_or l (i + 1) nan ∷ get_or l (i + 2) nan ∷ []
three l i room =
    let second : i + 1 ≡ suc i = omega arith in
    let third : i + 2 ≡ suc (suc i) = omega arith in
    rw (second, third, drop-cons l i nan (omega arith), drop-cons l (suc i) nan (omega arith), drop-cons l (suc (suc i)) nan (omega arith))

-- where the new ones are given by another name
pub detected_all : {bands : ℕ} {new : ℕ → Detector} {old l : List Float} → Detected 0 bands new old l → (f : ℕ → Detector) → ((b : ℕ) → b < bands → new b ≡ f b) → 3 * bands ≤ length old
    → l ≡ rows (λ b. detector_numbers (f b)) bands ++ drop (3 * bands) old
detected_all {bands} {new} {old} {l} r f e room = sym (take-append-drop (3 * bands) l) ∙ ap₂ (λ (p q : List Float). p ++ q) front behind
  where
    front : take (3 * bands) l ≡ rows (λ b. detector_numbers (f b)) bands
    front =
        let all : 3 * bands ≡ bands * 3 = omega arith in
        ap (λ (n : ℕ). take n l) all ∙ sym (rows_cut 3 bands l)
        ∙ rows_same (λ b. part (b * 3) 3 l) (λ b. detector_numbers (f b)) bands
        (λ b u.
        let place : b * 3 ≡ 3 * b = omega arith in
        ap (λ (i : ℕ). part i 3 l) place ∙ three l (3 * b) (omega (arith, r.long)) ∙ ap detector_numbers (r.inside b (omega arith) u ∙ e b u))

    behind : drop (3 * bands) l ≡ drop (3 * bands) old
    behind =
        ext_get_or nan (drop (3 * bands) l) (drop (3 * bands) old) (simp length-drop (rw r.long))
        (λ i h. get_or-drop (3 * bands) l i nan ∙ r.outside (3 * bands + i) (λ g k. omega arith) ∙ sym (get_or-drop (3 * bands) old i nan))

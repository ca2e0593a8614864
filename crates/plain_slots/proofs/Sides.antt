-- Left and right of a slot: which case the lists' lengths pick, where a band's coefficients stand, and what the loop leaves. Assumes nothing.
use mathlib.Core.Path.{◌≡◌, refl, sym, ap, ◌∙◌}
use mathlib.Core.Bool.{Bool, true, false, ◌&&◌}
use mathlib.Core.List.{List}
use Prim.Native.Nat.{ℕ, ◌+◌, ◌*◌, ◌<◌, ◌≤◌}
use borrow.Author.Tests.{lt-ltb, le-ltb, lt-leb, le-leb}
use native.Mathlib.Nat.{add-zero}
use native.Mathlib.Omega.{arith}
use lib.Dec.{ltb, leb}
use lib.Ieee.{Float, nan}
use lib.ListN.{length, get_or}
use Rattle.complex.specs.declared.Complex.{Complex}
use Rattle.complex.specs.Operations.{product, sum}
use Rattle.layout.specs.declared.Layout.{Layout}
use Rattle.layout.specs.Numbers.{bands_of, channels_of}
use Rattle.lists.specs.Part.{part}
use Rattle.lists.proofs.Parts.{part_at, part_part}
use Rattle.planar.specs.Cells.{cell}
use Rattle.planar.specs.Frame.{matrix_at}
use Rattle.planar.proofs.Cells.{by_parts}
use Rattle.ps_map.specs.Bands.{band_of, conjugated_of}
use Rattle.standard.specs.declared.Matrix.{Matrix}
use Rattle.standard.specs.Mixing.{taken, left_of, right_of}
use Rattle.plain_slots.specs.Rows.{in_row, left_after, right_after}
use Rattle.plain_slots.proofs.Carried.{Carried, carried_all}

-- ---- a channel
-- the coefficient that begins j numbers behind the band's first, in slot n
coefficient : (runs : List Float) (b n j place : ℕ) → n < 32 → j + 64 ≤ 256 → place ≡ 256 * b + n + j → cell 32 runs place ≡ cell 32 (part j 64 (part (256 * b) 256 runs)) n
coefficient runs b n j place small inside e =
    let here : place ≡ 256 * b + j + n = omega arith in
    let behind : place + 32 ≡ 256 * b + j + (n + 32) = omega arith in
    rw (part_part (256 * b) 256 j 64 runs inside)
    (by_parts (ap (λ (i : ℕ). get_or runs i nan) here ∙ sym (part_at (256 * b + j) 64 runs n nan (omega arith)))
    (ap (λ (i : ℕ). get_or runs i nan) behind ∙ sym (part_at (256 * b + j) 64 runs (n + 32) nan (omega arith))))

-- one side by its parts
unfoldable pub weighed : Bool → Complex → Complex → Complex → Complex → Complex
weighed marked a b s d = sum (product (taken marked a) s) (product (taken marked b) d)

by_same : {m m' : Bool} {a a' b b' s s' d d' : Complex} → m ≡ m' → a ≡ a' → b ≡ b' → s ≡ s' → d ≡ d' → weighed m a b s d ≡ weighed m' a' b' s' d'
by_same p q r t u = λ i. weighed (p i) (q i) (r i) (t i) (u i)

module _ (l : Layout) (n : ℕ) (runs samples decorrelated : List Float) where
  abbrev pub mixed : (Bool → Matrix → Complex → Complex → Complex) → ℕ → Complex
  mixed side k = side (conjugated_of l k) (matrix_at (part (256 * band_of l k) 256 runs) n) (in_row samples k) (in_row decorrelated k)

  -- what the loop reads for channel k
  pub record Read (k at : ℕ) (marked : Bool) (s d : Complex) : Type 0 where
    pub small : n < 32
    pub place : at ≡ 256 * band_of l k + n
    pub mark : marked ≡ conjugated_of l k
    pub sample : s ≡ in_row samples k
    pub other : d ≡ in_row decorrelated k

module _ {l : Layout} {n : ℕ} {runs samples decorrelated : List Float} {k at : ℕ} {marked : Bool} {s d : Complex} (r : Read l n runs samples decorrelated k at marked s d) where
  -- by the definitions' names, for the two runs that begin i and j numbers behind the band's first
  read_as : (i j : ℕ) → i + 64 ≤ 256 → j + 64 ≤ 256
      → weighed marked (cell 32 runs (at + i)) (cell 32 runs (at + j)) s d
      ≡ weighed (conjugated_of l k) (cell 32 (part i 64 (part (256 * band_of l k) 256 runs)) n) (cell 32 (part j 64 (part (256 * band_of l k) 256 runs)) n) (in_row samples k)
      (in_row decorrelated k)
  read_as i j u w =
      by_same r.mark (coefficient runs (band_of l k) n i (at + i) r.small u (omega (arith, r.place)))
      (coefficient runs (band_of l k) n j (at + j) r.small w (omega (arith, r.place))) r.sample r.other

  pub left_is : {v : Complex} → v ≡ sum (product (taken marked (cell 32 runs at)) s) (product (taken marked (cell 32 runs (at + 128))) d)
      → v ≡ mixed l n runs samples decorrelated left_of k
  unfolding left_of weighed
  left_is is = is ∙ (rw add-zero at (read_as 0 128 (omega arith) (omega arith)))

  pub right_is : {v : Complex} → v ≡ sum (product (taken marked (cell 32 runs (at + 64))) s) (product (taken marked (cell 32 runs (at + 192))) d)
      → v ≡ mixed l n runs samples decorrelated right_of k
  unfolding right_of weighed
  right_is is = is ∙ read_as 64 192 (omega arith) (omega arith)

-- ---- the tests one by one
module _ (l : Layout) (n : ℕ) (runs samples decorrelated left right : List Float) where
  abbrev numbers : ℕ
  numbers = 2 * channels_of l

  abbrev has : Bool
  has =
      ltb n 32 && leb (256 * bands_of l) (length runs) && leb numbers (length samples) && leb numbers (length decorrelated) && leb numbers (length left)
      && leb numbers (length right)

  abbrev pub New : List Float → List Float → Type 0
  New new-left new-right =
      (new-left ≡ left_after l n runs samples decorrelated left right) × (new-right ≡ right_after l n runs samples decorrelated left right)

  stays : has ≡ false → New left right
  unfolding left_after right_after
  stays e = (rw e, rw e)

  pub late : 32 ≤ n → New left right
  late h = stays (rw (le-ltb n 32 h))

  module _ (small : n < 32) where
    pub short_runs : length runs < 256 * bands_of l → New left right
    short_runs h = stays (rw (lt-ltb n 32 small, lt-leb (256 * bands_of l) _ h))

    module _ (bands : 256 * bands_of l ≤ length runs) where
      pub short_samples : length samples < numbers → New left right
      short_samples h = stays (rw (lt-ltb n 32 small, le-leb (256 * bands_of l) _ bands, lt-leb numbers (length samples) h))

      module _ (all : numbers ≤ length samples) where
        pub short_decorrelated : length decorrelated < numbers → New left right
        short_decorrelated h =
            stays (rw (lt-ltb n 32 small, le-leb (256 * bands_of l) _ bands, le-leb numbers (length samples) all, lt-leb numbers (length decorrelated) h))

        module _ (others : numbers ≤ length decorrelated) where
          pub short_left : length left < numbers → New left right
          short_left h =
              stays
              (rw (
                lt-ltb n 32 small,
                le-leb (256 * bands_of l) _ bands,
                le-leb numbers (length samples) all,
                le-leb numbers (length decorrelated) others,
                lt-leb numbers (length left) h,
              ))

          module _ (room : numbers ≤ length left) where
            pub short_right : length right < numbers → New left right
            short_right h =
                stays
                (rw (
                  lt-ltb n 32 small,
                  le-leb (256 * bands_of l) _ bands,
                  le-leb numbers (length samples) all,
                  le-leb numbers (length decorrelated) others,
                  le-leb numbers (length left) room,
                  lt-leb numbers (length right) h,
                ))

            has_room : numbers ≤ length right → has ≡ true
            has_room h =
                rw (
                  lt-ltb n 32 small,
                  le-leb (256 * bands_of l) _ bands,
                  le-leb numbers (length samples) all,
                  le-leb numbers (length decorrelated) others,
                  le-leb numbers (length left) room,
                  le-leb numbers (length right) h,
                )

            pub filled : {new-left new-right : List Float} → numbers ≤ length right → Carried (mixed l n runs samples decorrelated left_of) 0 (channels_of l) left new-left
                → Carried (mixed l n runs samples decorrelated right_of) 0 (channels_of l) right new-right → New new-left new-right
            unfolding left_after right_after
            filled h p q =
                let there = has_room h in (
                  rw there (carried_all (mixed l n runs samples decorrelated left_of) (channels_of l) p (λ i u. refl)),
                  rw there (carried_all (mixed l n runs samples decorrelated right_of) (channels_of l) q (λ i u. refl)),
                )

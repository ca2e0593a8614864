-- What is read back from the lists that hold a state: a row of rows, a history of its image, and a channel of its rings. Assumes nothing.
use Prim.Native.Nat.{ℕ, suc, ◌+◌, ◌-◌, ◌*◌, ◌<◌, ◌≤◌}
use mathlib.Core.Path.{◌≡◌, sym, subst, ap, ◌∙◌}
use mathlib.Core.List.{List, [], ◌++◌}
use native.Mathlib.Nat.{add-zero, mul_comm, suc-mul, mul-le-mul_right}
use native.Mathlib.Omega.{arith}
use lib.Ieee.{Float, nan}
use lib.ListN.{length, get_or, drop, replicate, length-append, length-drop, length-replicate, get_or-replicate}
use lib.Seq.{ext_get_or}
use Rattle.calls.specs.Near.{Alike}
use Rattle.complex.specs.declared.Complex.{Complex}
use Rattle.lists.specs.Part.{part}
use Rattle.lists.specs.Rows.{rows, tabulate}
use Rattle.lists.proofs.Maps.{tabulate_length, tabulate_at}
use Rattle.lists.proofs.Parts.{part_at, part_front, part_length}
use Rattle.lists.proofs.Rows.{rows_length, rows_part}
use Rattle.planar.specs.Cells.{cell}
use Rattle.planar.specs.Window.{image_of, history_of}
use Rattle.planar.proofs.Cells.{by_parts, planar_at, planar_length}
use Rattle.planar.proofs.Rings.{ringed_ring}
use Rattle.ps_decorr_allpass.specs.Memory.{channel_of, cell_of}
use Rattle.ps_decorr_allpass.proofs.Rings.{cell_past, cell_first, cell_second, cell_third}
use Rattle.standard.specs.Numbers.{zero, nought}
use Rattle.standard.specs.Channel.{Channel, back}

-- ---- lists

module _ {A : Type 0} where
  -- row k of rows that are w wide
  pub row_part : (f : ℕ → List A) (w n : ℕ) → ((k : ℕ) → k < n → length (f k) ≡ w) → (k : ℕ) → k < n → part (w * k) w (rows f n) ≡ f k
  row_part f w n wide k u = ap (λ (a : ℕ). part a w (rows f n)) (mul_comm w k) ∙ rows_part f w n wide k u

  -- the first m rows of w are new; what lies behind stays
  module _ (w m : ℕ) (new : ℕ → List A) (old : List A) (wide : (k : ℕ) → length (new k) ≡ w) where
    abbrev laid : List A
    laid = rows new m ++ drop (w * m) old

    new_length : length (rows new m) ≡ m * w
    new_length = rows_length new w m (λ k u. wide k)

    pub laid_length : w * m ≤ length old → length laid ≡ length old
    laid_length room = rw (length-append, new_length, length-drop, mul_comm w m) (omega (arith, mul_comm w m))

    pub laid_part : (k : ℕ) → k < m → part (w * k) w laid ≡ new k
    laid_part k u =
        part_front (w * k) w (rows new m) (drop (w * m) old)
        (rw (new_length, mul_comm w k) (omega (arith, suc-mul k w, mul-le-mul_right {m = suc k} {n = m} w u)))
        ∙ row_part new w m (λ k u. wide k) k u

    pub laid_at : (k i : ℕ) (d : A) → k < m → i < w → get_or laid (w * k + i) d ≡ get_or (new k) i d
    laid_at k i d u v = sym (part_at (w * k) w laid i d v) ∙ ap (λ (t : List A). get_or t i d) (laid_part k u)

    pub laid_first : (k : ℕ) (d : A) → k < m → 0 < w → get_or laid (w * k) d ≡ get_or (new k) 0 d
    laid_first k d u v = ap (λ (n : ℕ). get_or laid n d) (sym (add-zero (w * k))) ∙ laid_at k 0 d u v

  -- a table that is the same everywhere
  pub repeated : (n : ℕ) (z : A) → tabulate (λ k. z) n ≡ replicate n z
  repeated n z =
      ext_get_or z (tabulate (λ k. z) n) (replicate n z) (tabulate_length (λ k. z) n ∙ sym (length-replicate n z))
      (λ i v. let u : i < n = (rw tabulate_length at v) in tabulate_at (λ k. z) n i z u ∙ sym (get_or-replicate n i z z u))

  -- a part of a list that is the same everywhere
  pub part_repeated : (a k n : ℕ) (z : A) → a + k ≤ n → part a k (replicate n z) ≡ replicate k z
  part_repeated a k n z h =
      let long : length (part a k (replicate n z)) ≡ k = part_length a k (replicate n z) (rw length-replicate h) in
      ext_get_or z (part a k (replicate n z)) (replicate k z) (long ∙ sym (length-replicate k z))
      (λ i v.
      let u : i < k = (rw long at v) in
      part_at a k (replicate n z) i z u ∙ get_or-replicate n (a + i) z z (omega arith) ∙ sym (get_or-replicate k i z z u))

-- ---- histories

pub history_at : (d apart : ℕ) (xs : List Float) (i : ℕ) → i < d → back i (history_of d apart xs) ≡ cell apart xs (d - suc i)
history_at d apart xs i u = tabulate_at (λ j. cell apart xs (d - suc j)) d i nought u

pub history_image : (d : ℕ) (h : List Complex) → Alike d (history_of d d (image_of d h)) h
history_image d h i u =
    let same : d - suc (d - suc i) ≡ i = omega arith in
    history_at d d (image_of d h) i u
    ∙ planar_at d (λ j. back (d - suc j) h) (d - suc i) (omega arith)
    ∙ ap (λ (j : ℕ). back j h) same

pub image_length : (d : ℕ) (h : List Complex) → length (image_of d h) ≡ d + d
image_length d h = planar_length d (λ i. back (d - suc i) h)

-- zeros hold silence
pub history_silent : (d n : ℕ) → d + d ≤ n → Alike d (history_of d d (replicate n zero)) []
history_silent d n room i u =
    history_at d d (replicate n zero) i u
    ∙ by_parts (get_or-replicate n (d - suc i) zero nan (omega arith)) (get_or-replicate n (d - suc i + d) zero nan (omega arith))

-- ---- a channel with a chain

-- alike as far as its delays reach
pub record Chained (c d : Channel) : Type 0 where
  pub past : Alike 2 c.past d.past
  pub first : Alike 3 c.first d.first
  pub second : Alike 4 c.second d.second
  pub third : Alike 5 c.third d.third

-- a history read from a run
abbrev pub Held : ℕ → List Float → List Complex → Type 0
Held d run h = Alike d (history_of d d run) h

pub held_image : (d : ℕ) (run : List Float) (h : List Complex) → run ≡ image_of d h → Held d run h
held_image d run h e = subst (λ (t : List Float). Held d t h) (sym e) (history_image d h)

pub held_silent : (d : ℕ) (run : List Float) → run ≡ replicate (d + d) zero → Held d run []
held_silent d run e = subst (λ (t : List Float). Held d t []) (sym e) (history_silent d (d + d) (omega arith))

-- its rings
pub rings_chained : (t : ℕ) (cells : ℕ → Complex) (c : Channel) → ((j : ℕ) → j < 14 → cells j ≡ cell_of t c j) → Chained (channel_of t cells) c
unfolding channel_of
rings_chained t cells c is =
    record {
      past = ringed_ring 2 t cells c.past (λ j u. is j (omega arith) ∙ cell_past t c j u);
      first = ringed_ring 3 t (λ j. cells (2 + j)) c.first (λ j u. is (2 + j) (omega arith) ∙ cell_first t c j u);
      second = ringed_ring 4 t (λ j. cells (5 + j)) c.second (λ j u. is (5 + j) (omega arith) ∙ cell_second t c j u);
      third = ringed_ring 5 t (λ j. cells (9 + j)) c.third (λ j u. is (9 + j) (omega arith) ∙ cell_third t c j u);
    }

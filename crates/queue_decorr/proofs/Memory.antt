-- The numbers of all channels in a line: where each stands, what the list holds, and when two lists of them are one. Assumes nothing.
use Prim.Native.Nat.{ℕ, zero, suc, ◌+◌, ◌<◌, ◌≤◌}
use native.Mathlib.Numerals.{add-one}
use native.Mathlib.Nat.{eq-or-lt_of_le}
use native.Mathlib.Omega.{arith}
use mathlib.Core.Path.{◌≡◌, refl, sym, ap, ap₂, ◌∙◌}
use mathlib.Core.Logic.{◌⊎◌, inl, inr}
use mathlib.Core.Bool.{Bool, true, false, cond}
use mathlib.Core.List.{List, ◌++◌, append_assoc}
use borrow.Author.Tests.{ltb-true, ltb-false}
use lib.Dec.{ltb}
use lib.Ieee.{Float}
use lib.ListN.{length, take, drop, length-append, length-drop, take-append-drop}
use lib.Seq.{take_at, drop_at, take-add}
use Rattle.calls.specs.Near.{NearChannel}
use Rattle.layout.specs.declared.Layout.{Layout}
use Rattle.layout.specs.Numbers.{channels_of, short_delay_of}
use Rattle.layout.proofs.Bounds.{bounds}
use Rattle.lists.specs.Part.{part}
use Rattle.lists.specs.Rows.{rows}
use Rattle.lists.proofs.Parts.{part_length}
use Rattle.lists.proofs.Rows.{rows_same}
use Rattle.standard.specs.Channel.{Channel}
use Rattle.queue_decorr.specs.Queues.{numbers_of, size_of, place_of, channel_in, queues_with}
use Rattle.queue_decorr.proofs.Numbers.{numbers_length, numbers_round, near_held, near_numbers}

-- ---- places

module _ (l : Layout) where
  pub place_next : (k : ℕ) → place_of l (k + 1) ≡ place_of l k + size_of l k
  place_next k = go (ltb k (short_delay_of l)) refl
    where
      go : (t : Bool) → ltb k (short_delay_of l) ≡ t → place_of l (k + 1) ≡ place_of l k + cond t 28 2
      go true e = omega (arith, ltb-true k (short_delay_of l) e)
      go false e = omega (arith, ltb-false k (short_delay_of l) e)

  place_suc : (k : ℕ) → place_of l (suc k) ≡ place_of l k + size_of l k
  place_suc k = ap (place_of l) (sym (add-one k)) ∙ place_next k

  pub place_rises : (j k : ℕ) → j ≤ k → place_of l j ≤ place_of l k
  place_rises j k h = omega arith

  -- a channel's numbers end before the next one's
  pub place_room : (j k : ℕ) → j < k → place_of l j + size_of l j ≤ place_of l k
  place_room j k h = omega (arith, place_next j, place_rises (j + 1) k (omega arith))

  pub size_most : (k : ℕ) → size_of l k ≤ 28
  size_most k = go (ltb k (short_delay_of l))
    where
      go : (t : Bool) → cond t 28 2 ≤ 28
      go true = omega arith
      go false = omega arith

  pub place_most : place_of l (channels_of l) ≤ 1794
  place_most = omega (arith, (bounds l).short, (bounds l).last, (bounds l).all_pass)

-- ---- the numbers of channels

module _ (l : Layout) (channel : ℕ → Channel) where
  abbrev numbers_at : ℕ → List Float
  numbers_at k = numbers_of l k (channel k)

  pub rows_long : (n : ℕ) → length (rows numbers_at n) ≡ place_of l n
  unfolding rows
  rows_long zero = omega arith
  rows_long (suc n) = length-append (rows numbers_at n) (numbers_at n) ∙ rw (rows_long n, numbers_length l n (channel n)) (sym (place_suc l n))

  rows_part : (n k : ℕ) → k < n → (rest : List Float) → part (place_of l k) (size_of l k) (rows numbers_at n ++ rest) ≡ numbers_at k
  unfolding rows
  rows_part zero k u rest = absurd (omega arith)
  rows_part (suc n) k u rest = go (eq-or-lt_of_le at_most) (λ v. rows_part n k v (numbers_at n ++ rest))
    where
      at_most : k ≤ n
      at_most = omega arith

      joined : rows numbers_at n ++ numbers_at n ++ rest ≡ rows numbers_at n ++ (numbers_at n ++ rest)
      joined = append_assoc (rows numbers_at n) (numbers_at n) rest

      go : (k ≡ n) ⊎ (k < n) → (k < n → part (place_of l k) (size_of l k) (rows numbers_at n ++ (numbers_at n ++ rest)) ≡ numbers_at k)
          → part (place_of l k) (size_of l k) (rows numbers_at n ++ numbers_at n ++ rest) ≡ numbers_at k
      go (inl e) before =
          rw (e, joined)
          (ap (take (size_of l n)) (drop_at (rows numbers_at n) (numbers_at n ++ rest) (place_of l n) (rows_long n))
          ∙ take_at (numbers_at n) rest (size_of l n) (numbers_length l n (channel n)))
      go (inr v) before = rw joined (before v)

  module _ (old : List Float) where
    pub with_part : (k : ℕ) → k < channels_of l → part (place_of l k) (size_of l k) (queues_with l channel old) ≡ numbers_at k
    unfolding queues_with
    with_part k u = rows_part (channels_of l) k u (drop (place_of l (channels_of l)) old)

    -- what lies behind stays
    pub with_behind : drop (place_of l (channels_of l)) (queues_with l channel old) ≡ drop (place_of l (channels_of l)) old
    unfolding queues_with
    with_behind = drop_at (rows numbers_at (channels_of l)) (drop (place_of l (channels_of l)) old) (place_of l (channels_of l)) (rows_long (channels_of l))

    pub with_long : place_of l (channels_of l) ≤ length old → length (queues_with l channel old) ≡ length old
    unfolding queues_with
    with_long room = length-append (rows numbers_at (channels_of l)) _ ∙ rw (rows_long (channels_of l), length-drop) (omega arith)

    -- the channels in such a list are near those that it was made of
    pub near_with : (k : ℕ) → k < channels_of l → NearChannel l k (channel_in l (queues_with l channel old) k) (channel k)
    near_with k u = rw (with_part k u) (near_held l k (channel k))

-- ---- two lists

module _ (l : Layout) where
  -- of channels that are near, and with the same behind them
  pub with_same : (c d : ℕ → Channel) (old other : List Float) → ((k : ℕ) → k < channels_of l → NearChannel l k (c k) (d k))
      → drop (place_of l (channels_of l)) old ≡ drop (place_of l (channels_of l)) other → queues_with l c old ≡ queues_with l d other
  unfolding queues_with
  with_same c d old other near behind =
      ap₂ (λ (a b : List Float). a ++ b) (rows_same _ _ (channels_of l) (λ k u. near_numbers l k (c k) (d k) (near k u))) behind

  -- a list is that of the channels in it
  parts_whole : (queues : List Float) (n : ℕ) → place_of l n ≤ length queues → rows (λ k. part (place_of l k) (size_of l k) queues) n ≡ take (place_of l n) queues
  unfolding rows
  parts_whole queues zero room = let none : place_of l 0 ≡ 0 = omega arith in rw none
  parts_whole queues (suc n) room =
      ap (λ (t : List Float). t ++ part (place_of l n) (size_of l n) queues) (parts_whole queues n (omega (arith, place_suc l n)))
      ∙ sym (take-add (place_of l n) (size_of l n) queues)
      ∙ ap (λ (m : ℕ). take m queues) (sym (place_suc l n))

  pub with_round : (queues : List Float) → place_of l (channels_of l) ≤ length queues → queues_with l (channel_in l queues) queues ≡ queues
  unfolding queues_with
  with_round queues room =
      ap (λ (t : List Float). t ++ drop (place_of l (channels_of l)) queues)
      (rows_same _ (λ k. part (place_of l k) (size_of l k) queues) (channels_of l)
      (λ k u. numbers_round l k (part (place_of l k) (size_of l k) queues) (part_length (place_of l k) (size_of l k) queues (omega (arith, place_room l k (channels_of l) u))))
      ∙ parts_whole queues (channels_of l) room)
      ∙ take-append-drop (place_of l (channels_of l)) queues

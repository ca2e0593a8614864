-- Silent queues and calm detectors are zeros, and zeros from a channel's place on are silence from that channel on: channel after channel. Assumes nothing.
use Prim.Native.Nat.{ℕ, zero, suc, ◌+◌, ◌*◌, ◌<◌, ◌≤◌, ◌-◌}
use native.Mathlib.Numerals.{add-one}
use native.Mathlib.Nat.{eq-or-lt_of_le, sub-zero, zero-sub, suc-sub-suc}
use native.Mathlib.Omega.{arith}
use mathlib.Core.Path.{◌≡◌, refl, sym, ap, ap₂, ◌∙◌}
use mathlib.Core.Logic.{◌⊎◌, inl, inr}
use mathlib.Core.List.{List, [], ◌++◌, append_assoc, append-nil}
use borrow.Author.Tests.{le-leb, lt-leb}
use lib.Ieee.{Float}
use lib.ListN.{take, drop, replicate, length-replicate, replicate-append-replicate}
use lib.Seq.{take_at}
use Rattle.layout.specs.declared.Layout.{Layout}
use Rattle.layout.specs.Numbers.{bands_of, channels_of}
use Rattle.lists.specs.Rows.{rows}
use Rattle.lists.proofs.Rows.{rows_same}
use Rattle.ps_decorr_transient.specs.Gains.{detector_numbers, detectors_with}
use Rattle.ps_state.proofs.Images.{repeated}
use Rattle.standard.specs.Channel.{Channel, silent}
use Rattle.standard.specs.Core.{cleared}
use Rattle.standard.specs.Detector.{calm}
use Rattle.standard.specs.Numbers as numbers
use Rattle.queue_decorr.specs.Queues.{queue_of, chain_numbers, numbers_of, size_of, place_of, queues_with}
use Rattle.queue_decorr.specs.State.{silent_from}
use Rattle.queue_decorr.proofs.Numbers.{by_kind, chain_numbers_lem, chain_size, long_numbers, long_size, short_numbers, short_size}
use Rattle.queue_decorr.proofs.Memory.{place_next, place_rises, rows_long, with_long}

-- ---- zeros

abbrev pub zeros : ℕ → List Float
zeros n = replicate n numbers.zero

zeros_behind : (k n : ℕ) → drop k (zeros n) ≡ zeros (n - k)
zeros_behind zero n = rw sub-zero
zeros_behind (suc k) zero = rw zero-sub
zeros_behind (suc k) (suc n) = rw suc-sub-suc (zeros_behind k n)

zeros_and : (a b n : ℕ) → a + b ≡ n → zeros a ++ zeros b ≡ zeros n
zeros_and a b n e = replicate-append-replicate a b numbers.zero ∙ ap zeros e

-- ---- a silent channel

queue_silent : (d : ℕ) → queue_of d [] ≡ zeros (d + d)
queue_silent d = rw (repeated d numbers.zero) (zeros_and d d (d + d) refl)

chain_silent : chain_numbers silent ≡ zeros 28
unfolding chain_numbers
chain_silent =
    rw (queue_silent 2, queue_silent 3, queue_silent 4, queue_silent 5)
    (ap (λ (t : List Float). zeros 4 ++ (zeros 6 ++ t)) (zeros_and 8 10 18 refl) ∙ ap (λ (t : List Float). zeros 4 ++ t) (zeros_and 6 18 24 refl) ∙ zeros_and 4 24 28 refl)

silent_numbers : (l : Layout) (k : ℕ) → numbers_of l k silent ≡ zeros (size_of l k)
silent_numbers l k =
    by_kind l k record {
      chain = λ u. rw (chain_numbers_lem l k u silent, chain_size l k u) chain_silent;
      long = λ u v. rw (long_numbers l k u v silent, long_size l k u v) (queue_silent 14);
      short = λ u v. rw (short_numbers l k u v silent, short_size l k u v) (queue_silent 1);
    }

-- ---- how far places are apart

apart_none : (a b : ℕ) → a ≡ b → 0 ≡ a - b
apart_none a b e = omega arith

apart_more : (a b size c : ℕ) → a ≤ b → c ≡ b + size → b - a + size ≡ c - a
apart_more a b size c h e = omega arith

apart_both : (a b c : ℕ) → a ≤ b → b ≤ c → b - a + (c - b) ≡ c - a
apart_both a b c g h = omega arith

apart_whole : (a b : ℕ) → a ≤ b → a + (b - a) ≡ b
apart_whole a b h = omega arith

-- ---- channels in a line, silent from one on

module _ (l : Layout) (channel : ℕ → Channel) where
  abbrev numbers_at : ℕ → List Float
  numbers_at k = numbers_of l k (channel k)

  -- the numbers of the first channels
  rows_front : (p n : ℕ) → p ≤ n → (rest : List Float) → take (place_of l p) (rows numbers_at n ++ rest) ≡ rows numbers_at p
  unfolding rows
  rows_front p zero h rest =
      let none : p ≡ 0 = omega arith in
      let first : place_of l 0 ≡ 0 = omega arith in
      rw none (rw first)
  rows_front p (suc n) h rest = go (eq-or-lt_of_le h) (λ v. rows_front p n v (numbers_at n ++ rest))
    where
      go : (p ≡ suc n) ⊎ (p < suc n) → (p ≤ n → take (place_of l p) (rows numbers_at n ++ (numbers_at n ++ rest)) ≡ rows numbers_at p)
          → take (place_of l p) (rows numbers_at n ++ numbers_at n ++ rest) ≡ rows numbers_at p
      go (inl e) before = rw e (take_at (rows numbers_at n ++ numbers_at n) rest (place_of l (suc n)) (rows_long l channel (suc n)))
      go (inr u) before = rw (append_assoc (rows numbers_at n) (numbers_at n) rest) (before (omega arith))

  module _ (p : ℕ) where
    abbrev cleared_at : ℕ → List Float
    cleared_at k = numbers_of l k (cleared p channel k)

    kept_before : (k : ℕ) → k < p → cleared_at k ≡ numbers_at k
    unfolding cleared
    kept_before k u = rw (lt-leb p k u)

    silent_behind : (k : ℕ) → p ≤ k → cleared_at k ≡ zeros (size_of l k)
    unfolding cleared
    silent_behind k u = rw (le-leb p k u) (silent_numbers l k)

    rows_cleared : (n : ℕ) → p ≤ n → rows cleared_at n ≡ rows numbers_at p ++ zeros (place_of l n - place_of l p)
    unfolding rows
    rows_cleared zero h =
        let none : p ≡ 0 = omega arith in
        let here : place_of l 0 - place_of l 0 ≡ 0 = omega arith in
        rw none (rw here)
    rows_cleared (suc n) h = go (eq-or-lt_of_le h) (rows_cleared n)
      where
        go : (p ≡ suc n) ⊎ (p < suc n) → (p ≤ n → rows cleared_at n ≡ rows numbers_at p ++ zeros (place_of l n - place_of l p))
            → rows cleared_at n ++ cleared_at n ≡ rows numbers_at p ++ zeros (place_of l (suc n) - place_of l p)
        go (inl e) before =
            rows_same cleared_at numbers_at (suc n) (λ k u. kept_before k (rw e u))
            ∙ sym (append-nil (rows numbers_at (suc n)))
            ∙ ap₂ (λ (m k : ℕ). rows numbers_at m ++ zeros k) (sym e) (apart_none (place_of l (suc n)) (place_of l p) (ap (place_of l) (sym e)))
        go (inr u) before =
            let v : p ≤ n = omega arith in
            rw (before v, silent_behind n v)
            (append_assoc (rows numbers_at p) (zeros (place_of l n - place_of l p)) (zeros (size_of l n))
            ∙ ap (λ (t : List Float). rows numbers_at p ++ t)
            (zeros_and (place_of l n - place_of l p) (size_of l n) (place_of l (suc n) - place_of l p)
            (apart_more (place_of l p) (place_of l n) (size_of l n) (place_of l (suc n)) (place_rises l p n v) (ap (place_of l) (sym (add-one n)) ∙ place_next l n))))

    -- zeros from the place of channel p on are silence from that channel on
    pub silent_from_lem : (n : ℕ) → p ≤ channels_of l → place_of l (channels_of l) ≤ n
        → silent_from (place_of l p) (queues_with l channel (zeros n)) ≡ queues_with l (cleared p channel) (zeros n)
    unfolding queues_with
    silent_from_lem n inside room =
        let end = place_of l (channels_of l) in
        let start = place_of l p in
        rw (rows_front p (channels_of l) inside (drop end (zeros n)), with_long l channel (zeros n) (rw length-replicate room), length-replicate n numbers.zero)
        (sym
        (ap₂ (λ (a b : List Float). a ++ b) (rows_cleared (channels_of l) inside) (zeros_behind end n)
        ∙ append_assoc (rows numbers_at p) (zeros (end - start)) (zeros (n - end))
        ∙ ap (λ (t : List Float). rows numbers_at p ++ t)
        (zeros_and (end - start) (n - end) (n - start) (apart_both start end n (place_rises l p (channels_of l) inside) room))))

-- ---- all silent, all calm

silent_rows : (l : Layout) (n : ℕ) → rows (λ k. numbers_of l k silent) n ≡ zeros (place_of l n)
unfolding rows
silent_rows l zero = let none : place_of l 0 ≡ 0 = omega arith in rw none
silent_rows l (suc n) =
    rw (silent_rows l n, silent_numbers l n)
    (zeros_and (place_of l n) (size_of l n) (place_of l (suc n)) (sym (ap (place_of l) (sym (add-one n)) ∙ place_next l n)))

pub quiet_queues : (l : Layout) (n : ℕ) → place_of l (channels_of l) ≤ n → queues_with l (λ k. silent) (zeros n) ≡ zeros n
unfolding queues_with
quiet_queues l n room =
    let end = place_of l (channels_of l) in
    rw (silent_rows l (channels_of l), zeros_behind end n) (zeros_and end (n - end) n (apart_whole end n room))

calm_rows : (n : ℕ) → rows (λ b. detector_numbers calm) n ≡ zeros (3 * n)
unfolding rows
calm_rows zero = refl
calm_rows (suc n) = rw (calm_rows n) (zeros_and (3 * n) 3 (3 * suc n) (omega arith))

pub calm_detectors : (l : Layout) (n : ℕ) → 3 * bands_of l ≤ n → detectors_with l (λ b. calm) (zeros n) ≡ zeros n
unfolding detectors_with
calm_detectors l n room = rw (calm_rows (bands_of l), zeros_behind (3 * bands_of l) n) (zeros_and (3 * bands_of l) (n - 3 * bands_of l) n (apart_whole (3 * bands_of l) n room))

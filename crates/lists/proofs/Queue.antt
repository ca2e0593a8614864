-- A queue of any length holds the newest entries of its history, and gives what a ring of that length gives. Assumes nothing.
use Prim.Native.Nat.{ℕ, zero, suc, ◌+◌, ◌-◌, ◌%◌, ◌≤◌, ◌<◌}
use native.Mathlib.Omega.{arith}
use native.Mathlib.Nat.{mod-lt}
use mathlib.Core.Path.{◌≡◌, refl, sym, ap, ◌∙◌}
use mathlib.Core.Bool.{Bool, true, false, cond}
use mathlib.Core.List.{List, [], ◌∷◌}
use lib.ListN.{length, get_or, set, replicate, length-set, length-replicate, length-take, get_or-replicate}
use lib.Seq.{ext_get_or, get_or-take, get_or-set_same, get_or-set_other}
use Rattle.lists.specs.Rows.{tabulate}
use Rattle.lists.specs.Ring.{back, Ring, turned}
use Rattle.lists.specs.Queue.{pushed, queue_of, queue_at, queue_out, ring_at, ring_out}
use Rattle.lists.proofs.Maps.{tabulate_length, tabulate_at}
use Rattle.lists.proofs.Ring.{ring_read, ring_silent, ring_push, turned_counter}

module _ {A : Type 0} where
  -- ---- a push
  pub pushed_length : (x : A) (queue : List A) → length (pushed x queue) ≡ length queue
  pushed_length x queue = simp length-take (omega arith)

  -- f with x before it
  ahead : A → (ℕ → A) → ℕ → A
  ahead x f zero = x
  ahead x f (suc i) = f i

  push_is : (x z : A) (f g : ℕ → A) (d : ℕ) → ((i : ℕ) → i < d → ahead x f i ≡ g i) → pushed x (tabulate f d) ≡ tabulate g d
  unfolding ahead
  push_is x z f g d e =
      ext_get_or z (pushed x (tabulate f d)) (tabulate g d) (pushed_length x (tabulate f d) ∙ tabulate_length f d ∙ sym (tabulate_length g d))
      (λ i h. let u : i < d = omega (arith, pushed_length x (tabulate f d), tabulate_length f d) in read i u ∙ e i u ∙ sym (tabulate_at g d i z u))
    where
      read : (i : ℕ) → i < d → get_or (pushed x (tabulate f d)) i z ≡ ahead x f i
      read zero u = get_or-take (length (tabulate f d)) (x ∷ tabulate f d) 0 z (omega (arith, tabulate_length f d))
      read (suc i) u = get_or-take (length (tabulate f d)) (x ∷ tabulate f d) (suc i) z (omega (arith, tabulate_length f d)) ∙ tabulate_at f d i z (omega arith)

  module _ (z : A) (d : ℕ) where
    -- what goes into a queue is the newest entry of its history
    pub queue_push : (x : A) (history : List A) → pushed x (queue_of z d history) ≡ queue_of z d (x ∷ history)
    unfolding ahead
    queue_push x history = push_is x z (λ i. back z i history) (λ i. back z i (x ∷ history)) d each
      where
        each : (i : ℕ) → i < d → ahead x (λ i. back z i history) i ≡ back z i (x ∷ history)
        each zero u = refl
        each (suc i) u = refl

    -- what comes out of it came d slots before
    pub queue_read : (history : List A) → 1 ≤ d → get_or (queue_of z d history) (d - 1) z ≡ back z (d - 1) history
    queue_read history some = tabulate_at (λ i. back z i history) d (d - 1) z (omega arith)

    -- and a reset leaves no history
    pub queue_reset : replicate d z ≡ queue_of z d []
    queue_reset =
        ext_get_or z (replicate d z) (queue_of z d []) (length-replicate d z ∙ sym (tabulate_length (λ i. back z i []) d))
        (λ i h. let u : i < d = omega (arith, length-replicate d z) in get_or-replicate d i z z u ∙ sym (tabulate_at (λ i. back z i []) d i z u))

    -- ---- the delay as a queue and as a ring
    module _ (signal : ℕ → A) (reset : ℕ → Bool) where
      -- what has come since the last reset, before slot n
      heard : ℕ → List A
      heard zero = []
      heard (suc n) = signal n ∷ cond (reset n) [] (heard n)

      queue_ready : (t : Bool) (queue history : List A) → queue ≡ queue_of z d history → cond t (replicate d z) queue ≡ queue_of z d (cond t [] history)
      queue_ready true queue history e = queue_reset
      queue_ready false queue history e = e

      queue_holds : (n : ℕ) → queue_at z d signal reset n ≡ queue_of z d (heard n)
      unfolding queue_at heard
      queue_holds zero = queue_reset
      queue_holds (suc n) = ap (pushed (signal n)) (queue_ready (reset n) (queue_at z d signal reset n) (heard n) (queue_holds n)) ∙ queue_push (signal n) (cond (reset n) [] (heard n))

      module _ (some : 1 ≤ d) (at : ℕ) where
        record Held (cells : List A) (n : ℕ) (history : List A) : Type 0 where
          pub long : length cells ≡ d
          pub ring : Ring z d ((at + n) % d) (λ i. get_or cells i z) history

        silent : (n : ℕ) → Held (replicate d z) n []
        silent n = record { long = length-replicate d z; ring = ring_silent (mod-lt (at + n) some) (λ i u. get_or-replicate d i z z u) }

        ring_ready : (t : Bool) {cells : List A} {n : ℕ} {history : List A} → Held cells n history → Held (cond t (replicate d z) cells) n (cond t [] history)
        ring_ready true {cells} {n} h = silent n
        ring_ready false h = h

        written : {cells : List A} {n : ℕ} {history : List A} → Held cells n history → Held (set cells ((at + n) % d) (signal n)) (suc n) (signal n ∷ history)
        written {cells} {n} {history} h =
            let on : turned d ((at + n) % d) ≡ (at + suc n) % d = turned_counter d (at + n) some ∙ ap (λ (m : ℕ). m % d) (omega arith) in
            let inside = mod-lt (at + n) some in
            record {
              long = length-set cells ((at + n) % d) (signal n) ∙ h.long;
              ring =
                  rw on at
                  (ring_push h.ring (λ i. get_or (set cells ((at + n) % d) (signal n)) i z) (signal n)
                  (get_or-set_same cells ((at + n) % d) (signal n) z (omega (arith, h.long)))
                  (λ i u ne. get_or-set_other cells ((at + n) % d) i (signal n) z ne));
            }

        ring_holds : (n : ℕ) → Held (ring_at z d signal reset at n) n (heard n)
        unfolding ring_at heard
        ring_holds zero = silent 0
        ring_holds (suc n) = written (ring_ready (reset n) (ring_holds n))

        -- any length, any signal, any resets, any position: the two give the same in every slot
        pub queue_is_ring : (n : ℕ) → ring_out z d signal reset at n ≡ queue_out z d signal reset n
        queue_is_ring n = go (reset n)
          where
            go : (t : Bool) → get_or (cond t (replicate d z) (ring_at z d signal reset at n)) ((at + n) % d) z ≡ get_or (cond t (replicate d z) (queue_at z d signal reset n)) (d - 1) z
            go true = get_or-replicate d ((at + n) % d) z z (mod-lt (at + n) some) ∙ sym (get_or-replicate d (d - 1) z z (omega arith))
            go false = ring_read (ring_holds n).ring ∙ sym (ap (λ (q : List A). get_or q (d - 1) z) (queue_holds n) ∙ queue_read (heard n) some)

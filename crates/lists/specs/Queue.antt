-- A delay of d slots as a plain queue of d cells, the newest first, beside the same delay as a ring: any signal, any resets, any length, and any position
-- that the ring begins at.
use Rattle.std.specs.Prelude.{Bool, cond, List, ◌∷◌, ℕ, zero, suc, ◌+◌, ◌-◌, ◌%◌, length, get_or, set, take, replicate}
use Rattle.lists.specs.Ring.{back}
use Rattle.lists.specs.Rows.{tabulate}

-- x goes in first, every entry moves one place, and the last falls out
abbrev pub pushed : {A : Type 0} → A → List A → List A
pushed x queue = take (length queue) (x ∷ queue)

-- the queue of d cells that holds a history
abbrev pub queue_of : {A : Type 0} → A → ℕ → List A → List A
queue_of z d history = tabulate (λ i. back z i history) d

-- ---- the two delays: a slot reads the oldest entry, then writes what comes in; a reset before it leaves silence
module _ {A : Type 0} (z : A) (d : ℕ) (signal : ℕ → A) (reset : ℕ → Bool) where
  abbrev ready : (ℕ → List A) → ℕ → List A
  ready cells n = cond (reset n) (replicate d z) (cells n)

  -- the queue before slot n, and what comes out in it
  unfoldable pub queue_at : ℕ → List A
  queue_at zero = replicate d z
  queue_at (suc n) = pushed (signal n) (cond (reset n) (replicate d z) (queue_at n))

  abbrev pub queue_out : ℕ → A
  queue_out n = get_or (ready queue_at n) (d - 1) z

  -- the ring, of which a reset leaves the position
  module _ (at : ℕ) where
    unfoldable pub ring_at : ℕ → List A
    ring_at zero = replicate d z
    ring_at (suc n) = set (cond (reset n) (replicate d z) (ring_at n)) ((at + n) % d) (signal n)

    abbrev pub ring_out : ℕ → A
    ring_out n = get_or (ready ring_at n) ((at + n) % d) z

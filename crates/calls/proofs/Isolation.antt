-- A stereo band hears only itself: the theorem of `standard`, carried over to the numbers that the calls of two runs write. Assumes nothing.
use Prim.Native.Nat.{ℕ, zero, suc, ◌-◌, ◌<◌}
use native.Mathlib.Nat.{le_refl}
use native.Mathlib.Omega.{arith}
use mathlib.Core.Path.{◌≡◌, refl, sym, ap, ◌∙◌}
use mathlib.Core.List.{List}
use lib.Ieee.{Float}
use Rattle.complex.specs.declared.Complex.{Complex}
use Rattle.layout.specs.declared.Layout.{Layout}
use Rattle.planar.specs.Frame.{qmf_at}
use Rattle.planar.proofs.Rows.{qmf_at_lem}
use Rattle.standard.specs.Core as core
use Rattle.standard.specs.Core.{Head, Core, Frame, ready, left_at, right_at, before, next}
use Rattle.standard.specs.Hybrid.{synthesised}
use Rattle.standard.specs.Isolation.{Same, Heard}
use Rattle.standard.proofs.Runs.{isolation}
use Rattle.answer.specs.Number.{number_of}
use Rattle.calls.specs.Call.{Call, Playing, Outcome, fresh, answer, layout, head, frame_of, after, rows_of, played}
use Rattle.calls.specs.Run.{carried, outcome, frame_at, Accepted}
use Rattle.calls.specs.Isolation.{Matching, hybrid_at, Alike}
use Rattle.calls.proofs.Outcomes.{done, done_played, answered}

-- ---- an accepted call

accepted_done : (s : Playing) (c : Call) → number_of (played s c).answer ≡ 0 → played s c ≡ done s c
accepted_done s c e = done_played s c (ap number_of (sym (answered s c)) ∙ e)

stepped : (s : Playing) (c : Call) → (after s c).core ≡ next s.core (frame_of s c)
unfolding after
stepped s c = refl

-- ---- the state of an accepted run is that of the sound

module _ (asked : ℕ) (c : ℕ → Call) where
  core_is : (i : ℕ) → ((j : ℕ) → j < i → number_of (outcome (fresh asked) c j).answer ≡ 0) → (carried (fresh asked) c i).core ≡ before core.fresh (frame_at (fresh asked) c) i
  unfolding carried before fresh
  core_is zero accepted = refl
  core_is (suc i) accepted =
      let s = carried (fresh asked) c i in
      let now : (played s (c i)).after ≡ after s (c i) = ap (λ (o : Outcome). o.after) (accepted_done s (c i) (accepted i (le_refl (suc i)))) in
      let earlier : s.core ≡ before core.fresh (frame_at (fresh asked) c) i = core_is i (λ j u. accepted j (omega arith)) in
      ap (λ (x : Playing). x.core) now ∙ stepped s (c i) ∙ ap (λ (x : Core). next x (frame_at (fresh asked) c i)) earlier

  -- so its hybrid samples are the definitions'
  hybrid_is : (side : Frame → Core → ℕ → ℕ → Complex) (i : ℕ) → Accepted (fresh asked) c i → (n k : ℕ)
      → hybrid_at side (fresh asked) c i n k ≡ side (frame_at (fresh asked) c i) (ready (frame_at (fresh asked) c i).head (before core.fresh (frame_at (fresh asked) c) i)) n k
  hybrid_is side i accepted n k =
      ap (λ (x : Core). side (frame_at (fresh asked) c i) (ready (frame_at (fresh asked) c i).head x) n k) (core_is i (λ j u. accepted j (omega arith)))

  -- and what it writes is their synthesis
  row_is : (side : Frame → Core → ℕ → ℕ → Complex) (rows : List Float) (i : ℕ) → Accepted (fresh asked) c i → rows ≡ rows_of (carried (fresh asked) c i) (c i) side
      → (l : Layout) → (frame_at (fresh asked) c i).head.layout ≡ l → (n q : ℕ) → n < (carried (fresh asked) c i).slots → q < 64
      → qmf_at rows n q ≡ synthesised l (side (frame_at (fresh asked) c i) (ready (frame_at (fresh asked) c i).head (before core.fresh (frame_at (fresh asked) c) i)) n) q
  unfolding frame_of
  row_is side rows i accepted e l of_layout n q u v =
      ap (λ (xs : List Float). qmf_at xs n q) e
      ∙ qmf_at_lem (carried (fresh asked) c i).slots
      (λ m p. synthesised (frame_at (fresh asked) c i).head.layout (side (frame_at (fresh asked) c i) (ready (frame_at (fresh asked) c i).head (carried (fresh asked) c i).core) m) p)
      n q u v
      ∙ ap (λ (x : Layout). synthesised x (side (frame_at (fresh asked) c i) (ready (frame_at (fresh asked) c i).head (carried (fresh asked) c i).core) n) q) of_layout
      ∙ ap (λ (x : Core). synthesised l (side (frame_at (fresh asked) c i) (ready (frame_at (fresh asked) c i).head x) n) q) (core_is i (λ j w. accepted j (omega arith)))

-- ---- the theorem

module _ (l : Layout) (b asked asked-too : ℕ) (c d : ℕ → Call) (i : ℕ) (same : Matching l b (fresh asked) (fresh asked-too) c d i) where
  now : Same l b (frame_at (fresh asked) c i) (frame_at (fresh asked-too) d i)
  now = same.frames i (le_refl i)

  heard : Heard l b (frame_at (fresh asked) c) (frame_at (fresh asked-too) d) i
  heard = isolation l b (frame_at (fresh asked) c) (frame_at (fresh asked-too) d) i same.frames

  slots_are : (asked : ℕ) (c : ℕ → Call) → (frame_at (fresh asked) c i).head.slots ≡ (carried (fresh asked) c i).slots
  unfolding frame_of
  slots_are asked c = refl

  slots_same : (carried (fresh asked) c i).slots ≡ (carried (fresh asked-too) d i).slots
  slots_same = sym (slots_are asked c) ∙ ap (λ (h : Head). h.slots) now.heads ∙ slots_are asked-too d

  left_done : (asked : ℕ) (c : ℕ → Call) → Accepted (fresh asked) c i → (outcome (fresh asked) c i).left ≡ rows_of (carried (fresh asked) c i) (c i) left_at
  left_done asked c accepted = ap (λ (o : Outcome). o.left) (accepted_done (carried (fresh asked) c i) (c i) (accepted i (le_refl i)))

  right_done : (asked : ℕ) (c : ℕ → Call) → Accepted (fresh asked) c i → (outcome (fresh asked) c i).right ≡ rows_of (carried (fresh asked) c i) (c i) right_at
  right_done asked c accepted = ap (λ (o : Outcome). o.right) (accepted_done (carried (fresh asked) c i) (c i) (accepted i (le_refl i)))

  -- a stereo band hears only itself
  pub hears_itself : Alike l b (fresh asked) (fresh asked-too) c d i
  unfolding core.left core.right
  hears_itself =
      let of_layout = now.layout in
      let of-layout-too = sym (ap (λ (h : Head). h.layout) now.heads) ∙ now.layout in
      record {
        left =
            record {
              samples = λ n k u v o. hybrid_is asked c left_at i same.accepted n k ∙ heard.lefts n k (rw (slots_are asked c) u) v o ∙ sym (hybrid_is asked-too d left_at i same.accepted_too n k);
              rows = λ n q u v w o.
                  row_is asked c left_at _ i same.accepted (left_done asked c same.accepted) l of_layout n q u w
                  ∙ heard.left_rows n q (rw (slots_are asked c) u) v w o
                  ∙ sym (row_is asked-too d left_at _ i same.accepted_too (left_done asked-too d same.accepted_too) l of-layout-too n q (rw (← slots_same) u) w);
            };
        right =
            record {
              samples = λ n k u v o. hybrid_is asked c right_at i same.accepted n k ∙ heard.rights n k (rw (slots_are asked c) u) v o ∙ sym (hybrid_is asked-too d right_at i same.accepted_too n k);
              rows = λ n q u v w o.
                  row_is asked c right_at _ i same.accepted (right_done asked c same.accepted) l of_layout n q u w
                  ∙ heard.right_rows n q (rw (slots_are asked c) u) v w o
                  ∙ sym (row_is asked-too d right_at _ i same.accepted_too (right_done asked-too d same.accepted_too) l of-layout-too n q (rw (← slots_same) u) w);
            };
      }

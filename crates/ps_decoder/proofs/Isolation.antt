-- A stereo band hears only itself: the theorem of `calls`, for the numbers that `frame` promises. Assumes nothing.
use Prim.Native.Nat.{ℕ, zero, suc}
use mathlib.Core.Path.{◌≡◌, refl, ◌∙◌}
use mathlib.Core.Bool.{Bool, true, false, cond}
use lib.Dec.{eqb}
use Rattle.answer.specs.Number.{number_of}
use Rattle.borders.specs.Borders.{slots_of}
use Rattle.calls.specs.Call.{Call, Playing, Outcome, fresh, answer, after, played}
use Rattle.calls.specs.Isolation.{Matching, Alike}
use Rattle.calls.specs.Run.{carried}
use Rattle.calls.proofs.Isolation.{hears_itself}
use Rattle.calls.proofs.Outcomes.{done, refusal}
use Rattle.layout.specs.declared.Layout.{Layout}
use Rattle.ps_decoder.specs.Isolation.{SameNumbers}
use Rattle.ps_decoder.proofs.Run.{run_is}

-- a run keeps the slots that it was made for
slots_stay : (s : Playing) (c : Call) → (played s c).after.slots ≡ s.slots
unfolding played after
slots_stay s c = go (eqb (number_of (answer s c)) 0)
  where
    go : (accepted : Bool) → (cond {A = Outcome} accepted (done s c) (refusal s c)).after.slots ≡ s.slots
    go true = refl
    go false = refl

slots_at : (asked : ℕ) (c : ℕ → Call) (i : ℕ) → (carried (fresh asked) c i).slots ≡ slots_of asked
unfolding carried fresh
slots_at asked c zero = refl
slots_at asked c (suc i) = slots_stay (carried (fresh asked) c i) (c i) ∙ slots_at asked c i

pub decoder_hears_itself : (l : Layout) (b asked asked-too : ℕ) (c d : ℕ → Call) (i : ℕ) → Matching l b (fresh asked) (fresh asked-too) c d i
    → SameNumbers l b asked asked-too c d i
decoder_hears_itself l b asked asked-too c d i matching =
    let alike : Alike l b (fresh asked) (fresh asked-too) c d i = hears_itself l b asked asked-too c d i matching in
    let one = run_is asked c i in
    let other = run_is asked-too d i in
    record {
      left = λ n q u v w o. rw (one.left, other.left) (alike.left.rows n q (rw (slots_at asked c i) u) v w o);
      right = λ n q u v w o. rw (one.right, other.right) (alike.right.rows n q (rw (slots_at asked c i) u) v w o);
    }

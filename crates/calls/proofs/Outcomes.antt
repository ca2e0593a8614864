-- A refused or quiet call changes neither the state nor the outputs; states that are near give the same outcomes, call after call. Assumes nothing.
use Prim.Native.Nat.{ℕ, zero, suc}
use mathlib.Core.Path.{◌≡◌, refl}
use mathlib.Core.Logic.{◌≢◌}
use mathlib.Core.Bool.{Bool, true, false, cond}
use lib.Dec.{eqb}
use borrow.Author.Tests.{eq-eqb, ne_eqb}
use Rattle.answer.specs.Number.{number_of}
use Rattle.standard.specs.Core.{left_at, right_at}
use Rattle.calls.specs.Call.{Call, Playing, Outcome, answer, after, rows_of, played}
use Rattle.calls.specs.Run.{carried}
use Rattle.calls.specs.Near.{Near}
use Rattle.calls.proofs.Cores.{near_left, near_right}
use Rattle.calls.proofs.Calls.{near_answer, near_rows, near_afterwards}

-- ---- the two cases of a call

abbrev pub refusal : Playing → Call → Outcome
refusal s c = record { answer = answer s c; after = s; left = c.left; right = c.right }

abbrev pub done : Playing → Call → Outcome
done s c = record { answer = answer s c; after = after s c; left = rows_of s c left_at; right = rows_of s c right_at }

pub refused_unchanged : (s : Playing) (c : Call) → number_of (answer s c) ≢ 0 → played s c ≡ refusal s c
unfolding played
refused_unchanged s c ne = rw (ne_eqb (number_of (answer s c)) 0 ne)

pub done_played : (s : Playing) (c : Call) → number_of (answer s c) ≡ 0 → played s c ≡ done s c
unfolding played
done_played s c e = rw (eq-eqb (number_of (answer s c)) 0 e)

-- either way the answer is the call's
pub answered : (s : Playing) (c : Call) → (played s c).answer ≡ answer s c
unfolding played
answered s c = go (eqb (number_of (answer s c)) 0)
  where
    go : (accepted : Bool) → (cond {A = Outcome} accepted (done s c) (refusal s c)).answer ≡ answer s c
    go true = refl
    go false = refl

-- ---- states that are near

pub record NearOutcome (a b : Outcome) : Type 0 where
  pub answer : a.answer ≡ b.answer
  pub left : a.left ≡ b.left
  pub right : a.right ≡ b.right
  pub after : Near a.after b.after

pub near_played : (s t : Playing) (c : Call) → Near s t → NearOutcome (played s c) (played t c)
unfolding played
near_played s t c near =
    let e : eqb (number_of (answer t c)) 0 ≡ eqb (number_of (answer s c)) 0 = rw (near_answer s t c near) in
    rw e (go (eqb (number_of (answer s c)) 0))
  where
    go : (accepted : Bool) → NearOutcome (cond accepted (done s c) (refusal s c)) (cond accepted (done t c) (refusal t c))
    go true =
        record {
          answer = near_answer s t c near;
          left = near_rows s t c near left_at near_left;
          right = near_rows s t c near right_at near_right;
          after = near_afterwards s t c near;
        }
    go false = record { answer = near_answer s t c near; left = refl; right = refl; after = near }

-- ---- a run

pub near_carried : (s t : Playing) (c : ℕ → Call) → Near s t → (i : ℕ) → Near (carried s c i) (carried t c i)
unfolding carried
near_carried s t c near zero = near
near_carried s t c near (suc i) = (near_played (carried s c i) (carried t c i) (c i) (near_carried s t c near i)).after

-- A run of the decoder from a fresh one answers and writes what the definitions' run does: its numbers always hold a state that is near theirs.
-- Assumes nothing.
use Prim.Native.Nat.{ℕ, zero, suc}
use mathlib.Core.Path.{◌≡◌, sym, ap, ◌∙◌}
use mathlib.Core.Bool.{Bool, true, false, cond}
use lib.Dec.{eqb}
use Rattle.answer.specs.Number.{number_of}
use Rattle.borders.specs.Borders.{slots_of}
use Rattle.calls.specs.Call.{Call, Playing, Outcome, fresh, answer, layout, after, played}
use Rattle.calls.specs.Near.{Near}
use Rattle.calls.specs.Run.{carried}
use Rattle.calls.proofs.Outcomes.{near_played, answered, done, refusal}
use Rattle.calls.proofs.Relation.{near_by, near_itself}
use Rattle.ps_state.specs.declared.PsDecoder.{PsDecoder}
use Rattle.ps_state.specs.State.{playing_of, stored}
use Rattle.ps_state.specs.Ready.{readied}
use Rattle.ps_state.specs.Shape.{Shaped}
use Rattle.ps_state.proofs.Readied.{shaped_readied}
use Rattle.ps_state.proofs.Stored.{near_stored, shaped_stored, near_fresh, shaped_fresh}
use Rattle.ps_decoder.specs.Frame.{decoder_after, played_by}
use Rattle.ps_decoder.specs.Run.{decoder_at, Told}
use Rattle.ps_decoder.proofs.Accepted.{readied_asked}

-- numbers of the right lengths that hold a state
record Holding (s : PsDecoder) (p : Playing) : Type 0 where
  pub shaped : Shaped s
  pub near : Near (playing_of s) p

-- a call keeps that
holding_after : (s : PsDecoder) (c : Call) → Shaped s → Holding (decoder_after s c) (played (playing_of s) c).after
unfolding decoder_after played after playing_of
holding_after s c shaped = go (eqb (number_of (answer (playing_of s) c)) 0)
  where
    made : PsDecoder
    made = readied (layout (playing_of s) c) c.edge s

    shaped_made : Shaped made
    shaped_made = shaped_readied s (layout (playing_of s) c) c.edge shaped

    slots_kept : (after (playing_of s) c).slots ≡ slots_of made.asked
    slots_kept = ap slots_of (sym (readied_asked (layout (playing_of s) c) c.edge s))

    go : (accepted : Bool) → Holding (cond accepted (stored made (after (playing_of s) c)) s) (cond {A = Outcome} accepted (done (playing_of s) c) (refusal (playing_of s) c)).after
    go true =
        record {
          shaped = shaped_stored made (after (playing_of s) c) shaped_made;
          near = near_stored made (after (playing_of s) c) shaped_made slots_kept;
        }
    go false = record { shaped = shaped; near = near_itself (playing_of s) }

pub shaped_after : (s : PsDecoder) (c : Call) → Shaped s → Shaped (decoder_after s c)
shaped_after s c shaped = (holding_after s c shaped).shaped

-- so every call finds numbers that hold the state of the definitions' run
holding_at : (asked : ℕ) (c : ℕ → Call) (i : ℕ) → Holding (decoder_at asked c i) (carried (fresh asked) c i)
unfolding decoder_at carried played_by
holding_at asked c zero = record { shaped = shaped_fresh asked; near = near_fresh asked }
holding_at asked c (suc i) =
    let s = decoder_at asked c i in
    let before = holding_at asked c i in
    let kept = holding_after s (c i) before.shaped in
    record {
      shaped = kept.shaped;
      near =
          near_by (playing_of (decoder_after s (c i))) (played (playing_of s) (c i)).after (played (carried (fresh asked) c i) (c i)).after
          kept.near (near_played (playing_of s) (carried (fresh asked) c i) (c i) before.near).after;
    }

pub near_at : (asked : ℕ) (c : ℕ → Call) (i : ℕ) → Near (playing_of (decoder_at asked c i)) (carried (fresh asked) c i)
near_at asked c i = (holding_at asked c i).near

-- a run of the decoder is the definitions' run
pub run_is : (asked : ℕ) (c : ℕ → Call) (i : ℕ) → Told asked c i
unfolding played_by
run_is asked c i =
    let s = decoder_at asked c i in
    let same = near_played (playing_of s) (carried (fresh asked) c i) (c i) (holding_at asked c i).near in
    record { answer = sym (answered (playing_of s) (c i)) ∙ same.answer; left = same.left; right = same.right }

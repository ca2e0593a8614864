-- A run through lent memory is the definitions' run: each call finds the memory of the state that the decoder's own run has there. Assumes nothing.
use mathlib.Core.Path.{◌≡◌, refl, ap, ◌∙◌}
use mathlib.Core.Bool.{Bool, true, false, cond}
use mathlib.Core.List.{List}
use Prim.Native.Nat.{ℕ, zero, suc}
use native.Mathlib.Omega.{arith}
use borrow.Author.Tests.{eq-eqb}
use lib.Dec.{eqb}
use lib.Ieee.{Float}
use lib.ListN.{length}
use Rattle.answer.specs.Number.{number_of}
use Rattle.borders.specs.Borders.{slots_of}
use Rattle.calls.specs.Call.{Call, fresh, answer, layout, after}
use Rattle.calls.specs.Run.{outcome}
use Rattle.ps_decoder.specs.Frame.{decoder_after, played_by}
use Rattle.ps_decoder.specs.Run.{decoder_at}
use Rattle.ps_decoder.proofs.Run.{run_is}
use Rattle.ps_memory.specs.Place.{numbers, image}
use Rattle.ps_memory.specs.Shape.{StateKept}
use Rattle.ps_memory.proofs.Back.{load_image, image_length, image_fresh}
use Rattle.ps_memory.proofs.Kept.{fresh_kept_lem, accepted_kept}
use Rattle.ps_memory.proofs.Narrow.{either}
use Rattle.ps_state.specs.declared.PsDecoder.{PsDecoder}
use Rattle.ps_state.specs.Ready.{readied}
use Rattle.ps_state.specs.State.{fresh_decoder, playing_of, stored}
use Rattle.lefasumu.specs.Api.{Called, started_in, called_of, called_in}
use Rattle.lefasumu.specs.Run.{memory_at, Told}

-- ---- one call

-- a call leaves a state that memory keeps, accepted or not
pub call_kept : (s : PsDecoder) (c : Call) → StateKept s → StateKept (decoder_after s c)
unfolding decoder_after
call_kept s c kept = either StateKept (eqb (number_of (answer (playing_of s) c)) 0) _ s (accepted_kept s c kept) kept

-- through the memory of such a state it is the call by value
through : (s : PsDecoder) (c : Call) → StateKept s → called_in (image s) c ≡ called_of (image s) s c
unfolding called_in
through s c kept =
    rw (eq-eqb (length (image s)) numbers (image_length s kept.shape)) (ap (λ (t : PsDecoder). called_of (image s) t c) (load_image s kept))

-- and leaves the memory of the state by value
memory_after : (s : PsDecoder) (c : Call) → (called_of (image s) s c).memory ≡ image (decoder_after s c)
unfolding called_of decoder_after
memory_after s c = go (eqb (number_of (answer (playing_of s) c)) 0)
  where
    next : PsDecoder
    next = stored (readied (layout (playing_of s) c) c.edge s) (after (playing_of s) c)

    go : (t : Bool) → cond t (image (cond t next s)) (image s) ≡ image (cond t next s)
    go true = refl
    go false = refl

-- ---- a run

module _ (m : List Float) (slots : ℕ) (c : ℕ → Call) (long : length m ≡ numbers) where
  abbrev state : ℕ → PsDecoder
  state i = decoder_at (slots_of slots) c i

  state_kept : (i : ℕ) → StateKept (state i)
  unfolding decoder_at played_by
  state_kept zero = fresh_kept_lem (slots_of slots) (omega arith) (omega arith)
  state_kept (suc i) = call_kept (state i) (c i) (state_kept i)

  start_is : (started_in m slots).memory ≡ image (fresh_decoder slots)
  unfolding started_in
  start_is = rw (eq-eqb (length m) numbers long)

  -- the memory before call i is that of the decoder's own state there
  pub memory_is : (i : ℕ) → memory_at m slots c i ≡ image (state i)
  unfolding memory_at decoder_at played_by
  memory_is zero = start_is ∙ image_fresh slots
  memory_is (suc i) =
      ap (λ (t : List Float). (called_in t (c i)).memory) (memory_is i)
      ∙ ap (λ (r : Called). r.memory) (through (state i) (c i) (state_kept i))
      ∙ memory_after (state i) (c i)

  call_is : (i : ℕ) → called_in (memory_at m slots c i) (c i) ≡ called_of (image (state i)) (state i) (c i)
  call_is i = ap (λ (t : List Float). called_in t (c i)) (memory_is i) ∙ through (state i) (c i) (state_kept i)

  -- asking for the slots that act is asking for those slots
  fresh_same : fresh (slots_of slots) ≡ fresh slots
  unfolding fresh
  fresh_same =
      let same : slots_of (slots_of slots) ≡ slots_of slots = omega arith in
      rw same

  -- from started memory, whatever it held
  pub started_run : (i : ℕ) → Told m slots c i
  unfolding called_of played_by
  started_run i =
      let told = run_is (slots_of slots) c i in
      let call = call_is i in
      record {
        answer =
            ap (λ (r : Called). r.answer) call
            ∙ ap number_of told.answer
            ∙ ap (λ s. number_of (outcome s c i).answer) fresh_same;
        left = ap (λ (r : Called). r.left) call ∙ told.left ∙ ap (λ s. (outcome s c i).left) fresh_same;
        right = ap (λ (r : Called). r.right) call ∙ told.right ∙ ap (λ s. (outcome s c i).right) fresh_same;
      }

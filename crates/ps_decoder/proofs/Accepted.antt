-- An accepted call: what the stages give from the numbers made ready is what the call's definition says. Assumes nothing.
use Prim.Native.Nat.{ℕ, ◌-◌, ◌*◌, ◌≤◌, ◌<◌}
use native.Mathlib.Omega.{arith}
use mathlib.Core.Path.{◌≡◌, refl, ap, ap₂, ◌∙◌}
use mathlib.Core.Bool.{true}
use borrow.Author.Tests.{le-ltb}
use lib.ListN.{length}
use Rattle.borders.specs.Borders.{slots_of}
use Rattle.calls.specs.Call.{Call, Playing, buffers_fit, resolved, header, layout, head, past_ready, slot_at, frame_of, after, rows_of}
use Rattle.calls.specs.Near.{Alike, NearCore, Near}
use Rattle.calls.proofs.Channels.{past_alike}
use Rattle.calls.proofs.Frames.{SoundsAs, near_frame, left_rows, right_rows}
use Rattle.calls.proofs.Rows.{hybrid_same}
use Rattle.complex.specs.declared.Complex.{Complex}
use Rattle.cue.specs.declared.Header.{Header}
use Rattle.layout.specs.declared.Layout.{Layout}
use Rattle.layout.specs.declared.Layout.TheVariants.{Bands20, Bands34}
use Rattle.layout.specs.Numbers.{split_of}
use Rattle.layout.proofs.Bounds.{bounds}
use Rattle.lists.specs.Part.{part}
use Rattle.planar.specs.Frame.{qmf_at, qmf_rows}
use Rattle.planar.specs.Window.{history_of}
use Rattle.ps_state.specs.declared.PsDecoder.{PsDecoder}
use Rattle.ps_state.specs.State.{core_of, playing_of, stored}
use Rattle.ps_state.specs.Ready.{switched_from, readied}
use Rattle.ps_state.specs.Shape.{Shaped}
use Rattle.ps_state.proofs.Alike.{stored_near}
use Rattle.ps_state.proofs.Readied.{near_readied, shaped_readied, readied_history}
use Rattle.standard.specs.Core as core
use Rattle.standard.specs.Core.{Frame, Core, same_layout, ready, left_at, right_at}
use Rattle.standard.specs.Hybrid.{hybrid, synthesised}
use Rattle.ps_decoder.specs.Sound.{left_of, right_of, sounded}
use Rattle.ps_decoder.proofs.Slots.{slot_in}
use Rattle.ps_decoder.proofs.Stages.{fitting_of, flat_frame, flat_after, Stages, sound_is}

-- ---- what making ready leaves

readied_layout : (l : Layout) (edge : ℕ) (s : PsDecoder) → (readied l edge s).layout ≡ l
unfolding readied switched_from same_layout
readied_layout l edge s = go s.layout l refl
  where
    go : (x y : Layout) → s.layout ≡ x → (switched_from y s).layout ≡ y
    go Bands20 Bands20 e = rw e
    go Bands20 Bands34 e = rw e
    go Bands34 Bands20 e = rw e
    go Bands34 Bands34 e = rw e

pub readied_asked : (l : Layout) (edge : ℕ) (s : PsDecoder) → (readied l edge s).asked ≡ s.asked
unfolding readied switched_from same_layout
readied_asked l edge s = go s.layout l refl
  where
    go : (x y : Layout) → s.layout ≡ x → (switched_from y s).asked ≡ s.asked
    go Bands20 Bands20 e = rw e
    go Bands20 Bands34 e = rw e
    go Bands34 Bands20 e = rw e
    go Bands34 Bands34 e = rw e

-- ---- the call

module _ (s : PsDecoder) (shaped : Shaped s) (c : Call) (h : Header) (said : header (playing_of s) c ≡ h) where
  abbrev before : Playing
  before = playing_of s

  abbrev made : PsDecoder
  made = readied (layout before c) c.edge s

  abbrev frame : Frame
  frame = flat_frame made h (resolved before c).indices (resolved before c).positions c.input c.edge

  same_layout_lem : made.layout ≡ layout before c
  same_layout_lem = readied_layout (layout before c) c.edge s

  same_slots : slots_of made.asked ≡ slots_of s.asked
  same_slots = ap slots_of (readied_asked (layout before c) c.edge s)

  -- the frame over the numbers made ready is the call's
  head_is : frame.head ≡ head before c
  unfolding playing_of
  head_is = rw (same_layout_lem, same_slots, said)

  near_made : NearCore (core_of made) (ready (head before c) (core_of s))
  near_made = near_readied s (head before c) shaped

  past_made : (p : ℕ) → p < split_of (layout before c) → Alike 6 (history_of 6 6 (part (12 * p) 12 made.history)) (past_ready before c p)
  unfolding past_ready playing_of core_of
  past_made p u = readied_history s (layout before c) c.edge shaped p (omega (arith, (bounds (layout before c)).split))

  slot_split : (p j : ℕ) → p < split_of (layout before c) → slot_in made.history c.input p j ≡ slot_at before c p j
  unfolding slot_at
  slot_split p j u = rw (past_made p u (5 - j) (omega arith))

  slot_input : (p j : ℕ) → 6 ≤ j → slot_in made.history c.input p j ≡ slot_at before c p j
  unfolding slot_at
  slot_input p j u = rw (le-ltb j 6 u)

  sample_is : (n k : ℕ) → frame.sample n k ≡ (frame_of before c).sample n k
  unfolding frame_of
  sample_is n k =
      ap (λ (l : Layout). hybrid l (slot_in made.history c.input) n k) same_layout_lem
      ∙ hybrid_same (layout before c) (slot_in made.history c.input) (slot_at before c) slot_split slot_input n k

  cue_is : (e b : ℕ) → frame.cue e b ≡ (frame_of before c).cue e b
  unfolding frame_of
  cue_is e b = rw (same_layout_lem, said)

  sounds : SoundsAs before c (core_of made) frame
  unfolding playing_of
  sounds = near_frame before c (core_of made) frame near_made head_is (λ e b u v. cue_is e b) (λ n k u v. sample_is n k)

  -- ---- what is carried on

  near_after : Near (flat_after made c.input frame (resolved before c).lines) (after before c)
  unfolding playing_of after core.after core_of
  near_after =
      record {
        slots = same_slots;
        lines = refl;
        past = λ p u.
            rw same_slots
            (past_alike 6 (history_of 6 6 (part (12 * p) 12 made.history)) (past_ready before c p) (λ n. qmf_at c.input n p) (slots_of s.asked)
            (past_made p (rw (← same_layout_lem) u)));
        core = sounds.after;
      }

  module _ (fits : buffers_fit (slots_of s.asked) (length c.input) (length c.left) (length c.right) ≡ true) where
    staged : Stages made h (resolved before c).indices (resolved before c).positions c.input c.left c.right c.edge
    staged =
        sound_is made (shaped_readied s (layout before c) c.edge shaped) h (resolved before c).indices (resolved before c).positions c.input c.left c.right c.edge
        (fitting_of made c.input c.left c.right (rw same_slots fits))

    pub state_is : sounded made h (resolved before c).indices (resolved before c).positions c.input c.left c.right (resolved before c).lines ≡ stored made (after before c)
    state_is =
        staged.state_is (resolved before c).lines
        ∙ stored_near made (flat_after made c.input frame (resolved before c).lines) (after before c) near_after

    -- the same slots and layout
    rows_moved : (side : Frame → Core → ℕ → ℕ → Complex)
        → qmf_rows (slots_of made.asked) (λ n q. synthesised made.layout (side frame (core_of made) n) q)
        ≡ qmf_rows before.slots (λ n q. synthesised (layout before c) (side frame (core_of made) n) q)
    unfolding playing_of
    rows_moved side = ap₂ (λ (m : ℕ) (l : Layout). qmf_rows m (λ n q. synthesised l (side frame (core_of made) n) q)) same_slots same_layout_lem

    pub left_is : left_of made h (resolved before c).indices (resolved before c).positions c.input c.left c.right ≡ rows_of before c left_at
    left_is = staged.left_is ∙ rows_moved left_at ∙ left_rows before c (core_of made) frame sounds

    pub right_is : right_of made h (resolved before c).indices (resolved before c).positions c.input c.left c.right ≡ rows_of before c right_at
    right_is = staged.right_is ∙ rows_moved right_at ∙ right_rows before c (core_of made) frame sounds

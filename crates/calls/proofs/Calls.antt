-- A call from two states that are near answers the same, gives the same rows and leaves states that are near. Assumes nothing.
use Prim.Native.Nat.{ℕ, ◌-◌, ◌≤◌, ◌<◌}
use native.Mathlib.Omega.{arith}
use mathlib.Core.Path.{◌≡◌, refl, sym, ap, ap₂, fun_ext, ◌∙◌}
use mathlib.Core.Bool.{Bool, true, false, cond}
use mathlib.Core.List.{[]}
use borrow.Author.Tests.{le-ltb}
use Rattle.complex.specs.declared.Complex.{Complex}
use Rattle.layout.specs.declared.Layout.{Layout}
use Rattle.layout.specs.Numbers.{channels_of, split_of}
use Rattle.planar.specs.Frame.{qmf_at, qmf_rows}
use Rattle.ps_data.specs.declared.PsLines.{PsLines}
use Rattle.ps_data.specs.Indices.{resolve_line, left_by}
use Rattle.standard.specs.Core.{Head, Frame, Core, same_layout, ready, next}
use Rattle.standard.specs.Hybrid.{hybrid, synthesised}
use Rattle.standard.proofs.Runs.{ready_layout}
use Rattle.calls.specs.Call.{Call, Playing, answer_of, answer, layout, head, past_ready, slot_at, frame_of, after, rows_of}
use Rattle.calls.specs.Near.{Alike, NearCore, Near}
use Rattle.calls.proofs.Channels.{past_alike}
use Rattle.calls.proofs.Ready.{near_ready, layout_is, next_layout, near_next}
use Rattle.calls.proofs.Rows.{hybrid_same, synthesised_same, rows_same}

frame_parts : (f g : Frame) → f.head ≡ g.head → f.cue ≡ g.cue → f.sample ≡ g.sample → f ≡ g
frame_parts f g heads cues samples = λ i. record { head = heads i; cue = cues i; sample = samples i }

-- a side that one frame gives alike from two states that are near
abbrev pub NearSide : (Frame → Core → ℕ → ℕ → Complex) → Type 0
NearSide side =
    (f : Frame) (x y : Core) → NearCore x y → x.layout ≡ f.head.layout → (n k : ℕ) → k < channels_of f.head.layout → side f x n k ≡ side f y n k

module _ (s t : Playing) (c : Call) (near : Near s t) where
  -- ---- the answer, and the head of the frame

  pub near_answer : answer s c ≡ answer t c
  unfolding answer_of
  near_answer = rw (near.slots, near.lines)

  pub near_layout : layout s c ≡ layout t c
  near_layout = rw (near.lines, near.core.layout)

  pub near_head : head s c ≡ head t c
  near_head = rw (near.slots, near.lines, near.core.layout)

  -- ---- the frame

  pub near_past : (p : ℕ) → p < split_of (layout s c) → Alike 6 (past_ready s c p) (past_ready t c p)
  unfolding past_ready
  near_past p u =
      let e : same_layout t.core.layout (layout t c) ≡ same_layout s.core.layout (layout s c) = ap₂ same_layout (sym near.core.layout) (sym near_layout) in
      rw e (go (same_layout s.core.layout (layout s c)) refl)
    where
      go : (same : Bool) → same_layout s.core.layout (layout s c) ≡ same → Alike 6 (cond same (s.past p) []) (cond same (t.past p) [])
      go true e = near.past p (rw (layout_is s.core.layout (layout s c) e) u)
      go false e = λ i v. refl

  slot_split : (p j : ℕ) → p < split_of (layout s c) → slot_at s c p j ≡ slot_at t c p j
  unfolding slot_at
  slot_split p j u = rw (near_past p u (5 - j) (omega arith))

  slot_input : (p j : ℕ) → 6 ≤ j → slot_at s c p j ≡ slot_at t c p j
  unfolding slot_at
  slot_input p j u = rw (le-ltb j 6 u)

  pub near_sample : (n k : ℕ) → (frame_of s c).sample n k ≡ (frame_of t c).sample n k
  unfolding frame_of
  near_sample n k =
      hybrid_same (layout s c) (slot_at s c) (slot_at t c) slot_split slot_input n k
      ∙ ap (λ (l : Layout). hybrid l (slot_at t c) n k) near_layout

  pub near_cue : (frame_of s c).cue ≡ (frame_of t c).cue
  unfolding frame_of
  near_cue = rw (near.lines, near.core.layout)

  -- the whole frame is the same: what lies further back than six slots never enters it
  pub near_frames : frame_of s c ≡ frame_of t c
  unfolding frame_of
  near_frames = frame_parts (frame_of s c) (frame_of t c) near_head near_cue (fun_ext (λ n. fun_ext (λ k. near_sample n k)))

  -- ---- what the call gives and leaves

  -- one of the two sides
  module _ (side : Frame → Core → ℕ → ℕ → Complex) (near_side : NearSide side) where
    near_channels : (n k : ℕ) → k < channels_of (layout t c) → side (frame_of s c) (ready (head s c) s.core) n k ≡ side (frame_of t c) (ready (head t c) t.core) n k
    unfolding frame_of
    near_channels n k u =
        ap₂ (λ (f : Frame) (h : Head). side f (ready h s.core) n k) near_frames near_head
        ∙ near_side (frame_of t c) (ready (head t c) s.core) (ready (head t c) t.core) (near_ready (head t c) s.core t.core near.core)
        (ready_layout (head t c) s.core) n k u

    pub near_rows : rows_of s c side ≡ rows_of t c side
    near_rows =
        ap₂ (λ (slots : ℕ) (l : Layout). qmf_rows slots (λ n q. synthesised l (side (frame_of s c) (ready (head s c) s.core) n) q)) near.slots near_layout
        ∙ rows_same t.slots (λ n q. synthesised (layout t c) (side (frame_of s c) (ready (head s c) s.core) n) q)
        (λ n q. synthesised (layout t c) (side (frame_of t c) (ready (head t c) t.core) n) q)
        (λ n q u v. synthesised_same (layout t c) _ _ (near_channels n) q v)

  near_next_core : NearCore (next s.core (frame_of s c)) (next t.core (frame_of t c))
  near_next_core = rw near_frames (near_next (frame_of t c) s.core t.core near.core)

  pub near_afterwards : Near (after s c) (after t c)
  unfolding after past_ready
  near_afterwards =
      record {
        slots = near.slots;
        lines = ap (λ (x : PsLines). (left_by x (resolve_line x c.line)).lines) near.lines;
        past = λ p u. rw near.slots (past_alike 6 (past_ready s c p) (past_ready t c p) (λ n. qmf_at c.input n p) t.slots (near_past p (of_layout p u)));
        core = near_next_core;
      }
    where
      of_layout : (p : ℕ) → p < split_of (next s.core (frame_of s c)).layout → p < split_of (layout s c)
      of_layout p u = let e : (next s.core (frame_of s c)).layout ≡ layout s c = unfold frame_of in next_layout s.core (frame_of s c) in rw e at u

-- A frame that agrees with another on head, cues and samples, from a state near to that one's, gives the same sound and leaves a state near to that one's. Assumes nothing.
use Prim.Native.Nat.{ℕ, ◌<◌}
use mathlib.Core.Path.{◌≡◌, refl, ap, ◌∙◌}
use mathlib.Core.Bool.{not}
use Rattle.layout.specs.Numbers.{bands_of, channels_of}
use Rattle.ps_map.specs.Bands.{band_of}
use Rattle.ps_map.proofs.Bands.{band_small}
use Rattle.planar.specs.Frame.{qmf_rows}
use Rattle.standard.specs.Core.{Head, Frame, envelopes, Core, ready, left_at, right_at, next}
use Rattle.standard.specs.Core as core
use Rattle.standard.specs.Hybrid.{synthesised}
use Rattle.standard.specs.Isolation.{Same}
use Rattle.standard.proofs.Runs.{ready_layout}
use Rattle.standard.proofs.Frames.{Agree, left_same, right_same, after_same}
use Rattle.calls.specs.Call.{Call, Playing, head, layout, frame_of, rows_of}
use Rattle.calls.specs.Near.{NearCore}
use Rattle.calls.proofs.Relation.{channel_itself, core_by}
use Rattle.calls.proofs.Cores.{near_left, near_right, near_after}
use Rattle.calls.proofs.Rows.{synthesised_same, rows_same}

-- ---- two frames

-- they agree on the cues of every band and on the samples of every channel
pub record Agreeing (f g : Frame) : Type 0 where
  pub heads : f.head ≡ g.head
  pub cues : (e b : ℕ) → e < envelopes g.head → b < bands_of g.head.layout → f.cue e b ≡ g.cue e b
  pub samples : (n k : ℕ) → n < g.head.slots → k < channels_of g.head.layout → f.sample n k ≡ g.sample n k

-- f from s gives what g from t does, and leaves a state near to that one's
pub record Sounding (f g : Frame) (s t : Core) : Type 0 where
  pub left : (n k : ℕ) → n < g.head.slots → k < channels_of g.head.layout → left_at f s n k ≡ left_at g t n k
  pub right : (n k : ℕ) → n < g.head.slots → k < channels_of g.head.layout → right_at f s n k ≡ right_at g t n k
  pub after : NearCore (core.after f s) (core.after g t)

agree_itself : (f : Frame) (b : ℕ) (s : Core) → Agree f.head.layout b s s
agree_itself f b s = record { layouts = refl; cueds = refl; channels = λ k u e. refl; detectors = refl; kepts = refl }

-- from one state
module _ (f g : Frame) (agreeing : Agreeing f g) where
  same : (b : ℕ) → b < bands_of g.head.layout → Same g.head.layout b f g
  same b u =
      record {
        layout = ap (λ (h : Head). h.layout) agreeing.heads;
        heads = agreeing.heads;
        cues = λ e v. agreeing.cues e b (rw agreeing.heads at v) u;
        samples = λ n k v w o. agreeing.samples n k (rw agreeing.heads at v) w;
      }

  -- on the band of a channel
  same_band : (k : ℕ) → Same g.head.layout (band_of g.head.layout k) f g
  same_band k = same (band_of g.head.layout k) (band_small g.head.layout k)

  module _ (s : Core) (is-layout : s.layout ≡ g.head.layout) where
    agree_after : (b : ℕ) → b < bands_of g.head.layout → Agree g.head.layout b (core.after f s) (core.after g s)
    agree_after b u = after_same g.head.layout b f g s s (same b u) (agree_itself g b s)

    one_state : Sounding f g s s
    unfolding core.after
    one_state =
        record {
          left = λ n k v w. left_same g.head.layout _ f g s s (same_band k) (agree_itself g _ s) n k (rw agreeing.heads v) w refl;
          right = λ n k v w. right_same g.head.layout _ f g s s (same_band k) (agree_itself g _ s) n k (rw agreeing.heads v) w refl;
          after =
              record {
                layout = refl;
                cued = ap (λ (h : Head). not h.empty) agreeing.heads;
                channel = λ k u. channel_itself s.layout k _ _ ((agree_after (band_of g.head.layout k) (band_small g.head.layout k)).channels k (rw is-layout at u) refl);
                detector = λ b u. (agree_after b (rw is-layout at u)).detectors;
                kept = λ b u. (agree_after b (rw is-layout at u)).kepts;
              };
        }

-- from two states that are near
pub frames_sound : (f g : Frame) (s t : Core) → Agreeing f g → NearCore s t → t.layout ≡ g.head.layout → Sounding f g s t
frames_sound f g s t agreeing near is-layout =
    let e : s.layout ≡ g.head.layout = near.layout ∙ is-layout in
    let first : Sounding f g s s = one_state f g agreeing s e in
    record {
      left = λ n k v w. first.left n k v w ∙ near_left g s t near e n k w;
      right = λ n k v w. first.right n k v w ∙ near_right g s t near e n k w;
      after = core_by (core.after f s) (core.after g s) (core.after g t) first.after (near_after g s t near e);
    }

-- ---- the frame of a call

-- f from a state near to the one that is ready for the call gives what the call does
pub record SoundsAs (s : Playing) (c : Call) (from : Core) (f : Frame) : Type 0 where
  pub left : (n k : ℕ) → n < s.slots → k < channels_of (layout s c) → left_at f from n k ≡ left_at (frame_of s c) (ready (head s c) s.core) n k
  pub right : (n k : ℕ) → n < s.slots → k < channels_of (layout s c) → right_at f from n k ≡ right_at (frame_of s c) (ready (head s c) s.core) n k
  pub after : NearCore (core.after f from) (next s.core (frame_of s c))

pub near_frame : (s : Playing) (c : Call) (from : Core) (f : Frame) → NearCore from (ready (head s c) s.core) → f.head ≡ head s c
    → ((e b : ℕ) → e < envelopes (head s c) → b < bands_of (layout s c) → f.cue e b ≡ (frame_of s c).cue e b)
    → ((n k : ℕ) → n < s.slots → k < channels_of (layout s c) → f.sample n k ≡ (frame_of s c).sample n k)
    → SoundsAs s c from f
unfolding frame_of next
near_frame s c from f near heads cues samples =
    let sounding : Sounding f (frame_of s c) from (ready (head s c) s.core)
    = frames_sound f (frame_of s c) from (ready (head s c) s.core) (record { heads = heads; cues = cues; samples = samples }) near
    (ready_layout (head s c) s.core) in
    record { left = sounding.left; right = sounding.right; after = sounding.after }

-- so the rows that it makes are the call's
module _ (s : Playing) (c : Call) (from : Core) (f : Frame) (sounds : SoundsAs s c from f) where
  pub left_rows : qmf_rows s.slots (λ n q. synthesised (layout s c) (left_at f from n) q) ≡ rows_of s c left_at
  left_rows = rows_same s.slots _ _ (λ n q u v. synthesised_same (layout s c) _ _ (λ k w. sounds.left n k u w) q v)

  pub right_rows : qmf_rows s.slots (λ n q. synthesised (layout s c) (right_at f from n) q) ≡ rows_of s c right_at
  right_rows = rows_same s.slots _ _ (λ n q u v. synthesised_same (layout s c) _ _ (λ k w. sounds.right n k u w) q v)

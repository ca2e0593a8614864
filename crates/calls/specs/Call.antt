-- Annex 8.A.3 and document 01: one call of the decoder, a frame. Assumes nothing.
use Rattle.std.specs.Prelude.{ℕ, ◌+◌, ◌-◌, ◌*◌, ◌%◌, min, Bool, not, cond, ◌&&◌, ◌||◌, List, [], eqb, leb, ltb, Float, length, take, Result, Ok, Err}
use Rattle.std.specs.Float.Ieee.{le, neg}
use Rattle.answer.specs.declared.Answer.{Answer}
use Rattle.answer.specs.declared.Answer.TheVariants.{Done, Quiet, Buffers, Sample}
use Rattle.answer.specs.Number.{number_of}
use Rattle.borders.specs.Borders.{slots_of, borders_of}
use Rattle.complex.specs.declared.Complex.{Complex}
use Rattle.cue.specs.declared.Header.{Header}
use Rattle.cue.specs.Fields.{fine_of, rb_of}
use Rattle.layout.specs.declared.Layout.{Layout}
use Rattle.limits.specs.Limits as limits
use Rattle.lists.specs.All.{all}
use Rattle.planar.specs.Frame.{qmf_at, qmf_rows}
use Rattle.ps_data.specs.declared.PsLines.{PsLines}
use Rattle.ps_data.specs.declared.Resolved.{Resolved}
use Rattle.ps_data.specs.Indices.{layout_in, fresh_lines, resolve_line, left_by}
use Rattle.standard.specs.declared.Modes.{Modes}
use Rattle.standard.specs.Numbers.{whole}
use Rattle.standard.specs.Channel.{back, past_at}
use Rattle.standard.specs.Core as core
use Rattle.standard.specs.Core.{Head, Frame, Core, same_layout, ready, left_at, right_at, next}
use Rattle.standard.specs.Hybrid.{hybrid, synthesised}
use Rattle.calls.specs.Cues.{cue_at}

-- ---- what a call gets, and what is carried from call to call

-- a cue line, the input's QMF rows, the spectrum edge, and what the two outputs hold before the call
pub record Call : Type 0 where
  pub line : List ℕ
  pub input : List Float
  pub edge : ℕ
  pub left : List Float
  pub right : List Float

-- slots of a frame, what the lines so far have left, what came into each QMF band, newest first, and the sound's state
pub record Playing : Type 0 where
  pub slots : ℕ
  pub lines : PsLines
  pub past : ℕ → List Complex
  pub core : Core

-- a decoder made for an asked number of slots
unfoldable pub fresh : ℕ → Playing
fresh asked = record { slots = slots_of asked; lines = fresh_lines; past = λ p. []; core = core.fresh }

-- ---- the answer

-- by their lengths: the input has whole rows, as many as a frame and six rows ahead need, and each output exactly a frame's
unfoldable pub buffers_fit : ℕ → ℕ → ℕ → ℕ → Bool
buffers_fit slots input left right =
    eqb (input % 128) 0 && (leb (128 * (slots + 6)) input && (eqb left (128 * slots) && eqb right (128 * slots)))

-- finite, and at most 1,048,576 in magnitude
abbrev pub sample_fits : Float → Bool
sample_fits x = le x (whole 1048576) && le (neg (whole 1048576)) x

-- of the rows that the frame reads
unfoldable pub samples_fit : ℕ → List Float → Bool
samples_fit slots input = all sample_fits (take (128 * (slots + 6)) input)

-- the buffers, then the samples
unfoldable pub input_answer : ℕ → List Float → ℕ → ℕ → Answer
input_answer slots input left right = cond (buffers_fit slots (length input) left right) (cond (samples_fit slots input) Done Sample) Buffers

module _ (s : Playing) (c : Call) where
  -- what the line says, with the indices resolved, or its refusal; and what it leaves
  abbrev pub read : Result Resolved Answer
  read = resolve_line s.lines c.line

  abbrev pub resolved : Resolved
  resolved = left_by s.lines read

  -- document 01's order: the line, quiet, the input
  unfoldable pub answer_of : Result Resolved Answer → Answer
  answer_of (Err a) = a
  answer_of (Ok r) =
      cond (r.header.cued || s.lines.configured) (input_answer s.slots c.input (length c.left) (length c.right)) Quiet

  abbrev pub answer : Answer
  answer = answer_of read

-- ---- the frame of an accepted call

abbrev pub modes_of : Header → Modes
modes_of h = record { fine = fine_of h.config; rb = rb_of h.config; phase = h.phase }

module _ (s : Playing) (c : Call) where
  abbrev pub header : Header
  header = (resolved s c).header

  abbrev pub layout : Layout
  layout = layout_in s.core.layout header

  abbrev pub head : Head
  head =
      record {
        layout = layout;
        slots = s.slots;
        edge = c.edge;
        empty = not header.cued;
        borders = borders_of s.slots header.variable (min header.envelopes limits.envelopes) (resolved s c).positions;
        modes = modes_of header;
      }

  -- a change of layout resets the hybrid filters' history
  unfoldable pub past_ready : ℕ → List Complex
  past_ready p = cond (same_layout s.core.layout layout) (s.past p) []

  -- QMF band p at j: the last six slots before the frame, then the input's
  unfoldable pub slot_at : ℕ → ℕ → Complex
  slot_at p j = cond (ltb j 6) (back (5 - j) (past_ready p)) (qmf_at c.input (j - 6) p)

  unfoldable pub frame_of : Frame
  frame_of =
      record {
        head = head;
        cue = cue_at layout header.config (resolved s c).indices;
        sample = λ n k. hybrid layout slot_at n k;
      }

  -- ---- what it leaves

  unfoldable pub after : Playing
  after =
      record {
        slots = s.slots;
        lines = (resolved s c).lines;
        past = λ p. past_at (past_ready p) (λ n. qmf_at c.input n p) s.slots;
        core = next s.core frame_of;
      }

  -- the QMF rows of one side
  abbrev pub rows_of : (Frame → Core → ℕ → ℕ → Complex) → List Float
  rows_of side = qmf_rows s.slots (λ n q. synthesised layout (side frame_of (ready head s.core) n) q)

-- ---- the outcome of a call

pub record Outcome : Type 0 where
  pub answer : Answer
  pub after : Playing
  pub left : List Float
  pub right : List Float

-- accepted means answer 0; a refused or quiet call changes neither the state nor the outputs
unfoldable pub played : Playing → Call → Outcome
played s c =
    cond (eqb (number_of (answer s c)) 0)
    (record { answer = answer s c; after = after s c; left = rows_of s c left_at; right = rows_of s c right_at })
    (record { answer = answer s c; after = s; left = c.left; right = c.right })

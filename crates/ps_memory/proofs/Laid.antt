-- Parts that are stored from the last to the first leave the image. Assumes nothing.
use mathlib.Core.Path.{◌≡◌, sym, ap, ap₂, ◌∙◌}
use mathlib.Core.List.{List, [], ◌∷◌, ◌++◌, append-nil}
use Prim.Native.Nat.{ℕ, ◌+◌}
use native.Mathlib.Omega.{arith}
use lib.ListN.{length, drop, set, replicate}
use lib.Seq.{sets, sets-eq, drop-length}
use lib.Ieee.{Float}
use Rattle.exact_numbers.specs.Numbers.{kept_number, kept_flag}
use Rattle.lists.specs.Part.{part, put}
use Rattle.lists.proofs.Parts.{part_length}
use Rattle.ps_data.specs.declared.PsLines.{PsLines}
use Rattle.ps_rows.specs.declared.Row.{Row}
use Rattle.ps_state.specs.declared.PsCarried.{PsCarried}
use Rattle.ps_state.specs.State.{sound_long, carried_of, fresh_decoder}
use Rattle.ps_state.proofs.Laid.{piece, laid, headed, three_laid}
use Rattle.ps_state.proofs.Lent.{sound_fresh}
use Rattle.standard.specs.Numbers.{zero}
use Rattle.ps_memory.specs.Packed.{packed}
use Rattle.ps_memory.specs.Place.{head_long, row_long, lines_long, phases_long, lines_at, phases_at, sound_at, numbers, head_image, row_place, row_image, lines_image, small_image, image}

-- ---- the parts of a state

pub row_laid : (r : Row) (m q : List Float) (v : Float) → length m ≡ row_long → v ≡ kept_number r.used → q ≡ packed (length (part 1 17 m)) r.at
    → set (put 1 17 m q) 0 v ≡ row_image r
unfolding row_image
row_laid r m q v l e f = headed v (piece 17 q) [] m l ∙ rw (e, f, part_length 1 17 m (omega arith))

pub lines_laid : (s : PsLines) (m a b c d : List Float) (v : Float) → length m ≡ lines_long → v ≡ kept_flag s.configured
    → a ≡ row_image s.rows.iid → b ≡ row_image s.rows.icc → c ≡ row_image s.rows.ipd → d ≡ row_image s.rows.opd
    → set (put (row_place 0) row_long (put (row_place 1) row_long (put (row_place 2) row_long (put (row_place 3) row_long m d) c) b) a) 0 v ≡ lines_image s
unfolding lines_image
lines_laid s m a b c d v l ev ea eb ec ed =
    headed v (piece row_long a) (piece row_long b ∷ piece row_long c ∷ piece row_long d ∷ []) m l ∙ rw (ev, ea, eb, ec, ed)

pub small_laid : (s : PsCarried) (m a b c : List Float) → length m ≡ sound_at → a ≡ head_image s.layout s.cued s.asked s.turn
    → b ≡ lines_image s.lines → c ≡ packed (length (part phases_at phases_long m)) s.phases
    → put 0 head_long (put lines_at lines_long (put phases_at phases_long m c) b) a ≡ small_image s
unfolding small_image
small_laid s m a b c l ea eb ec =
    three_laid head_long lines_long phases_long m a b c l ea eb (ec ∙ ap (λ (n : ℕ). packed n s.phases) (part_length phases_at phases_long m (omega arith)))

-- what is small in a fresh state, before its silent sound
pub fresh_laid : (asked : ℕ) (s : PsCarried) (m q z : List Float) → length m ≡ numbers → s ≡ carried_of (fresh_decoder asked) → q ≡ small_image s
    → z ≡ replicate (length (part sound_at sound_long m)) zero → put 0 sound_at (put sound_at sound_long m z) q ≡ image (fresh_decoder asked)
unfolding image
fresh_laid asked s m q z l es eq ez =
    laid 0 (piece sound_at q) (piece sound_long z ∷ []) m l
    ∙ ap₂ (λ (a b : List Float). a ++ b) (eq ∙ ap small_image es)
    (ez ∙ ap (λ (n : ℕ). replicate n zero) (part_length sound_at sound_long m (omega arith)) ∙ sym (sound_fresh asked))

-- `ps_stereo_slots::matrix_at` meets its contract: eight numbers from a place on. Assumes nothing.
use native.Mathlib.Nat.{add-sub_cancel_left}
use Rattle.ps_stereo_slots.proofs.matrix_at.Goals as goal

pub returns : goal.returns
returns c = simp add-sub_cancel_left at c.matrix.ensures

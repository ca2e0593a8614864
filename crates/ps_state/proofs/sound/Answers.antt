-- `ps_state::sound` meets its contract: each list has its place. Assumes nothing.
use mathlib.Core.List.{append-nil}
use Rattle.ps_state.specs.State.{sound_of}
use Rattle.ps_state.proofs.sound.Goals as goal

pub returns : goal.returns
unfolding sound_of
returns c =
    rw (
      append-nil,
      c.copy_from_slice.ensures.after,
      c.copy_from_slice-2.ensures.after,
      c.copy_from_slice-3.ensures.after,
      c.copy_from_slice-4.ensures.after,
      c.copy_from_slice-5.ensures.after,
    )

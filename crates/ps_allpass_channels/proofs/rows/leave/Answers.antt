-- `ps_allpass_channels::rows::leave` meets its contract: the slot's row of each side comes back with its bands written. Assumes nothing.
use Prim.Native.Nat.{◌+◌, ◌-◌, ◌*◌}
use native.Mathlib.Nat.{add-sub_cancel_left}
use Rattle.ps_allpass_groups.specs.Desk.{left_on, right_on}
use Rattle.ps_allpass_channels.specs.Desks.{desk_of, standing}
use Rattle.ps_allpass_channels.proofs.Leaving.{left_standing, right_standing, row_left}
use Rattle.ps_allpass_channels.proofs.rows.leave.Goals as goal

pub returns : goal.returns
returns c =
    let a = c.args in
    let n = a.n in
    let desks = a.desks.now in
    let wide = add-sub_cancel_left (128 * n) 128 in record {
      left = row_left a.layout (standing desks 120) (desk_of left_on desks) (left_standing desks) n (128 * n + 128 - 128 * n) a.left.now
          c.leave_side.new.row wide c.requires.n_in_bounds.0 c.leave_side.ensures;
      right = row_left a.layout (standing desks 128) (desk_of right_on desks) (right_standing desks) n (128 * n + 128 - 128 * n) a.right.now
          c.leave_side-2.new.row wide c.requires.n_in_bounds.1 c.leave_side-2.ensures;
    }

-- `queue_decorr::channel_queues` meets its contract: a channel's part of the queues is copied. Assumes nothing.
use mathlib.Core.Path.{◌≡◌}
use Prim.Native.Nat.{◌+◌, ◌-◌, ◌<◌}
use native.Mathlib.Omega.{arith}
use borrow.Author.Tests.{lt-ltb, le-ltb, le-leb, lt-leb}
use lib.ListN.{length}
use Rattle.layout.specs.Numbers.{channels_of}
use Rattle.queue_decorr.specs.Queues.{size_of, place_of}
use Rattle.queue_decorr.specs.State.{channel_queues}
use Rattle.queue_decorr.proofs.channel_queues.Goals as goal
use Rattle.queue_decorr.proofs.channel_queues.Goals.{else-k-channels-via-then-k-channels+else-width-out, else-k-channels-via-else-k-channels}

pub returns-then-width-out : goal.returns-then-width-out
unfolding channel_queues
returns-then-width-out c =
    let a = c.args in
    let l = a.state.layout in
    let inside : a.k < channels_of l = omega (arith, c.if-k-channels.true, c.channels.ensures) in
    let room : place_of l a.k + size_of l a.k - place_of l a.k ≡ size_of l a.k = omega arith in
    rw (lt-ltb a.k (channels_of l) inside, le-leb (size_of l a.k) (length a.out.now) (omega (arith, c.if-width-out.true, c.size-width.ensures)))
    (rw (c.copy_from_slice.ensures.after, c.size-width.ensures, c.place-at.ensures, room))

pub returns-else-k-channels : goal.returns-else-k-channels
unfolding channel_queues
returns-else-k-channels c =
    let a = c.args in
    let l = a.state.layout in
    elim c.else-k-channels.branch [
      | else-k-channels-via-then-k-channels+else-width-out w ↦
          rw (
            lt-ltb a.k (channels_of l) (omega (arith, w.if-k-channels.true, c.channels.ensures)),
            lt-leb (size_of l a.k) (length a.out.now) (omega (arith, w.if-width-out.false, c.size-width.ensures)),
          )
      | else-k-channels-via-else-k-channels w ↦ rw (le-ltb a.k (channels_of l) (omega (arith, w.if-k-channels.false, c.channels.ensures)))
    ]

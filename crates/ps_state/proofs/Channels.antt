-- A frame's own reset over flat numbers: the channels before the place are as they were, and those from it on are silent, in both memories.
-- Assumes nothing.
use mathlib.Core.Path.{◌≡◌, refl, sym, ap, ◌∙◌}
use mathlib.Core.Bool.{Bool, true, false}
use Prim.Native.Nat.{ℕ, ◌+◌, ◌-◌, ◌*◌, ◌/◌, ◌%◌, ◌<◌, ◌≤◌}
use native.Mathlib.Omega.{arith}
use borrow.Author.Tests.{ltb-true, ltb-false, leb-true, leb-false, lt-ltb, le-ltb, le-leb}
use lib.Dec.{ltb, leb}
use lib.ListN.{length, length-replicate}
use Rattle.calls.specs.Near.{NearChannel}
use Rattle.complex.specs.declared.Complex.{Complex}
use Rattle.layout.specs.declared.Layout.{Layout}
use Rattle.layout.specs.Numbers.{channels_of, all_pass_of, short_delay_of, groups_of}
use Rattle.layout.proofs.Bounds.{bounds}
use Rattle.lists.proofs.Maps.{tabulate_same}
use Rattle.planar.specs.Cells.{cell}
use Rattle.ps_decorr.specs.declared.PsDecorr.{PsDecorr}
use Rattle.ps_decorr.specs.Channels.{delay_of, channel_in}
use Rattle.ps_decorr.specs.State.{fresh_decorr, plain_owner, delays_reset, plain_reset, reset_from}
use Rattle.ps_decorr.proofs.Silenced.{cell_cleared, cell_kept}
use Rattle.ps_decorr_allpass.specs.Memory.{lane_of, owner_of, silenced_from}
use Rattle.ps_decorr_allpass.proofs.Places.{place_of, owner_re, owner_im, lane_at}
use Rattle.ps_decorr_allpass.proofs.Rings.{ringed_same, channel_same}
use Rattle.standard.specs.Channel.{Channel, silent}
use Rattle.standard.specs.Core.{cleared}
use Rattle.standard.specs.Numbers.{zero}
use Rattle.ps_state.proofs.Stored.{near_quiet, near_silent}

-- a channel is of one of the three kinds
kinds : (l : Layout) (k : ℕ) (G : Type 0) → (k < all_pass_of l → G)
    → (all_pass_of l ≤ k → k < short_delay_of l → G) → (all_pass_of l ≤ k → short_delay_of l ≤ k → G) → G
kinds l k G chain long short = go (ltb k (all_pass_of l)) refl (ltb k (short_delay_of l)) refl
  where
    go : (a : Bool) → ltb k (all_pass_of l) ≡ a → (b : Bool) → ltb k (short_delay_of l) ≡ b → G
    go true e b f = chain (ltb-true k (all_pass_of l) e)
    go false e true f = long (ltb-false k (all_pass_of l) e) (ltb-true k (short_delay_of l) f)
    go false e false f = short (ltb-false k (all_pass_of l) e) (ltb-false k (short_delay_of l) f)

-- ---- two memories that hold the same channel k

pub record Sized (d : PsDecorr) : Type 0 where
  pub delays : length d.delays ≡ 1456
  pub plain : length d.plain ≡ 394

pub fresh_sized : Sized fresh_decorr
fresh_sized = record { delays = length-replicate 1456 zero; plain = length-replicate 394 zero }

abbrev pub channel_from : Layout → PsDecorr → ℕ → Channel
channel_from l d k = channel_in l d.turn d.delays d.plain k

-- the cells of a plain delay
abbrev long_cell : Layout → ℕ → PsDecorr → ℕ → Complex
long_cell l k d r = cell 1 d.plain (24 * r + 2 * (k - all_pass_of l))

abbrev short_cell : Layout → ℕ → PsDecorr → Complex
short_cell l k d = cell 1 d.plain (336 + 2 * (k - short_delay_of l))

record Same (l : Layout) (k : ℕ) (d e : PsDecorr) : Type 0 where
  pub turn : d.turn ≡ e.turn
  pub chain : k < all_pass_of l → (j : ℕ) → j < 14 → lane_of d.delays k j ≡ lane_of e.delays k j
  pub long : all_pass_of l ≤ k → k < short_delay_of l → (r : ℕ) → r < 14 → long_cell l k d r ≡ long_cell l k e r
  pub short : short_delay_of l ≤ k → short_cell l k d ≡ short_cell l k e

same_channel : (l : Layout) (k : ℕ) (d e : PsDecorr) → Same l k d e → channel_from l d k ≡ channel_from l e k
unfolding channel_in
same_channel l k d e s =
    let t = e.turn in
    rw s.turn
    (kinds l k (channel_in l t d.delays d.plain k ≡ channel_from l e k)
    (λ u. rw (lt-ltb k (all_pass_of l) u) (channel_same t (lane_of d.delays k) (lane_of e.delays k) (s.chain u)))
    (λ u v. rw (le-ltb k (all_pass_of l) u, lt-ltb k (short_delay_of l) v) (ap delay_of (ringed_same 14 t (long_cell l k d) (long_cell l k e) (omega arith) (s.long u v))))
    (λ u v. rw (le-ltb k (all_pass_of l) u, le-ltb k (short_delay_of l) v) (ap delay_of (tabulate_same (λ i. short_cell l k d) (λ i. short_cell l k e) 1 (λ i w. s.short v)))))

-- ---- the reset

-- the channel that a number of the plain delays belongs to
module _ (l : Layout) (m : ℕ) where
  long_owner : m < 336 → plain_owner l m ≡ all_pass_of l + m % 24 / 2
  long_owner u = rw (lt-ltb m 336 u)

  short_owner : 336 ≤ m → plain_owner l m ≡ short_delay_of l + (m - 336) / 2
  short_owner u = rw (le-ltb m 336 u)

module _ (l : Layout) (place : ℕ) (d : PsDecorr) (z : Sized d) (k : ℕ) (u : k < channels_of l) where
  abbrev long_at : ℕ → ℕ
  long_at r = 24 * r + 2 * (k - all_pass_of l)

  abbrev short_at : ℕ
  short_at = 336 + 2 * (k - short_delay_of l)

  -- with room for all of it, every number is reset by its owner
  delays_are : ltb place (all_pass_of l) ≡ true → delays_reset l place d.delays ≡ silenced_from owner_of place d.delays
  delays_are e = rw (le-leb (112 * groups_of l) (length d.delays) (omega (arith, z.delays, (bounds l).groups)), e)

  delays_stay : ltb place (all_pass_of l) ≡ false → delays_reset l place d.delays ≡ d.delays
  delays_stay e = rw (le-leb (112 * groups_of l) (length d.delays) (omega (arith, z.delays, (bounds l).groups)), e)

  plain_is : plain_reset l place d.plain ≡ silenced_from (plain_owner l) place d.plain
  plain_is = rw z.plain

  reset_before : k < place → Same l k (reset_from l place d) d
  unfolding reset_from
  reset_before h =
      let n = bounds l in
      record {
        turn = refl;
        chain = λ v j w. lane v j w (ltb place (all_pass_of l)) refl;
        long = λ v w r x.
            rw plain_is
            (cell_kept (plain_owner l) place d.plain 1 (long_at r) (omega (arith, z.plain, n.short))
            (omega (arith, n.short, long_owner l (long_at r) (omega (arith, n.short))))
            (omega (arith, n.short, long_owner l (long_at r + 1) (omega (arith, n.short)))));
        short = λ v.
            rw plain_is
            (cell_kept (plain_owner l) place d.plain 1 short_at (omega (arith, z.plain, n.last))
            (omega (arith, short_owner l short_at (omega arith)))
            (omega (arith, short_owner l (short_at + 1) (omega arith))));
      }
    where
      lane : k < all_pass_of l → (j : ℕ) → j < 14 → (t : Bool) → ltb place (all_pass_of l) ≡ t → lane_of (delays_reset l place d.delays) k j ≡ lane_of d.delays k j
      lane v j w true e =
          rw (delays_are e)
          (lane_at k j w _
          ∙ cell_kept owner_of place d.delays 4 (place_of k j) (omega (arith, z.delays, (bounds l).all_pass)) (rw (owner_re k j w) h) (rw (owner_im k j w) h)
          ∙ sym (lane_at k j w d.delays))
      lane v j w false e = rw (delays_stay e)

  reset_behind : place ≤ k → NearChannel l k (channel_from l (reset_from l place d) k) silent
  unfolding reset_from
  reset_behind h =
      let n = bounds l in
      near_quiet l k d.turn _ _
      (λ v j w.
      rw (delays_are (lt-ltb place (all_pass_of l) (omega arith)))
      (lane_at k j w _ ∙ cell_cleared owner_of place d.delays 4 (place_of k j) (omega (arith, z.delays, n.all_pass)) (rw (owner_re k j w) h) (rw (owner_im k j w) h)))
      (λ v w r x.
      rw plain_is
      (cell_cleared (plain_owner l) place d.plain 1 (long_at r) (omega (arith, z.plain, n.short))
      (omega (arith, n.short, long_owner l (long_at r) (omega (arith, n.short))))
      (omega (arith, n.short, long_owner l (long_at r + 1) (omega (arith, n.short))))))
      (λ v.
      rw plain_is
      (cell_cleared (plain_owner l) place d.plain 1 short_at (omega (arith, z.plain, n.last))
      (omega (arith, short_owner l short_at (omega arith)))
      (omega (arith, short_owner l (short_at + 1) (omega arith)))))

-- ---- as the definitions have it

near_same : (l : Layout) (k : ℕ) (c : Channel) → NearChannel l k c c
near_same l k c = record { past = λ i v. refl; first = λ w i v. refl; second = λ w i v. refl; third = λ w i v. refl }

module _ (l : Layout) (place k : ℕ) (u : k < channels_of l) where
  before : (d : PsDecorr) → Sized d → k < place → channel_from l (reset_from l place d) k ≡ channel_from l d k
  before d z h = same_channel l k (reset_from l place d) d (reset_before l place d z k u h)

  -- a channel of a memory that is kept but for the reset
  pub near_cleared : (d : PsDecorr) → Sized d → NearChannel l k (channel_from l (reset_from l place d) k) (cleared place (channel_from l d) k)
  unfolding cleared
  near_cleared d z = go (leb place k) refl
    where
      go : (t : Bool) → leb place k ≡ t → NearChannel l k (channel_from l (reset_from l place d) k) (cleared place (channel_from l d) k)
      go true e = rw e (reset_behind l place d z k u (leb-true place k e))
      go false e = rw (e, before d z (leb-false place k e)) (near_same l k (channel_from l d k))

  -- a channel of a fresh memory
  pub near_renewed : NearChannel l k (channel_from l (reset_from l place fresh_decorr) k) (cleared place (λ j. silent) k)
  unfolding cleared
  near_renewed = go (leb place k) refl
    where
      go : (t : Bool) → leb place k ≡ t → NearChannel l k (channel_from l (reset_from l place fresh_decorr) k) (cleared place (λ j. silent) k)
      go true e = rw e (reset_behind l place fresh_decorr fresh_sized k u (leb-true place k e))
      go false e = rw (e, before fresh_decorr fresh_sized (leb-false place k e)) (near_silent l k u)

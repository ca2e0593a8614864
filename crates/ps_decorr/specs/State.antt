-- The carried state of de-correlation, fresh and after a reset (Annex 8.A.3). Assumes nothing.
use Rattle.std.specs.Prelude.{ℕ, ◌+◌, ◌-◌, ◌*◌, ◌/◌, ◌%◌, cond, ◌&&◌, List, eqb, leb, ltb, Float, length, replicate}
use Rattle.layout.specs.declared.Layout.{Layout}
use Rattle.layout.specs.Numbers.{all_pass_of, short_delay_of, groups_of}
use Rattle.ps_decorr_allpass.specs.Memory.{owner_of, silenced_from}
use Rattle.standard.specs.Numbers.{zero}
use Rattle.ps_decorr.specs.declared.PsDecorr.{PsDecorr}

-- every delay starts silent, and every detector calm
abbrev pub fresh_decorr : PsDecorr
fresh_decorr = record { turn = 0; delays = replicate 1456 zero; plain = replicate 394 zero; detectors = replicate 102 zero }

-- the channel that number m of the plain delays belongs to: 14 rows of 12 QMF bands, then one row of the bands above them
abbrev pub plain_owner : Layout → ℕ → ℕ
plain_owner l m = cond (ltb m 336) (all_pass_of l + m % 24 / 2) (short_delay_of l + (m - 336) / 2)

-- the delays of the channels from k on cleared, never the detectors; the counter goes on. Where k is no all-pass channel, those have nothing to clear;
-- nothing changes where a list has not the room
abbrev pub delays_reset : Layout → ℕ → List Float → List Float
delays_reset l k delays = cond (leb (112 * groups_of l) (length delays) && ltb k (all_pass_of l)) (silenced_from owner_of k delays) delays

abbrev pub plain_reset : Layout → ℕ → List Float → List Float
plain_reset l k plain = cond (eqb (length plain) 394) (silenced_from (plain_owner l) k plain) plain

unfoldable pub reset_from : Layout → ℕ → PsDecorr → PsDecorr
reset_from l k s = record { turn = s.turn; delays = delays_reset l k s.delays; plain = plain_reset l k s.plain; detectors = s.detectors }

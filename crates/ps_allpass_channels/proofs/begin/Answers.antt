-- `ps_allpass_channels::begin` meets its contract: the coefficients that are there are the region's, or they are laid. Assumes nothing.
use mathlib.Core.Path.{refl, subst}
use Prim.Native.Nat.{ℕ, ◌+◌, min}
use Rattle.ps_allpass_channels.specs.Desks.{Wayed}
use Rattle.ps_allpass_channels.proofs.begin.Goals as goal

pub returns : goal.returns
returns c =
    let a = c.args in record {
      way = subst (λ (r : ℕ). Wayed a.lent.layout a.lent.rows.now r (min (r + 1) a.count) a.desks.now) c.if-there-region.true (c.requires.region_le_count.2 _ c.in-Some.is);
      chains = λ k u. refl;
    }

pub returns-2 : goal.returns-2
returns-2 c =
    record { way = rw (← c.min.ensures) c.ways.ensures.way; chains = c.ways.ensures.chains }

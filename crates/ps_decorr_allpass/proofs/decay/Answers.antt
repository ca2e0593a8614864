-- `ps_decorr_allpass::decay` meets its contract: the test picks the case, and the operations are those of the definition. Assumes nothing.
use Rattle.std.proofs.Common.{rules, le-leb}
use borrow.Author.Tests.{lt-leb}
use Rattle.standard.specs.Channel.{decay}
use Rattle.standard.specs.Numbers.{◌⊖◌, ◌⊗◌}
use Rattle.standard.proofs.Literals.{one_is}
use Rattle.ps_decorr_allpass.proofs.decay.Goals as goal

pub returns-then-k-cutoff : goal.returns-then-k-cutoff
unfolding decay
returns-then-k-cutoff c = rw (← c.decay_cutoff-cutoff.ensures, one_is, le-leb _ _ c.if-k-cutoff.true)

pub returns-else-k-cutoff : goal.returns-else-k-cutoff
unfolding decay ◌⊖◌ ◌⊗◌
returns-else-k-cutoff c =
    let cutoff = c.decay_cutoff-cutoff.ensures in
    rw (
      c.at_least_zero.ensures,
      c.nearest_u64_to_f64.ensures,
      c.decay_slope.ensures,
      one_is,
      ← cutoff,
      lt-leb _ _ c.if-k-cutoff.false,
    )

-- `ps_allpass_groups::chain::link` meets its contract: its operations are those of the definitions, lane by lane and in their order. Assumes nothing.
use mathlib.Core.Path.{refl}
use borrow.Author.Rules.{rules}
use Rattle.standard.specs.Channel.{link_state, link_output}
use Rattle.ps_allpass_groups.proofs.chain.link.Goals as goal

pub returns : goal.returns
unfolding link_state link_output
returns c = record {
  state = rw (c.put.ensures, c.add-state.ensures, c.scale.ensures, c.mul-turned.ensures, c.at.ensures) refl;
  output = rw (c.sub.ensures, c.scale-2.ensures, c.add-state.ensures, c.scale.ensures, c.mul-turned.ensures, c.at.ensures) refl;
}

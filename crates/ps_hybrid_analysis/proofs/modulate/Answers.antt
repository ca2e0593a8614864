-- `ps_hybrid_analysis::modulate` meets its contract: the filters get their prototype's taps and roots. Assumes nothing.
use mathlib.Core.Path.{◌∙◌}
use Rattle.ps_hybrid_analysis.proofs.modulate.Goals as goal

pub apply_all-requires : goal.apply_all-requires
apply_all-requires c =
    record {
      prototype_value = (c.new.ensures ∙ c.requires.prototype_value.0, c.requires.prototype_value.1);
      room = c.requires.room;
      by_index = c.requires.by_index;
    }

pub returns : goal.returns
returns c = rw c.new.ensures at c.apply_all.ensures

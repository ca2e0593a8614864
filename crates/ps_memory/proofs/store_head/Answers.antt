-- `ps_memory::store_head` meets its contract: as many numbers as there are places. Assumes nothing.
use mathlib.Core.Path.{◌≡◌, refl, ◌∙◌}
use denote.Enum.Bare.{sameb}
use Rattle.layout.specs.contracts.Layout.{the_type}
use Rattle.layout.specs.declared.Layout.{Layout}
use Rattle.layout.specs.declared.Layout.TheVariants.{Bands20, Bands34}
use Rattle.ps_memory.specs.Place.{head_image, wide}
use Rattle.ps_memory.proofs.store_head.Goals as goal

wide_is : (l : Layout) → sameb the_type l Bands34 ≡ wide l
wide_is Bands20 = refl
wide_is Bands34 = refl

pub returns : goal.returns
unfolding head_image
returns c =
    c.copy_from_slice.ensures.after
    ∙ rw (c.kept_number-2.ensures, c.kept_number.ensures, c.slots.ensures, c.kept_flag-2.ensures, c.kept_flag.ensures, c.eq.ensures ∙ wide_is c.args.layout)

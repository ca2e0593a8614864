-- What `==` of two layouts answers is the definitions' own word. Assumes nothing.
use mathlib.Core.Path.{◌≡◌}
use mathlib.Core.Bool.{Bool}
use denote.Enum.Bare.{sameb}
use Rattle.layout.specs.contracts.Layout.{the_type}
use Rattle.layout.specs.declared.Layout.{Layout}
use Rattle.layout.specs.declared.Layout.TheVariants.{Bands20, Bands34}
use Rattle.standard.specs.Core.{same_layout}

pub equal_is : (a b : Layout) {r : Bool} → r ≡ sameb the_type a b → r ≡ same_layout a b
unfolding same_layout
equal_is Bands20 Bands20 e = e
equal_is Bands20 Bands34 e = e
equal_is Bands34 Bands20 e = e
equal_is Bands34 Bands34 e = e

-- `layout::Layout::kind` meets its contract: each arm is the case that its range picks. Assumes nothing.
use borrow.Author.Rules.{rules}
use mathlib.Core.Path.{sym}
use Rattle.layout.specs.declared.Layout.TheVariants.{Bands20, Bands34}
use Rattle.layout.proofs.Ranges.{is_all_pass, is_long, is_short}
use Rattle.layout.proofs.Layout.kind.Goals as goal

pub returns-in-0-to-29 : goal.returns-in-0-to-29
returns-in-0-to-29 c = rw c.in-Bands20.is (sym (is_all_pass Bands20 _ c.in-0-to-29.if-k-lt30-own.true))

pub returns-in-30-to-41 : goal.returns-in-30-to-41
returns-in-30-to-41 c = rw c.in-Bands20.is (sym (is_long Bands20 _ c.in-30-to-41.if-k-lt30-own.false c.in-30-to-41.if-k-lt42-own.true))

pub returns-in_default : goal.returns-in_default
returns-in_default c = rw c.in-Bands20.is (sym (is_short Bands20 _ c.in_default.if-k-lt30-own.false c.in_default.if-k-lt42-own.false))

pub returns-in-0-to-49 : goal.returns-in-0-to-49
returns-in-0-to-49 c = rw c.in-Bands34.is (sym (is_all_pass Bands34 _ c.in-0-to-49.if-k-lt50-own.true))

pub returns-in-50-to-61 : goal.returns-in-50-to-61
returns-in-50-to-61 c = rw c.in-Bands34.is (sym (is_long Bands34 _ c.in-50-to-61.if-k-lt50-own.false c.in-50-to-61.if-k-lt62-own.true))

pub returns-in_default-k : goal.returns-in_default-k
returns-in_default-k c = rw c.in-Bands34.is (sym (is_short Bands34 _ c.in_default-k.if-k-lt50-own.false c.in_default-k.if-k-lt62-own.false))

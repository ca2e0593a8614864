-- `cue::read` meets its contract: its tests pick the case of `read_line`. Assumes nothing.
use borrow.Author.Tests.{le-ltb, ne_eqb}
use mathlib.Core.Path.{◌≡◌, sym, ◌∙◌}
use mathlib.Core.Bool.{Bool}
use mathlib.Core.List.{List}
use Prim.Native.Nat.{ℕ}
use lib.Dec.{ltb}
use lib.ListN.{length}
use Rattle.lists.specs.First.{before}
use Rattle.cue.specs.Digits.{is_digit}
use Rattle.cue.specs.Line.{read_line}
use Rattle.cue.proofs.Characters.{others}
use Rattle.cue.proofs.read.Goals as goal

-- what the search for another character tells
told : (text : List ℕ) {r s b : Bool} → r ≡ s → s ≡ ltb (before is_digit text) (length text) → r ≡ b → ltb (before is_digit text) (length text) ≡ b
told text e f g = sym f ∙ sym e ∙ g

pub returns-then-is_some : goal.returns-then-is_some
unfolding read_line
returns-then-is_some c =
    let there = told c.args.text.now c.is_some.ensures (rw c.first_other.ensures (others c.args.text.now)) c.if-is_some.true in
    rw (le-ltb _ _ c.if-digits-gt-DIGITS.false, there)

pub returns-then-is_ragged : goal.returns-then-is_ragged
unfolding read_line
returns-then-is_ragged c =
    let none = told c.args.text.now c.is_some.ensures (rw c.first_other.ensures (others c.args.text.now)) c.if-is_some.false in
    rw (le-ltb _ _ c.if-digits-gt-DIGITS.false, none, sym c.is_ragged.ensures ∙ c.if-is_ragged.true)

pub returns : goal.returns
unfolding read_line
returns c =
    let none = told c.args.text.now c.is_some.ensures (rw c.first_other.ensures (others c.args.text.now)) c.if-is_some.false in
    c.read_bytes.ensures
    ∙ rw (c.bytes.ensures, le-ltb _ _ c.if-digits-gt-DIGITS.false, none, sym c.is_ragged.ensures ∙ c.if-is_ragged.false, ne_eqb _ _ c.if-digits-eq0.false)

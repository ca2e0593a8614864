-- `cue::digits::digit` meets its contract: each arm is the case of `digit_in` that its tests pick. Assumes nothing.
use native.Mathlib.Omega.{arith}
use Rattle.cue.proofs.Characters.{inside, below, above}
use Rattle.cue.proofs.digits.digit.Goals as goal

pub returns-in-48-to-57-clause-is : goal.returns-in-48-to-57-clause-is
returns-in-48-to-57-clause-is c = rw (inside 48 57 c.args.c (omega arith) (omega arith))

pub returns-in-97-to-102-clause-is : goal.returns-in-97-to-102-clause-is
returns-in-97-to-102-clause-is c = rw (above 48 57 c.args.c (omega arith), inside 97 102 c.args.c (omega arith) (omega arith))

pub returns-in_default-clause-is : goal.returns-in_default-clause-is
returns-in_default-clause-is c = rw (below 48 57 c.args.c (omega arith), below 97 102 c.args.c (omega arith))

pub returns-in_default-2-clause-is : goal.returns-in_default-2-clause-is
returns-in_default-2-clause-is c = rw (above 48 57 c.args.c (omega arith), below 97 102 c.args.c (omega arith))

pub returns-in_default-3-clause-is : goal.returns-in_default-3-clause-is
returns-in_default-3-clause-is c = rw (above 48 57 c.args.c (omega arith), above 97 102 c.args.c (omega arith))

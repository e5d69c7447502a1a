-- `characters::class_of` meets its contract.
use Rattle.characters.proofs.Laws.{letter_is, ascii_class}
use native.Mathlib.Omega.{arith}
use Rattle.characters.proofs.class_of.Goals as goal

pub returns-then-b-lt128 : goal.returns-then-b-lt128
returns-then-b-lt128 c = ascii_class _ c.if-b-lt128.true

pub overflow_sub-result : goal.overflow_sub-result
overflow_sub-result c = rw c.requires (letter_is c.args.b c.if-b-lt128.false (omega arith)).low

pub overflow_cast-result : goal.overflow_cast-result
overflow_cast-result c = rw c.requires (let l = letter_is c.args.b c.if-b-lt128.false (omega arith) in omega (arith, l.small))

pub returns : goal.returns
returns c = rw c.requires (let l = letter_is c.args.b c.if-b-lt128.false (omega arith) in (l.is, l.small))

-- One arm for each lawful type. Assumes nothing.
use borrow.Author.Rules.{rules}
use native.Mathlib.Omega.{arith}
use Rattle.std.proofs.lemmas.Grind.{common_steps}
use Rattle.entries.specs.Types.{element_size}
use Rattle.entries.proofs.types.element_size.Goals as goal

pub returns-in-1 : goal.returns-in-1
unfolding element_size
returns-in-1 c = rw c.in-1.is

pub returns-in-2 : goal.returns-in-2
unfolding element_size
returns-in-2 c = rw c.in-2.is

pub returns-in-3 : goal.returns-in-3
unfolding element_size
returns-in-3 c = rw c.in-3.is

pub returns-in-4 : goal.returns-in-4
unfolding element_size
returns-in-4 c = rw c.in-4.is

pub returns-in-6 : goal.returns-in-6
unfolding element_size
returns-in-6 c = rw c.in-6.is

pub returns-in-7 : goal.returns-in-7
unfolding element_size
returns-in-7 c = rw c.in-7.is

pub returns-in-8 : goal.returns-in-8
unfolding element_size
returns-in-8 c = rw c.in-8.is

pub returns-in-9 : goal.returns-in-9
unfolding element_size
returns-in-9 c = rw c.in-9.is

pub returns-in_default : goal.returns-in_default
unfolding element_size
returns-in_default c = first_of (search rules, grind (arith, common_steps))

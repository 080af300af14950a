-- The proof computes the text of each refusal.
use Rattle.std.proofs.Common.{refl}
use Rattle.std.specs.Fmt.{digits}
use Rattle.ic_program.proofs.short_answer.refused.Goals as goal

pub returns-in-NoSuchField-clause-line : goal.returns-in-NoSuchField-clause-line
unfolding digits
returns-in-NoSuchField-clause-line c = rw c.in-NoSuchField.is refl

pub returns-in-NoSuchCollection-clause-line : goal.returns-in-NoSuchCollection-clause-line
unfolding digits
returns-in-NoSuchCollection-clause-line c = rw c.in-NoSuchCollection.is refl

pub returns-in-NoSuchObject-clause-line : goal.returns-in-NoSuchObject-clause-line
unfolding digits
returns-in-NoSuchObject-clause-line c = rw c.in-NoSuchObject.is refl

pub returns-in-WrongKind-clause-line : goal.returns-in-WrongKind-clause-line
unfolding digits
returns-in-WrongKind-clause-line c = rw c.in-WrongKind.is refl

pub returns-in-SameCollection-clause-line : goal.returns-in-SameCollection-clause-line
unfolding digits
returns-in-SameCollection-clause-line c = rw c.in-SameCollection.is refl

pub returns-in-OtherField-clause-line : goal.returns-in-OtherField-clause-line
unfolding digits
returns-in-OtherField-clause-line c = rw c.in-OtherField.is refl

pub returns-in-NothingThere-clause-line : goal.returns-in-NothingThere-clause-line
unfolding digits
returns-in-NothingThere-clause-line c = rw c.in-NothingThere.is refl

pub returns-in-NotAMember-clause-line : goal.returns-in-NotAMember-clause-line
unfolding digits
returns-in-NotAMember-clause-line c = rw c.in-NotAMember.is refl

pub returns-in-NotANeighbour-clause-line : goal.returns-in-NotANeighbour-clause-line
unfolding digits
returns-in-NotANeighbour-clause-line c = rw c.in-NotANeighbour.is refl

pub returns-in-AlreadyLinked-clause-line : goal.returns-in-AlreadyLinked-clause-line
unfolding digits
returns-in-AlreadyLinked-clause-line c = rw c.in-AlreadyLinked.is refl

pub returns-in-IsMember-clause-line : goal.returns-in-IsMember-clause-line
unfolding digits
returns-in-IsMember-clause-line c = rw c.in-IsMember.is refl

pub returns-in-StillLinked-clause-line : goal.returns-in-StillLinked-clause-line
unfolding digits
returns-in-StillLinked-clause-line c = rw c.in-StillLinked.is refl

pub returns-in-TooManyObjects-clause-line : goal.returns-in-TooManyObjects-clause-line
unfolding digits
returns-in-TooManyObjects-clause-line c = rw c.in-TooManyObjects.is refl

pub returns-in-OutOfMemory-clause-line : goal.returns-in-OutOfMemory-clause-line
unfolding digits
returns-in-OutOfMemory-clause-line c = rw c.in-OutOfMemory.is refl

use Rattle.ic_world.proofs.world.World.answer_on.Goals as goal

pub returns-in-Put : goal.returns-in-Put
returns-in-Put g c = rw (c.in-Put.is, c.done.ensures) c.call.ensures

pub returns-in-Seek : goal.returns-in-Seek
returns-in-Seek g c = rw (c.in-Seek.is, c.done-in-Seek.ensures) c.call-in-Seek.ensures

pub returns-in-BulkEdit : goal.returns-in-BulkEdit
returns-in-BulkEdit g c = rw (c.in-BulkEdit.is, c.done-in-BulkEdit.ensures) c.call-in-BulkEdit.ensures

pub returns-in-Take : goal.returns-in-Take
returns-in-Take g c = rw (c.in-Take.is, c.object.ensures) c.call-in-Take.ensures

pub returns-in-Move : goal.returns-in-Move
returns-in-Move g c = rw (c.in-Move.is, c.object-in-Move.ensures) c.call-in-Move.ensures

pub returns-in-Ok : goal.returns-in-Ok
returns-in-Ok g c = rw c.in-Swap.is c.in-Ok.ensures

pub returns-in-Ok-call : goal.returns-in-Ok-call
returns-in-Ok-call g c = rw c.in-Search.is c.in-Ok-call.ensures

pub returns-in-Ok-call-2 : goal.returns-in-Ok-call-2
returns-in-Ok-call-2 g c = rw c.in-Insertion.is c.in-Ok-call-2.ensures

pub returns-in-Ok-Some : goal.returns-in-Ok-Some
returns-in-Ok-Some g c = rw c.in-Enter.is (rw c.in-Ok-Some.field-0-is at c.in-Ok-Some.ensures)

pub returns-in-Ok-None : goal.returns-in-Ok-None
returns-in-Ok-None g c = rw c.in-Enter.is (rw c.in-Ok-None.field-0-is at c.in-Ok-None.ensures)

pub returns-in-Err-call-3 : goal.returns-in-Err-call-3
returns-in-Err-call-3 g c = rw c.in-Enter.is c.in-Err-call-3.ensures

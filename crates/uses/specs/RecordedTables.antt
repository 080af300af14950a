-- The parts that contracts see of a table which records its steps.
use Rattle.std.specs.Prelude.{List}
use Rattle.uses.specs.declared.recorded_table.Note.{Note}
use Rattle.uses.specs.declared.recorded_table.RecordedTable.{RecordedTable}

module _ {L R : Type 0} where
  -- the inner table, whose link steps the recorded table notes
  abbrev pub links_of : RecordedTable L R → L
  links_of t = t.links

  -- the notes that the recorder of the table has stored so far
  abbrev pub notes_of : (R → List Note) → RecordedTable L R → List Note
  notes_of notes t = notes t.recorder

use Rattle.ic_hash_table.proofs.table.HashTable.retain.Goals as goal

pub returns-clause-asked : goal.returns-clause-asked
returns-clause-asked g c s held =
    let a = c.retain_by.ensures.asked s held in (a.0, c.retain_by.new.keeps, a.1, a.2, a.3)

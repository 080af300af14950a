-- The facts that a phone book maintains for its pool and its trees.
use Rattle.std.specs.Prelude.{Option}
use Rattle.ic_link_ops.specs.Prelude.{Place, Objects}
use Rattle.ic_rbtree.specs.PlainTrees.{TreeLinkOps}
use Rattle.ic_container.specs.Trees.{HasAll, IsUnique}
use Rattle.phone_book.specs.declared.entry.Entry.{Entry}
use Rattle.phone_book.specs.Book.{number_of, person_of}

-- each tree has all entries, and no two entries have the same number
pub record IsKept {A : Type 0} (entries : Objects Entry) (numbers : TreeLinkOps A) (by_number : Option Place) (persons : TreeLinkOps A) (by_person : Option Place) : Type 0 where
  pub numbered : HasAll number_of numbers by_number entries
  pub of_persons : HasAll person_of persons by_person entries
  pub unique : IsUnique number_of entries

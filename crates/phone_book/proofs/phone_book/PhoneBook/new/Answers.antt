use Rattle.ic_rbtree.specs.Tree.{root_of}
use Rattle.ic_container.proofs.TreeLemmas.{all_first, unique_first}
use Rattle.phone_book.specs.Book.{number_of, person_of}
use Rattle.phone_book.proofs.phone_book.PhoneBook.new.Goals as goal

pub invariant_of-result : goal.invariant_of-result
invariant_of-result g c =
    let e = c.new-3.ensures in
    record {
      numbered = all_first number_of c.new-3.result.objects c.new-3.result.links.0 (root_of c.new-4.result) (rw e.links c.new.ensures) c.new-4.ensures.empty e.vacant;
      of_persons = all_first person_of c.new-3.result.objects c.new-3.result.links.1 (root_of c.new-5.result) (rw e.links c.new-2.ensures) c.new-5.ensures.empty e.vacant;
      unique = unique_first number_of c.new-3.result.objects e.vacant;
    }

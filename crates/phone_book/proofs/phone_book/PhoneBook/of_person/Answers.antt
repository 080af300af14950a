use Rattle.phone_book.proofs.phone_book.PhoneBook.of_person.Goals as goal

pub get-requires : goal.get-requires
get-requires g c = record { all = c.self.invariant.of_persons }

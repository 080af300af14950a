use Rattle.phone_book.proofs.phone_book.PhoneBook.with_number.Goals as goal

pub get-requires : goal.get-requires
get-requires g c = record { all = c.self.invariant.numbered }

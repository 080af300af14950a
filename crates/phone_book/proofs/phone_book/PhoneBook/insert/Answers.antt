use Rattle.std.proofs.Common.{None, refl, sym, subst, ◌∙◌}
use Rattle.ic_unsafe_ref.specs.Objects.{Objects}
use Rattle.ic_container.specs.Trees.{IsFoundObject}
use Rattle.ic_container.specs.TreeLaws.{all_grown}
use Rattle.ic_container.proofs.TreeLemmas.{all_lacks, found_none, found_some, unique_new}
use Rattle.ic_pool.proofs.Pooling.{lacks_exactly}
use Rattle.phone_book.specs.declared.entry.Entry.{Entry}
use Rattle.phone_book.specs.Book.{number_of, person_of}
use Rattle.phone_book.proofs.phone_book.PhoneBook.insert.Goals as goal

-- The following proof is for the case that another entry has the number
pub returns-then-is_some-clause-refused : goal.returns-then-is_some-clause-refused
returns-then-is_some-clause-refused g c =
    let other = found_some number_of c.args.self.now c.args.entry.number c.with_number.result (sym c.is_some.ensures ∙ c.if-is_some.true) c.with_number.ensures in ((refl, other.0, other.1), refl)

-- The following proofs are for the case that there is no place or no memory for the entry
pub invariant_of-self : goal.invariant_of-self
invariant_of-self g c =
    let k = c.self.invariant in
    let e = c.in-Err.ensures in
    rw e.refused.1 (record {
      numbered = all_grown number_of _ k.numbered c.place.new.self.links.0 e.keeps.0;
      of_persons = all_grown person_of _ k.of_persons c.place.new.self.links.1 e.keeps.1;
      unique = k.unique;
    })

pub returns-in-Err-clause-refused : goal.returns-in-Err-clause-refused
returns-in-Err-clause-refused g c =
    let e = c.in-Err.ensures in
    let fresh = found_none number_of c.args.self.now c.args.entry.number c.with_number.result (sym c.is_some.ensures ∙ c.if-is_some.false) c.with_number.ensures in
    ((e.refused.0, fresh, rw (← c.self.view_is) (lacks_exactly c.in-Err.refused _ e.full e.refused.0)), rw (← c.self.view_is) e.refused.1)

-- The following proofs are for the case that the entry is placed. It is then the only entry that is not in the two trees yet
pub insert-requires-clause-lacks : goal.insert-requires-clause-lacks
insert-requires-clause-lacks g c = let e = c.in-Ok.ensures in rw c.place-2.ensures (all_lacks number_of _ c.self.invariant.numbered c.place.new.self.links.0 e.keeps.0 e.placed)

pub insert-requires-2-clause-lacks : goal.insert-requires-2-clause-lacks
insert-requires-2-clause-lacks g c = let e = c.in-Ok.ensures in rw c.place-3.ensures (all_lacks person_of _ c.self.invariant.of_persons c.place.new.self.links.1 e.keeps.1 e.placed)

pub invariant_of-self-2 : goal.invariant_of-self-2
invariant_of-self-2 g c =
    let fresh = found_none number_of c.args.self.now c.args.entry.number c.with_number.result (sym c.is_some.ensures ∙ c.if-is_some.false) c.with_number.ensures in
    let none = subst (λ (entries : Objects Entry). IsFoundObject number_of entries c.args.entry.number None) (sym c.self.view_is) fresh in
    record {
      numbered = c.insert.ensures.all;
      of_persons = c.insert-2.ensures.all;
      unique = unique_new number_of c.self.inside.pool.objects c.self.invariant.unique c.in-Ok.ensures.placed none;
    }

pub returns-clause-added : goal.returns-clause-added
returns-clause-added g c =
    let fresh = found_none number_of c.args.self.now c.args.entry.number c.with_number.result (sym c.is_some.ensures ∙ c.if-is_some.false) c.with_number.ensures in
    record { placed = rw (← c.self.view_is) c.in-Ok.ensures.placed; fresh = fresh }

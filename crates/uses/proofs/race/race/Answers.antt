use Rattle.std.proofs.Common.{◌≡◌, [], List, map, ap, ◌∙◌, arith}
use Rattle.std.proofs.lemmas.List.{nil_from_length}
use Rattle.ic_atomic.specs.declared.claims.Holder.{Holder}
use Rattle.ic_atomic.specs.Holders.{record_of}
use Rattle.uses.proofs.RaceLemmas.{told_to_one, held_as_told}
use Rattle.uses.proofs.race.race.Goals as goal

pub returns : goal.returns
returns g c =
    let a : Holder = c.take_last-first.result in
    let left : List Holder = c.take_last-first.new.self.items in
    let none : left ≡ [] = nil_from_length left (omega (arith, c.take_last-first.ensures.len, c.take_last-second.ensures.len, c.requires.two.0)) in
    let free = rw (c.take_last-second.ensures.items, c.take_last-first.ensures.items, none) at c.requires.free in
    let one = c.join-first.ensures.first in
    let two = c.join-first.ensures.second in
    let same = c.audit.ensures.same ∙ ap (map record_of) (rw (c.push_reserved.ensures.items, none) at c.push_reserved-2.ensures.items) in
    record {
      just_one = told_to_one one two (free 0 a (omega arith)) (free 1 a (omega arith)) c.audit.new.holders.items same c.requires.two.1 (λ e. c.audit.ensures.whole (omega (arith, e)));
      made = c.audit.ensures.made;
      held = held_as_told one two (free 0 a (omega arith)) (free 1 a (omega arith)) c.audit.new.holders.items same;
    }

use Rattle.std.proofs.Common.{refl, rules}
use Rattle.ic_raw.specs.Words.{no_word}
use Rattle.ic_raw.proofs.Lists.{kept}
use Rattle.ic_raw.proofs.Touches.{touched_back}
use Rattle.ic_raw.proofs.Views.{free_viewed, inserted_back, viewed}
use Rattle.ic_raw.proofs.xor_calls.put.Goals as goal

pub returns-clause-free : goal.returns-clause-free
returns-clause-free c made =
    let free = c.insert.ensures.free c.if-not-insert.false in
    (free.0, free.1, rw (← c.new-links.ensures.1) (record { covered = free.2.covered; unlinked = free.2.unlinked }))

pub returns-clause-touched : goal.returns-clause-touched
returns-clause-touched c p is made =
    touched_back no_word c.new-links.result c.insert.new.links c.new-links.ensures.1 (search rules) refl (c.insert.ensures.touched p is c.if-not-insert.false)

pub returns-clause-inserted : goal.returns-clause-inserted
returns-clause-inserted c cut p after following is shown free =
    let view = c.new-links.ensures.1 in
    let seen = viewed no_word kept c.new-links.result view shown in
    let put = c.insert.ensures.inserted cut p (rw c.list_of-edited.ensures seen) after following is (free_viewed no_word c.new-links.result view free) in
    (refl, λ there off. record { accepted = refl; done = inserted_back no_word kept c.new-links.result c.insert.new.links view (search rules) (search rules) put.1 })

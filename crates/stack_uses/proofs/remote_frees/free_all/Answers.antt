use Rattle.std.proofs.Common.{List, ◌∷◌, reverse, sym, ◌∙◌}
use Rattle.ic_unsafe_ref.specs.declared.place.Place.{Place}
use Rattle.stack_uses.proofs.ReceiverLemmas.{last_turned, after_stays}
use Rattle.stack_uses.proofs.remote_frees.free_all.Goals as goal

pub push_all-requires-clause-shown : goal.push_all-requires-clause-shown
push_all-requires-clause-shown g c =
    let s : List Place = c.requires.shown.0 in
    let has = c.requires.shown.1 in
    (reverse s, c.reversed-turned.ensures.reversed s has, last_turned s c.in-Some.last (sym has.starts ∙ sym c.in-Some.ensures))

pub returns-in-Some-clause-freed : goal.returns-in-Some-clause-freed
returns-in-Some-clause-freed g c p s has =
    after_stays c.args.user.now c.reversed-turned.new.holder c.push_all.new.holder _ c.reversed-turned.ensures.stays (c.push_all.ensures.step (reverse (p ∷ s)) (c.reversed-turned.ensures.reversed (p ∷ s) has))

use Rattle.std.proofs.Common.{ℕ, sym, ap, ◌∙◌}
use Rattle.ic_indexed.specs.Indexed.{values_of}
use Rattle.ic_keyed.specs.Keyed.{value_with}
use Rattle.ic_keyed.proofs.KeyLemmas.{none_there}
use Rattle.ic_keyed.proofs.keyed.Keyed.insert.Goals as goal

pub insert_new-requires : goal.insert_new-requires
insert_new-requires g c =
    let none = none_there c.self.inside.store.values c.place_of.result c.place_of.ensures.found (sym c.is_some.ensures ∙ c.if-is_some.false) in
    record { new = rw (← c.self.view_is) (ap (λ (n : ℕ). value_with g.T.HasKey.key_of n (values_of c.self.inside.store)) (sym c.key.ensures) ∙ none) }

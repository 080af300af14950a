use Rattle.std.proofs.Common.{◌≡◌, true, false, sym, ◌∙◌, rules}
use Rattle.ic_link_ops.specs.DoublyEntries.{is_linked, plain_table}
use Rattle.ic_link_ops.specs.Tables.{IsUnlinked}
use Rattle.collections_tests.proofs.laws.write_apart.Goals as goal

pub fields_are_apart-are_in-requires-clause-first_accepts : goal.fields_are_apart-are_in-requires-clause-first_accepts
fields_are_apart-are_in-requires-clause-first_accepts g c links refused =
    let free : IsUnlinked is_linked (plain_table c.args.first.now.links) c.place_at-place.result = search rules in
    let never : false ≡ true = sym free ∙ refused.0 in absurd (cc)

pub fields_are_apart-are_in-requires-clause-second_accepts : goal.fields_are_apart-are_in-requires-clause-second_accepts
fields_are_apart-are_in-requires-clause-second_accepts g c links refused =
    let free : IsUnlinked is_linked (plain_table c.args.second.now.links) c.place_at-place.result = search rules in
    let never : false ≡ true = sym free ∙ refused.0 in absurd (cc)

use Rattle.std.proofs.Common.{◌∙◌, map, sym, subst, arith, ◌↔◌, IsTrue}
use Rattle.std.proofs.lemmas.List.{length-map}
use Rattle.ic_any_collection.specs.AnyTables.{table_in}
use Rattle.ic_world.specs.ByNumber.{items_of, EachHeld, SomeHas}
use Rattle.ic_world.proofs.Live.{each_held, has_member, has_none, field_list}
use Rattle.ic_world.proofs.collections_by_number.CollectionsByNumber.any_contains.Goals as goal

pub returns-then-field-len : goal.returns-then-field-len
returns-then-field-len g c =
    let lists = c.self.inside.live in
    let past = has_none (map items_of lists.items) c.self.inside.numbers.items c.self.invariant c.self.view_is c.args.field (table_in c.args.links.now) c.args.object
    (omega (arith, c.if-field-len.true, c.len.ensures, lists.ok.0, length-map lists.items (items_of {V = g.row.T.Denot} {M = g.row.M.Denot}))) in
    ((λ never. absurd (let no = never in cc)), (λ has. absurd (past has)))

pub contains_in-requires-clause-held : goal.contains_in-requires-clause-held
contains_in-requires-clause-held g c =
    let lists = c.self.inside.live in
    let t = table_in c.args.links.now in
    let all = each_held (map items_of lists.items) c.self.inside.numbers.items c.self.invariant c.self.view_is c.args.field t c.requires.held in
    subst (EachHeld t) (field_list lists.items c.args.field c.index.result.now (omega (arith, c.if-field-len.false, c.len.ensures, lists.ok.0)) c.index.ensures ∙ sym c.deref.ensures.value) all

pub returns : goal.returns
returns g c =
    let lists = c.self.inside.live in
    let t = table_in c.args.links.now in
    has_member (map items_of lists.items) c.self.inside.numbers.items c.self.invariant c.self.view_is c.args.field t c.args.object c.contains_in.result
    (subst (λ xs. IsTrue c.contains_in.result ↔ SomeHas t c.args.object xs) (sym (field_list lists.items c.args.field c.index.result.now (omega (arith, c.if-field-len.false, c.len.ensures, lists.ok.0)) c.index.ensures ∙ sym c.deref.ensures.value)) c.contains_in.ensures)

use Rattle.std.proofs.Common.{◌∙◌, Some, map, ap, sym, arith, refl}
use Rattle.std.specs.Vec.{with_item}
use Rattle.ic_world.specs.Prelude.{its_members, items_of}
use Rattle.ic_world.specs.declared.collections_by_number.Numbered.{Numbered}
use Rattle.ic_world.proofs.ByNumber.{reads, field_there, index_there, one_is, one_represented, lent_numbered, lent_represented}
use Rattle.ic_world.proofs.collections_by_number.CollectionsByNumber.members_mut.Goals as goal

pub index_mut-list-requires : goal.index_mut-list-requires
index_mut-list-requires g c =
    let lists = c.self.inside.live in
    let ns = c.self.inside.numbers.items in
    let s = c.index-slot.result.now in
    let r = reads (map items_of lists.items) ns c.args.number s c.self.view_is c.requires c.index-slot.ensures in
    let low = field_there lists.items ns c.args.number s r in
    omega (arith, low, lists.ok.0)

pub index_mut-found-requires : goal.index_mut-found-requires
index_mut-found-requires g c =
    let lists = c.self.inside.live.items in
    let ns = c.self.inside.numbers.items in
    let s = c.index-slot.result.now in
    let r = reads (map items_of lists) ns c.args.number s c.self.view_is c.requires c.index-slot.ensures in
    let low = index_there lists ns c.args.number s r c.index_mut-list.result.now c.index_mut-list.ensures.value in
    omega (arith, low, c.index_mut-list.result.now.ok.0)

pub invariant_of-self-lent : goal.invariant_of-self-lent
invariant_of-self-lent g c = λ w.
    let lists = c.self.inside.live.items in
    let ns = c.self.inside.numbers.items in
    let s = c.index-slot.result.now in
    let r = reads (map items_of lists) ns c.args.number s c.self.view_is c.requires c.index-slot.ensures in
    let x = c.index_mut-found.result.now in
    lent_numbered lists ns c.args.number s r c.index_mut-list.result.now c.index_mut-list.ensures.value x c.index_mut-found.ensures.value w
    (with_item c.index_mut-list.result.now s.index (record { number = x.number; members = w })) refl c.self.invariant

pub returns : goal.returns
returns g c =
    let lists = c.self.inside.live.items in
    let ns = c.self.inside.numbers.items in
    let s = c.index-slot.result.now in
    let r = reads (map items_of lists) ns c.args.number s c.self.view_is c.requires c.index-slot.ensures in
    let list = c.index_mut-list.result.now in
    let read = c.index_mut-list.ensures.value in
    let x = c.index_mut-found.result.now in
    let at_index = c.index_mut-found.ensures.value in (
      (refl, λ w. lent_represented lists ns c.args.number s r list read x at_index w (with_item list s.index (record { number = x.number; members = w })) refl c.self.invariant c.self.view_is),
      record {
        writes_back = tt;
        value = ap (λ (y : Numbered _). Some y.members) (one_is lists ns c.args.number s r list read x at_index) ∙ sym (ap its_members (one_represented (map items_of lists) ns c.args.number s c.self.view_is r));
      },
    )

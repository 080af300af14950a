use Rattle.std.proofs.Common.{◌∙◌, Some, map, ap, sym, arith}
use Rattle.ic_world.specs.Prelude.{its_members, items_of}
use Rattle.ic_world.specs.declared.collections_by_number.Numbered.{Numbered}
use Rattle.ic_world.proofs.ByNumber.{reads, index_there, one_is, one_represented}
use Rattle.ic_world.proofs.collections_by_number.CollectionsByNumber.members.Goals as goal

pub index-requires-2 : goal.index-requires-2
index-requires-2 g c =
    let lists = c.self.inside.live.items in
    let ns = c.self.inside.numbers.items in
    let s = c.index-slot.result.now in
    let r = reads (map items_of lists) ns c.args.number s c.self.view_is c.requires c.index-slot.ensures in
    let low = index_there lists ns c.args.number s r c.index.result.now c.index.ensures in
    omega (arith, low, c.index.result.now.ok.0)

pub returns : goal.returns
returns g c =
    let lists = c.self.inside.live.items in
    let ns = c.self.inside.numbers.items in
    let s = c.index-slot.result.now in
    let r = reads (map items_of lists) ns c.args.number s c.self.view_is c.requires c.index-slot.ensures in
    ap (λ (x : Numbered _). Some x.members) (one_is lists ns c.args.number s r c.index.result.now c.index.ensures c.index-2.result.now c.index-2.ensures)
    ∙ sym (ap its_members (one_represented (map items_of lists) ns c.args.number s c.self.view_is r))

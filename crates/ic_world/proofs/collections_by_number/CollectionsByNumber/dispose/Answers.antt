use Rattle.std.proofs.Common.{◌∙◌, arith, refl}
use Rattle.std.proofs.lemmas.Option.{slice_get_read}
use Rattle.ic_world.proofs.ByNumber.{reads_live, index_there, field_there}
use Rattle.ic_world.proofs.TakenOut.{gone_already, number_there, taken_numbered, taken_represented}
use Rattle.ic_world.proofs.collections_by_number.CollectionsByNumber.dispose.Goals as goal

pub returns-then-slot : goal.returns-then-slot
returns-then-slot g c =
    let ns = c.self.inside.numbers in
    gone_already c.self.invariant c.args.number c.index-slot.result.now (slice_get_read ns.items c.len.result c.args.number c.index-slot.result.now (c.len.ensures ∙ ns.ok.0) c.if-number-len.false c.index-slot.ensures) c.if-slot.true c.self.view_is

pub index_mut-requires : goal.index_mut-requires
index_mut-requires g c =
    let lists = c.self.inside.live in
    let ns = c.self.inside.numbers in
    let s = c.index-slot.result.now in
    let r = reads_live c.self.invariant c.args.number s (slice_get_read ns.items c.len.result c.args.number s (c.len.ensures ∙ ns.ok.0) c.if-number-len.false c.index-slot.ensures) c.if-slot.false in
    let low = field_there lists.items ns.items c.args.number s r in
    omega (arith, low, lists.ok.0)

pub take_out-moved-requires : goal.take_out-moved-requires
take_out-moved-requires g c =
    let lists = c.self.inside.live in
    let ns = c.self.inside.numbers in
    let s = c.index-slot.result.now in
    let r = reads_live c.self.invariant c.args.number s (slice_get_read ns.items c.len.result c.args.number s (c.len.ensures ∙ ns.ok.0) c.if-number-len.false c.index-slot.ensures) c.if-slot.false in
    let low = index_there lists.items ns.items c.args.number s r c.index_mut.result.now c.index_mut.ensures.value in
    omega (arith, low, c.index_mut.result.now.ok.0)

pub index_mut-requires-2 : goal.index_mut-requires-2
index_mut-requires-2 g c =
    let lists = c.self.inside.live in
    let ns = c.self.inside.numbers in
    let s = c.index-slot.result.now in
    let r = reads_live c.self.invariant c.args.number s (slice_get_read ns.items c.len.result c.args.number s (c.len.ensures ∙ ns.ok.0) c.if-number-len.false c.index-slot.ensures) c.if-slot.false in
    let low = number_there lists.items ns.items c.args.number s c.self.invariant r c.index_mut.result.now c.index_mut.ensures.value c.take_out-moved.result c.take_out-moved.new.list c.take_out-moved.ensures in
    omega (arith, low, ns.ok.0)

pub invariant_of-self : goal.invariant_of-self
invariant_of-self g c =
    let lists = c.self.inside.live in
    let ns = c.self.inside.numbers in
    let s = c.index-slot.result.now in
    let r = reads_live c.self.invariant c.args.number s (slice_get_read ns.items c.len.result c.args.number s (c.len.ensures ∙ ns.ok.0) c.if-number-len.false c.index-slot.ensures) c.if-slot.false in
    taken_numbered lists.items ns.items c.args.number s c.self.invariant r c.index_mut.result.now c.index_mut.ensures.value c.take_out-moved.result c.take_out-moved.new.list c.take_out-moved.ensures _ refl

pub returns : goal.returns
returns g c =
    let lists = c.self.inside.live in
    let ns = c.self.inside.numbers in
    let s = c.index-slot.result.now in
    let r = reads_live c.self.invariant c.args.number s (slice_get_read ns.items c.len.result c.args.number s (c.len.ensures ∙ ns.ok.0) c.if-number-len.false c.index-slot.ensures) c.if-slot.false in
    taken_represented lists.items ns.items c.args.number s c.self.invariant r c.index_mut.result.now c.index_mut.ensures.value c.take_out-moved.result c.take_out-moved.new.list c.take_out-moved.ensures _ refl c.self.view_is

use Rattle.std.proofs.Common.{◌≡◌, ◌≤◌, ◌<◌, ◌∙◌, [], true, sym, arith, rules, subst}
use Rattle.ic_link_ops.specs.Prelude.{index_of, Extent}
use Rattle.ic_unsafe_ref.proofs.PlaceLemmas.{same_index}
use Rattle.ic_augmented.specs.Counts.{counts}
use Rattle.collections_tests.proofs.Ready.{on_ok}
use Rattle.collections_tests.proofs.TwoTrees.{nothing_there, nothing_right, alone, beside_stays, leaving_stays, named_so, filled_none, absent_above}
use Rattle.collections_tests.proofs.tree.two_trees.play.Goals as goal
use Rattle.collections_tests.proofs.tree.two_trees.play.Goals.{then-leaves, else-leaves}

pub fill-requires : goal.fill-requires
fill-requires g c = record { few = c.requires.few; none = filled_none c.new-first.ensures.empty c.requires.covers c.requires.room c.requires.stale }

pub insert_fresh-beside-requires : goal.insert_fresh-beside-requires
insert_fresh-beside-requires g c =
    let f = c.fill.ensures.filled in
    record {
      covered = rw f.covers (omega (arith, c.reference-object.ensures, c.requires.few));
      shown = ([], nothing_there _ c.new-second.ensures.empty);
      room = f.room;
    }

pub remove_fresh-requires : goal.remove_fresh-requires
remove_fresh-requires g c =
    let f = c.fill.ensures.filled in
    let e = c.insert_fresh-beside.ensures in
    let is : c.is_ok.result ≡ true = search rules in
    let two = alone (on_ok c.insert_fresh-beside.result (sym c.is_ok.ensures.value ∙ is)
    (e.inserted [] (nothing_right (counts c.fill.new.summed.summaries) (g.L.LinkOps.table c.fill.new.summed.links) c.new-second.ensures.empty))) in
    let same = same_index c.reference-object.result c.reference-leaving.result (c.reference-object.ensures ∙ sym c.reference-leaving.ensures) in
    record {
      member = record { front = []; back = []; shown = named_so same two.shows };
      room = λ q covered. e.beside.covers q (f.room q (subst (λ (x : Extent). index_of q < x.places) e.beside.extent covered));
    }

pub nth-requires : goal.nth-requires
nth-requires g c =
    let f = c.fill.ensures.filled in
    let e = c.insert_fresh-beside.ensures in
    let p = c.reference-object.result in
    let high : c.args.members ≤ index_of p = omega (arith, c.reference-object.ensures) in
    let out = absent_above f p high in
    let one = beside_stays f.shown (f.stale p high) out c.new-second.ensures.empty e.beside.same e.beside.others in
    let is : c.is_ok.result ≡ true = search rules in
    let two = alone (on_ok c.insert_fresh-beside.result (sym c.is_ok.ensures.value ∙ is)
    (e.inserted [] (nothing_right (counts c.fill.new.summed.summaries) (g.L.LinkOps.table c.fill.new.summed.links) c.new-second.ensures.empty))) in
    elim c.if-leaves.branch [
      | then-leaves w ↦ rw w.summed-is (f.members, leaving_stays one two out w.remove_fresh.ensures.beside.same w.remove_fresh.ensures.beside.others)
      | else-leaves w ↦ rw w.summed-is (f.members, one)
    ]

use Rattle.std.proofs.Common.{rules, Result, Ok, Err, OnOk, OnErr, IfErr, List, ◌++◌, ◌∷◌, []}
use Rattle.ic_link_ops.specs.Prelude.{Place, join}
use Rattle.ic_link_ops.proofs.Positions.{stands_null}
use Rattle.ic_rbtree.specs.Prelude.{SameBorrows, PlainRepresentsSome, root_of}
use Rattle.collections_tests.proofs.tree.trees.put.Goals as goal

-- `Goal` holds for each result of an insert if it holds for an accepted insert and for a refused insert
either_way : {A X P Q Goal : Type 0} {U : X → Type 0} (r : Result A X) → OnOk r P → OnErr r Q → IfErr r U → (P → Goal) → ((x : X) → Q → U x → Goal) → Goal
either_way (Ok a) holds refused left accepts refuses = accepts holds
either_way (Err e) holds refused left accepts refuses = refuses e refused left

pub insert_after-requires-clause-stands : goal.insert_after-requires-clause-stands
insert_after-requires-clause-stands c =
    let s = c.requires.shown in
    let e = c.cursor_mut-cursor.ensures in
    stands_null s.0 (rw (e.borrows.2, e.borrows.3) s.1) e.null

pub returns-then-in_front : goal.returns-then-in_front
returns-then-in_front c =
    let k = c.insert_after.ensures.kept in
    let shown : PlainRepresentsSome c.insert_after.new.self.links.now (root_of c.insert_after.new.self.list.now) = (join k.stands.gap, k.stands.shown) in
    let names : SameBorrows c.cursor_mut-cursor.result c.insert_after.new.self = k.borrows in
    record { shown = search rules }

pub returns-else-in_front : goal.returns-else-in_front
returns-else-in_front c =
    let s : List Place = c.requires.shown.0 in
    let e = c.push_back.ensures in
    record {
      shown = either_way c.push_back.result (e.inserted s c.requires.shown.1) e.refused e.unchanged
          (λ put. (s ++ c.reference-else-in_front.result ∷ [], put.shows))
          (λ x refused was. (s, rw (refused.1, was.1) c.requires.shown.1));
    }

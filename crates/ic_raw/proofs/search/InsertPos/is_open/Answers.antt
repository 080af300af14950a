use Rattle.std.proofs.Common.{is_some, sym, ap, ◌∙◌, subst, ltb-true}
use Rattle.ic_unsafe_ref.specs.Places.{index_of}
use Rattle.ic_rbtree.proofs.Closed.{in_there}
use Rattle.ic_raw.specs.Prelude.{has_place, is_linked_three}
use Rattle.ic_raw.specs.Tree.{IsInsertPos, lent_table}
use Rattle.ic_raw.proofs.Gaps.{not_is}
use Rattle.ic_raw.proofs.Trees.{insert_pos_stands, insert_pos_empty}
use Rattle.ic_raw.proofs.search.InsertPos.is_open.Goals as goal

pub at-requires : goal.at-requires
at-requires c =
    let t = lent_table c.args.links.now in
    record { covered = ltb-true (index_of c.in-Some.parent) t.extent.places (in_there (has_place t) c.requires (sym c.get.ensures ∙ c.in-Some.is)) }

pub returns-in-None : goal.returns-in-None
returns-in-None c cut shown at =
    let side = c.args.self.now.side in
    let t = lent_table c.args.links.now in
    let none = c.root.ensures ∙ insert_pos_empty side cut shown (subst (λ o. IsInsertPos side t o cut) (sym c.get.ensures ∙ c.in-None.is) at) in
    not_is c.is_none.result (sym (ap is_some none) ∙ c.is_none.ensures)

pub returns-in-Some : goal.returns-in-Some
returns-in-Some c cut shown at =
    c.is_linked.ensures ∙ (ap is_linked_three c.at.ensures ∙ insert_pos_stands c.args.self.now.side c.args.self.now.parent cut shown at c.in-Some.parent (sym c.get.ensures ∙ c.in-Some.is))

use Rattle.std.proofs.Common.{None, sym, ◌∙◌}
use Rattle.ic_rbtree.proofs.Closed.{in_there, closed_read}
use Rattle.ic_rbtree.proofs.BlackSiblings.{sib_tells, risen}
use Rattle.ic_rbtree.proofs.repair.removal.delete_fixup_on.Goals as goal

pub returns-in_default-clause-restored : goal.returns-in_default-clause-restored
returns-in_default-clause-restored g c x sib k h = absurd (c.in_default.ensures.black_sibling x sib k h)

pub returns-in_default-clause-safe : goal.returns-in_default-clause-safe
returns-in_default-clause-safe g c S h i = ((c.blacken_sibling.ensures.safe S h i).0, tt)

pub has_red_child-requires : goal.has_red_child-requires
has_red_child-requires g c =
    let r = c.requires in
    let k = c.blacken_sibling.ensures.safe r.0 r.1 r.2 in
    closed_read g.N.NodeStore.node k.0 c.in-Some.sibling (in_there r.0 k.1.0 c.in-Some.is)

pub rotate_far_nephew-requires : goal.rotate_far_nephew-requires
rotate_far_nephew-requires g c =
    let r = c.requires in
    let k = c.blacken_sibling.ensures.safe r.0 r.1 r.2 in
    (r.0, k.0, (r.2.0, (in_there r.0 k.1.0 c.in-Some.is, tt)))

pub returns-then-has_red_child-clause-restored : goal.returns-then-has_red_child-clause-restored
returns-then-has_red_child-clause-restored g c x sib k h =
    let n = g.N.NodeStore.node in
    let l = c.in-Some.ensures.black_sibling x sib k h in
    (λ e. c.rotate_far_nephew.ensures.restored l.color l.sibling (record k { frames = l.frames }) l.beside (sym (sib_tells n l.beside) ∙ (sym c.has_red_child.ensures ∙ c.if-has_red_child.true)), λ e. cc)

pub returns-then-has_red_child-clause-safe : goal.returns-then-has_red_child-clause-safe
returns-then-has_red_child-clause-safe g c S h i =
    let k = c.blacken_sibling.ensures.safe S h i in
    c.rotate_far_nephew.ensures.safe S k.0 (i.0, (in_there S k.1.0 c.in-Some.is, tt))

pub redden_sibling-requires-clause-place : goal.redden_sibling-requires-clause-place
redden_sibling-requires-clause-place g c = let r = c.requires in (c.blacken_sibling.ensures.safe r.0 r.1 r.2).0.linked c.args.place r.2.0

pub redden_sibling-requires-clause-sibling : goal.redden_sibling-requires-clause-sibling
redden_sibling-requires-clause-sibling g c =
    let r = c.requires in
    let k = c.blacken_sibling.ensures.safe r.0 r.1 r.2 in
    k.0.linked c.in-Some.sibling (in_there r.0 k.1.0 c.in-Some.is)

pub returns-clause-restored : goal.returns-clause-restored
returns-clause-restored g c x sib k h =
    let n = g.N.NodeStore.node in
    let l = c.in-Some.ensures.black_sibling x sib k h in
    let f = c.redden_sibling.ensures.reddened c.blacken_sibling.new.root c.args.side l.color l.sibling (record k { frames = l.frames }) l.beside (sym (sib_tells n l.beside) ∙ (sym c.has_red_child.ensures ∙ c.if-has_red_child.false)) in
    (f.1, λ e. risen n k _ f.0 e l.red_or_same (f.2 e))

pub returns-clause-safe : goal.returns-clause-safe
returns-clause-safe g c S h i = (c.redden_sibling.ensures.safe c.blacken_sibling.new.root None S (c.blacken_sibling.ensures.safe S h i).0 tt, tt)

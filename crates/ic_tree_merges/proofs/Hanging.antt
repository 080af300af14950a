-- A place is appended to a vine, and these lemmas say what else in the table stays.
use Rattle.std.proofs.Common.{◌≡◌, true, Some, None, List, [], ◌∷◌, ◌++◌, sym, ap, subst, append_assoc}
use Rattle.ic_link_ops.specs.Prelude.{Place, IsAbsent, IsDistinct, IsDisjoint, at_back, first, Table, ChangesOnlyIn, Ends, no_members, Inserts, Node}
use Rattle.ic_link_ops.proofs.SequenceLemmas.{absent_left, absent_right, absent_both, distinct_middle, distinct_insert, distinct_remove, disjoint_cons}
use Rattle.ic_rbtree.specs.Vines.{IsVine, RepresentsVine}
use Rattle.ic_rbtree.proofs.Vines.{apart_at, vine_beside, vine_from}

-- if a sequence has no place twice, it has no place twice after the member z is moved before the part x, which came directly before z
pub distinct_moved : (f x : List Place) (z : Place) (y : List Place) → IsDistinct (f ++ (x ++ z ∷ y)) → IsDistinct (f ++ z ∷ (x ++ y))
distinct_moved f x z y d =
    let d' : IsDistinct ((f ++ x) ++ z ∷ y) = subst IsDistinct (sym (append_assoc f x (z ∷ y))) d in
    distinct_insert f (x ++ y) z (subst IsDistinct (append_assoc f x y) (distinct_remove (f ++ x) y z d'))
    (subst (IsAbsent z) (append_assoc f x y) (distinct_middle (f ++ x) y z d'))

pub absent_moved : (q : Place) (f x : List Place) (z : Place) (y : List Place) → IsAbsent q (f ++ (x ++ z ∷ y)) → IsAbsent q (f ++ z ∷ (x ++ y))
absent_moved q f x z y h =
    let b = absent_right q f (x ++ z ∷ y) h in
    let c = absent_right q x (z ∷ y) b in
    absent_both q f (z ∷ (x ++ y)) (absent_left q f (x ++ z ∷ y) h) (c.0, absent_both q x y (absent_left q x (z ∷ y) b) c.1)

pub disjoint_front : (s t z : List Place) → IsDisjoint (s ++ t) z → IsDisjoint s z
disjoint_front [] t z d = tt
disjoint_front (x ∷ s) t z d = (d.0, disjoint_front s t z d.1)

pub disjoint_back : (s t z : List Place) → IsDisjoint (s ++ t) z → IsDisjoint t z
disjoint_back [] t z d = d
disjoint_back (x ∷ s) t z d = disjoint_back s t z d.1

-- if a sequence has no place twice, the places after p are neither p nor a member of the vine before p
pub after_apart : (done : List Place) (p : Place) (rest : List Place) → IsDistinct (done ++ p ∷ rest) → IsDisjoint rest (p ∷ done)
after_apart done p rest d = let a = apart_at done p rest d in disjoint_cons p rest done a.not_back a.back_front

module _ {E : Type 0} (n : E → Node) where
  -- a vine without ends has no members
  pub vine_none : (t : Table E) {ends : Ends} → ends ≡ no_members → RepresentsVine n t ends []
  vine_none t is = record { distinct = tt; chain = tt; head = ap (λ (e : Ends). e.head) is; tail = ap (λ (e : Ends). e.tail) is }

  module _ {old new : Table E} {ends : Ends} {done : List Place} {p : Place} (h : Inserts (RepresentsVine n) old new ends (at_back done) p) where
    -- after the place p was appended, only entries of the vine's members and of p have changed
    pub hung_frame : ChangesOnlyIn old new (p ∷ done)
    hung_frame = record { extent = h.frame.extent; others = λ q o. h.frame.others q (o.0, absent_both q done [] o.1 tt) }

    pub run_still : (x : List Place) → IsDisjoint x (p ∷ done) → IsVine n old.entry x None → IsVine n new.entry x None
    run_still x d c = vine_beside n old new x None (p ∷ done) d hung_frame c

    pub vine_still : {other : Ends} {t : List Place} → IsDisjoint t (p ∷ done) → RepresentsVine n old other t → RepresentsVine n new other t
    vine_still {other} {t} d c = record { distinct = c.distinct; chain = run_still t d c.chain; head = c.head; tail = c.tail }

  -- a run without its first member is a run that begins with the next member
  pub run_rest : (t : Table E) (p : Place) (x : List Place) → IsVine n t.entry (p ∷ x) None → ((n (t.entry p)).linked ≡ true) × ((n (t.entry p)).right ≡ first x) × IsVine n t.entry x None
  run_rest t p x c = (c.0.linked, c.0.next, vine_from n t.entry (Some p) None x None c.1)

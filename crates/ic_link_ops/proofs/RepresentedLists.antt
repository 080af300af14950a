-- This file proves facts about the sequences that a table represents for lists of any kind: after an edit, at a gap, and if the
-- entries of the members stay.
use Rattle.std.proofs.Common.{◌≡◌, ◌≢◌, Option, Some, None, List, [], ◌∷◌, ◌++◌, reverse, Bool, true, false, refl, sym, ap, ◌∙◌, append-nil, append_assoc, drop}
use Rattle.ic_link_ops.specs.Base.{Place, IsAbsent, IsDisjoint, first, last, but_last, Table}
use Rattle.ic_link_ops.specs.Chains.{Ends, ListHead, end_of, TurnsTail, RepresentsChain, RepresentsBetween}
use Rattle.ic_link_ops.specs.Turns.{TurnsAfter, TurnsBefore}
use Rattle.ic_link_ops.proofs.SequenceLemmas.{distinct_left, distinct_right, distinct_insert, distinct_remove, distinct_replace, distinct_splice, distinct_reverse, last_not, first_not, none_not, some_same, new_head, new_tail, first_of_reverse, last_of_reverse}
use Rattle.ic_link_ops.proofs.Chains.{chain_kept, chain_frame, chain_cut, chain_glue, chain_parts, chain_filled, chain_spliced, last_between, first_between, chain_one, chain_absent, chain_reversed}

module _ {E W : Type 0} {between : E → Option Place → Option Place → Type 0} {kept : Option Place → W} where
  -- A list keeps its sequence if the table keeps the entries of its members.
  pub represents_kept : {old new : Table E} {list : ListHead W} {s : List Place}
      → RepresentsChain between kept old list s → ((q : Place) → (IsAbsent q s → ⊥) → new.entry q ≡ old.entry q) → RepresentsChain between kept new list s
  represents_kept {old} {new} {list} {s} h same = record {
    distinct = h.distinct;
    chain = chain_kept between old.entry new.entry None s None same h.chain;
    head = h.head;
    tail = h.tail;
  }

  -- A list keeps its sequence if only the entry of a place that is no member changes.
  pub represents_beside : {old new : Table E} {list : ListHead W} {s : List Place} {p : Place}
      → RepresentsChain between kept old list s → IsAbsent p s → ((q : Place) → q ≢ p → new.entry q ≡ old.entry q) → RepresentsChain between kept new list s
  represents_beside {old} {new} {list} {s} {p} h out same = represents_kept h (λ q member. same q (λ e. member (rw e out)))

  -- A list that shares no member with s keeps its sequence if only entries at members of s change.
  pub represents_frame : {old new : Table E} {list : ListHead W} {t : List Place} (s : List Place)
      → RepresentsChain between kept old list t → IsDisjoint t s → ((q : Place) → IsAbsent q s → new.entry q ≡ old.entry q) → RepresentsChain between kept new list t
  represents_frame {old} {new} {list} {t} s h apart same = record {
    distinct = h.distinct;
    chain = chain_frame between old.entry new.entry None t None s apart same h.chain;
    head = h.head;
    tail = h.tail;
  }

  -- The entry of a member p names the members before and after p.
  pub represents_middle : {t : Table E} {list : ListHead W} (front back : List Place) {p : Place}
      → RepresentsChain between kept t list (front ++ p ∷ back) → between (t.entry p) (last front) (first back)
  represents_middle {t} front back {p} shown = (chain_cut between t.entry None front (p ∷ back) None shown.chain).1.0

  -- `before_gap` says which places are the neighbors of the member before a gap, and `after_gap` says it of the member after the
  -- gap.
  pub before_gap : {t : Table E} {list : ListHead W} (front back : List Place) {q : Place}
      → RepresentsChain between kept t list (front ++ back) → Some q ≡ last front → between (t.entry q) (last (but_last front)) (first back)
  before_gap {t} front back shown e =
      last_between between t.entry None front (first back) (chain_cut between t.entry None front back None shown.chain).0 e

  pub after_gap : {t : Table E} {list : ListHead W} (front back : List Place) {q : Place}
      → RepresentsChain between kept t list (front ++ back) → Some q ≡ first back → between (t.entry q) (last front) (first (drop 1 back))
  after_gap {t} front [] {q} shown e = absurd (none_not q (sym e))
  after_gap {t} front (x ∷ back) shown e =
      first_between between t.entry (last front) x back None (chain_cut between t.entry None front (x ∷ back) None shown.chain).1 (some_same e)

  -- If the head of a list is the place p, the sequence of the list begins with p.
  pub represents_first : {t : Table E} {list : ListHead W} (s : List Place) {p : Place} → RepresentsChain between kept t list s → list.head ≡ Some p → s ≡ p ∷ drop 1 s
  represents_first [] {p} shown e = absurd (none_not p (sym shown.head ∙ e))
  represents_first (x ∷ s) {p} shown e = let k : Some x ≡ Some p = sym shown.head ∙ e in cc

  -- A place that is no member of a list is neither its first member nor its last member. `back` is the last member.
  pub ends_not : {t : Table E} {list : ListHead W} {s : List Place} {q : Place} {back : Option Place} → RepresentsChain between kept t list s → back ≡ last s → IsAbsent q s
      → (list.head ≢ Some q) × (back ≢ Some q)
  ends_not {t} {list} {s} {q} shown is_back out = (
    (λ e. first_not s None q (none_not q) out (sym shown.head ∙ e)),
    (λ e. last_not None s q (none_not q) out (sym is_back ∙ e)),
  )

  -- The table represents the sequence in which the place p is inserted at a gap. First the entries on both sides of the gap are
  -- changed, and then the entry of p is set.
  pub represents_insert : {t0 t3 : Table E} {t1 t2 : Place → E} {list list' : ListHead W} (front back : List Place) {p : Place} {before after : Option Place}
      → before ≡ last front → after ≡ first back → RepresentsChain between kept t0 list (front ++ back) → IsAbsent p (front ++ back)
      → TurnsAfter between t0.entry t1 before after (Some p) → TurnsBefore between t1 t2 after before (Some p)
      → between (t3.entry p) before after → ((q : Place) → q ≢ p → t3.entry q ≡ t2 q)
      → list'.head ≡ end_of before (Some p) list.head → TurnsTail kept list.tail list'.tail after (Some p)
      → RepresentsChain between kept t3 list' (front ++ p ∷ back)
  represents_insert {t0} {t3} {t1} {t2} front back {p} is_before is_after shown out turn1 turn2 stands same head tail =
      let cut = chain_cut between t0.entry None front back None shown.chain in
      let d = distinct_insert front back p shown.distinct out in record {
        distinct = d;
        chain = chain_filled between t0.entry t1 t2 t3.entry front p back (first back) (last front) d (rw (is_before, is_after) at turn1)
            (rw (is_before, is_after) at turn2) (rw (is_before, is_after) at stands) same cut.0 cut.1;
        head = new_head front back (p ∷ back) is_before refl shown.head head;
        tail = tail (last (front ++ back)) shown.tail ∙ ap kept (new_tail front [] (p ∷ []) back is_after refl refl refl);
      }

  -- The table represents the sequence from which the member p is removed. The entries of the two neighbors of p are changed so
  -- that the neighbors name each other.
  pub represents_remove : {t0 t2 : Table E} {t1 : Place → E} {list list' : ListHead W} (front back : List Place) (p : Place) {before after : Option Place}
      → before ≡ last front → after ≡ first back → RepresentsChain between kept t0 list (front ++ p ∷ back)
      → TurnsAfter between t0.entry t1 before (Some p) after → TurnsBefore between t1 t2.entry after (Some p) before
      → list'.head ≡ end_of before after list.head → TurnsTail kept list.tail list'.tail after before
      → RepresentsChain between kept t2 list' (front ++ back)
  represents_remove {t0} {t2} {t1} front back p is_before is_after shown turn1 turn2 head tail =
      let cut = chain_cut between t0.entry None front (p ∷ back) None shown.chain in
      let d = distinct_remove front back p shown.distinct in
      let parts = chain_parts between t0.entry t1 t2.entry front back (Some p) (Some p) (first back) (last front) d (rw (is_before, is_after) at turn1)
      (rw (is_before, is_after) at turn2) cut.0 cut.1.1 in record {
        distinct = d;
        chain = chain_glue between t2.entry None front back None parts.0 parts.1;
        head = new_head front (p ∷ back) back is_before is_after shown.head head;
        tail = tail (last (front ++ p ∷ back)) shown.tail ∙ ap kept (new_tail front (p ∷ []) [] back is_after is_before refl refl);
      }

  -- The table represents the sequence in which the place r replaces the member p. First the entries of the neighbors of p are
  -- changed, and then the entry of r is set.
  pub represents_replace : {t0 t3 : Table E} {t1 t2 : Place → E} {list list' : ListHead W} (front back : List Place) (p : Place) {r : Place} {before after : Option Place}
      → before ≡ last front → after ≡ first back → RepresentsChain between kept t0 list (front ++ p ∷ back) → IsAbsent r (front ++ p ∷ back)
      → TurnsAfter between t0.entry t1 before (Some p) (Some r) → TurnsBefore between t1 t2 after (Some p) (Some r)
      → between (t3.entry r) before after → ((q : Place) → q ≢ r → t3.entry q ≡ t2 q)
      → list'.head ≡ end_of before (Some r) list.head → TurnsTail kept list.tail list'.tail after (Some r)
      → RepresentsChain between kept t3 list' (front ++ r ∷ back)
  represents_replace {t0} {t3} {t1} {t2} front back p {r} is_before is_after shown out turn1 turn2 stands same head tail =
      let cut = chain_cut between t0.entry None front (p ∷ back) None shown.chain in
      let d = distinct_replace front back p r shown.distinct out in record {
        distinct = d;
        chain = chain_filled between t0.entry t1 t2 t3.entry front r back (Some p) (Some p) d (rw is_before at turn1) (rw is_after at turn2)
            (rw (is_before, is_after) at stands) same cut.0 cut.1.1;
        head = new_head front (p ∷ back) (r ∷ back) is_before refl shown.head head;
        tail = tail (last (front ++ p ∷ back)) shown.tail ∙ ap kept (new_tail front (p ∷ []) (r ∷ []) back is_after refl refl refl);
      }

  -- The table represents the sequence in which all members of the list `given` are inserted at a gap. The last member of `given`
  -- is `end`. First the entries on both sides of the gap are changed, and then the entries of the first and the last member of
  -- `given`.
  pub represents_splice : {t0 t4 : Table E} {t1 t2 t3 : Place → E} {list list' given : ListHead W} (front mid back : List Place) (x : Place) {before after end : Option Place}
      → given.head ≡ Some x → end ≡ last mid → before ≡ last front → after ≡ first back
      → RepresentsChain between kept t0 list (front ++ back) → RepresentsChain between kept t0 given mid → IsDisjoint mid (front ++ back)
      → TurnsAfter between t0.entry t1 before after given.head → TurnsBefore between t1 t2 after before end
      → TurnsBefore between t2 t3 given.head None before → TurnsAfter between t3 t4.entry end None after
      → list'.head ≡ end_of before given.head list.head → TurnsTail kept list.tail list'.tail after end
      → RepresentsChain between kept t4 list' (front ++ (mid ++ back))
  represents_splice front [] back x e is_end is_before is_after shown other apart turn1 turn2 turn3 turn4 head tail =
      absurd (none_not x (sym other.head ∙ e))
  represents_splice {t0} {t4} {t1} {t2} {t3} front (y ∷ mid) back x e is_end is_before is_after shown other apart turn1 turn2 turn3 turn4 head tail = record {
    distinct = distinct_splice front (y ∷ mid) back shown.distinct other.distinct apart;
    chain = chain_spliced between t0.entry t1 t2 t3 t4.entry front y mid back shown.distinct other.distinct apart
        (rw (is_before, is_after, other.head) at turn1) (rw (is_before, is_after, is_end) at turn2) (rw (is_before, other.head) at turn3)
        (rw (is_after, is_end) at turn4) shown.chain other.chain;
    head = new_head front back (y ∷ mid ++ back) is_before other.head shown.head head;
    tail = tail (last (front ++ back)) shown.tail ∙ ap kept (new_tail front [] (y ∷ mid) back is_after is_end refl refl);
  }

  -- A list is split at a gap: the entries on both sides of the gap are changed. The table then represents the members before the
  -- gap for the list `fronts`, and the members after the gap for the list `backs`.
  pub represents_split : {t0 t2 : Table E} {t1 : Place → E} {list fronts backs : ListHead W} (front back : List Place) {before after : Option Place}
      → before ≡ last front → after ≡ first back → RepresentsChain between kept t0 list (front ++ back)
      → TurnsAfter between t0.entry t1 before after None → TurnsBefore between t1 t2.entry after before None
      → fronts.head ≡ end_of before None list.head → fronts.tail ≡ kept before → backs.head ≡ after → TurnsTail kept list.tail backs.tail after None
      → RepresentsChain between kept t2 fronts front × RepresentsChain between kept t2 backs back
  represents_split {t0} {t2} {t1} front back is_before is_after shown turn1 turn2 head1 tail1 head2 tail2 =
      let cut = chain_cut between t0.entry None front back None shown.chain in
      let parts = chain_parts between t0.entry t1 t2.entry front back (first back) (last front) None None shown.distinct (rw (is_before, is_after) at turn1)
      (rw (is_before, is_after) at turn2) cut.0 cut.1 in (
        record {
          distinct = distinct_left front back shown.distinct;
          chain = parts.0;
          head = rw append-nil at (new_head front back [] is_before refl shown.head head1);
          tail = tail1 ∙ ap kept is_before;
        },
        record {
          distinct = distinct_right front back shown.distinct;
          chain = parts.1;
          head = head2 ∙ is_after;
          tail = tail2 (last (front ++ back)) shown.tail ∙ ap kept (new_tail [] front [] back is_after refl refl refl);
        },
      )

  -- A table represents at most one sequence for a list, if an entry and the place before determine the place after.
  pub represents_one : ((e : E) (a b c : Option Place) → between e a b → between e a c → b ≡ c) → {t : Table E} {list : ListHead W} {s r : List Place}
      → RepresentsChain between kept t list s → RepresentsChain between kept t list r → s ≡ r
  represents_one one {t} {list} {s} {r} h k = chain_one between one t.entry None s r (sym h.head ∙ k.head) h.chain k.chain

  -- `law` says that a place is linked if its entry names the neighbors of the place.
  module _ {linked : E → Bool} (law : (e : E) (b a : Option Place) → between e b a → linked e ≡ true) where
    -- A place that is not linked is no member of a list.
    pub free_absent : {t : Table E} {list : ListHead W} {s : List Place} {p : Place} → RepresentsChain between kept t list s → linked (t.entry p) ≡ false → IsAbsent p s
    free_absent {t} {list} {s} {p} shown free = chain_absent between linked law t.entry None s None p shown.chain free

    -- The member before a gap is linked, and so is the member after the gap.
    pub gap_linked : {t : Table E} {list : ListHead W} (front back : List Place) {q : Place}
        → RepresentsChain between kept t list (front ++ back) → Some q ≡ last front → linked (t.entry q) ≡ true
    gap_linked front back shown e = law _ _ _ (before_gap front back shown e)

    pub gap_after_linked : {t : Table E} {list : ListHead W} (front back : List Place) {q : Place}
        → RepresentsChain between kept t list (front ++ back) → Some q ≡ first back → linked (t.entry q) ≡ true
    gap_after_linked front back shown e = law _ _ _ (after_gap front back shown e)

    -- The member after the member p is linked.
    pub next_linked : {t : Table E} {list : ListHead W} (front : List Place) (p : Place) (back : List Place) {q : Place}
        → RepresentsChain between kept t list (front ++ p ∷ back) → Some q ≡ first back → linked (t.entry q) ≡ true
    next_linked {t} {list} front p back shown e = gap_after_linked {t = t} {list = list} (front ++ p ∷ []) back (rw append_assoc shown) e

    pub last_linked : {t : Table E} {list : ListHead W} {s : List Place} {q : Place} → RepresentsChain between kept t list s → Some q ≡ last s → linked (t.entry q) ≡ true
    last_linked {t} {list} {s} shown e = gap_linked {t = t} {list = list} s [] (rw append-nil shown) e

-- If no entry says which neighbor comes first, as in an XOR list, a list is reversed if its two stored ends are exchanged.
pub represents_reversed : {E : Type 0} {between : E → Option Place → Option Place → Type 0} → ((e : E) (b a : Option Place) → between e b a → between e a b)
    → {t : Table E} {ends ends' : Ends} {s : List Place} → RepresentsBetween between t ends s → ends'.head ≡ ends.tail → ends'.tail ≡ ends.head
    → RepresentsBetween between t ends' (reverse s)
represents_reversed {between = between} turn {t} {ends} {ends'} {s} shown head tail = record {
  distinct = distinct_reverse s shown.distinct;
  chain = chain_reversed between turn t.entry None s None shown.chain;
  head = head ∙ shown.tail ∙ sym (first_of_reverse s None);
  tail = tail ∙ shown.head ∙ sym (last_of_reverse None s);
}

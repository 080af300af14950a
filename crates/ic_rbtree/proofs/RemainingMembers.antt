-- The members that remain for a walk are removed one after the other, from the first to the last.
use Rattle.std.proofs.Common.{◌≡◌, ◌<◌, true, Option, Some, None, List, [], ◌∷◌, ◌++◌, drop, length, refl, sym, ap, ◌∙◌, subst, arith, append_assoc, append-nil}
use Rattle.ic_link_ops.specs.Prelude.{Place, first, IsAbsent, Table, IsCovered, ChangesOnlyIn, Node, RepresentsEnds}
use Rattle.ic_link_ops.proofs.SequenceLemmas.{absent_right, first_is, fewer, nothing_first}
use Rattle.ic_rbtree.specs.Members.{members_around}
use Rattle.ic_rbtree.proofs.Members.{members_between_ends}

module _ {E : Type 0} (n : E → Node) where
  -- THE WALK IS FINISHED IN PART: the members `done` of w are removed, and the table represents the other members, `rest`, between the ends `front` and `back`
  pub record Finishes (base v : Table E) (front back : Option Place) (w : List Place) : Type 0 where
    pub done : List Place
    pub rest : List Place
    pub parts : w ≡ done ++ rest
    pub left : RepresentsEnds n v front back rest
    pub frame : ChangesOnlyIn base v w

  pub finish_starts : (v : Table E) (front back : Option Place) (w : List Place) → RepresentsEnds n v front back w → (k : Finishes v v front back w) × (k.done ≡ [])
  finish_starts v front back w h = (
    record {
      done = [];
      rest = w;
      parts = refl;
      left = h;
      frame = record { extent = refl; others = λ q out. refl };
    },
    refl,
  )

  module _ {base v : Table E} {front back : Option Place} {w : List Place} (k : Finishes base v front back w) where
    -- if the first remaining member p is removed, it is the last one of `done`
    pub finish_more : {u : Table E} {front' back' : Option Place} (p : Place) → Some p ≡ first k.rest → RepresentsEnds n u front' back' (drop 1 k.rest) → ChangesOnlyIn v u k.rest
        → (k' : Finishes base u front' back' w) × (k'.done ≡ k.done ++ p ∷ [])
    finish_more p e left keeps = (
      record {
        done = k.done ++ p ∷ [];
        rest = drop 1 k.rest;
        parts = k.parts ∙ ap (λ (s : List Place). k.done ++ s) (first_is k.rest e) ∙ sym (append_assoc k.done (p ∷ []) (drop 1 k.rest));
        left = left;
        frame = record {
          extent = keeps.extent ∙ k.frame.extent;
          others = λ q out. keeps.others q (absent_right q k.done k.rest (subst (IsAbsent q) k.parts out)) ∙ k.frame.others q out;
        };
      },
      refl,
    )

    -- if no member remains, all members of w are done
    pub finish_all : None ≡ first k.rest → k.done ≡ w
    finish_all e = sym (append-nil k.done) ∙ ap (λ (s : List Place). k.done ++ s) (sym (nothing_first k.rest e)) ∙ sym k.parts

    pub finish_falls : ((q : Place) → (n (v.entry q)).linked ≡ true → IsCovered v q) → {u : Table E} → ((q : Place) → (n (u.entry q)).linked ≡ true → IsCovered u q)
        → {front' back' : Option Place} (p : Place) → Some p ≡ first k.rest → RepresentsEnds n u front' back' (drop 1 k.rest)
        → length (members_around n u front') < length (members_around n v front)
    finish_falls law {u} law' {front'} {back'} p e left =
        let old : members_around n v front ≡ k.rest = members_between_ends n v law front back k.rest k.left in
        let new : members_around n u front' ≡ drop 1 k.rest = members_between_ends n u law' front' back' (drop 1 k.rest) left in
        omega (arith, fewer k.rest p e, ap length old, ap length new)

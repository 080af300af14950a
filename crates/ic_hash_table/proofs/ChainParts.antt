-- These lemmas are about a chain that is split in two, member by member.
use Rattle.std.proofs.Common.{◌≡◌, ◌≢◌, inl, inr, Bool, true, false, Option, Some, None, List, [], ◌∷◌, ◌++◌, drop, length, refl, sym, ap, ◌∙◌, subst, arith, append_assoc, append-nil}
use Rattle.std.specs.List.{AllByRecursion}
use Rattle.std.specs.Cmp.{IsPartialEquivalence}
use Rattle.ic_link_ops.specs.Prelude.{Place, IsAbsent, IsMember, IsDistinct, Table, Successor, IsFollowed}
use Rattle.ic_link_ops.proofs.Prelude.{same_or_not, chain_cut, all_back, absent_left, absent_right, absent_with, absent_without, distinct_insert, distinct_right, first_is, member_split}
use Rattle.ic_link_ops.specs.Chains.{IsChain}
use Rattle.ic_hash_table.specs.Growth.{AreTurned, IsParted}
use Rattle.ic_hash_table.specs.Prelude.{AreSideBySide, RepresentsFrom}
use Rattle.ic_hash_table.proofs.SideBySideSequences.{spans}
use Rattle.ic_link_ops.proofs.RepresentedLists.{represents_beside}

-- if a property holds for each member of s, it holds for the member q of s, and for each member of a sequence whose members are all in s
pub of_member : (P : Place → Type 0) (s : List Place) (q : Place) → AllByRecursion P s → IsMember q s → P q
of_member P s q all member =
    let m = member_split q s member in
    (all_back P m.0 (q ∷ m.1) (subst (AllByRecursion P) m.2 all)).0

pub of_members : (P : Place → Type 0) (s u : List Place) → ((q : Place) → IsAbsent q s → IsAbsent q u) → AllByRecursion P s → AllByRecursion P u
of_members P s [] adds_none all = tt
of_members P s (x ∷ u) adds_none all = (of_member P s x all (λ out. (adds_none x out).0 refl), of_members P s u (λ q out. (adds_none q out).1) all)

module _ {E : Type 0} {successor : E → Successor} where
  -- AFTER A MEMBER the rest of a chain is represented from the place that the member's entry names as the next
  pub represents_after : {t : Table E} {front next : Option Place} (c1 c2 : List Place) (p : Place) → RepresentsFrom successor t front (c1 ++ p ∷ c2) → next ≡ (successor (t.entry p)).next
      → RepresentsFrom successor t next c2
  represents_after {t} c1 c2 p shown is =
      let cut = (chain_cut (IsFollowed successor) t.entry None c1 (p ∷ c2) None shown.chain).1 in
      record { distinct = (distinct_right c1 (p ∷ c2) shown.distinct).1; chain = whatever c2 cut.1; head = is ∙ cut.0.next; tail = refl }
    where
      whatever : (s : List Place) → IsChain (IsFollowed successor) t.entry (Some p) s None → IsChain (IsFollowed successor) t.entry None s None
      whatever [] c = tt
      whatever (x ∷ s) c = (record { linked = c.0.linked; next = c.0.next }, c.1)

  pub nothing_represented : (t : Table E) → RepresentsFrom successor t None []
  nothing_represented t = record { distinct = tt; chain = tt; head = refl; tail = refl }

  module _ {is : Place → Bool} where
    -- at first the whole chain is left to be split, and no member stays or moves yet
    pub part_none : {t : Table E} {front : Option Place} {chain : List Place} → RepresentsFrom successor t front chain → IsParted successor is t chain front None None
    part_none {t} {front} {chain} shown = record {
      left = chain;
      staying = [];
      moving = [];
      represents_left = shown;
      represents_staying = nothing_represented t;
      represents_moving = nothing_represented t;
      distinct = rw (append-nil chain) shown.distinct;
      stay = tt;
      move = tt;
      adds_none = λ q out. rw (append-nil chain) out;
      all = λ q out. rw (append-nil chain) at out;
      count = omega arith;
      passed = [];
      cut = refl;
      among = λ q out. tt;
      beside = λ alike laws side. (record { side = tt; next = λ x y mine none. absurd (none tt) }, record { side = tt; next = λ x y mine none. absurd (none tt) });
    }

    module _ {old : Table E} {chain : List Place} {stays moves : Option Place} {p : Place} (k : IsParted successor is old chain (Some p) stays moves) where
      -- p is the first of the members that are left to be split
      pub left_is : k.left ≡ p ∷ drop 1 k.left
      left_is = first_is k.left k.represents_left.head

      left_distinct : IsDistinct (p ∷ drop 1 k.left ++ (k.staying ++ k.moving))
      left_distinct = subst (λ l. IsDistinct (l ++ (k.staying ++ k.moving))) left_is k.distinct

      left_represented : RepresentsFrom successor old (Some p) (p ∷ drop 1 k.left)
      left_represented = subst (RepresentsFrom successor old (Some p)) left_is k.represents_left

      left_all : (q : Place) → q ≢ p → IsAbsent q (drop 1 k.left ++ (k.staying ++ k.moving)) → IsAbsent q chain
      left_all q n out = k.all q (subst (λ l. IsAbsent q (l ++ (k.staying ++ k.moving))) (sym left_is) (n, out))

      left_within : (q : Place) → IsAbsent q chain → IsAbsent q (p ∷ drop 1 k.left ++ (k.staying ++ k.moving))
      left_within q out = subst (λ l. IsAbsent q (l ++ (k.staying ++ k.moving))) left_is (k.adds_none q out)

      pub left_linked : (successor (old.entry p)).linked ≡ true
      left_linked = left_represented.chain.0.linked

      -- after one step the member p is the last of the members that the split has passed
      cut_after : chain ≡ (k.passed ++ p ∷ []) ++ drop 1 k.left
      cut_after = k.cut ∙ ap (λ l. k.passed ++ l) left_is ∙ sym (append_assoc k.passed (p ∷ []) (drop 1 k.left))

      passed_absent : (q : Place) → IsAbsent q (k.passed ++ p ∷ []) → (q ≢ p) × IsAbsent q (k.staying ++ k.moving)
      passed_absent q out = ((absent_right q k.passed (p ∷ []) out).0, k.among q (absent_left q k.passed (p ∷ []) out))

      -- if p becomes the first member of the new chain `out`, alike members are side by side in `out` (`turned_on`). If p goes to the other new chain, alike
      -- members of `out` are still side by side (`turned_past`)
      module _ {alike : Place → Place → Bool} (laws : IsPartialEquivalence alike) (side : AreSideBySide alike chain) where
        turned_on : {out : List Place} → AreTurned alike k.left out → ((q : Place) → IsAbsent q k.passed → IsAbsent q out) → AreTurned alike (drop 1 k.left) (p ∷ out)
        turned_on {out} t among = record {
          side = ((λ y member same. t.next p y (λ o. (subst (IsAbsent p) left_is o).0 refl) member same), t.side);
          next = λ x y mine member same. elim (same_or_not y p) [
            | inl e ↦ subst (λ z. alike x z ≡ true) e same
            | inr other ↦
                let whole : AreSideBySide alike (k.passed ++ p ∷ drop 1 k.left) = subst (AreSideBySide alike) (k.cut ∙ ap (λ l. k.passed ++ l) left_is) side in
                let earlier : IsMember y k.passed = λ o. member (other, among y o) in
                let to : alike y p ≡ true = spans alike laws k.passed (drop 1 k.left) p whole y x earlier (λ o. mine o.1) (laws.symm y x ∙ same) in
                laws.trans x y p same to
          ];
        }

        turned_past : {out : List Place} → AreTurned alike k.left out → AreTurned alike (drop 1 k.left) out
        turned_past t = record { side = t.side; next = λ x y mine. t.next x y (λ o. mine (subst (IsAbsent x) left_is o).1) }

      -- p is a member of the chain
      pub left_member : IsMember p chain
      left_member out = (left_within p out).0 refl

      module _ {new : Table E} {next : Option Place} (others : (q : Place) → q ≢ p → new.entry q ≡ old.entry q) (is_next : next ≡ (successor (old.entry p)).next) where
        -- if the next member p stays, it is added at the front of the chain of members that stay
        pub part_stays : {stays' : Option Place} → is p ≡ false → ((s : List Place) → RepresentsFrom successor old stays s → IsAbsent p s → RepresentsFrom successor new stays' (p ∷ s))
            → IsParted successor is new chain next stays' moves
        part_stays fails put =
            let l = drop 1 k.left in
            let out : IsAbsent p (l ++ (k.staying ++ k.moving)) = left_distinct.0 in
            let out_parts : IsAbsent p (k.staying ++ k.moving) = absent_right p l (k.staying ++ k.moving) out in
            record {
              left = l;
              staying = p ∷ k.staying;
              moving = k.moving;
              represents_left = represents_beside (represents_after [] l p left_represented is_next) (absent_left p l (k.staying ++ k.moving) out) others;
              represents_staying = put k.staying k.represents_staying (absent_left p k.staying k.moving out_parts);
              represents_moving = represents_beside k.represents_moving (absent_right p k.staying k.moving out_parts) others;
              distinct = distinct_insert l (k.staying ++ k.moving) p left_distinct.1 out;
              stay = (fails, k.stay);
              move = k.move;
              adds_none = λ q absent. let a = left_within q absent in absent_with l (k.staying ++ k.moving) p q a.0 a.1;
              all = λ q absent. left_all q (absent_right q l (p ∷ k.staying ++ k.moving) absent).0 (absent_without l (k.staying ++ k.moving) p q absent);
              count = omega (arith, k.count, ap length left_is);
              passed = k.passed ++ p ∷ [];
              cut = cut_after;
              among = λ q absent. passed_absent q absent;
              beside = λ alike laws side.
                  let b = k.beside alike laws side in
                  (turned_on laws side b.0 (λ q absent. absent_left q k.staying k.moving (k.among q absent)), turned_past laws side b.1);
            }

        -- if the next member p moves, it is added at the front of the chain of members that move
        pub part_moves : {moves' : Option Place} → is p ≡ true → ((s : List Place) → RepresentsFrom successor old moves s → IsAbsent p s → RepresentsFrom successor new moves' (p ∷ s))
            → IsParted successor is new chain next stays moves'
        part_moves passes put =
            let l = drop 1 k.left in
            let out : IsAbsent p (l ++ (k.staying ++ k.moving)) = left_distinct.0 in
            let out_parts : IsAbsent p (k.staying ++ k.moving) = absent_right p l (k.staying ++ k.moving) out in
            let with : (l ++ k.staying) ++ p ∷ k.moving ≡ l ++ (k.staying ++ p ∷ k.moving) = append_assoc l k.staying (p ∷ k.moving) in
            let without : (l ++ k.staying) ++ k.moving ≡ l ++ (k.staying ++ k.moving) = append_assoc l k.staying k.moving in
            record {
              left = l;
              staying = k.staying;
              moving = p ∷ k.moving;
              represents_left = represents_beside (represents_after [] l p left_represented is_next) (absent_left p l (k.staying ++ k.moving) out) others;
              represents_staying = represents_beside k.represents_staying (absent_left p k.staying k.moving out_parts) others;
              represents_moving = put k.moving k.represents_moving (absent_right p k.staying k.moving out_parts);
              distinct = subst IsDistinct with (distinct_insert (l ++ k.staying) k.moving p (subst IsDistinct (sym without) left_distinct.1) (subst (IsAbsent p) (sym without) out));
              stay = k.stay;
              move = (passes, k.move);
              adds_none = λ q absent. let a = left_within q absent in subst (IsAbsent q) with (absent_with (l ++ k.staying) k.moving p q a.0 (subst (IsAbsent q) (sym without) a.1));
              all = λ q absent.
                  let a = subst (IsAbsent q) (sym with) absent in
                  left_all q (absent_right q (l ++ k.staying) (p ∷ k.moving) a).0 (subst (IsAbsent q) without (absent_without (l ++ k.staying) k.moving p q a));
              count = omega (arith, k.count, ap length left_is);
              passed = k.passed ++ p ∷ [];
              cut = cut_after;
              among = λ q absent. let a = passed_absent q absent in absent_with k.staying k.moving p q a.0 a.1;
              beside = λ alike laws side.
                  let b = k.beside alike laws side in
                  (turned_past laws side b.0, turned_on laws side b.1 (λ q absent. absent_right q k.staying k.moving (k.among q absent)));
            }

        -- whether the next member p stays or moves, one member more is split off
        pub part_either : {stays' moves' : Option Place} (b : Bool) → is p ≡ b
            → (b ≡ false → (moves' ≡ moves) × ((s : List Place) → RepresentsFrom successor old stays s → IsAbsent p s → RepresentsFrom successor new stays' (p ∷ s)))
            → (b ≡ true → (stays' ≡ stays) × ((s : List Place) → RepresentsFrom successor old moves s → IsAbsent p s → RepresentsFrom successor new moves' (p ∷ s)))
            → (more : IsParted successor is new chain next stays' moves') × (k.left ≡ p ∷ more.left)
        unfolding part_stays part_moves
        part_either {stays'} {moves'} true passes stay move =
            let m = move refl in
            subst (λ h. (more : IsParted successor is new chain next h moves') × (k.left ≡ p ∷ more.left)) (sym m.0) (part_moves passes m.1, left_is)
        part_either {stays'} {moves'} false fails stay move =
            let m = stay refl in
            subst (λ h. (more : IsParted successor is new chain next stays' h) × (k.left ≡ p ∷ more.left)) (sym m.0) (part_stays fails m.1, left_is)

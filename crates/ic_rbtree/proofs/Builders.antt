-- A builder stores the two ends of a vine. Lemmas state how a place is appended to the vine, how the vine becomes a tree, and how a tree becomes a vine.
use Rattle.std.proofs.Common.{◌≡◌, ℕ, zero, suc, ◌+◌, ◌*◌, ◌^◌, ◌≤◌, ◌<◌, Bool, Option, Some, None, List, [], ◌∷◌, ◌++◌, length, refl, sym, ap, ◌∙◌, subst, arith, append-nil}
use Rattle.std.proofs.lemmas.Nat.{pow-add}
use Rattle.ic_link_ops.specs.Prelude.{Place, Cut, join, IsAbsent, IsDistinct, first, last, at_front, at_back, Table, ChangesOnly, IsUnlinked, Ends, list_head, end_of, Inserts, Removes, top_color, Tree, in_order}
use Rattle.ic_link_ops.specs.declared.color.Color.TheVariants.{Black}
use Rattle.ic_link_ops.specs.declared.side.Side.TheVariants.{Left, Right}
use Rattle.ic_link_ops.specs.RedBlackTree.{Node, Represents}
use Rattle.ic_link_ops.specs.SinglyLinkedList.{IsFollowed, IsWalk}
use Rattle.ic_link_ops.specs.Turns.{TurnsAfter}
use Rattle.ic_link_ops.proofs.Prelude.{chain_absent, chain_last, last_between, absent_left, absent_both, distinct_insert, disjoint_sym, last_not, last_of_push, none_not, nothing_last, some_same, few_places}
use Rattle.ic_link_ops.proofs.SinglyLists.{successor_turns}
use Rattle.ic_link_ops.proofs.Trees.{one_tree}
use Rattle.ic_rbtree.specs.Prelude.{IsNode, height, turns, IsLowest, IsBeside}
use Rattle.ic_rbtree.specs.Vines.{along, IsVine, RepresentsVine, IsVineOf, IsTreeOf, BecomesTree, BecomesVine, Rearranges}
use Rattle.ic_rbtree.proofs.Low.{represented_low}
use Rattle.ic_rbtree.proofs.Members.{stands_of}
use Rattle.ic_rbtree.proofs.Vines.{nothing_black, vine_from, vine_glue, vine_beside}

-- if a sequence has a member, another sequence appended to it does not change its first member
first_still : (s : List Place) (q : Place) (t : List Place) → last s ≡ Some q → first (s ++ t) ≡ first s
first_still [] q t e = absurd (none_not q e)
first_still (x ∷ s) q t e = refl

-- the last member of a sequence without its first member is the old last member, or none if no member is left
last_after : (next back : Option Place) (q : Place) (r : List Place) → next ≡ first r → back ≡ last (q ∷ r) → end_of next None back ≡ last r
last_after next back q [] is tail = ap (λ o. end_of o None back) is
last_after next back q (y ∷ r) is tail = ap (λ o. end_of o None back) is ∙ tail

black_top : (h : ℕ) (t : Tree) → (1 ≤ h → top_color t ≡ Black) → (h ≡ 0 → length (in_order t) ≡ 0) → top_color t ≡ Black
black_top zero t high low = nothing_black t (low refl)
black_top (suc h) t high low = high (omega arith)

module _ {E : Type 0} (n : E → Node) where
  -- A PLACE IS APPENDED to a vine that the table represents between the ends `front` and `back`
  module _ {v : Table E} {front back : Option Place} {s : List Place} (x : RepresentsVine n v (list_head front back) s) where
    pub back_linked : {q : Place} → back ≡ Some q → IsNode n v q
    back_linked is = (last_between (IsFollowed (along n)) v.entry None s None x.chain (sym is ∙ x.tail)).linked

    module _ {place : Place} (out : IsAbsent place s) (linked : IsNode n v place) {v1 : Table E}
        (set1 : n (v1.entry place) ≡ record (n (v.entry place)) { right = None }) (only1 : ChangesOnly v v1 place) where
      longer : IsDistinct (s ++ place ∷ [])
      longer = distinct_insert s [] place (subst IsDistinct (sym (append-nil s)) x.distinct) (absent_both place s [] out tt)

      first_vine : IsVine n v1.entry s None
      first_vine = vine_beside n v v1 s None (place ∷ []) (disjoint_sym (place ∷ []) s (out, tt)) (record { extent = only1.extent; others = λ q o. only1.others q o.0 }) x.chain

      still_linked : IsNode n v1 place
      still_linked = ap (λ (e : Node). e.linked) set1 ∙ linked

      -- if the vine is empty, the appended place is its only member
      pub hung_alone : back ≡ None → Inserts (RepresentsVine n) v v1 (list_head (Some place) (Some place)) (at_back s) place
      hung_alone is =
          let bare = nothing_last s (sym is ∙ x.tail) in
          record {
            shows = subst (λ z. RepresentsVine n v1 (list_head (Some place) (Some place)) (z ++ place ∷ [])) (sym bare)
                (record { distinct = (tt, tt); chain = (record { linked = still_linked; next = ap (λ (e : Node). e.right) set1 }, tt); head = refl; tail = refl });
            frame = record { extent = only1.extent; others = λ q o. only1.others q o.0 };
          }

      -- if the vine has the last member q, the appended place becomes the right child of q
      module _ {q : Place} (is : back ≡ Some q) {v2 : Table E} (set2 : n (v2.entry q) ≡ record (n (v1.entry q)) { right = Some place }) (only2 : ChangesOnly v1 v2 q) where
        last_is : last s ≡ Some q
        last_is = sym x.tail ∙ is

        same : v2.entry place ≡ v1.entry place
        same = only2.others place (λ e. last_not None s place (none_not place) out (last_is ∙ ap (λ z. Some z) (sym e)))

        turned : TurnsAfter (IsFollowed (along n)) v1.entry v2.entry (last s) None (Some place)
        turned = subst (λ o. TurnsAfter (IsFollowed (along n)) v1.entry v2.entry o None (Some place)) (sym last_is)
            (successor_turns {s = along n} None only2 (ap (λ (e : Node). record { linked = e.linked; next = e.right }) set2))

        others : (z : Place) → IsAbsent z (place ∷ (s ++ [])) → v2.entry z ≡ v.entry z
        others z o =
            only2.others z (λ e. last_not None s z (none_not z) (absent_left z s [] o.1) (last_is ∙ ap (λ y. Some y) (sym e))) ∙ only1.others z o.0

        pub hung_last : Inserts (RepresentsVine n) v v2 (list_head front (Some place)) (at_back s) place
        hung_last = record {
          shows = record {
            distinct = longer;
            chain = vine_glue n v2.entry s place [] None (chain_last (IsFollowed (along n)) v1.entry v2.entry None s None (Some place) turned x.distinct first_vine)
                (ap (λ (e : E). (n e).linked) same ∙ still_linked) (ap (λ (e : E). (n e).right) same ∙ ap (λ (e : Node). e.right) set1) tt;
            head = x.head ∙ sym (first_still s q (place ∷ []) last_is);
            tail = sym (last_of_push s place);
          };
          frame = record { extent = only2.extent ∙ only1.extent; others = others };
        }

  -- THE FIRST MEMBER IS REMOVED from a vine: the other members stay in the vine if only the entry of the first member is changed
  pub front_taken : {v w : Table E} {front back next : Option Place} (s : List Place) → RepresentsVine n v (list_head front back) s → {p : Place} → front ≡ Some p
      → next ≡ (n (v.entry p)).right → ChangesOnly v w p → Removes (RepresentsVine n) v w (list_head next (end_of next None back)) (at_front s)
  front_taken [] x {p} is read only = absurd (none_not p (sym x.head ∙ is))
  front_taken {v} {w} {front} {back} {next} (q ∷ r) x {p} is read only' =
      let same : p ≡ q = some_same (sym is ∙ x.head) in
      let only = subst (λ z. ChangesOnly v w z) same only' in
      let follows : next ≡ first r = read ∙ (ap (λ z. (n (v.entry z)).right) same ∙ x.chain.0.next) in
      record {
        shows = record {
          distinct = x.distinct.1;
          chain = vine_beside n v w r None (q ∷ []) (disjoint_sym (q ∷ []) r (x.distinct.0, tt)) (record { extent = only.extent; others = λ z o. only.others z o.0 })
              (vine_from n v.entry (Some q) None r None x.chain.1);
          head = follows;
          tail = last_after next back q r follows x.tail;
        };
        frame = record { extent = only.extent; others = λ z o. only.others z o.0 };
      }

  -- a place that has just been linked is in no vine that the table represented before, and the table still represents each of these vines
  pub vine_acquired : (linked : E → Bool) → ((e : E) → (n e).linked ≡ linked e) → {old v : Table E} {ends : Ends} {s : List Place} {p : Place} → RepresentsVine n old ends s
      → IsUnlinked linked old p → ChangesOnly old v p → IsAbsent p s × RepresentsVine n v ends s
  vine_acquired linked alike {old} {v} {ends} {s} {p} x was only =
      let out = chain_absent (IsFollowed (along n)) linked (λ e b a h. sym (alike e) ∙ h.linked) old.entry None s None p x.chain was in (
        out,
        record {
          distinct = x.distinct;
          chain = vine_beside n old v s None (p ∷ []) (disjoint_sym (p ∷ []) s (out, tt)) (record { extent = only.extent; others = λ q o. only.others q o.0 }) x.chain;
          head = x.head;
          tail = x.tail;
        },
      )

  pub pushed : {old v w : Table E} {ends : Ends} {s : List Place} {p : Place} → ChangesOnly old v p → Inserts (RepresentsVine n) v w ends (at_back s) p → Inserts (RepresentsVine n) old w ends (at_back s) p
  pushed only h = record { shows = h.shows; frame = record { extent = h.frame.extent ∙ only.extent; others = λ q o. h.frame.others q o ∙ only.others q o.0 } }

  -- A VINE BECOMES A TREE that has all members of the vine
  module _ {v : Table E} {ends : Ends} {s : List Place} (x : RepresentsVine n v ends s) where
    pub vine_walk : IsWalk (along n) v.entry ends.head s
    vine_walk = record { before = None; part = record { distinct = x.distinct; chain = x.chain; starts = x.head; ends = refl } }

    pub vine_short : length s + 1 < 2 ^ 64
    vine_short = omega (arith, few_places s x.distinct)

    module _ {first : Option Place} {count height : ℕ} (starts : first ≡ ends.head) (counted : count ≡ length s) (enough : 2 ^ height ≤ count + 1) (few : count + 1 < 2 * 2 ^ height) where
      pub whole_vine : IsVineOf n v first count height s None
      whole_vine = record { vine = x.chain; distinct = x.distinct; starts = starts ∙ x.head; counted = counted; enough = enough; few = omega (arith, few, pow-add 2 height 1) }

      pub built : {w : Table E} {root next : Option Place} → BecomesTree n v w root next height s None → Rearranges (Represents n) v w root s
      built h = record {
        shows = record {
          tree = h.tree;
          held = record { order = h.order; distinct = x.distinct; entries = h.entries };
          starts = h.root_is;
          shape = record {
            black_root = black_top height h.tree h.black_root (λ e. omega (arith, few, counted, ap (λ (m : ℕ). 2 ^ m) e, ap length h.order));
            no_red_pair = h.no_red_pair;
            even = h.even;
          };
        };
        frame = h.frame;
      }

  -- the tree that is built of a vine has the least height for its number of members
  pub built_lowest : {v w : Table E} {root next o : Option Place} {m : ℕ} {s r : List Place} {after : Option Place} → BecomesTree n v w root next m s after → o ≡ root
      → (h : Represents n w o r) → IsLowest h.tree
  built_lowest {v} {w} {root} {next} {o} {m} {s} {r} {after} b is h =
      subst IsLowest (one_tree n w.entry None b.tree h.tree b.entries h.held.entries (sym b.root_is ∙ (sym is ∙ h.starts))) b.lowest

  -- A TREE BECOMES A VINE that has all members of the tree
  module _ {v : Table E} {root : Option Place} {s : List Place} (x : Represents n v root s) where
    pub whole_tree : IsTreeOf n v root None x.tree
    whole_tree = record { entries = x.held.entries; distinct = subst IsDistinct (sym x.held.order) x.held.distinct; root_is = x.starts }

    pub whole_low : height x.tree ≤ turns
    whole_low = let low : height x.tree < turns = represented_low n (stands_of n x.held) x.shape in omega (arith, low)

    pub taken_apart : {w : Table E} {first back : Option Place} → ((g : Cut) → Represents n v root (join g) → IsBeside Left g None → IsBeside Right g back)
        → BecomesVine n v w first (in_order x.tree) None → Rearranges (RepresentsVine n) v w (list_head first back) s
    taken_apart {w} {first} {back} leads h' =
        let h = subst (λ z. BecomesVine n v w first z None) x.held.order h' in
        record {
          shows = record { distinct = x.held.distinct; chain = h.vine; head = h.first_is; tail = leads (at_back s) (subst (λ z. Represents n v root z) (sym (append-nil s)) x) refl };
          frame = h.frame;
        }

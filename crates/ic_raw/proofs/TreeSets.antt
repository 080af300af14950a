-- These lemmas say what an edit of a tree leaves, whatever the words contain: which places are linked, and out of which sets of places no link leads.
use Rattle.std.proofs.Common.{◌≡◌, ◌≢◌, ◌⊎◌, ℕ, Bool, true, false, cond, nat_lt, Option, Some, None, List, [], ◌∷◌, refl, sym, ap, ◌∙◌, subst, inl, inr, eq-eqb, lt-ltb}
use Rattle.ic_link_ops.specs.Prelude.{Place, index_of, Extent, Table, ChangesOnly, LinksAlso, Unlinks, Exchanges, LinkStep, TraceIs, Node, is_end}
use Rattle.ic_link_ops.proofs.Prelude.{same_or_not, none_not, some_same, is_end_not}
use Rattle.ic_link_ops.specs.StepLaws.{trace_within}
use Rattle.ic_rbtree.specs.Closed.{IsIn, AreIn, IsClosed, IsClosedBut, StaysClosed}
use Rattle.ic_raw.specs.declared.nodes.Seen.{Seen}
use Rattle.ic_raw.specs.declared.table.RawTable.{RawTable}
use Rattle.ic_raw.specs.declared.words.RawThree.{RawThree}
use Rattle.ic_raw.specs.Seen.{seen, seen_node, has_place, also, NamesWithin, IsWithin, KeepsMarks, StaysWithin, HandsOutReached}
use Rattle.ic_raw.specs.Prelude.{raw_entries, IsFree, is_linked_three}
use Rattle.ic_raw.specs.Tree.{table_of, lent_table}
use Rattle.ic_raw.proofs.Seen.{seen_changes}
use Rattle.ic_raw.proofs.Trees.{closed, in_kept}

-- A PLACE p IS LINKED, and another place `out` is then unlinked. The whole edit exchanges the two places
pub exchanges : {E : Type 0} {linked : E → Bool} {old mid new : Table E} {p out : Place} → LinksAlso linked old mid p → p ≢ out → Unlinks linked mid new out
    → Exchanges linked old new p out
exchanges {p = p} {out} on apart off = record {
  was = on.was;
  is = off.others p apart ∙ on.is;
  out_was = sym (on.others out (λ e. apart (sym e))) ∙ off.was;
  out_is = off.is;
  others = λ q n m. off.others q m ∙ on.others q n;
}

-- if o is none or a place in the set S, it is also none or a place in each larger set T
in_more : {S T : Place → Bool} → ((q : Place) → S q ≡ true → T q ≡ true) → (o : Option Place) → IsIn S o → IsIn T o
in_more outer None i = tt
in_more outer (Some q) i = outer q i

-- A SET TO WHICH THE PLACE p IS ADDED has p and all places of the set, and no others
also_here : (p : Place) (S : Place → Bool) → also (Some p) S p ≡ true
also_here p S = ap (λ b. cond b true (S p)) (eq-eqb (index_of p) (index_of p) refl)

also_more : (came : Option Place) (S : Place → Bool) (q : Place) → S q ≡ true → also came S q ≡ true
also_more came S q h = pick (is_end came q) where
  pick : (b : Bool) → cond b true (S q) ≡ true
  pick true = refl
  pick false = h

also_inner : (p : Place) (S : Place → Bool) (q : Place) → also (Some p) S q ≡ true → q ≢ p → S q ≡ true
also_inner p S q h apart = sym (ap (λ b. cond b true (S q)) (is_end_not (Some p) q (λ e. apart (sym (some_same e))))) ∙ h

-- if a set has the root, and no link leads out of the set except from the place `but`, the root is none or belongs to the table
in_nodes : {t : Table RawThree} {root but : Option Place} {S : Place → Bool} → IsClosedBut seen_node (seen t) root but S → IsIn (has_place t) root
in_nodes {t} {root} h = in_more {T = has_place t} h.linked root h.starts

module _ {t u : Table RawThree} {p : Place} (only : ChangesOnly t u p) where
  -- if only the words of p change, the words of each other place still name only places of the table
  changed_within : (q : Place) → q ≢ p → IsWithin t q → IsWithin u q
  changed_within q apart h =
      subst (λ (x : Extent). NamesWithin x.places (u.entry q)) (sym only.extent) (subst (NamesWithin t.extent.places) (sym (only.others q apart)) h)

  -- if no link led out of the set S, only the links of p can lead out of the set T, which has the places of S and perhaps p
  reopened : {root : Option Place} {S T : Place → Bool} → IsClosed seen_node (seen t) root S → ((q : Place) → T q ≡ true → has_place t q ≡ true)
      → ((q : Place) → T q ≡ true → q ≢ p → S q ≡ true) → ((q : Place) → S q ≡ true → T q ≡ true) → IsClosedBut seen_node (seen u) root (Some p) T
  reopened {root} {S} {T} h places inner outer = record {
    linked = λ q m. ap (λ (x : Extent). nat_lt (index_of q) x.places) only.extent ∙ places q m;
    left = λ q m out. moved (λ n. n.left) q (λ e. out (ap Some (sym e))) (h.left q (inner q m (λ e. out (ap Some (sym e)))) (none_not q));
    right = λ q m out. moved (λ n. n.right) q (λ e. out (ap Some (sym e))) (h.right q (inner q m (λ e. out (ap Some (sym e)))) (none_not q));
    parent = λ q m out. moved (λ n. n.parent) q (λ e. out (ap Some (sym e))) (h.parent q (inner q m (λ e. out (ap Some (sym e)))) (none_not q));
    starts = in_more outer root h.starts;
  } where
    moved : (r : Node → Option Place) (q : Place) → q ≢ p → IsIn S (r (seen_node ((seen t).entry q))) → IsIn T (r (seen_node ((seen u).entry q)))
    moved r q apart i =
        subst (λ (e : Seen). IsIn T (r (seen_node e))) (sym ((seen_changes t u p only).others q apart)) (in_more outer (r (seen_node ((seen t).entry q))) i)

-- A PLACE IS INSERTED: it is marked as linked, with words that name no other place, and is then inserted into the tree
pub came_within : {t mid u : Table RawThree} {p : Place} {root root' at : Option Place} → IsFree is_linked_three t p → ChangesOnly t mid p → IsWithin mid p
    → KeepsMarks mid u
    → ((T : Place → Bool) → IsClosedBut seen_node (seen mid) root (Some p) T → T p ≡ true → IsIn T at → IsClosed seen_node (seen u) root' T)
    → IsIn (has_place t) root → IsIn (has_place t) at → StaysWithin t u root root' (Some p) None (at ∷ [])
came_within {t} {mid} {u} {p} {root} {root'} {at} free only bare keeps_links puts root_in at_in = record {
  extent = keeps_links.extent ∙ only.extent;
  starts = in_nodes (stays (has_place t) (closed t root root_in) at_in);
  names = λ q out h. keeps_links.names q (elim (same_or_not q p) [
    | inl e ↦ subst (IsWithin mid) (sym e) bare
    | inr n ↦ elim h [ inl e ↦ absurd (n (sym (some_same e))) | inr w ↦ changed_within only q n w ]
  ]);
  closed = λ S h ends. stays S h ends.0;
} where
  has : has_place t p ≡ true
  has = lt-ltb (index_of p) t.extent.places free.covered

  places : {S : Place → Bool} → IsClosed seen_node (seen t) root S → (q : Place) → also (Some p) S q ≡ true → has_place t q ≡ true
  places {S} h q m = elim (same_or_not q p) [
    | inl e ↦ subst (λ z. has_place t z ≡ true) (sym e) has
    | inr n ↦ h.linked q (also_inner p S q m n)
  ]

  stays : (S : Place → Bool) → IsClosed seen_node (seen t) root S → IsIn S at → IsClosed seen_node (seen u) root' (also (Some p) S)
  stays S h i = puts (also (Some p) S) (reopened only h (places h) (also_inner p S) (also_more (Some p) S)) (also_here p S) (in_more (also_more (Some p) S) at i)

-- NO PLACE IS INSERTED: the edit keeps the marks, and keeps each set out of which no link leads
pub stays_within : {t u : Table RawThree} {root root' : Option Place} {ends : List (Option Place)} → KeepsMarks t u
    → StaysClosed seen_node (seen t) (seen u) root root' ends []
    → IsIn (has_place t) root → AreIn (has_place t) ends → StaysWithin t u root root' None None ends
stays_within {t} {root = root} keeps_links stays root_in ends_in = record {
  extent = keeps_links.extent;
  starts = in_nodes (stays (has_place t) (closed t root root_in) ends_in).0;
  names = λ q out h. elim h [ inl e ↦ absurd (none_not q e) | inr w ↦ keeps_links.names q w ];
  closed = λ S h ends. (stays S h ends).0;
}

-- A PLACE IS REMOVED: at the end of the edit it is unlinked, and only its words change
pub left_within : {t mid u : Table RawThree} {p : Place} {root root' came : Option Place} {ends : List (Option Place)}
    → StaysWithin t mid root root' came None ends → ChangesOnly mid u p
    → StaysWithin t u root root' came (Some p) ends
left_within {t} {mid} {u} {p} {root' = root'} {came} stays only = record {
  extent = only.extent ∙ stays.extent;
  starts = in_kept mid u root' only.extent stays.starts;
  names = λ q out h. changed_within only q (λ e. out (ap Some (sym e))) (stays.names q (none_not q) h);
  closed = λ S h ends. let k = stays.closed S h ends in reopened only k k.linked (λ q m n. m) (λ q m. m);
}

-- if links lead from the root to the end `at`, then `StaysWithin` also holds without `at` in the list of ends
pub led_within : {t u : Table RawThree} {root root' at came left : Option Place} → ((S : Place → Bool) → IsClosed seen_node (seen t) root S → IsIn S at)
    → StaysWithin t u root root' came left (at ∷ []) → StaysWithin t u root root' came left []
led_within leads stays = record { extent = stays.extent; starts = stays.starts; names = stays.names; closed = λ S h ends. stays.closed S h (leads S h, tt) }

-- WHAT HOLDS OF A VIEW holds of the words that the caller lent
closed_as : {v w : Table Seen} {root but : Option Place} {S : Place → Bool} → ((q : Place) → w.entry q ≡ v.entry q) → IsClosedBut seen_node v root but S
    → IsClosedBut seen_node w root but S
closed_as {S = S} same h = record {
  linked = λ q m. ap (λ (e : Seen). (seen_node e).linked) (same q) ∙ h.linked q m;
  left = λ q m out. subst (λ (e : Seen). IsIn S (seen_node e).left) (sym (same q)) (h.left q m out);
  right = λ q m out. subst (λ (e : Seen). IsIn S (seen_node e).right) (sym (same q)) (h.right q m out);
  parent = λ q m out. subst (λ (e : Seen). IsIn S (seen_node e).parent) (sym (same q)) (h.parent q m out);
  starts = h.starts;
}

module _ (a b : RawTable RawThree) {es fs : List RawThree} where
  pub within_back : {root root' r r' came left c l : Option Place} {ends os : List (Option Place)} → raw_entries a ≡ es → fs ≡ raw_entries b
      → r ≡ root → r' ≡ root' → c ≡ came → l ≡ left → os ≡ ends → StaysWithin (lent_table a) (lent_table b) root root' came left ends → StaysWithin (table_of es) (table_of fs) r r' c l os
  within_back {root} {root'} {came = came} {left} {ends = ends} e f x x' y z o stays =
      let back : StaysWithin (table_of (raw_entries a)) (table_of (raw_entries b)) root root' came left ends = record {
        extent = ap (λ (n : Extent). record { places = n.places; identity = [] }) stays.extent;
        starts = stays.starts;
        names = stays.names;
        closed = λ S h ends. closed_as (λ q. refl) (stays.closed S (closed_as (λ q. refl) h) ends);
      } in
      rw (← e, f, x, x', y, z, o) back

  pub steps_back : (steps : List LinkStep) → raw_entries a ≡ es → fs ≡ raw_entries b → TraceIs is_linked_three (lent_table a) (lent_table b) steps
      → TraceIs is_linked_three (table_of es) (table_of fs) steps
  steps_back steps e f makes =
      let back : TraceIs is_linked_three (table_of (raw_entries a)) (table_of (raw_entries b)) steps = trace_within is_linked_three _ _ steps _ _ makes in
      rw (← e, f) back

  pub exchanges_back : {p out : Place} → raw_entries a ≡ es → fs ≡ raw_entries b → Exchanges is_linked_three (lent_table a) (lent_table b) p out
      → Exchanges is_linked_three (table_of es) (table_of fs) p out
  exchanges_back {p} {out} e f x =
      let back : Exchanges is_linked_three (table_of (raw_entries a)) (table_of (raw_entries b)) p out =
      record { was = x.was; is = x.is; out_was = x.out_was; out_is = x.out_is; others = x.others } in
      rw (← e, f) back

-- if links lead to a place in a view, they lead to it in the words that the caller lent
pub reached_back : (a : RawTable RawThree) {es : List RawThree} {root : Option Place} (ends : List (Option Place)) (number : ℕ) → raw_entries a ≡ es
    → HandsOutReached (lent_table a) root ends number → HandsOutReached (table_of es) root ends number
reached_back a {root = root} ends number e out =
    let back : HandsOutReached (table_of (raw_entries a)) root ends number = (out.0, out.1, out.2, (λ S h i. out.3 S (closed_as (λ q. refl) h) i)) in
    rw (← e) back

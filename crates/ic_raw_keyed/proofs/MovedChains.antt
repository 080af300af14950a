-- Lemmas on the members of a chain that are reversed and then moved to other buckets.
use Rattle.std.proofs.Common.{◌≡◌, ◌<◌, ◌≤◌, ◌-◌, ◌%◌, ℕ, true, inl, inr, Option, Some, None, List, [], ◌∷◌, ◌++◌, drop, reverse, length, slice_set, refl, sym, ap, ◌∙◌, subst, arith, append_assoc, append-nil, mod-lt}
use Rattle.std.specs.List.{AllByRecursion}
use Rattle.std.proofs.lemmas.Bool.Decides.{eqb_tells}
use Rattle.std.proofs.lemmas.List.{reverse-reverse, get_or-set_same, get_or-set_other}
use Rattle.ic_link_ops.specs.Prelude.{Place, first, IsAbsent, IsDisjoint, IsDistinct, IsMember, Table, ChangesOnly, ChangesOnlyIn, Front, IsFollowed, Successor, list_from, successor_at}
use Rattle.ic_link_ops.specs.Chains.{IsChain}
use Rattle.ic_link_ops.specs.NumberedCollections.{with_at}
use Rattle.ic_link_ops.proofs.Chains.{chain_kept}
use Rattle.ic_link_ops.proofs.SequenceLemmas.{absent_left, absent_reverse, absent_right, absent_swap, disjoint_cons, disjoint_nothing, disjoint_sym, distinct_middle, fewer, first_is, none_not, nothing_first, reverse_cons, some_same, split_member}
use Rattle.ic_link_ops.proofs.RepresentedLists.{represents_frame}
use Rattle.ic_raw.specs.declared.table.RawTable.{RawTable}
use Rattle.ic_raw.specs.declared.words.RawFront.{RawFront}
use Rattle.ic_raw.specs.declared.words.RawOne.{RawOne}
use Rattle.ic_raw.specs.Prelude.{IsNoneOrLinked, HoldsChains, bucket_at, chain_of, slot_of, key_of, raw_entries, is_linked_one, no_word}
use Rattle.ic_raw.specs.Singly.{Represents, RepresentsList, front_of, lent_table, successor, table_of, word_of_front}
use Rattle.ic_raw.proofs.Entries.{place_kept}
use Rattle.ic_raw.proofs.HashTables.{changes_chain, chain_written, holds_again}
use Rattle.ic_raw.proofs.HashWalks.{represented_after}
use Rattle.ic_raw.proofs.Lists.{kept}
use Rattle.ic_raw.proofs.Singly.{after_any}
use Rattle.ic_raw.proofs.Views.{frame_back, represented_back, viewed}
use Rattle.ic_raw_keyed.specs.Growth.{LeadsToLinked, StaysOrGets, leading_to, slot_for}
use Rattle.ic_raw_keyed.specs.Spreading.{Spreads, spread_over}

-- only the entry of p changes from u to v: p is linked to the first member of a list, and becomes the first member itself
module _ {u v : Table RawOne} {p : Place} (only : ChangesOnly u v p) where
  same_chain : (s : List Place) → IsAbsent p s → IsChain (IsFollowed successor) u.entry None s None → IsChain (IsFollowed successor) v.entry None s None
  same_chain s out chain =
      chain_kept (IsFollowed successor) u.entry v.entry None s None (λ q member. only.others q (λ e. member (subst (λ (z : Place). IsAbsent z s) (sym e) out))) chain

  pub turned_represents : {front : Option Place} (s : List Place) → successor_at successor v p ≡ record { linked = true; next = front } → Represents u (list_from front) s
      → IsAbsent p s → Represents v (list_from (Some p)) (p ∷ s)
  turned_represents {front} s set shown out = record {
    distinct = (out, shown.distinct);
    chain = (
      record { linked = ap (λ (x : Successor). x.linked) set; next = ap (λ (x : Successor). x.next) set ∙ shown.head },
      after_any v.entry None (Some p) s None (same_chain s out shown.chain),
    );
    head = refl;
    tail = refl;
  }

  -- the members after p in a list are still a list in v
  pub turned_rest : (r : List Place) → Represents u (list_from (Some p)) (p ∷ r) → Represents v (list_from (successor_at successor u p).next) r
  turned_rest r shown =
      let rest = represented_after [] p r shown in record { distinct = rest.distinct; chain = same_chain r shown.distinct.0 rest.chain; head = rest.head; tail = refl }

-- a list with at most 0 members has no first member
none_left : (w : List Place) → length w ≤ 0 → first w ≡ None
none_left [] few = refl
none_left (x ∷ w) few = absurd (omega (arith, few))

-- the members of s before `at` are reversed: they are a list that begins at `back`, the last of them first. The members from `at` on are still a list
pub record Reverses (t u : Table RawOne) (s : List Place) (back at : Option Place) (left : ℕ) : Type 0 where
  pub ahead : List Place
  pub rest : List Place
  pub parts : s ≡ reverse ahead ++ rest
  pub turned : Represents u (list_from back) ahead
  pub after : Represents u (list_from at) rest
  pub few : length rest ≤ left
  pub frame : ChangesOnlyIn t u s

pub reverse_none : {t : Table RawOne} {front : Option Place} {s : List Place} {left : ℕ} → Represents t (list_from front) s → length s ≤ left → Reverses t t s None front left
reverse_none {s = s} shown few = record {
  ahead = [];
  rest = s;
  parts = refl;
  turned = record { distinct = tt; chain = tt; head = refl; tail = refl };
  after = shown;
  few = few;
  frame = record { extent = refl; others = λ q out. refl };
}

pub reverse_more : {t u v : Table RawOne} {s : List Place} {back : Option Place} {p : Place} (next : Option Place) {left : ℕ} → IsDistinct s → Reverses t u s back (Some p) left
    → ChangesOnly u v p → successor_at successor v p ≡ record { linked = true; next = back } → next ≡ (successor_at successor u p).next
    → Reverses t v s (Some p) next (left - 1)
reverse_more {t} {u} {v} {s} {back} {p} next {left} distinct k only set next_is =
    let r = drop 1 k.rest in
    let is : k.rest ≡ p ∷ r = first_is k.rest k.after.head in
    let whole : s ≡ reverse k.ahead ++ p ∷ r = k.parts ∙ ap (λ (l : List Place). reverse k.ahead ++ l) is in
    let here : Represents u (list_from (Some p)) (p ∷ r) = subst (λ (l : List Place). Represents u (list_from (Some p)) l) is k.after in
    let out : IsAbsent p (reverse k.ahead) = absent_left p (reverse k.ahead) r (distinct_middle (reverse k.ahead) r p (subst IsDistinct whole distinct)) in
    let away : IsAbsent p k.ahead = subst (IsAbsent p) (reverse-reverse k.ahead) (absent_reverse p (reverse k.ahead) out) in
    let less = fewer k.rest p k.after.head in
    let few = k.few in
    record {
      ahead = p ∷ k.ahead;
      rest = r;
      parts = whole ∙ sym (append_assoc (reverse k.ahead) (p ∷ []) r) ∙ ap (λ (l : List Place). l ++ r) (sym (reverse_cons p k.ahead));
      turned = turned_represents only k.ahead set k.turned away;
      after = subst (λ (o : Option Place). Represents v (list_from o) r) (sym next_is) (turned_rest only r here);
      few = omega (arith, less, few);
      frame = record {
        extent = only.extent ∙ k.frame.extent;
        others = λ q absent. only.others q (absent_right q (reverse k.ahead) (p ∷ r) (subst (IsAbsent q) whole absent)).0 ∙ k.frame.others q absent;
      };
    }

pub reverse_over : {t u : Table RawOne} {s : List Place} {back at : Option Place} {left : ℕ} → Reverses t u s back at left → left ≤ 0 → at ≡ None
reverse_over k over = let few = k.few in k.after.head ∙ none_left k.rest (omega (arith, few, over))

pub reverse_done : {t u : Table RawOne} {s : List Place} {back at : Option Place} {left : ℕ} → Reverses t u s back at left → at ≡ None → Represents u (list_from back) (reverse s)
reverse_done {u = u} {s} {back} k none =
    let nothing : k.rest ≡ [] = nothing_first k.rest (sym none ∙ k.after.head) in
    let all : s ≡ reverse k.ahead = k.parts ∙ ap (λ (l : List Place). reverse k.ahead ++ l) nothing ∙ append-nil (reverse k.ahead) in
    subst (λ (l : List Place). Represents u (list_from back) l) (sym (reverse-reverse k.ahead) ∙ ap (λ (l : List Place). reverse l) (sym all)) k.turned

-- if p is moved after the members of d, p comes to the front of the chain to which the hash of p leads
spread_push : (hashes : List ℕ) (n : ℕ) (chains : ℕ → List Place) (d : List Place) (p : Place)
    → spread_over hashes n chains (d ++ p ∷ []) ≡ with_at (spread_over hashes n chains d) (slot_for hashes n p) (p ∷ spread_over hashes n chains d (slot_for hashes n p))
spread_push hashes n chains [] p = refl
spread_push hashes n chains (x ∷ d) p = spread_push hashes n (with_at chains (slot_for hashes n x) (x ∷ chains (slot_for hashes n x))) d p

-- if the members of the reversed sequence move to the front of their chains, one after the other, they have the order of the sequence s in each chain
pub spread_reversed : (hashes : List ℕ) (n : ℕ) (chains : ℕ → List Place) (s : List Place) (i : ℕ)
    → spread_over hashes n chains (reverse s) i ≡ leading_to hashes n i s ++ chains i
spread_reversed hashes n chains [] i = refl
spread_reversed hashes n chains (p ∷ s) i =
    let k = slot_for hashes n p in
    ap (λ (l : List Place). spread_over hashes n chains l i) (reverse_cons p s)
    ∙ ap (λ (f : ℕ → List Place). f i) (spread_push hashes n chains (reverse s) p)
    ∙ elim (eqb_tells k i) [
      | inl e ↦ rw e.0 (ap (λ (l : List Place). p ∷ l) (ap (spread_over hashes n chains (reverse s)) e.1 ∙ spread_reversed hashes n chains s i))
      | inr m ↦ rw m.0 (spread_reversed hashes n chains s i)
    ]

-- if c and d give the same chain for each number, buckets that hold the chains of c also hold the chains of d
pub holds_as : {words : List RawOne} {buckets : List RawFront} {c d : ℕ → List Place} → ((i : ℕ) → c i ≡ d i) → HoldsChains words buckets c → HoldsChains words buckets d
holds_as {words} {buckets} {c} {d} same h = record {
  shown = λ i fits. subst (RepresentsList words (bucket_at buckets i)) (same i) (h.shown i fits);
  apart = λ i j fits fits' differ. subst (IsDisjoint (d i)) (same j) (subst (λ (l : List Place). IsDisjoint l (c j)) (same i) (h.apart i j fits fits' differ));
}

-- if only entries of places of s change, and no place of s is a member of a chain, the buckets hold the same chains as before
pub holds_beside : {es fs : List RawOne} {buckets : List RawFront} {chains : ℕ → List Place} (s : List Place) → HoldsChains es buckets chains
    → ChangesOnlyIn (table_of es) (table_of fs) s → ((i : ℕ) → i < length buckets → IsDisjoint (chains i) s) → HoldsChains fs buckets chains
holds_beside s h frame away = record { shown = λ i fits. represents_frame s (h.shown i fits) (away i fits) frame.others; apart = h.apart }

pub apart_reversed : (s t : List Place) → IsDisjoint s t → IsDisjoint s (reverse t)
apart_reversed s t apart = absent_swap s t apart (reverse t) (λ q out. absent_reverse q t out)

-- the members of r before `at` were moved to their buckets, and the members from `at` on are still a list
pub record SpreadsTo (hashes : List ℕ) (t u : RawTable RawOne) (b c : List RawFront) (r : List Place) (at : Option Place) (left : ℕ) : Type 0 where
  pub done : List Place
  pub rest : List Place
  pub parts : r ≡ done ++ rest
  pub after : Represents (lent_table u) (list_from at) rest
  pub few : length rest ≤ left
  pub frame : ChangesOnlyIn (lent_table t) (lent_table u) r
  pub holds : (chains : ℕ → List Place) → HoldsChains (raw_entries t) b chains → ((i : ℕ) → i < length b → IsDisjoint (chains i) r)
      → HoldsChains (raw_entries u) c (spread_over hashes (length b) chains done)
      × ((i : ℕ) → i < length b → IsDisjoint (spread_over hashes (length b) chains done i) rest)
  pub own : (i : ℕ) → StaysOrGets hashes b c r i

pub spread_none : {hashes : List ℕ} (t : RawTable RawOne) {b : List RawFront} {r : List Place} {front : Option Place} {left : ℕ} → Represents (lent_table t) (list_from front) r
    → length r ≤ left → SpreadsTo hashes t t b b r front left
spread_none t {r = r} shown few = record {
  done = [];
  rest = r;
  parts = refl;
  after = shown;
  few = few;
  frame = record { extent = refl; others = λ q out. refl };
  holds = λ chains h apart. (h, apart);
  own = λ i. inl refl;
}

module _ {hashes : List ℕ} {t u : RawTable RawOne} (v : RawTable RawOne) {b c : List RawFront} {r : List Place} {p : Place} {left : ℕ} (next : Option Place) (i : ℕ)
    (k : SpreadsTo hashes t u b c r (Some p) left) (count : length c ≡ length b) (only : ChangesOnly (lent_table u) (lent_table v) p)
    (set : successor_at successor (lent_table v) p ≡ record { linked = true; next = front_of (bucket_at c i) })
    (next_is : next ≡ (successor_at successor (lent_table u) p).next) (slot : i ≡ slot_for hashes (length c) p) (fits : i < length c) where
  rest_is : k.rest ≡ p ∷ drop 1 k.rest
  rest_is = first_is k.rest k.after.head

  whole : r ≡ k.done ++ p ∷ drop 1 k.rest
  whole = k.parts ∙ ap (λ (l : List Place). k.done ++ l) rest_is

  here : Represents (lent_table u) (list_from (Some p)) (p ∷ drop 1 k.rest)
  here = subst (λ (l : List Place). Represents (lent_table u) (list_from (Some p)) l) rest_is k.after

  slot_b : i ≡ slot_for hashes (length b) p
  slot_b = slot ∙ ap (λ (n : ℕ). key_of hashes p % n) count

  module _ {chains : ℕ → List Place} (now : HoldsChains (raw_entries u) c chains) (apart : (j : ℕ) → j < length b → IsDisjoint (chains j) k.rest) where
    away : (j : ℕ) → j < length b → IsAbsent p (chains j) × IsDisjoint (drop 1 k.rest) (chains j)
    away j fits' =
        let both : IsDisjoint (p ∷ drop 1 k.rest) (chains j) = disjoint_sym (chains j) (p ∷ drop 1 k.rest) (subst (IsDisjoint (chains j)) rest_is (apart j fits')) in both

    fits_b : i < length b
    fits_b = subst (λ (n : ℕ). i < n) count fits

    -- after the place p was moved to bucket i, the chain in this bucket is p and then the members that were there
    begins : RepresentsList (raw_entries v) (chain_of (slice_set c i (word_of_front (Some p))) (key_of hashes p)) (p ∷ chains i)
    begins =
        let old : Represents (lent_table u) (list_from (front_of (bucket_at c i))) (chains i) = viewed no_word kept u refl (now.shown i fits) in
        let new : RepresentsList (raw_entries v) (word_of_front (Some p)) (p ∷ chains i) =
        subst (λ (o : Option Place). Represents (table_of (raw_entries v)) (list_from o) (p ∷ chains i)) (sym (place_kept (Some p)))
        (represented_back no_word kept v refl (turned_represents only (chains i) set old (away i fits_b).0)) in
        subst (λ (w : RawFront). RepresentsList (raw_entries v) w (p ∷ chains i)) (sym (chain_written c (key_of hashes p) i slot (word_of_front (Some p)) fits)) new

    -- after the place p was moved to bucket i, the buckets hold the chains with p in front of chain i, and the other chains as before
    spread_one : HoldsChains (raw_entries v) (slice_set c i (word_of_front (Some p))) (with_at chains i (p ∷ chains i))
    spread_one =
        let only_p : ChangesOnlyIn (lent_table u) (lent_table v) (p ∷ []) = record { extent = only.extent; others = λ q out. only.others q out.0 } in
        subst (λ (n : ℕ). HoldsChains (raw_entries v) (slice_set c i (word_of_front (Some p))) (with_at chains n (p ∷ chains n))) (sym slot)
        (holds_again now (key_of hashes p) (subst (λ (n : ℕ). n < length c) slot fits) (changes_chain c (key_of hashes p) i slot (word_of_front (Some p)))
        (p ∷ chains (slot_of c (key_of hashes p))) (p ∷ [])
        (subst (λ (n : ℕ). RepresentsList (raw_entries v) (chain_of (slice_set c i (word_of_front (Some p))) (key_of hashes p)) (p ∷ chains n)) slot begins)
        (frame_back no_word u v only_p)
        (λ j fits' other.
        let out = (away j (subst (λ (n : ℕ). j < n) count fits')).0 in (
          disjoint_cons p (chains j) [] out (disjoint_nothing (chains j)),
          disjoint_cons p (chains j) (chains (slot_of c (key_of hashes p))) out
              (now.apart j (slot_of c (key_of hashes p)) fits' (subst (λ (n : ℕ). n < length c) slot fits) other),
        )))

    still_apart : (j : ℕ) → j < length b → IsDisjoint (with_at chains i (p ∷ chains i) j) (drop 1 k.rest)
    still_apart j fits' = elim (eqb_tells i j) [
      | inl e ↦ rw e.0 (here.distinct.0, disjoint_sym (drop 1 k.rest) (chains i) (away i fits_b).1)
      | inr m ↦ rw m.0 (disjoint_sym (drop 1 k.rest) (chains j) (away j fits').1)
    ]

  own_more : (j : ℕ) → StaysOrGets hashes b (slice_set c i (word_of_front (Some p))) r j
  own_more j = elim (eqb_tells i j) [
    | inl e ↦ inr (
      p,
      subst (IsMember p) (sym whole) (split_member k.done p (drop 1 k.rest)),
      sym slot_b ∙ e.1,
      ap (bucket_at (slice_set c i (word_of_front (Some p)))) (sym e.1) ∙ get_or-set_same c i (word_of_front (Some p)) (word_of_front None) fits,
    )
    | inr m ↦
        let stays : bucket_at (slice_set c i (word_of_front (Some p))) j ≡ bucket_at c j =
        get_or-set_other c i j (word_of_front (Some p)) (word_of_front None) (λ e. m.1 (sym e)) in
        elim (k.own j) [ inl same ↦ inl (stays ∙ same) | inr gets ↦ inr (gets.0, gets.1, gets.2, stays ∙ gets.3) ]
  ]

  -- after the next member p was moved to its bucket, the members of r before `next` are in their buckets
  pub spread_more : SpreadsTo hashes t v b (slice_set c i (word_of_front (Some p))) r next (left - 1)
  spread_more =
      let less = fewer k.rest p k.after.head in
      let few = k.few in
      record {
        done = k.done ++ p ∷ [];
        rest = drop 1 k.rest;
        parts = whole ∙ sym (append_assoc k.done (p ∷ []) (drop 1 k.rest));
        after = subst (λ (o : Option Place). Represents (lent_table v) (list_from o) (drop 1 k.rest)) (sym next_is) (turned_rest only (drop 1 k.rest) here);
        few = omega (arith, less, few);
        frame = record {
          extent = only.extent ∙ k.frame.extent;
          others = λ q absent. only.others q (absent_right q k.done (p ∷ drop 1 k.rest) (subst (IsAbsent q) whole absent)).0 ∙ k.frame.others q absent;
        };
        holds = λ chains h apart.
            let now = k.holds chains h apart in
            let cs = spread_over hashes (length b) chains k.done in
            let pushed : with_at cs i (p ∷ cs i) ≡ spread_over hashes (length b) chains (k.done ++ p ∷ []) =
            ap (λ (n : ℕ). with_at cs n (p ∷ cs n)) slot_b ∙ sym (spread_push hashes (length b) chains k.done p) in (
              subst (λ (f : ℕ → List Place). HoldsChains (raw_entries v) (slice_set c i (word_of_front (Some p))) f) pushed (spread_one now.0 now.1),
              λ j fits'. subst (λ (f : ℕ → List Place). IsDisjoint (f j) (drop 1 k.rest)) pushed (still_apart now.0 now.1 j fits'),
            );
        own = own_more;
      }

pub spread_over_now : {hashes : List ℕ} {t u : RawTable RawOne} {b c : List RawFront} {r : List Place} {at : Option Place} {left : ℕ} → SpreadsTo hashes t u b c r at left → left ≤ 0
    → at ≡ None
spread_over_now k over = let few = k.few in k.after.head ∙ none_left k.rest (omega (arith, few, over))

pub spread_done : {hashes : List ℕ} {t u : RawTable RawOne} {b c : List RawFront} {r : List Place} {at : Option Place} {left : ℕ} → SpreadsTo hashes t u b c r at left → at ≡ None
    → Spreads hashes t u b c r
spread_done {hashes} {t} {u} {b} {c} {r} k none =
    let nothing : k.rest ≡ [] = nothing_first k.rest (sym none ∙ k.after.head) in
    let all : k.done ≡ r = sym (k.parts ∙ ap (λ (l : List Place). k.done ++ l) nothing ∙ append-nil k.done) in
    record {
      holds = λ chains h apart. subst (λ (d : List Place). HoldsChains (raw_entries u) c (spread_over hashes (length b) chains d)) all (k.holds chains h apart).0;
      frame = k.frame;
      own = k.own;
    }

-- if the members `rest` are a list that begins at p, p is linked
pub represented_linked : {u : Table RawOne} {p : Place} (rest : List Place) → Represents u (list_from (Some p)) rest → is_linked_one (u.entry p) ≡ true
represented_linked {u} {p} rest after = (subst (λ (l : List Place). Represents u (list_from (Some p)) l) (first_is rest after.head) after).chain.0.linked

-- the first member of a list is linked
stand_front : {t : Table RawOne} {list : Front} (s : List Place) → Represents t list s → IsNoneOrLinked is_linked_one t list.head
stand_front [] shown q e = absurd (none_not q (sym shown.head ∙ e))
stand_front {t} (x ∷ s) shown q e = subst (λ (z : Place). is_linked_one (t.entry z) ≡ true) (some_same (sym shown.head ∙ e)) shown.chain.0.linked

-- if the buckets hold chains, the hash of each place leads to a bucket that is empty or begins with a linked place
pub all_stand : (hashes : List ℕ) (t : RawTable RawOne) {buckets : List RawFront} {chains : ℕ → List Place} → HoldsChains (raw_entries t) buckets chains → 1 ≤ length buckets
    → (s : List Place) → AllByRecursion (LeadsToLinked (lent_table t) hashes buckets) s
all_stand hashes t holds any [] = tt
all_stand hashes t {buckets} {chains} holds any (p ∷ s) =
    let in_bounds : slot_for hashes (length buckets) p < length buckets = mod-lt (key_of hashes p) (omega (arith, any)) in
    (stand_front (chains (slot_for hashes (length buckets) p)) (viewed no_word kept t refl (holds.shown (slot_for hashes (length buckets) p) in_bounds)), all_stand hashes t holds any s)

-- if a list is reversed and its members are spread, only entries of its members change
pub both_frames : {t u v : Table RawOne} (s : List Place) → ChangesOnlyIn t u s → ChangesOnlyIn u v (reverse s) → ChangesOnlyIn t v s
both_frames s one other = record { extent = other.extent ∙ one.extent; others = λ q out. other.others q (absent_reverse q s out) ∙ one.others q out }

-- if `StaysOrGets` holds for the members of s in reverse order, it holds for the members of s
pub own_reversed : (hashes : List ℕ) (buckets buckets' : List RawFront) (s : List Place) (i : ℕ) → StaysOrGets hashes buckets buckets' (reverse s) i
    → StaysOrGets hashes buckets buckets' s i
own_reversed hashes buckets buckets' s i k = elim k [ inl same ↦ inl same | inr gets ↦ inr (gets.0, (λ out. gets.1 (absent_reverse gets.0 s out)), gets.2, gets.3) ]

-- if only entries of s change in a view of the words, only entries of s change in the words
pub frame_words : (a b : RawTable RawOne) {es fs : List RawOne} {s : List Place} → raw_entries a ≡ es → fs ≡ raw_entries b → ChangesOnlyIn (lent_table a) (lent_table b) s
    → ChangesOnlyIn (table_of es) (table_of fs) s
frame_words a b {s = s} e f frame = let back : ChangesOnlyIn (table_of (raw_entries a)) (table_of (raw_entries b)) s = frame_back no_word a b frame in rw (← e, f) back

pub holds_words : (b : RawTable RawOne) {fs : List RawOne} {buckets : List RawFront} {chains : ℕ → List Place} → fs ≡ raw_entries b → HoldsChains (raw_entries b) buckets chains
    → HoldsChains fs buckets chains
holds_words b f holds = rw f holds

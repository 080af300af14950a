-- This file proves that a walk lists a part of a chain, and what each step of a walk from either end does.
use Rattle.std.proofs.Common.{◌≡◌, ◌≢◌, ℕ, zero, suc, ◌<◌, ◌≤◌, Option, Some, None, List, [], ◌∷◌, ◌++◌, drop, length, length-append, Bool, true, false, nat_eq, ◌||◌, Bor, refl, sym, ◌∙◌, ap, arith, subst, ne_eqb, eq-eqb, eqb-true, IsSome, option_copied}
use Rattle.std.specs.List.{AllByRecursion, cons_option}
use Rattle.std.specs.Iterator.{MakesProgress, item_count}
use Rattle.std.proofs.lemmas.Option.{same_Some}
use Rattle.ic_link_ops.specs.Base.{Place, index_of, IsAbsent, IsDistinct, first_or, last_or, first, last, but_last, Table, IsCovered}
use Rattle.ic_unsafe_ref.proofs.PlaceLemmas.{same_index, index_small}
use Rattle.ic_link_ops.specs.Chains.{ListHead, Ends, IsChain, IsStretch, RepresentsChain, RepresentsBetween}
use Rattle.ic_link_ops.specs.Walk.{walk, walked, is_end, GivesFirst, GivesLast}
use Rattle.ic_link_ops.proofs.Counting.{count, count_falls, count_at_most}
use Rattle.ic_link_ops.proofs.SequenceLemmas.{distinct_left, distinct_right, last_not, none_not, some_same, last_some, split_last}
use Rattle.ic_link_ops.proofs.Chains.{chain_cut, last_between, first_between}

nat_eq_refl : (i : ℕ) → nat_eq i i ≡ true
nat_eq_refl i = eq-eqb i i refl

-- If the end `to` is not p, `is_end to p` is false. If `is_end to p` is true, `to` is p, and if it is false, `to` is not p.
pub is_end_not : (to : Option Place) (p : Place) → to ≢ Some p → is_end to p ≡ false
is_end_not None p h = refl
is_end_not (Some q) p h = ne_eqb (index_of q) (index_of p) (λ e. h (ap Some (same_index q p e)))

pub is_end_yes : (to : Option Place) (p : Place) → is_end to p ≡ true → to ≡ Some p
is_end_yes None p e = cc
is_end_yes (Some q) p e = ap Some (same_index q p (eqb-true (index_of q) (index_of p) e))

pub is_end_no : (to : Option Place) (p : Place) → is_end to p ≡ false → to ≢ Some p
is_end_no to p e h = let k : is_end (Some p) p ≡ true = nat_eq_refl (index_of p) in let m : is_end (Some p) p ≡ false = rw h at e in cc

-- `member w i` says whether the place with the index i is a member of the sequence w.
abbrev member : List Place → ℕ → Bool
member [] i = false
member (x ∷ w) i = nat_eq (index_of x) i || member w i

member_absent : (q : Place) (w : List Place) → IsAbsent q w → member w (index_of q) ≡ false
member_absent q [] h = refl
member_absent q (x ∷ w) h = rw (ne_eqb (index_of x) (index_of q) (λ e. h.0 (sym (same_index x q e))), member_absent q w h.1) refl

length_count : (w : List Place) (n : ℕ) → IsDistinct w → AllByRecursion (λ q. index_of q < n) w → length w ≤ count (member w) n
length_count [] n d h = omega arith
length_count (x ∷ w) n d h =
    let falls = count_falls (member (x ∷ w)) (member w) (index_of x) n (λ i k. rw (ne_eqb (index_of x) i (λ e. k (sym e))) refl)
    (rw nat_eq_refl refl) (member_absent x w d.0) h.0 in
    omega (arith, falls, length_count w n d.1 h.1)

-- A sequence of distinct places with indexes below n has at most n members.
pub pigeonhole : (w : List Place) (n : ℕ) → IsDistinct w → AllByRecursion (λ q. index_of q < n) w → length w ≤ n
pigeonhole w n d h = omega (arith, length_count w n d h, count_at_most (member w) n)

-- Each place has an index below 2 ^ 33 - 1, so there are fewer than 2 ^ 33 places.
all_small : (s : List Place) → AllByRecursion (λ q. index_of q < 8589934591) s
all_small [] = tt
all_small (x ∷ s) = (index_small x, all_small s)

pub few_places : (s : List Place) → IsDistinct s → length s ≤ 8589934591
few_places s distinct = pigeonhole s 8589934591 distinct (all_small s)

-- If a step does not use the place before, a walk does not depend on the place that is before its first member.
pub walk_blind : {E : Type 0} (next : E → Option Place) (t : Place → E) (fuel : ℕ) (b b' from to : Option Place)
    → walk (λ e before. next e) t fuel b from to ≡ walk (λ e before. next e) t fuel b' from to
unfolding walk
walk_blind next t zero b b' from to = refl
walk_blind next t (suc fuel) b b' None to = refl
walk_blind next t (suc fuel) b b' (Some p) to = refl

-- `covered` says that the table covers each place whose entry names its neighbors. If so, the table covers each member of a
-- chain.
chain_covered : {E : Type 0} (between : E → Option Place → Option Place → Type 0) (t : Table E)
    → ((q : Place) (b a : Option Place) → between (t.entry q) b a → IsCovered t q)
    → (b : Option Place) (w : List Place) (a : Option Place) → IsChain between t.entry b w a → AllByRecursion (λ q. index_of q < t.extent.places) w
chain_covered between t covered b [] a c = tt
chain_covered between t covered b (x ∷ w) a c = (covered x b (first_or w a) c.0, chain_covered between t covered (Some x) w a c.1)

module _ {E : Type 0} {between : E → Option Place → Option Place → Type 0} where
  -- A part of a chain without a first place, or without a last place, has no members.
  pub stretch_none : {t : Place → E} {b a : Option Place} → IsStretch between t b None None a []
  stretch_none = record { distinct = tt; chain = tt; starts = refl; ends = refl }

  pub stretch_empty : {t : Place → E} {b from to a : Option Place} {w : List Place} → from ≡ None → IsStretch between t b from to a w → w ≡ []
  stretch_empty {w = []} e k = refl
  stretch_empty {w = x ∷ w} e k = absurd (none_not x (sym e ∙ k.starts))

  pub stretch_empty_back : {t : Place → E} {b from to a : Option Place} {w : List Place} → to ≡ None → IsStretch between t b from to a w → w ≡ []
  stretch_empty_back {w = []} e k = refl
  stretch_empty_back {w = x ∷ w} e k = absurd (last_some x w (sym k.ends ∙ e))

  -- If both ends of a part of a chain are the same place p, p is its only member.
  pub stretch_one : {t : Place → E} {b a : Option Place} {p : Place} {w : List Place} → IsStretch between t b (Some p) (Some p) a w → w ≡ p ∷ []
  stretch_one {p = p} {w = []} k = absurd (none_not p (sym k.starts))
  stretch_one {p = p} {w = x ∷ []} k = let e : Some p ≡ Some x = k.starts in cc
  stretch_one {p = p} {w = x ∷ y ∷ w} k =
      let e : p ≡ x = some_same k.starts in
      absurd (last_not (Some y) w x (λ h. k.distinct.0.0 (sym (some_same h))) k.distinct.0.1 (sym k.ends ∙ ap Some e))

  -- The whole sequence that a table represents for a list is one part of a chain.
  pub stretch_of : {W : Type 0} {kept : Option Place → W} {t : Table E} {list : ListHead W} {s : List Place} → RepresentsChain between kept t list s
      → IsStretch between t.entry None list.head (last s) None s
  stretch_of h = record { distinct = h.distinct; chain = h.chain; starts = h.head; ends = refl }

  pub stretch_between : {t : Table E} {list : Ends} {s : List Place} → RepresentsBetween between t list s → IsStretch between t.entry None list.head list.tail None s
  stretch_between h = record { distinct = h.distinct; chain = h.chain; starts = h.head; ends = h.tail }

  -- `stretch_first` and `stretch_last` say that the entry of the first and of the last member of a part of a chain names the
  -- member's neighbors.
  pub stretch_first : {t : Place → E} {b to a : Option Place} {p : Place} {w : List Place} → IsStretch between t b (Some p) to a w
      → between (t p) b (first_or (drop 1 w) a)
  stretch_first {p = p} {w = []} k = absurd (none_not p (sym k.starts))
  stretch_first {t} {b} {to} {a} {p} {w = x ∷ w} k = first_between between t b x w a k.chain (some_same k.starts)

  pub stretch_last : {t : Place → E} {b from a : Option Place} {p : Place} {w : List Place} → IsStretch between t b from (Some p) a w
      → between (t p) (last_or b (but_last w)) a
  stretch_last {t} {b} {from} {a} {p} {w} k = last_between between t b w a k.chain k.ends

  -- A part of a chain has at most as many members as the table covers places, if the table covers each place whose entry names
  -- its neighbors.
  pub stretch_length : (t : Table E) → ((q : Place) (b a : Option Place) → between (t.entry q) b a → IsCovered t q)
      → {b from to a : Option Place} {w : List Place} → IsStretch between t.entry b from to a w → length w ≤ t.extent.places
  stretch_length t covered {b} {from} {to} {a} {w} k = pigeonhole w t.extent.places k.distinct (chain_covered between t covered b w a k.chain)

  -- `law` says that a step leads from a place to the place after it.
  module _ (step : E → Option Place → Option Place) (law : (e : E) (b a : Option Place) → between e b a → step e b ≡ a) where
    walk_is : (t : Place → E) (w : List Place) (fuel : ℕ) (b a : Option Place) → IsDistinct w → IsChain between t b w a → length w ≤ fuel
        → walk step t fuel b (first w) (last w) ≡ w
    unfolding walk
    walk_is t [] zero b a d c h = refl
    walk_is t [] (suc m) b a d c h = refl
    walk_is t (x ∷ w) zero b a d c h = absurd (omega (arith, h))
    walk_is t (x ∷ []) (suc m) b a d c h = rw nat_eq_refl refl
    walk_is t (x ∷ y ∷ w) (suc m) b a d c h =
        let r = walk_is t (y ∷ w) m (Some x) a d.1 c.1 (omega (arith, h)) in
        rw (is_end_not (last_or (Some y) w) x (last_not (Some y) w x (λ e. d.0.0 (sym (some_same e))) d.0.1), law (t x) b (Some y) c.0)
        (ap (λ (l : List Place). x ∷ l) r)

    -- A walk from the first place of a part of a chain to its last place lists this part.
    pub stretch_walked : (t : Table E) → ((q : Place) (b a : Option Place) → between (t.entry q) b a → IsCovered t q)
        → {b from to a : Option Place} {w : List Place} → IsStretch between t.entry b from to a w → walked step t b from to ≡ w
    stretch_walked t covered {b} {from} {to} {a} {w} k =
        rw (k.starts, k.ends) (walk_is t.entry w t.extent.places b a k.distinct k.chain (stretch_length t covered k))

    walk_through : (t : Place → E) (w : List Place) (fuel : ℕ) (b : Option Place) → IsChain between t b w None → length w ≤ fuel
        → walk step t fuel b (first w) None ≡ w
    unfolding walk
    walk_through t [] zero b c h = refl
    walk_through t [] (suc m) b c h = refl
    walk_through t (x ∷ w) zero b c h = absurd (omega (arith, h))
    walk_through t (x ∷ w) (suc m) b c h =
        rw (law (t x) b (first w) c.0) (ap (λ (l : List Place). x ∷ l) (walk_through t w m (Some x) c.1 (omega (arith, h))))

    -- A walk that begins in a chain, and has no given last place, lists the rest of the chain.
    pub stretch_through : (t : Table E) → ((q : Place) (b a : Option Place) → between (t.entry q) b a → IsCovered t q)
        → {b from to : Option Place} {w : List Place} → IsStretch between t.entry b from to None w → walked step t b from None ≡ w
    stretch_through t covered {b} {from} {to} {w} k = rw k.starts (walk_through t.entry w t.extent.places b k.chain (stretch_length t covered k))

    -- If the first member p of a part of a chain is not the last one, the other members form a part that begins with the place
    -- after p.
    pub stretch_more : {t : Place → E} {b to a : Option Place} {p : Place} {w : List Place} → IsStretch between t b (Some p) to a w → to ≢ Some p
        → (r : List Place) × (w ≡ p ∷ r) × IsStretch between t (Some p) (step (t p) b) to a r
    stretch_more {p = p} {w = []} k apart = absurd (none_not p (sym k.starts))
    stretch_more {w = x ∷ []} k apart = absurd (apart (k.ends ∙ sym k.starts))
    stretch_more {t} {b} {to} {a} {p} {w = x ∷ y ∷ w} k apart =
        let e : p ≡ x = some_same k.starts in (
          y ∷ w,
          ap (λ (q : Place). q ∷ y ∷ w) (sym e),
          record {
            distinct = k.distinct.1;
            chain = rw e k.chain.1;
            starts = rw e (law (t x) b (Some y) k.chain.0);
            ends = k.ends;
          },
        )

  -- If the last member p of a part of a chain is not the first one, the other members form a part that ends with the place before
  -- p.
  pub stretch_less : (back : E → Option Place → Option Place) (law : (e : E) (b a : Option Place) → between e b a → back e a ≡ b)
      → {t : Place → E} {b from a : Option Place} {p : Place} {w : List Place} → IsStretch between t b from (Some p) a w → from ≢ Some p
      → (r : List Place) × (w ≡ r ++ p ∷ []) × IsStretch between t b from (back (t p) a) (Some p) r
  stretch_less back law {p = p} {w = []} k apart = absurd (none_not p (sym k.ends))
  stretch_less back law {w = x ∷ []} k apart = absurd (apart (k.starts ∙ sym k.ends))
  stretch_less back law {t} {b} {from} {a} {p} {w = x ∷ y ∷ w} k apart =
      let r = x ∷ but_last (y ∷ w) in
      let e : x ∷ y ∷ w ≡ r ++ p ∷ [] = split_last (x ∷ y ∷ w) (sym k.ends) in
      let P : List Place → Type 0 = λ l. IsChain between t b l a in
      let cut = chain_cut between t b r (p ∷ []) a (subst P e k.chain) in (
        r,
        e,
        record {
          distinct = distinct_left r (p ∷ []) (subst IsDistinct e k.distinct);
          chain = cut.0;
          starts = k.starts;
          ends = law (t p) (last_or b r) a cut.1.0;
        },
      )

  -- If an entry alone determines the place after, a walk from the first member after a gap reaches exactly the members after the
  -- gap.
  pub walked_from_gap : (next : E → Option Place) → ((e : E) (b a : Option Place) → between e b a → next e ≡ a)
      → (t : Table E) → ((q : Place) (b a : Option Place) → between (t.entry q) b a → IsCovered t q)
      → (front back : List Place) {position : Option Place} → IsDistinct (front ++ back) → IsChain between t.entry None (front ++ back) None → position ≡ first back
      → walked (λ e before. next e) t None position None ≡ back
  walked_from_gap next law t covered front back {position} d c here =
      walk_blind next t.entry t.extent.places None (last front) position None
      ∙ stretch_through (λ e before. next e) law t covered {b = last front} {from = position} {to = last back}
      (record { distinct = distinct_right front back d; chain = (chain_cut between t.entry None front back None c).1; starts = here; ends = refl })

module _ {S T : Type 0} (rest : S → List T) where
  -- A step that passes a member with an object lends that object.
  pub yields_placed : (s t : S) (r : Option (Bor T)) (o : Option T) → IsSome o → option_copied r ≡ o
      → rest s ≡ cons_option o (rest t) → GivesFirst rest s r t
  yields_placed s t r None placed e left = cc
  yields_placed s t None (Some v) placed e left = cc
  yields_placed s t (Some x) (Some v) placed e left = (left ∙ ap (λ v. v ∷ rest t) (sym (same_Some x.now v e)), tt)

  -- A step that lent an object leaves one object fewer.
  pub makes_progress : (can : S → Type 0) (s t : S) (r : Option (Bor T)) → can t → GivesFirst rest s r t → MakesProgress can (item_count rest) s r t
  makes_progress can s t None on given = record { on = λ _. tt; keeps = tt; rests = λ _. tt }
  makes_progress can s t (Some x) on given =
      let e = ap length given.0 in record { on = λ _. (on, tt, omega (arith, e)); keeps = on; rests = λ _. tt }

  -- A step from the back that passes a member with an object lends that object.
  pub yields_placed_back : (s t : S) (r : Option (Bor T)) (o : Option T) → IsSome o → option_copied r ≡ o
      → rest s ≡ rest t ++ cons_option o [] → GivesLast rest s r t
  yields_placed_back s t r None placed e left = cc
  yields_placed_back s t None (Some v) placed e left = cc
  yields_placed_back s t (Some x) (Some v) placed e left = (left ∙ ap (λ v. rest t ++ v ∷ []) (sym (same_Some x.now v e)), tt)

  pub makes_progress_back : (can : S → Type 0) (s t : S) (r : Option (Bor T)) → can t → GivesLast rest s r t → MakesProgress can (item_count rest) s r t
  makes_progress_back can s t None on given = record { on = λ _. tt; keeps = tt; rests = λ _. tt }
  makes_progress_back can s t (Some x) on given =
      let e = ap length given.0 ∙ length-append (rest t) (x.now ∷ []) in record { on = λ _. (on, tt, omega (arith, e)); keeps = on; rests = λ _. tt }

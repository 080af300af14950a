-- Each place is in the list to which it belongs, and these lemmas say that this still holds after one place is added or removed.
use Rattle.std.proofs.Common.{◌≡◌, ◌≢◌, ℕ, zero, suc, Option, Some, None, List, [], ◌∷◌, ◌++◌, inl, inr, refl, sym, ap, ◌∙◌, subst, append-nil, true, is_some, IsSome, true≢false}
use Rattle.std.proofs.lemmas.Bool.Decides.{eqb_tells}
use Rattle.std.specs.List.{AllByRecursion}
use Rattle.ic_link_ops.specs.Prelude.{Place, Objects, Places, Frees, object_at, is_placed, first, last, IsAbsent, IsMember, IsDisjoint, IsDistinct, ArePlaced}
use Rattle.ic_link_ops.proofs.Prelude.{placed_there, others_placed, gone_there, others_left, all_map, all_with, all_without, absent_with, absent_without, distinct_middle, distinct_right, last_not, last_or-append, none_not, some_same, split_member}
use Rattle.ic_link_ops.proofs.LinkedSets.{everywhere}
use Rattle.ic_container.specs.NumberedLists.{NumberedLists, Adds, Leaves, PutsFront, PutsBack, Moves, Stays, EachInItsList, owner_or, owner_of, to_one, alone}

-- if a property holds for the number k and for every other number, it holds for each number
pub at_every_number : (P : ℕ → Type 0) (k i : ℕ) → P k → (i ≢ k → P i) → P i
at_every_number P k i here other = elim (eqb_tells k i) [ inl e ↦ subst P e.1 here | inr n ↦ other (λ e. n.1 (sym e)) ]

-- two families of items that `alone` makes of x and of y have the same items under all numbers except 0
pub alone_others : {X : Type 0} (none x y : X) (i : ℕ) → i ≢ 0 → alone none y i ≡ alone none x i
alone_others none x y zero other = absurd (other refl)
alone_others none x y (suc i) other = refl

pub alone_none : {X : Type 0} (none x : X) → x ≡ none → (i : ℕ) → alone none x i ≡ none
alone_none none x is zero = is
alone_none none x is (suc i) = refl

-- if all objects belong to the only list, an object belongs to list 0
pub owner_one : {T : Type 0} (objects : Objects T) (p : Place) → is_placed objects p ≡ true → owner_of to_one objects p ≡ Some 0
owner_one {T} objects p is = by (object_at objects p) is where
  by : (o : Option T) → is_some o ≡ true → owner_or to_one o ≡ Some 0
  by None h = absurd (true≢false (sym h))
  by (Some v) h = refl

-- if a place belongs to a list, there is an object at the place
pub owned_placed : {T : Type 0} (objects : Objects T) (k : ℕ) (s : List Place) → AllByRecursion (λ p. owner_of to_one objects p ≡ Some k) s → ArePlaced objects s
owned_placed objects k [] own = tt
owned_placed {T} objects k (x ∷ s) own = (by (object_at objects x) own.0, owned_placed objects k s own.1) where
  by : (o : Option T) → owner_or to_one o ≡ Some k → IsSome o
  by None h = absurd (none_not k h)
  by (Some v) h = refl

-- AFTER AN OBJECT WAS STORED, REMOVED OR CHANGED, its place may belong to another list, and each other place belongs where it did
module _ {T : Type 0} (belongs : T → Option ℕ) {old new : Objects T} {p : Place} where
  pub owner_placed : {v : T} → Places old new p v → owner_of belongs new p ≡ belongs v
  owner_placed places = ap (owner_or belongs) (placed_there places)

  pub owners_placed : {v : T} → Places old new p v → (q : Place) → q ≢ p → owner_of belongs new q ≡ owner_of belongs old q
  owners_placed places q n = ap (owner_or belongs) (others_placed places q n)

  pub owner_freed : Frees old new p → owner_of belongs new p ≡ None
  owner_freed frees = ap (owner_or belongs) (gone_there frees)

  pub owners_freed : Frees old new p → (q : Place) → q ≢ p → owner_of belongs new q ≡ owner_of belongs old q
  owners_freed frees q n = ap (owner_or belongs) (others_left frees q n)

module _ {owner : Place → Option ℕ} {lists : NumberedLists} (h : EachInItsList owner lists) where
  absent_from : {i j : ℕ} → i ≢ j → (p : Place) → owner p ≡ Some i → (s : List Place) → AllByRecursion (λ q. owner q ≡ Some j) s → IsAbsent p s
  absent_from apart p at [] own = tt
  absent_from {i} apart p at (x ∷ s) own = (λ e. apart (some_same (sym at ∙ ap owner e ∙ own.0)), absent_from apart p at s own.1)

  all_apart : {i j : ℕ} → i ≢ j → (s t : List Place) → AllByRecursion (λ q. owner q ≡ Some i) s → AllByRecursion (λ q. owner q ≡ Some j) t → IsDisjoint s t
  all_apart apart [] t own other = tt
  all_apart apart (x ∷ s) t own other = (absent_from apart x own.0 t other, all_apart apart s t own.1 other)

  -- two lists share no member
  pub lists_disjoint : (i j : ℕ) → i ≢ j → IsDisjoint (lists i) (lists j)
  lists_disjoint i j n = all_apart n (lists i) (lists j) (h.own i) (h.own j)

  all_at : {i : ℕ} (front : List Place) (p : Place) (back : List Place) → AllByRecursion (λ q. owner q ≡ Some i) (front ++ p ∷ back) → owner p ≡ Some i
  all_at [] p back own = own.0
  all_at (x ∷ front) p back own = all_at front p back own.1

  -- a member of list k belongs to list k
  pub member_owner : (k : ℕ) (front : List Place) (p : Place) (back : List Place) → lists k ≡ front ++ p ∷ back → owner p ≡ Some k
  member_owner k front p back was = all_at front p back (subst (AllByRecursion (λ q. owner q ≡ Some k)) was (h.own k))

  pub owned_same : {other : Place → Option ℕ} → ((p : Place) → other p ≡ owner p) → EachInItsList other lists
  owned_same same = record { own = λ i. all_map (λ q at. same q ∙ at) (lists i) (h.own i); all = λ p i at. h.all p i (sym (same p) ∙ at) }

  module _ {p : Place} {other : Place → Option ℕ} (beside : (q : Place) → q ≢ p → other q ≡ owner q) where
    still : (i : ℕ) (s : List Place) → IsAbsent p s → AllByRecursion (λ q. owner q ≡ Some i) s → AllByRecursion (λ q. other q ≡ Some i) s
    still i [] out own = tt
    still i (x ∷ s) out own = (beside x (λ e. out.0 (sym e)) ∙ own.0, still i s out.1 own.1)

  module _ {k : ℕ} {front : List Place} {p : Place} {back : List Place} {new : NumberedLists} {other : Place → Option ℕ} (beside : (q : Place) → q ≢ p → other q ≡ owner q) where
    -- after the place p was inserted into list k, each place is in its list, if p belongs to list k by `other` and was in no list before
    pub owned_joined : Adds k front p back lists new → other p ≡ Some k → ((i : ℕ) → IsAbsent p (lists i)) → EachInItsList other new
    owned_joined joins here out = record {
      own = λ i. at_every_number (λ i. AllByRecursion (λ q. other q ≡ Some i) (new i)) k i
          (subst (AllByRecursion (λ q. other q ≡ Some k)) (sym joins.is) (all_with (λ q. other q ≡ Some k) front p back here (subst (AllByRecursion (λ q. other q ≡ Some k)) joins.was (still beside k (lists k) (out k) (h.own k)))))
          (λ n. subst (AllByRecursion (λ q. other q ≡ Some i)) (sym (joins.others i n)) (still beside i (lists i) (out i) (h.own i)));
      all = λ q i. everywhere (λ q. other q ≡ Some i → IsMember q (new i)) p q
          (λ at. subst (λ (j : ℕ). IsMember p (new j)) (some_same (sym here ∙ at)) (subst (IsMember p) (sym joins.is) (split_member front p back)))
          (λ n at. at_every_number (λ i. IsMember q (lists i) → IsMember q (new i)) k i
          (λ was absent. was (subst (IsAbsent q) (sym joins.was) (absent_without front back p q (subst (IsAbsent q) joins.is absent))))
          (λ m was. subst (IsMember q) (sym (joins.others i m)) was) (h.all q i (sym (beside q n) ∙ at)));
    }

    -- after the place p was removed from list k, each place is in its list, if p belongs to no list by `other`
    pub owned_left : Leaves k front p back lists new → other p ≡ None → IsDistinct (lists k) → EachInItsList other new
    owned_left leaves gone distinct = record {
      own = λ i. at_every_number (λ i. AllByRecursion (λ q. other q ≡ Some i) (new i)) k i
          (subst (AllByRecursion (λ q. other q ≡ Some k)) (sym leaves.is) (still beside k (front ++ back) (distinct_middle front back p (subst IsDistinct leaves.was distinct))
          (all_without (λ q. owner q ≡ Some k) front p back (subst (AllByRecursion (λ q. owner q ≡ Some k)) leaves.was (h.own k)))))
          (λ n. subst (AllByRecursion (λ q. other q ≡ Some i)) (sym (leaves.others i n)) (still beside i (lists i) (absent_from (λ e. n (sym e)) p (member_owner k front p back leaves.was) (lists i) (h.own i)) (h.own i)));
      all = λ q i. everywhere (λ q. other q ≡ Some i → IsMember q (new i)) p q
          (λ at. absurd (none_not i (sym gone ∙ at)))
          (λ n at. at_every_number (λ i. IsMember q (lists i) → IsMember q (new i)) k i
          (λ was absent. was (subst (IsAbsent q) (sym leaves.was) (absent_with front back p q n (subst (IsAbsent q) leaves.is absent))))
          (λ m was. subst (IsMember q) (sym (leaves.others i m)) was) (h.all q i (sym (beside q n) ∙ at)));
    }

  -- after one place has moved within its list, each place is in its list
  pub owned_moved : {k : ℕ} {front : List Place} {p : Place} {back before after : List Place} {new : NumberedLists} → Moves k front p back before after lists new → EachInItsList owner new
  owned_moved {k} {front} {p} {back} {before} {after} {new} moves =
      let at = member_owner k front p back moves.was in
      record {
        own = λ i. at_every_number (λ i. AllByRecursion (λ q. owner q ≡ Some i) (new i)) k i
            (subst (AllByRecursion (λ q. owner q ≡ Some k)) (sym moves.is) (all_with (λ q. owner q ≡ Some k) before p after at
            (subst (AllByRecursion (λ q. owner q ≡ Some k)) moves.rest (all_without (λ q. owner q ≡ Some k) front p back (subst (AllByRecursion (λ q. owner q ≡ Some k)) moves.was (h.own k))))))
            (λ n. subst (AllByRecursion (λ q. owner q ≡ Some i)) (sym (moves.others i n)) (h.own i));
        all = λ q i. everywhere (λ q. owner q ≡ Some i → IsMember q (new i)) p q
            (λ is. subst (λ (j : ℕ). IsMember p (new j)) (some_same (sym at ∙ is)) (subst (IsMember p) (sym moves.is) (split_member before p after)))
            (λ n is. at_every_number (λ i. IsMember q (lists i) → IsMember q (new i)) k i
            (λ was absent. was (subst (IsAbsent q) (sym moves.was) (absent_with front back p q n (subst (IsAbsent q) (sym moves.rest) (absent_without before after p q (subst (IsAbsent q) moves.is absent))))))
            (λ m was. subst (IsMember q) (sym (moves.others i m)) was) (h.all q i is));
      }

-- if the lists a and b are equal, an edit of the lists b is an edit of the lists a
pub joins_from : {k : ℕ} {front : List Place} {p : Place} {back : List Place} {a b c : NumberedLists} → Stays a b → Adds k front p back b c → Adds k front p back a c
joins_from {k} same j = record { was = sym (same k) ∙ j.was; is = j.is; others = λ i n. j.others i n ∙ same i }

-- if a place is inserted before all members of list k, it is inserted at the front. `puts_back` is about the back
pub puts_front : {k : ℕ} {p : Place} {s : List Place} {a b : NumberedLists} → Adds k [] p s a b → PutsFront k p a b
puts_front {p = p} j = record { is = j.is ∙ ap (λ (l : List Place). p ∷ l) (sym j.was); others = j.others }

pub puts_back : {k : ℕ} {p : Place} {s : List Place} {a b : NumberedLists} → Adds k s p [] a b → PutsBack k p a b
puts_back {p = p} {s} j = record { is = j.is ∙ ap (λ (l : List Place). l ++ p ∷ []) (sym (append-nil s) ∙ sym j.was); others = j.others }

-- if the lists x equal the lists a, and the lists y equal the lists b, an edit from a to b is an edit from x to y
module _ {k : ℕ} {p : Place} {a b : NumberedLists} (x y : NumberedLists) (same : Stays a x) (alike : Stays b y) where
  pub back_seen : PutsBack k p a b → PutsBack k p x y
  back_seen j = record { is = alike k ∙ j.is ∙ ap (λ (l : List Place). l ++ p ∷ []) (sym (same k)); others = λ i n. alike i ∙ j.others i n ∙ sym (same i) }

  pub front_seen : PutsFront k p a b → PutsFront k p x y
  front_seen j = record { is = alike k ∙ j.is ∙ ap (λ (l : List Place). p ∷ l) (sym (same k)); others = λ i n. alike i ∙ j.others i n ∙ sym (same i) }

  pub leaves_seen : {front back : List Place} → Leaves k front p back a b → Leaves k front p back x y
  leaves_seen j = record { was = same k ∙ j.was; is = alike k ∙ j.is; others = λ i n. alike i ∙ j.others i n ∙ sym (same i) }

-- no member comes before the first member of a sequence without equal places
pub no_front : (p : Place) (s : List Place) → IsDistinct s → Some p ≡ first s → (front back : List Place) → s ≡ front ++ p ∷ back → front ≡ []
no_front p s distinct is [] back same = refl
no_front p s distinct is (x ∷ front) back same =
    let d = subst IsDistinct same distinct in
    let one : p ≡ x = some_same (is ∙ ap first same) in
    absurd (split_member front p back (subst (λ (z : Place). IsAbsent z (front ++ p ∷ back)) (sym one) d.0))

-- no member comes after the last member of a sequence without equal places
pub without_last : {p : Place} (s : List Place) → IsDistinct s → last s ≡ Some p → (front back : List Place) → s ≡ front ++ p ∷ back → back ≡ []
without_last s distinct is front [] same = refl
without_last {p} s distinct is front (y ∷ back) same =
    let d = distinct_right front (p ∷ y ∷ back) (subst IsDistinct same distinct) in
    absurd (last_not (Some y) back p (λ e. d.0.0 (sym (some_same e))) d.0.1 (sym (last_or-append None front (p ∷ y ∷ back)) ∙ ap last (sym same) ∙ is))

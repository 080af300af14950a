-- A call of one collection leaves the collection sound: its members are distinct and linked, and its cursor is at null or on a member.
use Rattle.std.proofs.Common.{◌≡◌, ◌≢◌, ◌⊎◌, inl, inr, Bool, true, false, cond, not, ◌||◌, ◌&&◌, nat_eq, eq-eqb, ne_eqb, List, [], ◌∷◌, ◌++◌, drop, reverse, Option, Some, None, is_some, refl, sym, ap, ◌∙◌, subst, true≢false, Ordering}
use Rattle.std.proofs.lemmas.Bool.{and_parts, cases_eq}
use Rattle.std.specs.Cmp.{nat_cmp_total, unsigned_tied}
use Rattle.std.specs.List.{list_all}
use Rattle.std.specs.Ordering.{nat_cmp, eq_by_cmp}
use Rattle.std.specs.FinSet as set_of
use Rattle.std.specs.FinSet.{contains-insert, contains-remove}
use Rattle.ic_link_ops.specs.Prelude.{Place, index_of, Objects, Cut, join, first, last, but_last, IsAbsent, IsMember, IsDistinct, IsDisjoint}
use Rattle.ic_unsafe_ref.proofs.PlaceLemmas.{same_index, same_or_not}
use Rattle.ic_link_ops.proofs.SequenceLemmas.{absent_left, absent_right, absent_both, absent_with, absent_reverse, distinct_insert, distinct_middle, distinct_remove, distinct_replace, distinct_reverse, some_same, none_not, first_is, split_last}
use Rattle.ic_rbtree.specs.Borders.{Finds, equal_at, if_passes}
use Rattle.ic_world.specs.declared.call.Refusal.TheVariants.{WrongKind, NothingThere, NotAMember, AlreadyLinked}
use Rattle.ic_world.specs.declared.calls.collection_call.Call.TheVariants as one
use Rattle.ic_any_collection.specs.declared.gap.Gap.{Gap}
use Rattle.ic_any_collection.specs.declared.gap.Gap.TheVariants.{Front, Back, Before, After}
use Rattle.ic_world.specs.declared.calls.collection_call.Neighbor.TheVariants.{Next, Prev}
use Rattle.ic_world.specs.declared.calls.seek.Seek.TheVariants.{Null, On, With}
use Rattle.ic_world.specs.declared.calls.bulk_edit.BulkEdit.TheVariants.{Clear, Reverse}
use Rattle.ic_world.specs.declared.calls.search.Search.TheVariants.{Find, LowerBound, UpperBound}
use Rattle.ic_world.specs.declared.calls.insertion.Insertion.TheVariants.{Insert, CursorInsert}
use Rattle.ic_world.specs.Family.{is_among}
use Rattle.ic_world.specs.declared.calls.collection_call.Call.{Call}
use Rattle.ic_world.specs.Calls.{State, Reply, found, looked, entry, refused, is_linked_in, moved, having, put, without, swapped, unlinked, cleared, has_call, names, IsFrontOf, member_at, rests, onward, onto, asks_unlinked, refusal_of, own_refusal, Replies}
use Rattle.ic_world.proofs.Linked.{absent_or}
use Rattle.ic_world.proofs.Steps.{asks_none}

-- a member of a part of a sequence is a member of the whole sequence. The first and the last member of a sequence are members of the sequence
pub member_left : (s t : List Place) (p : Place) → IsMember p s → IsMember p (s ++ t)
member_left s t p there out = there (absent_left p s t out)

pub member_right : (s t : List Place) (p : Place) → IsMember p t → IsMember p (s ++ t)
member_right s t p there out = there (absent_right p s t out)

pub first_member : (s : List Place) {p : Place} → Some p ≡ first s → IsMember p s
first_member [] {p} e out = none_not p (sym e)
first_member (x ∷ s) e out = out.0 (some_same e)

pub last_member : (s : List Place) {p : Place} → Some p ≡ last s → IsMember p s
last_member s {p} e out = (absent_right p (but_last s) (p ∷ []) (subst (IsAbsent p) (split_last s (sym e)) out)).0 refl

absent_fewer : (q : Place) (s : List Place) → IsAbsent q s → IsAbsent q (drop 1 s)
absent_fewer q [] out = tt
absent_fewer q (x ∷ s) out = out.1

-- if two sequences share no member, a member of one is absent from the other
pub member_out : (s t : List Place) → IsDisjoint s t → (p : Place) → IsMember p s → IsAbsent p t
member_out [] t d p there = absurd (there tt)
member_out (x ∷ s) t d p there = elim (same_or_not p x) [
  | inl e ↦ subst (λ z. IsAbsent z t) (sym e) d.0
  | inr n ↦ member_out s t d.1 p (λ out. there (n, out))
]

pub all_out : (s t : List Place) → ((p : Place) → IsMember p s → IsAbsent p t) → IsDisjoint s t
all_out [] t h = tt
all_out (x ∷ s) t h = (h x (λ out. out.0 refl), all_out s t (λ p there. h p (λ out. there out.1)))

absent_among : (p : Place) (s : List Place) → IsAbsent p s → is_among p s ≡ false
absent_among p [] out = refl
absent_among p (x ∷ s) out = rw (ne_eqb (index_of x) (index_of p) (λ e. out.0 (sym (same_index x p e)))) (absent_among p s out.1)

pub member_among : (p : Place) (s : List Place) → IsMember p s → is_among p s ≡ true
member_among p [] there = absurd (there tt)
member_among p (x ∷ s) there =
    elim (cases_eq (index_of x) (index_of p)) [
      | inl e ↦ rw (eq-eqb (index_of x) (index_of p) e) refl
      | inr d ↦ rw (ne_eqb (index_of x) (index_of p) d) (member_among p s (λ out. there ((λ e. d (ap index_of (sym e))), out)))
    ]

pub among_member : (p : Place) (s : List Place) → is_among p s ≡ true → IsMember p s
among_member p s h out = true≢false (sym h ∙ absent_among p s out)

-- a member q of a sequence is still a member after x was removed, unless q is x
member_without : (front : List Place) (x : Place) (back : List Place) (q : Place) → IsMember q (front ++ x ∷ back) → q ≢ x → IsMember q (front ++ back)
member_without front x back q there n out = there (absent_with front back x q n out)

-- a set with the place p added contains p, and a set with p removed does not contain p. All other places are in both as before
or_right : (b : Bool) → (b || true) ≡ true
or_right true = refl
or_right false = refl

module _ (l : set_of.FinSet nat_cmp) (p : Place) where
  pub is_in : set_of.contains (set_of.insert l (index_of p)) (index_of p) ≡ true
  is_in =
      contains-insert nat_cmp_total l (index_of p) (index_of p)
      ∙ ap (λ b. b || set_of.contains l (index_of p)) (unsigned_tied (index_of p) (index_of p) ∙ eq-eqb (index_of p) (index_of p) refl)

  pub in_more : (q : Place) → set_of.contains l (index_of q) ≡ true → set_of.contains (set_of.insert l (index_of p)) (index_of q) ≡ true
  in_more q h =
      let first : Bool = eq_by_cmp nat_cmp (index_of q) (index_of p) in
      contains-insert nat_cmp_total l (index_of p) (index_of q) ∙ ap (λ (b : Bool). first || b) h ∙ or_right first

  pub in_less : (q : Place) → q ≢ p → set_of.contains l (index_of q) ≡ true → set_of.contains (set_of.remove l (index_of p)) (index_of q) ≡ true
  in_less q n h =
      contains-remove nat_cmp_total l (index_of p) (index_of q)
      ∙ ap (λ b. not b && set_of.contains l (index_of q)) (unsigned_tied (index_of q) (index_of p) ∙ ne_eqb (index_of q) (index_of p) (λ e. n (same_index q p e)))
      ∙ h

  -- if q is in the set l with p added, and is not p, then q is in l. If q is in the set l without p, then q is in l, and is not p
  pub was_in : (q : Place) → q ≢ p → set_of.contains (set_of.insert l (index_of p)) (index_of q) ≡ true → set_of.contains l (index_of q) ≡ true
  was_in q n h =
      sym (contains-insert nat_cmp_total l (index_of p) (index_of q)
      ∙ ap (λ b. b || set_of.contains l (index_of q)) (unsigned_tied (index_of q) (index_of p) ∙ ne_eqb (index_of q) (index_of p) (λ e. n (same_index q p e)))) ∙ h

  pub still_in : (q : Place) → set_of.contains (set_of.remove l (index_of p)) (index_of q) ≡ true → (q ≢ p) × (set_of.contains l (index_of q) ≡ true)
  still_in q h = elim (cases_eq (index_of q) (index_of p)) [
    | inl e ↦ absurd (true≢false (sym h ∙ is (eq-eqb _ _ e)))
    | inr d ↦ ((λ e. d (ap index_of e)), sym (is (ne_eqb _ _ d)) ∙ h)
  ]
    where
      is : {b : Bool} → nat_eq (index_of q) (index_of p) ≡ b → set_of.contains (set_of.remove l (index_of p)) (index_of q) ≡ (not b && set_of.contains l (index_of q))
      is e = contains-remove nat_cmp_total l (index_of p) (index_of q) ∙ ap (λ b. not b && set_of.contains l (index_of q)) (unsigned_tied (index_of q) (index_of p) ∙ e)

pub still_unlinked : (l : set_of.FinSet nat_cmp) (s : List Place) (q : Place) → set_of.contains (unlinked l s) (index_of q) ≡ true → IsAbsent q s × (set_of.contains l (index_of q) ≡ true)
still_unlinked l [] q h = (tt, h)
still_unlinked l (x ∷ s) q h =
    let here = still_in (unlinked l s) x q h in
    let rest = still_unlinked l s q here.1 in
    ((here.0, rest.0), rest.1)

pub in_rest : (l : set_of.FinSet nat_cmp) (s : List Place) (q : Place) → IsAbsent q s → set_of.contains l (index_of q) ≡ true → set_of.contains (unlinked l s) (index_of q) ≡ true
in_rest l [] q out h = h
in_rest l (x ∷ s) q out h = in_less (unlinked l s) x q out.0 (in_rest l s q out.1 h)

-- `has` says whether there is an object at a place
module _ (has : Place → Bool) where
  -- THE STATE s IS RIGHT: its members are distinct and linked, its cursor is at null or on a member, and there is an object at each linked place
  pub record IsRight (s : State) : Type 0 where
    pub distinct : IsDistinct s.members
    pub linked : (p : Place) → IsMember p s.members → is_linked_in s p ≡ true
    pub cursor : (p : Place) → s.cursor ≡ Some p → IsMember p s.members
    pub placed : (p : Place) → is_linked_in s p ≡ true → has p ≡ true

  -- A CALL KEEPS THE STATE RIGHT and the kind as it was. A linked place that was not a member, because it belongs to another collection, stays linked
  -- and does not become a member
  pub record KeepsRight (s t : State) : Type 0 where
    pub kind : t.kind ≡ s.kind
    pub right : IsRight t
    pub others : (q : Place) → is_linked_in s q ≡ true → IsAbsent q s.members → (is_linked_in t q ≡ true) × IsAbsent q t.members

  module _ (s : State) (right : IsRight s) where
    -- a call that moves the cursor to null or to a member keeps the state right
    keeps_moved : (o : Option Place) → ((p : Place) → o ≡ Some p → IsMember p s.members) → KeepsRight s (moved s o)
    keeps_moved o at = record {
      kind = refl;
      right = record { distinct = right.distinct; linked = right.linked; cursor = at; placed = right.placed };
      others = λ q h out. (h, out);
    }

    moved_as : {t : State} (o : Option Place) → t ≡ moved s o → ((p : Place) → o ≡ Some p → IsMember p s.members) → KeepsRight s t
    moved_as o e at = subst (KeepsRight s) (sym e) (keeps_moved o at)

    -- a call that leaves some of the members, or reverses their order, keeps the state right, because each member was a member before
    pub keeps_part : (u : List Place) (o : Option Place) → IsDistinct u → ((q : Place) → IsAbsent q s.members → IsAbsent q u) → ((p : Place) → o ≡ Some p → IsMember p u) → KeepsRight s (having s u o)
    keeps_part u o distinct adds_none at = record {
      kind = refl;
      right = record { distinct = distinct; linked = λ p there. right.linked p (λ out. there (adds_none p out)); cursor = at; placed = right.placed };
      others = λ q h out. (h, adds_none q out);
    }

    keeps_cleared : KeepsRight s (cleared s)
    keeps_cleared = record {
      kind = refl;
      right = record {
        distinct = tt;
        linked = λ p there. absurd (there tt);
        cursor = λ p e. absurd (none_not p e);
        placed = λ p h. right.placed p (still_unlinked s.linked s.members p h).1;
      };
      others = λ q h out. (in_rest s.linked s.members q out h, tt);
    }

    -- the members of the state are cut at `gap`
    module _ (gap : Cut) (cut : join gap ≡ s.members) where
      distinct_cut : IsDistinct (join gap)
      distinct_cut = subst IsDistinct (sym cut) right.distinct

      -- an unlinked object is no member
      free_absent : (p : Place) → is_linked_in s p ≡ false → IsAbsent p (join gap)
      free_absent p free = elim (absent_or (join gap) p) [
        | inl out ↦ out
        | inr there ↦ absurd (true≢false (sym (right.linked p (subst (IsMember p) cut there)) ∙ free))
      ]

      keeps_put : (p : Place) → is_linked_in s p ≡ false → has p ≡ true → (o : Option Place) → ((q : Place) → o ≡ Some q → (q ≡ p) ⊎ IsMember q s.members) → KeepsRight s (put s gap p o)
      keeps_put p free there o at = record {
        kind = refl;
        right = record {
          distinct = distinct_insert gap.front gap.back p distinct_cut (free_absent p free);
          linked = λ q member. elim (same_or_not q p) [
            | inl e ↦ subst (λ z. is_linked_in (put s gap p o) z ≡ true) (sym e) (is_in s.linked p)
            | inr n ↦ in_more s.linked p q (right.linked q (subst (IsMember q) cut (member_without gap.front p gap.back q member n)))
          ];
          cursor = λ q e. elim (at q e) [
            | inl same ↦ subst (λ z. IsMember z (gap.front ++ p ∷ gap.back)) (sym same) (member_right gap.front (p ∷ gap.back) p (λ out. out.0 refl))
            | inr member ↦ λ out. (subst (IsMember q) (sym cut) member) (absent_both q gap.front gap.back (absent_left q gap.front (p ∷ gap.back) out) (absent_right q gap.front (p ∷ gap.back) out).1)
          ];
          placed = λ q h. elim (same_or_not q p) [ inl e ↦ ap has e ∙ there | inr n ↦ right.placed q (was_in s.linked p q n h) ];
        };
        others = λ q h out. (
          in_more s.linked p q h,
          absent_with gap.front gap.back p q (λ e. true≢false (sym h ∙ ap (is_linked_in s) e ∙ free)) (subst (IsAbsent q) (sym cut) out),
        );
      }

      -- `out` is the member directly after the gap
      module _ (out : Place) (after : first gap.back ≡ Some out) where
        back_is : gap.back ≡ out ∷ drop 1 gap.back
        back_is = first_is gap.back (sym after)

        all_is : gap.front ++ out ∷ drop 1 gap.back ≡ s.members
        all_is = ap (λ b. gap.front ++ b) (sym back_is) ∙ cut

        distinct_all : IsDistinct (gap.front ++ out ∷ drop 1 gap.back)
        distinct_all = subst IsDistinct (sym all_is) right.distinct

        out_member : IsMember out s.members
        out_member = subst (IsMember out) all_is (member_right gap.front (out ∷ drop 1 gap.back) out (λ o. o.0 refl))

        out_linked : is_linked_in s out ≡ true
        out_linked = right.linked out out_member

        -- the members that are left without `out` were members, and none of them is `out`
        rest_is : (q : Place) → IsMember q (gap.front ++ drop 1 gap.back) → (q ≢ out) × IsMember q s.members
        rest_is q there = (
          (λ e. there (subst (λ z. IsAbsent z (gap.front ++ drop 1 gap.back)) (sym e) (distinct_middle gap.front (drop 1 gap.back) out distinct_all))),
          (λ away. let parts = subst (IsAbsent q) (sym all_is) away in
              there (absent_both q gap.front (drop 1 gap.back) (absent_left q gap.front (out ∷ drop 1 gap.back) parts) (absent_right q gap.front (out ∷ drop 1 gap.back) parts).1)),
        )

        rest_absent : (q : Place) → IsAbsent q s.members → (q ≢ out) × IsAbsent q (gap.front ++ drop 1 gap.back)
        rest_absent q away =
            let parts = subst (IsAbsent q) (sym all_is) away in
            let back = absent_right q gap.front (out ∷ drop 1 gap.back) parts in
            (back.0, absent_both q gap.front (drop 1 gap.back) (absent_left q gap.front (out ∷ drop 1 gap.back) parts) back.1)

        keeps_taken : (o : Option Place) → ((q : Place) → o ≡ Some q → IsMember q (gap.front ++ drop 1 gap.back)) → KeepsRight s (without s gap o (Some out))
        keeps_taken o at = record {
          kind = refl;
          right = record {
            distinct = distinct_remove gap.front (drop 1 gap.back) out distinct_all;
            linked = λ q there. let r = rest_is q there in in_less s.linked out q r.0 (right.linked q r.1);
            cursor = at;
            placed = λ q h. right.placed q (still_in s.linked out q h).1;
          };
          others = λ q h away. let r = rest_absent q away in (in_less s.linked out q r.0 h, r.1);
        }

        keeps_swapped : (p : Place) → is_linked_in s p ≡ false → has p ≡ true → (o : Option Place) → ((q : Place) → o ≡ Some q → (q ≡ p) ⊎ IsMember q (gap.front ++ drop 1 gap.back))
            → KeepsRight s (swapped s gap p out o)
        keeps_swapped p free there o at =
            let other : p ≢ out = λ e. true≢false (sym out_linked ∙ ap (is_linked_in s) (sym e) ∙ free) in
            record {
              kind = refl;
              right = record {
                distinct = distinct_replace gap.front (drop 1 gap.back) out p distinct_all (subst (IsAbsent p) (cut ∙ sym all_is) (free_absent p free));
                linked = λ q member. elim (same_or_not q p) [
                  | inl e ↦ subst (λ z. is_linked_in (swapped s gap p out o) z ≡ true) (sym e) (in_less (set_of.insert s.linked (index_of p)) out p other (is_in s.linked p))
                  | inr n ↦
                      let r = rest_is q (member_without gap.front p (drop 1 gap.back) q member n) in
                      in_less (set_of.insert s.linked (index_of p)) out q r.0 (in_more s.linked p q (right.linked q r.1))
                ];
                cursor = λ q e. elim (at q e) [
                  | inl same ↦ subst (λ z. IsMember z (gap.front ++ p ∷ drop 1 gap.back)) (sym same) (member_right gap.front (p ∷ drop 1 gap.back) p (λ away. away.0 refl))
                  | inr member ↦ λ away. member (absent_both q gap.front (drop 1 gap.back) (absent_left q gap.front (p ∷ drop 1 gap.back) away) (absent_right q gap.front (p ∷ drop 1 gap.back) away).1)
                ];
                placed = λ q h.
                    let kept = (still_in (set_of.insert s.linked (index_of p)) out q h).1 in
                    elim (same_or_not q p) [ inl e ↦ ap has e ∙ there | inr n ↦ right.placed q (was_in s.linked p q n kept) ];
              };
              others = λ q h away.
                  let r = rest_absent q away in (
                    in_less (set_of.insert s.linked (index_of p)) out q r.0 (in_more s.linked p q h),
                    absent_with gap.front (drop 1 gap.back) p q (λ e. true≢false (sym h ∙ ap (is_linked_in s) e ∙ free)) r.1,
                  );
            }

    -- the position of the cursor after an insertion is null, or a member of the state before the insertion
    rests_in : (at : Gap) (q : Place) → rests at s.cursor ≡ Some q → IsMember q s.members
    rests_in Front q e = absurd (none_not q e)
    rests_in Back q e = absurd (none_not q e)
    rests_in Before q e = right.cursor q e
    rests_in After q e = right.cursor q e

    -- the position of the cursor after a removal is null, or a member that is left
    onward_in : (at : Gap) (gap : Cut) → IsFrontOf at s gap → (q : Place) → onward at s.cursor gap ≡ Some q → IsMember q (gap.front ++ drop 1 gap.back)
    onward_in Front gap h q e = absurd (none_not q e)
    onward_in Back gap h q e = absurd (none_not q e)
    onward_in Before gap h q e = member_right gap.front (drop 1 gap.back) q (first_member (drop 1 gap.back) (sym e))
    onward_in After gap h q e = member_left gap.front (drop 1 gap.back) q (last_member gap.front (sym e ∙ h))

    onto_in : (at : Gap) (gap : Cut) (p : Place) → IsFrontOf at s gap → (q : Place) → onto at s.cursor p ≡ Some q → (q ≡ p) ⊎ IsMember q (gap.front ++ drop 1 gap.back)
    onto_in Front gap p h q e = absurd (none_not q e)
    onto_in Back gap p h q e = absurd (none_not q e)
    onto_in Before gap p h q e = inl (sym (some_same e))
    onto_in After gap p h q e = inr (member_left gap.front (drop 1 gap.back) q (last_member gap.front (sym e ∙ h)))

    -- a member that a search found is a member of the searched sequence
    passes_in : (test : Place → Bool) (o : Option Place) (q : Place) → if_passes test o ≡ Some q → o ≡ Some q
    passes_in test None q e = absurd (none_not q e)
    passes_in test (Some p) q e = by (test p) e where
      by : (b : Bool) → cond b (Some p) None ≡ Some q → Some p ≡ Some q
      by true e = e
      by false e = absurd (none_not q e)

    found_in : {at : Place → Ordering} {o : Option Place} → Finds at s.members o → (q : Place) → o ≡ Some q → IsMember q s.members
    found_in {at} finds q e =
        let is = passes_in (equal_at at) (first finds.gap.back) q (sym finds.answer ∙ e) in
        subst (IsMember q) finds.same (member_right finds.gap.front finds.gap.back q (first_member finds.gap.back (sym is)))

    not_false : (b : Bool) → not b ≡ true → b ≡ false
    not_false true e = absurd (true≢false (sym e))
    not_false false e = refl

    -- A CALL OF ONE COLLECTION that no test refuses, and whose objects exist, keeps the state right
    module _ {V K : Type 0} (cmp : K → K → Ordering) (key_of : V → K) (objects : Objects V) (t : State) where
      one_placed : (p : Place) → list_all has (p ∷ []) ≡ true → has p ≡ true
      one_placed p h = (and_parts (has p) true h).0

      kind_asked : (call : Call K) → refusal_of call s ≡ None → own_refusal call s ≡ None
      kind_asked call e = (asks_none (has_call call s.kind) WrongKind (own_refusal call s) e).1

      free_of : (p : Place) → asks_unlinked s p ≡ None → is_linked_in s p ≡ false
      free_of p e = not_false (is_linked_in s p) (asks_none (not (is_linked_in s p)) AlreadyLinked None e).0

      taken_as : (gap : Cut) → join gap ≡ s.members → (o : Option Place) → ((q : Place) → o ≡ Some q → IsMember q (gap.front ++ drop 1 gap.back)) → (x : Option Place) → first gap.back ≡ x → KeepsRight s (without s gap o x)
      taken_as gap cut o at None e = keeps_moved o (λ q is away.
          let parts = subst (IsAbsent q) (sym cut) away in
          at q is (absent_both q gap.front (drop 1 gap.back) (absent_left q gap.front gap.back parts) (absent_fewer q gap.back (absent_right q gap.front gap.back parts))))
      taken_as gap cut o at (Some out) e = keeps_taken gap cut out e o at

      put_as : (gap : Cut) → join gap ≡ s.members → (p : Place) → asks_unlinked s p ≡ None → list_all has (p ∷ []) ≡ true → (o : Option Place) → ((q : Place) → o ≡ Some q → (q ≡ p) ⊎ IsMember q s.members)
          → t ≡ put s gap p o → KeepsRight s t
      put_as gap cut p asked placed o at e = subst (KeepsRight s) (sym e) (keeps_put gap cut p (free_of p asked) (one_placed p placed) o at)

      pub keeps_right : (call : Call K) (reply : Reply) → refusal_of call s ≡ None → list_all has (names call) ≡ true → Replies cmp key_of objects call s reply t → KeepsRight s t
      keeps_right (one.Put at p) reply asked placed h = put_as h.1.0 h.1.1 p (kind_asked (one.Put at p) asked) placed (rests at s.cursor) (λ q e. inr (rests_in at q e)) h.1.2.1
      keeps_right (one.Take at) reply asked placed h =
          subst (KeepsRight s) (sym h.2.2) (taken_as h.0 h.1 (onward at s.cursor h.0) (onward_in at h.0 h.2.0) (first h.0.back) refl)
      keeps_right (one.Swap at p) reply asked placed h =
          let free = asks_none (is_some (member_at at s)) NothingThere (asks_unlinked s p) (kind_asked (one.Swap at p) asked) in
          subst (KeepsRight s) (sym h.2.4) (keeps_swapped h.0 h.1 h.2.1 h.2.2 p (free_of p free.1) (one_placed p placed) (onto at s.cursor p) (onto_in at h.0 p h.2.0))
      keeps_right (one.Move Next) reply asked placed h = moved_as (first h.0.back) h.2.2 (λ q e. subst (IsMember q) h.1 (member_right h.0.front h.0.back q (first_member h.0.back (sym e))))
      keeps_right (one.Move Prev) reply asked placed h = moved_as (last h.0.front) h.2.2 (λ q e. subst (IsMember q) h.1 (member_left h.0.front h.0.back q (last_member h.0.front (sym e))))
      keeps_right (one.Seek Null) reply asked placed h = moved_as None h.1 (λ q e. absurd (none_not q e))
      keeps_right (one.Seek (On p)) reply asked placed h = moved_as (Some p) h.1 (λ q e.
          subst (λ z. IsMember z s.members) (some_same e) (among_member p s.members (asks_none (is_among p s.members) NotAMember None (kind_asked (one.Seek (On p)) asked)).0))
      keeps_right (one.Seek (With way p beside)) reply asked placed h = moved_as (Some p) h.1 (λ q e.
          subst (λ z. IsMember z s.members) (some_same e) (among_member p s.members (asks_none (is_among p s.members) NotAMember _ (kind_asked (one.Seek (With way p beside)) asked)).0))
      keeps_right (one.BulkEdit Clear) reply asked placed h = subst (KeepsRight s) (sym h.1) keeps_cleared
      keeps_right (one.BulkEdit Reverse) reply asked placed h =
          subst (KeepsRight s) (sym h.1) (keeps_part (reverse s.members) None (distinct_reverse s.members right.distinct) (λ q out. absent_reverse q s.members out) (λ q e. absurd (none_not q e)))
      keeps_right (one.Search (Find key)) (found p n) asked placed h = moved_as p h.2 (found_in h.0)
      keeps_right (one.Search (LowerBound bound)) (found p n) asked placed h = moved_as p h.2 (λ q e.
          subst (IsMember q) h.0.same (member_right h.0.gap.front h.0.gap.back q (first_member h.0.gap.back (sym e ∙ h.0.before))))
      keeps_right (one.Search (UpperBound bound)) (found p n) asked placed h = moved_as p h.2 (λ q e.
          subst (IsMember q) h.0.same (member_left h.0.gap.front h.0.gap.back q (last_member h.0.gap.front (sym e ∙ h.0.after))))
      keeps_right (one.Insertion (Insert p)) (looked n) asked placed h =
          put_as h.0.0 h.0.1 p (kind_asked (one.Insertion (Insert p)) asked) placed (Some p) (λ q e. inl (sym (some_same e))) h.0.2.1
      keeps_right (one.Insertion (CursorInsert p)) (looked n) asked placed h =
          put_as h.0.0 h.0.1 p (kind_asked (one.Insertion (CursorInsert p)) asked) placed s.cursor (λ q e. inr (right.cursor q e)) h.0.2.1
      keeps_right (one.Enter key p) (entry true r n) asked placed h = moved_as (Some r) h.2 (found_in h.0)
      keeps_right (one.Enter key p) (entry false r n) asked placed h =
          subst (KeepsRight s) (sym h.3.2.1) (keeps_put h.3.0 h.3.1 p h.1 (one_placed p placed) (Some p) (λ q e. inl (sym (some_same e))))
      keeps_right (one.Enter key p) (refused AlreadyLinked) asked placed h = subst (KeepsRight s) (sym h.2) (keeps_moved s.cursor right.cursor)
      keeps_right _ _ asked placed h = absurd h

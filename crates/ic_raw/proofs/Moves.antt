-- These lemmas say into which gap a moved member goes. A gap of the members without the moved one is a gap of all members, or the position of the
-- moved member.
use Rattle.std.proofs.Common.{◌≡◌, ◌≢◌, ◌⊎◌, inl, inr, Option, Some, None, List, [], ◌∷◌, ◌++◌, drop, refl, sym, ap, subst, ◌∙◌, append_assoc, append-nil}
use Rattle.ic_link_ops.specs.Prelude.{Place, Cut, join, insert, first, last, IsAbsent, IsDistinct, Table, Ends}
use Rattle.ic_link_ops.proofs.SequenceLemmas.{none_not, some_same, absent_right, distinct_middle, last_not, gap_not, last_or-append, last_of_push}
use Rattle.ic_raw.specs.declared.table.RawTable.{RawTable}
use Rattle.ic_raw.specs.declared.gap.Gap.{Gap}
use Rattle.ic_raw.specs.declared.gap.GapSide.{GapSide}
use Rattle.ic_raw.specs.declared.gap.GapSide.TheVariants.{After, Before}
use Rattle.ic_raw.specs.Gaps.{IsApart, IsBeside, IsMoved, IsNoneOrLinked, gap_of, outermost, toward}
use Rattle.ic_raw.specs.Tables.{raw_entries}
use Rattle.ic_raw.specs.LinkWords.{LinkWords, lent_table, table_of}
use Rattle.ic_raw.specs.Doubly.{IsEnd, TellsGap, around, end_on, gap_from, next_from, prev_from}
use Rattle.ic_raw.proofs.Doubly.{first_kept, last_kept}

-- `ends s` is the first and the last place of the sequence s
abbrev pub ends : List Place → Ends
ends s = record { head = first s; tail = last s }

-- if a ++ b and c ++ d are the same sequence, then a begins with c, or c begins with a. In both cases m is the part between the two cuts
pub two_cuts : (a b c d : List Place) → a ++ b ≡ c ++ d → ((m : List Place) × (a ≡ c ++ m) × (d ≡ m ++ b)) ⊎ ((m : List Place) × (c ≡ a ++ m) × (b ≡ m ++ d))
two_cuts a b [] d e = inl (a, refl, sym e)
two_cuts [] b (y ∷ c) d e = inr (y ∷ c, refl, e)
two_cuts (x ∷ a) b (y ∷ c) d e =
    let one : x ≡ y = some_same (ap first e) in
    let other : y ≡ x = sym one in
    elim (two_cuts a b c d (ap (λ (s : List Place). drop 1 s) e)) [
      | inl r ↦ inl (r.0, (λ k. one k ∷ r.1 k), r.2)
      | inr r ↦ inr (r.0, (λ k. other k ∷ r.1 k), r.2)
    ]

-- if a place is before a gap and a place is after it, then `toward` of the gap is a place for each side
pub toward_either : (side : GapSide) (gap : Gap) → (q : Place) × (gap.before ≡ Some q) → (q : Place) × (gap.after ≡ Some q) → (q : Place) × (toward side gap ≡ Some q)
toward_either After gap before after = before
toward_either Before gap before after = after

-- if the member p has a neighbor toward an end of the list, the outermost gap at this end stays the same when p is removed
pub end_left : (side : GapSide) (front : List Place) (p : Place) (back : List Place) {q : Place} → Some q ≡ toward side (gap_of (record { front = front; back = back }))
    → gap_of (outermost side (front ++ p ∷ back)) ≡ gap_of (outermost side (front ++ back))
end_left After front p back e =
    let starts : first (front ++ p ∷ back) ≡ first (front ++ back) = first_kept front (p ∷ back) e ∙ sym (first_kept front back e) in
    (λ k. record { before = None; after = starts k })
end_left Before front p back f =
    let ends : last (front ++ p ∷ back) ≡ last (front ++ back) = last_kept front p back f in
    (λ k. record { before = ends k; after = None })

-- if a call names no member, its gap is the outermost one. If a member at an end of the list is removed, the gap at its position is also an outermost
-- one
pub outermost_beside : (side : GapSide) (s : List Place) {at : Option Place} → at ≡ None → IsBeside side (outermost side s) at
outermost_beside After s e = e
outermost_beside Before s e = e

pub outermost_whole : (side : GapSide) (s : List Place) → join (outermost side s) ≡ s
outermost_whole After s = refl
outermost_whole Before s = append-nil s

pub end_beside : (side : GapSide) (front back : List Place) {at : Option Place} → IsEnd side front back → at ≡ None → IsBeside side (record { front = front; back = back }) at
end_beside After front back end e = e ∙ ap last (sym end)
end_beside Before front back end e = e ∙ ap first (sym end)

-- if the end of a list is the member p, no other member is nearer to this end. If p is then removed and inserted at this end, the list is as before
pub stands_at_end : (side : GapSide) (front : List Place) (p : Place) (back : List Place) → IsDistinct (front ++ p ∷ back) → end_on side (ends (front ++ p ∷ back)) ≡ Some p
    → IsEnd side front back
stands_at_end After [] p back d e = refl
stands_at_end After (x ∷ front) p back d e = absurd ((absent_right x front (p ∷ back) d.0).0 (some_same e))
stands_at_end Before front p [] d e = refl
stands_at_end Before front p (x ∷ back) d e =
    absurd (last_not (Some x) back p (λ k. out.0 (sym (some_same k))) out.1 (sym (last_or-append None front (p ∷ x ∷ back)) ∙ e)) where
      out : IsAbsent p (x ∷ back)
      out = absent_right p front (x ∷ back) (distinct_middle front (x ∷ back) p d)

pub end_inserted : (side : GapSide) (front : List Place) (p : Place) (back : List Place) → IsEnd side front back → insert (outermost side (front ++ back)) p ≡ front ++ p ∷ back
end_inserted After front p back end = rw end refl
end_inserted Before front p back end = rw (end, append-nil) refl

-- a member at an end of the list has no neighbor toward this end
pub not_inner : (side : GapSide) (front back : List Place) {q : Place} → IsEnd side front back → Some q ≡ toward side (gap_of (record { front = front; back = back })) → ⊥
not_inner After front back {q} end e = none_not q (sym (e ∙ ap last end))
not_inner Before front back {q} end e = none_not q (sym (e ∙ ap first end))

-- the cut `whole` is a gap of the list that consists of `front`, p and `back`, and this gap is beside `at`
pub record IsWhole (side : GapSide) (at : Option Place) (p : Place) (front back : List Place) (whole : Cut) : Type 0 where
  pub same : join whole ≡ front ++ p ∷ back
  pub beside : IsBeside side whole at

-- if p is already on this side of `at`, or if `at` is p itself, then p is on one side of the gap beside `at`
pub own_gap : (side : GapSide) {at : Option Place} (p : Place) (front back : List Place) → IsBeside side (record { front = front; back = back }) at
    → (whole : Cut) × IsWhole side at p front back whole × (IsApart (gap_of whole) p → ⊥)
own_gap After p front back e = (record { front = front; back = p ∷ back }, record { same = refl; beside = e }, λ apart. apart.1 refl)
own_gap Before p front back e =
    (record { front = front ++ p ∷ []; back = back }, record { same = append_assoc front (p ∷ []) back; beside = e }, λ apart. apart.0 (last_of_push front p))

pub gap_beside_itself : (side : GapSide) (p : Place) (front back : List Place) → (whole : Cut) × IsWhole side (Some p) p front back whole × (IsApart (gap_of whole) p → ⊥)
gap_beside_itself After p front back = (
  record { front = front ++ p ∷ []; back = back },
  record { same = append_assoc front (p ∷ []) back; beside = sym (last_of_push front p) },
  λ apart. apart.0 (last_of_push front p),
)
gap_beside_itself Before p front back = (record { front = front; back = p ∷ back }, record { same = refl; beside = refl }, λ apart. apart.1 refl)

-- A MEMBER p GOES TO A GAP of the other members. This gap is the position of p itself, or it is a gap of all members with the same two sides
abbrev pub Goes : GapSide → Option Place → Place → (front back : List Place) → Cut → Type 0
Goes side at p front back cut = (whole : Cut) × IsWhole side at p front back whole
    × (((IsApart (gap_of whole) p → ⊥) × (insert cut p ≡ front ++ p ∷ back)) ⊎ (IsApart (gap_of whole) p × (gap_of whole ≡ gap_of cut)))

-- if p is not in the list, it is on neither side of a gap of the list
apart_of : (p : Place) (cut whole : Cut) → IsAbsent p (join cut) → gap_of whole ≡ gap_of cut → IsApart (gap_of whole) p
apart_of p cut whole out same = subst (λ g. IsApart g p) (sym same) (gap_not cut.front cut.back refl refl out)

after_kept : (side : GapSide) (at : Option Place) (cut : Cut) (front : List Place) → IsBeside side cut at → last front ≡ last cut.front → IsBeside side (record { front = front; back = cut.back }) at
after_kept After at cut front e f = e ∙ sym f
after_kept Before at cut front e f = e

ahead_kept : (side : GapSide) (at : Option Place) (cut : Cut) (back : List Place) → IsBeside side cut at → first back ≡ first cut.back → IsBeside side (record { front = cut.front; back = back }) at
ahead_kept After at cut back e f = e
ahead_kept Before at cut back e f = e ∙ sym f

module _ (side : GapSide) {at : Option Place} (p : Place) (front back : List Place) (cut : Cut) (out : IsAbsent p (join cut)) (beside : IsBeside side cut at) where
  goes_there : cut.front ≡ front → cut.back ≡ back → Goes side at p front back cut
  goes_there e f =
      let same : cut ≡ record { front = front; back = back } = (λ k. record { front = e k; back = f k }) in
      let own = own_gap side p front back (subst (λ c. IsBeside side c at) same beside) in
      (own.0, own.1, inl (own.2, (λ k. e k ++ p ∷ f k)))

  goes_after : (x : Place) (m : List Place) → cut.front ≡ front ++ x ∷ m → back ≡ x ∷ m ++ cut.back → Goes side at p front back cut
  goes_after x m e f =
      let whole : Cut = record { front = front ++ p ∷ x ∷ m; back = cut.back } in
      let ends : last whole.front ≡ last cut.front = last_or-append None front (p ∷ x ∷ m) ∙ sym (last_or-append None front (x ∷ m)) ∙ ap last (sym e) in
      let same : gap_of whole ≡ gap_of cut = (λ k. record { before = ends k; after = first cut.back }) in (
        whole,
        record { same = append_assoc front (p ∷ x ∷ m) cut.back ∙ ap (λ (s : List Place). front ++ p ∷ s) (sym f); beside = after_kept side _ cut whole.front beside ends },
        inr (apart_of p cut whole out same, same),
      )

  goes_ahead : (x : Place) (m : List Place) → front ≡ cut.front ++ x ∷ m → cut.back ≡ x ∷ m ++ back → Goes side at p front back cut
  goes_ahead x m e f =
      let whole : Cut = record { front = cut.front; back = x ∷ m ++ p ∷ back } in
      let starts : first whole.back ≡ first cut.back = ap first (sym f) in
      let same : gap_of whole ≡ gap_of cut = (λ k. record { before = last cut.front; after = starts k }) in (
        whole,
        record { same = sym (append_assoc cut.front (x ∷ m) (p ∷ back)) ∙ ap (λ (s : List Place). s ++ p ∷ back) (sym e); beside = ahead_kept side _ cut whole.back beside starts },
        inr (apart_of p cut whole out same, same),
      )

  pub goes : join cut ≡ front ++ back → Goes side at p front back cut
  goes same = elim (two_cuts cut.front cut.back front back same) [ inl r ↦ after r.0 r.1 r.2 | inr r ↦ ahead r.0 r.1 r.2 ] where
    after : (m : List Place) → cut.front ≡ front ++ m → back ≡ m ++ cut.back → Goes side at p front back cut
    after [] e f = goes_there (e ∙ append-nil front) (sym f)
    after (x ∷ m) e f = goes_after x m e f

    ahead : (m : List Place) → front ≡ cut.front ++ m → cut.back ≡ m ++ back → Goes side at p front back cut
    ahead [] e f = goes_there (sym (e ∙ append-nil cut.front)) f
    ahead (x ∷ m) e f = goes_ahead x m e f

-- if a place is on neither side of a gap, each equal place is on neither side of each equal gap
pub apart_same : {gap found : Gap} {p q : Place} → gap ≡ found → p ≡ q → IsApart gap p → IsApart found q
apart_same same one apart = rw (← same, ← one) apart

pub moved_same : {from from' to to' : Gap} {p p' : Option Place} {old old' new new' : Ends} → from' ≡ from → p' ≡ p → to' ≡ to → old' ≡ old → new' ≡ new
    → IsMoved from p to old new → IsMoved from' p' to' old' new'
moved_same a b c d e moved = rw (a, b, c, d, e) moved

-- `words` says how the two words of a place are read. Both have 8 bytes, or both have 4 bytes
module _ {W : Type 0} (words : LinkWords W) where
  -- if a place is none or linked in a view, it is none or linked in the words that the caller lent
  pub stands_back : (t : RawTable W) {es : List W} {at named : Option Place} → raw_entries t ≡ es → at ≡ named → IsNoneOrLinked words.is_linked (lent_table words t) at
      → IsNoneOrLinked words.is_linked (table_of words es) named
  stands_back t {named = named} view is stands =
      let back : IsNoneOrLinked words.is_linked (table_of words (raw_entries t)) named = rw is at stands in
      subst (λ es. IsNoneOrLinked words.is_linked (table_of words es) named) view back

  -- a place is on neither side of the outermost gap exactly if it is not the member at this end
  pub apart_at_end : (side : GapSide) (t : Table W) (list : Ends) {p : Place} → end_on side list ≢ Some p → IsApart (gap_from words side t list None) p
  apart_at_end After t list {p} away = (none_not p, away)
  apart_at_end Before t list {p} away = (away, none_not p)

  pub not_apart_at_end : (side : GapSide) (t : Table W) (list : Ends) {p : Place} → end_on side list ≡ Some p → IsApart (gap_from words side t list None) p → ⊥
  not_apart_at_end After t list end apart = apart.1 end
  not_apart_at_end Before t list end apart = apart.0 end

  -- a member with a neighbor toward an end of the list is not the member at this end
  pub has_one_beyond : (side : GapSide) (t : Table W) (list : Ends) {p q : Place} → TellsGap words side t list None → toward side (around words t list (Some p)) ≡ Some q
      → end_on side list ≡ Some p → ⊥
  has_one_beyond After t list {q} links_back beyond end = none_not q (sym (subst (λ at. prev_from words t list at ≡ None) end links_back.1) ∙ beyond)
  has_one_beyond Before t list {q} links_back beyond end = none_not q (sym (subst (λ at. next_from words t list at ≡ None) end links_back.1) ∙ beyond)

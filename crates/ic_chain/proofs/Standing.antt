-- Lemmas about valid positions of cursors. A position is valid if it is null or on a member, and what it stores about the next member is right.
use Rattle.std.proofs.Common.{◌≡◌, ◌∙◌, sym, ap, refl, subst, Bool, true, Option, Some, None, List, [], ◌∷◌, ◌++◌, append_assoc, drop}
use Rattle.std.specs.Option.{option_or}
use Rattle.ic_link_ops.specs.Prelude.{Place, Cut, join, at_front, first, last, IsAfter, IsBefore, Table, site, IsValidCursor, ListHead, empty_list, RepresentsChain}
use Rattle.ic_link_ops.proofs.Prelude.{chain_one, same_gap, first_is, last_of_push, none_not, IsKind}
use Rattle.ic_link_ops.proofs.RepresentedLists.{represents_middle, represents_frame, free_absent}
use Rattle.ic_chain.specs.Walk.{WalkEnds}
use Rattle.ic_chain.specs.Standing.{IsValidAt}

-- the first member of s, or the first member of t if s is empty, is the first member of s followed by t
pub first_of_both : (s t : List Place) → option_or (first s) (first t) ≡ first (s ++ t)
first_of_both [] t = refl
first_of_both (x ∷ s) t = refl

-- if lists of the kind store their last member, and `tail` is what a list stores for the last member `last`, then `kept_last tail` is `last`
pub last_kept : {W : Type 0} (kept : Option Place → W) (kept_last : W → Option Place) {keeps : Bool} → keeps ≡ true
    → ((last : Option Place) → WalkEnds keeps (kept_last (kept last)) None last) → {tail : W} {last : Option Place} → tail ≡ kept last → kept_last tail ≡ last
last_kept kept kept_last closed law {tail} {last} is =
    ap kept_last is ∙ subst (λ keeps. WalkEnds keeps (kept_last (kept last)) None last) closed (law last)

-- `leads`: the law that `step` returns the next place, given an entry and the previous place
module _ {E W : Type 0} {between : E → Option Place → Option Place → Type 0} {kept : Option Place → W} {step : E → Option Place → Option Place}
    (leads : (e : E) (b a : Option Place) → between e b a → step e b ≡ a) where
  -- ONE SEQUENCE: a table does not represent two different sequences s and r for a list
  pub one_represented : {t : Table E} {list : ListHead W} {s r : List Place} → RepresentsChain between kept t list s → RepresentsChain between kept t list r → s ≡ r
  one_represented {t} {list} {s} {r} h k =
      chain_one between (λ e a b c f g. sym (leads e a b f) ∙ leads e a c g) t.entry None s r (sym h.head ∙ k.head) h.chain k.chain

  -- `prev` is the member before p, and `step` returns `next` for the entry of p. Then `next` is the first member of `back`, or none if p is the last member
  pub next_is : {t : Table E} {list : ListHead W} (front back : List Place) {p : Place} {prev next : Option Place} → RepresentsChain between kept t list (front ++ p ∷ back)
      → prev ≡ last front → next ≡ step (t.entry p) prev → next ≡ first back
  next_is {t} front back {p} shown is_prev is = is ∙ ap (step (t.entry p)) is_prev ∙ leads _ _ _ (represents_middle front back shown)

  -- `current` is the member p, and `following` is the member after the gap that is right after `current`. Then `following` is the first member of `back`, or
  -- none if p is the last member
  pub after_on : {t : Table E} {list : ListHead W} {current following : Option Place} → ((gap : Cut) → RepresentsChain between kept t list (join gap) → IsAfter gap current → IsBefore gap following)
      → (front back : List Place) (p : Place) → RepresentsChain between kept t list (front ++ p ∷ back) → current ≡ Some p → following ≡ first back
  after_on says front back p shown on =
      says (record { front = front ++ p ∷ []; back = back }) (rw (append_assoc front (p ∷ []) back) shown) (on ∙ sym (last_of_push front p))

  module _ {L P : Type 0} {table : L → Table E} {member : P → Option Place} {CachesNext : P → Option Place → Type 0} where
    -- if a position is valid and on a member, what it stores about the next member is right. The next member is the first of `gap.back`, where `gap` is the
    -- gap right after the position
    pub cached_after : {links : L} {list : ListHead W} {at : P} → IsValidAt (RepresentsChain between kept) table member CachesNext links list at → (gap : Cut)
        → RepresentsChain between kept (table links) list (join gap) → IsAfter gap (member at) → (q : Place) → member at ≡ Some q → CachesNext at (first gap.back)
    cached_after {at = at'} k gap shown after q on =
        let same = (same_gap k.gap gap k.shown.distinct (one_represented k.shown shown) (sym k.after ∙ after)).1 in
        subst (λ (s : List Place). CachesNext at' (first s)) same (k.caches q on)

    -- what a valid position on the member q stores about the next member is right. The next member is the first of `back`
    pub cached_on : {links : L} {list : ListHead W} {at : P} → IsValidAt (RepresentsChain between kept) table member CachesNext links list at → (front back : List Place) (q : Place)
        → RepresentsChain between kept (table links) list (front ++ q ∷ back) → member at ≡ Some q → CachesNext at (first back)
    cached_on k front back q shown on =
        cached_after k (record { front = front ++ q ∷ []; back = back }) (rw (append_assoc front (q ∷ []) back) shown) (on ∙ sym (last_of_push front q)) q on

  -- the five facts about a kind of collection (`IsKind`) hold for lists of every kind. `law`: an entry that is linked between two places marks its place as
  -- linked
  pub chain_lists : {linked : E → Bool} → ((e : E) (b a : Option Place) → between e b a → linked e ≡ true) → IsKind (RepresentsChain between kept) linked (empty_list kept)
  chain_lists law = record {
    frame = λ old new list s touched shown apart same. represents_frame touched shown apart same;
    free = λ t list s p shown off. free_absent law shown off;
    distinct = λ t list s shown. shown.distinct;
    nothing = λ t. record { distinct = tt; chain = tt; head = refl; tail = refl };
    one = λ t list s u shown other. one_represented shown other;
  }

module _ {L E H P : Type 0} {Represents : Table E → H → List Place → Type 0} {table : L → Table E} {member : P → Option Place} {CachesNext : P → Option Place → Type 0} where
  -- if the position is valid, it is null or on a member of the represented sequence
  pub stands : {links : L} {list : H} {at : P} → IsValidAt Represents table member CachesNext links list at → IsValidCursor Represents table (site links list (member at))
  stands k = record { gap = k.gap; shown = k.shown; after = k.after }

  -- a position is valid, if `gap` is a gap of the represented sequence right after the position, and what the position stores is right for the first member
  -- of `gap.back`
  pub stands_here : {links : L} {list : H} {at : P} {next : Option Place} (gap : Cut) → Represents (table links) list (join gap) → IsAfter gap (member at)
      → CachesNext at next → next ≡ first gap.back → IsValidAt Represents table member CachesNext links list at
  stands_here {at = at'} gap shown after caches next = record { gap = gap; shown = shown; after = after; caches = λ q on. subst (CachesNext at') next caches }

  -- a position at null is valid, whatever it stores about the next member
  pub stands_at_null : {links : L} {list : H} {at : P} (s : List Place) → Represents (table links) list s → member at ≡ None → IsValidAt Represents table member CachesNext links list at
  stands_at_null s shown null = record { gap = at_front s; shown = shown; after = null; caches = λ q on. absurd (none_not q (sym null ∙ on)) }

  -- a position on the member p is valid, if what it stores about the next member is right for the member after p
  pub stands_on_member : {links : L} {list : H} {at : P} {next : Option Place} (front back : List Place) (p : Place) → Represents (table links) list (front ++ p ∷ back)
      → member at ≡ Some p → CachesNext at next → next ≡ first back → IsValidAt Represents table member CachesNext links list at
  stands_on_member front back p shown on caches next =
      stands_here (record { front = front ++ p ∷ []; back = back }) (rw (append_assoc front (p ∷ []) back) shown) (on ∙ sym (last_of_push front p)) caches next

  -- a valid position stays valid, if neither the table nor the head of the list changes
  pub stands_still : {old new : L} {list list' : H} {at : P} → IsValidAt Represents table member CachesNext old list at → table new ≡ table old → list' ≡ list
      → IsValidAt Represents table member CachesNext new list' at
  stands_still k same head = record { gap = k.gap; shown = rw (same, head) k.shown; after = k.after; caches = k.caches }

-- AN EDIT BEFORE THE POSITION leaves the position valid: it changes only the members before the position to `front`, and the members of `gap.back` stay
module _ {E W L P : Type 0} {between : E → Option Place → Option Place → Type 0} {kept : Option Place → W} {step : E → Option Place → Option Place}
    (leads : (e : E) (b a : Option Place) → between e b a → step e b ≡ a) {table : L → Table E} {member : P → Option Place} {CachesNext : P → Option Place → Type 0}
    {old new : L} {list list' : ListHead W} {at : P} (k : IsValidAt (RepresentsChain between kept) table member CachesNext old list at) (gap : Cut)
    (shown : RepresentsChain between kept (table old) list (join gap)) (before : IsBefore gap (member at)) (front : List Place)
    (now : RepresentsChain between kept (table new) list' (front ++ gap.back)) where
  on_either : (current : Option Place) → member at ≡ current → IsValidAt (RepresentsChain between kept) table member CachesNext new list' at
  on_either None null = stands_at_null (front ++ gap.back) now null
  on_either (Some p) on =
      let back = drop 1 gap.back in
      let is = first_is gap.back (sym on ∙ before) in
      stands_on_member front back p (rw is at now) on (cached_on leads k gap.front back p (rw is at shown) on) refl

  pub stays : IsValidAt (RepresentsChain between kept) table member CachesNext new list' at
  stays = on_either (member at) refl

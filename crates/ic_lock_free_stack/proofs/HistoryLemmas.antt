-- If the accounts have one history and a holder makes one more step, the accounts still have one history.
use Rattle.std.proofs.Common.{◌≡◌, ◌≢◌, ℕ, ◌+◌, ◌*◌, ◌<◌, ◌≤◌, eqb, true, false, cond, List, [], ◌∷◌, ◌++◌, map, length, get_or, set, sum_by, All, Contains, refl, sym, ap, ◌∙◌, subst, arith, append_assoc, append-nil, ⊎_elim, ne_eqb}
use Rattle.std.specs.List.{IsDistinct}
use Rattle.std.proofs.lemmas.List.Elements.{All-push}
use Rattle.std.proofs.lemmas.List.Sums.{sum_by-set, sum_by-le}
use mathlib.Core.Option.{some}
use lib.ListN.{get_elem?}
use Rattle.atomic_table.proofs.Lists.{at_set}
use Rattle.ic_unsafe_ref.specs.declared.place.Place.{Place}
use Rattle.ic_unsafe_ref.specs.Places.{index_of}
use Rattle.ic_lock_free_stack.specs.declared.step.Step.{Step}
use Rattle.ic_lock_free_stack.specs.declared.held.Size.{Size}
use Rattle.ic_lock_free_stack.specs.declared.held.Known.{Known}
use Rattle.ic_lock_free_stack.specs.declared.held.Account.{Account}
use Rattle.ic_lock_free_stack.specs.declared.step.Entry.{Entry}
use Rattle.ic_lock_free_stack.specs.Prelude.{Moment, entry, at_first, is_with, moves, after, Fits, IsLegal, steps_of, brings, holds, on_head, pushes_and_takes, most_steps, word_at, head_at, Spells, known_of, made, sees}
use Rattle.ic_lock_free_stack.specs.OneHistory.{heads_in, IsSeen, GoesOn, LooksOn, IsKept, IsOneHistory}
use Rattle.ic_lock_free_stack.proofs.Lists.{at_or, at_inside, each_all, map_set, named_apart, contains_at}
use Rattle.ic_lock_free_stack.proofs.MomentLemmas.{legal_more, moment_more, heads_more, pushes_more, holds_more, steps_of-mine, steps_of-other, steps_of-append, none_added, sound_after, with_mine, with_other, with_is}

abbrev pub name_of_account : Account → ℕ
name_of_account a = a.name

abbrev pub heads_of_account : Account → ℕ
heads_of_account a = pushes_and_takes a.steps

-- WHAT A CHANGE OF WORDS LEAVES: the word of a place stays, if the place is neither free nor with the holder `name`. The heads stay if `heads`, the number of
-- steps on heads, is 0
pub record Leaves (size : Size) (words words' : List ℕ) (m : Moment) (name heads : ℕ) : Type 0 where
  pub places : (p : Place) → index_of p < size.places → is_with name (m.place p) ≡ false → word_at words p ≢ 0 → word_at words' p ≡ word_at words p
  pub heads_too : heads ≡ 0 → (k : ℕ) → head_at size words' k ≡ head_at size words k

pub seen_longer : (a b c : List Entry) → IsSeen a b → IsSeen b c → IsSeen a c
seen_longer a b c x y = record {
  rest = x.rest ++ y.rest;
  is = y.is ∙ (ap (λ l. l ++ y.rest) x.is ∙ append_assoc a x.rest y.rest);
}

pub seen_itself : (a : List Entry) → IsSeen a a
seen_itself a = record { rest = []; is = sym (append-nil a) }

-- if an account is right and its holder then sees the whole history, the account is still right
pub kept_seen : (size : Size) (words : List ℕ) (order : List Entry) (m : Moment) (a : Account) → IsKept size words order m a → IsKept size words order m (sees order a)
kept_seen size words order m a was = record {
  own = was.own;
  own_seen = was.own;
  begun = seen_itself order;
  held = was.held;
  known = was.known;
  few = was.few;
  earlier = was.earlier;
  seen = was.seen;
}

module _ (size : Size) (words words' : List ℕ) (order order' : List Entry) (m m' : Moment) (name heads : ℕ) (leaves : Leaves size words words' m name heads) (grows : heads_in order' ≡ heads_in order + heads) (longer : IsSeen order order') where
  -- the account of another holder is still right after the step
  pub other_kept : (b : Account) → b.name ≢ name → steps_of b.name order' ≡ steps_of b.name order → ((p : Place) → is_with b.name (m'.place p) ≡ is_with b.name (m.place p))
      → IsKept size words order m b → IsKept size words' order' m' b
  other_kept b apart own held was = record {
    own = own ∙ was.own;
    own_seen = was.own_seen;
    begun = seen_longer b.seen order order' was.begun longer;
    held = λ p. held p ∙ was.held p;
    known = λ p k.
        let old = was.known p k in
        let not_mine : is_with name (m.place p) ≡ false = ap (is_with name) (with_is b.name (m.place p) (was.held p ∙ old.1)) ∙ ne_eqb b.name name apart in
        (old.0, old.1, leaves.places p old.0 not_mine (λ e. k (sym old.2 ∙ e)) ∙ old.2);
    few = was.few;
    earlier = let e = was.earlier in omega (arith, e, grows);
    seen = λ e. let f = was.earlier in
        let none : heads ≡ 0 = omega (arith, e, f, grows) in
        let then : b.looked ≡ heads_in order = omega (arith, e, f, grows) in
        leaves.heads_too none b.stack ∙ was.seen then;
  }

module _ (size : Size) (words : List ℕ) (accounts : List Account) (was : IsOneHistory size words accounts) where
  -- if there are fewer than 65,536 accounts, the history has fewer than 2^64 steps on heads
  pub few_heads : length accounts < 65536 → heads_in was.order < 18446744073709551615
  few_heads few =
      let each : All (λ a. heads_of_account a ≤ most_steps) accounts = each_all (λ a. heads_of_account a ≤ most_steps) accounts (λ i a at. (was.kept i a at).few) in
      let bound : sum_by heads_of_account accounts ≤ length accounts * most_steps = sum_by-le heads_of_account most_steps accounts each in
      omega (arith, bound, was.counted, few)

  module _ (i : ℕ) (a : Account) (at : get_elem? accounts i ≡ some a) where
    abbrev mine : IsKept size words was.order was.now a
    mine = was.kept i a at

    module _ (words' : List ℕ) (b : Account) (named : b.name ≡ a.name) where
      names : map name_of_account (set accounts i b) ≡ map name_of_account accounts
      names = map_set name_of_account accounts i a b at named

      -- A CHANGE WITHOUT A STEP: if words change but no step is made, the accounts still have one history
      module _ (steps : b.steps ≡ a.steps) (spells : Spells size words' was.now) (leaves : Leaves size words words' was.now a.name 0) (kept : IsKept size words' was.order was.now b) where
        rest_kept : (j : ℕ) (c : Account) → get_elem? (set accounts i b) j ≡ some c → IsKept size words' was.order was.now c
        rest_kept j c there = ⊎_elim
            (λ t. subst (IsKept size words' was.order was.now) t.1 kept)
            (λ t. other_kept size words words' was.order was.order was.now was.now a.name 0 leaves (omega arith) (seen_itself was.order) c (named_apart name_of_account accounts i j a c was.named at t.1 t.0) refl (λ p. refl) (was.kept j c t.1))
            (at_set accounts i j b c there)

        pub rests : IsOneHistory size words' (set accounts i b)
        rests = record {
          order = was.order;
          legal = was.legal;
          now = was.now;
          now_is = was.now_is;
          sound = was.sound;
          spells = spells;
          kept = rest_kept;
          named = subst (IsDistinct eqb) (sym names) was.named;
          by = subst (λ l. All (λ (x : Entry). Contains l x.holder) was.order) (sym names) was.by;
          counted =
              let s = sum_by-set heads_of_account accounts i b a (at_inside accounts i a at) in
              let g : heads_of_account (get_or accounts i a) ≡ heads_of_account b = ap heads_of_account (at_or accounts i a a at) ∙ ap pushes_and_takes (sym steps) in
              omega (arith, s, g, was.counted);
        }

    -- after the part of the history that the holder has seen, the history has only steps of other holders
    since : steps_of a.name mine.begun.rest ≡ []
    since = none_added (steps_of a.name a.seen) (steps_of a.name mine.begun.rest) (steps_of a.name was.order) (ap (steps_of a.name) mine.begun.is ∙ steps_of-append a.name a.seen mine.begun.rest) (mine.own ∙ sym mine.own_seen)

    pub looks_on : LooksOn a.name a.seen was.order
    looks_on = record { between = mine.begun.rest; is = mine.begun.is; others = since; legal = was.legal }

    -- the history with the new step at its end continues the history that the holder had seen
    module _ (e : Step) (fits : Fits was.now a.name e) where
      goes_legal : IsLegal at_first (was.order ++ entry a.name e ∷ [])
      goes_legal = legal_more at_first was.order (entry a.name e) was.legal (subst (λ (m : Moment). Fits m a.name e) (sym was.now_is) fits)

      pub goes_on : GoesOn a.name a.seen e (was.order ++ entry a.name e ∷ [])
      goes_on = record {
        between = mine.begun.rest;
        is = ap (λ l. l ++ entry a.name e ∷ []) mine.begun.is;
        others = since;
        legal = goes_legal;
      }

    -- A STEP of the holder: if the step is possible and the new words agree with the moment after it, the accounts still have one history
    module _ (words' : List ℕ) (e : Step) (ks : List Known) (fits : Fits was.now a.name e) (spells : Spells size words' (after was.now a.name e)) (leaves : Leaves size words words' was.now a.name (on_head e))
        (few : pushes_and_takes a.steps + on_head e ≤ most_steps)
        (known : (p : Place) → known_of ks p ≢ 0 → (index_of p < size.places) × (holds p (a.steps ++ e ∷ []) ≡ true) × (word_at words' p ≡ known_of ks p)) where
      abbrev x : Entry
      x = entry a.name e

      abbrev order' : List Entry
      order' = was.order ++ x ∷ []

      abbrev now' : Moment
      now' = after was.now a.name e

      abbrev new : Account
      new = made a e order' ks

      grows : heads_in order' ≡ heads_in was.order + on_head e
      grows = heads_more was.order x

      mine_kept : IsKept size words' order' now' new
      mine_kept = record {
        own = steps_of-mine a.name was.order e ∙ ap (λ l. l ++ e ∷ []) mine.own;
        own_seen = steps_of-mine a.name was.order e ∙ ap (λ l. l ++ e ∷ []) mine.own;
        begun = seen_itself order';
        held = λ p. with_mine was.now a.name e p ∙ (ap (cond (moves p e) (brings e)) (mine.held p) ∙ sym (holds_more p a.steps e));
        known = known;
        few = let p = pushes_more a.steps e in omega (arith, p, few);
        earlier = let f = mine.earlier in omega (arith, f, grows);
        seen = λ s. let f = mine.earlier in
            let none : on_head e ≡ 0 = omega (arith, s, f, grows) in
            let then : a.looked ≡ heads_in was.order = omega (arith, s, f, grows) in
            leaves.heads_too none a.stack ∙ mine.seen then;
      }

      step_kept : (j : ℕ) (c : Account) → get_elem? (set accounts i new) j ≡ some c → IsKept size words' order' now' c
      step_kept j c there = ⊎_elim
          (λ t. subst (IsKept size words' order' now') t.1 mine_kept)
          (λ t. let apart = named_apart name_of_account accounts i j a c was.named at t.1 t.0 in
          other_kept size words words' was.order order' was.now now' a.name (on_head e) leaves grows (record { rest = x ∷ []; is = refl }) c apart (steps_of-other c.name a.name was.order e (λ f. apart (sym f)))
          (λ p. with_other was.now was.sound a.name c.name e p fits apart) (was.kept j c t.1))
          (at_set accounts i j new c there)

      step_names : map name_of_account (set accounts i new) ≡ map name_of_account accounts
      step_names = map_set name_of_account accounts i a new at refl

      pub steps_on : IsOneHistory size words' (set accounts i new)
      steps_on = record {
        order = order';
        legal = goes_legal e fits;
        now = now';
        now_is = moment_more at_first was.order x ∙ ap (λ (m : Moment). after m a.name e) was.now_is;
        sound = sound_after was.now was.sound a.name e fits;
        spells = spells;
        kept = step_kept;
        named = subst (IsDistinct eqb) (sym step_names) was.named;
        by = subst (λ l. All (λ (y : Entry). Contains l y.holder) order') (sym step_names)
            (All-push (λ (y : Entry). Contains (map name_of_account accounts) y.holder) was.order x was.by (contains_at name_of_account accounts i a at));
        counted =
            let s = sum_by-set heads_of_account accounts i new a (at_inside accounts i a at) in
            let g : heads_of_account (get_or accounts i a) ≡ heads_of_account a = ap heads_of_account (at_or accounts i a a at) in
            let p = pushes_more a.steps e in
            omega (arith, s, g, p, grows, was.counted);
      }

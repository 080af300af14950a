-- Lemmas about senders, which send one place after the other, and about the steps that they make.
use Rattle.std.proofs.Common.{◌≡◌, ℕ, zero, suc, ◌+◌, ◌*◌, ◌<◌, Bool, List, [], ◌∷◌, ◌++◌, length, length-append, append_assoc, append-nil, refl, sym, ap, ◌∙◌, subst, arith, slice_index_or, Result, Ok, Err, IfOk}
use Rattle.std.proofs.lemmas.List.{map-append}
use Rattle.ic_unsafe_ref.specs.declared.place.Place.{Place}
use Rattle.ic_unsafe_ref.specs.Places.{index_of}
use Rattle.ic_lock_free_stack.specs.declared.step.Step.{Step}
use Rattle.ic_lock_free_stack.specs.declared.step.Step.TheVariants.{Claim, Release, Push, TakeAll}
use Rattle.ic_lock_free_stack.specs.declared.stacks.Stacks.{Stacks}
use Rattle.ic_lock_free_stack.specs.declared.stacks.Holder.{Holder}
use Rattle.ic_lock_free_stack.proofs.HolderLemmas.{range_snoc}
use Rattle.stack_uses.specs.declared.delivery.Sender.{Sender}
use Rattle.stack_uses.specs.Mail.{steps_to_send}
use Rattle.stack_uses.specs.Delivery.{steps_to_send_each, Sends, OnlyTakes, IsReady, AreReady, HasSent, HaveSent}

-- if one further place `p` is sent with the result `b`, then the steps for all places are the earlier steps, followed by the steps for `p`
each_more : (k : ℕ) (ps : List Place) (got : List Bool) (p : Place) (b : Bool) → length got ≡ length ps
    → steps_to_send_each k (ps ++ p ∷ []) (got ++ b ∷ []) ≡ steps_to_send_each k ps got ++ steps_to_send k p b
each_more k [] [] p b e = append-nil (steps_to_send k p b)
each_more k [] (c ∷ got) p b e = absurd (omega (arith, e))
each_more k (q ∷ ps) [] p b e = absurd (omega (arith, e))
each_more k (q ∷ ps) (c ∷ got) p b e = ap (λ l. steps_to_send k q c ++ l) (each_more k ps got p b (omega (arith, e)))
    ∙ sym (append_assoc (steps_to_send k q c) (steps_to_send_each k ps got) (steps_to_send k p b))

pub sends_none : (first : ℕ) → Sends first 0 []
sends_none first = record { places = []; are = refl; got = []; each = refl; steps_are = refl }

pub sends_more : (first count : ℕ) (es : List Step) (p : Place) (b : Bool) → Sends first count es → index_of p ≡ first + count → Sends first (count + 1) (es ++ steps_to_send 0 p b)
sends_more first count es p b was e = record {
  places = was.places ++ p ∷ [];
  are = map-append index_of was.places (p ∷ []) ∙ ((λ i. was.are i ++ e i ∷ []) ∙ sym (range_snoc first count));
  got = was.got ++ b ∷ [];
  each = let l = was.each in let m = length-append was.got (b ∷ []) in let n = length-append was.places (p ∷ []) in omega (arith, l, m, n);
  steps_are = ap (λ l. l ++ steps_to_send 0 p b) was.steps_are ∙ sym (each_more 0 was.places was.got p b was.each);
}

-- if the steps `es` only take places from stacks, then so do `es` and one further call that takes all places of a stack
pub takes_more : (es : List Step) (k : ℕ) (s : List Place) → OnlyTakes es → OnlyTakes (es ++ TakeAll k s ∷ [])
takes_more [] k s only = tt
takes_more (Claim p got ∷ es) k s only = absurd only
takes_more (Release p ∷ es) k s only = absurd only
takes_more (Push j t ∷ es) k s only = absurd only
takes_more (TakeAll j t ∷ es) k s only = takes_more es k s only

-- if all senders of a list are ready, and one further sender is ready for the next `count` places, then all senders of the longer list are ready
pub ready_more : {A : Type 0} (stacks : Stacks A) (first count : ℕ) (xs : List (Sender A)) (x : Sender A) → AreReady stacks first count xs
    → IsReady stacks (first + length xs * count) count x → AreReady stacks first count (xs ++ x ∷ [])
ready_more stacks first count [] x are is = (subst (λ n. IsReady stacks n count x) (omega arith) is, tt)
ready_more stacks first count (y ∷ ys) x are is =
    (are.0, ready_more stacks (first + count) count ys x are.1 (subst (λ n. IsReady stacks n count x) (omega arith) is))

-- a sender that is ready for `count` places from `first` on stores these two numbers. So `IsReady` and `HasSent` may use the numbers that the sender stores
module _ {A : Type 0} (stacks : Stacks A) (count : ℕ) where
  own_part : (first : ℕ) (x : Sender A) → IsReady stacks first count x → IsReady x.stacks.now x.first x.count x
  own_part first x is = subst (λ (s : Stacks A). IsReady s x.first x.count x) (sym is.stacks_are)
      (subst (λ n. IsReady stacks n x.count x) (sym is.first_is) (subst (λ n. IsReady stacks first n x) (sym is.count_is) is))

  its_part : (first : ℕ) (x : Sender A) (h : Holder) → IsReady stacks first count x → HasSent x.stacks.now x.first x.count h → HasSent stacks first count h
  its_part first x h is sent = subst (λ (s : Stacks A). HasSent s first count h) is.stacks_are
      (subst (λ n. HasSent x.stacks.now n count h) is.first_is (subst (λ n. HasSent x.stacks.now x.first n h) is.count_is sent))

  pub ready_at : (first : ℕ) (xs : List (Sender A)) → AreReady stacks first count xs → (i : ℕ) (x : Sender A) → i < length xs → x ≡ slice_index_or xs i x
      → IsReady x.stacks.now x.first x.count x
  ready_at first [] are i x low is = absurd (omega (arith, low))
  ready_at first (y ∷ ys) are zero x low is = subst (λ (z : Sender A). IsReady z.stacks.now z.first z.count z) (sym is) (own_part first y are.0)
  ready_at first (y ∷ ys) are (suc i) x low is = ready_at (first + count) ys are.1 i x (omega (arith, low)) is

  -- the call for the sender with the number `i` returned a holder that has sent the places of this sender
  abbrev pub Gave : List (Sender A) → List Holder → ℕ → Type 0
  Gave xs hs i = (d : Holder) → i < length xs → (x : Sender A) × ((y : Sender A) → slice_index_or xs i y ≡ x) × HasSent x.stacks.now x.first x.count (slice_index_or hs i d)

  pub all_sent : (first : ℕ) (xs : List (Sender A)) (hs : List Holder) → length hs ≡ length xs → AreReady stacks first count xs → ((i : ℕ) → Gave xs hs i) → HaveSent stacks first count hs
  all_sent first [] [] e are gave = tt
  all_sent first [] (h ∷ hs) e are gave = absurd (omega (arith, e))
  all_sent first (x ∷ xs) [] e are gave = absurd (omega (arith, e))
  all_sent first (x ∷ xs) (h ∷ hs) e are gave =
      let one = gave 0 h (omega arith) in (
        its_part first x h are.0 (subst (λ (y : Sender A). HasSent y.stacks.now y.first y.count h) (sym (one.1 x)) one.2),
        all_sent (first + count) xs hs (omega (arith, e)) are.1 (λ i d low. gave (suc i) d (omega (arith, low))),
      )

-- if `P` and `Q` hold of the value of a successful result, and together imply `R`, then `R` holds of this value
pub if_both : {X E : Type 0} {P Q R : X → Type 0} (r : Result X E) → ((x : X) → P x → Q x → R x) → IfOk r P → IfOk r Q → IfOk r R
if_both (Ok x) f p q = f x p q
if_both (Err e) f p q = tt

-- Lemmas about the places that were sent to a mailbox and the places that were received from it.
use Rattle.std.proofs.Common.{◌≡◌, ◌≢◌, ℕ, zero, suc, ◌<◌, eqb, Bool, true, false, true≢false, cond, List, [], ◌∷◌, ◌++◌, map, length, get_or, reverse, All, Contains, refl, sym, ap, ◌∙◌, subst, arith, append-nil, eq-eqb}
use Rattle.std.proofs.lemmas.List.{map-append, length-map}
use Rattle.std.proofs.lemmas.List.Elements.{All-nil, All-cons, All-head, All-tail, All-append, All-weaker}
use Rattle.std.proofs.lemmas.Grind.{flat_map-append}
use Rattle.ic_unsafe_ref.specs.declared.place.Place.{Place}
use Rattle.ic_lock_free_stack.specs.declared.step.Step.{Step}
use Rattle.ic_lock_free_stack.specs.declared.step.Entry.{Entry}
use Rattle.ic_lock_free_stack.specs.Prelude.{steps_of, stack_after, Party, IsHistory, sent, got, of_record, of_history}
use Rattle.ic_lock_free_stack.proofs.MomentLemmas.{by_test}
use Rattle.ic_lock_free_stack.proofs.OrderLemmas.{comes_in_turn}
use Rattle.stack_uses.specs.Mail.{Letter, sent_from, IsOnlyReceiver, IsMail}

-- after one further step `e`, a record has the places that it had before, followed by the places of `e`
pub of_more : (f : Step → List Place) (es : List Step) (e : Step) → of_record f (es ++ e ∷ []) ≡ of_record f es ++ f e
of_more f es e = flat_map-append f es (e ∷ []) ∙ ap (λ l. of_record f es ++ l) (append-nil (f e))

-- each place of `s` is a letter that the holder `h` has sent. `letters_of` lists the letters of a history, one for each place that a step sends
abbrev signed : ℕ → List Place → List Letter
signed h s = map (λ (p : Place). record { sender = h; place = p }) s

abbrev letters_of : ℕ → List Entry → List Letter
letters_of k [] = []
letters_of k (x ∷ xs) = signed x.holder (sent k x.step) ++ letters_of k xs

abbrev place_of : Letter → Place
place_of x = x.place

signed_places : (h : ℕ) (s : List Place) → map place_of (signed h s) ≡ s
signed_places h [] = refl
signed_places h (p ∷ s) = ap (λ l. p ∷ l) (signed_places h s)

letters_places : (k : ℕ) (order : List Entry) → map place_of (letters_of k order) ≡ of_history (sent k) order
letters_places k [] = refl
letters_places k (x ∷ xs) = map-append place_of (signed x.holder (sent k x.step)) (letters_of k xs)
    ∙ ((λ i. signed_places x.holder (sent k x.step) i ++ letters_places k xs i))

signed_by : (P : ℕ → Type 0) (h : ℕ) (s : List Place) → P h → All (λ (x : Letter). P x.sender) (signed h s)
signed_by P h [] is = All-nil (λ (x : Letter). P x.sender)
signed_by P h (p ∷ s) is = All-cons (λ (x : Letter). P x.sender) (record { sender = h; place = p }) (signed h s) is (signed_by P h s is)

letters_by : (P : ℕ → Type 0) (k : ℕ) (order : List Entry) → All (λ (x : Entry). P x.holder) order → All (λ (x : Letter). P x.sender) (letters_of k order)
letters_by P k [] by = All-nil (λ (x : Letter). P x.sender)
letters_by P k (x ∷ xs) by =
    All-append (λ (y : Letter). P y.sender) (signed x.holder (sent k x.step)) (letters_of k xs)
    (signed_by P x.holder (sent k x.step) (All-head (λ (y : Entry). P y.holder) x xs by)) (letters_by P k xs (All-tail (λ (y : Entry). P y.holder) x xs by))

from_both : (h : ℕ) (xs ys : List Letter) → sent_from h (xs ++ ys) ≡ sent_from h xs ++ sent_from h ys
from_both h [] ys = refl
from_both h (x ∷ xs) ys = by_test (λ b. cond b (x.place ∷ sent_from h (xs ++ ys)) (sent_from h (xs ++ ys)) ≡ cond b (x.place ∷ sent_from h xs) (sent_from h xs) ++ sent_from h ys) (eqb x.sender h)
    (λ _. ap (λ l. x.place ∷ l) (from_both h xs ys)) (λ _. from_both h xs ys)

from_signed : (h a : ℕ) (b : Bool) (s : List Place) → eqb a h ≡ b → sent_from h (signed a s) ≡ cond b s []
from_signed h a true [] e = refl
from_signed h a false [] e = refl
from_signed h a true (p ∷ s) e = rw e (ap (λ l. p ∷ l) (from_signed h a true s e))
from_signed h a false (p ∷ s) e = rw e (from_signed h a false s e)

from_letters : (h k : ℕ) (order : List Entry) → sent_from h (letters_of k order) ≡ of_record (sent k) (steps_of h order)
from_letters h k [] = refl
from_letters h k (x ∷ xs) =
    let rest = from_letters h k xs in
    from_both h (signed x.holder (sent k x.step)) (letters_of k xs) ∙ (ap (λ l. l ++ sent_from h (letters_of k xs)) (from_signed h x.holder (eqb x.holder h) (sent k x.step) refl)
    ∙ by_test (λ b. cond b (sent k x.step) [] ++ sent_from h (letters_of k xs) ≡ of_record (sent k) (cond b (x.step ∷ steps_of h xs) (steps_of h xs))) (eqb x.holder h)
    (λ _. ap (λ l. sent k x.step ++ l) rest) (λ _. rest))

-- if `s ++ t` is empty, then `s` is empty (`no_front`), and `t` is empty (`no_back`)
no_front : (s t : List Place) → s ++ t ≡ [] → s ≡ []
no_front [] t e = refl
no_front (p ∷ s) t e = absurd (cc e)

no_back : (s t : List Place) → s ++ t ≡ [] → t ≡ []
no_back [] t e = e
no_back (p ∷ s) t e = absurd (cc e)

-- `f` lists the places that a step takes. If no holder except `r` has taken a place, then all places that were taken in the history were taken by `r`
only_by : (f : Step → List Place) (r : ℕ) (names : List ℕ) (order : List Entry) → All (λ (x : Entry). Contains names x.holder) order
    → ((h : ℕ) → h ≢ r → Contains names h → of_record f (steps_of h order) ≡ []) → of_history f order ≡ of_record f (steps_of r order)
only_by f r names [] by none = refl
only_by f r names (x ∷ xs) by none =
    let by_rest = All-tail (λ (y : Entry). Contains names y.holder) x xs by in
    let here = All-head (λ (y : Entry). Contains names y.holder) x xs by in
    let none_rest : (h : ℕ) → h ≢ r → Contains names h → of_record f (steps_of h xs) ≡ [] = λ h ne there.
    by_test (λ b. of_record f (cond b (x.step ∷ steps_of h xs) (steps_of h xs)) ≡ [] → of_record f (steps_of h xs) ≡ []) (eqb x.holder h) (λ _ e. no_back (f x.step) (of_record f (steps_of h xs)) e) (λ _ e. e) (none h ne there) in
    let rest = only_by f r names xs by_rest none_rest in
    by_test (λ b. eqb x.holder r ≡ b → f x.step ++ of_history f xs ≡ of_record f (cond b (x.step ∷ steps_of r xs) (steps_of r xs))) (eqb x.holder r)
    (λ _ _. ap (λ l. f x.step ++ l) rest)
    (λ _ e.
    let ne : x.holder ≢ r = λ g. true≢false (sym (eq-eqb x.holder r g) ∙ e) in
    let mine : of_record f (x.step ∷ steps_of x.holder xs) ≡ [] = subst (λ b. of_record f (cond b (x.step ∷ steps_of x.holder xs) (steps_of x.holder xs)) ≡ []) (eq-eqb x.holder x.holder refl) (none x.holder ne here) in
    ap (λ l. l ++ of_history f xs) (no_front (f x.step) (of_record f (steps_of x.holder xs)) mine) ∙ rest) refl

-- each name in the list of the parties' names is the name of the party at the same position
name_at : (l : List Party) (i : ℕ) (d : Party) (h : ℕ) → i < length l → get_or (map (λ (x : Party). x.name) l) i h ≡ (get_or l i d).name
name_at [] i d h low = absurd (omega (arith, low))
name_at (x ∷ xs) zero d h low = refl
name_at (x ∷ xs) (suc i) d h low = name_at xs i d h (omega (arith, low))

pub mail : (order : List Entry) (parties : List Party) (k : ℕ) (x : Party) → IsHistory order parties → Contains parties x → IsOnlyReceiver k x.name parties
    → IsMail k parties (of_record (got k) x.steps) (reverse (stack_after order k))
mail order parties k x was there only =
    let own_x : steps_of x.name order ≡ x.steps = subst (λ (y : Party). steps_of y.name order ≡ y.steps) there.2 (was.own there.0 x there.1) in
    let none : (h : ℕ) → h ≢ x.name → Contains (map (λ (y : Party). y.name) parties) h → of_record (got k) (steps_of h order) ≡ [] = λ h ne at.
    let low : at.0 < length parties = (let l = length-map parties (λ (y : Party). y.name) in let a = at.1 in omega (arith, l, a)) in
    let y : Party = get_or parties at.0 x in
    let named : y.name ≡ h = sym (name_at parties at.0 x h low) ∙ at.2 in
    ap (of_record (got k)) (ap (λ n. steps_of n order) (sym named) ∙ was.own at.0 x low) ∙ only at.0 x low (λ e. ne (sym named ∙ e)) in
    record {
      letters = letters_of k order;
      all = letters_places k order ∙ (comes_in_turn order k was.legal ∙ ap (λ l. l ++ reverse (stack_after order k))
          (only_by (got k) x.name (map (λ (y : Party). y.name) parties) order was.by none ∙ ap (of_record (got k)) own_x));
      by = letters_by (Contains (map (λ (y : Party). y.name) parties)) k order was.by;
      each = All-weaker (λ (y : Party). steps_of y.name order ≡ y.steps) (λ (y : Party). sent_from y.name (letters_of k order) ≡ of_record (sent k) y.steps)
          (λ y own. from_letters y.name k order ∙ ap (of_record (sent k)) own) parties was.own;
    }

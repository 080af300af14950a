-- All places that the threads sent were received: no claim was refused, and the places that came from each sender are the places that the sender was to
-- send.
use Rattle.std.proofs.Common.{◌≡◌, ◌≢◌, ℕ, zero, suc, ◌+◌, ◌*◌, ◌/◌, ◌-◌, ◌<◌, ◌≤◌, eqb, Bool, true, false, true≢false, cond, ◌||◌, ◌&&◌, ◌⊎◌, inl, inr, List, [], ◌∷◌, ◌++◌, map, length, length-append, get_or, reverse, All, Contains, refl, sym, ap, ◌∙◌, subst, arith, append-nil, eq-eqb, ne_eqb, ⊎_elim, le_refl}
use Rattle.std.specs.List.{range_with_len, IsDistinct}
use Rattle.std.proofs.lemmas.Bool.{or_left, or_right}
use Rattle.std.proofs.lemmas.List.{map-append, length-map}
use Rattle.std.proofs.lemmas.Nat.{div-mul-add, mul-le}
use Rattle.std.proofs.lemmas.List.Elements.{All-nil, All-cons, All-head, All-tail, All-append, All-weaker}
use mathlib.Core.Option.{some, some-injective, some-ne-none}
use mathlib.Core.Logic.{dite}
use native.Mathlib.Decide.{ℕ_discrete, dec_le}
use lib.ListN.{get_elem?}
use Rattle.ic_unsafe_ref.specs.declared.place.Place.{Place}
use Rattle.ic_unsafe_ref.specs.Places.{index_of}
use Rattle.ic_lock_free_stack.specs.declared.step.Step.{Step}
use Rattle.ic_lock_free_stack.specs.declared.step.Step.TheVariants.{Claim, Release, Push, TakeAll}
use Rattle.ic_lock_free_stack.specs.declared.step.Entry.{Entry}
use Rattle.ic_lock_free_stack.specs.Moments.{Moment, nowhere, is_nowhere, is_stacked, at_first, same, is_in, moves, goes, after, Fits, IsLegal, steps_of, stack_after}
use Rattle.ic_lock_free_stack.specs.Prelude.{IsSound, IsSeen, GoesOn, Party, IsHistory, IsOf, Steps, name_of, record_of, seen_of, party_of, sent, got, of_record}
use Rattle.ic_lock_free_stack.specs.Counts.{OneStepOn}
use Rattle.ic_lock_free_stack.specs.declared.stacks.Stacks.{Stacks}
use Rattle.ic_lock_free_stack.specs.declared.stacks.Holder.{Holder}
use Rattle.ic_lock_free_stack.proofs.HolderLemmas.{one_sequence}
use Rattle.ic_lock_free_stack.proofs.CountLemmas.{in_turn}
use Rattle.ic_lock_free_stack.proofs.LawLemmas.{take_more}
use Rattle.ic_lock_free_stack.proofs.MomentLemmas.{by_test, one_place, same_place, in_here, in_rest, sound_after}
use Rattle.ic_lock_free_stack.proofs.Lists.{at_or, at_inside, all_each, named_apart, contains_at}
use Rattle.stack_uses.specs.Mail.{Letter, sent_from, IsMail, HasReceived, HasOpened}
use Rattle.stack_uses.specs.Delivery.{steps_to_send_each, Sends, OnlyTakes, of_sender, IsDelivered, HaveSent, HasDone}
use Rattle.stack_uses.specs.declared.mailbox.Receiver.{Receiver}
use Rattle.stack_uses.proofs.DeliveryLemmas.{takes_more}
use Rattle.stack_uses.proofs.MailLemmas.{mail}

-- Each test is true of a step that claims the place `p`: `grants` if the claim succeeds, `denies` if it is refused, and `asks` in both cases
abbrev grants : Place → Step → Bool
grants p (Claim q was) = was && same p q
grants p (Release q) = false
grants p (Push k s) = false
grants p (TakeAll k s) = false

abbrev denies : Place → Step → Bool
denies p (Claim q was) = cond was false (same p q)
denies p (Release q) = false
denies p (Push k s) = false
denies p (TakeAll k s) = false

abbrev asks : Place → Step → Bool
asks p (Claim q was) = same p q
asks p (Release q) = false
asks p (Push k s) = false
asks p (TakeAll k s) = false

abbrev any : (Step → Bool) → List Step → Bool
any f [] = false
any f (e ∷ es) = f e || any f es

or_more : (a b c d : Bool) → (a ≡ true → c ≡ true) → (b ≡ true → d ≡ true) → (a || b) ≡ true → (c || d) ≡ true
or_more true b c d f g e = or_left c d (f refl)
or_more false b c d f g e = or_right c d (g e)

any_more : (f g : Step → Bool) → ((e : Step) → f e ≡ true → g e ≡ true) → (es : List Step) → any f es ≡ true → any g es ≡ true
any_more f g h [] e = e
any_more f g h (x ∷ xs) e = or_more (f x) (any f xs) (g x) (any g xs) (h x) (any_more f g h xs) e

grants_asks : (p : Place) (e : Step) → grants p e ≡ true → asks p e ≡ true
grants_asks p (Claim q true) e = e
grants_asks p (Claim q false) e = absurd (true≢false (sym e))
grants_asks p (Release q) e = e
grants_asks p (Push k s) e = e
grants_asks p (TakeAll k s) e = e

denies_asks : (p : Place) (e : Step) → denies p e ≡ true → asks p e ≡ true
denies_asks p (Claim q true) e = absurd (true≢false (sym e))
denies_asks p (Claim q false) e = e
denies_asks p (Release q) e = e
denies_asks p (Push k s) e = e
denies_asks p (TakeAll k s) e = e

-- nobody holds the place `p`, and `p` is in no stack. Then the first step that moves `p` is a claim that succeeds, and no claim of `p` is refused before
moved_free : (m : Moment) → IsSound m → (a : ℕ) (e : Step) → Fits m a e → (p : Place) → m.place p ≡ nowhere → moves p e ≡ true → grants p e ≡ true
moved_free m sound a (Claim q was) fits p free mv = mv
moved_free m sound a (Release q) fits p free mv = absurd (true≢false (ap is_nowhere (sym free ∙ (ap (λ r. m.place r) (one_place p q mv) ∙ fits))))
moved_free m sound a (Push k s) fits p free mv = absurd (true≢false (ap is_nowhere (sym free ∙ fits.1 p mv)))
moved_free m sound a (TakeAll k s) fits p free mv = absurd (true≢false (sym mv ∙ (ap (is_in p) fits ∙ (sound.members p k ∙ ap (is_stacked k) free))))

stays_free : (m : Moment) → IsSound m → (a : ℕ) (e : Step) → Fits m a e → (p : Place) → m.place p ≡ nowhere → grants p e ≡ false → (after m a e).place p ≡ nowhere
stays_free m sound a e fits p free none = by_test (λ b. moves p e ≡ b → cond b (goes a e) (m.place p) ≡ nowhere) (moves p e)
    (λ _ mv. absurd (true≢false (sym (moved_free m sound a e fits p free mv) ∙ none))) (λ _ _. free) refl

not_denied : (m : Moment) (a : ℕ) (e : Step) → Fits m a e → (p : Place) → m.place p ≡ nowhere → denies p e ≡ true → ⊥
not_denied m a (Claim q true) fits p free e = true≢false (sym e)
not_denied m a (Claim q false) fits p free e = true≢false (sym (fits ∙ ap is_nowhere (ap (λ r. m.place r) (sym (one_place p q e)) ∙ free)))
not_denied m a (Release q) fits p free e = true≢false (sym e)
not_denied m a (Push k s) fits p free e = true≢false (sym e)
not_denied m a (TakeAll k s) fits p free e = true≢false (sym e)

any_rest : (f : Step → Bool) (b : Bool) (e : Step) (es : List Step) → (f e ≡ true → ⊥) → any f (cond b (e ∷ es) es) ≡ true → any f es ≡ true
any_rest f true e es none is = by_test (λ c. f e ≡ c → (c || any f es) ≡ true → any f es ≡ true) (f e) (λ _ t _. absurd (none t)) (λ _ _ r. r) refl is
any_rest f false e es none is = is

any_cons : (f : Step → Bool) (b : Bool) (e : Step) (es : List Step) → any f es ≡ true → any f (cond b (e ∷ es) es) ≡ true
any_cons f true e es is = or_right (f e) (any f es) is
any_cons f false e es is = is

first_grant : (P : ℕ → Type 0) (order : List Entry) (m : Moment) → IsSound m → IsLegal m order → All (λ (x : Entry). P x.holder) order → (p : Place) → m.place p ≡ nowhere
    → (h : ℕ) → any (denies p) (steps_of h order) ≡ true → (g : ℕ) × P g × (any (grants p) (steps_of g order) ≡ true)
first_grant P [] m sound legal by p free h is = absurd (true≢false (sym is))
first_grant P (x ∷ xs) m sound legal by p free h is =
    by_test (λ b. grants p x.step ≡ b → (g : ℕ) × P g × (any (grants p) (steps_of g (x ∷ xs)) ≡ true)) (grants p x.step)
    (λ _ yes. (
      x.holder,
      All-head (λ (y : Entry). P y.holder) x xs by,
      subst (λ b. any (grants p) (cond b (x.step ∷ steps_of x.holder xs) (steps_of x.holder xs)) ≡ true) (sym (eq-eqb x.holder x.holder refl))
          (or_left (grants p x.step) (any (grants p) (steps_of x.holder xs)) yes),
    ))
    (λ _ none.
    let later = first_grant P xs (after m x.holder x.step) (sound_after m sound x.holder x.step legal.0) legal.1 (All-tail (λ (y : Entry). P y.holder) x xs by) p
    (stays_free m sound x.holder x.step legal.0 p free none) h
    (any_rest (denies p) (eqb x.holder h) x.step (steps_of h xs) (not_denied m x.holder x.step legal.0 p free) is) in
    (later.0, later.1, any_cons (grants p) (eqb x.holder later.0) x.step (steps_of later.0 xs) later.2)) refl

-- the indices of a sender's places are the consecutive numbers from `first` on, so no place is in the list twice
abbrev IsRow : ℕ → List Place → Type 0
IsRow first [] = Unit {0}
IsRow first (p ∷ ps) = (index_of p ≡ first) × IsRow (first + 1) ps

is_row : (first n : ℕ) (ps : List Place) → map index_of ps ≡ range_with_len first n → IsRow first ps × (length ps ≡ n)
is_row first zero [] e = (tt, refl)
is_row first zero (p ∷ ps) e = absurd (cc e)
is_row first (suc n) [] e = absurd (cc e)
is_row first (suc n) (p ∷ ps) e = let rest = is_row (first + 1) n ps (cc e) in ((cc e, rest.0), (let l = rest.1 in omega (arith, l)))

in_row : (p : Place) (first : ℕ) (ps : List Place) → IsRow first ps → is_in p ps ≡ true → (first ≤ index_of p) × (index_of p < first + length ps)
in_row p first [] row is = absurd (true≢false (sym is))
in_row p first (q ∷ ps) row is = by_test (λ b. same p q ≡ b → (b || is_in p ps) ≡ true → (first ≤ index_of p) × (index_of p < first + length (q ∷ ps))) (same p q)
    (λ _ here _. let e = ap index_of (one_place p q here) in let f = row.0 in (omega (arith, e, f), omega (arith, e, f)))
    (λ _ _ there. let r = in_row p (first + 1) ps row.1 there in let a = r.0 in let b = r.1 in (omega (arith, a), omega (arith, b))) refl is

asked_in : (p : Place) (ps : List Place) (was : List Bool) → any (asks p) (steps_to_send_each 0 ps was) ≡ true → is_in p ps ≡ true
asked_in p [] was e = e
asked_in p (q ∷ ps) [] e = absurd (true≢false (sym e))
asked_in p (q ∷ ps) (true ∷ was) e = or_more (same p q) (any (asks p) (steps_to_send_each 0 ps was)) (same p q) (is_in p ps) (λ f. f) (asked_in p ps was) e
asked_in p (q ∷ ps) (false ∷ was) e = or_more (same p q) (any (asks p) (steps_to_send_each 0 ps was)) (same p q) (is_in p ps) (λ f. f) (asked_in p ps was) e

-- a later place of a list with consecutive indices is not its first place `q`
not_first : (p q : Place) (first : ℕ) (ps : List Place) → index_of q ≡ first → IsRow (first + 1) ps → is_in p ps ≡ true → same p q ≡ false
not_first p q first ps e row is = let low = (in_row p (first + 1) ps row is).0 in ne_eqb (index_of p) (index_of q) (λ f. absurd (omega (arith, e, f, low)))

or_rest : (a b : Bool) → a ≡ false → (a || b) ≡ true → b ≡ true
or_rest true b e f = absurd (true≢false e)
or_rest false b e f = f

not_both : (p : Place) (first : ℕ) (ps : List Place) (was : List Bool) → IsRow first ps → any (grants p) (steps_to_send_each 0 ps was) ≡ true → any (denies p) (steps_to_send_each 0 ps was) ≡ true → ⊥
not_both p first [] was row g d = true≢false (sym g)
not_both p first (q ∷ ps) [] row g d = true≢false (sym g)
not_both p first (q ∷ ps) (true ∷ was) row g d =
    let there : is_in p ps ≡ true = asked_in p ps was (any_more (denies p) (asks p) (denies_asks p) (steps_to_send_each 0 ps was) d) in
    not_both p (first + 1) ps was row.1 (or_rest (same p q) (any (grants p) (steps_to_send_each 0 ps was)) (not_first p q first ps row.0 row.1 there) g) d
not_both p first (q ∷ ps) (false ∷ was) row g d =
    let there : is_in p ps ≡ true = asked_in p ps was (any_more (grants p) (asks p) (grants_asks p) (steps_to_send_each 0 ps was) g) in
    not_both p (first + 1) ps was row.1 g (or_rest (same p q) (any (denies p) (steps_to_send_each 0 ps was)) (not_first p q first ps row.0 row.1 there) d)

-- if no claim of the steps is refused, then the steps send all places of `ps`
every_one : (ps : List Place) (was : List Bool) → length was ≡ length ps → ((p : Place) → any (denies p) (steps_to_send_each 0 ps was) ≡ true → ⊥)
    → of_record (sent 0) (steps_to_send_each 0 ps was) ≡ ps
every_one [] was e none = refl
every_one (q ∷ ps) [] e none = absurd (omega (arith, e))
every_one (q ∷ ps) (true ∷ was) e none = ap (λ l. q ∷ l) (every_one ps was (omega (arith, e)) (λ p d. none p d))
every_one (q ∷ ps) (false ∷ was) e none = absurd (none q (or_left (same q q) (any (denies q) (steps_to_send_each 0 ps was)) (same_place q)))

pub all_of : (first count : ℕ) (es : List Step) → Sends first count es → ((p : Place) → any (denies p) es ≡ true → ⊥) → map index_of (of_record (sent 0) es) ≡ range_with_len first count
all_of first count es s none =
    ap (λ l. map index_of (of_record (sent 0) l)) s.steps_are
    ∙ (ap (map index_of) (every_one s.places s.got s.each (λ p d. none p (ap (any (denies p)) s.steps_are ∙ d))) ∙ s.are)

-- the steps by which places are sent take no place from the mailbox
sends_got : (ps : List Place) (was : List Bool) → of_record (got 0) (steps_to_send_each 0 ps was) ≡ []
sends_got [] was = refl
sends_got (q ∷ ps) [] = refl
sends_got (q ∷ ps) (true ∷ was) = sends_got ps was
sends_got (q ∷ ps) (false ∷ was) = sends_got ps was

-- steps that only take places from stacks claim no place and send none
takes_grant : (p : Place) (es : List Step) → OnlyTakes es → any (grants p) es ≡ true → ⊥
takes_grant p [] only g = true≢false (sym g)
takes_grant p (Claim q was ∷ es) only g = absurd only
takes_grant p (Release q ∷ es) only g = absurd only
takes_grant p (Push k s ∷ es) only g = absurd only
takes_grant p (TakeAll k s ∷ es) only g = takes_grant p es only g

takes_sent : (es : List Step) → OnlyTakes es → of_record (sent 0) es ≡ []
takes_sent [] only = refl
takes_sent (Claim q was ∷ es) only = absurd only
takes_sent (Release q ∷ es) only = absurd only
takes_sent (Push k s ∷ es) only = absurd only
takes_sent (TakeAll k s ∷ es) only = takes_sent es only

-- each party of the list sends `count` places. The first party sends the places from the index `first` on, and each later party the places after those of
-- the party before it
abbrev pub SentBy : ℕ → ℕ → List Party → Type 0
SentBy first count [] = Unit {0}
SentBy first count (x ∷ xs) = Sends first count x.steps × SentBy (first + count) count xs

sends_at : (first count : ℕ) (xs : List Party) → SentBy first count xs → (i : ℕ) (x : Party) → get_elem? xs i ≡ some x → Sends (first + i * count) count x.steps
sends_at first count [] are i x at = absurd (some-ne-none x (sym at))
sends_at first count (y ∷ ys) are zero x at = subst (λ n. Sends n count x.steps) (omega arith) (subst (λ (z : Party). Sends first count z.steps) (some-injective y x at) are.0)
sends_at first count (y ∷ ys) are (suc i) x at = subst (λ n. Sends n count x.steps) (omega arith) (sends_at (first + count) count ys are.1 i x at)

-- a place that a sender claims is one of the `count` places from `first` on that it is to send
asks_part : (p : Place) (first count : ℕ) (es : List Step) → Sends first count es → any (asks p) es ≡ true → (first ≤ index_of p) × (index_of p < first + count)
asks_part p first count es s ask =
    let row = is_row first count s.places s.are in
    let part = in_row p first s.places row.0 (asked_in p s.places s.got (ap (any (asks p)) (sym s.steps_are) ∙ ask)) in
    let long = row.1 in
    let high = part.1 in
    (part.0, (omega (arith, high, long)))

-- the part of the sender `i` has the `count` numbers from `i * count` on. If the number `n` is in the part of `i` and in the part of `j`, then `i` is `j`
apart_parts : (i j count n : ℕ) → i * count ≤ n → n < i * count + count → j * count ≤ n → n < j * count + count → i ≡ j
apart_parts i j count n a b c d = dite (ℕ_discrete i j) (λ e. e) (λ ne. absurd (dite (dec_le i j)
    (λ le. let m = mul-le (i + 1) count j count (omega (arith, le, ne)) (le_refl count) in omega (arith, m, b, c))
    (λ nle. let m = mul-le (j + 1) count i count (omega (arith, nle)) (le_refl count) in omega (arith, m, a, d))))

module _ (count : ℕ) (order : List Entry) (xs : List Party) (z : Party) (was : IsHistory order (xs ++ z ∷ [])) (sent_by : SentBy 0 count xs) (takes : OnlyTakes z.steps) where
  abbrev parties : List Party
  parties = xs ++ z ∷ []

  abbrev name_of_party : Party → ℕ
  name_of_party x = x.name

  -- each of the parties is one of the senders `xs` or the receiver `z`
  which : (i : ℕ) (x : Party) → get_elem? parties i ≡ some x → (get_elem? xs i ≡ some x) ⊎ (x ≡ z)
  which i x at = go xs i at
    where
      go : (l : List Party) (k : ℕ) → get_elem? (l ++ z ∷ []) k ≡ some x → (get_elem? l k ≡ some x) ⊎ (x ≡ z)
      go [] zero e = inr (sym (some-injective z x e))
      go [] (suc k) e = absurd (some-ne-none x (sym e))
      go (y ∷ l) zero e = inl e
      go (y ∷ l) (suc k) e = go l k e

  there : (i : ℕ) (x : Party) → get_elem? xs i ≡ some x → get_elem? parties i ≡ some x
  there i x at = go xs i at
    where
      go : (l : List Party) (k : ℕ) → get_elem? l k ≡ some x → get_elem? (l ++ z ∷ []) k ≡ some x
      go [] k e = absurd (some-ne-none x (sym e))
      go (y ∷ l) zero e = e
      go (y ∷ l) (suc k) e = go l k e

  -- if the names of the parties contain the name `h`, then one of the parties has this name
  named_at : (h : ℕ) → Contains (map name_of_party parties) h → (i : ℕ) × ((x : Party) × ((get_elem? parties i ≡ some x) × (x.name ≡ h)))
  named_at h at = go parties at.0 at.1 at.2
    where
      go : (l : List Party) (k : ℕ) → k < length (map name_of_party l) → get_or (map name_of_party l) k h ≡ h → (i : ℕ) × ((x : Party) × ((get_elem? l i ≡ some x) × (x.name ≡ h)))
      go [] k low e = absurd (omega (arith, low))
      go (y ∷ l) zero low e = (0, (y, (refl, e)))
      go (y ∷ l) (suc k) low e = let r = go l k (omega (arith, low)) e in (suc r.0, r.1)

  own : (i : ℕ) (x : Party) → get_elem? parties i ≡ some x → steps_of x.name order ≡ x.steps
  own i x at = all_each (λ (y : Party). steps_of y.name order ≡ y.steps) parties was.own i x at

  -- NO CLAIM of a sender is refused
  none_denied : (i : ℕ) (x : Party) → get_elem? xs i ≡ some x → (p : Place) → any (denies p) x.steps ≡ true → ⊥
  none_denied i x at p d =
      let g = first_grant (Contains (map name_of_party parties)) order at_first (record { members = λ q k. refl; once = λ k. tt }) was.legal was.by p refl x.name (ap (any (denies p)) (own i x (there i x at)) ∙ d) in
      let by = named_at g.0 g.1 in
      let y : Party = by.1.0 in
      let granted : any (grants p) y.steps ≡ true = ap (any (grants p)) (sym (own by.0 y by.1.1.0)) ∙ (ap (λ n. any (grants p) (steps_of n order)) by.1.1.1 ∙ g.2) in
      let mine = sends_at 0 count xs sent_by i x at in
      ⊎_elim
      (λ sender.
      let its = sends_at 0 count xs sent_by by.0 y sender in
      let a = asks_part p (0 + i * count) count x.steps mine (any_more (denies p) (asks p) (denies_asks p) x.steps d) in
      let b = asks_part p (0 + by.0 * count) count y.steps its (any_more (grants p) (asks p) (grants_asks p) y.steps granted) in
      let a0 = a.0 in let a1 = a.1 in let b0 = b.0 in let b1 = b.1 in
      let same_one : i ≡ by.0 = apart_parts i by.0 count (index_of p) (omega (arith, a0)) (omega (arith, a1)) (omega (arith, b0)) (omega (arith, b1)) in
      let is : x ≡ y = some-injective x y (sym at ∙ (ap (get_elem? xs) same_one ∙ sender)) in
      not_both p (0 + i * count) mine.places mine.got (is_row (0 + i * count) count mine.places mine.are).0
      (ap (any (grants p)) (sym mine.steps_are) ∙ (ap (λ (u : Party). any (grants p) u.steps) is ∙ granted))
      (ap (any (denies p)) (sym mine.steps_are) ∙ d))
      (λ receiver. takes_grant p z.steps takes (ap (λ (u : Party). any (grants p) u.steps) (sym receiver) ∙ granted))
      (which by.0 y by.1.1.0)

  -- the sender with the number `i` has sent all `count` places from the index `i * count` on, in order
  sent_all : (i : ℕ) (x : Party) → get_elem? xs i ≡ some x → map index_of (of_record (sent 0) x.steps) ≡ range_with_len (i * count) count
  sent_all i x at = all_of (0 + i * count) count x.steps (sends_at 0 count xs sent_by i x at) (none_denied i x at) ∙ ap (λ n. range_with_len n count) (omega arith)

  -- `mail` describes the letters of the mailbox 0, from which the places `came` were received and in which no place is left
  module _ (came : List Place) (mail : IsMail 0 parties came []) where
    abbrev each_sent : Party → Type 0
    each_sent x = sent_from x.name mail.letters ≡ of_record (sent 0) x.steps

    -- the place of each letter is among the places that the letter's sender sent
    letter_in : (l : List Letter) → All (λ (x : Letter). is_in x.place (sent_from x.sender l) ≡ true) l
    letter_in [] = All-nil (λ (x : Letter). is_in x.place (sent_from x.sender []) ≡ true)
    letter_in (y ∷ ys) = All-cons (λ (x : Letter). is_in x.place (sent_from x.sender (y ∷ ys)) ≡ true) y ys
        (subst (λ b. is_in y.place (cond b (y.place ∷ sent_from y.sender ys) (sent_from y.sender ys)) ≡ true) (sym (eq-eqb y.sender y.sender refl)) (in_here y.place (sent_from y.sender ys)))
        (All-weaker (λ (x : Letter). is_in x.place (sent_from x.sender ys) ≡ true) (λ (x : Letter). is_in x.place (sent_from x.sender (y ∷ ys)) ≡ true)
        (λ x e. by_test (λ b. is_in x.place (cond b (y.place ∷ sent_from x.sender ys) (sent_from x.sender ys)) ≡ true) (eqb y.sender x.sender) (λ _. in_rest y.place x.place (sent_from x.sender ys) e) (λ _. e)) ys (letter_in ys))

    -- the sender of the letter `x` is the party with this number, and the place of the letter is one of the party's `count` places
    record IsOfSender (x : Letter) : Type 0 where
      pub number : ℕ
      pub party : Party
      pub at : get_elem? xs number ≡ some party
      pub name : party.name ≡ x.sender
      pub low : number * count ≤ index_of x.place
      pub high : index_of x.place < number * count + count

    of_one : (x : Letter) → Contains (map name_of_party parties) x.sender → is_in x.place (sent_from x.sender mail.letters) ≡ true → IsOfSender x
    of_one x named is =
        let by = named_at x.sender named in
        let y : Party = by.1.0 in
        let its : sent_from x.sender mail.letters ≡ of_record (sent 0) y.steps = ap (λ n. sent_from n mail.letters) (sym by.1.1.1) ∙ all_each each_sent parties mail.each by.0 y by.1.1.0 in
        let there_is : is_in x.place (of_record (sent 0) y.steps) ≡ true = ap (is_in x.place) (sym its) ∙ is in
        ⊎_elim
        (λ sender.
        let row = is_row (by.0 * count) count (of_record (sent 0) y.steps) (sent_all by.0 y sender) in
        let part = in_row x.place (by.0 * count) (of_record (sent 0) y.steps) row.0 there_is in
        let long = row.1 in
        let high = part.1 in
        record { number = by.0; party = y; at = sender; name = by.1.1.1; low = part.0; high = omega (arith, high, long) })
        (λ receiver. absurd (true≢false (sym there_is ∙ ap (is_in x.place) (ap (λ (u : Party). of_record (sent 0) u.steps) receiver ∙ takes_sent z.steps takes))))
        (which by.0 y by.1.1.0)

    all_of_senders : All IsOfSender mail.letters
    all_of_senders k d low = of_one (get_or mail.letters k d) (mail.by k d low) (letter_in mail.letters k d low)

    -- the index of a place divided by `count` is the number of the sender that sends the place
    number_of : (p : Place) (k : ℕ) → k * count ≤ index_of p → index_of p < k * count + count → index_of p / count ≡ k
    number_of p k low high =
        let b : ℕ = index_of p - k * count in
        let is : index_of p ≡ k * count + b = omega (arith, low) in
        ap (λ n. n / count) is ∙ div-mul-add k count b (omega (arith, low, high))

    by_number : (k : ℕ) (x : Party) → get_elem? xs k ≡ some x → (l : List Letter) → All IsOfSender l → of_sender count k (map (λ (y : Letter). y.place) l) ≡ sent_from x.name l
    by_number k x at [] are = refl
    by_number k x at (y ∷ ys) are =
        let rest = by_number k x at ys (All-tail IsOfSender y ys are) in
        let one = All-head IsOfSender y ys are in
        let same_test : eqb (index_of y.place / count) k ≡ eqb y.sender x.name =
        ap (λ n. eqb n k) (number_of y.place one.number one.low one.high) ∙ dite (ℕ_discrete one.number k)
        (λ e. eq-eqb one.number k e ∙ sym (eq-eqb y.sender x.name (sym one.name ∙ ap name_of_party (some-injective one.party x (sym one.at ∙ (ap (get_elem? xs) e ∙ at))))))
        (λ ne. ne_eqb one.number k ne ∙ sym (ne_eqb y.sender x.name (λ f. named_apart name_of_party parties k one.number x one.party was.named (there k x at) (there one.number one.party one.at) ne (one.name ∙ f)))) in
        ap (λ b. cond b (y.place ∷ of_sender count k (map (λ (u : Letter). u.place) ys)) (of_sender count k (map (λ (u : Letter). u.place) ys))) same_test
        ∙ by_test (λ b. cond b (y.place ∷ of_sender count k (map (λ (u : Letter). u.place) ys)) (of_sender count k (map (λ (u : Letter). u.place) ys)) ≡ cond b (y.place ∷ sent_from x.name ys) (sent_from x.name ys))
        (eqb y.sender x.name) (λ _. ap (λ l. y.place ∷ l) rest) (λ _. rest)

    came_is : map (λ (y : Letter). y.place) mail.letters ≡ came
    came_is = mail.all ∙ append-nil came

    inside_at : (l : List Letter) → All IsOfSender l → All (λ (p : Place). index_of p < length xs * count) (map (λ (y : Letter). y.place) l)
    inside_at [] are = All-nil (λ (p : Place). index_of p < length xs * count)
    inside_at (y ∷ ys) are =
        let one = All-head IsOfSender y ys are in
        let low : one.number < length xs = at_inside xs one.number one.party one.at in
        let m = mul-le (one.number + 1) count (length xs) count (omega (arith, low)) (le_refl count) in
        let high = one.high in
        All-cons (λ (p : Place). index_of p < length xs * count) y.place (map (λ (u : Letter). u.place) ys) (omega (arith, m, high)) (inside_at ys (All-tail IsOfSender y ys are))

    elem_at : (k : ℕ) → k < length xs → (x : Party) × (get_elem? xs k ≡ some x)
    elem_at k low = go xs k low
      where
        go : (l : List Party) (i : ℕ) → i < length l → (x : Party) × (get_elem? l i ≡ some x)
        go [] i low = absurd (omega (arith, low))
        go (y ∷ l) zero low = (y, refl)
        go (y ∷ l) (suc i) low = go l i (omega (arith, low))

    -- `came` has the `count` places of each sender in order, and no other place
    pub delivered : IsDelivered (length xs) count came
    delivered = record {
      rows = λ k low.
          let x = elem_at k low in
          ap (λ l. map index_of (of_sender count k l)) (sym came_is)
          ∙ (ap (map index_of) (by_number k x.0 x.1 mail.letters all_of_senders ∙ all_each each_sent parties mail.each k x.0 (there k x.0 x.1)) ∙ sent_all k x.0 x.1);
      inside = subst (All (λ (p : Place). index_of p < length xs * count)) came_is (inside_at mail.letters all_of_senders);
    }

-- the last call takes all places from the mailbox and leaves none. The party `x` that makes this call is the last of the list
at_last : (l : List Party) (x : Party) → get_elem? (l ++ x ∷ []) (length l) ≡ some x
at_last [] x = refl
at_last (y ∷ l) x = at_last l x

at_both : (l : List Party) (x y : Party) (i : ℕ) (a b : Party) → get_elem? (l ++ x ∷ []) i ≡ some a → get_elem? (l ++ y ∷ []) i ≡ some b
    → ((i ≡ length l) × ((x ≡ a) × (y ≡ b))) ⊎ ((i ≢ length l) × (b ≡ a))
at_both [] x y zero a b e f = inl (refl, (some-injective x a e, some-injective y b f))
at_both [] x y (suc i) a b e f = absurd (some-ne-none a (sym e))
at_both (z ∷ l) x y zero a b e f = inr ((λ g. absurd (omega (arith, g))), sym (some-injective z b f) ∙ some-injective z a e)
at_both (z ∷ l) x y (suc i) a b e f = ⊎_elim
    (λ t. inl (ap suc t.0, t.1))
    (λ t. inr ((λ g. t.0 (omega (arith, g))), t.1))
    (at_both l x y i a b e f)

abbrev label : Party → ℕ
label x = x.name

-- the last of the parties has made one further step `e`, and no other party has made a step
pub one_on : (xs : List Party) (x y : Party) (e : Step) → IsDistinct eqb (map (λ (u : Party). u.name) (xs ++ x ∷ [])) → y.name ≡ x.name → y.steps ≡ x.steps ++ e ∷ [] → OneStepOn (xs ++ x ∷ []) (xs ++ y ∷ []) x.name e
one_on xs x y e apart named gained = record {
  names = map-append label xs (y ∷ []) ∙ (ap (λ n. map label xs ++ n ∷ []) named ∙ sym (map-append label xs (x ∷ [])));
  there = contains_at label (xs ++ x ∷ []) (length xs) x (at_last xs x);
  steps = λ i a b ata atb. ⊎_elim
      (λ t. subst (λ (u : Party). b.steps ≡ cond (eqb x.name u.name) (u.steps ++ e ∷ []) u.steps) t.1.0
      (subst (λ (u : Party). u.steps ≡ cond (eqb x.name x.name) (x.steps ++ e ∷ []) x.steps) t.1.1
      (gained ∙ sym (ap (λ c. cond c (x.steps ++ e ∷ []) x.steps) (eq-eqb x.name x.name refl)))))
      (λ t. ap (λ (u : Party). u.steps) t.1 ∙ sym (ap (λ c. cond c (a.steps ++ e ∷ []) a.steps)
      (ne_eqb x.name a.name (λ f. named_apart label (xs ++ x ∷ []) (length xs) i x a apart (at_last xs x) ata t.0 (sym f)))))
      (at_both xs x y i a b ata atb);
}

module _ (xs : List Party) (x y : Party) (s : List Place) (order new last : List Entry) (was : IsHistory order (xs ++ x ∷ [])) (is : IsHistory last (xs ++ y ∷ [])) (named : y.name ≡ x.name)
    (gained : y.steps ≡ x.steps ++ TakeAll 0 s ∷ []) (goes : GoesOn x.name order (TakeAll 0 s) new) (seen : IsSeen new last) where
  abbrev step : Step
  step = TakeAll 0 s

  emptied : stack_after last 0 ≡ []
  emptied = ap (λ o. stack_after o 0) (in_turn order new last (xs ++ x ∷ []) (xs ++ y ∷ []) x.name step was goes seen is (one_on xs x y step was.named named gained)) ∙ take_more order x.name 0 s

  module _ (count : ℕ) (sent_by : SentBy 0 count xs) (takes : OnlyTakes y.steps) where
    abbrev takes_none : Party → Type 0
    takes_none u = u.name ≢ y.name → of_record (got 0) u.steps ≡ []

    none_took : (first : ℕ) (l : List Party) → SentBy first count l → All takes_none l
    none_took first [] are = All-nil takes_none
    none_took first (u ∷ l) are =
        All-cons takes_none u l (λ _. ap (of_record (got 0)) are.0.steps_are ∙ sends_got are.0.places are.0.got) (none_took (first + count) l are.1)

    all_mail : IsMail 0 (xs ++ y ∷ []) (of_record (got 0) y.steps) []
    all_mail = subst (IsMail 0 (xs ++ y ∷ []) (of_record (got 0) y.steps)) (ap reverse emptied)
        (mail last (xs ++ y ∷ []) 0 y is (length xs, at_inside (xs ++ y ∷ []) (length xs) y (at_last xs y), at_or (xs ++ y ∷ []) (length xs) y y (at_last xs y))
        (All-append takes_none xs (y ∷ []) (none_took 0 xs sent_by) (All-cons takes_none y [] (λ ne. absurd (ne refl)) (All-nil takes_none))))

    pub all_delivered : IsDelivered (length xs) count (of_record (got 0) y.steps)
    all_delivered = delivered count last xs y is sent_by takes (of_record (got 0) y.steps) all_mail

-- if the holders have sent their places, then the parties of these holders have sent them
pub sent_by_holders : {A : Type 0} (stacks : Stacks A) (first count : ℕ) (hs : List Holder) → HaveSent stacks first count hs → SentBy first count (map party_of hs)
sent_by_holders stacks first count [] are = tt
sent_by_holders stacks first count (h ∷ hs) are = (are.0.sends, sent_by_holders stacks (first + count) count hs are.1)

pub made_all : {A : Type 0} (stacks : Stacks A) (first count : ℕ) (hs : List Holder) → HaveSent stacks first count hs → All (IsOf stacks) hs
made_all stacks first count [] are = All-nil (IsOf stacks)
made_all stacks first count (h ∷ hs) are = All-cons (IsOf stacks) h hs are.0.made (made_all stacks (first + count) count hs are.1)

-- if two lists that end with `a` and `b` are equal, then `a` is `b`, and the elements before them are equal
pub same_front : {X : Type 0} (l m : List X) (a b : X) → l ++ a ∷ [] ≡ m ++ b ∷ [] → (l ≡ m) × (a ≡ b)
same_front [] [] a b e = (refl, cc e)
same_front [] (y ∷ []) a b e = absurd (cc e)
same_front [] (y ∷ z ∷ m) a b e = absurd (cc e)
same_front (x ∷ []) [] a b e = absurd (cc e)
same_front (x ∷ z ∷ l) [] a b e = absurd (cc e)
same_front (x ∷ l) (y ∷ m) a b e = let first : x ≡ y = cc e in let rest = same_front l m a b (cc e) in ((λ i. first i ∷ rest.0 i), rest.1)

-- if `P` holds of all elements of a list, then it holds of the last element and of all elements before it
pub ends : {X : Type 0} (P : X → Type 0) (l : List X) (x : X) → All P (l ++ x ∷ []) → All P l × P x
ends P [] x all = (All-nil P, All-head P x [] all)
ends P (y ∷ l) x all = let r = ends P l x (All-tail P y (l ++ x ∷ []) all) in (All-cons P y l (All-head P y (l ++ x ∷ []) all) r.0, r.1)

-- the receiver has returned the places `ps`, and no other place that it took is left. Then `ps` are all places that its holder took from the mailbox 0
pub got_all : {A : Type 0} (stacks : Stacks A) (receiver : Receiver) (ps : List Place) → HasReceived stacks receiver ps → HasOpened stacks receiver [] → receiver.mailbox ≡ 0
    → of_record (got 0) (record_of receiver.holder) ≡ ps
got_all stacks receiver ps has none box =
    ap (λ k. of_record (got k) (record_of receiver.holder)) (sym box) ∙ (has.got_is
    ∙ (ap (λ l. ps ++ l) (one_sequence stacks receiver.holder receiver.opened has.rest [] has.opened none) ∙ append-nil ps))

-- THE LAST CALL OF THE RECEIVER is made between two audits of all holders
module _ {A : Type 0} (stacks : Stacks A) (count : ℕ) (h0 h1 front : List Holder) (r1 r2 : Holder) (came : List Place) (done : HasDone stacks count h0 came)
    (same_one : map party_of h1 ≡ map party_of h0) (first : h1 ≡ front ++ r1 ∷ []) where
  pub before : (map party_of front ≡ map party_of done.senders) × (party_of r1 ≡ party_of done.receiver)
  before = same_front (map party_of front) (map party_of done.senders) (party_of r1) (party_of done.receiver)
      (sym (map-append party_of front (r1 ∷ [])) ∙ (ap (map party_of) (sym first) ∙ (same_one ∙ (ap (map party_of) done.holders_are ∙ map-append party_of done.senders (done.receiver ∷ [])))))

  pub last_delivered : (order last : List Entry) (s : List Place) → IsHistory order (map party_of h1) → seen_of r1 ≡ order → Steps r1 r2 (TakeAll 0 s)
      → IsHistory last (map party_of (front ++ r2 ∷ [])) → IsSeen (seen_of r2) last → IsDelivered (length h0 - 1) count (of_record (got 0) (record_of r2))
  last_delivered order last s was at steps is seen =
      let long : length (map party_of front) ≡ length h0 - 1 =
      (let a = length-map done.senders party_of in let b = ap length before.0 in let c = ap length done.holders_are in let d = length-append done.senders (done.receiver ∷ []) in omega (arith, a, b, c, d)) in
      subst (λ n. IsDelivered n count (of_record (got 0) (record_of r2))) long
      (all_delivered (map party_of front) (party_of r1) (party_of r2) s order (seen_of r2) last
      (subst (IsHistory order) (ap (map party_of) first ∙ map-append party_of front (r1 ∷ [])) was)
      (subst (IsHistory last) (map-append party_of front (r2 ∷ [])) is)
      steps.name steps.gained (subst (λ l. GoesOn (name_of r1) l (TakeAll 0 s) (seen_of r2)) at steps.goes) seen count
      (subst (SentBy 0 count) (sym before.0) (sent_by_holders stacks 0 count done.senders done.sent))
      (subst OnlyTakes (sym steps.gained) (takes_more (record_of r1) 0 s (subst OnlyTakes (ap (λ (x : Party). x.steps) (sym before.1)) done.taken.takes))))

  module _ (h2 h3 : List Holder) (second : h2 ≡ front ++ r2 ∷ []) (same_two : map party_of h3 ≡ map party_of h2) where
    pub as_many : (length h1 ≡ length h0) × (length h3 ≡ length h0)
    as_many =
        let a = ap length same_one in
        let b = length-map h1 party_of in
        let c = length-map h0 party_of in
        let d = ap length first in
        let e = length-append front (r1 ∷ []) in
        let f = ap length second in
        let i = length-append front (r2 ∷ []) in
        let j = ap length same_two in
        let k = length-map h3 party_of in
        let l = length-map h2 party_of in
        (omega (arith, a, b, c), omega (arith, a, b, c, d, e, f, i, j, k, l))

    pub settled : (order last : List Entry) (s : List Place) → IsHistory order (map party_of h1) → All (λ (h : Holder). seen_of h ≡ order) h1 → Steps r1 r2 (TakeAll 0 s)
        → IsHistory last (map party_of h3) → All (λ (h : Holder). IsSeen (seen_of h) last) h2 → IsDelivered (length h0 - 1) count (of_record (got 0) (record_of r2))
    settled order last s was at steps is seen =
        last_delivered order last s was (ends (λ (h : Holder). seen_of h ≡ order) front r1 (subst (All (λ (h : Holder). seen_of h ≡ order)) first at)).1 steps
        (subst (IsHistory last) (same_two ∙ ap (map party_of) second) is)
        (ends (λ (h : Holder). IsSeen (seen_of h) last) front r2 (subst (All (λ (h : Holder). IsSeen (seen_of h) last)) second seen)).1

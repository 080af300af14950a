-- Lemmas which say that each call maintains the order of ages: from the connection that was touched last to the oldest one.
use Rattle.std.proofs.Common.{◌≡◌, ℕ, ◌+◌, ◌-◌, ◌≤◌, Bool, true, false, nat_lt, Option, None, Some, MatchOption, MatchBool, List, [], ◌∷◌, ◌++◌, reverse, filter, refl, sym, ap, ◌∙◌, subst, cond, arith, append-nil, append_assoc, length-append}
use Rattle.std.specs.List.{AllByRecursion}
use Rattle.std.proofs.lemmas.Bool.Decides.{nat_tests}
use Rattle.std.proofs.lemmas.List.{reverse-append}
use Rattle.ic_link_ops.proofs.Each.{all_both, all_map}
use Rattle.ic_keyed.specs.Keyed.{EndsWith, KeyedValues, with_values}
use Rattle.ic_keyed.proofs.KeyLemmas.{one_last}
use Rattle.connections.specs.declared.connection.Connection.{Connection}
use Rattle.connections.specs.Table.{Table, IsAged, IsActive, IsIdle, EndsIdle, Expires, ExpiresIdle, with_live}

-- if no connection was touched after the time `m`, then none was touched after the later time `n`
pub aged_later : {m n : ℕ} (s : List Connection) → m ≤ n → IsAged m s → IsAged n s
aged_later [] le aged = tt
aged_later (c ∷ s) le aged = (omega (arith, le, aged.0), aged.1)

-- SOME CONNECTIONS ARE REMOVED, and the others are still in the order of ages
pub aged_filter : (m : ℕ) (test : Connection → Bool) (s : List Connection) → IsAged m s → IsAged m (filter test s)
aged_filter m test [] aged = tt
aged_filter m test (c ∷ s) aged = by (test c) (aged_filter c.seen test s aged.1) where
  by : (b : Bool) → IsAged c.seen (filter test s) → IsAged m (cond b (c ∷ filter test s) (filter test s))
  by true rest = (aged.0, rest)
  by false rest = aged_later (filter test s) aged.0 rest

-- THE LAST CONNECTION is the oldest: it was touched no later than any other connection
pub oldest_last : {m : ℕ} {s : List Connection} {c : Connection} → EndsWith c s → IsAged m s → (c.seen ≤ m) × AllByRecursion (λ (d : Connection). c.seen ≤ d.seen) s
oldest_last {m} {s} {c} e aged = subst (λ (s : List Connection). (c.seen ≤ m) × AllByRecursion (λ (d : Connection). c.seen ≤ d.seen) s) (sym e.1) (by m e.0 (subst (IsAged m) e.1 aged)) where
  by : (m : ℕ) (front : List Connection) → IsAged m (front ++ c ∷ []) → (c.seen ≤ m) × AllByRecursion (λ (d : Connection). c.seen ≤ d.seen) (front ++ c ∷ [])
  by m [] aged = (aged.0, (omega arith, tt))
  by m (x ∷ front) aged = let r = by x.seen front aged.1 in (omega (arith, r.0, aged.0), (r.0, r.1))

-- the other connections are in the order of ages if the last connection is removed
aged_front : (m : ℕ) (front : List Connection) (c : Connection) → IsAged m (front ++ c ∷ []) → IsAged m front
aged_front m [] c aged = tt
aged_front m (x ∷ front) c aged = (aged.0, aged_front x.seen front c aged.1)

pub aged_popped : (m : ℕ) (old new : KeyedValues Connection) (popped : Option Connection) → MatchOption popped ((old.values ≡ []) × (new ≡ old)) (λ last. old ≡ with_values new (new.values ++ last ∷ []))
    → IsAged m old.values → IsAged m new.values
aged_popped m old new None e aged = subst (λ (k : KeyedValues Connection). IsAged m k.values) (sym e.1) aged
aged_popped m old new (Some c) e aged = aged_front m new.values c (subst (λ (k : KeyedValues Connection). IsAged m k.values) e aged)

-- if the last connection `c` has been idle for longer than `limit`, then `EndsIdle` holds. Otherwise all connections are active, because `c` is the oldest
pub idle_or_active : (limit : ℕ) (table : Table) {c : Connection} → IsAged table.clock table.live → EndsWith c table.live
    → MatchBool (nat_lt limit (table.clock - c.seen)) (EndsIdle limit table) (AllByRecursion (IsActive limit table.clock) table.live)
idle_or_active limit table {c} aged e = by (nat_lt limit (table.clock - c.seen)) refl where
  by : (b : Bool) → nat_lt limit (table.clock - c.seen) ≡ b → MatchBool b (EndsIdle limit table) (AllByRecursion (IsActive limit table.clock) table.live)
  by true is = (c, e, grind (arith, nat_tests))
  by false is =
      let active : table.clock - c.seen ≤ limit = grind (arith, nat_tests) in
      all_map {P = λ (d : Connection). c.seen ≤ d.seen} (λ d le. omega (arith, le, active)) table.live (oldest_last e aged).1

-- no connection is closed at the beginning. If `k` connections were closed and then one more is closed, then `k + 1` are closed (`expires_more`)
pub expires_none : {had : List Connection} {table : Table} → Expires 0 had had table table
expires_none {had} {table} = record { gone = []; many = refl; out = sym (append-nil had); were = ap (with_live table) (sym (append-nil table.live)) }

pub expires_more : {k : ℕ} {had has more : List Connection} {old mid new : Table} (c : Connection) → Expires k had has old mid → mid ≡ with_live new (new.live ++ c ∷ []) → more ≡ has ++ c ∷ [] → Expires (k + 1) had more old new
expires_more {had = had} {new = new} c e closes pushed = record {
  gone = e.gone ++ c ∷ [];
  many = length-append e.gone (c ∷ []) ∙ ap (λ (n : ℕ). n + 1) e.many;
  out = pushed ∙ ap (λ (s : List Connection). s ++ c ∷ []) e.out ∙ append_assoc had e.gone (c ∷ []);
  were = e.were ∙ ap (λ (t : Table). with_live t (t.live ++ reverse e.gone)) closes
      ∙ ap (with_live new) (append_assoc new.live (c ∷ []) (reverse e.gone) ∙ ap (λ (s : List Connection). new.live ++ s) (sym (reverse-append e.gone (c ∷ []))));
}

pub idle_none : {limit : ℕ} {had : List Connection} {table : Table} → ExpiresIdle limit had had table table
unfolding expires_none
idle_none = record { count = 0; expires = expires_none; idle = tt }

pub idle_more : {limit : ℕ} {had has more : List Connection} {old mid new : Table} (c : Connection) → ExpiresIdle limit had has old mid → EndsIdle limit mid → mid ≡ with_live new (new.live ++ c ∷ []) → more ≡ has ++ c ∷ []
    → ExpiresIdle limit had more old new
unfolding expires_more
idle_more {limit} {old = old} {mid} {new} c e ends closes pushed =
    let same = one_last ends.1 (new.live, ap (λ (t : Table). t.live) closes) in record {
      count = e.count + 1;
      expires = expires_more c e.expires closes pushed;
      idle = all_both (IsIdle limit old.clock) e.expires.gone (c ∷ []) e.idle (subst (λ (t : ℕ). IsIdle limit t c) (sym (ap (λ (t : Table). t.clock) e.expires.were)) (subst (IsIdle limit mid.clock) same ends.2), tt);
    }

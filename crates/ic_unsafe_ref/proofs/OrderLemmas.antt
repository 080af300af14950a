-- Places are ordered by their words, and therefore by their indexes.
use Rattle.std.specs.Cmp.{nat_cmp_total, nat_cmp_is, ranked}
use Rattle.std.proofs.Common.{sym, ap, arith, ◌≡◌, ◌<◌, ◌↔◌, nat_cmp, Less, Equal}
use Rattle.ic_unsafe_ref.specs.declared.place.Place.{Place}
use Rattle.ic_unsafe_ref.specs.Places.{index_of, same_word}
use Rattle.ic_unsafe_ref.specs.Order.{OrdersPlaces}
use Rattle.ic_unsafe_ref.proofs.PlaceLemmas.{word_is}

equal_words : (p q : Place) → (nat_cmp p.word q.word ≡ Equal) ↔ (p ≡ q)
equal_words p q = (
  λ e. same_word p q (ranked p.word q.word _ (sym e)),
  λ e. sym (nat_cmp_is p.word q.word Equal (ap (λ r. r.word) e)),
)

less_words : (p q : Place) → (nat_cmp p.word q.word ≡ Less) ↔ (index_of p < index_of q)
less_words p q = (
  λ e. let h : p.word < q.word = ranked p.word q.word _ (sym e) in omega (arith, h, word_is p, word_is q),
  λ h. sym (nat_cmp_is p.word q.word Less (omega (arith, h, word_is p, word_is q))),
)

pub orders_by_word : OrdersPlaces (λ (p : Place) (q : Place). nat_cmp p.word q.word)
orders_by_word = record {
  total = record {
    antisymm = λ p q. nat_cmp_total.antisymm p.word q.word;
    trans = λ p q r. nat_cmp_total.trans p.word q.word r.word;
    congr = λ p q r. nat_cmp_total.congr p.word q.word r.word;
  };
  equal = equal_words;
  less = less_words;
}

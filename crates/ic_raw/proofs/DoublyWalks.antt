-- These lemmas follow a walk along a doubly linked list. The walk begins at the first member, and each place on it names the place before it.
use Rattle.std.proofs.Common.{◌≡◌, ◌≤◌, Option, Some, None, List, [], ◌∷◌, ◌++◌, length, true, false, refl, sym, ap, ◌∙◌, arith}
use Rattle.ic_link_ops.specs.Prelude.{Place, index_of, first_or, first, last, IsAbsent, IsDistinct, Table, IsCovered, nameable, IsBetween}
use Rattle.ic_link_ops.specs.Chains.{Ends, IsChain}
use Rattle.ic_link_ops.specs.EntryLaws.{linked_in_range}
use Rattle.ic_link_ops.proofs.Prelude.{none_not, first_or-append, last_of_push, chain_glue, chain_one}
use Rattle.ic_link_ops.proofs.DoublyLists.{between_one}
use Rattle.ic_raw.specs.declared.table.RawTable.{RawTable}
use Rattle.ic_raw.specs.LinkWords.{LinkWords, lent_table, neighbors}
use Rattle.ic_raw.specs.Tables.{raw_entries}
use Rattle.ic_raw.specs.Doubly.{Represents}

-- a sequence without a first member is empty
pub nothing_first : (s : List Place) → first s ≡ None → s ≡ []
nothing_first [] e = refl
nothing_first (x ∷ s) e = absurd (none_not x (sym e))

-- `words` says how the two words of a place are read. Both have 8 bytes, or both have 4 bytes
module _ {W : Type 0} (words : LinkWords W) where
  -- a linked place belongs to the table
  pub covered : words.is_linked words.unlinked ≡ false → (t : RawTable W) (q : Place) → words.is_linked ((lent_table words t).entry q) ≡ true → IsCovered (lent_table words t) q
  covered starts t q on = linked_in_range words.is_linked words.unlinked starts (nameable words.width (raw_entries t)) (index_of q) on

  -- A CHAIN THAT ENDS COMES TO NO PLACE TWICE. If it came to a place twice, it would go on in the same way after both visits, so that equally many
  -- places would follow each visit. But fewer places follow the second visit than the first
  module _ (t : Place → W) where
    not_ahead : (b b' : Option Place) (x : Place) (w rest : List Place) → IsChain (IsBetween (neighbors words)) t b (x ∷ w) None → IsChain (IsBetween (neighbors words)) t b' rest None
        → length rest ≤ length w → IsAbsent x rest
    not_ahead b b' x w [] c k few = tt
    not_ahead b b' x w (y ∷ rest) c k few = (
      (λ e.
          let one : b' ≡ b = sym k.0.prev ∙ ap (λ q. (neighbors words (t q)).prev) (sym e) ∙ c.0.prev in
          let same : x ∷ w ≡ y ∷ rest = chain_one (IsBetween (neighbors words)) between_one t b (x ∷ w) (y ∷ rest) (ap Some e) c (rw one at k) in
          omega (arith, ap length same, few)),
      not_ahead b (Some y) x w rest c k.1 (omega (arith, few)),
    )

    pub ended_distinct : (b : Option Place) (w : List Place) → IsChain (IsBetween (neighbors words)) t b w None → IsDistinct w
    ended_distinct b [] c = tt
    ended_distinct b (x ∷ w) c = (not_ahead b (Some x) x w w c c.1 (omega arith), ended_distinct (Some x) w c.1)

  -- THE LINKS LEAD FROM THE FIRST MEMBER TO `at`: the walk has passed the places `walked`, of which `prev` is the last
  pub record LeadsTo (t : Table W) (list : Ends) (prev : Option Place) (at : Place) : Type 0 where
    pub walked : List Place
    pub chain : IsChain (IsBetween (neighbors words)) t.entry None walked (Some at)
    pub starts : list.head ≡ first_or walked (Some at)
    pub ends : prev ≡ last walked

  module _ {t : Table W} {list : Ends} {prev : Option Place} {at : Place} (leads : LeadsTo t list prev at) (linked : words.is_linked (t.entry at) ≡ true)
      (follows : (neighbors words (t.entry at)).prev ≡ prev) where
    -- the places that the walk has passed and the place `at` are a chain, which leads to the place after `at`
    chain_on : (next : Option Place) → (neighbors words (t.entry at)).next ≡ next → IsChain (IsBetween (neighbors words)) t.entry None (leads.walked ++ at ∷ []) next
    chain_on next after =
        chain_glue (IsBetween (neighbors words)) t.entry None leads.walked (at ∷ []) next leads.chain
        (record { linked = linked; prev = follows ∙ leads.ends; next = after }, tt)

    starts_on : (next : Option Place) → list.head ≡ first_or (leads.walked ++ at ∷ []) next
    starts_on next = leads.starts ∙ sym (first_or-append leads.walked (at ∷ []) next)

    -- if the links lead to `at`, they lead on to the place after `at`
    pub leads_on : {next : Place} → (neighbors words (t.entry at)).next ≡ Some next → LeadsTo t list (Some at) next
    leads_on {next} after = record {
      walked = leads.walked ++ at ∷ [];
      chain = chain_on (Some next) after;
      starts = starts_on (Some next);
      ends = sym (last_of_push leads.walked at);
    }

    -- if no place is after `at`, and `at` is the last place of the list, the words represent the places of the walk as the list
    pub ends_there : (neighbors words (t.entry at)).next ≡ None → list.tail ≡ Some at → (s : List Place) × Represents words t list s
    ends_there after tail =
        let chain = chain_on None after in (
          leads.walked ++ at ∷ [],
          record {
            distinct = ended_distinct t.entry None (leads.walked ++ at ∷ []) chain;
            chain = chain;
            head = starts_on None;
            tail = tail ∙ sym (last_of_push leads.walked at);
          },
        )

-- The facts that `Slots` maintains for its pool and for its list of vacant slots.
use Rattle.std.specs.Prelude.{◌≡◌, ◌<◌, ◌^◌, cond, leb, ℕ, Bool, Option, Some, None, IsSome, List, [], length, ⊤}
use Rattle.ic_link_ops.specs.Prelude.{Place, Objects, object_at, IsDistinct, Table, linked_by, table, wide}
use Rattle.ic_link_ops.specs.declared.link.Link.{Link}
use Rattle.ic_link_ops.specs.declared.one_word.OneWord.{OneWord}
use Rattle.ic_link_ops.specs.declared.table.PlainTable.{PlainTable}
use Rattle.ic_link_ops.specs.OneWord.{no_word, has_word, next_word_of}
use Rattle.ic_link_ops.specs.Readings.{successor_of}
use Rattle.ic_link_ops.specs.SinglyLinkedList.{Front, Successor, Represents, list_from, members}
use Rattle.ic_pool.specs.Pooled.{IsPooled}
use Rattle.ic_container.specs.Holds.{Holds}
use Rattle.ic_container.specs.NumberedLists.{EachInItsList, alone, owner_of}
use Rattle.pool_uses.specs.declared.slots.Slot.{Slot}
use Rattle.pool_uses.specs.Slots.{Naming}

-- These definitions say how contracts see the table of links of a singly linked list, and which members a list over the table has
module _ {K : Type 0} where
  abbrev pub is_linked : Link (OneWord K ℕ) ⊤ → Bool
  is_linked = linked_by has_word

  abbrev pub successor : Link (OneWord K ℕ) ⊤ → Successor
  successor = successor_of next_word_of has_word

  abbrev pub plain_table : {A : Type 0} → PlainTable (OneWord K ℕ) A ⊤ → Table (Link (OneWord K ℕ) ⊤)
  plain_table links = table wide no_word links

  abbrev pub members_of : {A : Type 0} → PlainTable (OneWord K ℕ) A ⊤ → Front → List Place
  members_of links list = members successor (plain_table links) list

module _ {T : Type 0} where
  -- the value in a slot, if there is one
  abbrev pub value_in : Option (Slot T) → Option T
  value_in None = None
  value_in (Some slot) = slot.value

  -- the slot has a value, and its generation is not the last one, which is 2^64 - 1
  abbrev pub IsTaken : Option (Slot T) → Type 0
  IsTaken None = ⊥
  IsTaken (Some slot) = IsSome slot.value × (slot.generation < 18446744073709551615)

  -- a slot belongs in the list of vacant slots, list 0, if it has no value and its generation is not the last one
  abbrev pub owner_with : Option T → ℕ → Option ℕ
  owner_with None g = cond (leb 18446744073709551615 g) None (Some 0)
  owner_with (Some value) g = None

  abbrev pub vacant_owner : Slot T → Option ℕ
  vacant_owner slot = owner_with slot.value slot.generation

  -- a slot is counted among the taken slots if it has a value
  abbrev pub taken_with : Option T → Option ℕ
  taken_with None = None
  taken_with (Some value) = Some 0

  abbrev pub taken_owner : Slot T → Option ℕ
  taken_owner slot = taken_with slot.value

-- what a contract sees of slots: their contents, how many of them have a value, and whether all places are in use
abbrev pub naming_of : {T : Type 0} → Objects (Slot T) → ℕ → Naming T
naming_of objects len = record { slots = objects.values; count = len; is_full = leb (2 ^ 32) objects.next }

-- no slot with a value has the last generation, and `len` is the number of places whose slots have a value
pub record IsCounted {T : Type 0} (objects : Objects (Slot T)) (len : ℕ) : Type 0 where
  pub below : (p : Place) → IsSome (value_in (object_at objects p)) → IsTaken (object_at objects p)
  pub taken : List Place
  pub once : IsDistinct taken
  pub owned : EachInItsList (owner_of taken_owner objects) (alone [] taken)
  pub count : len ≡ length taken

-- `Slots` maintains these facts. The list has exactly the slots without a value whose generation is not the last one. The table covers the place of each
-- slot. `len` is the number of slots with a value
pub record IsKept {T K A : Type 0} (objects : Objects (Slot T)) (links : PlainTable (OneWord K ℕ) A ⊤) (vacant : Front) (len : ℕ) : Type 0 where
  pub holds : Holds (Represents successor) is_linked plain_table members_of links (alone (list_from None) vacant) (owner_of vacant_owner objects)
  pub pooled : IsPooled is_linked objects (plain_table links)
  pub counted : IsCounted objects len

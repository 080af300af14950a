-- The words of a singly linked list, in the form that contracts for lists of any kind use.
use Rattle.ic_link_ops.specs.SinglyLinkedList.{Front}
use Rattle.ic_raw.specs.declared.words.RawFront.{RawFront}
use Rattle.ic_raw.specs.Singly.{word_of_front}

-- the word that a call writes for a singly linked list
abbrev pub word_of : Front → RawFront
word_of list = word_of_front list.head

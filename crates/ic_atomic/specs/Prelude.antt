-- This file declares nothing. It exports the names that most proofs about claims use.
pub use Rattle.ic_atomic.specs.AtomicLinks.{claims_of, links_of, record_in}
pub use Rattle.ic_atomic.specs.ClaimMap.{ClaimMap, Request, answer, answer_at, answers, holder_after, is_party, last_map, map_after, map_of, no_claims, target}
pub use Rattle.ic_atomic.specs.Holders.{AreWholeList, IsOf, IsSeatOf, NoneTwice, hand_of, hand_with, holders_of, places_of, record_of}
pub use Rattle.ic_atomic.specs.OneList.{Entry, IsOneList, found_by, record_at, request_of, steps_of, word_for, words_found}
pub use Rattle.ic_atomic.specs.Records.{HoldsAlso, HoldsTheSame, event, holds}

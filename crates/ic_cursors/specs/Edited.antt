-- What every edit at a position keeps. The records of `EditsAt.antt` state what an edit does to the sequence of members.

-- `IsValidAt links list at`: the position `at` is valid in the collection `list` over the table `links`. `Keeps old new`: what an edit leaves
-- unchanged in a collection, apart from its head
module _ {L C P : Type 0} (IsValidAt : L → C → P → Type 0) (Keeps : C → C → Type 0) where
  -- THE POSITION IS VALID AFTER AN EDIT: the position `at` is valid in the new collection, which keeps what its kind requires
  pub record Edited (old : C) (links : L) (new : C) (at : P) : Type 0 where
    pub stands : IsValidAt links new at
    pub keeps : Keeps old new

-- These definitions say how a hasher of the standard library computes the hash of a key.
use Rattle.std.specs.Prelude.{ℕ, List}
use Rattle.std.specs.List.{fold}
use Rattle.ic_hash_table.specs.declared.std_hash.StdHash.{StdHash}

module _ {G S : Type 0} where
  -- `keys_of` is the part of the adapter that finds the keys, and `state_of` is the part that makes the hashers
  abbrev pub keys_of : StdHash G S → G
  keys_of a = a.keys

  abbrev pub state_of : StdHash G S → S
  state_of a = a.state

  -- `hash_of_writes` is the hash of the data that a key writes to a hasher, and `hash_by` is the hash of a key
  module _ {H : Type 0} (build_hasher : S → H) (write : H → List ℕ → H) (finish : H → ℕ) where
    abbrev pub hash_of_writes : StdHash G S → List (List ℕ) → ℕ
    hash_of_writes a writes = finish (fold write (build_hasher (state_of a)) writes)

    abbrev pub hash_by : {K : Type 0} → (K → List (List ℕ)) → StdHash G S → K → ℕ
    hash_by hash_input a key = hash_of_writes a (hash_input key)

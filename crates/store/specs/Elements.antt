-- A store as a list of elements of one kind.
use Rattle.store.specs.Meaning.{Meaning}

-- the store itself, and what it means when each of its cells is read
pub record Elements (S E : Type 0) : Type 0 where
  pub store : S
  pub list : Meaning E

-- The ghost members of a store as one record, which a clause writes `T.Store`.
use Rattle.vt_handler.specs.declared.store.Store.{Ghosts}

-- what contracts know of a type of stores: which histories it holds, and its condition
abbrev pub StoreOf : Type 0 → Type 1
StoreOf S = Ghosts S

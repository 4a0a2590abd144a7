-- The ghost members of a store as one record, which a clause writes `T.Store`.
pub use Rattle.vt_handler.specs.declared.store.Store.{Ghosts as StoreOf}

-- Ghost members of what a clause speaks of as one record, which it writes `T.Store`, `C.Client`,
-- `P.Parts`, `N.Dialer` or `N.Link.Link`.
pub use Rattle.vt_handler.specs.declared.store.Store.{Ghosts as StoreOf}
pub use Rattle.vt_handler.specs.declared.client.Client.{Ghosts as ClientOf}
pub use Rattle.vt_partitions.specs.declared.parts.Parts.{Ghosts as PartsOf}
pub use Rattle.vt_dial.specs.declared.dialer.Dialer.{Ghosts as DialerOf}
pub use Rattle.vt_out.specs.declared.link.Link.{Ghosts as LinkOf}

-- The ghost members of a link as one record, which a clause writes `L.Link`.
pub use Rattle.vt_out.specs.declared.link.Link.{Ghosts as LinkOf}

-- The ghost members of a stream, of files, of partitions, of folders, of a dialer or of a link, as
-- one record, which a clause writes `R.Source`, `K.Sink`, `I.Files`, `P.Parts`, `G.Folders`,
-- `N.Dialer` or `L.Link`.

pub use Rattle.vt_out.specs.declared.source.Source.{Ghosts as SourceOf}
pub use Rattle.vt_out.specs.declared.sink.Sink.{Ghosts as SinkOf}
pub use Rattle.vt_out.specs.declared.files.Files.{Ghosts as FilesOf}
pub use Rattle.vt_partitions.specs.declared.parts.Parts.{Ghosts as PartsOf}
pub use Rattle.vt_out.specs.declared.folders.Folders.{Ghosts as FoldersOf}
pub use Rattle.vt_dial.specs.declared.dialer.Dialer.{Ghosts as DialerOf}
pub use Rattle.vt_out.specs.declared.link.Link.{Ghosts as LinkOf}

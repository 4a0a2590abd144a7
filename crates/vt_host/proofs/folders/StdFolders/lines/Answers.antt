use Rattle.std.proofs.Common.{inl}
use Rattle.vt_host.proofs.folders.StdFolders.lines.Goals as goal

pub returns-in-Ok-clause-lines : goal.returns-in-Ok-clause-lines
returns-in-Ok-clause-lines g c tells =
    let made = c.in-Ok.ensures.made tells in
    inl (record {
      opened = c.in-Ok.ensures.opened tells;
      file = made.0;
      read = made.1;
      front = c.in-Ok.ensures.content tells;
    })

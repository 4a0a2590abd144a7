use Rattle.std.proofs.Common.{length, sym}
use Rattle.vt_disk.specs.Disk.{Touches}
use Rattle.vt_host.specs.Held.{StaysHeld, Overwrites}
use Rattle.vt_host.proofs.ToldDisks.{told_same, images_among, images_change, counted, read_told, written_told, settled_told, others_told}
use Rattle.vt_host.proofs.disk.FileDiskDisk.TheImpl.Goals as goal

-- what the file tells of a call the disk tells
pub read_at-tells : goal.read_at-tells
read_at-tells g c =
    let file = g.F.FileCalls in
    let old = c.args.self.now in
    let new = c.new.self.now in
    record {
      read = read_told c.result file.tells c.args.start (length c.args.buf.now) (file.bytes old.file)
          c.new.buf.now c.ensures.read;
      bytes = told_same file.tells (file.bytes old.file) (file.bytes new.file)
          (λ tells. StaysHeld.bytes (c.ensures.stays tells));
      images = images_among file.tells old.len new.len (file.images old.file)
          (file.images new.file) c.ensures.size (λ tells. StaysHeld.images (c.ensures.stays tells));
      size = c.ensures.size;
      calls = λ tells. counted (file.made old.file) (file.made new.file) _ (c.ensures.made tells);
      cause = c.ensures.cause;
    }

pub write_at-tells : goal.write_at-tells
write_at-tells g c =
    let file = g.F.FileCalls in
    let old = c.args.self.now in
    let new = c.new.self.now in
    record {
      written = written_told c.result file.tells c.args.start c.args.chunk.now
          (file.bytes old.file) (file.bytes new.file) c.ensures.written;
      others = others_told file.tells c.args.start (length c.args.chunk.now) (file.bytes old.file) (file.bytes new.file)
          (λ tells. Overwrites.others (c.ensures.others tells));
      images = images_change file.tells (Touches c.args.start (length c.args.chunk.now)) old.len new.len (file.images old.file)
          (file.images new.file) c.ensures.size
          (λ tells. Overwrites.images (c.ensures.others tells))
          (λ tells d image. g.met.F.FileCalls.images_are_bytes old.file d tells image);
      kept = images_among file.tells new.len old.len (file.images new.file)
          (file.images old.file) (sym c.ensures.size)
          (λ tells. Overwrites.keeps (c.ensures.others tells));
      size = c.ensures.size;
      calls = λ tells. counted (file.made old.file) (file.made new.file) _ (c.ensures.made tells);
      cause = c.ensures.cause;
    }

pub sync-tells : goal.sync-tells
sync-tells g c =
    let file = g.F.FileCalls in
    let old = c.args.self.now in
    let new = c.new.self.now in
    record {
      settled = settled_told c.result file.tells new.len (file.bytes old.file)
          (file.images new.file) c.ensures.settled;
      bytes = told_same file.tells (file.bytes old.file) (file.bytes new.file)
          (λ tells. StaysHeld.bytes (c.ensures.stays tells));
      images = images_among file.tells old.len new.len (file.images old.file)
          (file.images new.file) c.ensures.size (λ tells. StaysHeld.images (c.ensures.stays tells));
      size = c.ensures.size;
      calls = λ tells. counted (file.made old.file) (file.made new.file) _ (c.ensures.made tells);
      cause = c.ensures.cause;
    }

use Rattle.std.proofs.Common.{refl, sym, arith}
use Rattle.vt_arena.specs.Directory.{first_bad_entry, last_entry}
use Rattle.vt_arena.specs.Layout.{directory_place}
use Rattle.vt_arena.proofs.Layouts.{entries_least}
use Rattle.vt_arena.proofs.Walks.{entry_read, walks_bad}
use Rattle.vt_arena.proofs.directory.info_by_entry.Goals as goal

pub returns-in_default-clause-answer : goal.returns-in_default-clause-answer
returns-in_default-clause-answer g c = (last_entry c.args.region c.args.at.now.index (g.D.Disk.bytes c.args.disk.now), (λ told. refl), refl)

pub returns-in-Some-clause-answer : goal.returns-in-Some-clause-answer
returns-in-Some-clause-answer g c = (
  c.read_at.new.buf,
  (λ told. entry_read c.args.region.start c.args.region.len c.entries_len.result (directory_place c.args.region c.args.at.now.index) (g.D.Disk.bytes c.args.disk.now) c.read_at.new.buf
      (omega (arith, c.entries_len.ensures, c.from.ensures, c.requires.fit, c.requires.index, entries_least c.args.head.now.version c.args.head.now.clumps))
      (omega (arith, c.entries_len.ensures, c.from.ensures)) (c.in-Ok.ensures.read told)),
  walks_bad c.args.head.now (first_bad_entry c.args.head.now c.args.at.now c.read_at.new.buf) c.read_at.new.buf 0 c.args.at.now c.in-Some.bad (sym c.in-Some.ensures.first),
)

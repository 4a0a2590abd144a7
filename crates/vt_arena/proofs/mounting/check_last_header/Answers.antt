use Rattle.std.proofs.Common.{◌≡◌, ◌+◌, ◌-◌, ◌*◌, ℕ, Some, refl, sym, ◌∙◌, ap}
use Rattle.vt_disk.specs.Disk.{part}
use Rattle.vt_clump.specs.Spelling.{size_in}
use Rattle.vt_arena.specs.declared.error.ArenaBad.TheVariants.{Torn}
use Rattle.vt_arena.specs.declared.error.Field.TheVariants.{Last}
use Rattle.vt_arena.specs.Faults.{last_offset}
use Rattle.vt_arena.specs.Places.{sectors_of}
use Rattle.vt_arena.specs.Reading.{header_at}
use Rattle.vt_arena.proofs.ArenaFound.{last_header_bad, last_header_passes}
use Rattle.vt_arena.proofs.mounting.check_last_header.Goals as goal

pub returns-in_default-clause-answer : goal.returns-in_default-clause-answer
returns-in_default-clause-answer g c = (header_at c.args.region (last_offset c.args.head.now.used c.args.head.now.last) (g.D.Disk.bytes c.args.disk.now), (λ told. refl), tt)

pub returns-then-head-sectors-clause-answer : goal.returns-then-head-sectors-clause-answer
returns-then-head-sectors-clause-answer g c = (
  c.read_at.new.buf,
  (λ told. c.in-Ok.ensures.read told ∙ ap (λ (n : ℕ). part (c.args.region.start + (24576 + c.args.head.now.used - 512 * n)) 38 (g.D.Disk.bytes c.args.disk.now)) c.from.ensures),
  last_header_passes c.args.head.now.last (sectors_of (size_in c.read_at.new.buf)) (c.if-head-sectors.true ∙ c.sectors_of-sectors.ensures.sectors ∙ ap sectors_of c.block_len.ensures),
)

pub returns-clause-answer : goal.returns-clause-answer
returns-clause-answer g c =
    let sectors : c.sectors_of-sectors.result ≡ sectors_of (size_in c.read_at.new.buf) = c.sectors_of-sectors.ensures.sectors ∙ ap sectors_of c.block_len.ensures in (
      c.read_at.new.buf,
      (λ told. c.in-Ok.ensures.read told ∙ ap (λ (n : ℕ). part (c.args.region.start + (24576 + c.args.head.now.used - 512 * n)) 38 (g.D.Disk.bytes c.args.disk.now)) c.from.ensures),
      last_header_bad c.args.head.now.last (sectors_of (size_in c.read_at.new.buf)) (λ is. c.if-head-sectors.false (is ∙ sym sectors))
          ∙ (λ i. Some (Torn Last (sym c.from-2.ensures i) (sym (c.from-3.ensures ∙ sectors) i))),
    )

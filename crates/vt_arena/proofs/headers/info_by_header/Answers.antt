use Rattle.std.proofs.Common.{◌≡◌, ◌+◌, ◌-◌, ◌*◌, None, List, ℕ, refl, sym, ◌∙◌, ap, subst}
use Rattle.vt_disk.specs.Disk.{part}
use Rattle.vt_arena.specs.Directory.{entry_in_header, first_bad_entry, first_bad_header, last_header, moved_before, sectors_before, IsInfoOf}
use Rattle.vt_arena.proofs.Walks.{header_entry, walks_bad}
use Rattle.vt_arena.proofs.headers.info_by_header.Goals as goal

pub returns-in_default-clause-answer : goal.returns-in_default-clause-answer
returns-in_default-clause-answer g c = (last_header c.args.region c.args.at.now (g.D.Disk.bytes c.args.disk.now), (λ told. refl), refl)

pub returns-in-Some-clause-answer : goal.returns-in-Some-clause-answer
returns-in-Some-clause-answer g c = (
  c.read_at.new.buf,
  (λ told. c.in-Ok.ensures.read told ∙ ap (λ (n : ℕ). part (c.args.region.start + (24576 + c.args.at.now.end - 512 * n)) 38 (g.D.Disk.bytes c.args.disk.now)) c.from.ensures),
  walks_bad c.args.head.now (first_bad_header c.args.head.now c.args.at.now c.read_at.new.buf) (entry_in_header c.read_at.new.buf) (sectors_before c.read_at.new.buf) c.args.at.now c.in-Some.bad (sym c.in-Some.ensures.first),
)

pub give-requires-clause-good : goal.give-requires-clause-good
give-requires-clause-good g c =
    let none : first_bad_header c.args.head.now c.args.at.now c.read_at.new.buf ≡ None = sym c.first_bad_header.ensures.first ∙ c.in_default-first_bad_header.is in
    subst (λ (l : List ℕ). first_bad_entry c.args.head.now c.args.at.now l ≡ None) (sym c.entry_of.ensures) (header_entry c.args.head.now c.args.at.now c.read_at.new.buf none).0

pub returns-clause-answer : goal.returns-clause-answer
returns-clause-answer g c = (
  c.read_at.new.buf,
  (λ told. c.in-Ok.ensures.read told ∙ ap (λ (n : ℕ). part (c.args.region.start + (24576 + c.args.at.now.end - 512 * n)) 38 (g.D.Disk.bytes c.args.disk.now)) c.from.ensures),
  (
    sym c.first_bad_header.ensures.first ∙ c.in_default-first_bad_header.is,
    subst (λ (l : List ℕ). IsInfoOf c.args.head.now c.args.at.now l c.give.result) c.entry_of.ensures c.give.ensures.info,
    c.give.ensures.moved ∙ (λ i. moved_before c.args.head.now c.args.at.now (c.entry_of.ensures i) (c.u32_at.ensures i)),
  ),
)

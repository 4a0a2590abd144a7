use Rattle.std.proofs.Common.{◌≡◌, ◌≤◌, ◌++◌, ℕ, List, length, map, reverse, Option, Some, None, Ok, Err, sym, ◌∙◌, ap, subst, arith, append-nil}
use Rattle.std.specs.Prelude.{slice_get, replicate, ⊤}
use Rattle.vt_bloom.specs.Bits.{Filter}
use Rattle.vt_bloom.specs.Bloom.{BloomState}
use Rattle.vt_isect.specs.Section.{IsAtRest, SectionState}
use Rattle.vt_log.specs.Log.{LogState}
use Rattle.vt_shard.specs.Shard.{ShardState}
use Rattle.vt_core.specs.Core.{CoreState}
use Rattle.vt_recover.specs.Opening.{IsFoundSection, IsShardMade}
use Rattle.vt_core.specs.Opening.{IsMountOf, RefusesBeside, TestsParts, with_log}
use Rattle.vt_recover.specs.Recalling.{IsUnused, ReadsLogBack, opened}
use Rattle.vt_core.specs.Whole.{IsWhole}
use Rattle.vt_core.proofs.Beside.{all_from}
use Rattle.vt_core.proofs.Chains.{unused_at, whole}
use Rattle.vt_core.proofs.Fields.{short_regions}
use Rattle.vt_core.proofs.Mounted.{mounts}
use Rattle.vt_recover.proofs.OpenWork.{items_after}
use Rattle.vt_core.proofs.Returned.{beside_mount, devices_same, found_mount, memory_mount, read_mount}
use Rattle.vt_recover.proofs.Held.{held_many}
use Rattle.vt_recover.proofs.Zips.{zip_beside, zip_length}
use Rattle.vt_core.proofs.mounting.open.Goals as goal
use Rattle.vt_recover.specs.Marks.{AreCovered}

pub open_beside-requires : goal.open_beside-requires
open_beside-requires g c = omega (arith, c.requires.many)

pub returns-in-Err : goal.returns-in-Err
returns-in-Err g c = λ before given.
    let score = g.S.Scorer.score_of in
    let e = c.in-Err.ensures in
    let at : c.args.part ≡ length before = c.requires.part ∙ held_many g.D.Disk before c.args.log.disks given.held in
    let refuses : RefusesBeside g.D.Disk c.args.part c.args.log.durable c.args.sections.items c.args.filter c.in-Err.bad =
    subst (λ (n : ℕ). RefusesBeside g.D.Disk c.args.part n c.args.sections.items c.args.filter c.in-Err.bad) c.durable.ensures e.refused in
    beside_mount score g.D.Disk before c.args.log c.args.sections.items c.args.filter given c.what_is_read_is_a_prefix.ensures c.args.part at c.in-Err.sections.items c.in-Err.filter c.in-Err.bad
    c.hand_back.result c.args.sizes c.args.sessions c.hand_back.ensures.devices c.hand_back.ensures.tables e.held refuses e.counts
    (λ setup h tells agree all. e.found score setup h tells agree (all ∙ sym c.durable.ensures))

pub open_memory-requires-clause-rest : goal.open_memory-requires-clause-rest
open_memory-requires-clause-rest g c =
    all_from (λ s. IsAtRest s) c.in-Ok.beside.sections.items (λ i s at.
    let d = zip_beside (IsFoundSection g.D.Disk) c.args.sections.items c.in-Ok.beside.sections.items i s c.in-Ok.ensures.opened.sections at in
    ap (λ (t : SectionState g.row.D.Denot). t.phase) d.2.fresh)

pub open_memory-requires-clause-room : goal.open_memory-requires-clause-room
open_memory-requires-clause-room g c =
    let many = zip_length (IsFoundSection g.D.Disk) c.args.sections.items c.in-Ok.beside.sections.items c.in-Ok.ensures.opened.sections in
    record { empty = c.in-Ok.ensures.opened.room.empty; enough = omega (arith, many, c.in-Ok.ensures.opened.room.enough) }

pub returns-in-Err-open_memory : goal.returns-in-Err-open_memory
returns-in-Err-open_memory g c = λ before given.
    let b = c.in-Ok.beside in
    let is = c.hand_back-devices.ensures.devices
    ∙ ap (λ (l : List g.row.D.Denot). with_log c.args.log.disks l c.device_of.result) c.in-Err-open_memory.ensures.memory
    ∙ ap (λ (o : Option g.row.D.Denot). with_log c.args.log.disks (map (λ s. s.disk) b.sections.items) o) c.device_of.ensures in
    memory_mount g.S.Scorer.score_of g.D.Disk before c.args.log c.args.sections.items c.args.filter given b.sections.items b.bloom b.bits c.in-Ok.ensures.opened.sections c.in-Ok.ensures.opened.filter_is
    c.hand_back-devices.result c.args.sizes c.args.sessions is c.hand_back-devices.ensures.tables

pub read_back-requires-clause-many : goal.read_back-requires-clause-many
read_back-requires-clause-many g c =
    let made = c.in-Ok-open_memory.ensures.made in
    let many = zip_length (IsShardMade g.D.Disk c.args.sizes.lumps c.args.sizes.clean) c.in-Ok.beside.sections.items c.in-Ok-open_memory.opened.0.items made.0 in
    let opens = zip_length (IsFoundSection g.D.Disk) c.args.sections.items c.in-Ok.beside.sections.items c.in-Ok.ensures.opened.sections in
    omega (arith, many, opens, ap length c.deref_mut.ensures.value, c.requires.many)

pub read_back-requires-clause-unused : goal.read_back-requires-clause-unused
read_back-requires-clause-unused g c =
    let shards = c.in-Ok-open_memory.opened.0.items in
    subst (λ (l : List (ShardState g.row.D.Denot)). (i : ℕ) (s : ShardState g.row.D.Denot) → slice_get l i ≡ Some s → IsUnused s) (sym c.deref_mut.ensures.value)
    (unused_at g.S.Scorer.score_of g.D.Disk c.args.sections.items c.in-Ok.beside.sections.items shards c.args.sizes.lumps c.args.sizes.clean c.in-Ok.ensures.opened.sections c.in-Ok-open_memory.ensures.made.0)

pub close_shards-sections-requires : goal.close_shards-sections-requires
close_shards-sections-requires g c =
    let made = c.in-Ok-open_memory.ensures.made in
    let many = zip_length (IsShardMade g.D.Disk c.args.sizes.lumps c.args.sizes.clean) c.in-Ok.beside.sections.items c.in-Ok-open_memory.opened.0.items made.0 in
    let again : length c.read_back.new.shards ≡ length c.in-Ok-open_memory.opened.0.items = c.read_back.ensures.reads.many ∙ ap length c.deref_mut.ensures.value in
    let after = items_after c.in-Ok-open_memory.opened.0.len c.in-Ok-open_memory.opened.0.items c.read_back.new.shards c.in-Ok-open_memory.opened.0.ok.0 again in
    omega (arith, many, again, ap length after, ap length made.1.empty, made.1.enough)

pub returns-in-Err-read_back : goal.returns-in-Err-read_back
returns-in-Err-read_back g c = λ before given.
    let score = g.S.Scorer.score_of in
    let disk = g.D.Disk in
    let b = c.in-Ok.beside in
    let opens = c.in-Ok.ensures.opened in
    let made = c.in-Ok-open_memory.ensures.made in
    let o = c.in-Ok-open_memory.opened.0 in
    let shards = c.read_back.new.shards in
    let at : c.args.part ≡ length before = c.requires.part ∙ held_many disk before c.args.log.disks given.held in
    let again : length shards ≡ length o.items = c.read_back.ensures.reads.many ∙ ap length c.deref_mut.ensures.value in
    let after = items_after o.len o.items shards o.ok.0 again in
    let all : ReadsLogBack {U = Unit {0}} score disk c.least_mark-least.result c.args.part (Err c.in-Err-read_back.bad) (opened c.args.log o.items b.bits) (opened c.read_back.new.log shards c.read_back.new.bits) =
    subst (λ (l : List (ShardState g.row.D.Denot)). ReadsLogBack {U = Unit {0}} score disk c.least_mark-least.result c.args.part (Err c.in-Err-read_back.bad) (opened c.args.log l b.bits) (opened c.read_back.new.log shards c.read_back.new.bits))
    c.deref_mut.ensures.value c.in-Err-read_back.ensures in
    let disks = map (λ (s : ShardState g.row.D.Denot). s.section.disk) shards in
    let closed : c.close_shards-sections.result.items ≡ disks =
    c.close_shards-sections.ensures
    ∙ ap (λ (l : List (ShardState g.row.D.Denot)). map (λ s. s.section.disk) l ++ reverse c.in-Ok-open_memory.opened.1.items) after
    ∙ ap (λ (l : List g.row.D.Denot). disks ++ reverse l) made.1.empty ∙ append-nil disks in
    let is = c.hand_back-in-Err-read_back.ensures.devices
    ∙ ap (λ (l : List g.row.D.Denot). with_log c.read_back.new.log.disks l c.device_of-in-Err-read_back.result) closed
    ∙ ap (λ (f : Option g.row.D.Denot). with_log c.read_back.new.log.disks disks f) c.device_of-in-Err-read_back.ensures in
    read_mount score disk before c.args.log c.args.sections.items c.args.filter given b.sections.items b.bloom b.bits opens.sections opens.filter_is
    o.items c.args.sizes.lumps c.args.sizes.clean made.0 c.read_back.new.log c.read_back.new.bits shards all.reads
    c.what_is_read_is_a_prefix.ensures c.first_blocks_are_legal.ensures.legal c.files_agree.ensures (λ d tells. g.met.D.Disk.read_is_image d tells)
    c.least_mark-least.result c.args.part at (subst (λ (n : ℕ). TestsParts {U = ⊤} c.args.part b.sections.items b.bloom n (Ok tt)) c.durable.ensures opens.tests) c.in-Err-read_back.bad all
    c.hand_back-in-Err-read_back.result c.args.sizes c.args.sessions is c.hand_back-in-Err-read_back.ensures.tables

-- its shards, the sessions' rows and the count of synced blocks, as they are in the store that is found
abbrev state : {D : Type 0} → LogState D → List (ShardState D) → Option (BloomState D) → Filter → List (Option ℕ) → ℕ → CoreState D
state log shards bloom bits waiting synced = record { log = log; shards = shards; bloom = bloom; bits = bits; waiting = waiting; synced = synced }

is_state : {D : Type 0} (log : LogState D) (bloom : Option (BloomState D)) (bits : Filter) {some : List (ShardState D)} (shards : List (ShardState D)) (waits waiting : List (Option ℕ)) (n synced : ℕ)
    → some ≡ shards → waits ≡ waiting → n ≡ synced
    → state log some bloom bits waits n ≡ state log shards bloom bits waiting synced
is_state log bloom bits {some} shards waits waiting n synced one two three =
    ap (λ l. state log l bloom bits waits n) one ∙ ap (λ l. state log shards bloom bits l n) two ∙ ap (state log shards bloom bits waiting) three

pub invariant_of-result : goal.invariant_of-result
invariant_of-result g c =
    let score = g.S.Scorer.score_of in
    let disk = g.D.Disk in
    let b = c.in-Ok.beside in
    let opens = c.in-Ok.ensures.opened in
    let made = c.in-Ok-open_memory.ensures.made in
    let o = c.in-Ok-open_memory.opened.0 in
    let shards = c.read_back.new.shards in
    let many = zip_length (IsShardMade disk c.args.sizes.lumps c.args.sizes.clean) b.sections.items o.items made.0 in
    let again : length shards ≡ length o.items = c.read_back.ensures.reads.many ∙ ap length c.deref_mut.ensures.value in
    let after = items_after o.len o.items shards o.ok.0 again in
    let all : ReadsLogBack {U = Unit {0}} score disk c.least_mark-least.result c.args.part (Ok tt) (opened c.args.log o.items b.bits) (opened c.read_back.new.log shards c.read_back.new.bits) =
    subst (λ (l : List (ShardState g.row.D.Denot)). ReadsLogBack {U = Unit {0}} score disk c.least_mark-least.result c.args.part (Ok tt) (opened c.args.log l b.bits) (opened c.read_back.new.log shards c.read_back.new.bits))
    c.deref_mut.ensures.value c.in_default.ensures in
    let tests = subst (λ (n : ℕ). TestsParts {U = ⊤} c.args.part b.sections.items b.bloom n (Ok tt)) c.durable.ensures opens.tests in
    let found = whole score disk c.args.sections.items b.sections.items o.items c.args.sizes.lumps c.args.sizes.clean opens.sections made.0 c.args.log c.read_back.new.log b.bits c.read_back.new.bits shards all.reads
    c.args.filter b.bloom opens.filter_is c.args.part tests all.rest c.args.sessions (omega (arith, c.ranges.sessions.fits)) c.requires.some_arena c.requires.some_section (omega (arith, c.requires.many)) in
    let waits : c.in-Ok-open_memory.opened.2.items ≡ replicate c.args.sessions None = c.in-Ok-open_memory.ensures.rows in
    let is = is_state c.read_back.new.log b.bloom c.read_back.new.bits shards c.in-Ok-open_memory.opened.2.items (replicate c.args.sessions None) c.durable-2.result c.read_back.new.log.durable after waits c.durable-2.ensures in
    (subst (IsWhole disk) (sym is) found, record { empty = made.1.empty; enough = omega (arith, many, again, ap length after, made.1.enough) })

pub returns : goal.returns
returns g c = λ before given.
    let score = g.S.Scorer.score_of in
    let disk = g.D.Disk in
    let b = c.in-Ok.beside in
    let opens = c.in-Ok.ensures.opened in
    let made = c.in-Ok-open_memory.ensures.made in
    let o = c.in-Ok-open_memory.opened.0 in
    let shards = c.read_back.new.shards in
    let many = zip_length (IsShardMade disk c.args.sizes.lumps c.args.sizes.clean) b.sections.items o.items made.0 in
    let again : length shards ≡ length o.items = c.read_back.ensures.reads.many ∙ ap length c.deref_mut.ensures.value in
    let after = items_after o.len o.items shards o.ok.0 again in
    let all : ReadsLogBack {U = Unit {0}} score disk c.least_mark-least.result c.args.part (Ok tt) (opened c.args.log o.items b.bits) (opened c.read_back.new.log shards c.read_back.new.bits) =
    subst (λ (l : List (ShardState g.row.D.Denot)). ReadsLogBack {U = Unit {0}} score disk c.least_mark-least.result c.args.part (Ok tt) (opened c.args.log l b.bits) (opened c.read_back.new.log shards c.read_back.new.bits))
    c.deref_mut.ensures.value c.in_default.ensures in
    let tests = subst (λ (n : ℕ). TestsParts {U = ⊤} c.args.part b.sections.items b.bloom n (Ok tt)) c.durable.ensures opens.tests in
    let marks = subst (λ (l : List (ShardState g.row.D.Denot)). (i : ℕ) (s : ShardState g.row.D.Denot) → slice_get l i ≡ Some s → c.least_mark-least.result ≤ s.section.head.mark) c.deref.ensures.value c.least_mark-least.ensures.marks in
    let greatest = subst (λ (l : List (ShardState g.row.D.Denot)). (n : ℕ) → AreCovered l b.bloom n → n ≤ c.least_mark-least.result) c.deref.ensures.value c.least_mark-least.ensures.greatest in
    let waits : c.in-Ok-open_memory.opened.2.items ≡ replicate c.args.sessions None = c.in-Ok-open_memory.ensures.rows in
    let is = is_state c.read_back.new.log b.bloom c.read_back.new.bits shards c.in-Ok-open_memory.opened.2.items (replicate c.args.sessions None) c.durable-2.result c.read_back.new.log.durable after waits c.durable-2.ensures in
    let found = mounts score disk c.args.sections.items b.sections.items o.items c.args.sizes opens.sections made.0 c.args.log c.read_back.new.log b.bits c.read_back.new.bits shards c.least_mark-least.result
    c.args.filter b.bloom opens.filter_is c.args.part tests before given (short_regions disk c.args.log given.whole) marks c.least_mark-least.ensures.filter greatest all c.args.sessions (omega (arith, c.ranges.sessions.fits)) c.requires.some_arena c.requires.some_section (omega (arith, c.requires.many))
    (λ d tells. g.met.D.Disk.read_is_image d tells) c.what_is_read_is_a_prefix.ensures c.no_block_lacks.ensures.none c.base_is_free-2.ensures c.first_blocks_are_legal.ensures.legal c.base_is_free.ensures.legal c.saved_filters_are_told_apart.ensures.one_saved in
    let k = state c.read_back.new.log shards b.bloom c.read_back.new.bits (replicate c.args.sessions None) c.read_back.new.log.durable in
    let whole_mount = found_mount score disk before c.args.log c.args.sections.items c.args.filter given b.sections.items b.bloom b.bits opens.sections opens.filter_is
    o.items c.args.sizes.lumps c.args.sizes.clean made.0 c.read_back.new.log c.read_back.new.bits shards all.reads
    c.what_is_read_is_a_prefix.ensures c.files_agree.ensures (λ d tells. g.met.D.Disk.read_is_image d tells) c.least_mark-least.result c.args.part all k c.args.sizes c.args.sessions
    (devices_same score disk before c.args.log c.args.sections.items c.args.filter given b.sections.items b.bloom b.bits opens.sections opens.filter_is
    o.items c.args.sizes.lumps c.args.sizes.clean made.0 c.read_back.new.log c.read_back.new.bits shards all.reads (replicate c.args.sessions None) c.read_back.new.log.durable)
    found in
    subst (λ (x : CoreState g.row.D.Denot). IsMountOf score disk c.args.log.tables (with_log before c.args.sections.items c.args.filter) c.args.sizes c.args.sessions (Ok x)) (sym is) whole_mount

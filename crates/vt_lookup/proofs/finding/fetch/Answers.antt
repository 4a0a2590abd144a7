use Rattle.std.proofs.Common.{◌≡◌, inl, sym, ◌∙◌, subst}
use Rattle.std.specs.Prelude.{Err}
use Rattle.vt_base.specs.declared.why.Why.{Why}
use Rattle.vt_lumps.specs.Lumps.{cached_bytes, used}
use Rattle.vt_shard.specs.Shard.{ShardState}
use Rattle.vt_lookup.specs.Finding.{LooksFor, MayKeepFrom, parts_of, why_of_read}
use Rattle.vt_lookup.specs.Seeking.{Fetches}
use Rattle.vt_lookup.proofs.Fetching.{Keeping, by_lumps, entry_fails, entry_lump, failed_fetched, keeping_looks, keeping_lumps, keeping_there, memory_looks, nothing_used, read_fetched, read_sound, shard_sound, there_taken}
use Rattle.vt_arena.proofs.Commits.{none_is}
use Rattle.vt_lookup.proofs.finding.fetch.Goals as goal

pub returns-then-touch_lump-clause-sound : goal.returns-then-touch_lump-clause-sound
returns-then-touch_lump-clause-sound g c = λ setup h durable tells sound of.
    shard_sound g.S.Scorer.score_of g.D.Disk setup h durable c.args.log.now c.args.shard.now c.touch_lump.new.self
    (c.touch_lump.ensures.sound g.S.Scorer.score_of setup h durable 0 sound.shard) sound

pub returns-then-touch_lump-clause-fetches : goal.returns-then-touch_lump-clause-fetches
returns-then-touch_lump-clause-fetches g c =
    inl (there_taken g.S.Scorer.score_of g.D.Disk c.args.entry.now.key c.args.log.now c.args.shard.now c.touch_lump.new.self (sym c.touch_lump.ensures.kept ∙ c.if-touch_lump.true) c.touch_lump.ensures.used).0

pub returns-then-touch_lump-clause-there : goal.returns-then-touch_lump-clause-there
returns-then-touch_lump-clause-there g c =
    (there_taken g.S.Scorer.score_of g.D.Disk c.args.entry.now.key c.args.log.now c.args.shard.now c.touch_lump.new.self (sym c.touch_lump.ensures.kept ∙ c.if-touch_lump.true) c.touch_lump.ensures.used).1

pub returns-then-touch_lump-clause-looks : goal.returns-then-touch_lump-clause-looks
returns-then-touch_lump-clause-looks g c = memory_looks g.S.Scorer.score_of g.D.Disk 2 0 tt c.args.log.now c.args.shard.now c.touch_lump.new.self
    (by_lumps g.S.Scorer.score_of g.D.Disk c.args.shard.now c.touch_lump.new.self (used c.args.entry.now.key c.args.shard.now.lumps) c.touch_lump.ensures.used)

pub returns-then-touch_lump-clause-lumps : goal.returns-then-touch_lump-clause-lumps
returns-then-touch_lump-clause-lumps g c =
    by_lumps g.S.Scorer.score_of g.D.Disk c.args.shard.now c.touch_lump.new.self (used c.args.entry.now.key c.args.shard.now.lumps) c.touch_lump.ensures.used

pub returns-in-Ok-clause-sound : goal.returns-in-Ok-clause-sound
returns-in-Ok-clause-sound g c = λ setup h durable tells sound of.
    read_sound g.S.Scorer.score_of g.D.Disk setup h durable 2 c.args.log.now c.read.new.self c.args.shard.now c.keep.new.shard c.read.ensures.reads
    (c.keep.ensures.sound g.S.Scorer.score_of setup h durable (c.touch_lump.ensures.sound g.S.Scorer.score_of setup h durable 0 sound.shard)
    (entry_lump g.S.Scorer.score_of g.D.Disk setup h durable c.args.log.now sound.opened c.args.entry.now c.read.result c.in-Ok.bytes c.in-Ok.is (λ i e. c.read.ensures.block h i e tells sound.log) of)) sound

pub returns-in-Ok-clause-fetches : goal.returns-in-Ok-clause-fetches
returns-in-Ok-clause-fetches g c =
    let s : ShardState g.row.D.Denot = c.args.shard.now in
    let none = sym c.touch_lump.ensures.kept ∙ c.if-touch_lump.false in
    let same : c.touch_lump.new.self ≡ s = nothing_used g.S.Scorer.score_of g.D.Disk c.args.entry.now.key s c.touch_lump.new.self none c.touch_lump.ensures.used in
    read_fetched g.S.Scorer.score_of g.D.Disk c.args.entry.now c.args.log.now c.read.new.self s (none_is (cached_bytes c.args.entry.now.key s.lumps) none) c.read.result
    c.read.ensures.answer c.read.ensures.reads (λ i first. (c.read.ensures.free (inl (i, first))).1) c.in-Ok.bytes c.in-Ok.is c.keep.result c.keep.new.shard
    (subst (λ (t : ShardState g.row.D.Denot). Keeping g.S.Scorer.score_of g.D.Disk c.keep.result c.args.entry.now.key c.in-Ok.bytes t c.keep.new.shard) same c.keep.ensures.kept)

pub returns-in-Ok-clause-there : goal.returns-in-Ok-clause-there
returns-in-Ok-clause-there g c = keeping_there g.S.Scorer.score_of g.D.Disk c.keep.result c.args.entry.now.key c.in-Ok.bytes c.touch_lump.new.self c.keep.new.shard c.keep.ensures.kept

pub returns-in-Ok-clause-looks : goal.returns-in-Ok-clause-looks
returns-in-Ok-clause-looks g c =
    let s : ShardState g.row.D.Denot = c.args.shard.now in
    let none = sym c.touch_lump.ensures.kept ∙ c.if-touch_lump.false in
    let same : c.touch_lump.new.self ≡ s = nothing_used g.S.Scorer.score_of g.D.Disk c.args.entry.now.key s c.touch_lump.new.self none c.touch_lump.ensures.used in
    subst (λ (t : ShardState g.row.D.Denot). LooksFor g.S.Scorer.score_of g.D.Disk 2 0 c.keep.result (parts_of c.args.log.now t) (parts_of c.read.new.self c.keep.new.shard)) same
    (keeping_looks g.S.Scorer.score_of g.D.Disk c.keep.result c.args.entry.now.key c.in-Ok.bytes c.args.log.now c.read.new.self c.touch_lump.new.self c.keep.new.shard c.read.ensures.reads
    c.in-Ok.ensures.cause c.keep.ensures.kept)

pub returns-in-Ok-clause-lumps : goal.returns-in-Ok-clause-lumps
returns-in-Ok-clause-lumps g c =
    let s : ShardState g.row.D.Denot = c.args.shard.now in
    let none = sym c.touch_lump.ensures.kept ∙ c.if-touch_lump.false in
    let same : c.touch_lump.new.self ≡ s = nothing_used g.S.Scorer.score_of g.D.Disk c.args.entry.now.key s c.touch_lump.new.self none c.touch_lump.ensures.used in
    subst (λ (t : ShardState g.row.D.Denot). c.keep.new.shard ≡ record t { lumps = c.keep.new.shard.lumps }) same
    (keeping_lumps g.S.Scorer.score_of g.D.Disk c.keep.result c.args.entry.now.key c.in-Ok.bytes c.touch_lump.new.self c.keep.new.shard c.keep.ensures.kept)

pub returns-in-Err-clause-right : goal.returns-in-Err-clause-right
returns-in-Err-clause-right g c = λ setup h durable tells sound of.
    subst MayKeepFrom (sym c.why_of_read.ensures)
    (entry_fails g.S.Scorer.score_of g.D.Disk setup h durable c.args.log.now sound.opened c.args.entry.now c.read.result c.in-Err.bad c.in-Err.is (λ i e. c.read.ensures.block h i e tells sound.log) of)

pub returns-in-Err-clause-sound : goal.returns-in-Err-clause-sound
returns-in-Err-clause-sound g c = λ setup h durable tells sound of.
    read_sound g.S.Scorer.score_of g.D.Disk setup h durable 2 c.args.log.now c.read.new.self c.args.shard.now c.touch_lump.new.self c.read.ensures.reads
    (c.touch_lump.ensures.sound g.S.Scorer.score_of setup h durable 0 sound.shard) sound

pub returns-in-Err-clause-fetches : goal.returns-in-Err-clause-fetches
returns-in-Err-clause-fetches g c =
    let s : ShardState g.row.D.Denot = c.args.shard.now in
    let none = sym c.touch_lump.ensures.kept ∙ c.if-touch_lump.false in
    let same : c.touch_lump.new.self ≡ s = nothing_used g.S.Scorer.score_of g.D.Disk c.args.entry.now.key s c.touch_lump.new.self none c.touch_lump.ensures.used in
    subst (λ (w : Why). Fetches g.S.Scorer.score_of g.D.Disk c.args.entry.now (Err w) (parts_of c.args.log.now s) (parts_of c.read.new.self c.touch_lump.new.self)) (sym c.why_of_read.ensures)
    (subst (λ (t : ShardState g.row.D.Denot). Fetches g.S.Scorer.score_of g.D.Disk c.args.entry.now (Err (why_of_read c.args.entry.now.place c.in-Err.bad)) (parts_of c.args.log.now s) (parts_of c.read.new.self t)) (sym same)
    (failed_fetched g.S.Scorer.score_of g.D.Disk c.args.entry.now c.args.log.now c.read.new.self s (none_is (cached_bytes c.args.entry.now.key s.lumps) none) c.read.result
    c.read.ensures.answer c.read.ensures.reads (λ i first. (c.read.ensures.free (inl (i, first))).1) (Unit {0}) c.in-Err.bad c.in-Err.is))

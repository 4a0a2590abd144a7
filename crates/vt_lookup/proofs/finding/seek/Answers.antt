use Rattle.std.proofs.Common.{◌≡◌, inl, Option, Some, None, refl, sym, ◌∙◌, ap, subst}
use Rattle.std.specs.Prelude.{Result, Ok, Err}
use Rattle.vt_base.specs.declared.place.Entry.{Entry}
use Rattle.vt_isect.specs.declared.error.ShardErr.{ShardErr}
use Rattle.vt_lumps.specs.Lumps.{cached_bytes}
use Rattle.vt_shard.specs.Shard.{ShardState}
use Rattle.vt_lookup.specs.Finding.{ReadsFound, parts_of}
use Rattle.std.proofs.lemmas.Result.{err_from_is_err_and}
use Rattle.vt_lookup.proofs.Fetching.{nothing_used, shard_sound, there_taken}
use Rattle.vt_lookup.proofs.Seeks.{err_keeps_from, found_entry, found_key, found_none, reads_entry, reads_fails, seeks_index}
use Rattle.vt_arena.proofs.Commits.{none_is}
use Rattle.vt_lookup.proofs.finding.seek.Goals as goal

pub returns-then-touch_lump-clause-seeks : goal.returns-then-touch_lump-clause-seeks
returns-then-touch_lump-clause-seeks g c =
    inl (there_taken g.S.Scorer.score_of g.D.Disk c.args.key.now c.args.log.now c.args.shard.now c.touch_lump.new.self (sym c.touch_lump.ensures.kept ∙ c.if-touch_lump.true) c.touch_lump.ensures.used).0

pub returns-then-touch_lump-clause-there : goal.returns-then-touch_lump-clause-there
returns-then-touch_lump-clause-there g c = λ _.
    (there_taken g.S.Scorer.score_of g.D.Disk c.args.key.now c.args.log.now c.args.shard.now c.touch_lump.new.self (sym c.touch_lump.ensures.kept ∙ c.if-touch_lump.true) c.touch_lump.ensures.used).1

pub returns-in_err-fetch-in-Ok-Some-clause-right : goal.returns-in_err-fetch-in-Ok-Some-clause-right
returns-in_err-fetch-in-Ok-Some-clause-right g c = λ setup h durable tells sound.
    let score = g.S.Scorer.score_of in
    let key = c.args.key.now in
    let l = c.args.log.now in
    let s : ShardState g.row.D.Denot = c.args.shard.now in
    let mid : ShardState g.row.D.Denot = c.touch_lump.new.self in
    let s2 : ShardState g.row.D.Denot = c.lookup.new.self in
    let none = sym c.touch_lump.ensures.kept ∙ c.if-touch_lump.false in
    let same : mid ≡ s = nothing_used score g.D.Disk key s mid none c.touch_lump.ensures.used in
    let absent = none_is (cached_bytes key s.lumps) none in
    let entry : Entry = c.in-Ok-Some.entry in
    let is : c.lookup.result ≡ Ok (Some entry) = c.in-Ok-Some.is ∙ ap (λ (o : Option Entry). Ok o) c.in-Ok-Some.field-0-is in
    let kept = c.touch_lump.ensures.sound score setup h durable 0 sound.shard in
    let looked = shard_sound score g.D.Disk setup h durable l s s2 (c.lookup.ensures.sound.keeps tells score setup h durable 0 kept) sound in
    let p = err_from_is_err_and c.from_residual.result c.from_residual.ensures.1 in
    rw (p.1, p.2) (c.in_err-fetch-in-Ok-Some.ensures.right setup h durable tells looked (found_entry score setup h key entry c.lookup.result is (c.lookup.ensures.found score setup h durable 0 tells kept)))

pub returns-in_err-fetch-in-Ok-Some-clause-sound : goal.returns-in_err-fetch-in-Ok-Some-clause-sound
returns-in_err-fetch-in-Ok-Some-clause-sound g c = λ setup h durable tells sound.
    let score = g.S.Scorer.score_of in
    let key = c.args.key.now in
    let l = c.args.log.now in
    let s : ShardState g.row.D.Denot = c.args.shard.now in
    let mid : ShardState g.row.D.Denot = c.touch_lump.new.self in
    let s2 : ShardState g.row.D.Denot = c.lookup.new.self in
    let none = sym c.touch_lump.ensures.kept ∙ c.if-touch_lump.false in
    let same : mid ≡ s = nothing_used score g.D.Disk key s mid none c.touch_lump.ensures.used in
    let absent = none_is (cached_bytes key s.lumps) none in
    let entry : Entry = c.in-Ok-Some.entry in
    let is : c.lookup.result ≡ Ok (Some entry) = c.in-Ok-Some.is ∙ ap (λ (o : Option Entry). Ok o) c.in-Ok-Some.field-0-is in
    let kept = c.touch_lump.ensures.sound score setup h durable 0 sound.shard in
    let looked = shard_sound score g.D.Disk setup h durable l s s2 (c.lookup.ensures.sound.keeps tells score setup h durable 0 kept) sound in
    c.fetch.ensures.sound setup h durable tells looked (found_entry score setup h key entry c.lookup.result is (c.lookup.ensures.found score setup h durable 0 tells kept))

pub returns-in_err-fetch-in-Ok-Some-clause-seeks : goal.returns-in_err-fetch-in-Ok-Some-clause-seeks
returns-in_err-fetch-in-Ok-Some-clause-seeks g c =
    let score = g.S.Scorer.score_of in
    let key = c.args.key.now in
    let l = c.args.log.now in
    let s : ShardState g.row.D.Denot = c.args.shard.now in
    let mid : ShardState g.row.D.Denot = c.touch_lump.new.self in
    let s2 : ShardState g.row.D.Denot = c.lookup.new.self in
    let none = sym c.touch_lump.ensures.kept ∙ c.if-touch_lump.false in
    let same : mid ≡ s = nothing_used score g.D.Disk key s mid none c.touch_lump.ensures.used in
    let absent = none_is (cached_bytes key s.lumps) none in
    let entry : Entry = c.in-Ok-Some.entry in
    let is : c.lookup.result ≡ Ok (Some entry) = c.in-Ok-Some.is ∙ ap (λ (o : Option Entry). Ok o) c.in-Ok-Some.field-0-is in
    let p = err_from_is_err_and c.from_residual.result c.from_residual.ensures.1 in
    rw (p.1, p.2) (seeks_index score g.D.Disk key _ l s mid s2 (parts_of c.fetch.new.log c.fetch.new.shard) c.lookup.result absent same c.lookup.ensures.looks_up
    (reads_fails score g.D.Disk entry c.lookup.result is _ (parts_of l s2) (parts_of c.fetch.new.log c.fetch.new.shard) c.in_err-fetch-in-Ok-Some.ensures.fetches))

pub returns-in_ok-fetch-in-Ok-Some-clause-sound : goal.returns-in_ok-fetch-in-Ok-Some-clause-sound
returns-in_ok-fetch-in-Ok-Some-clause-sound g c = λ setup h durable tells sound.
    let score = g.S.Scorer.score_of in
    let key = c.args.key.now in
    let l = c.args.log.now in
    let s : ShardState g.row.D.Denot = c.args.shard.now in
    let mid : ShardState g.row.D.Denot = c.touch_lump.new.self in
    let s2 : ShardState g.row.D.Denot = c.lookup.new.self in
    let none = sym c.touch_lump.ensures.kept ∙ c.if-touch_lump.false in
    let same : mid ≡ s = nothing_used score g.D.Disk key s mid none c.touch_lump.ensures.used in
    let absent = none_is (cached_bytes key s.lumps) none in
    let entry : Entry = c.in-Ok-Some.entry in
    let is : c.lookup.result ≡ Ok (Some entry) = c.in-Ok-Some.is ∙ ap (λ (o : Option Entry). Ok o) c.in-Ok-Some.field-0-is in
    let kept = c.touch_lump.ensures.sound score setup h durable 0 sound.shard in
    let looked = shard_sound score g.D.Disk setup h durable l s s2 (c.lookup.ensures.sound.keeps tells score setup h durable 0 kept) sound in
    c.fetch.ensures.sound setup h durable tells looked (found_entry score setup h key entry c.lookup.result is (c.lookup.ensures.found score setup h durable 0 tells kept))

pub returns-in_ok-fetch-in-Ok-Some-clause-seeks : goal.returns-in_ok-fetch-in-Ok-Some-clause-seeks
returns-in_ok-fetch-in-Ok-Some-clause-seeks g c =
    let score = g.S.Scorer.score_of in
    let key = c.args.key.now in
    let l = c.args.log.now in
    let s : ShardState g.row.D.Denot = c.args.shard.now in
    let mid : ShardState g.row.D.Denot = c.touch_lump.new.self in
    let s2 : ShardState g.row.D.Denot = c.lookup.new.self in
    let none = sym c.touch_lump.ensures.kept ∙ c.if-touch_lump.false in
    let same : mid ≡ s = nothing_used score g.D.Disk key s mid none c.touch_lump.ensures.used in
    let absent = none_is (cached_bytes key s.lumps) none in
    let entry : Entry = c.in-Ok-Some.entry in
    let is : c.lookup.result ≡ Ok (Some entry) = c.in-Ok-Some.is ∙ ap (λ (o : Option Entry). Ok o) c.in-Ok-Some.field-0-is in
    seeks_index score g.D.Disk key (Ok (cached_bytes key c.fetch.new.shard.lumps)) l s mid s2 (parts_of c.fetch.new.log c.fetch.new.shard) c.lookup.result absent same c.lookup.ensures.looks_up
    (reads_entry score g.D.Disk key entry c.lookup.result is (found_key key entry c.lookup.result is c.lookup.ensures.key) (tt {0}) (parts_of l s2) c.fetch.new.log c.fetch.new.shard c.in_ok-fetch-in-Ok-Some.ensures.fetches)

pub returns-in-Ok-None-clause-right : goal.returns-in-Ok-None-clause-right
returns-in-Ok-None-clause-right g c = λ setup h durable tells sound.
    let score = g.S.Scorer.score_of in
    let key = c.args.key.now in
    let l = c.args.log.now in
    let s : ShardState g.row.D.Denot = c.args.shard.now in
    let mid : ShardState g.row.D.Denot = c.touch_lump.new.self in
    let s2 : ShardState g.row.D.Denot = c.lookup.new.self in
    let none = sym c.touch_lump.ensures.kept ∙ c.if-touch_lump.false in
    let same : mid ≡ s = nothing_used score g.D.Disk key s mid none c.touch_lump.ensures.used in
    let absent = none_is (cached_bytes key s.lumps) none in
    let is : c.lookup.result ≡ Ok None = c.in-Ok-None.is ∙ ap (λ (o : Option Entry). Ok o) c.in-Ok-None.field-0-is in
    let kept = c.touch_lump.ensures.sound score setup h durable 0 sound.shard in
    (λ _. found_none score setup h key c.lookup.result is (c.lookup.ensures.found score setup h durable 0 tells kept))

pub returns-in-Ok-None-clause-sound : goal.returns-in-Ok-None-clause-sound
returns-in-Ok-None-clause-sound g c = λ setup h durable tells sound.
    let score = g.S.Scorer.score_of in
    let key = c.args.key.now in
    let l = c.args.log.now in
    let s : ShardState g.row.D.Denot = c.args.shard.now in
    let mid : ShardState g.row.D.Denot = c.touch_lump.new.self in
    let s2 : ShardState g.row.D.Denot = c.lookup.new.self in
    let none = sym c.touch_lump.ensures.kept ∙ c.if-touch_lump.false in
    let same : mid ≡ s = nothing_used score g.D.Disk key s mid none c.touch_lump.ensures.used in
    let absent = none_is (cached_bytes key s.lumps) none in
    let kept = c.touch_lump.ensures.sound score setup h durable 0 sound.shard in
    let looked = shard_sound score g.D.Disk setup h durable l s s2 (c.lookup.ensures.sound.keeps tells score setup h durable 0 kept) sound in
    looked

pub returns-in-Ok-None-clause-seeks : goal.returns-in-Ok-None-clause-seeks
returns-in-Ok-None-clause-seeks g c =
    let score = g.S.Scorer.score_of in
    let key = c.args.key.now in
    let l = c.args.log.now in
    let s : ShardState g.row.D.Denot = c.args.shard.now in
    let mid : ShardState g.row.D.Denot = c.touch_lump.new.self in
    let s2 : ShardState g.row.D.Denot = c.lookup.new.self in
    let none = sym c.touch_lump.ensures.kept ∙ c.if-touch_lump.false in
    let same : mid ≡ s = nothing_used score g.D.Disk key s mid none c.touch_lump.ensures.used in
    let absent = none_is (cached_bytes key s.lumps) none in
    let is : c.lookup.result ≡ Ok None = c.in-Ok-None.is ∙ ap (λ (o : Option Entry). Ok o) c.in-Ok-None.field-0-is in
    seeks_index score g.D.Disk key (Ok None) l s mid s2 (parts_of l s2) c.lookup.result absent same c.lookup.ensures.looks_up
    (subst (λ (x : Result (Option Entry) ShardErr). ReadsFound score g.D.Disk x (Ok None) (parts_of l s2) (parts_of l s2)) (sym is) (refl, refl))

pub returns-in-Err-clause-right : goal.returns-in-Err-clause-right
returns-in-Err-clause-right g c = λ setup h durable tells sound.
    let score = g.S.Scorer.score_of in
    let kept = c.touch_lump.ensures.sound score setup h durable 0 sound.shard in
    err_keeps_from c.lookup.result c.in-Err.bad c.why_of_shard.result c.in-Err.is c.why_of_shard.ensures (c.lookup.ensures.sound.undamaged score setup h durable 0 tells kept)

pub returns-in-Err-clause-sound : goal.returns-in-Err-clause-sound
returns-in-Err-clause-sound g c = λ setup h durable tells sound.
    let score = g.S.Scorer.score_of in
    let key = c.args.key.now in
    let l = c.args.log.now in
    let s : ShardState g.row.D.Denot = c.args.shard.now in
    let mid : ShardState g.row.D.Denot = c.touch_lump.new.self in
    let s2 : ShardState g.row.D.Denot = c.lookup.new.self in
    let none = sym c.touch_lump.ensures.kept ∙ c.if-touch_lump.false in
    let same : mid ≡ s = nothing_used score g.D.Disk key s mid none c.touch_lump.ensures.used in
    let absent = none_is (cached_bytes key s.lumps) none in
    let kept = c.touch_lump.ensures.sound score setup h durable 0 sound.shard in
    let looked = shard_sound score g.D.Disk setup h durable l s s2 (c.lookup.ensures.sound.keeps tells score setup h durable 0 kept) sound in
    looked

pub returns-in-Err-clause-seeks : goal.returns-in-Err-clause-seeks
returns-in-Err-clause-seeks g c =
    let score = g.S.Scorer.score_of in
    let key = c.args.key.now in
    let l = c.args.log.now in
    let s : ShardState g.row.D.Denot = c.args.shard.now in
    let mid : ShardState g.row.D.Denot = c.touch_lump.new.self in
    let s2 : ShardState g.row.D.Denot = c.lookup.new.self in
    let none = sym c.touch_lump.ensures.kept ∙ c.if-touch_lump.false in
    let same : mid ≡ s = nothing_used score g.D.Disk key s mid none c.touch_lump.ensures.used in
    let absent = none_is (cached_bytes key s.lumps) none in
    seeks_index score g.D.Disk key (Err c.why_of_shard.result) l s mid s2 (parts_of l s2) c.lookup.result absent same c.lookup.ensures.looks_up
    (subst (λ (x : Result (Option Entry) ShardErr). ReadsFound score g.D.Disk x (Err c.why_of_shard.result) (parts_of l s2) (parts_of l s2)) (sym c.in-Err.is)
    (ap (λ w. Err w) c.why_of_shard.ensures, refl))

use Rattle.std.proofs.Common.{◌≡◌, ℕ, List, length, refl, sym, ◌∙◌, ap, subst}
use Rattle.std.specs.Prelude.{IfOk, Result}
use Rattle.vt_base.specs.declared.why.Why.{Why}
use Rattle.vt_model.specs.Places.{bucket_count, bucket_of, crowd}
use Rattle.vt_shard.specs.Looking.{CountsCrowd}
use Rattle.vt_shard.specs.Shard.{ShardState, HasRead}
use Rattle.vt_lookup.specs.declared.writing.Verdict.{Verdict}
use Rattle.vt_lookup.specs.Finding.{JudgesWrite, LooksFor, parts_of, room_verdict}
use Rattle.vt_lookup.proofs.Fetching.{shard_sound}
use Rattle.vt_lookup.proofs.Seeks.{looks_reads}
use Rattle.vt_lookup.proofs.TestWork.{judges_room, opened_room, room_looks, room_new, same_reads}
use Rattle.vt_lookup.proofs.writing.test_room.Goals as goal

pub returns-clause-right : goal.returns-clause-right
returns-clause-right g c = λ setup h durable tells sound block scored free none.
    let score = g.S.Scorer.score_of in
    let key = c.args.key.now in
    let l = c.args.log.now in
    let s : ShardState g.row.D.Denot = c.args.shard.now in
    let s2 : ShardState g.row.D.Denot = c.crowd-count.new.self in
    let n = c.bucket_of-bucket.result in
    let at : n ≡ bucket_of (bucket_count setup) (score c.args.block.now) =
    c.bucket_of-bucket.ensures ∙ ap (λ (m : ℕ). bucket_of m key.score.0) sound.shard.agrees.total ∙ ap (λ (x : List ℕ). bucket_of (bucket_count setup) x) scored in
    subst (λ (v : Result Verdict Why). JudgesWrite score setup h key c.args.block.now v) (sym c.judge_room.ensures)
    (judges_room score setup h key c.args.block.now block free none c.crowd-count.result c.room-fits.result
    (subst (λ (m : ℕ). IfOk c.crowd-count.result (λ count. count ≡ crowd score (bucket_count setup) h m)) at (c.crowd-count.ensures.count score setup h durable tells sound.shard))
    (c.crowd-count.ensures.sound.undamaged score setup h durable 0 tells sound.shard)
    (opened_room setup l h (length c.args.block.now) c.room-fits.result sound.opened (c.room-fits.ensures.next h sound.log)))

pub returns-clause-sound : goal.returns-clause-sound
returns-clause-sound g c = λ setup h durable tells sound.
    let score = g.S.Scorer.score_of in
    let key = c.args.key.now in
    let l = c.args.log.now in
    let s : ShardState g.row.D.Denot = c.args.shard.now in
    let s2 : ShardState g.row.D.Denot = c.crowd-count.new.self in
    let n = c.bucket_of-bucket.result in
    shard_sound score g.D.Disk setup h durable l s s2 (c.crowd-count.ensures.sound.keeps tells score setup h durable 0 sound.shard) sound

pub returns-clause-room : goal.returns-clause-room
returns-clause-room g c =
    let score = g.S.Scorer.score_of in
    let key = c.args.key.now in
    let l = c.args.log.now in
    let s : ShardState g.row.D.Denot = c.args.shard.now in
    let s2 : ShardState g.row.D.Denot = c.crowd-count.new.self in
    let n = c.bucket_of-bucket.result in
    record {
      crowd = c.crowd-count.result;
      counts = subst (λ (m : ℕ). CountsCrowd g.D.Disk m c.crowd-count.result s s2) c.bucket_of-bucket.ensures c.crowd-count.ensures.counts;
      log = refl;
      verdict_is = c.judge_room.ensures ∙ ap (room_verdict c.crowd-count.result) c.room-fits.ensures.room;
    }

pub returns-clause-looks : goal.returns-clause-looks
returns-clause-looks g c =
    let score = g.S.Scorer.score_of in
    let key = c.args.key.now in
    let l = c.args.log.now in
    let s : ShardState g.row.D.Denot = c.args.shard.now in
    let s2 : ShardState g.row.D.Denot = c.crowd-count.new.self in
    let n = c.bucket_of-bucket.result in
    subst (λ (v : Result Verdict Why). LooksFor score g.D.Disk 0 2 v (parts_of l s) (parts_of l s2)) (sym c.judge_room.ensures)
    (room_looks score g.D.Disk 2 n c.crowd-count.result c.room-fits.result l s s2 (looks_reads score g.D.Disk n c.crowd-count.result s s2 c.crowd-count.ensures.counts.looks) c.crowd-count.ensures.counts.looks)

pub returns-clause-read_last : goal.returns-clause-read_last
returns-clause-read_last g c = λ has.
    let score = g.S.Scorer.score_of in
    let key = c.args.key.now in
    let l = c.args.log.now in
    let s : ShardState g.row.D.Denot = c.args.shard.now in
    let s2 : ShardState g.row.D.Denot = c.crowd-count.new.self in
    let n = c.bucket_of-bucket.result in
    let same : s2 ≡ s = (c.crowd-count.ensures.counts.looks.known (subst (λ (m : ℕ). HasRead s m) (sym c.bucket_of-bucket.ensures) has)).1 in
    subst (λ (v : Result Verdict Why). LooksFor score g.D.Disk 0 0 v (parts_of l s) (parts_of l s2)) (sym c.judge_room.ensures)
    (room_looks score g.D.Disk 0 n c.crowd-count.result c.room-fits.result l s s2 (same_reads score g.D.Disk s s2 same) c.crowd-count.ensures.counts.looks)

pub returns-clause-fits : goal.returns-clause-fits
returns-clause-fits g c = λ new. sym c.room-fits.ensures.room ∙ room_new c.crowd-count.result c.room-fits.result (sym c.judge_room.ensures ∙ new)

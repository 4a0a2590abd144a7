use Rattle.std.proofs.Common.{◌≡◌, Option, Some, None, refl, sym, ◌∙◌, ap, subst}
use Rattle.std.specs.Prelude.{Result, Ok, Err}
use Rattle.vt_base.specs.declared.place.Entry.{Entry}
use Rattle.vt_base.specs.declared.why.Why.{Why}
use Rattle.vt_isect.specs.declared.error.ShardErr.{ShardErr}
use Rattle.vt_lumps.specs.Lumps.{cached_bytes}
use Rattle.vt_shard.specs.Shard.{ShardState}
use Rattle.vt_lookup.specs.Finding.{ReadsFound, parts_of}
use Rattle.std.proofs.lemmas.Result.{err_from_is_err_and}
use Rattle.vt_lookup.proofs.Fetching.{shard_sound}
use Rattle.vt_lookup.proofs.Seeks.{differ_is, err_keeps_from, found_no_other, found_other, reads_entry, reads_fails}
use Rattle.vt_lookup.proofs.TestWork.{collides_is, none_is}
use Rattle.vt_lookup.proofs.finding.other_collides.Goals as goal

pub returns-in_err-fetch-in-Ok-Some-clause-right : goal.returns-in_err-fetch-in-Ok-Some-clause-right
returns-in_err-fetch-in-Ok-Some-clause-right g c = λ setup h durable tells sound scored nonzero.
    let score = g.S.Scorer.score_of in
    let l = c.args.log.now in
    let s : ShardState g.row.D.Denot = c.args.shard.now in
    let s2 : ShardState g.row.D.Denot = c.others.new.self in
    let entry : Entry = c.in-Ok-Some.entry in
    let is : c.others.result ≡ Ok (Some entry) = c.in-Ok-Some.is ∙ ap (λ (o : Option Entry). Ok o) c.in-Ok-Some.field-0-is in
    let looked = shard_sound score g.D.Disk setup h durable l s s2 (c.others.ensures.sound.keeps tells score setup h durable 0 sound.shard) sound in
    let of = found_other score setup h c.args.score.now.0 entry c.others.result is (c.others.ensures.found score setup h durable 0 tells sound.shard) in
    let p = err_from_is_err_and c.from_residual.result c.from_residual.ensures.1 in
    rw (p.1, p.2) (c.in_err-fetch-in-Ok-Some.ensures.right setup h durable tells looked of.1)

pub returns-in_err-fetch-in-Ok-Some-clause-sound : goal.returns-in_err-fetch-in-Ok-Some-clause-sound
returns-in_err-fetch-in-Ok-Some-clause-sound g c = λ setup h durable tells sound.
    let score = g.S.Scorer.score_of in
    let l = c.args.log.now in
    let s : ShardState g.row.D.Denot = c.args.shard.now in
    let s2 : ShardState g.row.D.Denot = c.others.new.self in
    let entry : Entry = c.in-Ok-Some.entry in
    let is : c.others.result ≡ Ok (Some entry) = c.in-Ok-Some.is ∙ ap (λ (o : Option Entry). Ok o) c.in-Ok-Some.field-0-is in
    let looked = shard_sound score g.D.Disk setup h durable l s s2 (c.others.ensures.sound.keeps tells score setup h durable 0 sound.shard) sound in
    let of = found_other score setup h c.args.score.now.0 entry c.others.result is (c.others.ensures.found score setup h durable 0 tells sound.shard) in
    c.fetch.ensures.sound setup h durable tells looked of.1

pub returns-in_err-fetch-in-Ok-Some-clause-compares : goal.returns-in_err-fetch-in-Ok-Some-clause-compares
returns-in_err-fetch-in-Ok-Some-clause-compares g c =
    let score = g.S.Scorer.score_of in
    let l = c.args.log.now in
    let s : ShardState g.row.D.Denot = c.args.shard.now in
    let s2 : ShardState g.row.D.Denot = c.others.new.self in
    let entry : Entry = c.in-Ok-Some.entry in
    let is : c.others.result ≡ Ok (Some entry) = c.in-Ok-Some.is ∙ ap (λ (o : Option Entry). Ok o) c.in-Ok-Some.field-0-is in
    let p = err_from_is_err_and c.from_residual.result c.from_residual.ensures.1 in
    rw (p.1, p.2) (record {
      other = Err _;
      seeks = (c.others.result, s2, c.others.ensures.finds, reads_fails score g.D.Disk entry c.others.result is _ (parts_of l s2) (parts_of c.fetch.new.log c.fetch.new.shard) c.in_err-fetch-in-Ok-Some.ensures.fetches);
      result_is = refl;
    })

pub returns-in_ok-fetch-in-Ok-Some-clause-right : goal.returns-in_ok-fetch-in-Ok-Some-clause-right
returns-in_ok-fetch-in-Ok-Some-clause-right g c = λ setup h durable tells sound scored nonzero.
    let score = g.S.Scorer.score_of in
    let l = c.args.log.now in
    let s : ShardState g.row.D.Denot = c.args.shard.now in
    let s2 : ShardState g.row.D.Denot = c.others.new.self in
    let entry : Entry = c.in-Ok-Some.entry in
    let is : c.others.result ≡ Ok (Some entry) = c.in-Ok-Some.is ∙ ap (λ (o : Option Entry). Ok o) c.in-Ok-Some.field-0-is in
    let looked = shard_sound score g.D.Disk setup h durable l s s2 (c.others.ensures.sound.keeps tells score setup h durable 0 sound.shard) sound in
    let of = found_other score setup h c.args.score.now.0 entry c.others.result is (c.others.ensures.found score setup h durable 0 tells sound.shard) in
    collides_is score setup h sound.legal c.args.score.now.0 c.args.block.now scored nonzero c.collides_by_number.ensures.same c.collides_by_number.ensures.other entry.key c.is_lump-same.result of.0
    (c.is_lump-same.ensures.right score setup h durable (c.fetch.ensures.sound setup h durable tells looked of.1).shard)

pub returns-in_ok-fetch-in-Ok-Some-clause-sound : goal.returns-in_ok-fetch-in-Ok-Some-clause-sound
returns-in_ok-fetch-in-Ok-Some-clause-sound g c = λ setup h durable tells sound.
    let score = g.S.Scorer.score_of in
    let l = c.args.log.now in
    let s : ShardState g.row.D.Denot = c.args.shard.now in
    let s2 : ShardState g.row.D.Denot = c.others.new.self in
    let entry : Entry = c.in-Ok-Some.entry in
    let is : c.others.result ≡ Ok (Some entry) = c.in-Ok-Some.is ∙ ap (λ (o : Option Entry). Ok o) c.in-Ok-Some.field-0-is in
    let looked = shard_sound score g.D.Disk setup h durable l s s2 (c.others.ensures.sound.keeps tells score setup h durable 0 sound.shard) sound in
    let of = found_other score setup h c.args.score.now.0 entry c.others.result is (c.others.ensures.found score setup h durable 0 tells sound.shard) in
    c.fetch.ensures.sound setup h durable tells looked of.1

pub returns-in_ok-fetch-in-Ok-Some-clause-compares : goal.returns-in_ok-fetch-in-Ok-Some-clause-compares
returns-in_ok-fetch-in-Ok-Some-clause-compares g c =
    let score = g.S.Scorer.score_of in
    let l = c.args.log.now in
    let s : ShardState g.row.D.Denot = c.args.shard.now in
    let s2 : ShardState g.row.D.Denot = c.others.new.self in
    let entry : Entry = c.in-Ok-Some.entry in
    let is : c.others.result ≡ Ok (Some entry) = c.in-Ok-Some.is ∙ ap (λ (o : Option Entry). Ok o) c.in-Ok-Some.field-0-is in
    record {
      other = Ok (cached_bytes entry.key c.fetch.new.shard.lumps);
      seeks = (c.others.result, s2, c.others.ensures.finds, reads_entry score g.D.Disk entry.key entry c.others.result is refl (tt {0}) (parts_of l s2) c.fetch.new.log c.fetch.new.shard c.in_ok-fetch-in-Ok-Some.ensures.fetches);
      result_is = differ_is (cached_bytes entry.key c.fetch.new.shard.lumps) c.args.block.now c.is_lump-same.result c.is_lump-same.ensures.same;
    }

pub returns-in-Ok-None-clause-right : goal.returns-in-Ok-None-clause-right
returns-in-Ok-None-clause-right g c = λ setup h durable tells sound scored nonzero.
    let score = g.S.Scorer.score_of in
    let l = c.args.log.now in
    let s : ShardState g.row.D.Denot = c.args.shard.now in
    let s2 : ShardState g.row.D.Denot = c.others.new.self in
    let is : c.others.result ≡ Ok None = c.in-Ok-None.is ∙ ap (λ (o : Option Entry). Ok o) c.in-Ok-None.field-0-is in
    none_is score setup h sound.legal c.args.score.now.0 c.args.block.now scored nonzero c.collides_by_number.ensures.none
    (found_no_other score setup h c.args.score.now.0 c.others.result is (c.others.ensures.found score setup h durable 0 tells sound.shard))

pub returns-in-Ok-None-clause-sound : goal.returns-in-Ok-None-clause-sound
returns-in-Ok-None-clause-sound g c = λ setup h durable tells sound.
    let score = g.S.Scorer.score_of in
    let l = c.args.log.now in
    let s : ShardState g.row.D.Denot = c.args.shard.now in
    let s2 : ShardState g.row.D.Denot = c.others.new.self in
    let looked = shard_sound score g.D.Disk setup h durable l s s2 (c.others.ensures.sound.keeps tells score setup h durable 0 sound.shard) sound in
    looked

pub returns-in-Ok-None-clause-compares : goal.returns-in-Ok-None-clause-compares
returns-in-Ok-None-clause-compares g c =
    let score = g.S.Scorer.score_of in
    let l = c.args.log.now in
    let s : ShardState g.row.D.Denot = c.args.shard.now in
    let s2 : ShardState g.row.D.Denot = c.others.new.self in
    let is : c.others.result ≡ Ok None = c.in-Ok-None.is ∙ ap (λ (o : Option Entry). Ok o) c.in-Ok-None.field-0-is in
    record {
      other = Ok None;
      seeks = (
        c.others.result,
        s2,
        c.others.ensures.finds,
        subst (λ (x : Result (Option Entry) ShardErr). ReadsFound score g.D.Disk x (Ok None) (parts_of l s2) (parts_of l s2)) (sym is) (refl, refl),
      );
      result_is = refl;
    }

pub returns-in-Err-clause-right : goal.returns-in-Err-clause-right
returns-in-Err-clause-right g c = λ setup h durable tells sound scored nonzero.
    err_keeps_from c.others.result c.in-Err.bad c.why_of_shard.result c.in-Err.is c.why_of_shard.ensures (c.others.ensures.sound.undamaged g.S.Scorer.score_of setup h durable 0 tells sound.shard)

pub returns-in-Err-clause-sound : goal.returns-in-Err-clause-sound
returns-in-Err-clause-sound g c = λ setup h durable tells sound.
    let score = g.S.Scorer.score_of in
    let l = c.args.log.now in
    let s : ShardState g.row.D.Denot = c.args.shard.now in
    let s2 : ShardState g.row.D.Denot = c.others.new.self in
    let looked = shard_sound score g.D.Disk setup h durable l s s2 (c.others.ensures.sound.keeps tells score setup h durable 0 sound.shard) sound in
    looked

pub returns-in-Err-clause-compares : goal.returns-in-Err-clause-compares
returns-in-Err-clause-compares g c =
    let score = g.S.Scorer.score_of in
    let l = c.args.log.now in
    let s : ShardState g.row.D.Denot = c.args.shard.now in
    let s2 : ShardState g.row.D.Denot = c.others.new.self in
    record {
      other = Err c.why_of_shard.result;
      seeks = (
        c.others.result,
        s2,
        c.others.ensures.finds,
        subst (λ (x : Result (Option Entry) ShardErr). ReadsFound score g.D.Disk x (Err c.why_of_shard.result) (parts_of l s2) (parts_of l s2)) (sym c.in-Err.is)
            (ap (λ (w : Why). Err w) c.why_of_shard.ensures, refl),
      );
      result_is = refl;
    }

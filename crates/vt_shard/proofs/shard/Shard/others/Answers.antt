use Rattle.std.proofs.Common.{◌≡◌, inl, ◌∙◌, Option, Some, sym, ap, subst, refl, List}
use Rattle.std.proofs.lemmas.Result.{err_from_is_err_and}
use Rattle.vt_base.specs.declared.place.Entry.{Entry}
use Rattle.vt_icache.specs.Index.{IndexState}
use Rattle.vt_shard.specs.Search.{IsFoundIn, IsOneOf, KeepsScore}
use Rattle.vt_shard.specs.Shard.{ShardState, ReadBucket, bucket_at}
use Rattle.vt_shard.specs.Sound.{IsSoundFrom}
use Rattle.vt_shard.proofs.Finds.{entries_of_read, finds_score, kept_found, looks_err, looks_ok, no_reads, read_of, within_still}
use Rattle.vt_shard.proofs.shard.Shard.others.Goals as goal

pub returns-in-Some-clause-found : goal.returns-in-Some-clause-found
returns-in-Some-clause-found g c = λ score setup h durable from told sound.
    let was = subst (λ t. IsSoundFrom score setup g.D.Disk t h durable from) (sym c.self.view_is) sound in
    (c.in-Some.ensures.found.1, kept_found score setup g.D.Disk _ h durable from was c.in-Some.entry c.in-Some.ensures.found.0)

pub returns-in-Some-clause-finds : goal.returns-in-Some-clause-finds
returns-in-Some-clause-finds g c =
    rw (← c.self.view_is)
    (record {
      in_memory = λ keeps. (refl, (c.in-Some.ensures.found.0, c.in-Some.ensures.found.1));
      in_bucket = λ none. absurd (none (c.in-Some.entry, c.in-Some.ensures.found.0, c.in-Some.ensures.found.1));
      looks = record {
        same = refl;
        reads = no_reads g.D.Disk c.self.inside.section.disk;
        known = λ has. (refl, refl);
        bucket = inl refl;
        kept = tt;
        cause = tt;
        names = tt;
        faults = refl;
      };
    })

pub returns-in_err-read_uncounted-clause-sound : goal.returns-in_err-read_uncounted-clause-sound
returns-in_err-read_uncounted-clause-sound g c =
    let p = err_from_is_err_and c.from_residual.result c.from_residual.ensures.1 in
    rw (p.1, p.2)
    (record {
      keeps = λ told score setup h durable from sound. c.read_uncounted.ensures.sound.keeps told score setup h durable from sound;
      undamaged = λ score setup h durable from told sound. c.in_err-read_uncounted.ensures.sound.undamaged score setup h durable from told sound;
    })

pub returns-in_err-read_uncounted-clause-finds : goal.returns-in_err-read_uncounted-clause-finds
returns-in_err-read_uncounted-clause-finds g c =
    let p = err_from_is_err_and c.from_residual.result c.from_residual.ensures.1 in
    let looks = rw c.bucket_of.ensures at c.in_err-read_uncounted.ensures.looks in
    rw (p.1, p.2)
    (record {
      in_memory = λ keeps.
          let kept = subst (λ (t : ShardState g.row.D.Denot). KeepsScore t.index c.args.score.now.0) (sym c.self.view_is) keeps in
          absurd (c.in_default.ensures.none kept.0 kept.1 kept.2);
      in_bucket = λ none. tt;
      looks = looks_err g.D.Disk _ _ _ _ looks;
    })

bucket_read : (g : _) (c : goal.After-find_score_in g)
    → (bucket : ReadBucket) × (c.read_uncounted.new.self.bucket ≡ Some bucket) × (bucket.number ≡ bucket_at c.args.self.now c.args.score.now.0)
    × IsOneOf bucket.entries (λ entry. entry.key.score.0 ≡ c.args.score.now.0) c.find_score_in.result
bucket_read g c =
    let at = read_of c.read_uncounted.new.self c.bucket_of.result c.in_ok-read_uncounted.ensures.has in (
      at.0,
      at.1,
      at.2 ∙ c.bucket_of.ensures,
      subst (λ (l : List Entry). IsOneOf l (λ entry. entry.key.score.0 ≡ c.args.score.now.0) c.find_score_in.result)
          (entries_of_read c.self-2.inside.bucket at.0 (ap (λ (t : ShardState g.row.D.Denot). t.bucket) c.self-2.view_is ∙ at.1)) c.find_score_in.ensures,
    )

none_kept : (g : _) (c : goal.After-find_score_in g) → ¬ KeepsScore c.args.self.now.index c.args.score.now.0
none_kept g c keeps =
    let kept = subst (λ (t : ShardState g.row.D.Denot). KeepsScore t.index c.args.score.now.0) (sym c.self.view_is) keeps in
    c.in_default.ensures.none kept.0 kept.1 kept.2

pub returns-clause-found : goal.returns-clause-found
returns-clause-found g c = λ score setup h durable from told sound.
    let now = c.read_uncounted.ensures.sound.keeps told score setup h durable from sound in
    let at = bucket_read g c in
    let same = c.read_uncounted.ensures.looks.same in
    let is = within_still c.args.self.now c.read_uncounted.new.self c.args.score.now.0 same c.requires.in_range in
    let index : c.read_uncounted.new.self.index ≡ c.args.self.now.index = ap (λ (t : ShardState g.row.D.Denot). t.index) same in
    finds_score score setup g.D.Disk c.read_uncounted.new.self h durable from now c.args.score.now.0 at.0 c.find_score_in.result is.0
    (λ keeps. none_kept g c (subst (λ (x : IndexState). KeepsScore x c.args.score.now.0) index keeps)) at.1 (at.2 ∙ sym is.1) at.3

pub returns-clause-finds : goal.returns-clause-finds
returns-clause-finds g c =
    let at = bucket_read g c in
    let looks = rw c.bucket_of.ensures at c.in_ok-read_uncounted.ensures.looks in
    record {
      in_memory = λ keeps. absurd (none_kept g c keeps);
      in_bucket = λ none.
          subst (λ (o : Option ReadBucket).
          IsFoundIn o (bucket_at c.args.self.now c.args.score.now.0) (λ entry. entry.key.score.0 ≡ c.args.score.now.0) c.find_score_in.result)
          (sym at.1) (at.2, at.3);
      looks = looks_ok g.D.Disk _ _ _ _ _ looks;
    }

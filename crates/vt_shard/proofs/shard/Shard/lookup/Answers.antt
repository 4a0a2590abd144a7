use Rattle.std.proofs.Common.{rules, ◌≡◌, ◌+◌, ◌∙◌, Option, Some, None, sym, ap, subst, refl, List}
use Rattle.std.specs.Prelude.{IsSome}
use Rattle.std.proofs.lemmas.Bool.{false≢true}
use Rattle.std.proofs.lemmas.Result.{err_from_is_err_and}
use Rattle.vt_base.specs.declared.place.Entry.{Entry}
use Rattle.vt_icache.specs.Index.{IndexState, cached_entry, dirty_info, after_look_up}
use Rattle.vt_icache.proofs.Found.{none_dirty}
use Rattle.vt_shard.specs.Search.{IsFoundIn, IsOneOf}
use Rattle.vt_shard.specs.Shard.{ShardState, ReadBucket, HasScore, bucket_at}
use Rattle.vt_shard.specs.Sound.{IsSoundFrom}
use Rattle.vt_shard.specs.View.{state_of}
use Rattle.vt_shard.proofs.Finds.{in_memory, entries_of_read, found_has, finds, looked_from, looks_ok, read_of, recalls, within_still}
use Rattle.vt_shard.proofs.IsSoundFrom.{no_more, with_clean}
use Rattle.vt_shard.proofs.IsWell.{well_clean}
use Rattle.vt_shard.proofs.shard.Shard.lookup.Goals as goal

pub invariant_of-self : goal.invariant_of-self
invariant_of-self g c = rw c.find.ensures.used (well_clean _ _ _ c.self.invariant _)

pub returns-in-Some-clause-found : goal.returns-in-Some-clause-found
returns-in-Some-clause-found g c = λ score setup h durable from told sound.
    let was = subst (λ t. IsSoundFrom score setup g.D.Disk t h durable from) (sym c.self.view_is) sound in
    let kept = in_memory score setup _ _ h durable from was c.args.key.now c.in-Some.entry (sym c.in-Some.ensures.found) in
    (kept.key_is, kept.of)

pub returns-in-Some-clause-sound : goal.returns-in-Some-clause-sound
returns-in-Some-clause-sound g c = record {
  keeps = λ told score setup h durable from sound.
      let was = subst (λ t. IsSoundFrom score setup g.D.Disk t h durable from) (sym c.self.view_is) sound in
      rw c.in-Some.ensures.used (with_clean score setup _ _ h durable from was _ (λ entry it. looked_from c.args.key.now c.self.inside.index entry it));
  undamaged = λ score setup h durable from told sound. tt;
}

pub returns-in-Some-clause-recalls : goal.returns-in-Some-clause-recalls
returns-in-Some-clause-recalls g c = λ score setup h durable i told sound has.
    let was = subst (λ t. IsSoundFrom score setup g.D.Disk t h durable (i + 1)) (sym c.self.view_is) sound in
    let kept = in_memory score setup _ _ h durable (i + 1) was c.args.key.now c.in-Some.entry (sym c.in-Some.ensures.found) in
    rw c.in-Some.ensures.used
    (with_clean score setup _ _ h durable i
    (no_more score setup _ _ h durable (i + 1) was i refl (found_has score setup _ _ h durable (i + 1) was i c.args.key.now c.in-Some.entry has kept))
    _ (λ entry it. looked_from c.args.key.now c.self.inside.index entry it))

pub returns-in_err-read-clause-sound : goal.returns-in_err-read-clause-sound
returns-in_err-read-clause-sound g c =
    let p = err_from_is_err_and c.from_residual.result c.from_residual.ensures.1 in
    rw (p.1, p.2)
    (record {
      keeps = λ told score setup h durable from sound.
          let was = subst (λ t. IsSoundFrom score setup g.D.Disk t h durable from) (sym c.self.view_is) sound in
          c.read.ensures.sound.keeps told score setup h durable from
          (rw c.find.ensures.used (with_clean score setup _ _ h durable from was _ (λ entry it. looked_from c.args.key.now c.self.inside.index entry it)));
      undamaged = λ score setup h durable from told sound.
          let was = subst (λ t. IsSoundFrom score setup g.D.Disk t h durable from) (sym c.self.view_is) sound in
          c.in_err-read.ensures.sound.undamaged score setup h durable from told
          (rw c.find.ensures.used (with_clean score setup _ _ h durable from was _ (λ entry it. looked_from c.args.key.now c.self.inside.index entry it)));
    })

not_kept : (g : _) (c : goal.After-find_in g) → c.find.result ≡ None
not_kept g c = search rules

none_kept : (g : _) (c : goal.After-find_in g) → cached_entry c.args.key.now c.self.inside.index ≡ None
none_kept g c = sym c.find.ensures.found ∙ not_kept g c

no_dirty : (g : _) (c : goal.After-find_in g) → dirty_info c.args.key.now c.read.new.self.index ≡ None
no_dirty g c =
    let index : c.read.new.self.index ≡ after_look_up c.args.key.now c.self.inside.index =
    ap (λ (t : ShardState g.row.D.Denot). t.index) c.read.ensures.looks.same ∙ c.find.ensures.used in
    ap (λ (x : IndexState). dirty_info c.args.key.now x) index ∙ none_dirty c.args.key.now c.self.inside.index (none_kept g c)

bucket_read : (g : _) (c : goal.After-find_in g)
    → (bucket : ReadBucket) × (c.read.new.self.bucket ≡ Some bucket) × (bucket.number ≡ bucket_at (state_of c.self.inside) c.args.key.now.score.0)
    × IsOneOf bucket.entries (λ entry. entry.key ≡ c.args.key.now) c.find_in.result
bucket_read g c =
    let at = read_of c.read.new.self c.bucket_of-number.result c.in_ok-read.ensures.has in (
      at.0,
      at.1,
      at.2 ∙ c.bucket_of-number.ensures,
      subst (λ (l : List Entry). IsOneOf l (λ entry. entry.key ≡ c.args.key.now) c.find_in.result)
          (entries_of_read c.self-2.inside.bucket at.0 (ap (λ (t : ShardState g.row.D.Denot). t.bucket) c.self-2.view_is ∙ at.1)) c.find_in.ensures,
    )

still : (g : _) (c : goal.After-find_in g)
    → (HasScore c.read.new.self c.args.key.now.score.0)
    × (bucket_at c.read.new.self c.args.key.now.score.0 ≡ bucket_at (state_of c.self.inside) c.args.key.now.score.0)
still g c = within_still (record (state_of c.self.inside) { index = c.find.new.self }) c.read.new.self c.args.key.now.score.0 c.read.ensures.looks.same
    (subst (λ (t : ShardState g.row.D.Denot). HasScore t c.args.key.now.score.0) (sym c.self.view_is) c.requires.in_range)

pub returns-clause-found : goal.returns-clause-found
returns-clause-found g c = λ score setup h durable from told sound.
    let was = subst (λ t. IsSoundFrom score setup g.D.Disk t h durable from) (sym c.self.view_is) sound in
    let now = c.read.ensures.sound.keeps told score setup h durable from
    (rw c.find.ensures.used (with_clean score setup _ _ h durable from was _ (λ entry it. looked_from c.args.key.now c.self.inside.index entry it))) in
    let at = bucket_read g c in
    let is = still g c in
    finds score setup g.D.Disk c.read.new.self h durable from now c.args.key.now at.0 c.find_in.result is.0 (no_dirty g c) at.1 (at.2 ∙ sym is.1) at.3

pub returns-clause-sound : goal.returns-clause-sound
returns-clause-sound g c = record {
  keeps = λ told score setup h durable from sound.
      let was = subst (λ t. IsSoundFrom score setup g.D.Disk t h durable from) (sym c.self.view_is) sound in
      c.read.ensures.sound.keeps told score setup h durable from
      (rw c.find.ensures.used (with_clean score setup _ _ h durable from was _ (λ entry it. looked_from c.args.key.now c.self.inside.index entry it)));
  undamaged = λ score setup h durable from told sound. tt;
}

pub returns-clause-recalls : goal.returns-clause-recalls
returns-clause-recalls g c = λ score setup h durable i told sound has.
    let was = subst (λ t. IsSoundFrom score setup g.D.Disk t h durable (i + 1)) (sym c.self.view_is) sound in
    let now = c.read.ensures.sound.keeps told score setup h durable (i + 1)
    (rw c.find.ensures.used (with_clean score setup _ _ h durable (i + 1) was _ (λ entry it. looked_from c.args.key.now c.self.inside.index entry it))) in
    let at = bucket_read g c in
    let is = still g c in
    recalls score setup g.D.Disk c.read.new.self h durable (i + 1) now i c.args.key.now at.0 c.find_in.result refl has is.0 at.1 (at.2 ∙ sym is.1) at.3

pub returns-clause-looks_up : goal.returns-clause-looks_up
returns-clause-looks_up g c =
    let at = bucket_read g c in
    let looks = rw c.bucket_of-number.ensures at c.in_ok-read.ensures.looks in
    rw (← c.self.view_is)
    (record {
      in_memory = λ some. absurd (false≢true (subst (λ (o : Option Entry). IsSome o) (none_kept g c) some));
      in_bucket = λ none.
          subst (λ (o : Option ReadBucket).
          IsFoundIn o (bucket_at (state_of c.self.inside) c.args.key.now.score.0) (λ entry. entry.key ≡ c.args.key.now) c.find_in.result)
          (sym at.1) (at.2, at.3);
      looks = rw (← c.find.ensures.used) (looks_ok g.D.Disk _ _ _ _ _ looks);
    })

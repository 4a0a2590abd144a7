-- An entry that is put back into its shard, and the steps by which a block is taken back.
use Rattle.std.proofs.Common.{◌≡◌, ◌≢◌, ◌⊎◌, ⊎_elim, inl, inr, ℕ, ◌+◌, ◌<◌, ◌≤◌, List, [], ◌∷◌, ◌++◌, length, get_or, true, false, refl, sym, ◌∙◌, ap, subst, arith, zero, suc}
use Rattle.std.specs.Prelude.{slice_index_or, IsTrue, IfOk, IfErr, MatchResult, ⊤, Result, Ok, Err}
use Rattle.std.specs.List.{Contains}
use Rattle.std.proofs.lemmas.List.Elements.{Contains-push_cases}
use Rattle.std.proofs.lemmas.List.Quantifiers.{all_pairs_push}
use Rattle.vt_base.specs.declared.mount.MountBad.{MountBad}
use Rattle.vt_base.specs.declared.mount.MountBad.TheVariants.{Disagree, Fault as MountFault}
use Rattle.vt_base.specs.declared.mount.MountField.TheVariants.{Crowd}
use Rattle.vt_base.specs.declared.place.Entry.{Entry}
use Rattle.vt_base.specs.declared.place.Info.{Info}
use Rattle.vt_bloom.specs.Bits.{Filter, HasBitsOf}
use Rattle.vt_bucket.specs.Laws.{IsUnambiguous}
use Rattle.vt_disk.specs.Members.{DiskOf}
use Rattle.vt_icache.specs.Index.{entry_of}
use Rattle.vt_isect.specs.Agreement.{IsEntryOf}
use Rattle.vt_base.specs.Faults.{CountsFault}
use Rattle.vt_isect.specs.Faults.{is_section_fault}
use Rattle.vt_isect.specs.Layout.{InRange}
use Rattle.vt_isect.specs.declared.error.ShardErr.{ShardErr}
use Rattle.vt_isect.specs.declared.error.ShardErr.TheVariants.{Fault}
use Rattle.vt_model.specs.History.{History, HasScoreAt}
use Rattle.vt_model.specs.Places.{Setup, bucket_count, crowd}
use Rattle.vt_model.specs.declared.TheConstants.{BUCKET_ROOM}
use Rattle.vt_shard.specs.Looking.{CountsCrowd, Looks}
use Rattle.vt_shard.specs.Search.{HasKeyOf}
use Rattle.vt_shard.specs.Shard.{ShardState, HasScore, bucket_at}
use Rattle.vt_shard.specs.Sound.{IsSoundShard, IsSoundFrom, IsSoundWithout, LooksSoundly}
use Rattle.vt_shard.specs.declared.TheConstants.{ROOM}
use Rattle.vt_recover.specs.Recalling.{FitsBuckets, IsAtRestUnstopped, IsReadBack, KeepsSection}
use Rattle.vt_mount_errors.specs.MountErrors.{of_shard}
use Rattle.vt_recover.specs.TakingBack.{CountsShard, FaultOrDamage, HasEntries, HasNoRoomFor, IsCrowdedWith, IsOwnCrowd, IsSoundAt, IsUnwrittenShard, LacksKey, LooksForEntry, PutsBack, TakesBack, WritesAllBack}
use Rattle.vt_recover.proofs.TakingBack.{bucket_cases, counts_looked, entries_stay, keeps_none, keeps_then, lacks_stays, look_cause, look_tells, looks_dirty, looks_keep, looks_read_back, unwritten_after}

-- a shard with one more dirty entry
abbrev pub with_dirty : {D : Type 0} → Info → ShardState D → ShardState D
with_dirty info s = record s { index = record s.index { dirty = s.index.dirty ++ info ∷ [] } }

-- at a place of a list any default serves
pub any_default : {X : Type 0} (xs : List X) (k : ℕ) (a d : X) → k < length xs → slice_index_or xs k a ≡ slice_index_or xs k d
any_default [] k a d below = absurd (omega (arith, below))
any_default (x ∷ xs) zero a d below = refl
any_default (x ∷ xs) (suc k) a d below = any_default xs k a d (omega (arith, below))

-- what is told of an error
abbrev told_in : Result ℕ ShardErr → Result ⊤ MountBad
told_in (Ok n) = Ok tt
told_in (Err bad) = Err (of_shard bad)

in_ok : (P : ℕ → Type 0) (r : Result ℕ ShardErr) (count : ℕ) → r ≡ Ok count → IfOk r P → P count
in_ok P (Ok n) count is it = let same : n ≡ count = cc in subst P same it
in_ok P (Err bad) count is it = absurd (cc)

in_err : (r : Result ℕ ShardErr) (bad : ShardErr) → r ≡ Err bad → IfErr r (λ b. b ≡ Fault) → bad ≡ Fault
in_err (Ok n) bad is it = absurd (cc)
in_err (Err b) bad is it = cc (is, it)

-- what it is then in memory
mid_unwritten : {D : Type 0} (disk : DiskOf D) (info : Info) (old : ShardState D) (entries : ℕ → List Entry) (file : List ℕ)
    → HasScore old info.key.score.0 → IsUnwrittenShard disk entries file (info.number + 1) old → LacksKey entries old info.key → IsUnwrittenShard disk entries file info.number (with_dirty info old)
mid_unwritten {D} disk info old entries file own was lacks = record {
  phase = was.phase;
  bytes = was.bytes;
  bucket = was.bucket;
  own = λ other has. ⊎_elim (λ before. was.own other before) (λ e. subst (λ (i : Info). HasScore old i.key.score.0) e own)
      (Contains-push_cases old.index.dirty info other has);
  lacks = λ other has. ⊎_elim (λ before. was.lacks other before) (λ e. subst (λ (i : Info). LacksKey entries old i.key) e lacks)
      (Contains-push_cases old.index.dirty info other has);
  least = λ other has. ⊎_elim (λ before. let it = was.least other before in omega (arith, it)) (λ e. omega (arith, ap (λ (i : Info). i.number) e))
      (Contains-push_cases old.index.dirty info other has);
  apart = all_pairs_push (λ a b. a.number ≢ b.number) old.index.dirty info was.apart (λ k d below same.
      let other : Info = get_or old.index.dirty k d in
      let it = was.least other (k, below, there k d below) in omega (arith, it, same));
}
  where
    there : (k : ℕ) (d : Info) → k < length old.index.dirty → slice_index_or old.index.dirty k (get_or old.index.dirty k d) ≡ get_or old.index.dirty k d
    there k d below = any_default old.index.dirty k (get_or old.index.dirty k d) d below

module _ {D : Type 0} (disk : DiskOf D) (apart : IsUnambiguous) (part : ℕ) (info : Info) (old mid new : ShardState D) (n : ℕ) (r : Result ℕ ShardErr)
    (quiet : IsAtRestUnstopped old) (put : mid ≡ with_dirty info old) (n_is : n ≡ bucket_at old info.key.score.0) (own : HasScore old info.key.score.0) (counts : CountsCrowd disk n r mid new) where
  put_same : {X : Type 0} (f : ShardState D → X) → f (record mid { section = record mid.section { disk = new.section.disk }; bucket = new.bucket }) ≡ f mid → f mid ≡ f old → f new ≡ f old
  put_same f looks puts = ap f counts.looks.same ∙ looks ∙ puts

  put_keeps : KeepsSection disk old new
  put_keeps = record {
    name = put_same (λ s. s.section.name) refl (ap (λ (s : ShardState D). s.section.name) put);
    buckets = put_same (λ s. s.section.buckets) refl (ap (λ (s : ShardState D). s.section.buckets) put);
    head = put_same (λ s. s.section.head) refl (ap (λ (s : ShardState D). s.section.head) put);
    size = counts.looks.reads.size ∙ ap (λ (s : ShardState D). disk.size s.section.disk) put;
    lumps = put_same (λ s. s.lumps) refl (ap (λ (s : ShardState D). s.lumps) put);
    clean_room = put_same (λ s. s.index.clean_room) refl (ap (λ (s : ShardState D). s.index.clean_room) put);
  }

  put_dirty : new.index.dirty ≡ old.index.dirty ++ info ∷ []
  put_dirty = ap (λ (s : ShardState D). s.index.dirty) counts.looks.same ∙ ap (λ (s : ShardState D). s.index.dirty) put

  put_phase : new.section.phase ≡ old.section.phase
  put_phase = put_same (λ s. s.section.phase) refl (ap (λ (s : ShardState D). s.section.phase) put)

  put_quiet : IsAtRestUnstopped new
  put_quiet = record {
    phase = put_phase ∙ quiet.phase;
    next = put_same (λ s. s.section.next) refl (ap (λ (s : ShardState D). s.section.next) put) ∙ quiet.next ∙ sym put_keeps.head;
    stopped = put_same (λ s. s.section.stopped) refl (ap (λ (s : ShardState D). s.section.stopped) put) ∙ quiet.stopped;
    writeback = put_same (λ s. s.writeback) refl (ap (λ (s : ShardState D). s.writeback) put) ∙ quiet.writeback;
  }

  put_read_back : (bits : Filter) (below : ℕ) → IsReadBack bits below old → info.number < below → HasBitsOf bits info.key.score.0 → IsReadBack bits below new
  put_read_back bits below was number set = record {
    quiet = put_quiet;
    filed = subst (λ (m : ℕ). m ≤ below) (sym (put_same (λ s. s.filed) refl (ap (λ (s : ShardState D). s.filed) put))) was.filed;
    numbers = λ other has. ⊎_elim (λ before. was.numbers other before) (λ e. omega (arith, number, ap (λ (i : Info). i.number) e))
        (Contains-push_cases old.index.dirty info other (subst (λ (l : List Info). Contains l other) put_dirty has));
    bits_of = λ other has. ⊎_elim (λ before. was.bits_of other before) (λ e. subst (λ (i : Info). HasBitsOf bits i.key.score.0) e set)
        (Contains-push_cases old.index.dirty info other (subst (λ (l : List Info). Contains l other) put_dirty has));
  }

  put_unwritten : IsTrue disk.tells → (entries : ℕ → List Entry) (file : List ℕ) → HasEntries entries file old → IsUnwrittenShard disk entries file (info.number + 1) old
      → LacksKey entries old info.key → IsUnwrittenShard disk entries file info.number new
  put_unwritten tells entries file at was lacks =
      let P : ShardState D → Type 0 = λ s. IsUnwrittenShard disk entries file info.number s in
      let there : P mid = subst P (sym put) (mid_unwritten disk info old entries file own was lacks) in
      let keeps : KeepsSection disk old mid = record {
        name = ap (λ (s : ShardState D). s.section.name) put;
        buckets = ap (λ (s : ShardState D). s.section.buckets) put;
        head = ap (λ (s : ShardState D). s.section.head) put;
        size = ap (λ (s : ShardState D). disk.size s.section.disk) put;
        lumps = ap (λ (s : ShardState D). s.lumps) put;
        clean_room = ap (λ (s : ShardState D). s.index.clean_room) put;
      } in
      let same = counts.looks.same in
      let range : InRange old.section.head old.section.buckets n = subst (λ (m : ℕ). InRange old.section.head old.section.buckets m) (sym n_is) own in
      unwritten_after disk apart mid new n (subst (λ (s : ShardState D). InRange s.section.head s.section.buckets n) (sym put) range) tells entries file info.number
      (entries_stay disk old mid entries file keeps at) there counts.looks.reads (put_phase ∙ quiet.phase) (ap (λ (s : ShardState D). s.index.dirty) same)
      (record {
        name = ap (λ (s : ShardState D). s.section.name) same;
        buckets = ap (λ (s : ShardState D). s.section.buckets) same;
        head = ap (λ (s : ShardState D). s.section.head) same;
        size = counts.looks.reads.size;
        lumps = ap (λ (s : ShardState D). s.lumps) same;
        clean_room = ap (λ (s : ShardState D). s.index.clean_room) same;
      })
      (bucket_cases disk n r mid new counts.looks)

  -- what the call is given by its shard
  module _ (recalls : (score : List ℕ → List ℕ) (c : Setup) (h : History) (durable : ℕ) → IsSoundWithout score c disk old h durable (info.number + 1) info.key
      → IsEntryOf score c h info.number (entry_of info) → IsSoundFrom score c disk mid h durable info.number)
      (most : (score : List ℕ → List ℕ) (c : Setup) (h : History) (durable from : ℕ) → IsTrue disk.tells → IsSoundFrom score c disk mid h durable from
      → IfOk r (λ count. count ≤ crowd score (bucket_count c) h n))
      (sound : LooksSoundly disk r mid new) where
    -- where no error came no count rose
    same_faults : (count : ℕ) → r ≡ Ok count → disk.faults new.section.disk ≡ disk.faults old.section.disk
    same_faults count is = faults_in r is counts.looks.faults ∙ ap (λ (s : ShardState D). disk.faults s.section.disk) put
      where
        faults_in : (x : Result ℕ ShardErr) → x ≡ Ok count → CountsFault is_section_fault x (disk.faults mid.section.disk) (disk.faults new.section.disk)
            → disk.faults new.section.disk ≡ disk.faults mid.section.disk
        faults_in (Ok m) e it = it
        faults_in (Err bad) e it = absurd (cc)

    put_faults : (s : Result ⊤ MountBad) → ((x : ℕ) → r ≡ Ok x → (v : ⊤) × (s ≡ Ok v)) → ((bad : ShardErr) → r ≡ Err bad → s ≡ Err (of_shard bad))
        → CountsShard s (disk.faults old.section.disk) (disk.faults new.section.disk)
    put_faults s done fails = subst (λ (d : D). CountsShard s (disk.faults d) (disk.faults new.section.disk)) (ap (λ (t : ShardState D). t.section.disk) put)
        (counts_looked n r tt (disk.faults mid.section.disk) (disk.faults new.section.disk) counts.looks.faults (look_cause disk n r mid new counts.looks) s done fails)

    pub puts_ok : (count : ℕ) (done : ⊤) → r ≡ Ok count → PutsBack disk part info (Ok done) old new
    puts_ok count done is = record {
      keeps = put_keeps;
      rests = λ bits below was number set. put_read_back bits below was number set;
      counts = same_faults count is;
      ends_early = tt;
      sound = λ tells score c h was entry. (sound.keeps tells score c h (length h) info.number (recalls score c h (length h) was entry), tt);
      unwritten = put_unwritten;
    }

    pub puts_err : (bad : ShardErr) → r ≡ Err bad → PutsBack {U = ⊤} disk part info (Err (of_shard bad)) old new
    puts_err bad is = record {
      keeps = put_keeps;
      rests = λ bits below was number set. tt;
      counts = put_faults (Err (of_shard bad)) (λ x e. let no : Err bad ≡ Ok x = sym is ∙ e in absurd (cc))
          (λ b e. ap told_in (sym is ∙ e));
      ends_early = inl (look_tells {T = ℕ} disk n bad mid new (subst (λ (x : Result ℕ ShardErr). Looks disk n x mid new) is counts.looks));
      sound = λ tells score c h was entry.
          let there = recalls score c h (length h) was entry in (
            sound.keeps tells score c h (length h) info.number there,
            inl (ap of_shard (in_err r bad is (sound.undamaged score c h (length h) info.number tells there))),
          );
      unwritten = put_unwritten;
    }

    pub puts_crowd : (count : ℕ) → r ≡ Ok count → BUCKET_ROOM < count → PutsBack {U = ⊤} disk part info (Err (Disagree part Crowd count BUCKET_ROOM)) old new
    puts_crowd count is above = record {
      keeps = put_keeps;
      rests = λ bits below was number set. tt;
      counts = same_faults count is;
      ends_early = inr (count, refl, above);
      sound = λ tells score c h was entry.
          let there = recalls score c h (length h) was entry in
          (sound.keeps tells score c h (length h) info.number there, inr (n, count, refl, above, in_ok (λ m. m ≤ crowd score (bucket_count c) h n) r count is (most score c h (length h) info.number tells there)));
      unwritten = put_unwritten;
    }

-- ---- the steps together

-- a shard that lacks nothing below a number lacks nothing below a greater one, and none at all below its mark
abbrev pub LacksMore : {D : Type 0} → DiskOf D → Type 0
LacksMore {D} disk = (score : List ℕ → List ℕ) (c : Setup) (t : ShardState D) (h : History) (durable from more : ℕ) → IsSoundFrom score c disk t h durable from → from ≤ more → IsSoundFrom score c disk t h durable more

abbrev pub LacksNone : {D : Type 0} → DiskOf D → Type 0
LacksNone {D} disk = (score : List ℕ → List ℕ) (c : Setup) (t : ShardState D) (h : History) (durable from : ℕ) → IsSoundFrom score c disk t h durable from → from ≤ t.section.head.mark → IsSoundShard score c disk t h durable

-- a block of another shard lacks nothing here
abbrev pub LacksOthers : {D : Type 0} → DiskOf D → Type 0
LacksOthers {D} disk = (score : List ℕ → List ℕ) (c : Setup) (t : ShardState D) (h : History) (durable i : ℕ) (s : List ℕ) → IsSoundFrom score c disk t h durable (i + 1)
    → HasScoreAt score h i s → ¬ HasScore t s → IsSoundFrom score c disk t h durable i

-- a key is that of the entry's block
pub key_of : (score : List ℕ → List ℕ) (c : Setup) (h : History) (info : Info) → IsEntryOf score c h info.number (entry_of info) → HasKeyOf score h info.number info.key
key_of score c h info it = record { block = it.block; stands = it.stands.block; score_is = sym it.score_is; kind_is = sym it.kind_is }

pub less_unwritten : {D : Type 0} (disk : DiskOf D) (entries : ℕ → List Entry) (file : List ℕ) (n : ℕ) (s : ShardState D) → IsUnwrittenShard disk entries file (n + 1) s → IsUnwrittenShard disk entries file n s
less_unwritten disk entries file n s was = record {
  phase = was.phase;
  bytes = was.bytes;
  bucket = was.bucket;
  own = was.own;
  lacks = was.lacks;
  least = λ info has. let it = was.least info has in omega (arith, it);
  apart = was.apart;
}

module _ {D : Type 0} (disk : DiskOf D) (part : ℕ) (info : Info) (old : ShardState D) where
  -- a block below the mark
  pub back_below_mark : (done : ⊤) → LacksMore disk → LacksNone disk → info.number < old.section.head.mark → TakesBack disk part info (Ok done) old old
  back_below_mark done more none below = record {
    keeps = keeps_none disk old;
    rests = λ bits most was number set. was;
    counts = refl;
    ends_early = tt;
    sound = λ tells score c h was. more score c old h (length h) 0 info.number (none score c old h (length h) (info.number + 1) was.0 (omega (arith, below))) (omega arith);
    unwritten = λ tells entries file at was. inl (less_unwritten disk entries file info.number old was);
  }

  -- one of another shard
  pub back_other : (done : ⊤) → LacksOthers disk → ¬ HasScore old info.key.score.0 → TakesBack disk part info (Ok done) old old
  back_other done others other = record {
    keeps = keeps_none disk old;
    rests = λ bits most was number set. was;
    counts = refl;
    ends_early = tt;
    sound = λ tells score c h was. others score c old h (length h) info.number info.key.score.0 was.0
        (record { block = was.1.block; stands = was.1.stands.block; score_is = sym was.1.score_is }) other;
    unwritten = λ tells entries file at was. inl (less_unwritten disk entries file info.number old was);
  }

  -- a look-up that fails, and one that finds it
  pub back_look_err : (new : ShardState D) (bad : MountBad) → LooksForEntry disk info.key (Err bad) old new → TakesBack {U = ⊤} disk part info (Err bad) old new
  back_look_err new bad it = record {
    keeps = looks_keep disk old new it.looks;
    rests = λ bits below was number set. tt;
    counts = it.counts;
    ends_early = inl it.tells;
    sound = λ tells score c h was. let there = it.recalls tells score c h info.number was.0 (key_of score c h info was.1) in (there.0, λ fits. there.1);
    unwritten = λ tells entries file at was. inl (less_unwritten disk entries file info.number new (it.looks.unwritten tells entries file (info.number + 1) at was));
  }

  pub back_found : (new : ShardState D) (done : ⊤) → LooksForEntry disk info.key (Ok true) old new → TakesBack disk part info (Ok done) old new
  back_found new done it = record {
    keeps = looks_keep disk old new it.looks;
    rests = λ bits below was number set. looks_read_back disk old new it.looks bits below was;
    counts = it.counts;
    ends_early = tt;
    sound = λ tells score c h was. it.recalls tells score c h info.number was.0 (key_of score c h info was.1);
    unwritten = λ tells entries file at was. inl (less_unwritten disk entries file info.number new (it.looks.unwritten tells entries file (info.number + 1) at was));
  }

  -- it isn't there
  module _ (mid : ShardState D) (looks : LooksForEntry disk info.key (Ok false) old mid) where
    mid_sound : IsTrue disk.tells → (score : List ℕ → List ℕ) (c : Setup) (h : History) → IsSoundAt score c disk h info old
        → IsSoundWithout score c disk mid h (length h) (info.number + 1) info.key
    mid_sound tells score c h was = looks.recalls tells score c h info.number was.0 (key_of score c h info was.1)

    mid_counts : {U : Type 0} (r : Result U MountBad) (n : ℕ) → CountsShard r (disk.faults mid.section.disk) n → CountsShard r (disk.faults old.section.disk) n
    mid_counts r n it = subst (λ (m : ℕ). CountsShard r m n) looks.counts it

    -- and is put in
    pub back_put : {U : Type 0} (r : Result U MountBad) (new : ShardState D) → LacksMore disk → PutsBack disk part info r mid new → TakesBack disk part info r old new
    back_put {U} r new more puts = record {
      keeps = keeps_then disk old mid new (looks_keep disk old mid looks.looks) puts.keeps;
      rests = λ bits below was number set. puts.rests bits below (looks_read_back disk old mid looks.looks bits below was) number set;
      counts = mid_counts r (disk.faults new.section.disk) puts.counts;
      ends_early = early r refl;
      sound = λ tells score c h was. ends tells score c h was r (puts.sound tells score c h (mid_sound tells score c h was) was.1);
      unwritten = λ tells entries file at was.
          inl (puts.unwritten tells entries file (entries_stay disk old mid entries file (looks_keep disk old mid looks.looks) at)
          (looks.looks.unwritten tells entries file (info.number + 1) at was)
          (lacks_stays disk old mid entries info.key (looks_keep disk old mid looks.looks) (looks.lacks refl tells entries file (info.number + 1) at was)));
    }
      where
        own_crowd : (bad : MountBad) (found : ℕ) → bad ≡ Disagree part Crowd found BUCKET_ROOM → (score : List ℕ → List ℕ) (c : Setup) (h : History)
            → (bad ≡ MountFault) ⊎ IsOwnCrowd part score c h bad → (n : ℕ) × (found ≤ crowd score (bucket_count c) h n)
        own_crowd bad found is score c h it = ⊎_elim
            (λ fault. let no : Disagree part Crowd found BUCKET_ROOM ≡ MountFault = sym is ∙ fault in absurd (cc))
            (λ own. let both : Disagree part Crowd found BUCKET_ROOM ≡ Disagree part Crowd own.1 BUCKET_ROOM = sym is ∙ own.2 in
            let same : found ≡ own.1 = cc in (own.0, omega (arith, same, own.4)))
            it

        in_bad : (P : MountBad → Type 0) (x : Result U MountBad) (bad : MountBad) → x ≡ Err bad → IfErr x P → P bad
        in_bad P (Ok u) bad is it = absurd (cc)
        in_bad P (Err b) bad is it = let same : b ≡ bad = cc in subst P same it

        early : (x : Result U MountBad) → r ≡ x → IfErr x (λ bad. FaultOrDamage bad ⊎ IsCrowdedWith disk part info old bad)
        early (Ok u) is = tt
        early (Err bad) is = ⊎_elim (λ told. inl told)
            (λ it. inr (record {
              found = it.0;
              bad_is = it.1;
              above = it.2;
              crowded = λ score c h tells was. own_crowd bad it.0 it.1 score c h
                  (in_bad (λ b. (b ≡ MountFault) ⊎ IsOwnCrowd part score c h b) r bad is (puts.sound tells score c h (mid_sound tells score c h was) was.1).1);
            }))
            (in_bad (λ b. FaultOrDamage b ⊎ ((found : ℕ) × (b ≡ Disagree part Crowd found BUCKET_ROOM) × (BUCKET_ROOM < found))) r bad is puts.ends_early)

        ends : IsTrue disk.tells → (score : List ℕ → List ℕ) (c : Setup) (h : History) → IsSoundAt score c disk h info old → (x : Result U MountBad)
            → IsSoundFrom score c disk new h (length h) info.number × IfErr x (λ bad. (bad ≡ MountFault) ⊎ IsOwnCrowd part score c h bad)
            → MatchResult x (λ _. IsSoundFrom score c disk new h (length h) info.number)
            (λ bad. IsSoundFrom score c disk new h (length h) (info.number + 1) × (FitsBuckets score c h → bad ≡ MountFault))
        ends tells score c h was (Ok u) it = it.0
        ends tells score c h was (Err bad) it = (
          more score c new h (length h) info.number (info.number + 1) it.0 (omega arith),
          λ fits. ⊎_elim (λ fault. fault)
              (λ own. absurd (omega (arith, own.3, own.4, fits own.0))) it.1,
        )

    -- there is no room for it
    module _ (after : ShardState D) (full : length mid.index.dirty ≡ ROOM) (own : HasScore old info.key.score.0) where
      no_room : IsTrue disk.tells → (entries : ℕ → List Entry) (file : List ℕ) → HasEntries entries file old → IsUnwrittenShard disk entries file (info.number + 1) old → HasNoRoomFor entries info.key old
      no_room tells entries file at was = record {
        full = ap (λ (l : List Info). length l) (sym (looks_dirty disk old mid looks.looks)) ∙ full;
        own = own;
        lacks = looks.lacks refl tells entries file (info.number + 1) at was;
      }

      pub back_write_err : (bad : MountBad) → WritesAllBack {U = ⊤} disk (Err bad) mid after → TakesBack {U = ⊤} disk part info (Err bad) old after
      back_write_err bad writes = record {
        keeps = keeps_then disk old mid after (looks_keep disk old mid looks.looks) writes.keeps;
        rests = λ bits below was number set. tt;
        counts = mid_counts {U = ⊤} (Err bad) (disk.faults after.section.disk) writes.counts;
        ends_early = inl writes.tells;
        sound = λ tells score c h was. writes.sound tells score c h (info.number + 1) (mid_sound tells score c h was).0;
        unwritten = λ tells entries file at was. inr (no_room tells entries file at was);
      }

      pub back_written : {U : Type 0} (r : Result U MountBad) (new : ShardState D) (done : ⊤) → WritesAllBack disk (Ok done) mid after → TakesBack disk part info r after new → TakesBack disk part info r old new
      back_written {U} r new done writes takes = record {
        keeps = keeps_then disk old mid new (looks_keep disk old mid looks.looks) (keeps_then disk mid after new writes.keeps takes.keeps);
        rests = λ bits below was number set. takes.rests bits below (writes.rests bits below (looks_read_back disk old mid looks.looks bits below was)) number set;
        counts = mid_counts r (disk.faults new.section.disk) (subst (λ (m : ℕ). CountsShard r m (disk.faults new.section.disk)) writes.counts takes.counts);
        ends_early = early r takes.ends_early;
        sound = λ tells score c h was. takes.sound tells score c h (after_sound tells score c h was);
        unwritten = λ tells entries file at was. inr (no_room tells entries file at was);
      }
        where
          after_sound : IsTrue disk.tells → (score : List ℕ → List ℕ) (c : Setup) (h : History) → IsSoundAt score c disk h info old → IsSoundAt score c disk h info after
          after_sound tells score c h was = ((writes.sound tells score c h (info.number + 1) (mid_sound tells score c h was).0).0, was.1)

          early : (x : Result U MountBad) → IfErr x (λ bad. FaultOrDamage bad ⊎ IsCrowdedWith disk part info after bad) → IfErr x (λ bad. FaultOrDamage bad ⊎ IsCrowdedWith disk part info old bad)
          early (Ok u) it = tt
          early (Err bad) it = ⊎_elim (λ told. inl told)
              (λ crowd. inr (record {
                found = crowd.found;
                bad_is = crowd.bad_is;
                above = crowd.above;
                crowded = λ score c h tells was. crowd.crowded score c h tells (after_sound tells score c h was);
              }))
              it

-- Bringing a block into memory.
use Rattle.std.proofs.Common.{◌≡◌, ◌⊎◌, ⊎_elim, inl, inr, ℕ, ◌-◌, ◌<◌, Bool, true, false, cond, ◌&&◌, ◌==◌, List, [], ◌∷◌, length, map, take, Option, Some, None, refl, sym, ◌∙◌, ap, subst, arith}
use Rattle.std.specs.Prelude.{slice_get, IsSome, is_some, MatchResult, OnOk, Result, Ok, Err}
use Rattle.std.specs.Map.{lookup, lookup_entry, remove_entry}
use Rattle.std.specs.Option.{option_map_or}
use Rattle.std.proofs.lemmas.Bool.{eq-eqb}
use Rattle.std.proofs.lemmas.Option.{same_Some}
use Rattle.std.proofs.lemmas.Slice.Eq.{bytes_eq-Decides}
use Rattle.lru.specs.LruCache.{LruCache, lru_cache, promoted, put_entries}
use Rattle.vt_base.specs.Damage.{Differ}
use Rattle.vt_base.specs.Key.{same_key}
use Rattle.vt_base.specs.declared.key.Key.{Key}
use Rattle.vt_base.specs.declared.place.Entry.{Entry}
use Rattle.vt_base.specs.declared.place.Place.{Place}
use Rattle.vt_base.specs.declared.why.FieldValue.{FieldValue}
use Rattle.vt_base.specs.declared.why.Why.{Why}
use Rattle.vt_base.specs.declared.why.Why.TheVariants.{NoMemory}
use Rattle.vt_disk.specs.Calls.{OnlyReads as DiskReads}
use Rattle.vt_disk.specs.Disk.{AreAmong}
use Rattle.vt_disk.specs.Members.{DiskOf}
use Rattle.vt_model.specs.History.{History, Accepted}
use Rattle.vt_model.specs.Places.{Setup, Spot, place_of}
use Rattle.vt_arena.specs.Reading.{is_clump_fault}
use Rattle.vt_arena.specs.declared.error.ReadBad.{ReadBad}
use Rattle.vt_arena.specs.declared.error.ReadBad.TheVariants as read_bad
use Rattle.vt_arena.proofs.Commits.{none_is}
use Rattle.vt_isect.specs.Agreement.{IsEntryOf, IsEntryOfBlock}
use Rattle.vt_isect.specs.Section.{SectionState}
use Rattle.vt_log.specs.Answers.{OnlyReadsLog}
use Rattle.vt_log.specs.Faults.{CountsFaults}
use Rattle.vt_log.specs.Log.{LogState, setup_of_log}
use Rattle.vt_log.specs.Queue.{IsFirstAt, spot_of}
use Rattle.vt_log.specs.Reading.{AnswersRead}
use Rattle.vt_lumps.specs.Lumps.{LumpsState, cached_bytes, used, with_lump}
use Rattle.vt_shard.specs.Search.{IsLumpOf}
use Rattle.vt_shard.specs.Shard.{ShardState}
use Rattle.vt_shard.specs.Sound.{IsSoundShard}
use Rattle.vt_lookup.specs.Finding.{parts_of, AreSound, LooksFor, MayKeepFrom, ReadsShard, TakesLump, why_of_read}
use Rattle.vt_lookup.specs.Seeking.{Fetches, fetched}

-- ---- blocks in memory

module _ {K X : Type 0} (test : K → Bool) where
  abbrev IsFoundIn : List (K × X) → Type 0
  IsFoundIn es = ((lookup_entry test es ≡ None) × (lookup test es ≡ None))
      ⊎ ((e : K × X) × (lookup_entry test es ≡ Some e) × (test e.0 ≡ true) × (lookup test es ≡ Some e.1))

  found_cons : (e : K × X) (es : List (K × X)) (b : Bool) → test e.0 ≡ b → IsFoundIn es → IsFoundIn (e ∷ es)
  found_cons e es true is rest = inr (e, ap (λ (b : Bool). cond b (Some e) (lookup_entry test es)) is, is, ap (λ (b : Bool). cond b (Some e.1) (lookup test es)) is)
  found_cons e es false is rest = ⊎_elim
      (λ none. inl (ap (λ (b : Bool). cond b (Some e) (lookup_entry test es)) is ∙ none.0, ap (λ (b : Bool). cond b (Some e.1) (lookup test es)) is ∙ none.1))
      (λ it. inr (it.0, ap (λ (b : Bool). cond b (Some e) (lookup_entry test es)) is ∙ it.1, it.2, ap (λ (b : Bool). cond b (Some e.1) (lookup test es)) is ∙ it.3))
      rest

  found_in : (es : List (K × X)) → IsFoundIn es
  found_in [] = inl (refl, refl)
  found_in (e ∷ es) = found_cons e es (test e.0) refl (found_in es)

  still_found : (es : List (K × X)) → lookup test (promoted test es) ≡ lookup test es
  still_found es = ⊎_elim
      (λ none. ap (λ (o : Option (K × X)). lookup test (option_map_or (λ e. e ∷ remove_entry test es) o es)) none.0)
      (λ it. ap (λ (o : Option (K × X)). lookup test (option_map_or (λ e. e ∷ remove_entry test es) o es)) it.1
      ∙ ap (λ (b : Bool). cond b (Some it.0.1) (lookup test (remove_entry test es))) it.2 ∙ sym it.3)
      (found_in es)

  none_promoted : (es : List (K × X)) → lookup test es ≡ None → promoted test es ≡ es
  none_promoted es absent = ⊎_elim
      (λ none. ap (λ (o : Option (K × X)). option_map_or (λ e. e ∷ remove_entry test es) o es) none.0)
      (λ it. let no : None ≡ Some it.0.1 = sym absent ∙ it.3 in absurd (cc))
      (found_in es)

put_found : {K X : Type 0} (same : K → K → Bool) (s : LruCache K X) (k : K) (v : X) → same k k ≡ true → lookup (same k) (put_entries same s k v) ≡ Some v
put_found {K} {X} same s k v own = ⊎_elim
    (λ none. ap (λ (o : Option (K × X)). lookup (same k) (option_map_or (λ e. (e.0, v) ∷ remove_entry (same k) s.entries) o ((k, v) ∷ take (s.cap - 1) s.entries))) none.0
    ∙ ap (λ (b : Bool). cond b (Some v) (lookup (same k) (take (s.cap - 1) s.entries))) own)
    (λ it. ap (λ (o : Option (K × X)). lookup (same k) (option_map_or (λ e. (e.0, v) ∷ remove_entry (same k) s.entries) o ((k, v) ∷ take (s.cap - 1) s.entries))) it.1
    ∙ ap (λ (b : Bool). cond b (Some v) (lookup (same k) (remove_entry (same k) s.entries))) it.2)
    (found_in (same k) s.entries)

own_key : (key : Key) → same_key key key ≡ true
own_key key = ap (λ (b : Bool). b && (key.kind == key.kind)) ((bytes_eq-Decides key.score.0 key.score.0).1 refl) ∙ eq-eqb key.kind key.kind refl

pub used_still : (key : Key) (s : LumpsState) → cached_bytes key (used key s) ≡ cached_bytes key s
used_still key s = still_found (same_key key) s.entries

pub unused : (key : Key) (s : LumpsState) → cached_bytes key s ≡ None → used key s ≡ s
unused key s absent = ap (λ (es : List (Key × List ℕ)). lru_cache es s.cap) (none_promoted (same_key key) s.entries absent)

pub kept_there : (key : Key) (bytes : List ℕ) (s : LumpsState) → cached_bytes key (with_lump key bytes s) ≡ Some bytes
kept_there key bytes s = put_found same_key s key bytes (own_key key)

pub is_there : {X : Type 0} (o : Option X) → is_some o ≡ true → (x : X) × (o ≡ Some x)
is_there None is = absurd (cc)
is_there (Some x) is = (x, refl)

pub some_is : {X : Type 0} (o : Option X) (x : X) → o ≡ Some x → IsSome o
some_is {X} o x is = subst (λ (p : Option X). IsSome p) (sym is) refl

-- ---- parts of which little changes

module _ {D : Type 0} (score : List ℕ → List ℕ) (disk : DiskOf D) where
  pub log_rests : (most : ℕ) (l : LogState D) → OnlyReadsLog score disk most l l
  log_rests most l = record {
    same = refl;
    sound = λ h sound. sound;
    disks = record {
      bytes_are = refl;
      sizes_are = refl;
      images_are = λ i before after was is. subst (λ (d : D). AreAmong (disk.images d) (disk.images before)) (same_Some before after (sym was ∙ is)) (λ c left. left);
    };
    calls = λ _. omega arith;
  }

  device_rests : (most : ℕ) (d : D) → DiskReads disk most d d
  device_rests most d = record { bytes = refl; images = λ c left. left; size = refl; calls = λ _. omega arith }

  pub shard_rests : (most : ℕ) (s new : ShardState D) → new.section ≡ s.section → new.index.dirty ≡ s.index.dirty → new.writeback ≡ s.writeback → new.filed ≡ s.filed
      → ReadsShard disk most s new
  shard_rests most s new section dirty writeback filed = record {
    section = subst (λ (t : SectionState D). t ≡ record s.section { disk = t.disk }) (sym section) refl;
    reads = subst (λ (t : SectionState D). DiskReads disk most s.section.disk t.disk) (sym section) (device_rests most s.section.disk);
    dirty = dirty;
    writeback = writeback;
    filed = filed;
  }

  -- only what is in memory of blocks differs
  pub lumps_rest : (most : ℕ) (s new : ShardState D) → new ≡ record s { lumps = new.lumps } → ReadsShard disk most s new
  lumps_rest most s new is = shard_rests most s new (ap (λ (t : ShardState D). t.section) is) (ap (λ (t : ShardState D). t.index.dirty) is)
      (ap (λ (t : ShardState D). t.writeback) is) (ap (λ (t : ShardState D). t.filed) is)

  -- and what was read before
  pub read_then : (most : ℕ) (s mid new : ShardState D) → ReadsShard disk most s mid → new ≡ record mid { lumps = new.lumps } → ReadsShard disk most s new
  read_then most s mid new first is =
      let section : new.section ≡ mid.section = ap (λ (t : ShardState D). t.section) is in
      record {
        section = subst (λ (t : SectionState D). t ≡ record s.section { disk = t.disk }) (sym section) first.section;
        reads = subst (λ (t : SectionState D). DiskReads disk most s.section.disk t.disk) (sym section) first.reads;
        dirty = ap (λ (t : ShardState D). t.index.dirty) is ∙ first.dirty;
        writeback = ap (λ (t : ShardState D). t.writeback) is ∙ first.writeback;
        filed = ap (λ (t : ShardState D). t.filed) is ∙ first.filed;
      }

  pub memory_looks : {T : Type 0} (clumps frames : ℕ) (t : T) (l : LogState D) (s new : ShardState D) → new ≡ record s { lumps = new.lumps }
      → LooksFor score disk clumps frames (Ok t) (parts_of l s) (parts_of l new)
  memory_looks clumps frames t l s new is = record {
    log = log_rests clumps l;
    shard = lumps_rest frames s new is;
    counts = (refl, ap (λ (t : ShardState D). disk.faults t.section.disk) is);
    cause = λ _. tt;
  }

  -- ---- a read of the log

  pub fails_reading : {T : Type 0} (place : Place) (bad : ReadBad) (l new : LogState D) (s : ShardState D) → OnlyReadsLog score disk 2 l new
      → (r : Result (List ℕ) ReadBad) → r ≡ Err bad → CountsFaults disk is_clump_fault r l.disks new.disks
      → (0 < length l.layout → (want found : FieldValue) → r ≡ Err (read_bad.Damaged want found) → Differ want found)
      → LooksFor {T = T} score disk 2 0 (Err (why_of_read place bad)) (parts_of l s) (parts_of new s)
  fails_reading place read_bad.Fault l new s reads r is cause differ = record {
    log = reads;
    shard = shard_rests 0 s s refl refl refl refl;
    counts = inl (subst (λ (x : Result (List ℕ) ReadBad). CountsFaults disk is_clump_fault x l.disks new.disks) is cause, refl);
    cause = λ _. tt;
  }
  fails_reading place (read_bad.Damaged want found) l new s reads r is cause differ = record {
    log = reads;
    shard = shard_rests 0 s s refl refl refl refl;
    counts = (subst (λ (x : Result (List ℕ) ReadBad). CountsFaults disk is_clump_fault x l.disks new.disks) is cause, refl);
    cause = λ some. differ some want found is;
  }
  fails_reading place read_bad.NoMemory l new s reads r is cause differ = record {
    log = reads;
    shard = shard_rests 0 s s refl refl refl refl;
    counts = (subst (λ (x : Result (List ℕ) ReadBad). CountsFaults disk is_clump_fault x l.disks new.disks) is cause, refl);
    cause = λ _. tt;
  }

  -- what was read is kept, or memory is short
  abbrev pub Keeping : {U : Type 0} → Result U Why → Key → (bytes : List ℕ) → (s new : ShardState D) → Type 0
  Keeping r key bytes s new = MatchResult r (λ _. new ≡ record s { lumps = with_lump key bytes s.lumps }) (λ why. (why ≡ NoMemory) × (new ≡ s))

  pub by_lumps : (s new : ShardState D) (l : LumpsState) → new ≡ record s { lumps = l } → new ≡ record s { lumps = new.lumps }
  by_lumps s new l is = is ∙ ap (λ (m : LumpsState). record s { lumps = m }) (sym (ap (λ (t : ShardState D). t.lumps) is))

  same_lumps : (s new : ShardState D) → new ≡ s → new ≡ record s { lumps = new.lumps }
  same_lumps s new is = is ∙ ap (λ (l : LumpsState). record s { lumps = l }) (sym (ap (λ (t : ShardState D). t.lumps) is))

  pub keeping_lumps : {U : Type 0} (r : Result U Why) (key : Key) (bytes : List ℕ) (s new : ShardState D) → Keeping r key bytes s new → new ≡ record s { lumps = new.lumps }
  keeping_lumps (Ok u) key bytes s new is = by_lumps s new (with_lump key bytes s.lumps) is
  keeping_lumps (Err why) key bytes s new is = same_lumps s new is.1

  pub keeping_there : {U : Type 0} (r : Result U Why) (key : Key) (bytes : List ℕ) (s new : ShardState D) → Keeping r key bytes s new → OnOk r (IsSome (cached_bytes key new.lumps))
  keeping_there (Ok u) key bytes s new is =
      some_is (cached_bytes key new.lumps) bytes (ap (λ (t : ShardState D). cached_bytes key t.lumps) is ∙ kept_there key bytes s.lumps)
  keeping_there (Err why) key bytes s new is = tt

  pub keeping_looks : {U : Type 0} (r : Result U Why) (key : Key) (bytes : List ℕ) (l new_log : LogState D) (s new : ShardState D) → OnlyReadsLog score disk 2 l new_log
      → map disk.faults new_log.disks ≡ map disk.faults l.disks → Keeping r key bytes s new → LooksFor score disk 2 0 r (parts_of l s) (parts_of new_log new)
  keeping_looks (Ok u) key bytes l new_log s new reads same is = record {
    log = reads;
    shard = lumps_rest 0 s new (by_lumps s new (with_lump key bytes s.lumps) is);
    counts = (same, ap (λ (t : ShardState D). disk.faults t.section.disk) is);
    cause = λ _. tt;
  }
  keeping_looks {U} (Err why) key bytes l new_log s new reads same is = subst (λ (w : Why). LooksFor {T = U} score disk 2 0 (Err w) (parts_of l s) (parts_of new_log new)) (sym is.0) (record {
    log = reads;
    shard = lumps_rest 0 s new (same_lumps s new is.1);
    counts = (same, ap (λ (t : ShardState D). disk.faults t.section.disk) is.1);
    cause = λ _. tt;
  })

  -- ---- what is fetched

  -- it is in memory
  pub there_taken : (key : Key) (l : LogState D) (s new : ShardState D) → is_some (cached_bytes key s.lumps) ≡ true → new ≡ record s { lumps = used key s.lumps }
      → TakesLump key (Ok (cached_bytes key new.lumps)) (parts_of l s) (parts_of l new) × IsSome (cached_bytes key new.lumps)
  there_taken key l s new there is =
      let it = is_there (cached_bytes key s.lumps) there in
      let now : cached_bytes key new.lumps ≡ Some it.0 = ap (λ (t : ShardState D). cached_bytes key t.lumps) is ∙ used_still key s.lumps ∙ it.1 in (
        record { bytes = it.0; has = it.1; block_is = inl (ap (λ (o : Option (List ℕ)). Ok o) now); new_is = ap (λ (t : ShardState D). parts_of l t) is },
        some_is (cached_bytes key new.lumps) it.0 now,
      )

  -- where it isn't, nothing was used
  pub nothing_used : (key : Key) (s new : ShardState D) → is_some (cached_bytes key s.lumps) ≡ false → new ≡ record s { lumps = used key s.lumps } → new ≡ s
  nothing_used key s new none is = is ∙ ap (λ (l : LumpsState). record s { lumps = l }) (unused key s.lumps (none_is (cached_bytes key s.lumps) none))

  module _ (entry : Entry) (l new_log : LogState D) (s : ShardState D) (absent : cached_bytes entry.key s.lumps ≡ None) (r : Result (List ℕ) ReadBad)
      (answers : AnswersRead score disk l entry.place entry.key r) (reads : OnlyReadsLog score disk 2 l new_log)
      (queued : (i : ℕ) → IsFirstAt l.queue.places entry.place i → new_log ≡ l) where
    pub read_fetched : {U : Type 0} (bytes : List ℕ) → r ≡ Ok bytes → (u : Result U Why) (new : ShardState D) → Keeping u entry.key bytes s new
        → Fetches score disk entry (fetched entry.key u new) (parts_of l s) (parts_of new_log new)
    read_fetched bytes is (Ok u) new keeps = inr (record {
      absent = absent;
      answer = Ok bytes;
      answers = subst (λ (x : Result (List ℕ) ReadBad). AnswersRead score disk l entry.place entry.key x) is answers;
      reads = reads;
      queued = queued;
      keeps = inl keeps;
      block_is = inl (ap (λ (o : Option (List ℕ)). Ok o) (ap (λ (t : ShardState D). cached_bytes entry.key t.lumps) keeps ∙ kept_there entry.key bytes s.lumps));
    })
    read_fetched bytes is (Err why) new keeps = inr (record {
      absent = absent;
      answer = Ok bytes;
      answers = subst (λ (x : Result (List ℕ) ReadBad). AnswersRead score disk l entry.place entry.key x) is answers;
      reads = reads;
      queued = queued;
      keeps = inr keeps.1;
      block_is = inr (ap (λ (w : Why). Err w) keeps.0);
    })

    pub failed_fetched : (U : Type 0) (bad : ReadBad) → r ≡ Err bad → Fetches score disk entry (fetched {U = U} entry.key (Err (why_of_read entry.place bad)) s) (parts_of l s) (parts_of new_log s)
    failed_fetched U bad is = inr (record {
      absent = absent;
      answer = Err bad;
      answers = subst (λ (x : Result (List ℕ) ReadBad). AnswersRead score disk l entry.place entry.key x) is answers;
      reads = reads;
      queued = queued;
      keeps = refl;
      block_is = inl refl;
    })

  -- ---- on sound parts

  module _ (c : Setup) (h : History) (durable : ℕ) where
    log_opened : (l new : LogState D) → new ≡ record l { disks = new.disks } → c ≡ record (setup_of_log l) { sections = c.sections } → c ≡ record (setup_of_log new) { sections = c.sections }
    log_opened l new same opened = subst (λ (x : LogState D). c ≡ record (setup_of_log x) { sections = c.sections }) (sym same) opened

    pub shard_sound : (l : LogState D) (s new : ShardState D) → IsSoundShard score c disk new h durable → AreSound score disk c (parts_of l s) h durable → AreSound score disk c (parts_of l new) h durable
    shard_sound l s new shard was = record { log = was.log; shard = shard; opened = was.opened; legal = was.legal }

    pub read_sound : (most : ℕ) (l new_log : LogState D) (s new : ShardState D) → OnlyReadsLog score disk most l new_log → IsSoundShard score c disk new h durable
        → AreSound score disk c (parts_of l s) h durable → AreSound score disk c (parts_of new_log new) h durable
    read_sound most l new_log s new reads shard was = record { log = reads.sound h was.log; shard = shard; opened = log_opened l new_log reads.same was.opened; legal = was.legal }

    -- a block is read by its entry
    abbrev pub GivesBlocks : (l : LogState D) → Place → Key → Result (List ℕ) ReadBad → Type 0
    GivesBlocks l place key r = (i : ℕ) (e : Accepted) → slice_get h i ≡ Some e → place_of (setup_of_log l) h i ≡ Some (spot_of place)
        → key.kind ≡ e.block.kind → key.score.0 ≡ score e.block.bytes → MatchResult r (λ block. block ≡ e.block.bytes) (λ bad. (bad ≡ read_bad.Fault) ⊎ (bad ≡ read_bad.NoMemory))

    entry_spot : (spot : Spot) (place : Place) → place.arena ≡ spot.arena → place.offset ≡ spot.offset → spot ≡ spot_of place
    entry_spot spot place arena offset =
        let S : ℕ → ℕ → Spot = λ a o. record { arena = a; offset = o } in
        ap (λ (a : ℕ). S a spot.offset) (sym arena) ∙ ap (λ (o : ℕ). S place.arena o) (sym offset)

    pub entry_given : (l : LogState D) → c ≡ record (setup_of_log l) { sections = c.sections } → (entry : Entry) (r : Result (List ℕ) ReadBad) → GivesBlocks l entry.place entry.key r → (i : ℕ) (it : IsEntryOf score c h i entry)
        → MatchResult r (λ block. block ≡ it.block.block.bytes) (λ bad. (bad ≡ read_bad.Fault) ⊎ (bad ≡ read_bad.NoMemory))
    entry_given l opened entry r gives i it = gives i it.block it.stands.block
        (sym (ap (λ (d : Setup). place_of d h i) opened) ∙ it.stands.place ∙ ap (λ (s : Spot). Some s) (entry_spot it.spot entry.place it.arena_is it.offset_is)) it.kind_is it.score_is

    pub entry_lump : (l : LogState D) → c ≡ record (setup_of_log l) { sections = c.sections } → (entry : Entry) (r : Result (List ℕ) ReadBad) (bytes : List ℕ) → r ≡ Ok bytes → GivesBlocks l entry.place entry.key r → IsEntryOfBlock score c h entry → IsLumpOf score h entry.key bytes
    entry_lump l opened entry r bytes is gives of =
        let it = of.1 in (
          of.0,
          record { block = it.block; stands = it.stands.block; score_is = sym it.score_is; kind_is = sym it.kind_is },
          subst (λ (x : Result (List ℕ) ReadBad). MatchResult x (λ block. block ≡ it.block.block.bytes) (λ bad. (bad ≡ read_bad.Fault) ⊎ (bad ≡ read_bad.NoMemory))) is (entry_given l opened entry r gives of.0 it),
        )

    pub entry_fails : (l : LogState D) → c ≡ record (setup_of_log l) { sections = c.sections } → (entry : Entry) (r : Result (List ℕ) ReadBad) (bad : ReadBad) → r ≡ Err bad → GivesBlocks l entry.place entry.key r → IsEntryOfBlock score c h entry
        → MayKeepFrom (why_of_read entry.place bad)
    entry_fails l opened entry r bad is gives of =
        ⊎_elim (λ fault. inl (ap (why_of_read entry.place) fault)) (λ memory. inr (ap (why_of_read entry.place) memory))
        (subst (λ (x : Result (List ℕ) ReadBad). MatchResult x (λ block. block ≡ of.1.block.block.bytes) (λ bad. (bad ≡ read_bad.Fault) ⊎ (bad ≡ read_bad.NoMemory))) is (entry_given l opened entry r gives of.0 of.1))

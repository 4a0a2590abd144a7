-- Looking for the block of a key.
use Rattle.std.proofs.Common.{◌≡◌, ◌⊎◌, ⊎_elim, inl, inr, ℕ, Bool, true, false, not, List, Option, Some, None, refl, sym, ◌∙◌, ap, subst, arith}
use Rattle.std.specs.Prelude.{IsSome, IfOk, IfErr, IfSome, MatchOption, Result, Ok, Err}
use Rattle.std.specs.Str.{bytes_eq}
use Rattle.vt_base.specs.Faults.{CountsFault}
use Rattle.vt_base.specs.declared.key.Key.{Key}
use Rattle.vt_base.specs.declared.place.Entry.{Entry}
use Rattle.vt_base.specs.declared.why.Why.{Why}
use Rattle.vt_base.specs.declared.why.Why.TheVariants.{NoMemory}
use Rattle.vt_bucket.specs.declared.decoding.BucketBad.{BucketBad}
use Rattle.vt_bucket.specs.declared.decoding.BucketBad.TheVariants as bucket_bad
use Rattle.vt_disk.specs.Members.{DiskOf}
use Rattle.vt_isect.specs.Agreement.{IsEntryOfBlock}
use Rattle.vt_isect.specs.Faults.{is_section_fault, damage_of_bucket, NamesDamage}
use Rattle.vt_isect.specs.Merging.{IsFaultyFrame}
use Rattle.vt_isect.specs.declared.error.ShardErr.{ShardErr}
use Rattle.vt_isect.specs.declared.error.ShardErr.TheVariants as shard_err
use Rattle.vt_log.specs.Log.{LogState}
use Rattle.vt_lumps.specs.Lumps.{cached_bytes}
use Rattle.vt_model.specs.History.{History, HasScoreAt, held}
use Rattle.vt_model.specs.Places.{Setup}
use Rattle.vt_shard.specs.Looking.{IsFrameAt, Looks, LooksUp}
use Rattle.vt_shard.specs.Search.{FindsEntry, FindsScore, HasKeyOf, IsLumpOf}
use Rattle.vt_shard.specs.Shard.{ShardState}
use Rattle.vt_lookup.specs.Finding.{StoreParts, parts_of, with_shard, LooksFor, MayEndLook, MayKeepFrom, ReadsShard, SeeksBlock, ReadsFound, TakesLump, Sought, why_of_shard}
use Rattle.vt_lookup.specs.Seeking.{Fetches, IsOwn, differs, fetched}
use Rattle.vt_lookup.proofs.Fetching.{log_rests}

-- ---- what an index look-up reads

-- a frame that is damaged is told as damage
damage_is_told : (n : ℕ) (fault : BucketBad) (call : ℕ) → shard_err.Stopped call ≡ damage_of_bucket n fault → ⊥
damage_is_told n (bucket_bad.Magic found) call e = cc
damage_is_told n (bucket_bad.Number found) call e = cc
damage_is_told n (bucket_bad.Count found) call e = cc
damage_is_told n (bucket_bad.Order entry count) call e = cc

module _ {D : Type 0} (score : List ℕ → List ℕ) (disk : DiskOf D) where
  -- why it may fail
  look_ends : (n : ℕ) (bad : ShardErr) (frame_is : List ℕ → Type 0) → (bad ≡ shard_err.Fault) ⊎ ((frame : List ℕ) × IsFaultyFrame n frame bad × frame_is frame) → NamesDamage bad → MayEndLook (why_of_shard bad)
  look_ends n shard_err.Fault frame_is cause names = tt
  look_ends n (shard_err.Damaged bucket want found) frame_is cause names = names
  look_ends n (shard_err.Stopped call) frame_is cause names = ⊎_elim (λ e. absurd (cc)) (λ it. absurd (damage_is_told n it.1.0 call it.1.2)) cause

  -- of a shard that looked
  pub looks_reads : {T : Type 0} (n : ℕ) (r : Result T ShardErr) (s new : ShardState D) → Looks disk n r s new → ReadsShard disk 2 s new
  looks_reads n r s new it = record {
    section = ap (λ (t : ShardState D). t.section) it.same;
    reads = it.reads;
    dirty = ap (λ (t : ShardState D). t.index.dirty) it.same;
    writeback = ap (λ (t : ShardState D). t.writeback) it.same;
    filed = ap (λ (t : ShardState D). t.filed) it.same;
  }

  pub looks_fails : {T U : Type 0} (n : ℕ) (r : Result T ShardErr) (bad : ShardErr) → r ≡ Err bad → (l : LogState D) (s new : ShardState D) → Looks disk n r s new
      → LooksFor {T = U} score disk 2 2 (Err (why_of_shard bad)) (parts_of l s) (parts_of l new)
  looks_fails {T} {U} n r bad is l s new it = fails bad (subst (λ (x : Result T ShardErr). CountsFault is_section_fault x (disk.faults s.section.disk) (disk.faults new.section.disk)) is it.faults)
      (ends (subst (λ (x : Result T ShardErr). Looks disk n x s new) is it))
    where
      ends : Looks {T = T} disk n (Err bad) s new → MayEndLook (why_of_shard bad)
      ends own = look_ends n bad (λ frame. IsFrameAt disk s.section n frame) own.cause own.names

      fails : (b : ShardErr) → CountsFault {T = T} is_section_fault (Err b) (disk.faults s.section.disk) (disk.faults new.section.disk) → MayEndLook (why_of_shard b)
          → LooksFor {T = U} score disk 2 2 (Err (why_of_shard b)) (parts_of l s) (parts_of l new)
      fails shard_err.Fault counts end = record { log = log_rests score disk 2 l; shard = looks_reads n r s new it; counts = inr (refl, counts); cause = λ _. tt }
      fails (shard_err.Damaged bucket want found) counts end = record { log = log_rests score disk 2 l; shard = looks_reads n r s new it; counts = (refl, counts); cause = λ _. end }
      fails (shard_err.Stopped call) counts end = absurd end

  -- ---- by a key

  pub seeks_none : (may_have : Bool) (key : Key) (p : StoreParts D) → may_have ≡ false → SeeksBlock score disk may_have key (Ok None) p p
  seeks_none may_have key p is = subst (λ (b : Bool). SeeksBlock score disk b key (Ok None) p p) (sym is) (refl, refl)

  pub seeks_index : (key : Key) (block : Sought) (l : LogState D) (s mid shard : ShardState D) (new : StoreParts D) (r : Result (Option Entry) ShardErr)
      → cached_bytes key s.lumps ≡ None → mid ≡ s → LooksUp disk key r mid shard → ReadsFound score disk r block (parts_of l shard) new → SeeksBlock score disk true key block (parts_of l s) new
  seeks_index key block l s mid shard new r absent same looks reads =
      inr (record { absent = absent; found = r; shard = shard; looks = subst (λ (t : ShardState D). LooksUp disk key r t shard) same looks; reads = reads })

  -- the block of the entry that was found
  pub reads_entry : {U : Type 0} (key : Key) (entry : Entry) (r : Result (Option Entry) ShardErr) → r ≡ Ok (Some entry) → entry.key ≡ key → (u : U) (old : StoreParts D) (l : LogState D) (s : ShardState D)
      → Fetches score disk entry (fetched entry.key (Ok u) s) old (parts_of l s) → ReadsFound score disk r (Ok (cached_bytes key s.lumps)) old (parts_of l s)
  reads_entry key entry r is same u old l s it = subst (λ (x : Result (Option Entry) ShardErr). ReadsFound score disk x (Ok (cached_bytes key s.lumps)) old (parts_of l s)) (sym is)
      (subst (λ (k : Key). Fetches score disk entry (Ok (cached_bytes k s.lumps)) old (parts_of l s)) same it)

  pub reads_fails : (entry : Entry) (r : Result (Option Entry) ShardErr) → r ≡ Ok (Some entry) → (why : Why) (old new : StoreParts D)
      → Fetches score disk entry (Err why) old new → ReadsFound score disk r (Err why) old new
  reads_fails entry r is why old new it = subst (λ (x : Result (Option Entry) ShardErr). ReadsFound score disk x (Err why) old new) (sym is) it

-- a block of a key has its score
pub key_has_score : (score : List ℕ → List ℕ) (h : History) (i : ℕ) (key : Key) → HasKeyOf score h i key → HasScoreAt score h i key.score.0
key_has_score score h i key it = record { block = it.block; stands = it.stands; score_is = it.score_is }

-- a fault of the shard keeps from an answer
pub shard_keeps_from : (bad : ShardErr) → bad ≡ shard_err.Fault → MayKeepFrom (why_of_shard bad)
shard_keeps_from bad fault = inl (ap why_of_shard fault)

-- what was found of a key
pub found_entry : (score : List ℕ → List ℕ) (c : Setup) (h : History) (key : Key) (entry : Entry) (r : Result (Option Entry) ShardErr) → r ≡ Ok (Some entry) → IfOk r (FindsEntry score c h 0 key) → IsEntryOfBlock score c h entry
found_entry score c h key entry r is found =
    let own : FindsEntry score c h 0 key (Some entry) = subst (λ (x : Result (Option Entry) ShardErr). IfOk x (FindsEntry score c h 0 key)) is found in own.1

pub found_none : (score : List ℕ → List ℕ) (c : Setup) (h : History) (key : Key) (r : Result (Option Entry) ShardErr) → r ≡ Ok None → IfOk r (FindsEntry score c h 0 key) → (i : ℕ) → ¬ HasKeyOf score h i key
found_none score c h key r is found i =
    let own : FindsEntry score c h 0 key None = subst (λ (x : Result (Option Entry) ShardErr). IfOk x (FindsEntry score c h 0 key)) is found in own i (omega arith)

pub found_other : (score : List ℕ → List ℕ) (c : Setup) (h : History) (s : List ℕ) (entry : Entry) (r : Result (Option Entry) ShardErr) → r ≡ Ok (Some entry) → IfOk r (FindsScore score c h 0 s)
    → (entry.key.score.0 ≡ s) × IsEntryOfBlock score c h entry
found_other score c h s entry r is found =
    let own : FindsScore score c h 0 s (Some entry) = subst (λ (x : Result (Option Entry) ShardErr). IfOk x (FindsScore score c h 0 s)) is found in own

pub found_no_other : (score : List ℕ → List ℕ) (c : Setup) (h : History) (s : List ℕ) (r : Result (Option Entry) ShardErr) → r ≡ Ok None → IfOk r (FindsScore score c h 0 s) → (i : ℕ) → ¬ HasScoreAt score h i s
found_no_other score c h s r is found i =
    let own : FindsScore score c h 0 s None = subst (λ (x : Result (Option Entry) ShardErr). IfOk x (FindsScore score c h 0 s)) is found in own i (omega arith)

pub found_key : (key : Key) (entry : Entry) (r : Result (Option Entry) ShardErr) → r ≡ Ok (Some entry) → IfOk r (λ found. IfSome found (λ e. e.key ≡ key)) → entry.key ≡ key
found_key key entry r is found = subst (λ (x : Result (Option Entry) ShardErr). IfOk x (λ found. IfSome found (λ e. e.key ≡ key))) is found

pub err_keeps_from : {T : Type 0} (r : Result T ShardErr) (bad : ShardErr) (why : Why) → r ≡ Err bad → why ≡ why_of_shard bad → IfErr r (λ b. b ≡ shard_err.Fault) → MayKeepFrom why
err_keeps_from {T} r bad why is told fault =
    subst MayKeepFrom (sym told) (shard_keeps_from bad (subst (λ (x : Result T ShardErr). IfErr x (λ b. b ≡ shard_err.Fault)) is fault))

-- ---- what is made of a block that was found

pub differ_is : (found : Option (List ℕ)) (bytes : List ℕ) (same : Bool) → MatchOption found ⊥ (λ block. same ≡ bytes_eq block bytes) → (let r : Result Bool Why = Ok (not same) in r ≡ differs (Ok found) bytes)
differ_is None bytes same is = absurd is
differ_is (Some block) bytes same is = ap (λ (b : Bool). Ok (not b)) is

module _ {D : Type 0} (score : List ℕ → List ℕ) (disk : DiskOf D) where
  -- memory may be short for a copy of it
  lump_short : (key : Key) (bytes : List ℕ) (old new : StoreParts D) → TakesLump key (Ok (Some bytes)) old new → TakesLump key (Err NoMemory) old new
  lump_short key bytes old new it = record { bytes = it.bytes; has = it.has; block_is = inr refl; new_is = it.new_is }

  found_short : (bytes : List ℕ) (r : Result (Option Entry) ShardErr) (old new : StoreParts D) → ReadsFound score disk r (Ok (Some bytes)) old new → ReadsFound score disk r (Err NoMemory) old new
  found_short bytes (Err bad) old new it = let e = it.0 in absurd (cc)
  found_short bytes (Ok None) old new it = let e = it.0 in absurd (cc)
  found_short bytes (Ok (Some entry)) old new it = ⊎_elim (λ lump. inl (lump_short entry.key bytes old new lump))
      (λ clump. inr (record { absent = clump.absent; answer = clump.answer; answers = clump.answers; reads = clump.reads; queued = clump.queued; keeps = clump.keeps; block_is = inr refl })) it

  pub seeks_short : (may_have : Bool) (key : Key) (bytes : List ℕ) (why : Why) (old new : StoreParts D) → may_have ≡ true → why ≡ NoMemory → SeeksBlock score disk true key (Ok (Some bytes)) old new
      → SeeksBlock score disk may_have key (Err why) old new
  seeks_short may_have key bytes why old new is short it =
      subst (λ (b : Bool). SeeksBlock score disk b key (Err why) old new) (sym is) (subst (λ (w : Why). SeeksBlock score disk true key (Err w) old new) (sym short)
      (⊎_elim (λ lump. inl (lump_short key bytes old new lump))
      (λ index. inr (record { absent = index.absent; found = index.found; shard = index.shard; looks = index.looks; reads = found_short bytes index.found (with_shard index.shard old) new index.reads })) it))

-- whether the block of a key that is in memory has these bytes
abbrev pub ComparesLump : (List ℕ → List ℕ) → History → Key → (bytes : List ℕ) → (same : Bool) → Type 0
ComparesLump score h key bytes same = (own : List ℕ) × IsLumpOf score h key own × (same ≡ bytes_eq own bytes)

pub own_is : (score : List ℕ → List ℕ) (h : History) (key : Key) (bytes : List ℕ) (same : Bool) → ComparesLump score h key bytes same → IsOwn score h key bytes (Some same)
own_is score h key bytes same it = (it.1.0, it.1.1, it.2 ∙ ap (λ (x : List ℕ). bytes_eq x bytes) it.1.2)

-- what stands there
pub some_there : {X : Type 0} (o : Option X) → IsSome o → (x : X) × (o ≡ Some x)
some_there None is = absurd (cc)
some_there (Some x) is = (x, refl)

-- a block in memory is held
pub lump_held : (score : List ℕ → List ℕ) (h : History) (key : Key) (bytes : List ℕ) → ((i : ℕ) (it : HasKeyOf score h i key) → held score h key.score.0 key.kind ≡ Some it.block.block.bytes)
    → IsLumpOf score h key bytes → Some bytes ≡ held score h key.score.0 key.kind
lump_held score h key bytes law it = ap (λ (x : List ℕ). Some x) it.2 ∙ sym (law it.0 it.1)

-- A shard that is looked into while a log is read back.
use Rattle.std.proofs.Common.{◌≡◌, ◌≢◌, ◌⊎◌, ⊎_elim, inl, inr, ℕ, ◌+◌, ◌-◌, ◌*◌, ◌≤◌, List, [], length, Option, Some, None, Bool, false, refl, sym, ◌∙◌, ap, subst}
use Rattle.std.specs.Prelude.{⊤, IsTrue, IsSome, IfErr, IfOk, MatchResult, MatchOption, MatchBool, is_some, Result, Ok, Err}
use Rattle.std.specs.List.{All, AllPairs, Contains}
use Rattle.std.proofs.lemmas.Option.{same_Some}
use Rattle.vt_base.specs.Faults.{CountsFault}
use Rattle.vt_base.specs.declared.key.Key.{Key}
use Rattle.vt_base.specs.declared.mount.MountBad.{MountBad}
use Rattle.vt_base.specs.declared.place.Entry.{Entry}
use Rattle.vt_base.specs.declared.place.Info.{Info}
use Rattle.vt_base.specs.declared.why.FieldValue.{FieldValue}
use Rattle.vt_bloom.specs.Bits.{Filter}
use Rattle.vt_bucket.specs.declared.decoding.BucketBad.{BucketBad}
use Rattle.vt_bucket.specs.declared.decoding.BucketBad.TheVariants as bucket_bad
use Rattle.vt_bucket.specs.Laws.{IsUnambiguous}
use Rattle.vt_bucket.specs.Frame.{IsBucketFrame}
use Rattle.vt_disk.specs.Calls.{OnlyReads}
use Rattle.vt_disk.specs.Members.{DiskOf}
use Rattle.vt_disk.specs.declared.region.Region.{Region}
use Rattle.vt_icache.specs.Index.{IndexState, dirty_info, cached_entry}
use Rattle.vt_isect.specs.Faults.{NamesDamage, damage_of_bucket, is_section_fault}
use Rattle.vt_isect.specs.Layout.{InRange, IsBucketPlace}
use Rattle.vt_isect.specs.Merging.{HasKey, IsDamage, IsFaultyFrame}
use Rattle.vt_isect.specs.Section.{SectionState, IsAtRest, IsChanging, PutsEntries}
use Rattle.vt_isect.specs.declared.TheConstants.{FRAME_LEN, HEAD_PLACE_LEN, BUCKET_PLACE_LEN}
use Rattle.vt_isect.specs.declared.error.ShardErr.{ShardErr}
use Rattle.vt_isect.specs.declared.error.ShardErr.TheVariants.{Fault, Damaged, Stopped}
use Rattle.vt_isect.specs.declared.head.Head.{Head}
use Rattle.vt_model.specs.History.{History}
use Rattle.vt_model.specs.Places.{Setup, bucket_of}
use Rattle.vt_shard.specs.Looking.{Looks, LooksUp, ReadsBucket, looked}
use Rattle.vt_shard.specs.Search.{HasKeyOf, IsFoundIn}
use Rattle.vt_shard.specs.Shard.{ShardState, ReadBucket, HasScore, bucket_at}
use Rattle.vt_shard.specs.Sound.{IsSoundFrom, IsSoundWithout, LooksSoundly}
use Rattle.vt_twin.specs.Frames.{current_frame}
use Rattle.vt_recover.specs.Recalling.{IsAtRestUnstopped, IsReadBack, KeepsSection}
use Rattle.vt_mount_errors.specs.MountErrors.{of_shard}
use Rattle.vt_recover.specs.TakingBack.{CountsShard, FaultOrDamage, HasEntries, IsUnwrittenShard, LacksKey, LooksForEntry, OnlyLooks}

-- ---- what is told

-- damage is that of the bucket that is told
same_bucket : (n bucket : ℕ) (group : List Entry) (frame : List ℕ) (want found : FieldValue) → IsDamage n group frame (Damaged bucket want found) → bucket ≡ n
same_bucket n bucket group frame want found damage = ⊎_elim
    (λ faulty. of_fault faulty.0 faulty.2)
    (λ overfull. cc overfull.5)
    damage
  where
    of_fault : (fault : BucketBad) → Damaged bucket want found ≡ damage_of_bucket n fault → bucket ≡ n
    of_fault (bucket_bad.Magic f) is = cc
    of_fault (bucket_bad.Number f) is = cc
    of_fault (bucket_bad.Count f) is = cc
    of_fault (bucket_bad.Order e count) is = cc

pub tells_bucket : (n : ℕ) (group : List Entry) (frame : List ℕ) (bad : ShardErr) → IsDamage n group frame bad → NamesDamage bad → FaultOrDamage (of_shard bad)
tells_bucket n group frame Fault damage names = inl refl
tells_bucket n group frame (Stopped call) damage names = inl refl
tells_bucket n group frame (Damaged bucket want found) damage names =
    let same : bucket ≡ n = same_bucket n bucket group frame want found damage in
    inr (bucket, want, found, refl, names, (frame, group, subst (λ (b : ℕ). IsDamage b group frame (Damaged bucket want found)) (sym same) damage))

-- a look-up doesn't tell of a stop
pub counts_looked : {T U : Type 0} (n : ℕ) (r : Result T ShardErr) (u : U) (old new : ℕ) → CountsFault is_section_fault r old new
    → IfErr r (λ bad. (bad ≡ Fault) ⊎ ((frame : List ℕ) × IsFaultyFrame n frame bad)) → (s : Result U MountBad)
    → ((x : T) → r ≡ Ok x → (v : U) × (s ≡ Ok v)) → ((bad : ShardErr) → r ≡ Err bad → s ≡ Err (of_shard bad)) → CountsShard s old new
counts_looked {T} {U} n (Ok x) u old new counts cause s done fails =
    let it = done x refl in subst (λ (r : Result U MountBad). CountsShard r old new) (sym it.1) counts
counts_looked {T} {U} n (Err Fault) u old new counts cause s done fails = subst (λ (r : Result U MountBad). CountsShard r old new) (sym (fails Fault refl)) counts
counts_looked {T} {U} n (Err (Damaged bucket want found)) u old new counts cause s done fails = subst (λ (r : Result U MountBad). CountsShard r old new) (sym (fails (Damaged bucket want found) refl)) counts
counts_looked {T} {U} n (Err (Stopped call)) u old new counts cause s done fails = ⊎_elim
    (λ e. absurd (cc e))
    (λ it. no_stop it.1.0 it.1.2)
    cause
  where
    no_stop : (fault : BucketBad) → Stopped call ≡ damage_of_bucket n fault → CountsShard s old new
    no_stop (bucket_bad.Magic f) is = absurd (cc)
    no_stop (bucket_bad.Number f) is = absurd (cc)
    no_stop (bucket_bad.Count f) is = absurd (cc)
    no_stop (bucket_bad.Order e count) is = absurd (cc)

-- ---- what a look keeps

module _ {D : Type 0} (disk : DiskOf D) (old new : ShardState D) (looks : OnlyLooks disk old new) where
  pub looks_keep : KeepsSection disk old new
  looks_keep = record {
    name = ap (λ (s : ShardState D). s.section.name) looks.same;
    buckets = ap (λ (s : ShardState D). s.section.buckets) looks.same;
    head = ap (λ (s : ShardState D). s.section.head) looks.same;
    size = looks.reads.size;
    lumps = ap (λ (s : ShardState D). s.lumps) looks.same;
    clean_room = ap (λ (s : ShardState D). s.index.clean_room) looks.same;
  }

  pub looks_dirty : new.index.dirty ≡ old.index.dirty
  looks_dirty = ap (λ (s : ShardState D). s.index.dirty) looks.same

  pub looks_quiet : IsAtRestUnstopped old → IsAtRestUnstopped new
  looks_quiet quiet = record {
    phase = ap (λ (s : ShardState D). s.section.phase) looks.same ∙ quiet.phase;
    next = ap (λ (s : ShardState D). s.section.next) looks.same ∙ quiet.next ∙ sym (ap (λ (s : ShardState D). s.section.head) looks.same);
    stopped = ap (λ (s : ShardState D). s.section.stopped) looks.same ∙ quiet.stopped;
    writeback = ap (λ (s : ShardState D). s.writeback) looks.same ∙ quiet.writeback;
  }

  pub looks_read_back : (bits : Filter) (below : ℕ) → IsReadBack bits below old → IsReadBack bits below new
  looks_read_back bits below was = record {
    quiet = looks_quiet was.quiet;
    filed = subst (λ (n : ℕ). n ≤ below) (sym (ap (λ (s : ShardState D). s.filed) looks.same)) was.filed;
    numbers = λ info has. was.numbers info (subst (λ (l : List Info). Contains l info) looks_dirty has);
    bits_of = λ info has. was.bits_of info (subst (λ (l : List Info). Contains l info) looks_dirty has);
  }

-- places stay with a section that keeps its head
pub score_stays : {D : Type 0} (disk : DiskOf D) (old new : ShardState D) (s : List ℕ) → KeepsSection disk old new → HasScore old s → HasScore new s
score_stays {D} disk old new s keeps has =
    let P : Head → ℕ → Type 0 = λ h b. InRange h b (bucket_number h s) in
    subst (λ (h : Head). P h new.section.buckets) (sym keeps.head) (subst (λ (b : ℕ). P old.section.head b) (sym keeps.buckets) has)
  where
    bucket_number : Head → List ℕ → ℕ
    bucket_number h t = bucket_of h.total t

pub entries_stay : {D : Type 0} (disk : DiskOf D) (old new : ShardState D) (entries : ℕ → List Entry) (file : List ℕ) → KeepsSection disk old new → HasEntries entries file old → HasEntries entries file new
entries_stay {D} disk old new entries file keeps has = λ n region range place.
    has n region (subst (λ (b : ℕ). InRange old.section.head b n) keeps.buckets (subst (λ (h : Head). InRange h new.section.buckets n) keeps.head range))
    (subst (λ (h : Head). IsBucketPlace (n - h.first) region) keeps.head place)

pub keeps_then : {D : Type 0} (disk : DiskOf D) (a b c : ShardState D) → KeepsSection disk a b → KeepsSection disk b c → KeepsSection disk a c
keeps_then disk a b c one two = record {
  name = two.name ∙ one.name;
  buckets = two.buckets ∙ one.buckets;
  head = two.head ∙ one.head;
  size = two.size ∙ one.size;
  lumps = two.lumps ∙ one.lumps;
  clean_room = two.clean_room ∙ one.clean_room;
}

pub keeps_none : {D : Type 0} (disk : DiskOf D) (s : ShardState D) → KeepsSection disk s s
keeps_none disk s = record { name = refl; buckets = refl; head = refl; size = refl; lumps = refl; clean_room = refl }

pub lacks_stays : {D : Type 0} (disk : DiskOf D) (old new : ShardState D) (entries : ℕ → List Entry) (key : Key) → KeepsSection disk old new → LacksKey entries old key → LacksKey entries new key
lacks_stays {D} disk old new entries key keeps lacks =
    subst (λ (h : Head). HasKey (Contains (entries (bucket_of h.total key.score.0))) key → ⊥) (sym keeps.head) lacks

-- ---- a bucket that is read

-- the place of bucket j
abbrev place_of_bucket : ℕ → Region
place_of_bucket j = record { start = HEAD_PLACE_LEN + BUCKET_PLACE_LEN * j; len = BUCKET_PLACE_LEN }

not_changing : {D : Type 0} (t : SectionState D) (n : ℕ) → IsAtRest t → ¬ IsChanging t n
not_changing t n rest changing = subst PutsEntries rest changing.1.0

module _ {D : Type 0} (disk : DiskOf D) (apart : IsUnambiguous) (old new : ShardState D) (n : ℕ)
    (range : InRange old.section.head old.section.buckets n) (tells : IsTrue disk.tells)
    (entries : ℕ → List Entry) (file : List ℕ) (from : ℕ) (has : HasEntries entries file old) (was : IsUnwrittenShard disk entries file from old) where
  -- its entries are those that the section had
  bucket_is : ReadsBucket disk n old new → (b : ReadBucket) → new.bucket ≡ Some b → b.entries ≡ entries b.number
  bucket_is reads b is =
      let it = reads.0 in
      let same : it ≡ b = same_Some it b (sym reads.1 ∙ is) in
      let number : it.number ≡ n = reads.2 in
      let region = place_of_bucket (n - old.section.head.first) in
      let place : IsBucketPlace (n - old.section.head.first) region = record { start = refl; len = refl } in
      let read = reads.5 region tells place in
      let frame : reads.3 ≡ current_frame region FRAME_LEN file =
      read.rest (not_changing old.section n was.phase) ∙ ap (λ (f : List ℕ). current_frame region FRAME_LEN f) was.bytes in
      let own : it.entries ≡ entries n = (apart n n it.entries (entries n) reads.3 reads.4
      (subst (λ (f : List ℕ). IsBucketFrame n (entries n) f) (sym frame) (has n region range place))).1 in
      subst (λ (c : ReadBucket). c.entries ≡ entries c.number) same (own ∙ ap entries (sym number))

  pub unwritten_after : OnlyReads disk 2 old.section.disk new.section.disk → IsAtRest new.section → new.index.dirty ≡ old.index.dirty → KeepsSection disk old new
      → ((new.bucket ≡ old.bucket) ⊎ ReadsBucket disk n old new) → IsUnwrittenShard disk entries file from new
  unwritten_after reads phase dirty keeps buckets = record {
    phase = phase;
    bytes = reads.bytes ∙ was.bytes;
    bucket = λ b is. ⊎_elim (λ same. was.bucket b (sym same ∙ is)) (λ read. bucket_is read b is) buckets;
    own = λ info here. score_stays disk old new info.key.score.0 keeps (was.own info (subst (λ (l : List Info). Contains l info) dirty here));
    lacks = λ info here. lacks_stays disk old new entries info.key keeps (was.lacks info (subst (λ (l : List Info). Contains l info) dirty here));
    least = λ info here. was.least info (subst (λ (l : List Info). Contains l info) dirty here);
    apart = subst (λ (l : List Info). AllPairs (λ a b. a.number ≢ b.number) l) (sym dirty) was.apart;
  }

-- what became of the bucket in memory
pub bucket_cases : {D T : Type 0} (disk : DiskOf D) (n : ℕ) (r : Result T ShardErr) (old new : ShardState D) → Looks disk n r old new → (new.bucket ≡ old.bucket) ⊎ ReadsBucket disk n old new
bucket_cases {D} disk n (Ok x) old new looks = ⊎_elim (λ same. inl (ap (λ (s : ShardState D). s.bucket) same)) (λ read. inr read.1) looks.bucket
bucket_cases disk n (Err bad) old new looks = inl looks.kept

-- why a look ends with an error
pub look_cause : {T : Type 0} {D : Type 0} (disk : DiskOf D) (n : ℕ) (r : Result T ShardErr) (old new : ShardState D) → Looks disk n r old new
    → IfErr r (λ bad. (bad ≡ Fault) ⊎ ((frame : List ℕ) × IsFaultyFrame n frame bad))
look_cause disk n (Ok x) old new looks = tt
look_cause disk n (Err bad) old new looks = ⊎_elim (λ e. inl e) (λ it. inr (it.0, it.1)) looks.cause

pub look_tells : {T : Type 0} {D : Type 0} (disk : DiskOf D) (n : ℕ) (bad : ShardErr) (old new : ShardState D) → Looks {T = T} disk n (Err bad) old new → FaultOrDamage (of_shard bad)
look_tells disk n bad old new looks = ⊎_elim
    (λ e. inl (ap of_shard e))
    (λ it. tells_bucket n [] it.0 bad (inl it.1) looks.names)
    looks.cause

-- what holds of each holds of one
of_each : {X : Type 0} (P : X → Type 0) (xs : List X) (x : X) → All P xs → Contains xs x → P x
of_each P xs x all has = subst P has.2 (all has.0 x has.1)

-- what is answered of a look-up
abbrev pub has_of : Result (Option Entry) ShardErr → Result Bool MountBad
has_of (Ok found) = Ok (is_some found)
has_of (Err bad) = Err (of_shard bad)

module _ {D : Type 0} (disk : DiskOf D) (apart : IsUnambiguous) (key : Key) (r : Result (Option Entry) ShardErr) (old new : ShardState D)
    (has : HasScore old key.score.0) (up : LooksUp disk key r old new) where
  -- what it leaves
  looks_only : OnlyLooks disk old new
  looks_only =
      let it = up.looks.same in
      let clean : new.index ≡ record old.index { clean = new.index.clean } =
      ap (λ (s : ShardState D). s.index) it ∙ ap (λ (cs : List Entry). record old.index { clean = cs }) (sym (ap (λ (s : ShardState D). s.index.clean) it)) in
      let same : new ≡ record old { section = record old.section { disk = new.section.disk }; index = record old.index { clean = new.index.clean }; bucket = new.bucket } =
      it ∙ ap (λ (x : IndexState). record old { section = record old.section { disk = new.section.disk }; index = x; bucket = new.bucket }) (sym (ap (λ (s : ShardState D). s.index) it) ∙ clean) in
      record {
        same = same;
        reads = up.looks.reads;
        unwritten = λ tells entries file from at was.
            unwritten_after disk apart (looked key old) new (bucket_at old key.score.0) has tells entries file from at
            (record { phase = was.phase; bytes = was.bytes; bucket = was.bucket; own = was.own; lacks = was.lacks; least = was.least; apart = was.apart })
            up.looks.reads (ap (λ (s : ShardState D). s.section.phase) same ∙ was.phase) (ap (λ (s : ShardState D). s.index.dirty) same)
            (record {
              name = ap (λ (s : ShardState D). s.section.name) same;
              buckets = ap (λ (s : ShardState D). s.section.buckets) same;
              head = ap (λ (s : ShardState D). s.section.head) same;
              size = up.looks.reads.size;
              lumps = ap (λ (s : ShardState D). s.lumps) same;
              clean_room = ap (λ (s : ShardState D). s.index.clean_room) same;
            })
            (bucket_cases disk (bucket_at old key.score.0) r (looked key old) new up.looks);
      }

  -- where nothing is found its bucket lacks the key
  looked_lacks : r ≡ Ok None → IsTrue disk.tells → (entries : ℕ → List Entry) (file : List ℕ) (from : ℕ) → HasEntries entries file old → IsUnwrittenShard disk entries file from old → LacksKey entries old key
  looked_lacks none tells entries file from at was = by_memory (cached_entry key old.index) refl
    where
      after : IsUnwrittenShard disk entries file from new
      after = looks_only.unwritten tells entries file from at was

      by_bucket : (b : Option ReadBucket) → new.bucket ≡ b → MatchOption b ⊥ (λ it. (it.number ≡ bucket_at old key.score.0) × All (λ entry. ¬ (entry.key ≡ key)) it.entries) → LacksKey entries old key
      by_bucket None is found = absurd found
      by_bucket (Some it) is found = λ own.
          let same : it.entries ≡ entries (bucket_at old key.score.0) = after.bucket it is ∙ ap entries found.0 in
          let there : Contains it.entries own.0 = subst (λ (l : List Entry). Contains l own.0) (sym same) own.1 in
          of_each (λ (entry : Entry). entry.key ≡ key → ⊥) it.entries own.0 found.1 there own.2

      in_ok : (x : Result (Option Entry) ShardErr) → x ≡ Ok None → IfOk x (IsFoundIn new.bucket (bucket_at old key.score.0) (λ entry. entry.key ≡ key))
          → IsFoundIn new.bucket (bucket_at old key.score.0) (λ entry. entry.key ≡ key) None
      in_ok (Ok None) e it = it
      in_ok (Ok (Some y)) e it = absurd (cc)
      in_ok (Err bad) e it = absurd (cc)

      by_memory : (o : Option Entry) → cached_entry key old.index ≡ o → LacksKey entries old key
      by_memory (Some entry) is =
          let both : Ok None ≡ Ok (Some entry) = sym none ∙ (up.in_memory (subst (λ (x : Option Entry). IsSome x) (sym is) refl)).0 ∙ ap Ok is in absurd (cc)
      by_memory None is = by_bucket new.bucket refl (in_ok r none (up.in_bucket is))

  pub looks_for : LooksSoundly disk r old new
      → (IsTrue disk.tells → (score : List ℕ → List ℕ) (c : Setup) (h : History) (i : ℕ) → IsSoundFrom score c disk old h (length h) (i + 1) → HasKeyOf score h i key
      → MatchResult r (λ found. MatchOption found (IsSoundWithout score c disk new h (length h) (i + 1) key) (λ _. IsSoundFrom score c disk new h (length h) i)) (λ _. ⊤))
      → MatchResult r (λ found. found ≡ None → dirty_info key new.index ≡ None) (λ _. dirty_info key new.index ≡ None)
      → LooksForEntry disk key (has_of r) old new
  looks_for sound recalls absent = record {
    looks = looks_only;
    recalls = λ tells score c h i was here. answers (IsSoundFrom score c disk new h (length h) i) (IsSoundWithout score c disk new h (length h) (i + 1) key) (IsSoundFrom score c disk new h (length h) (i + 1)) r refl (recalls tells score c h i was here) (sound.keeps tells score c h (length h) (i + 1) was) (sound.undamaged score c h (length h) (i + 1) tells was);
    absent = none_absent r absent;
    lacks = λ none tells entries file from at was. looked_lacks (is_none r none) tells entries file from at was;
    counts = counts_looked (bucket_at old key.score.0) r false (disk.faults old.section.disk) (disk.faults new.section.disk) up.looks.faults
        (look_cause disk (bucket_at old key.score.0) r (looked key old) new up.looks) (has_of r) (λ x is. (is_some x, ap has_of is)) (λ bad is. ap has_of is);
    tells = tells_of r refl;
  }
    where
      is_none : (x : Result (Option Entry) ShardErr) → has_of x ≡ Ok false → x ≡ Ok None
      is_none (Ok None) e = refl
      is_none (Ok (Some y)) e = absurd (cc)
      is_none (Err bad) e = absurd (cc)

      none_absent : (x : Result (Option Entry) ShardErr) → MatchResult x (λ found. found ≡ None → dirty_info key new.index ≡ None) (λ _. dirty_info key new.index ≡ None) → has_of x ≡ Ok false → dirty_info key new.index ≡ None
      none_absent (Ok None) it e = it refl
      none_absent (Ok (Some y)) it e = absurd (cc)
      none_absent (Err bad) it e = it

      answers : (P Q R : Type 0) (x : Result (Option Entry) ShardErr) → r ≡ x → MatchResult x (λ found. MatchOption found Q (λ _. P)) (λ _. ⊤) → R → IfErr x (λ bad. bad ≡ Fault)
          → MatchResult (has_of x) (λ found. MatchBool found P Q) (λ bad. R × (bad ≡ of_shard Fault))
      answers P Q R (Ok None) is it keeps fault = it
      answers P Q R (Ok (Some y)) is it keeps fault = it
      answers P Q R (Err bad) is it keeps fault = (keeps, ap of_shard fault)

      tells_of : (x : Result (Option Entry) ShardErr) → r ≡ x → IfErr (has_of x) FaultOrDamage
      tells_of (Ok found) is = tt
      tells_of (Err bad) is = look_tells disk (bucket_at old key.score.0) bad (looked key old) new (subst (λ (y : Result (Option Entry) ShardErr). Looks disk (bucket_at old key.score.0) y (looked key old) new) is up.looks)

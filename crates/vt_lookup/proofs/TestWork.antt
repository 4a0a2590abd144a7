-- Testing a block that is to be written.
use Rattle.std.proofs.Common.{◌≡◌, ◌≢◌, inl, inr, ⊎_elim, ℕ, suc, ◌+◌, ◌<◌, ◌≤◌, ◌==◌, Bool, true, false, not, List, [], ◌∷◌, length, map, Option, Some, None, refl, sym, ◌∙◌, ap, subst, arith}
use Rattle.std.specs.Prelude.{◌↔◌, ◌&&◌, IsTrue, IfOk, IfErr, is_some, nat_le, MatchBool, MatchResult, Result, Ok, Err, if◌then◌else◌}
use Rattle.std.specs.Str.{bytes_eq}
use Rattle.std.proofs.lemmas.Slice.Eq.{bytes_eq-Decides}
use Rattle.vt_base.specs.Faults.{HasRisen}
use Rattle.vt_base.specs.Protocol.{r_write}
use Rattle.vt_base.specs.declared.key.Key.{Key}
use Rattle.vt_base.specs.declared.why.Why.{Why}
use Rattle.vt_base.specs.declared.why.Why.TheVariants.{BadType, TooBig, TooSmall, Absent, Collision, IndexFull, ArenasFull, DiskFault, Stopped, Damaged, NoMemory}
use Rattle.vt_disk.specs.Members.{DiskOf}
use Rattle.std.specs.List.{Contains, find, AllPairs}
use Rattle.std.proofs.lemmas.Option.{same_Some}
use Rattle.vt_bloom.specs.Bits.{Filter, HasBitsOf}
use Rattle.vt_base.specs.declared.place.Info.{Info}
use Rattle.vt_icache.specs.Index.{dirty_info, is_info_of}
use Rattle.vt_isect.specs.Section.{SectionState}
use Rattle.vt_isect.specs.declared.error.ShardErr.{ShardErr}
use Rattle.vt_isect.specs.declared.error.ShardErr.TheVariants as shard_err
use Rattle.vt_log.specs.Answers.{OnlyReadsLog}
use Rattle.vt_log.specs.Faults.{OneHasRisen}
use Rattle.vt_log.specs.Log.{LogState, setup_of_log}
use Rattle.vt_part.specs.declared.layout.ArenaRegion.{ArenaRegion}
use Rattle.vt_model.specs.declared.TheConstants.{BUCKET_ROOM}
use Rattle.vt_model.specs.Answer.{collides, replies}
use Rattle.vt_model.specs.History.{History, HasKeyAt, HasScoreAt, IsBlock, held}
use Rattle.vt_model.specs.Legal.{HasOtherKey, IsLegal, NoCollision}
use Rattle.vt_model.specs.Places.{Setup, bucket_count, bucket_of, crowd, next_arena}
use Rattle.vt_shard.specs.Looking.{Looks}
use Rattle.vt_shard.specs.Search.{HasKeyOf}
use Rattle.vt_isect.specs.Layout.{InRange}
use Rattle.vt_shard.specs.Shard.{ShardState, HasScore, bucket_at}
use Rattle.vt_lookup.specs.declared.writing.Verdict.{Verdict}
use Rattle.vt_lookup.specs.declared.writing.Verdict.TheVariants.{Held, New}
use Rattle.vt_lookup.specs.Finding.{StoreParts, CountsFailure, Compares, HoldsBlock, JudgesWrite, LooksFor, MayEndLook, NoneRose, ReadsShard, Sought, parts_of, room_verdict, why_of_shard}
use Rattle.vt_lookup.specs.Seeking.{compared, differs, IsOwn}
use Rattle.vt_lookup.proofs.Fetching.{log_rests, shard_rests}
use Rattle.vt_lookup.proofs.Seeks.{ComparesLump, looks_fails, shard_keeps_from}
use Rattle.vt_lookup.proofs.Testing.{collision, is_crowded, is_full, is_held, is_new}

-- ---- the room of a bucket and of the arenas

module _ (score : List ℕ → List ℕ) (c : Setup) (h : History) (key : Key) (bytes : List ℕ) (block : IsBlock (record { kind = key.kind; bytes = bytes }))
    (free : collides score h bytes ≡ false) (none : held score h (score bytes) key.kind ≡ None) where
  judges_arena : (room : nat_le BUCKET_ROOM (crowd score (bucket_count c) h (bucket_of (bucket_count c) (score bytes))) ≡ false) (o : Option ℕ) → next_arena c h (length bytes) ≡ o
      → JudgesWrite score c h key bytes (if is_some o then Ok New else Err ArenasFull)
  judges_arena room None is = inr (tt, is_full score c h key.kind bytes block free none room is)
  judges_arena room (Some arena) is = is_new score c h key.kind bytes block free none room arena is

  judges_count : (b : Bool) → nat_le BUCKET_ROOM (crowd score (bucket_count c) h (bucket_of (bucket_count c) (score bytes))) ≡ b
      → JudgesWrite score c h key bytes (if b then Err IndexFull else if is_some (next_arena c h (length bytes)) then Ok New else Err ArenasFull)
  judges_count true is = inr (tt, is_crowded score c h key.kind bytes block free none is)
  judges_count false is = judges_arena is (next_arena c h (length bytes)) refl

  pub judges_room : (r : Result ℕ ShardErr) (fits : Bool) → IfOk r (λ count. count ≡ crowd score (bucket_count c) h (bucket_of (bucket_count c) (score bytes))) → IfErr r (λ bad. bad ≡ shard_err.Fault)
      → fits ≡ is_some (next_arena c h (length bytes)) → JudgesWrite score c h key bytes (room_verdict r fits)
  judges_room (Err bad) fits is fault room = inl (shard_keeps_from bad fault)
  judges_room (Ok count) fits is fault room =
      subst (λ (b : Bool). JudgesWrite score c h key bytes (if nat_le BUCKET_ROOM count then Err IndexFull else if b then Ok New else Err ArenasFull)) (sym room)
      (subst (λ (n : ℕ). JudgesWrite score c h key bytes (if nat_le BUCKET_ROOM n then Err IndexFull else if is_some (next_arena c h (length bytes)) then Ok New else Err ArenasFull)) (sym is)
      (judges_count (nat_le BUCKET_ROOM (crowd score (bucket_count c) h (bucket_of (bucket_count c) (score bytes)))) refl))

-- a log's own setup says as much of its arenas
pub opened_room : {D : Type 0} (c : Setup) (l : LogState D) (h : History) (n : ℕ) (fits : Bool) → c ≡ record (setup_of_log l) { sections = c.sections } → fits ≡ is_some (next_arena (setup_of_log l) h n)
    → fits ≡ is_some (next_arena c h n)
opened_room c l h n fits opened is = is ∙ sym (ap (λ (d : Setup). is_some (next_arena d h n)) opened)

module _ {D : Type 0} (score : List ℕ → List ℕ) (disk : DiskOf D) where
  room_counts : (b fits : Bool) (old new : StoreParts D) → NoneRose disk old new
      → MatchResult (let r : Result Verdict Why = if b then Err IndexFull else if fits then Ok New else Err ArenasFull in r) (λ _. NoneRose disk old new) (λ why. CountsFailure disk why old new)
  room_counts true fits old new it = it
  room_counts false true old new it = it
  room_counts false false old new it = it

  room_ends : (b fits : Bool) → IfErr (let r : Result Verdict Why = if b then Err IndexFull else if fits then Ok New else Err ArenasFull in r) MayEndLook
  room_ends true fits = tt
  room_ends false true = tt
  room_ends false false = tt

  pub room_looks : (frames n : ℕ) (r : Result ℕ ShardErr) (fits : Bool) (l : LogState D) (s new : ShardState D) → ReadsShard disk frames s new → Looks disk n r s new
      → LooksFor score disk 0 frames (room_verdict r fits) (parts_of l s) (parts_of l new)
  room_looks frames n (Ok count) fits l s new reads it = record {
    log = log_rests score disk 0 l;
    shard = reads;
    counts = room_counts (nat_le BUCKET_ROOM count) fits (parts_of l s) (parts_of l new) (refl, it.faults);
    cause = λ _. room_ends (nat_le BUCKET_ROOM count) fits;
  }
  room_looks frames n (Err bad) fits l s new reads it =
      let fails : LooksFor {T = Verdict} score disk 2 2 (Err (why_of_shard bad)) (parts_of l s) (parts_of l new) = looks_fails score disk n (Err bad) bad refl l s new it in
      record { log = log_rests score disk 0 l; shard = reads; counts = fails.counts; cause = fails.cause }

  pub same_reads : (s new : ShardState D) → new ≡ s → ReadsShard disk 0 s new
  same_reads s new is = shard_rests score disk 0 s new (ap (λ (t : ShardState D). t.section) is) (ap (λ (t : ShardState D). t.index.dirty) is) (ap (λ (t : ShardState D). t.writeback) is) (ap (λ (t : ShardState D). t.filed) is)

  -- ---- one look-up behind another

  both_reads : (a b : ℕ) (s mid new : ShardState D) → ReadsShard disk a s mid → ReadsShard disk b mid new → ReadsShard disk (a + b) s new
  both_reads a b s mid new first last = record {
    section = last.section ∙ ap (λ (t : SectionState D). record t { disk = new.section.disk }) first.section;
    reads = record {
      bytes = last.reads.bytes ∙ first.reads.bytes;
      images = λ c left. first.reads.images c (last.reads.images c left);
      size = last.reads.size ∙ first.reads.size;
      calls = λ tells. let one = first.reads.calls tells in let two = last.reads.calls tells in omega (arith, one, two);
    };
    dirty = last.dirty ∙ first.dirty;
    writeback = last.writeback ∙ first.writeback;
    filed = last.filed ∙ first.filed;
  }

  -- none of the counts rose in the first
  none_then : {T : Type 0} (r : Result T Why) (old mid new : StoreParts D) → NoneRose disk old mid
      → MatchResult r (λ _. NoneRose disk mid new) (λ why. CountsFailure disk why mid new) → MatchResult r (λ _. NoneRose disk old new) (λ why. CountsFailure disk why old new)
  none_then (Ok t) old mid new first it = (it.0 ∙ first.0, it.1 ∙ first.1)
  none_then (Err why) old mid new first it = why_then why it
    where
      why_then : (w : Why) → CountsFailure disk w mid new → CountsFailure disk w old new
      why_then DiskFault own = ⊎_elim
          (λ log. inl (subst (λ (ns : List ℕ). OneHasRisen ns (map disk.faults new.log.disks)) first.0 log.0, log.1 ∙ first.1))
          (λ shard. inr (shard.0 ∙ first.0, subst (λ (n : ℕ). HasRisen n (disk.faults new.shard.section.disk)) first.1 shard.1))
          own
      why_then BadType own = (own.0 ∙ first.0, own.1 ∙ first.1)
      why_then TooBig own = (own.0 ∙ first.0, own.1 ∙ first.1)
      why_then TooSmall own = (own.0 ∙ first.0, own.1 ∙ first.1)
      why_then Absent own = (own.0 ∙ first.0, own.1 ∙ first.1)
      why_then Collision own = (own.0 ∙ first.0, own.1 ∙ first.1)
      why_then IndexFull own = (own.0 ∙ first.0, own.1 ∙ first.1)
      why_then ArenasFull own = (own.0 ∙ first.0, own.1 ∙ first.1)
      why_then (Stopped call) own = (own.0 ∙ first.0, own.1 ∙ first.1)
      why_then (Damaged site want found) own = (own.0 ∙ first.0, own.1 ∙ first.1)
      why_then NoMemory own = (own.0 ∙ first.0, own.1 ∙ first.1)

  -- the log is read from once at most, and the shard too
  pub then_looks : {T : Type 0} (clumps frames more : ℕ) (r : Result T Why) (old mid new : StoreParts D) → ReadsShard disk frames old.shard mid.shard → NoneRose disk old mid → mid.log.layout ≡ old.log.layout → OnlyReadsLog score disk clumps old.log new.log
      → LooksFor score disk clumps more r mid new → LooksFor score disk clumps (frames + more) r old new
  then_looks clumps frames more r old mid new first none layout log last = record {
    log = log;
    shard = both_reads frames more old.shard mid.shard new.shard first last.shard;
    counts = none_then r old mid new none last.counts;
    cause = λ some. last.cause (subst (λ (rs : List ArenaRegion). 0 < length rs) (sym layout) some);
  }

  wider_log : (a b : ℕ) (l new : LogState D) → a ≤ b → OnlyReadsLog score disk a l new → OnlyReadsLog score disk b l new
  wider_log a b l new le it = record { same = it.same; sound = it.sound; disks = it.disks; calls = λ tells. let most = it.calls tells in omega (arith, most, le) }

  wider_shard : (a b : ℕ) (s new : ShardState D) → a ≤ b → ReadsShard disk a s new → ReadsShard disk b s new
  wider_shard a b s new le it = record {
    section = it.section;
    reads = record { bytes = it.reads.bytes; images = it.reads.images; size = it.reads.size; calls = λ tells. let most = it.reads.calls tells in omega (arith, most, le) };
    dirty = it.dirty;
    writeback = it.writeback;
    filed = it.filed;
  }

  pub wider_looks : {T : Type 0} (a b m n : ℕ) (r : Result T Why) (old new : StoreParts D) → a ≤ m → b ≤ n → LooksFor score disk a b r old new → LooksFor score disk m n r old new
  wider_looks a b m n r old new log shard it = record {
    log = wider_log a m old.log new.log log it.log;
    shard = wider_shard b n old.shard new.shard shard it.shard;
    counts = it.counts;
    cause = it.cause;
  }

-- ---- the tests, on sound parts

-- laws of the model
abbrev pub CollidesOther : Type 0
CollidesOther = (score : List ℕ → List ℕ) (h : History) (i : ℕ) (bytes : List ℕ) (it : HasScoreAt score h i (score bytes)) → it.block.block.bytes ≢ bytes → collides score h bytes ≡ true

abbrev pub CollidesSame : Type 0
CollidesSame = (score : List ℕ → List ℕ) (h : History) (i : ℕ) (bytes : List ℕ) (it : HasScoreAt score h i (score bytes)) → AllPairs (NoCollision score) h → score bytes ≢ score []
    → it.block.block.bytes ≡ bytes → collides score h bytes ≡ false

abbrev pub CollidesNone : Type 0
CollidesNone = (score : List ℕ → List ℕ) (h : History) (bytes : List ℕ) → score bytes ≢ score [] → ((i : ℕ) → ¬ HasScoreAt score h i (score bytes)) → collides score h bytes ≡ false

abbrev pub HeldBlock : Type 0
HeldBlock = (score : List ℕ → List ℕ) (h : History) (i : ℕ) (s : List ℕ) (kind : ℕ) → AllPairs (HasOtherKey score) h → s ≢ score [] → (it : HasKeyAt score h i s kind)
    → held score h s kind ≡ Some it.block.block.bytes

abbrev pub HeldNone : Type 0
HeldNone = (score : List ℕ → List ℕ) (h : History) (s : List ℕ) (kind : ℕ) → s ≢ score [] → ((i : ℕ) → ¬ HasKeyAt score h i s kind) → held score h s kind ≡ None

same_bytes : (a b : List ℕ) → true ≡ bytes_eq a b → a ≡ b
same_bytes a b is = (bytes_eq-Decides a b).0 (sym is)

other_bytes : (a b : List ℕ) → false ≡ bytes_eq a b → a ≢ b
other_bytes a b is same = let both : false ≡ true = is ∙ (bytes_eq-Decides a b).1 same in absurd (cc)

module _ (score : List ℕ → List ℕ) (c : Setup) (h : History) (legal : IsLegal score c h) (key : Key) (bytes : List ℕ) (block : IsBlock (record { kind = key.kind; bytes = bytes }))
    (scored : key.score.0 ≡ score bytes) (nonzero : score bytes ≢ score []) where
  own_nonzero : key.score.0 ≢ score []
  own_nonzero is = nonzero (sym scored ∙ is)

  abbrev at_key : (i : ℕ) → HasKeyOf score h i key → HasScoreAt score h i (score bytes)
  at_key i it = record { block = it.block; stands = it.stands; score_is = it.score_is ∙ scored }

  pub none_held : HeldNone → ((i : ℕ) → ¬ HasKeyOf score h i key) → held score h (score bytes) key.kind ≡ None
  none_held law none = subst (λ (s : List ℕ). held score h s key.kind ≡ None) scored (law score h key.score.0 key.kind own_nonzero none)

  pub none_collides : CollidesNone → ((i : ℕ) → ¬ HasScoreAt score h i key.score.0) → collides score h bytes ≡ false
  none_collides law none = law score h bytes nonzero (λ i it. none i (record { block = it.block; stands = it.stands; score_is = it.score_is ∙ sym scored }))

  pub judges_collision : collides score h bytes ≡ true → JudgesWrite score c h key bytes (Err Collision)
  judges_collision is = inr (tt, collision score c h key.kind bytes block is)

  pub judges_own : HeldBlock → CollidesSame → CollidesOther → (same : Bool) → IsOwn score h key bytes (Some same) → JudgesWrite score c h key bytes (if same then Ok Held else Err Collision)
  judges_own held_block free_same collides_other true it =
      let own : it.1.block.block.bytes ≡ bytes = same_bytes it.1.block.block.bytes bytes it.2 in
      let free : collides score h bytes ≡ false = free_same score h it.0 bytes (at_key it.0 it.1) legal.scores nonzero own in
      let is : held score h (score bytes) key.kind ≡ Some it.1.block.block.bytes =
      subst (λ (s : List ℕ). held score h s key.kind ≡ Some it.1.block.block.bytes) scored (held_block score h it.0 key.score.0 key.kind legal.keys own_nonzero it.1) in
      is_held score c h key.kind bytes block free it.1.block.block.bytes is ∙ ap (λ (s : List ℕ). replies (r_write s)) (sym scored)
  judges_own held_block free_same collides_other false it =
      judges_collision (collides_other score h it.0 bytes (at_key it.0 it.1) (other_bytes it.1.block.block.bytes bytes it.2))

-- whether one that was found has other bytes
module _ (score : List ℕ → List ℕ) (c : Setup) (h : History) (legal : IsLegal score c h) (s bytes : List ℕ) (scored : s ≡ score bytes) (nonzero : score bytes ≢ score []) where
  pub collides_is : CollidesSame → CollidesOther → (key : Key) (same : Bool) → key.score.0 ≡ s → ComparesLump score h key bytes same → not same ≡ collides score h bytes
  collides_is free_same collides_other key true is it =
      let own = it.1.1 in
      let at : HasScoreAt score h it.1.0 (score bytes) = record { block = own.block; stands = own.stands; score_is = own.score_is ∙ is ∙ scored } in
      sym (free_same score h it.1.0 bytes at legal.scores nonzero (sym it.1.2 ∙ same_bytes it.0 bytes it.2))
  collides_is free_same collides_other key false is it =
      let own = it.1.1 in
      let at : HasScoreAt score h it.1.0 (score bytes) = record { block = own.block; stands = own.stands; score_is = own.score_is ∙ is ∙ scored } in
      sym (collides_other score h it.1.0 bytes at (λ e. other_bytes it.0 bytes it.2 (it.1.2 ∙ e)))

  pub none_is : CollidesNone → ((i : ℕ) → ¬ HasScoreAt score h i s) → false ≡ collides score h bytes
  none_is law none = sym (law score h bytes nonzero (λ i it. none i (record { block = it.block; stands = it.stands; score_is = it.score_is ∙ sym scored })))

-- ---- what follows on a look-up

module _ {D : Type 0} (bytes : List ℕ) (room : Result Verdict Why → (old new : StoreParts D) → Type 0) (p : StoreParts D) where
  pub differs_err : (other : Sought) (why : Why) → (let r : Result Bool Why = Err why in r ≡ differs other bytes) → Compares other bytes room room (Err why) p p
  differs_err (Err first) why is = let same : why ≡ first = cc in (ap (λ (w : Why). Err w) same, refl)
  differs_err (Ok None) why is = absurd (cc)
  differs_err (Ok (Some block)) why is = absurd (cc)

  collides_by : (b : Bool) → (let r : Result Bool Why = Ok true in r ≡ Ok (not b)) → (same : Type 0) → MatchBool b same ((let v : Result Verdict Why = Err Collision in v ≡ Err Collision) × (p ≡ p))
  collides_by true is same = absurd (cc)
  collides_by false is same = (refl, refl)

  pub differs_true : (other : Sought) → (let r : Result Bool Why = Ok true in r ≡ differs other bytes) → Compares other bytes room room (Err Collision) p p
  differs_true (Err first) is = absurd (cc)
  differs_true (Ok None) is = absurd (cc)
  differs_true (Ok (Some block)) is = collides_by (bytes_eq block bytes) is (room (Err Collision) p p)

  goes_by : (b : Bool) → (let r : Result Bool Why = Ok false in r ≡ Ok (not b)) → (same other : Type 0) → same → MatchBool b same other
  goes_by true is same other it = it
  goes_by false is same other it = absurd (cc)

  pub differs_false : (other : Sought) (verdict : Result Verdict Why) (new : StoreParts D) → (let r : Result Bool Why = Ok false in r ≡ differs other bytes) → room verdict p new → Compares other bytes room room verdict p new
  differs_false (Err first) verdict new is it = absurd (cc)
  differs_false (Ok None) verdict new is it = it
  differs_false (Ok (Some block)) verdict new is it = goes_by (bytes_eq block bytes) is (room verdict p new) ((verdict ≡ Err Collision) × (new ≡ p)) it

  pub own_err : (own : Sought) (why : Why) → (let r : Result (Option Bool) Why = Err why in r ≡ compared own bytes) → Compares own bytes HoldsBlock room (Err why) p p
  own_err (Err first) why is = let same : why ≡ first = cc in (ap (λ (w : Why). Err w) same, refl)
  own_err (Ok None) why is = absurd (cc)
  own_err (Ok (Some block)) why is = absurd (cc)

  held_by : (b same : Bool) → same ≡ b → (let v : Result Verdict Why = if same then Ok Held else Err Collision in MatchBool b (HoldsBlock v p p) ((v ≡ Err Collision) × (p ≡ p)))
  held_by true true is = (refl, refl)
  held_by true false is = absurd (cc)
  held_by false true is = absurd (cc)
  held_by false false is = (refl, refl)

  pub own_some : (own : Sought) (same : Bool) → (let r : Result (Option Bool) Why = Ok (Some same) in r ≡ compared own bytes) → Compares own bytes HoldsBlock room (if same then Ok Held else Err Collision) p p
  own_some (Err first) same is = absurd (cc)
  own_some (Ok None) same is = absurd (cc)
  own_some (Ok (Some block)) same is = let e : same ≡ bytes_eq block bytes = cc in held_by (bytes_eq block bytes) same e

  pub own_none : (own : Sought) (verdict : Result Verdict Why) (new : StoreParts D) → (let r : Result (Option Bool) Why = Ok None in r ≡ compared own bytes) → room verdict p new → Compares own bytes HoldsBlock room verdict p new
  own_none (Err first) verdict new is it = absurd (cc)
  own_none (Ok None) verdict new is it = it
  own_none (Ok (Some block)) verdict new is it = absurd (cc)

-- a shard that read has the scores that it had, and their buckets
pub still_has : {D : Type 0} (disk : DiskOf D) (n : ℕ) (s new : ShardState D) (score : List ℕ) → ReadsShard disk n s new → HasScore s score → HasScore new score
still_has {D} disk n s new score reads has = subst (λ (t : SectionState D). InRange t.head t.buckets (bucket_of t.head.total score)) (sym reads.section) has

pub same_bucket : {D : Type 0} (disk : DiskOf D) (n : ℕ) (s new : ShardState D) (score : List ℕ) → ReadsShard disk n s new → bucket_at s score ≡ bucket_at new score
same_bucket {D} disk n s new score reads = sym (ap (λ (t : SectionState D). bucket_of t.head.total score) reads.section)

-- a block is new only where an arena has room
pub room_new : (r : Result ℕ ShardErr) (fits : Bool) → room_verdict r fits ≡ Ok New → fits ≡ true
room_new (Err bad) fits is = absurd (cc)
room_new (Ok count) fits is = by_crowd (nat_le BUCKET_ROOM count) fits is
  where
    by_crowd : (b room : Bool) → (let v : Result Verdict Why = if b then Err IndexFull else if room then Ok New else Err ArenasFull in v ≡ Ok New) → room ≡ true
    by_crowd true room e = absurd (cc)
    by_crowd false true e = refl
    by_crowd false false e = absurd (cc)

pub own_not_new : (same : Bool) → (let v : Result Verdict Why = if same then Ok Held else Err Collision in v ≡ Ok New) → ⊥
own_not_new true e = cc
own_not_new false e = cc

-- the dirty entry of a key, by the dirty entries
pub same_dirty : {D : Type 0} (key : Key) (s new : ShardState D) → new.index.dirty ≡ s.index.dirty → dirty_info key s.index ≡ None → dirty_info key new.index ≡ None
same_dirty key s new same none = ap (λ (infos : List Info). find (is_info_of key) infos) same ∙ none

-- ---- no entry of a key is dirty whose score has no bits

found_in : {X : Type 0} (test : X → Bool) (xs : List X) (x : X) → find test xs ≡ Some x → Contains xs x × (test x ≡ true)
found_in test [] x is = absurd (cc)
found_in {X} test (y ∷ ys) x is = at (test y) refl is (λ e. found_in test ys x e)
  where
    at : (b : Bool) → test y ≡ b → (if b then Some y else find test ys) ≡ Some x → (find test ys ≡ Some x → Contains ys x × (test x ≡ true)) → Contains (y ∷ ys) x × (test x ≡ true)
    at true passes e rest = let same : y ≡ x = same_Some y x e in ((0, omega arith, same), subst (λ (z : X). test z ≡ true) same passes)
    at false fails e rest = let it = rest e in ((suc it.0.0, omega (arith, it.0.1), it.0.2), it.1)

both_first : (a b : Bool) → (a && b) ≡ true → a ≡ true
both_first true b is = refl
both_first false b is = absurd (cc)

no_dirty : {D : Type 0} (key : Key) (s : ShardState D) (bits : Filter) → ((info : Info) → Contains s.index.dirty info → HasBitsOf bits info.key.score.0) → ¬ HasBitsOf bits key.score.0
    → dirty_info key s.index ≡ None
no_dirty key s bits marked none = by_found (dirty_info key s.index) refl
  where
    by_found : (o : Option Info) → dirty_info key s.index ≡ o → dirty_info key s.index ≡ None
    by_found None is = is
    by_found (Some info) is =
        let it = found_in (is_info_of key) s.index.dirty info is in
        let same : key.score.0 ≡ info.key.score.0 = (bytes_eq-Decides key.score.0 info.key.score.0).0 (both_first (bytes_eq key.score.0 info.key.score.0) (key.kind == info.key.kind) it.1) in
        absurd (none (subst (λ (x : List ℕ). HasBitsOf bits x) (sym same) (marked info it.0)))

pub absent_either : {D : Type 0} (key : Key) (s after : ShardState D) (bits : Filter) (may_have : Bool) → (IsTrue may_have ↔ HasBitsOf bits key.score.0)
    → ((info : Info) → Contains s.index.dirty info → HasBitsOf bits info.key.score.0) → after.index.dirty ≡ s.index.dirty → (may_have ≡ true → dirty_info key after.index ≡ None)
    → dirty_info key after.index ≡ None
absent_either key s after bits true has marked same tested = tested refl
absent_either key s after bits false has marked same tested =
    same_dirty key s after same (no_dirty key s bits marked (λ it. let both : false ≡ true = has.1 it in absurd (cc)))

-- The tests of a write leave the log's queue and the shard's dirty entries.
use Rattle.std.proofs.Common.{◌≡◌, ⊎_elim, ℕ, Bool, true, false, List, Option, Some, None, Result, Ok, Err, refl, sym, ◌∙◌, ap, subst}
use Rattle.std.specs.Prelude.{MatchBool}
use Rattle.std.specs.Str.{bytes_eq}
use Rattle.vt_base.specs.declared.key.Key.{Key}
use Rattle.vt_base.specs.declared.place.Entry.{Entry}
use Rattle.vt_base.specs.declared.why.Why.{Why}
use Rattle.vt_base.specs.declared.why.Why.TheVariants.{Collision}
use Rattle.vt_arena.specs.declared.error.ReadBad.{ReadBad}
use Rattle.vt_disk.specs.Members.{DiskOf}
use Rattle.vt_isect.specs.declared.error.ShardErr.{ShardErr}
use Rattle.vt_log.specs.Log.{LogState}
use Rattle.vt_shard.specs.Looking.{Looks, looked}
use Rattle.vt_shard.specs.Shard.{ShardState}
use Rattle.vt_lookup.specs.declared.writing.Verdict.{Verdict}
use Rattle.vt_lookup.specs.Finding.{Compares, HoldsBlock, MayKeep, StoreParts, ReadsFound, SeeksBlock, SeeksOther, Sought, TakesLump, ReadsClump, TestsOther, TestsRoom, TestsWrite, with_shard}

-- the log is read from, and what is queued and dirty stays
pub record KeepsRoom {D : Type 0} (old new : StoreParts D) : Type 0 where
  pub log : new.log ≡ record old.log { disks = new.log.disks }
  pub dirty : new.shard.index.dirty ≡ old.shard.index.dirty

pub room_kept : {D : Type 0} (p : StoreParts D) → KeepsRoom p p
room_kept p = record { log = refl; dirty = refl }

pub room_then : {D : Type 0} (old mid new : StoreParts D) → KeepsRoom old mid → KeepsRoom mid new → KeepsRoom old new
room_then {D} old mid new a b = record {
  log = b.log ∙ ap (λ (l : LogState D). record l { disks = new.log.disks }) a.log;
  dirty = b.dirty ∙ a.dirty;
}

by_same : {D : Type 0} (old new : StoreParts D) → new ≡ old → KeepsRoom old new
by_same {D} old new same = subst (λ (p : StoreParts D). KeepsRoom old p) (sym same) (room_kept old)

by_looks : {D T : Type 0} (disk : DiskOf D) (n : ℕ) (r : Result T ShardErr) (p : StoreParts D) (old new : ShardState D) → old.index.dirty ≡ p.shard.index.dirty → Looks disk n r old new
    → KeepsRoom p (with_shard new p)
by_looks {D} disk n r p old new same looks = record { log = refl; dirty = ap (λ (s : ShardState D). s.index.dirty) looks.same ∙ same }

by_lump : {D : Type 0} (key : Key) (block : Sought) (old new : StoreParts D) → TakesLump key block old new → KeepsRoom old new
by_lump {D} key block old new it = subst (λ (p : StoreParts D). KeepsRoom old p) (sym it.new_is) (record { log = refl; dirty = refl })

kept_dirty : {D : Type 0} (key : Key) (answer : Result (List ℕ) ReadBad) (old new : ShardState D) → MayKeep key answer old new → new.index.dirty ≡ old.index.dirty
kept_dirty {D} key (Ok bytes) old new it = ⊎_elim (λ kept. ap (λ (s : ShardState D). s.index.dirty) kept) (λ same. ap (λ (s : ShardState D). s.index.dirty) same) it
kept_dirty {D} key (Err bad) old new it = ap (λ (s : ShardState D). s.index.dirty) it

by_clump : {D : Type 0} (score : List ℕ → List ℕ) (disk : DiskOf D) (entry : Entry) (block : Sought) (old new : StoreParts D) → ReadsClump score disk entry block old new → KeepsRoom old new
by_clump score disk entry block old new it = record { log = it.reads.same; dirty = kept_dirty entry.key it.answer old.shard new.shard it.keeps }

by_found : {D : Type 0} (score : List ℕ → List ℕ) (disk : DiskOf D) (found : Result (Option Entry) ShardErr) (block : Sought) (old new : StoreParts D)
    → ReadsFound score disk found block old new → KeepsRoom old new
by_found score disk (Err bad) block old new it = by_same old new it.1
by_found score disk (Ok None) block old new it = by_same old new it.1
by_found score disk (Ok (Some entry)) block old new it = ⊎_elim (λ lump. by_lump entry.key block old new lump) (λ clump. by_clump score disk entry block old new clump) it

pub seek_keeps : {D : Type 0} (score : List ℕ → List ℕ) (disk : DiskOf D) (may_have : Bool) (key : Key) (block : Sought) (old new : StoreParts D) → SeeksBlock score disk may_have key block old new → KeepsRoom old new
seek_keeps score disk false key block old new it = by_same old new it.1
seek_keeps score disk true key block old new it = ⊎_elim
    (λ lump. by_lump key block old new lump)
    (λ asks. room_then old (with_shard asks.shard old) new
    (by_looks disk _ asks.found old (looked key old.shard) asks.shard refl asks.looks.looks)
    (by_found score disk asks.found block (with_shard asks.shard old) new asks.reads))
    it

other_keeps : {D : Type 0} (score : List ℕ → List ℕ) (disk : DiskOf D) (may_have : Bool) (s : List ℕ) (block : Sought) (old new : StoreParts D) → SeeksOther score disk may_have s block old new → KeepsRoom old new
other_keeps score disk false s block old new it = by_same old new it.1
other_keeps score disk true s block old new it =
    room_then old (with_shard it.1 old) new
    (by_looks disk _ it.0 old old.shard it.1 refl it.2.looks)
    (by_found score disk it.0 block (with_shard it.1 old) new it.3)

room_keeps : {D : Type 0} (disk : DiskOf D) (s bytes : List ℕ) (verdict : Result Verdict Why) (old new : StoreParts D) → TestsRoom disk s bytes verdict old new → KeepsRoom old new
room_keeps {D} disk s bytes verdict old new it = record {
  log = subst (λ (l : LogState D). l ≡ record old.log { disks = l.disks }) (sym it.log) refl;
  dirty = ap (λ (t : ShardState D). t.index.dirty) it.counts.looks.same;
}

-- a comparison, where what follows keeps them
compare_keeps : {D : Type 0} (block : Sought) (bytes : List ℕ) (same none : Result Verdict Why → (old new : StoreParts D) → Type 0) (verdict : Result Verdict Why) (old new : StoreParts D)
    → ((v : Result Verdict Why) (a b : StoreParts D) → same v a b → KeepsRoom a b) → ((v : Result Verdict Why) (a b : StoreParts D) → none v a b → KeepsRoom a b)
    → Compares block bytes same none verdict old new → KeepsRoom old new
compare_keeps (Err why) bytes same none verdict old new of_same of_none it = by_same old new it.1
compare_keeps (Ok None) bytes same none verdict old new of_same of_none it = of_none verdict old new it
compare_keeps {D} (Ok (Some block)) bytes same none verdict old new of_same of_none it = by_bool (bytes_eq block bytes) it
  where
    by_bool : (b : Bool) → MatchBool b (same verdict old new) ((verdict ≡ Err Collision) × (new ≡ old)) → KeepsRoom old new
    by_bool true it = of_same verdict old new it
    by_bool false it = by_same old new it.1

pub test_keeps : {D : Type 0} (score : List ℕ → List ℕ) (disk : DiskOf D) (may_have : Bool) (key : Key) (bytes : List ℕ) (verdict : Result Verdict Why) (old new : StoreParts D)
    → TestsWrite score disk may_have key bytes verdict old new → KeepsRoom old new
test_keeps {D} score disk may_have key bytes verdict old new it =
    room_then old it.mid new (seek_keeps score disk may_have key it.own old it.mid it.seeks)
    (compare_keeps it.own bytes HoldsBlock (TestsOther score disk may_have key.score.0 bytes) verdict it.mid new
    (λ v a b held. by_same a b held.1)
    (λ v a b other. room_then a other.mid b (other_keeps score disk may_have key.score.0 other.other a other.mid other.seeks)
    (compare_keeps other.other bytes (TestsRoom disk key.score.0 bytes) (TestsRoom disk key.score.0 bytes) v other.mid b
    (room_keeps disk key.score.0 bytes) (room_keeps disk key.score.0 bytes) other.compares))
    it.compares)

-- A call that reads the selector or the current frame of the bucket under way.
use Rattle.std.proofs.Common.{◌≡◌, ◌≢◌, inl, inr, ℕ, ◌%◌, List, [], Some, None, Result, Ok, Err, IsTrue, refl, sym, ◌∙◌, subst, arith}
use Rattle.std.specs.Prelude.{OnOk}
use Rattle.vt_base.specs.declared.place.Entry.{Entry}
use Rattle.vt_base.specs.Faults.{CountsFault, one_more}
use Rattle.vt_disk.specs.Calls.{OnlyReads, MadeCalls}
use Rattle.vt_disk.specs.Members.{DiskOf}
use Rattle.vt_disk.proofs.Calls.{reads_as_writes}
use Rattle.vt_twin.specs.declared.step.Step.{Step}
use Rattle.vt_twin.specs.declared.step.Step.TheVariants.{More}
use Rattle.vt_isect.specs.declared.error.ShardErr.{ShardErr}
use Rattle.vt_isect.specs.declared.error.ShardErr.TheVariants.{Fault, Damaged, Stopped}
use Rattle.vt_isect.specs.declared.groups.Member.{Member}
use Rattle.vt_isect.specs.declared.head.Head.{Head}
use Rattle.vt_isect.specs.declared.phase.Phase.{Phase}
use Rattle.vt_isect.specs.declared.phase.Phase.TheVariants.{Rest, ReadFrame, WriteFrame}
use Rattle.vt_isect.specs.Faults.{is_section_fault}
use Rattle.vt_isect.specs.Section.{SectionState, PutsEntries}
use Rattle.vt_isect.specs.Sound.{KnownBuckets, IsFrameMade, IsSoundSection, StillNames, made_of}
use Rattle.vt_isect.specs.Writeback.{SectionAdvances, EndsWith, NextCallReads, KeepsDiskSound, NextPhase, SectionTakesStep}
use Rattle.vt_isect.proofs.Follows.{agrees_as, keeps_quiet}
use Rattle.vt_isect.proofs.IsRead.{read_apart, read_made, read_puts}
use Rattle.vt_isect.proofs.IsSoundSection.{KeepsGroup, group_stands, quiet_sound, todo_before, todo_then}
use Rattle.vt_isect.proofs.Settling.{ends_sound}
use Rattle.vt_isect.proofs.Writes.{read_syncs, read_writes}

on_ok : {T E P : Type 0} (r : Result T E) → P → OnOk r P
on_ok (Ok value) holds = holds
on_ok (Err bad) holds = tt

module _ {D : Type 0} (disk : DiskOf D) (t : SectionState D) (is : NextCallReads t.phase) (goes : t.stopped ≡ None) (d : D) (reads : OnlyReads disk 1 t.disk d) (made : MadeCalls disk 1 t.disk d) where
  -- the section behind it
  abbrev v : (next : Head) → Phase → (frame : List ℕ) → (group : List Member) → SectionState D
  v next p frame group = record t { disk = d; next = next; phase = p; frame = frame; group = group; calls = one_more t.calls }

  takes : (result : Result Step ShardErr) (next : Head) (p : Phase) (frame : List ℕ) (group : List Member) → CountsFault is_section_fault result (disk.faults t.disk) (disk.faults d)
      → (IsTrue disk.tells → KeepsDiskSound disk result t (v next p frame group)) → SectionAdvances result t (v next p frame group) → SectionTakesStep disk result t (v next p frame group)
  takes result next p frame group faults sound steps = record {
    sound = sound;
    steps = steps;
    written = λ told. on_ok result (read_writes t (disk.bytes t.disk) (disk.bytes d) reads.bytes is);
    settled = λ syncs. absurd (read_syncs t is syncs);
    writes = reads_as_writes disk _ 1 t.disk d reads;
    calls = made;
    faults = faults;
  }

  -- it ends the writeback
  ends_by : (bad : ShardErr) (u : SectionState D) → (bad ≢ Fault → (s : ℕ) × (t.phase ≡ ReadFrame s)) → ((n : ℕ) → bad ≢ Stopped n) → EndsWith t.head t u → SectionAdvances (Err bad) t u
  ends_by Fault u damaged other ends = inl (is, ends)
  ends_by (Damaged b want found) u damaged other ends = (damaged (λ e. cc), ends)
  ends_by (Stopped n) u damaged other ends = absurd (other n refl)

  pub read_ends : (bad : ShardErr) (frame : List ℕ) → CountsFault {T = Step} is_section_fault (Err bad) (disk.faults t.disk) (disk.faults d)
      → (bad ≢ Fault → (s : ℕ) × (t.phase ≡ ReadFrame s)) → ((n : ℕ) → bad ≢ Stopped n) → SectionTakesStep disk (Err bad) t (v t.head Rest frame [])
  read_ends bad frame faults damaged other =
      let u = v t.head Rest frame [] in
      takes (Err bad) t.head Rest frame [] faults
      (λ told. keeps_quiet (Err bad) t u _ _ _ _ (λ n done. let e = done.0 in cc)
      (λ known sound. ends_sound t u known _ _ _ _ refl refl refl refl refl goes (read_apart t.phase is) reads.bytes reads.images sound (λ j. omega (arith, read_made j t.phase is)))
      (λ score c h known agrees. agrees_as score c h t u known refl refl (inr refl) (λ entry way. absurd way.0) agrees))
      (ends_by bad u damaged other (record {
        section = record { buckets = refl; name = refl; entries = refl; most = refl };
        written = refl;
        group = refl;
        head_is = refl;
        next_is = refl;
        phase = refl;
        calls = refl;
        stopped = goes;
      }))

  -- or another call for the bucket is next
  module _ (q p : Phase) (frame : List ℕ) (at : t.phase ≡ q) (puts_on : PutsEntries p) (one : (j : ℕ) → made_of p j ≡ 1) (next : NextPhase q t (v t.next p frame t.group))
      (faults : disk.faults d ≡ disk.faults t.disk) where
    abbrev u : SectionState D
    u = v t.next p frame t.group

    keeps : KeepsGroup t u
    keeps = record {
      section = record { name = refl; head = refl; buckets = refl; twin = refl; entries = refl; written = refl; puts = read_puts t.phase is; puts_on = puts_on };
      group = refl;
      framed = refl;
      goes = goes;
    }

    pub read_goes : (IsTrue disk.tells → (k : ℕ) → p ≡ ReadFrame k → StillNames t (k % 2) (disk.bytes t.disk))
        → (IsTrue disk.tells → (known : KnownBuckets) → IsSoundSection t known (disk.bytes t.disk) (disk.images t.disk) → (k : ℕ) → p ≡ WriteFrame k
        → StillNames t k (disk.bytes t.disk) × ((entries : List Entry) → known t.bucket ≡ Some entries → IsFrameMade (record t { frame = frame }) entries))
        → SectionTakesStep disk (Ok More) t u
    read_goes selector current = takes (Ok More) t.next p frame t.group faults
        (λ told. keeps_quiet (Ok More) t u _ _ _ _ (λ n done. subst NextCallReads done.1 is)
        (λ known sound. quiet_sound t u known _ _ _ _ refl refl refl refl (read_apart t.phase is) (λ e. subst PutsEntries e puts_on)
        (λ n. group_stands t u keeps n (λ j m of here. one j ∙ sym (read_made j t.phase is))) reads.bytes reads.images
        (λ k e. subst (StillNames t (k % 2)) (sym reads.bytes) (selector told k e)) (λ k e. subst (StillNames t k) (sym reads.bytes) (current told known sound k e).0)
        (λ k entries e known_is. (current told known sound k e).1 entries known_is) sound)
        (λ score c h known agrees. agrees_as score c h t u known refl refl (inl (refl, todo_then t u keeps.section)) (todo_before t u keeps.section) agrees))
        (record { section = record { buckets = refl; name = refl; entries = refl; most = refl }; head_is = refl; next_is = refl; calls = refl }, goes, subst (λ (x : Phase). NextPhase x t u) (sym at) next)

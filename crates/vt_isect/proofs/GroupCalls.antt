-- The calls for a group of buckets: the writes of idle frames, the syncs and the writes of selectors.
use Rattle.std.proofs.Common.{◌≡◌, ⊎_elim, inl, inr, ℕ, List, length, Option, Some, None, Ok, Err, IsTrue, refl, sym, ◌∙◌, ap, subst, arith}
use Rattle.std.specs.Prelude.{IsSome}
use Rattle.vt_disk.specs.Calls.{WritesAt}
use Rattle.vt_disk.specs.Disk.{Only}
use Rattle.vt_disk.specs.DeviceCalls.{CallMade, TouchedBy}
use Rattle.vt_disk.specs.Members.{DiskOf}
use Rattle.vt_disk.proofs.Calls.{writes_wider}
use Rattle.vt_twin.specs.declared.step.Step.TheVariants.{More}
use Rattle.vt_isect.specs.declared.error.ShardErr.TheVariants.{Fault}
use Rattle.vt_isect.specs.declared.groups.Member.{Member}
use Rattle.vt_isect.specs.declared.phase.Phase.{Phase}
use Rattle.vt_isect.specs.declared.phase.Phase.TheVariants.{Rest, ReadSelector, ReadFrame, WriteFrame, SyncFrames, WriteSelector, SyncSelectors, ChangeHead}
use Rattle.vt_isect.specs.Section.{SectionState, ChangesGroup, HasGroup, IsGroup, IsWell, PutsEntries, call_count}
use Rattle.vt_isect.specs.Sound.{KnownBuckets, IsSoundSection, made_of}
use Rattle.vt_isect.specs.Writeback.{ComesNext, NextCallReads, JoinsGroup, MakesNext, MayWrite, NextPhase, SameGroup, SectionTakesStep, next_section_call, selector_write}
use Rattle.vt_isect.proofs.Follows.{KeepsAt, agrees_as, keeps_quiet}
use Rattle.vt_isect.proofs.IsRead.{changes_phase, whole_puts, read_puts}
use Rattle.vt_isect.proofs.IsSoundSection.{KeepsGroup, SameSection, todo_before, todo_then}
use Rattle.vt_isect.proofs.Joining.{HasJoined, frame_stops, joined_sound}
use Rattle.vt_isect.proofs.Keeps.{keeps_settled}
use Rattle.vt_isect.proofs.Selecting.{IsBehind, behind_whole, frames_sound, others_made, selector_sound, selector_stops, sync_stops, three_made}
use Rattle.vt_isect.proofs.Writes.{may_write, member_at, next_writes, syncs_next}

pub changes_puts : (p : Phase) → ChangesGroup p → PutsEntries p
changes_puts = changes_phase PutsEntries (λ s. tt) tt (λ j. tt) tt

no_read : (p : Phase) → ChangesGroup p → ¬ NextCallReads p
no_read = changes_phase (λ p. ¬ NextCallReads p) (λ s read. read) (λ read. read) (λ j read. read) (λ read. read)

module _ {D : Type 0} (disk : DiskOf D) (t : SectionState D) (buffer : Option (List ℕ)) (capacity : ℕ) (frames : List (Option ℕ))
    (well : IsWell disk (disk.size t.disk) t buffer capacity frames) (changes : ChangesGroup t.phase) (goes : t.stopped ≡ None)
    (is_image : IsTrue disk.tells → disk.images t.disk (disk.bytes t.disk)) (fits : IsTrue disk.tells → length (disk.bytes t.disk) ≡ disk.size t.disk)
    (d : D) (calls : ℕ) (stopped : Option ℕ) where
  -- the section behind the call, and nothing more
  abbrev m : SectionState D
  m = record t { disk = d; calls = calls; stopped = stopped }

  puts : PutsEntries t.phase
  puts = changes_puts t.phase changes

  group : IsGroup t
  group = well.group puts

  may : (e : D) → WritesAt disk (TouchedBy (next_section_call t.phase t)) 1 t.disk e → WritesAt disk (MayWrite t.phase t) 1 t.disk e
  may e = writes_wider disk _ _ (may_write t (disk.size t.disk) well.room group well.frame_len t.phase changes refl) 1 1 (omega arith) t.disk e

  -- ---- it fails

  stays : KeepsGroup t m
  stays = record {
    section = record { name = refl; head = refl; buckets = refl; twin = refl; entries = refl; written = refl; puts = puts; puts_on = puts };
    group = refl;
    framed = refl;
    goes = goes;
  }

  abbrev Stops : Phase → Type 0
  Stops p = t.phase ≡ p → WritesAt disk (TouchedBy (next_section_call p t)) 1 t.disk d
      → (known : KnownBuckets) → IsSoundSection t known (disk.bytes t.disk) (disk.images t.disk) → IsSoundSection m known (disk.bytes d) (disk.images d)

  stops_sound : IsTrue disk.tells → IsSome stopped → (p : Phase) → ChangesGroup p → Stops p
  stops_sound told some = changes_phase Stops
      (λ s is writes known sound. frame_stops t s is group goes (disk.size t.disk) known (disk.bytes t.disk) (disk.bytes d) (disk.images t.disk) (disk.images d) well.room well.frame_len (is_image told) (writes.bytes told)
      writes.images sound d calls stopped stays)
      (λ is writes known sound. sync_stops t m stays group (disk.size t.disk) well.room (disk.bytes t.disk) (disk.bytes d) (disk.images t.disk) (disk.images d) known (subst HasGroup (sym is) tt) sound (writes.bytes told) writes.images refl)
      (λ j is writes known sound.
      let at = member_at t (disk.size t.disk) well.room group j is in
      let wrote = subst (λ (o : Option Member). WritesAt disk (TouchedBy (selector_write t o)) 1 t.disk d) at.1 writes in
      selector_stops t m stays group (disk.size t.disk) well.room (disk.bytes t.disk) (disk.bytes d) (disk.images t.disk) (disk.images d) known (subst HasGroup (sym is) tt) sound
      j at.0 is at.1 (wrote.bytes told) wrote.images (λ i within other. refl) refl some)
      (λ is writes known sound. sync_stops t m stays group (disk.size t.disk) well.room (disk.bytes t.disk) (disk.bytes d) (disk.images t.disk) (disk.images d) known (subst HasGroup (sym is) tt) sound (writes.bytes told) writes.images refl)

  group_stops : {T E : Type 0} (failed : E) → CallMade {T = T} disk (next_section_call t.phase t) (Err failed) (call_count t) (call_count m) t.disk d → SectionTakesStep disk (Err Fault) t m
  group_stops failed makes =
      let is : stopped ≡ Some t.calls = ap (λ c. c.stopped) makes.counts in
      record {
        sound = λ told. keeps_quiet (Err Fault) t m _ _ _ _ (λ n done. let e = done.0 in cc)
            (stops_sound told (subst (λ (o : Option ℕ). IsSome o) (sym is) refl) t.phase changes refl makes.writes)
            (λ score c h known agrees. agrees_as score c h t m known refl refl (inl (refl, λ entry way. way)) (λ entry way. way) agrees);
        steps = inr (
          no_read t.phase changes,
          record { section = record { buckets = refl; name = refl; entries = refl; most = refl }; head_is = refl; next_is = refl; calls = ap (λ c. c.made) makes.counts },
          refl,
          record { written = refl; framed = refl; begun = refl; bucket = refl; group = refl },
          is,
        );
        written = λ told. tt;
        settled = λ syncs. tt;
        writes = may d makes.writes;
        calls = makes.calls;
        faults = makes.cause;
      }

  -- ---- it succeeds

  module _ (u : SectionState D) (next : ComesNext disk m u) where
    same_group_of : SameGroup m u → SameGroup t u
    same_group_of it = record { written = it.written; framed = it.framed; begun = it.begun; bucket = it.bucket; group = it.group }

    joins_of : (s : ℕ) → JoinsGroup s m u → JoinsGroup s t u
    joins_of s it = record { group = it.group; written = it.written }

    next_phase : (p : Phase) → NextPhase p m u → NextPhase p t u
    next_phase Rest it = it
    next_phase ReadSelector it = (it.0, same_group_of it.1)
    next_phase (ReadFrame s) it = (it.0, same_group_of it.1)
    next_phase (WriteFrame s) it = (joins_of s it.0, it.1)
    next_phase SyncFrames it = (it.0, same_group_of it.1)
    next_phase (WriteSelector j) it = (same_group_of it.0, it.1)
    next_phase SyncSelectors it = it
    next_phase ChangeHead it = (it.0, it.1, it.2, same_group_of it.3)

    section_of : u.written ≡ t.written → PutsEntries u.phase → SameSection t u
    section_of written puts_on = record {
      name = next.section.name;
      head = next.head_is;
      buckets = next.section.buckets;
      twin = next.group_twin (λ e. subst PutsEntries e puts_on);
      entries = next.section.entries;
      written = written;
      puts = puts;
      puts_on = puts_on;
    }

    joined_of : (s : ℕ) → NextPhase (WriteFrame s) t u → HasJoined s t u
    joined_of s it = record {
      section = section_of it.0.written (⊎_elim (λ here. read_puts u.phase here.1.0) (λ there. subst PutsEntries (sym there.0) tt) it.1);
      group = it.0.group;
      framed = ⊎_elim (λ here. here.1.1) (λ there. there.1) it.1;
      phase = ⊎_elim (λ here. inl here.1.0) (λ there. inr there.0) it.1;
    }

    keeps_of : SameGroup t u → HasGroup u.phase → KeepsGroup t u
    keeps_of it whole = record { section = section_of it.written (whole_puts u.phase whole); group = it.group; framed = it.framed; goes = goes }

    -- no bucket is completed, and the same is to be put into them
    quiet : (¬ (t.phase ≡ SyncSelectors)) → SameSection t u
        → ((known : KnownBuckets) → IsSoundSection t known (disk.bytes t.disk) (disk.images t.disk) → IsSoundSection u known (disk.bytes u.disk) (disk.images u.disk))
        → KeepsAt (Ok More) t u (disk.bytes t.disk) (disk.images t.disk) (disk.bytes u.disk) (disk.images u.disk)
    quiet other section sound = keeps_quiet (Ok More) t u _ _ _ _ (λ n done. other done.1) sound
        (λ score c h known agrees. agrees_as score c h t u known section.head section.buckets (inl (next.next_is, todo_then t u section)) (todo_before t u section) agrees)

    module _ {T : Type 0} (E : Type 0) (value : T) where
      abbrev MadeNext : Phase → Type 0
      MadeNext p = CallMade {E = E} disk (next_section_call p t) (Ok value) (call_count t) (call_count m) t.disk u.disk

      abbrev Goes : Phase → Type 0
      Goes p = t.phase ≡ p → NextPhase p t u → MadeNext p → KeepsAt (Ok More) t u (disk.bytes t.disk) (disk.images t.disk) (disk.bytes u.disk) (disk.images u.disk)

      goes_sound : IsTrue disk.tells → (p : Phase) → ChangesGroup p → Goes p
      goes_sound told = changes_phase Goes
          (λ s is to makes. quiet (λ e. cc) (joined_of s to).section
          (λ known sound. joined_sound t s is group goes (disk.size t.disk) known (disk.bytes t.disk) (disk.bytes u.disk) (disk.images t.disk) (disk.images u.disk) well.room well.frame_len (is_image told)
          (makes.writes.bytes told) makes.writes.images sound u (joined_of s to) (fits told) (makes.written told) (λ k e. next.named k told e)))
          (λ is to makes.
          let whole = subst HasGroup (sym to.0) tt in
          quiet (λ e. cc) (keeps_of to.1 whole).section
          (λ known sound. frames_sound t u (keeps_of to.1 whole) group (disk.size t.disk) well.room (disk.bytes t.disk) (disk.bytes u.disk) (disk.images t.disk) (disk.images u.disk) known whole sound
          (makes.writes.bytes told) makes.writes.images is to.0 (fits told) (makes.written told) (makes.settled refl told)))
          (λ j is to makes.
          let at = member_at t (disk.size t.disk) well.room group j is in
          let made = subst (λ (o : Option Member). CallMade {T = T} {E = E} disk (selector_write t o) (Ok value) (call_count t) (call_count m) t.disk u.disk) at.1 makes in
          let behind : IsBehind j (length t.group) u.phase = subst (λ (l : List Member). IsBehind j (length l) u.phase) to.0.group to.1 in
          let whole = behind_whole j (length t.group) u.phase behind in
          quiet (λ e. cc) (keeps_of to.0 whole).section
          (λ known sound. selector_sound t u (keeps_of to.0 whole) group (disk.size t.disk) well.room (disk.bytes t.disk) (disk.bytes u.disk) (disk.images t.disk) (disk.images u.disk) known whole sound
          j at.0 is at.1 (made.writes.bytes told) made.writes.images
          (λ i within other. others_made j (length t.group) u.phase behind i within other ∙ ap (λ (q : Phase). made_of q i) (sym is))
          (three_made j (length t.group) u.phase behind) (fits told) (made.written told)))
          (λ is to makes.
          let same = makes.written told in
          let settled : Only (disk.bytes t.disk) (disk.images u.disk) = λ c left. makes.settled refl told c left ∙ same in
          keeps_settled disk t u d calls stopped (disk.bytes t.disk) (disk.bytes u.disk) (disk.images t.disk) (disk.images u.disk) is goes group same
          (λ c left. subst (disk.images t.disk) (sym (settled c left)) (is_image told)) settled well.name_len next (λ k e. next.named k told e))

      group_goes : CallMade {E = E} disk (next_section_call t.phase t) (Ok value) (call_count t) (call_count m) t.disk d → SectionTakesStep disk (Ok More) t u
      group_goes made =
          let makes = subst (λ (e : D). CallMade {E = E} disk (next_section_call t.phase t) (Ok value) (call_count t) (call_count m) t.disk e) (sym next.disk_is) made in
          let to = next_phase t.phase next.phase in
          record {
            sound = λ told. goes_sound told t.phase changes refl to makes;
            steps = (
              record { section = record { buckets = next.section.buckets; name = next.section.name; entries = next.section.entries; most = next.section.most }; head_is = next.head_is; next_is = next.next_is; calls = next.calls ∙ ap (λ c. c.made) makes.counts },
              next.stopped ∙ ap (λ c. c.stopped) makes.counts ∙ goes,
              to,
            );
            written = λ told. next_writes t (disk.bytes t.disk) (disk.bytes u.disk) t.phase changes (makes.written told);
            settled = λ syncs. makes.settled (syncs_next t t.phase syncs);
            writes = may u.disk makes.writes;
            calls = makes.calls;
            faults = makes.cause;
          }

module _ {D : Type 0} (disk : DiskOf D) (t : SectionState D) (buffer : Option (List ℕ)) (capacity : ℕ) (frames : List (Option ℕ))
    (well : IsWell disk (disk.size t.disk) t buffer capacity frames) (changes : ChangesGroup t.phase) (goes : t.stopped ≡ None)
    (is_image : IsTrue disk.tells → disk.images t.disk (disk.bytes t.disk)) (fits : IsTrue disk.tells → length (disk.bytes t.disk) ≡ disk.size t.disk)
    {E : Type 0} (v : SectionState D) where
  pub step_stops : (failed : E) → MakesNext disk (Err failed) t v → SectionTakesStep disk (Err Fault) t v
  step_stops failed made = subst (SectionTakesStep disk (Err Fault) t) (sym made.same)
      (group_stops disk t buffer capacity frames well changes goes is_image fits v.disk v.calls v.stopped failed made.makes)

  pub step_goes : (value : Unit) → MakesNext {E = E} disk (Ok value) t v → (u : SectionState D) → ComesNext disk v u → SectionTakesStep disk (Ok More) t u
  step_goes value made u next =
      group_goes disk t buffer capacity frames well changes goes is_image fits v.disk v.calls v.stopped u
      (subst (λ (x : SectionState D). ComesNext disk x u) made.same next) E value made.makes

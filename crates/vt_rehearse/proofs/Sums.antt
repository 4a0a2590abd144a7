-- How the numbers of a rehearsal fit together.
use Rattle.std.proofs.Common.{◌≡◌, ◌+◌, ◌-◌, ◌≤◌, ℕ, Bool, true, false, cond, List, [], ◌∷◌, ◌++◌, length, refl, sym, ◌∙◌, ap, subst, arith}
use Rattle.std.proofs.lemmas.List.{length-append, length-take}
use Rattle.std.proofs.lemmas.List.Sums.{sum_by-cons}
use Rattle.std.specs.List.{count_by}
use Rattle.std.specs.Prelude.{◌&&◌}
use Rattle.vt_disk.specs.Members.{DiskOf}
use Rattle.vt_memdisk.specs.declared.crash.CrashMode.{CrashMode}
use Rattle.vt_core.specs.Core.{history_len}
use Rattle.vt_rehearse.specs.declared.rounds.Round.{Round}
use Rattle.vt_rehearse.specs.declared.rounds.Round.TheVariants.{Write, Read, Sync, Commit, Begin, Advance, Evict, Crash}
use Rattle.vt_rehearse.specs.declared.summary.Summary.{Summary}
use Rattle.vt_rehearse.specs.Counts.{nothing_done, with_compared, with_crash, with_events, with_read, with_synced, with_write}
use Rattle.vt_rehearse.specs.Rehearsal.{CrashesIn, LooksUpAll, MakesRound, MakesAll, WritesWord, listed_after}
use Rattle.vt_rehearse.specs.Stage.{StageState}
use Rattle.vt_rehearse.specs.Summary.{AddsUp, is_crash, is_read, is_sync, is_write}

-- From one summary to another so many writes, reads, syncs and crashes. The list was so long before,
-- and is so long behind.
record Sums (writes reads syncs crashes before behind : ℕ) (old new : Summary) : Type 0 where
  more_writes : new.writes ≡ old.writes + writes
  more_reads : new.reads ≡ old.reads + reads
  more_syncs : new.syncs ≡ old.syncs + syncs
  more_crashes : new.crashes ≡ old.crashes + crashes
  answers : new.accepted + new.held + old.writes ≡ old.accepted + old.held + new.writes
  finds : new.found + new.missing + old.reads ≡ old.found + old.missing + new.reads
  blocks : behind + new.lost + old.accepted ≡ before + old.lost + new.accepted
  compares : new.compared + old.writes + old.reads + old.syncs + old.crashes ≡ old.compared + new.writes + new.reads + new.syncs + new.crashes
  same : new.ok ≡ old.ok

sums_then : (w r s c w' r' s' c' m n o : ℕ) (old mid new : Summary) → Sums w r s c m n old mid → Sums w' r' s' c' n o mid new → Sums (w + w') (r + r') (s + s') (c + c') m o old new
sums_then w r s c w' r' s' c' m n o old mid new a b =
    let aw = a.more_writes in let bw = b.more_writes in
    let ar = a.more_reads in let br = b.more_reads in
    let sa = a.more_syncs in let sb = b.more_syncs in
    let ac = a.more_crashes in let bc = b.more_crashes in
    let aa = a.answers in let ba = b.answers in
    let af = a.finds in let bf = b.finds in
    let ab = a.blocks in let bb = b.blocks in
    let ao = a.compares in let bo = b.compares in
    record {
      more_writes = omega (arith, aw, bw);
      more_reads = omega (arith, ar, br);
      more_syncs = omega (arith, sa, sb);
      more_crashes = omega (arith, ac, bc);
      answers = omega (arith, aa, ba);
      finds = omega (arith, af, bf, ar, br);
      blocks = omega (arith, ab, bb);
      compares = omega (arith, ao, bo);
      same = b.same ∙ a.same;
    }

-- one round more
counted_on : (round : Round) (rounds : List Round) (m n : ℕ) (old new : Summary)
    → Sums (cond (is_write round) 1 0 + count_by is_write rounds) (cond (is_read round) 1 0 + count_by is_read rounds) (cond (is_sync round) 1 0 + count_by is_sync rounds)
    (cond (is_crash round) 1 0 + count_by is_crash rounds) m n old new
    → Sums (count_by is_write (round ∷ rounds)) (count_by is_read (round ∷ rounds)) (count_by is_sync (round ∷ rounds)) (count_by is_crash (round ∷ rounds)) m n old new
counted_on round rounds m n old new it =
    let writes : count_by is_write (round ∷ rounds) ≡ cond (is_write round) 1 0 + count_by is_write rounds = sum_by-cons (λ x. cond (is_write x) 1 0) round rounds in
    let reads : count_by is_read (round ∷ rounds) ≡ cond (is_read round) 1 0 + count_by is_read rounds = sum_by-cons (λ x. cond (is_read x) 1 0) round rounds in
    let syncs : count_by is_sync (round ∷ rounds) ≡ cond (is_sync round) 1 0 + count_by is_sync rounds = sum_by-cons (λ x. cond (is_sync x) 1 0) round rounds in
    let crashes : count_by is_crash (round ∷ rounds) ≡ cond (is_crash round) 1 0 + count_by is_crash rounds = sum_by-cons (λ x. cond (is_crash x) 1 0) round rounds in
    record {
      more_writes = subst (λ (k : ℕ). new.writes ≡ old.writes + k) (sym writes) it.more_writes;
      more_reads = subst (λ (k : ℕ). new.reads ≡ old.reads + k) (sym reads) it.more_reads;
      more_syncs = subst (λ (k : ℕ). new.syncs ≡ old.syncs + k) (sym syncs) it.more_syncs;
      more_crashes = subst (λ (k : ℕ). new.crashes ≡ old.crashes + k) (sym crashes) it.more_crashes;
      answers = it.answers;
      finds = it.finds;
      blocks = it.blocks;
      compares = it.compares;
      same = it.same;
    }

and_true : (b : Bool) → (b && true) ≡ b
and_true true = refl
and_true false = refl

-- ---- one round

no_sums : (n : ℕ) (s : Summary) → Sums 0 0 0 0 n n s s
no_sums n s = record { more_writes = omega arith; more_reads = omega arith; more_syncs = omega arith; more_crashes = omega arith; answers = omega arith; finds = refl; blocks = refl; compares = refl; same = refl }

work_sums : (n events : ℕ) (s : Summary) → Sums 0 0 0 0 n n s (with_events events s)
work_sums n events s = record { more_writes = omega arith; more_reads = omega arith; more_syncs = omega arith; more_crashes = omega arith; answers = omega arith; finds = refl; blocks = refl; compares = refl; same = refl }

write_sums : (is_held : Bool) (word : ℕ) (listed : List ℕ) (s : Summary) → Sums 1 0 0 0 (length listed) (length (listed_after is_held word listed)) s (with_write is_held (with_compared true s))
write_sums true word listed s = record { more_writes = omega arith; more_reads = omega arith; more_syncs = omega arith; more_crashes = omega arith; answers = omega arith; finds = refl; blocks = omega arith; compares = omega arith; same = and_true s.ok }
write_sums false word listed s =
    let long : length (listed ++ word ∷ []) ≡ length listed + 1 = length-append listed (word ∷ []) in
    record { more_writes = omega arith; more_reads = omega arith; more_syncs = omega arith; more_crashes = omega arith; answers = omega arith; finds = refl; blocks = omega (arith, long); compares = omega arith; same = and_true s.ok }

read_sums : (is_found : Bool) (n : ℕ) (s : Summary) → Sums 0 1 0 0 n n s (with_read is_found (with_compared true s))
read_sums true n s = record { more_writes = omega arith; more_reads = omega arith; more_syncs = omega arith; more_crashes = omega arith; answers = omega arith; finds = omega arith; blocks = refl; compares = omega arith; same = and_true s.ok }
read_sums false n s = record { more_writes = omega arith; more_reads = omega arith; more_syncs = omega arith; more_crashes = omega arith; answers = omega arith; finds = omega arith; blocks = refl; compares = omega arith; same = and_true s.ok }

sync_sums : (n events : ℕ) (s : Summary) → Sums 0 0 1 0 n n s (with_synced (with_compared true (with_events events s)))
sync_sums n events s = record { more_writes = omega arith; more_reads = omega arith; more_syncs = omega arith; more_crashes = omega arith; answers = omega arith; finds = refl; blocks = refl; compares = omega arith; same = and_true s.ok }

crash_sums : (before behind : ℕ) (s : Summary) → behind ≤ before → Sums 0 0 0 1 before behind s (with_crash (before - behind) (with_compared true s))
crash_sums before behind s less = record { more_writes = omega arith; more_reads = omega arith; more_syncs = omega arith; more_crashes = omega arith; answers = omega arith; finds = refl; blocks = omega (arith, less); compares = omega arith; same = and_true s.ok }

module _ {D : Type 0} (score : List ℕ → List ℕ) (disk : DiskOf D) (Leaves : CrashMode → D → List ℕ → Type 0) where
  of_write : (session word : ℕ) (old new : StageState D) → WritesWord score disk session word old new → Sums 1 0 0 0 (length old.listed) (length new.listed) old.summary new.summary
  of_write session word old new it =
      subst (λ (s : StageState D). Sums 1 0 0 0 (length old.listed) (length s.listed) old.summary s.summary) (sym it.same) (write_sums it.is_held word old.listed old.summary)

  of_work : (n events : ℕ) (old new : StageState D) → new ≡ record old { core = new.core; summary = with_events events old.summary } → Sums 0 0 0 0 (length old.listed) (length new.listed) old.summary new.summary
  of_work n events old new same = subst (λ (s : StageState D). Sums 0 0 0 0 (length old.listed) (length s.listed) old.summary s.summary) (sym same) (work_sums (length old.listed) events old.summary)

  of_crash : (mode : CrashMode) (old new : StageState D) → CrashesIn score disk Leaves mode old new → Sums 0 0 0 1 (length old.listed) (length new.listed) old.summary new.summary
  of_crash mode old new it =
      let cut = length-take (history_len new.core) old.listed in
      let within = it.within in
      let len : length new.listed ≡ history_len new.core = ap length it.listed ∙ omega (arith, cut, within) in
      subst (λ (s : Summary). Sums 0 0 0 1 (length old.listed) (length new.listed) old.summary s) (sym it.counts)
      (subst (λ (n : ℕ). Sums 0 0 0 1 (length old.listed) n old.summary (with_crash (length old.listed - history_len new.core) (with_compared true old.summary))) (sym len)
      (crash_sums (length old.listed) (history_len new.core) old.summary within))

  -- what rounds add, from one stage to another
  abbrev SumsOf : (rounds : List Round) → (old new : StageState D) → Type 0
  SumsOf rounds old new = Sums (count_by is_write rounds) (count_by is_read rounds) (count_by is_sync rounds) (count_by is_crash rounds) (length old.listed) (length new.listed) old.summary new.summary

  all_sums : (rounds : List Round) (old new : StageState D) → MakesAll score disk Leaves rounds old new
      → Sums (count_by is_write rounds) (count_by is_read rounds) (count_by is_sync rounds) (count_by is_crash rounds) (length old.listed) (length new.listed) old.summary new.summary
  all_sums [] old new same = subst (λ (s : StageState D). Sums 0 0 0 0 (length old.listed) (length s.listed) old.summary s.summary) (sym same) (no_sums (length old.listed) old.summary)
  all_sums (round ∷ rounds) old new (mid, makes, rest) =
      counted_on round rounds (length old.listed) (length new.listed) old.summary new.summary (by round makes (all_sums rounds mid new rest))
    where
      on : SumsOf rounds mid new → (w r s c : ℕ) → Sums w r s c (length old.listed) (length mid.listed) old.summary mid.summary
          → Sums (w + count_by is_write rounds) (r + count_by is_read rounds) (s + count_by is_sync rounds) (c + count_by is_crash rounds) (length old.listed) (length new.listed) old.summary new.summary
      on behind w r s c first = sums_then w r s c (count_by is_write rounds) (count_by is_read rounds) (count_by is_sync rounds) (count_by is_crash rounds)
          (length old.listed) (length mid.listed) (length new.listed) old.summary mid.summary new.summary first behind

      by : (round : Round) → MakesRound score disk Leaves round old mid → SumsOf rounds mid new
          → Sums (cond (is_write round) 1 0 + count_by is_write rounds) (cond (is_read round) 1 0 + count_by is_read rounds) (cond (is_sync round) 1 0 + count_by is_sync rounds)
          (cond (is_crash round) 1 0 + count_by is_crash rounds) (length old.listed) (length new.listed) old.summary new.summary
      by (Write session word) it behind = on behind 1 0 0 0 (of_write session word old mid it)
      by (Read session word) it behind = on behind 0 1 0 0
          (subst (λ (s : StageState D). Sums 0 1 0 0 (length old.listed) (length s.listed) old.summary s.summary) (sym it.same) (read_sums it.is_found (length old.listed) old.summary))
      by (Sync session) it behind = on behind 0 0 1 0
          (subst (λ (s : StageState D). Sums 0 0 1 0 (length old.listed) (length s.listed) old.summary s.summary) (sym it.same) (sync_sums (length old.listed) (it.calls + 2) old.summary))
      by Commit it behind = on behind 0 0 0 0 (of_work 0 1 old mid it.same)
      by (Begin shard) it behind = on behind 0 0 0 0 (of_work 0 1 old mid it.same)
      by (Advance shard) it behind = on behind 0 0 0 0 (of_work 0 1 old mid it.same)
      by (Evict shard) it behind = on behind 0 0 0 0 (of_work 0 2 old mid it.same)
      by (Crash mode) it behind = on behind 0 0 0 1 (of_crash mode old mid it)

  -- what is looked up at the end is compared, and no more
  looks_sum : (words : List ℕ) (old new : StageState D) → LooksUpAll score disk words old new
      → (new.listed ≡ old.listed) × (new.summary ≡ record old.summary { compared = old.summary.compared + length words })
  looks_sum [] old new same =
      let none : old.summary.compared ≡ old.summary.compared + 0 = omega arith in
      (ap (λ (s : StageState D). s.listed) same, ap (λ (s : StageState D). s.summary) same ∙ ap (λ (n : ℕ). record old.summary { compared = n }) none)
  looks_sum (word ∷ words) old new (mid, (is_found, look), rest) =
      let behind = looks_sum words mid new rest in
      let first : mid.summary ≡ with_compared true old.summary = ap (λ (s : StageState D). s.summary) look.same in (
        behind.0 ∙ ap (λ (s : StageState D). s.listed) look.same,
        behind.1 ∙ ap (λ (s : Summary). record s { compared = s.compared + length words }) first
            ∙ ap (λ (ok : Bool). record old.summary { compared = old.summary.compared + 1 + length words; ok = ok }) (and_true old.summary.ok)
            ∙ ap (λ (n : ℕ). record old.summary { compared = n }) (omega arith),
      )

  pub adds_up : (rounds : List Round) (words : List ℕ) (first last end : StageState D) (s : Summary) → length words ≡ 64 → first.listed ≡ [] → first.summary ≡ nothing_done
      → MakesAll score disk Leaves rounds first last → LooksUpAll score disk words last end → history_len end.core ≡ length end.listed → s ≡ record end.summary { blocks = history_len end.core } → AddsUp rounds s
  adds_up rounds words first last end s many unlisted uncounted makes looks len is =
      let sums = subst (λ (x : Summary). Sums (count_by is_write rounds) (count_by is_read rounds) (count_by is_sync rounds) (count_by is_crash rounds) 0 (length last.listed) x last.summary) uncounted
      (subst (λ (l : List ℕ). Sums (count_by is_write rounds) (count_by is_read rounds) (count_by is_sync rounds) (count_by is_crash rounds) (length l) (length last.listed) first.summary last.summary) unlisted
      (all_sums rounds first last makes)) in
      let looked = looks_sum words last end looks in
      let long : length last.listed ≡ history_len end.core = ap length (sym looked.0) ∙ sym len in
      let whole : s ≡ record last.summary { compared = last.summary.compared + length words; blocks = history_len end.core } =
      is ∙ ap (λ (x : Summary). record x { blocks = history_len end.core }) looked.1 in
      subst (λ (x : Summary). AddsUp rounds x) (sym whole)
      (let writes = sums.more_writes in
      let reads = sums.more_reads in
      let syncs = sums.more_syncs in
      let crashes = sums.more_crashes in
      let answers = sums.answers in
      let finds = sums.finds in
      let blocks = sums.blocks in
      let compares = sums.compares in
      record {
        writes = omega (arith, writes);
        reads = omega (arith, reads);
        syncs = omega (arith, syncs);
        crashes = omega (arith, crashes);
        answers = omega (arith, answers);
        found = omega (arith, finds);
        blocks = omega (arith, blocks, long);
        compared = omega (arith, compares, many);
        ok = sums.same;
      })

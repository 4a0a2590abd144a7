-- The list behind a crash, cut to the blocks that are left.
use Rattle.std.proofs.Common.{◌≡◌, ◌+◌, ◌-◌, ◌≤◌, ℕ, true, List, length, take, sym, ◌∙◌, ap, subst, arith}
use Rattle.std.proofs.lemmas.List.{length-take}
use Rattle.vt_disk.specs.Members.{DiskOf}
use Rattle.std.specs.Prelude.{drop}
use Rattle.std.specs.List.{All}
use Rattle.vt_model.specs.History.{History}
use Rattle.vt_model.specs.Places.{Setup}
use Rattle.vt_core.specs.Core.{CoreState, history_len, machine_of, setup_of}
use Rattle.vt_core.specs.Machine.{Crashes}
use Rattle.vt_memdisk.specs.declared.crash.CrashMode.{CrashMode}
use Rattle.vt_rehearse.specs.declared.summary.Summary.{Summary}
use Rattle.vt_rehearse.specs.Counts.{with_compared, with_crash}
use Rattle.vt_rehearse.specs.Crashed.{KeepsSealed, Restarts}
use Rattle.vt_rehearse.specs.Limits.{AreAtMost, GrowsByRound}
use Rattle.vt_rehearse.specs.Rehearsal.{CrashesIn, NotesWhether}
use Rattle.vt_rehearse.specs.Stage.{AreAlike, HasWords, IsFilled, IsSteady, StageState, none_waits}
use Rattle.vt_rehearse.proofs.Asking.{take_words}
use Rattle.vt_rehearse.proofs.Limits.{more, more_compared, more_crash}
use Rattle.vt_rehearse.proofs.Noting.{found_right}
use Rattle.vt_rehearse.proofs.Room.{filled_left}
use Rattle.vt_rehearse.proofs.Staged.{few_listed}
use Rattle.vt_rehearse.proofs.Listed.{same_many}
use Rattle.vt_rehearse.proofs.Stepping.{len_is}

module _ {D : Type 0} (score : List ℕ → List ℕ) (disk : DiskOf D) where
  pub record Cut (old : StageState D) (core : CoreState D) : Type 0 where
    pub keeps : old.core.synced ≤ history_len core
    pub within : history_len core ≤ length old.listed
    pub alike : (new : StageState D) → new.core ≡ core → new.listed ≡ take (history_len core) old.listed → AreAlike score disk new

  pub cut_so : (old : StageState D) (core : CoreState D) (alike : AreAlike score disk old)
      → (g : History) × Crashes (machine_of old.core alike.history) (machine_of core g) × IsSteady score disk core g × (core.waiting ≡ none_waits) × KeepsSealed core.log.base alike.history g → Cut old core
  cut_so old core alike (g, crash, steady, waiting, sealed) =
      let n = crash.n in
      let fits = crash.within in
      let kept = crash.keeps in
      let cut = length-take n alike.history in
      let many = same_many alike.history old.listed alike.list in
      let left : length g ≡ length (take n alike.history) = ap length crash.history in
      let len : history_len core ≡ length g = len_is score disk core g steady in
      let is : history_len core ≡ n = omega (arith, len, left, cut, fits) in
      let words : HasWords g (take (history_len core) old.listed) =
      subst (λ (x : History). HasWords x (take (history_len core) old.listed)) (sym crash.history)
      (subst (λ (m : ℕ). HasWords (take n alike.history) (take m old.listed)) (sym is) (take_words alike.history old.listed n fits alike.list)) in
      let long : length g ≡ n = omega (arith, left, cut, fits) in
      let others : All (λ e. core.log.base ≤ e.arena) (drop n alike.history) = subst (λ (m : ℕ). All (λ e. core.log.base ≤ e.arena) (drop m alike.history)) long sealed in
      let filled : IsFilled (setup_of core) g =
      subst (λ (c : Setup). IsFilled c g) (sym crash.setup) (subst (λ (x : History). IsFilled (record (setup_of old.core) { base = core.log.base }) x) (sym crash.history)
      (filled_left (setup_of old.core) alike.history n core.log.base alike.filled others crash.base_least crash.base_most)) in
      record {
        keeps = omega (arith, kept, is);
        within = omega (arith, is, fits, many);
        alike = λ new core_is listed_is. record {
          history = g;
          store = subst (λ (k : CoreState D). IsSteady score disk k g) (sym core_is) steady;
          free = ap (λ (k : CoreState D). k.waiting) core_is ∙ waiting;
          list = subst (λ (l : List ℕ). HasWords g l) (sym listed_is) words;
          filled = subst (λ (k : CoreState D). IsFilled (setup_of k) g) (sym core_is) filled;
        };
      }

  -- what is counted and listed of a crash
  module _ (Leaves : CrashMode → D → List ℕ → Type 0) (mode : CrashMode) (old : StageState D) (core : CoreState D) (alike : AreAlike score disk old) (cut : Cut old core)
      (synced left : ℕ) (synced_is : synced ≡ old.core.synced) (judged : StageState D)
      (judges : NotesWhether ((synced ≤ history_len core) × (history_len core ≤ length old.listed)) (record old { core = core }) judged) (left_is : left ≡ history_len judged.core) where
    judged_is : judged ≡ record old { core = core; summary = with_compared true old.summary }
    judged_is =
        let kept = cut.keeps in
        found_right ((synced ≤ history_len core) × (history_len core ≤ length old.listed)) (record old { core = core }) judged judges (omega (arith, kept, synced_is), cut.within)

    left_len : left ≡ history_len core
    left_len = left_is ∙ ap (λ (s : StageState D). history_len s.core) judged_is

    pub few_left : length judged.listed ≤ 64
    few_left = subst (λ (s : StageState D). length s.listed ≤ 64) (sym judged_is) (few_listed score disk old alike)

    pub left_fits : left ≤ length judged.listed
    left_fits =
        let within = cut.within in
        let len = left_len in
        subst (λ (s : StageState D). left ≤ length s.listed) (sym judged_is) (omega (arith, len, within))

    module _ (new : StageState D) (noted : new ≡ record judged { listed = take left judged.listed; summary = with_crash (length judged.listed - left) judged.summary }) where
      whole : new ≡ record { core = core; listed = take (history_len core) old.listed; summary = with_crash (length old.listed - history_len core) (with_compared true old.summary) }
      whole = noted ∙ ap (λ (s : StageState D). record s { listed = take left s.listed; summary = with_crash (length s.listed - left) s.summary }) judged_is
          ∙ ap (λ (n : ℕ). record { core = core; listed = take n old.listed; summary = with_crash (length old.listed - n) (with_compared true old.summary) }) left_len

      core_is : new.core ≡ core
      core_is = ap (λ (s : StageState D). s.core) whole

      pub crashes_in : Restarts score disk Leaves mode old.core core → CrashesIn score disk Leaves mode old new
      crashes_in restarts = record {
        restarts = subst (λ (k : CoreState D). Restarts score disk Leaves mode old.core k) (sym core_is) restarts;
        keeps = subst (λ (k : CoreState D). old.core.synced ≤ history_len k) (sym core_is) cut.keeps;
        within = subst (λ (k : CoreState D). history_len k ≤ length old.listed) (sym core_is) cut.within;
        listed = ap (λ (s : StageState D). s.listed) whole ∙ ap (λ (k : CoreState D). take (history_len k) old.listed) (sym core_is);
        counts = ap (λ (s : StageState D). s.summary) whole ∙ ap (λ (k : CoreState D). with_crash (length old.listed - history_len k) (with_compared true old.summary)) (sym core_is);
      }

      pub alike_cut : AreAlike score disk new
      alike_cut = cut.alike new core_is (ap (λ (s : StageState D). s.listed) whole)

      pub grows_cut : GrowsByRound old.summary new.summary
      grows_cut most it =
          let few = few_listed score disk old alike in
          let lost = length old.listed - history_len core in
          subst (λ (s : Summary). AreAtMost (most + 8192) s) (sym (ap (λ (s : StageState D). s.summary) whole))
          (more (most + 1 + lost + 1) (most + 8192) (with_crash lost (with_compared true old.summary)) (omega (arith, few))
          (more_crash (most + 1) lost (with_compared true old.summary) (more_compared most true old.summary it)))

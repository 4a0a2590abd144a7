-- The block that comes next on the way back through a log.
use Rattle.std.proofs.Common.{◌≡◌, ℕ, ◌+◌, List, Option, Some, refl, sym, subst}
use Rattle.std.specs.Prelude.{IsTrue, IfErr, MatchResult, MatchOption, Result, Ok, Err}
use Rattle.vt_arena.specs.Directory.{NamesDamage, is_back_fault}
use Rattle.vt_arena.specs.declared.error.BackBad.{BackBad}
use Rattle.vt_arena.specs.declared.error.BackBad.TheVariants as back_bad
use Rattle.vt_base.specs.declared.place.Info.{Info}
use Rattle.vt_base.specs.declared.place.Place.{Place}
use Rattle.vt_base.specs.declared.why.FieldValue.{FieldValue}
use Rattle.vt_disk.specs.Members.{DiskOf}
use Rattle.vt_log.specs.Answers.{OnlyReadsLog}
use Rattle.vt_log.specs.Back.{IsTailBehind, IsInfoInLog, IsTailOf, StepsBack, TailState}
use Rattle.vt_log.specs.Faults.{CountsFaults}
use Rattle.vt_log.specs.Log.{LogState}
use Rattle.vt_log.specs.Sound.{IsSoundLog}
use Rattle.vt_model.specs.History.{History}
use Rattle.vt_rebuild.specs.declared.error.RebuildBad.TheVariants.{Fault, Damaged}
use Rattle.vt_rebuild.specs.Walking.{GivesNext}

-- what is said of the call
pub record BackAnswers {D : Type 0} (score : List ℕ → List ℕ) (disk : DiskOf D) (l new : LogState D) (t after : TailState) (r : Result (Option Info) BackBad) : Type 0 where
  pub blocks : (h : History) (n : ℕ) → IsTrue disk.tells → IsSoundLog score disk l h → IsTailBehind l h n t
      → MatchResult r (StepsBack score l h n after) (λ bad. (bad ≡ back_bad.Fault) × IsTailBehind l h n after)
  pub differs : IfErr r NamesDamage
  pub tail : IsTailOf new after
  pub left : MatchResult r (λ it. MatchOption it (after.left ≡ t.left) (λ _. after.left + 1 ≡ t.left)) (λ _. after.left ≡ t.left)
  pub reads : OnlyReadsLog score disk 1 l new
  pub cause : CountsFaults disk is_back_fault r l.disks new.disks

pub gives_block : {D : Type 0} (score : List ℕ → List ℕ) (disk : DiskOf D) (l new : LogState D) (t after : TailState) (info : Info)
    → BackAnswers score disk l new t after (Ok (Some info)) → GivesNext score disk (Ok info) l new t after
gives_block score disk l new t after info back = record {
  blocks = λ h tells sound behind.
      let own = back.blocks h t.left tells sound behind in
      let number : own.0 ≡ after.left = sym own.3.left in
      (subst (λ (m : ℕ). IsInfoInLog score l h m info) number own.2, subst (λ (m : ℕ). IsTailBehind l h m after) number own.3);
  left = back.left;
  tail = back.tail;
  reads = back.reads;
  faults = back.cause;
  ends_early = tt;
}

pub gives_fault : {D : Type 0} (score : List ℕ → List ℕ) (disk : DiskOf D) (l new : LogState D) (t after : TailState)
    → BackAnswers score disk l new t after (Err back_bad.Fault) → GivesNext score disk (Err Fault) l new t after
gives_fault score disk l new t after back = record {
  blocks = λ h tells sound behind. refl;
  left = tt;
  tail = back.tail;
  reads = back.reads;
  faults = back.cause;
  ends_early = tt;
}

pub gives_damage : {D : Type 0} (score : List ℕ → List ℕ) (disk : DiskOf D) (l new : LogState D) (t after : TailState) (want found : FieldValue) (place : Place)
    → BackAnswers score disk l new t after (Err (back_bad.Damaged want found)) → GivesNext score disk (Err (Damaged place want found)) l new t after
gives_damage score disk l new t after want found place back = record {
  blocks = λ h tells sound behind. let no : back_bad.Damaged want found ≡ back_bad.Fault = (back.blocks h t.left tells sound behind).0 in absurd (cc);
  left = tt;
  tail = back.tail;
  reads = back.reads;
  faults = back.cause;
  ends_early = back.differs;
}

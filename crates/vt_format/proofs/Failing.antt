-- Which partition wasn't handed out, or a call of which failed, told behind one that was handed out
-- meanwhile.
use Rattle.std.proofs.Common.{◌≡◌, ◌≢◌, inl, inr, ⊎_elim, ℕ, suc, ◌+◌, List, [], ◌∷◌, Some, None, refl, sym, ◌∙◌, ap, subst, arith}
use Rattle.std.proofs.lemmas.List.Elements.{All-cons}
use Rattle.std.proofs.lemmas.List.Kept.{AllPairs-cons}
use Rattle.vt_base.specs.Faults.{HasRisen}
use Rattle.vt_conf.specs.declared.conf.PartFile.{PartFile}
use Rattle.vt_disk.specs.Members.{DiskOf}
use Rattle.vt_format.specs.declared.index.IndexError.{IndexError}
use Rattle.vt_format.specs.declared.index.IndexError.TheVariants.{Fault, Refused, Stopped}
use Rattle.vt_format.specs.Index.{IndexFails, FailsAt, IsFirstMissing}
use Rattle.vt_format.proofs.Rounds.{Round, new_is, old_is, other}
use Rattle.vt_partitions.specs.Parts.{Standing, there}

module _ {D : Type 0} (disk : DiskOf D) (told : Type 0) (number : ℕ) (file : PartFile) (files : List PartFile) (s0 s1 s2 s3 : List ℕ → Standing D)
    (d e : D) (turn : told → Round file.name s0 s1 s2 s3 d e) where
  later_missing : (part : ℕ) → IsFirstMissing told (number + 1) files s1 s2 part → IsFirstMissing told number (file ∷ files) s0 s3 part
  later_missing part it = record {
    front = file ∷ it.front;
    file = it.file;
    behind = it.behind;
    files_are = ap (λ (l : List PartFile). file ∷ l) it.files_are;
    part_is = omega (arith, it.part_is);
    handed = λ yes. All-cons (λ (one : PartFile). (device : D) × (s0 one.name ≡ there device)) file it.front (d, (turn yes).was)
        (λ k x within.
        let stood = it.handed yes k x within in
        (stood.0, old_is file.name s0 s1 s2 s3 d e (turn yes) _ stood.0 stood.1));
    apart = λ yes. AllPairs-cons (λ (a b : PartFile). a.name ≢ b.name) file it.front
        (λ k x within same.
        let stood = it.handed yes k x within in
        other file.name s0 s1 s2 s3 d e (turn yes) _ stood.0 stood.1 (sym same))
        (it.apart yes);
    others = λ yes n no.
        let apart_from : n ≢ file.name = λ same. no (0, omega arith, sym same) in
        (turn yes).taken n apart_from
        ∙ it.others yes n (λ among. no (suc among.0, omega (arith, among.1), among.2))
        ∙ (turn yes).handed n apart_from;
  }

  later_at : (part : ℕ) → FailsAt disk told (number + 1) files s1 s2 part → FailsAt disk told number (file ∷ files) s0 s3 part
  later_at part it = record {
    before = it.before;
    after = it.after;
    rose = it.rose;
    place = suc it.place;
    file = it.file;
    part_is = omega (arith, it.part_is);
    file_is = it.file_is;
    was = λ yes. old_is file.name s0 s1 s2 s3 d e (turn yes) it.file.name it.before (it.was yes);
    is = λ yes. new_is file.name s0 s1 s2 s3 d e (turn yes) it.file.name it.before it.after (it.was yes) (it.is yes);
  }

  pub later : (bad : IndexError) (f0 f1 f2 f3 : ℕ) → f1 ≡ f0 → f3 ≡ f2 → IndexFails disk told (number + 1) files s1 s2 f1 f2 bad
      → IndexFails disk told number (file ∷ files) s0 s3 f0 f3 bad
  later (Fault None) f0 f1 f2 f3 first last it = (last ∙ it.0 ∙ first, it.1, later_at it.1 it.2)
  later (Fault (Some part)) f0 f1 f2 f3 first last it = ⊎_elim
      (λ part_failed. inl (
        subst (λ (n : ℕ). HasRisen n f3) first (subst (λ (n : ℕ). HasRisen f1 n) (sym last) part_failed.0),
        later_missing part part_failed.1,
      ))
      (λ call_failed. inr (last ∙ call_failed.0 ∙ first, later_at part call_failed.1)) it
  later (Refused bad) f0 f1 f2 f3 first last it = last ∙ it ∙ first
  later (Stopped part) f0 f1 f2 f3 first last it = (last ∙ it.0 ∙ first, later_at part it.1)

-- the first one wasn't handed out
pub missing_here : {D : Type 0} (told : Type 0) (number : ℕ) (file : PartFile) (files : List PartFile) (s0 s1 : List ℕ → Standing D)
    → (told → (n : List ℕ) → n ≢ file.name → s1 n ≡ s0 n) → (part : ℕ) → part ≡ number → IsFirstMissing told number (file ∷ files) s0 s1 part
missing_here told number file files s0 s1 others part same = record {
  front = [];
  file = file;
  behind = files;
  files_are = refl;
  part_is = omega (arith, same);
  handed = λ yes k x within. absurd (omega (arith, within));
  apart = λ yes i j x below within. absurd (omega (arith, within));
  others = λ yes n no. others yes n (λ same. no (0, omega arith, sym same));
}

-- a call of the first one failed
pub failed_here : {D : Type 0} (disk : DiskOf D) (told : Type 0) (number : ℕ) (file : PartFile) (files : List PartFile)
    (s0 s3 : List ℕ → Standing D) (d e : D) → HasRisen (disk.faults d) (disk.faults e) → (told → s0 file.name ≡ there d)
    → (told → s3 file.name ≡ there e) → (part : ℕ) → part ≡ number → FailsAt disk told number (file ∷ files) s0 s3 part
failed_here disk told number file files s0 s3 d e rose was is part same = record {
  before = d;
  after = e;
  rose = rose;
  place = 0;
  file = file;
  part_is = omega (arith, same);
  file_is = refl;
  was = was;
  is = is;
}

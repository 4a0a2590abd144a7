-- One partition, handed out and mounted, or refused.
use Rattle.std.proofs.Common.{◌≡◌, ◌≢◌, ⊎_elim, inl, inr, ℕ, zero, suc, List, [], ◌∷◌, take, None, refl, sym, ◌∙◌, ap, subst, arith}
use Rattle.std.specs.Prelude.{IsTrue, MatchBool}
use Rattle.std.specs.List.{All}
use Rattle.std.proofs.lemmas.List.Elements.{All-nil}
use Rattle.vt_base.specs.Faults.{HasRisen}
use Rattle.vt_base.specs.declared.mount.MountBad.TheVariants as mount_bad
use Rattle.vt_conf.specs.declared.conf.PartFile.{PartFile}
use Rattle.vt_recover.specs.Refusals.{CountsRefusal}
use Rattle.vt_disk.specs.Calls.{OnlyReads}
use Rattle.vt_disk.specs.Members.{DiskOf}
use Rattle.vt_part.specs.declared.error.PartBad.{PartBad}
use Rattle.vt_part.specs.declared.error.PartBad.TheVariants.{Fault, TooSmall, NotFormatted, Torn, DuplicateName, NoMemory}
use Rattle.vt_part.specs.Faults.{RefusesPartMount, NamesPartCause, is_part_fault}
use Rattle.vt_part.specs.Table.{head_of}
use Rattle.vt_partitions.specs.Parts.{Standing, HandsOut, StaysThere, lent, nothing, there}
use Rattle.vt_mount_errors.specs.MountErrors.{of_part}
use Rattle.vt_open.specs.declared.error.OpenError.TheVariants.{Missing, Refused}
use Rattle.vt_open.specs.Taking.{AreTaken, HasTable, RefusesTaking}
use Rattle.vt_open.proofs.Held.{held_reads, hold_none, hold_one, risen_one}
use Rattle.vt_open.proofs.Taken.{Stands, back_here, back_none, back_still, given_one, taken_one}

take_none : {X : Type 0} (k : ℕ) → take {A = X} k [] ≡ []
take_none zero = refl
take_none (suc k) = refl

handed_is : {D : Type 0} (disk : DiskOf D) (s : Standing D) (d : D) → HandsOut disk s None d → s ≡ there d
handed_is disk nothing d (least, is, made) = absurd (cc)
handed_is disk lent d it = absurd it
handed_is disk (there old) d it = ⊎_elim
    (λ same. ap there (sym same.1))
    (λ longer. let wrong = longer.1 in absurd (cc))
    it

-- a fault of a table is the store's
fault_told : (n : ℕ) (why : PartBad) (old new : ℕ) → MatchBool (is_part_fault why) (HasRisen old new) (new ≡ old) → CountsRefusal (of_part n why) (old ∷ []) (new ∷ [])
fault_told n Fault old new it = risen_one old new it
fault_told n (TooSmall len need) old new it = ap (λ (k : ℕ). k ∷ []) it
fault_told n NotFormatted old new it = ap (λ (k : ℕ). k ∷ []) it
fault_told n (Torn field found want) old new it = ap (λ (k : ℕ). k ∷ []) it
fault_told n (DuplicateName first second) old new it = ap (λ (k : ℕ). k ∷ []) it
fault_told n NoMemory old new it = ap (λ (k : ℕ). k ∷ []) it

module _ {D : Type 0} (disk : DiskOf D) (told : Type 0) (f : PartFile) (n : ℕ) where
  pub one_taken : (old new : Stands D) (d : D) → (told → HandsOut disk (old f.name) None d) → (told → new f.name ≡ lent) → (told → (m : List ℕ) → m ≢ f.name → new m ≡ old m)
      → AreTaken told (f ∷ []) old new (d ∷ [])
  one_taken old new d found out others = taken_one told f old new d (λ t. handed_is disk (old f.name) d (found t)) out others

  pub one_missing : (arenas : ℕ) (old new : Stands D) (faults faults' : ℕ) → (told → StaysThere disk (old f.name) (new f.name)) → (told → (m : List ℕ) → m ≢ f.name → new m ≡ old m)
      → HasRisen faults faults' → RefusesTaking disk told n arenas (f ∷ []) old new faults faults' (Missing n)
  one_missing arenas old new faults faults' stays others rose = record {
    handed = [];
    back = [];
    are = back_none disk told f old new stays others;
    held = hold_none disk;
    cause = (omega arith, omega arith, rose, refl, subst (λ (l : List D). All (HasTable disk) l) (sym (take_none {X = D} arenas)) (All-nil (HasTable disk)));
  }

  pub one_refused : (old mid new : Stands D) (f0 f1 f2 : ℕ) (d e : D) (why : PartBad) → AreTaken told (f ∷ []) old mid (d ∷ []) → (told → mid f.name ≡ lent → new f.name ≡ there e)
      → (told → (m : List ℕ) → m ≢ f.name → new m ≡ mid m) → f1 ≡ f0 → f2 ≡ f1 → OnlyReads disk 1 d e → MatchBool (is_part_fault why) (HasRisen (disk.faults d) (disk.faults e)) (disk.faults e ≡ disk.faults d)
      → NamesPartCause (disk.size d) why → (IsTrue disk.tells → RefusesPartMount (disk.size d) (head_of (disk.bytes d)) why)
      → RefusesTaking disk told n 1 (f ∷ []) old new f0 f2 (Refused (of_part n why))
  one_refused old mid new f0 f1 f2 d e why taken back others same01 same12 reads counts names refuses = record {
    handed = d ∷ [];
    back = e ∷ [];
    are = back_here disk told (f ∷ []) old mid new (d ∷ []) (e ∷ []) taken (given_one told f mid new e back others);
    held = hold_one disk d e (held_reads disk 1 d e reads);
    cause = (
      same12 ∙ same01,
      fault_told n why (disk.faults d) (disk.faults e) counts,
      inr (record {
        i = 0;
        last = omega arith;
        within = omega arith;
        before = All-nil (HasTable disk);
        device = d;
        at = refl;
        why = why;
        bad_is = ap (λ (k : ℕ). of_part k why) (omega arith);
        names = names;
        refuses = refuses;
      }),
    );
  }

-- nothing was handed out, since memory ran out before
pub none_taken : {D : Type 0} (disk : DiskOf D) (told : Type 0) (first arenas : ℕ) (files : List PartFile) (s : Stands D) (faults : ℕ)
    → RefusesTaking disk told first arenas files s s faults faults (Refused mount_bad.NoMemory)
none_taken disk told first arenas files s faults = record {
  handed = [];
  back = [];
  are = back_still disk told files s;
  held = hold_none disk;
  cause = (refl, refl, inl refl);
}

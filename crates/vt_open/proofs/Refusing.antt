-- Why partitions weren't all handed out, of files that stand behind others.
use Rattle.std.proofs.Common.{◌≡◌, ◌≢◌, ◌⊎◌, ⊎_elim, inl, inr, ◌+◌, ◌≤◌, ℕ, zero, suc, List, [], ◌∷◌, ◌++◌, length, map, take, refl, sym, ◌∙◌, ap, subst, arith, length-append}
use Rattle.std.specs.Prelude.{slice_get}
use Rattle.std.specs.List.{All}
use Rattle.std.proofs.lemmas.List.{map-append, take_all}
use Rattle.std.proofs.lemmas.List.Elements.{All-append}
use Rattle.vt_base.specs.Faults.{HasRisen}
use Rattle.vt_base.specs.declared.mount.MountBad.{MountBad}
use Rattle.vt_base.specs.declared.mount.MountBad.TheVariants.{NoMemory}
use Rattle.vt_conf.specs.declared.conf.PartFile.{PartFile}
use Rattle.vt_recover.specs.Refusals.{CountsRefusal}
use Rattle.vt_disk.specs.Members.{DiskOf}
use Rattle.vt_log.specs.Answers.{HoldTheSame}
use Rattle.vt_mount_errors.specs.MountErrors.{of_part}
use Rattle.vt_open.specs.declared.error.OpenError.{OpenError}
use Rattle.vt_open.specs.declared.error.OpenError.TheVariants.{Missing, Refused}
use Rattle.vt_open.specs.Taking.{AreHandedBack, AreTaken, HasTable, IsTakingCause, RefusesTaking, TableIsRefused}
use Rattle.vt_open.proofs.Held.{counts_less, hold_more}
use Rattle.vt_open.proofs.Taken.{Stands, back_behind, back_more}

-- a front of a list with more behind it
take_front : {X : Type 0} (n : ℕ) (xs ys : List X) → n ≤ length xs → take n (xs ++ ys) ≡ take n xs
take_front zero xs ys le = refl
take_front (suc n) [] ys le = absurd (omega (arith, le))
take_front {X = X} (suc n) (x ∷ xs) ys le =
    let less : n ≤ length xs = omega (arith, le) in
    ap (λ (l : List X). x ∷ l) (take_front n xs ys less)

take_past : {X : Type 0} (n : ℕ) (xs ys : List X) → take (length xs + n) (xs ++ ys) ≡ xs ++ take n ys
take_past {X = X} n [] ys = ap (λ (k : ℕ). take k ys) (omega arith)
take_past {X = X} n (x ∷ xs) ys =
    let e : length (x ∷ xs) + n ≡ suc (length xs + n) = omega arith in
    ap (λ (k : ℕ). take k (x ∷ (xs ++ ys))) e ∙ ap (λ (l : List X). x ∷ l) (take_past n xs ys)

get_past : {X : Type 0} (xs ys : List X) (i : ℕ) → slice_get (xs ++ ys) (length xs + i) ≡ slice_get ys i
get_past [] ys i = ap (slice_get ys) (omega arith)
get_past {X = X} (x ∷ xs) ys i =
    let e : length (x ∷ xs) + i ≡ suc (length xs + i) = omega arith in
    ap (slice_get (x ∷ (xs ++ ys))) e ∙ get_past xs ys i

module _ {D : Type 0} (disk : DiskOf D) (told : Type 0) where
  -- files that weren't asked for stand behind these
  pub refuses_more : (first arenas : ℕ) (files more : List PartFile) (old new : Stands D) (f f' : ℕ) (bad : OpenError) → RefusesTaking disk told first arenas files old new f f' bad
      → RefusesTaking disk told first arenas (files ++ more) old new f f' bad
  refuses_more first arenas files more old new f f' bad it = record {
    handed = it.handed;
    back = it.back;
    are = back_more disk told files more old new it.handed it.back it.are;
    held = it.held;
    cause = cause_more bad it.cause;
  }
    where
      cause_more : (bad : OpenError) → IsTakingCause disk first arenas (length files) f f' it.handed it.back bad → IsTakingCause disk first arenas (length (files ++ more)) f f' it.handed it.back bad
      cause_more (Missing part) (at, few, rose, same, tables) = (at, omega (arith, few, length-append files more), rose, same, tables)
      cause_more (Refused why) cause = cause

  -- Some files' partitions were handed out before, of which the first n1 are of arenas: all of them,
  -- or none that come behind are. They are back too.
  module _ (first n1 n2 : ℕ) (a b : List PartFile) (old mid late new : Stands D) (ds es : List D) (f0 f1 f2 f3 : ℕ) (taken : AreTaken told a old mid ds) (given : AreHandedBack told a late new es)
      (held : HoldTheSame disk ds es) (counts : map disk.faults es ≡ map disk.faults ds) (few : n1 ≤ length a) (tables : All (HasTable disk) (take n1 ds)) (all : (n1 ≡ length a) ⊎ (n2 ≡ 0))
      (same01 : f1 ≡ f0) (same23 : f3 ≡ f2) where
    long : length ds ≡ length a
    long = taken.many

    faults_more : (hs bs : List D) → map disk.faults bs ≡ map disk.faults hs → map disk.faults (es ++ bs) ≡ map disk.faults (ds ++ hs)
    faults_more hs bs same =
        map-append disk.faults es bs ∙ ap (λ (l : List ℕ). l ++ map disk.faults bs) counts ∙ ap (λ (l : List ℕ). map disk.faults ds ++ l) same ∙ sym (map-append disk.faults ds hs)

    counts_more : (bad : MountBad) (hs bs : List D) → CountsRefusal bad (map disk.faults hs) (map disk.faults bs) → CountsRefusal bad (map disk.faults (ds ++ hs)) (map disk.faults (es ++ bs))
    counts_more bad hs bs it =
        subst (λ (l : List ℕ). CountsRefusal bad l (map disk.faults (es ++ bs))) (sym (map-append disk.faults ds hs))
        (subst (λ (l : List ℕ). CountsRefusal bad (map disk.faults ds ++ map disk.faults hs) l)
        (sym (map-append disk.faults es bs ∙ ap (λ (l : List ℕ). l ++ map disk.faults bs) counts))
        (counts_less bad (map disk.faults ds) (map disk.faults hs) (map disk.faults bs) it))

    tables_all : n1 ≡ length a → All (HasTable disk) ds
    tables_all is = subst (λ (l : List D). All (HasTable disk) l) (take_all n1 ds (omega (arith, is, long))) tables

    tables_more : (hs : List D) → All (HasTable disk) (take n2 hs) → All (HasTable disk) (take (n1 + n2) (ds ++ hs))
    tables_more hs more = ⊎_elim
        (λ (is : n1 ≡ length a).
        let e : n1 + n2 ≡ length ds + n2 = omega (arith, is, long) in
        subst (λ (l : List D). All (HasTable disk) l) (sym (ap (λ (k : ℕ). take k (ds ++ hs)) e ∙ take_past n2 ds hs))
        (All-append (HasTable disk) ds (take n2 hs) (tables_all is) more))
        (λ (is : n2 ≡ 0).
        let e : n1 + n2 ≡ n1 = omega (arith, is) in
        subst (λ (l : List D). All (HasTable disk) l) (sym (ap (λ (k : ℕ). take k (ds ++ hs)) e ∙ take_front n1 ds hs (omega (arith, few, long)))) tables)
        all

    table_more : (hs : List D) (bad : MountBad) → TableIsRefused disk (first + length a) n2 hs bad → TableIsRefused disk first (n1 + n2) (ds ++ hs) bad
    table_more hs bad it =
        let some : n2 ≢ 0 = λ none. absurd (let w = it.within in omega (arith, w, none)) in
        let is : n1 ≡ length a = ⊎_elim (λ (e : n1 ≡ length a). e) (λ (none : n2 ≡ 0). absurd (some none)) all in
        record {
          i = length ds + it.i;
          last = let l = it.last in omega (arith, l, length-append ds hs);
          within = let w = it.within in omega (arith, w, is, long);
          before = subst (λ (l : List D). All (HasTable disk) l) (sym (take_past it.i ds hs)) (All-append (HasTable disk) ds (take it.i hs) (tables_all is) it.before);
          device = it.device;
          at = get_past ds hs it.i ∙ it.at;
          why = it.why;
          bad_is = it.bad_is ∙ ap (λ (k : ℕ). of_part k it.why) (omega (arith, long));
          names = it.names;
          refuses = it.refuses;
        }

    cause_behind : (bad : OpenError) (hs bs : List D) → IsTakingCause disk (first + length a) n2 (length b) f1 f2 hs bs bad → IsTakingCause disk first (n1 + n2) (length (a ++ b)) f0 f3 (ds ++ hs) (es ++ bs) bad
    cause_behind (Missing part) hs bs (at, less, rose, same, more) = (
      omega (arith, at, long, length-append ds hs),
      omega (arith, less, long, length-append ds hs, length-append a b),
      subst (λ (k : ℕ). HasRisen k f3) same01 (subst (λ (k : ℕ). HasRisen f1 k) (sym same23) rose),
      faults_more hs bs same,
      tables_more hs more,
    )
    cause_behind (Refused bad) hs bs (same, count, why) = (
      same23 ∙ same ∙ same01,
      counts_more bad hs bs count,
      ⊎_elim (λ (none : bad ≡ NoMemory). inl none) (λ (table : TableIsRefused disk (first + length a) n2 hs bad). inr (table_more hs bad table)) why,
    )

    pub refuses_behind : (bad : OpenError) → RefusesTaking disk told (first + length a) n2 b mid late f1 f2 bad → RefusesTaking disk told first (n1 + n2) (a ++ b) old new f0 f3 bad
    refuses_behind bad it = record {
      handed = ds ++ it.handed;
      back = es ++ it.back;
      are = back_behind disk told a b old mid late new ds es it.handed it.back taken it.are given;
      held = hold_more disk ds es it.handed it.back held it.held;
      cause = cause_behind bad it.handed it.back it.cause;
    }

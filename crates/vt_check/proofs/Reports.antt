-- The arenas of a log, reported in turn.
use Rattle.std.proofs.Common.{◌≡◌, ◌∙◌, ◌⊎◌, ⊎_elim, inl, inr, ℕ, zero, suc, ◌+◌, ◌*◌, ◌<◌, ◌≤◌, Some, List, [], ◌∷◌, ◌++◌, length, map, take, get_or, refl, sym, ap, subst, arith, length-append}
use Rattle.std.specs.Prelude.{IsTrue, slice_get, sum_by}
use Rattle.std.proofs.lemmas.List.Sums.{sum_by-take-le, sum_by_more}
use Rattle.std.proofs.lemmas.Option.{get_or_from_slice_get, same_Some, slice_get_within}
use Rattle.vt_arena.specs.declared.head.Found.{Found}
use Rattle.vt_arena.specs.Faults.{read_at}
use Rattle.vt_arena.specs.Heads.{fields_of, own_fields}
use Rattle.vt_disk.specs.Members.{DiskOf}
use Rattle.vt_log.specs.Answers.{OnlyReadsLog}
use Rattle.vt_log.specs.Log.{LogState}
use Rattle.vt_part.specs.declared.layout.ArenaRegion.{ArenaRegion}
use Rattle.vt_check.specs.declared.checking.ArenaReport.{ArenaReport}
use Rattle.vt_check.specs.Checking.{AreReports, AreTold, HasItsHeads, IsReportOf, TellsOf}
use Rattle.vt_check.proofs.Checks.{reads_none, reads_then}

-- what a mounted log's head says is what the disk has
pub head_there : {D : Type 0} (disk : DiskOf D) (l : LogState D) → HasItsHeads disk l → (i : ℕ) (r : ArenaRegion) (found : Found) (file : List ℕ)
    → slice_get l.layout i ≡ Some r → slice_get l.heads i ≡ Some found → slice_get (map disk.bytes l.disks) r.part ≡ Some file
    → own_fields (read_at r.region r.number file) ≡ fields_of found.head
head_there {D} disk l its i r found file at head there =
    let read : slice_get (map own_fields its.fields) i ≡ Some (own_fields (read_at r.region r.number file)) =
    map_at own_fields its.fields i (read_at r.region r.number file) (its.fields_are.each i r file at there) in
    let named : slice_get (map own_fields its.fields) i ≡ Some (fields_of found.head) =
    ap (λ (fs : List (List ℕ)). slice_get fs i) (sym its.mounted.heads) ∙ map_at (λ (f : Found). fields_of f.head) l.heads i found head in
    same_Some (own_fields (read_at r.region r.number file)) (fields_of found.head) (sym read ∙ named)
  where
    map_at : {X Y : Type 0} (f : X → Y) (xs : List X) (k : ℕ) (x : X) → slice_get xs k ≡ Some x → slice_get (map f xs) k ≡ Some (f x)
    map_at f [] k x at = absurd (cc)
    map_at f (y ∷ ys) zero x at = let here : y ≡ x = cc in ap (λ z. Some (f z)) here
    map_at f (y ∷ ys) (suc k) x at = map_at f ys k x at

-- ---- the reports

pub record IsReporting {D : Type 0} (score : List ℕ → List ℕ) (disk : DiskOf D) (old now : LogState D) (number : ℕ) (reports : List ArenaReport) : Type 0 where
  pub reads : OnlyReadsLog score disk (2 * sum_by (λ found. found.head.clumps) (take number old.heads)) old now
  pub faults : map disk.faults now.disks ≡ map disk.faults old.disks
  pub many : length reports ≡ number
  pub each : (i : ℕ) (found : Found) (report : ArenaReport) → slice_get old.heads i ≡ Some found → slice_get reports i ≡ Some report → IsReportOf i found.head report
  pub told : IsTrue disk.tells → HasItsHeads disk old → AreTold score disk old reports

pub begin_reporting : {D : Type 0} (score : List ℕ → List ℕ) (disk : DiskOf D) (l : LogState D) → IsReporting score disk l l 0 []
begin_reporting score disk l = record {
  reads = reads_then score disk 0 0 (2 * sum_by (λ found. found.head.clumps) (take 0 l.heads)) l l l (omega arith) (reads_none score disk l) (reads_none score disk l);
  faults = refl;
  many = refl;
  each = λ i found report at there. absurd (cc);
  told = λ tells its i r found file report at head there here. absurd (cc);
}

-- what stands in a list with one more
last_or : {X : Type 0} (xs : List X) (x y : X) (i : ℕ) → slice_get (xs ++ x ∷ []) i ≡ Some y → (slice_get xs i ≡ Some y) ⊎ ((i ≡ length xs) × (y ≡ x))
last_or [] x y zero at = inr (refl, cc)
last_or [] x y (suc i) at = absurd (cc)
last_or (z ∷ zs) x y zero at = inl at
last_or (z ∷ zs) x y (suc i) at = ⊎_elim (λ front. inl front) (λ last. inr (ap suc last.0, last.1)) (last_or zs x y i at)

module _ {D : Type 0} (score : List ℕ → List ℕ) (disk : DiskOf D) (old now new : LogState D) (number : ℕ) (reports : List ArenaReport)
    (it : IsReporting score disk old now number reports) (found : Found) (head : slice_get old.heads number ≡ Some found) (report : ArenaReport)
    (reads : OnlyReadsLog score disk (2 * found.head.clumps) now new) (faults : map disk.faults new.disks ≡ map disk.faults now.disks)
    (is : IsReportOf number found.head report)
    (tells_of : IsTrue disk.tells → HasItsHeads disk old → (r : ArenaRegion) (file : List ℕ) → slice_get old.layout number ≡ Some r
    → slice_get (map disk.bytes old.disks) r.part ≡ Some file → TellsOf score r found.head file report.damage) where
  pub report_more : IsReporting score disk old new (number + 1) (reports ++ report ∷ [])
  report_more = record {
    reads =
        let below : number < length old.heads = slice_get_within old.heads number found head in
        let more = sum_by_more (λ (f : Found). f.head.clumps) old.heads number found below in
        let here : (get_or old.heads number found).head.clumps ≡ found.head.clumps = ap (λ (f : Found). f.head.clumps) (get_or_from_slice_get old.heads number found found head) in
        reads_then score disk (2 * sum_by (λ f. f.head.clumps) (take number old.heads)) (2 * found.head.clumps) (2 * sum_by (λ f. f.head.clumps) (take (number + 1) old.heads)) old now new
        (omega (arith, more, here)) it.reads reads;
    faults = faults ∙ it.faults;
    many = omega (arith, it.many, length-append reports (report ∷ []));
    each = λ i other r at there. ⊎_elim
        (λ front. it.each i other r at front)
        (λ last.
        let same : i ≡ number = last.0 ∙ it.many in
        let its : other ≡ found = same_Some other found (sym at ∙ ap (λ (k : ℕ). slice_get old.heads k) same ∙ head) in
        subst (λ (k : ℕ). IsReportOf k other.head r) (sym same)
        (subst (λ (f : Found). IsReportOf number f.head r) (sym its) (subst (λ (q : ArenaReport). IsReportOf number found.head q) (sym last.1) is)))
        (last_or reports report r i there);
    told = λ tells its i r other file q at head_at there here. ⊎_elim
        (λ front. it.told tells its i r other file q at head_at there front)
        (λ last.
        let same : i ≡ number = last.0 ∙ it.many in
        let one : other ≡ found = same_Some other found (sym head_at ∙ ap (λ (k : ℕ). slice_get old.heads k) same ∙ head) in
        subst (λ (f : Found). TellsOf score r f.head file q.damage) (sym one)
        (subst (λ (p : ArenaReport). TellsOf score r found.head file p.damage) (sym last.1)
        (tells_of tells its r file (ap (λ (k : ℕ). slice_get old.layout k) (sym same) ∙ at) there)))
        (last_or reports report q i here);
  }

-- what is read of one more arena is within what may be read of all
pub reads_within : {D : Type 0} (score : List ℕ → List ℕ) (disk : DiskOf D) (old now new : LogState D) (number : ℕ) (reports : List ArenaReport)
    → IsReporting score disk old now number reports → (found : Found) → slice_get old.heads number ≡ Some found → OnlyReadsLog score disk (2 * found.head.clumps) now new
    → OnlyReadsLog score disk (2 * sum_by (λ found. found.head.clumps) old.heads) old new
reads_within score disk old now new number reports it found head reads =
    let below : number < length old.heads = slice_get_within old.heads number found head in
    let more = sum_by_more (λ (f : Found). f.head.clumps) old.heads number found below in
    let here : (get_or old.heads number found).head.clumps ≡ found.head.clumps = ap (λ (f : Found). f.head.clumps) (get_or_from_slice_get old.heads number found found head) in
    let most = sum_by-take-le (λ (f : Found). f.head.clumps) old.heads (number + 1) in
    reads_then score disk (2 * sum_by (λ f. f.head.clumps) (take number old.heads)) (2 * found.head.clumps) (2 * sum_by (λ f. f.head.clumps) old.heads) old now new
    (omega (arith, more, here, most)) it.reads reads

pub reads_so_far : {D : Type 0} (score : List ℕ → List ℕ) (disk : DiskOf D) (old now : LogState D) (number : ℕ) (reports : List ArenaReport)
    → IsReporting score disk old now number reports → OnlyReadsLog score disk (2 * sum_by (λ found. found.head.clumps) old.heads) old now
reads_so_far score disk old now number reports it =
    let most = sum_by-take-le (λ (f : Found). f.head.clumps) old.heads number in
    reads_then score disk (2 * sum_by (λ f. f.head.clumps) (take number old.heads)) 0 (2 * sum_by (λ f. f.head.clumps) old.heads) old now now
    (omega (arith, most)) it.reads (reads_none score disk now)

-- what stands in a list whose elements were changed
pub map_from : {X Y : Type 0} (f : X → Y) (xs : List X) (i : ℕ) (y : Y) → slice_get (map f xs) i ≡ Some y → (x : X) × (slice_get xs i ≡ Some x) × (f x ≡ y)
map_from f [] i y at = absurd (cc)
map_from f (x ∷ xs) zero y at = (x, refl, cc)
map_from f (x ∷ xs) (suc i) y at = map_from f xs i y at

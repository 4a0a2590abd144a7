-- What the fields of a log's heads say.
use Rattle.std.proofs.Common.{◌≡◌, ◌<◌, ◌≤◌, ◌+◌, ◌^◌, ℕ, zero, suc, List, [], ◌∷◌, ◌++◌, map, Some, refl, sym, ◌∙◌, ap, subst, arith}
use Rattle.std.specs.Prelude.{slice_get, sum_by}
use Rattle.std.specs.List.{All}
use Rattle.std.proofs.lemmas.List.Sums.{sum_by-cons}
use Rattle.byteorder.specs.Endian.{big_bytes}
use Rattle.byteorder.specs.Numbers.{big_number-reads_back}
use Rattle.vt_arena.specs.declared.head.ArenaHead.{ArenaHead}
use Rattle.vt_arena.specs.declared.head.Found.{Found}
use Rattle.vt_arena.specs.Heads.{clump_count_in, fields_of, last_field, own_fields}
use Rattle.vt_arena.proofs.Finds.{own_clumps}
use Rattle.vt_arena.proofs.Layouts.{entries_least}
use Rattle.vt_disk.specs.Members.{DiskOf}
use Rattle.vt_log.specs.Log.{LogState}
use Rattle.vt_log.specs.Whole.{IsOnDisk, IsWholeLog}
use Rattle.vt_log.proofs.Lists.{at_slice, slice_get_other}
use Rattle.vt_part.specs.Layout.{layout_of}
use Rattle.vt_part.specs.declared.layout.ArenaRegion.{ArenaRegion}
use Rattle.vt_core.proofs.Beside.{all_from}

clumps_back : (h : ArenaHead) → h.clumps < 256 ^ 4 → clump_count_in (fields_of h) ≡ h.clumps
clumps_back h fits = big_number-reads_back 4 h.clumps (big_bytes 8 h.used ++ (h.chain.0 ++ last_field h.version h.last)) fits

-- the counts of clumps stand in the own fields of what is read
own_sums : (read : List (List ℕ)) → sum_by clump_count_in (map own_fields read) ≡ sum_by clump_count_in read
own_sums [] = refl
own_sums (f ∷ read) =
    let left : sum_by clump_count_in (map own_fields (f ∷ read)) ≡ clump_count_in (own_fields f) + sum_by clump_count_in (map own_fields read) =
    sum_by-cons clump_count_in (own_fields f) (map own_fields read) in
    let right : sum_by clump_count_in (f ∷ read) ≡ clump_count_in f + sum_by clump_count_in read = sum_by-cons clump_count_in f read in
    omega (arith, own_clumps f, own_sums read, left, right)

sums_same : (heads : List Found) → ((i : ℕ) (f : Found) → slice_get heads i ≡ Some f → clump_count_in (fields_of f.head) ≡ f.head.clumps)
    → sum_by clump_count_in (map (λ f. fields_of f.head) heads) ≡ sum_by (λ f. f.head.clumps) heads
sums_same [] each = refl
sums_same (f ∷ heads) each =
    let here : clump_count_in (fields_of f.head) ≡ f.head.clumps = each zero f refl in
    let rest : sum_by clump_count_in (map (λ f. fields_of f.head) heads) ≡ sum_by (λ f. f.head.clumps) heads = sums_same heads (λ i x at. each (suc i) x at) in
    let left : sum_by clump_count_in (map (λ f. fields_of f.head) (f ∷ heads)) ≡ clump_count_in (fields_of f.head) + sum_by clump_count_in (map (λ f. fields_of f.head) heads) =
    sum_by-cons clump_count_in (fields_of f.head) (map (λ f. fields_of f.head) heads) in
    let right : sum_by (λ f. f.head.clumps) (f ∷ heads) ≡ f.head.clumps + sum_by (λ f. f.head.clumps) heads = sum_by-cons (λ f. f.head.clumps) f heads in
    omega (arith, here, rest, left, right)

module _ {D : Type 0} (disk : DiskOf D) (l : LogState D) (whole : IsWholeLog disk l) where
  pub short_regions : All (λ r. r.region.len ≤ 2 ^ 30) (layout_of l.tables)
  short_regions = subst (λ (rs : List ArenaRegion). All (λ r. r.region.len ≤ 2 ^ 30) rs) whole.layout
      (all_from (λ r. r.region.len ≤ 2 ^ 30) l.layout (λ i r at. (at_slice (IsOnDisk disk l.disks) l.layout i r whole.regions at).region.len.1))

  head_fits : (i : ℕ) (f : Found) → slice_get l.heads i ≡ Some f → f.head.clumps < 256 ^ 4
  head_fits i f at =
      let r = slice_get_other l.layout l.heads i f whole.many at in
      let fit = (whole.heads i r.0 f r.1 at).fit in
      let len = (at_slice (IsOnDisk disk l.disks) l.layout i r.0 whole.regions r.1).region.len.1 in
      omega (arith, fit, len, entries_least f.head.version f.head.clumps)

  clumps_at : (i : ℕ) (f : Found) → slice_get l.heads i ≡ Some f → clump_count_in (fields_of f.head) ≡ f.head.clumps
  clumps_at i f at = clumps_back f.head (head_fits i f at)

  pub clumps_are : (fields : List (List ℕ)) → map (λ f. fields_of f.head) l.heads ≡ map own_fields fields → sum_by clump_count_in fields ≡ l.durable
  clumps_are fields is = sym (own_sums fields) ∙ ap (sum_by clump_count_in) (sym is) ∙ sums_same l.heads clumps_at ∙ sym whole.durable

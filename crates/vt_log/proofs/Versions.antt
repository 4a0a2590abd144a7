-- The versions of a log's arenas are those that their heads count as, and so those of what they hold.
use Rattle.std.proofs.Common.{◌≡◌, ℕ, suc, ◌<◌, ◌≤◌, ◌==◌, Bool, List, [], ◌∷◌, length, map, refl, ◌∙◌, ap, arith, Some, inl, inr}
use Rattle.std.specs.Prelude.{IsTrue, not, slice_get, slice_index, sum_by, if◌then◌else◌}
use Rattle.std.proofs.lemmas.Bool.Decides.{Decides-eqb}
use Rattle.std.proofs.lemmas.List.{get_or-map, get_or_past, length-map}
use Rattle.std.proofs.lemmas.Option.{slice_get_within, get_or_from_slice_get}
use Rattle.vt_disk.specs.Members.{DiskOf}
use Rattle.vt_clump.specs.Spelling.{Stored}
use Rattle.vt_model.specs.declared.TheConstants.{WRITTEN_VERSION}
use Rattle.vt_model.specs.History.{History}
use Rattle.vt_arena.specs.declared.head.ArenaHead.{ArenaHead}
use Rattle.vt_arena.specs.declared.head.Found.{Found}
use Rattle.vt_arena.specs.Arena.{version_counted}
use Rattle.vt_arena.specs.Directory.{IsOnClump, walks_headers}
use Rattle.vt_arena.specs.Layout.{Content, used_of}
use Rattle.vt_arena.specs.Places.{IsVersion, block_room, lengths_of}
use Rattle.vt_arena.proofs.Stage.{both, some_test}
use Rattle.vt_log.specs.Log.{LogState}
use Rattle.vt_log.specs.Logs.{versions_of}
use Rattle.vt_log.specs.Sound.{IsSoundLog}
use Rattle.vt_log.specs.Whole.{IsWholeLog}
use Rattle.vt_log.proofs.Lists.{slice_get_other}

-- the version that an arena with this content counts as
abbrev pub counted_as : Content → ℕ
counted_as a = if length a.stored == 0 then WRITTEN_VERSION else a.version

-- where it has a block it is its own
pub counted_own : (a : Content) → 0 < length a.stored → counted_as a ≡ a.version
counted_own a some = by a.stored some
  where
    by : (stored : List Stored) → 0 < length stored → (if length stored == 0 then WRITTEN_VERSION else a.version) ≡ a.version
    by [] some = absurd (omega (arith, some))
    by (s ∷ stored) some = ap (λ (b : Bool). if b then WRITTEN_VERSION else a.version) (some_test (length stored))

-- and where it has none nothing is used, in whatever version
pub used_counted : (a : Content) → sum_by (block_room (counted_as a)) (lengths_of a.stored) ≡ used_of a.version a.stored
used_counted a = by a.stored
  where
    by : (stored : List Stored) → sum_by (block_room (if length stored == 0 then WRITTEN_VERSION else a.version)) (lengths_of stored) ≡ used_of a.version stored
    by [] = refl
    by (s ∷ stored) = ap (λ (b : Bool). sum_by (block_room (if b then WRITTEN_VERSION else a.version)) (lengths_of (s ∷ stored))) (some_test (length stored))

-- a head that counts as one of a version that isn't 2 counts as one of the written one
pub counted_first : (h : ArenaHead) → IsVersion h.version → ¬ (version_counted h ≡ 2) → version_counted h ≡ WRITTEN_VERSION
counted_first h version not_second = by (h.clumps == 0) version not_second
  where
    by : (b : Bool) → IsVersion h.version → ¬ ((if b then WRITTEN_VERSION else h.version) ≡ 2) → (if b then WRITTEN_VERSION else h.version) ≡ WRITTEN_VERSION
    by Bool.true version other = refl
    by Bool.false (inl one) other = one
    by Bool.false (inr two) other = absurd (other two)

-- an arena that is walked by headers is of version 2
pub headers_second : (h : ArenaHead) → IsTrue (walks_headers h) → h.version ≡ 2
headers_second h on = (Decides-eqb h.version 2).0 (both (h.version == 2) (not h.sealed) on).0

-- the heads of these contents give their versions
pub versions_same : (heads : List Found) (contents : List Content) → length heads ≡ length contents
    → ((i : ℕ) (found : Found) (a : Content) → slice_get heads i ≡ Some found → slice_get contents i ≡ Some a → version_counted found.head ≡ counted_as a)
    → map (λ found. version_counted found.head) heads ≡ versions_of contents
versions_same [] [] many same = refl
versions_same [] (a ∷ contents) many same = absurd (omega (arith, many))
versions_same (f ∷ heads) [] many same = absurd (omega (arith, many))
versions_same (f ∷ heads) (a ∷ contents) many same =
    let rest = versions_same heads contents (omega (arith, many)) (λ i found b at has. same (suc i) found b at has) in
    (λ i. same 0 f a refl refl i ∷ rest i)

module _ {D : Type 0} (disk : DiskOf D) (l : LogState D) (whole : IsWholeLog disk l) where
  pub version_there : (i : ℕ) (found : Found) → slice_get l.heads i ≡ Some found → slice_index l.versions i ≡ version_counted found.head
  version_there i found at =
      ap (λ (vs : List ℕ). slice_index vs i) whole.versions
      ∙ get_or-map (λ (f : Found). version_counted f.head) l.heads i found 0 (slice_get_within l.heads i found at)
      ∙ ap (λ (f : Found). version_counted f.head) (get_or_from_slice_get l.heads i found found at)

  pub version_past : (i : ℕ) → length l.heads ≤ i → slice_index l.versions i ≡ 0
  version_past i past =
      ap (λ (vs : List ℕ). slice_index vs i) whole.versions
      ∙ get_or_past (map (λ (f : Found). version_counted f.head) l.heads) i 0 (omega (arith, past, length-map l.heads (λ (f : Found). version_counted f.head)))

  -- a walk of an arena can begin
  pub head_on : (i : ℕ) (found : Found) → slice_get l.heads i ≡ Some found
      → IsOnClump found.head (record { index = found.head.clumps; end = found.head.used; sectors = found.head.last })
  head_on i found at on =
      let r = slice_get_other l.layout l.heads i found whole.many at in
      (whole.heads i r.0 found r.1 at).last (headers_second found.head on)

-- the version of an arena is that of its content
module _ {D : Type 0} (score_of : List ℕ → List ℕ) (disk : DiskOf D) (l : LogState D) (h : History) (sound : IsSoundLog score_of disk l h) where
  head_counted : (i : ℕ) (found : Found) (a : Content) → slice_get l.heads i ≡ Some found → slice_get sound.contents i ≡ Some a → version_counted found.head ≡ counted_as a
  head_counted i found a at has =
      let r = slice_get_other l.layout l.heads i found sound.whole.many at in
      ap version_counted (sound.heads i r.0 found a r.1 at has)

  pub versions_are : l.versions ≡ versions_of sound.contents
  versions_are =
      sound.whole.versions ∙ versions_same l.heads sound.contents (omega (arith, sound.whole.many, sound.many)) head_counted

  pub version_counted_as : (i : ℕ) (a : Content) → slice_get sound.contents i ≡ Some a → slice_index l.versions i ≡ counted_as a
  version_counted_as i a has =
      let found = slice_get_other l.heads sound.contents i a (omega (arith, sound.whole.many, sound.many)) has in
      version_there disk l sound.whole i found.0 found.1 ∙ head_counted i found.0 a found.1 has

  pub version_own : (i : ℕ) (a : Content) → slice_get sound.contents i ≡ Some a → 0 < length a.stored → slice_index l.versions i ≡ a.version
  version_own i a has some = version_counted_as i a has ∙ counted_own a some

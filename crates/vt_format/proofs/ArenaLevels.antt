-- A partition of arenas that is opened, while the others behind it are worked on, and taken back.
use Rattle.std.proofs.Common.{◌≡◌, ◌⊎◌, inl, inr, ⊎_elim, ℕ, ◌<◌, ◌≤◌, List, [], ◌∷◌, ◌++◌, Some, None, Result, length, refl, sym, ◌∙◌, ap, subst, arith, length-append}
use Rattle.std.specs.Prelude.{slice_get}
use Rattle.std.proofs.lemmas.Bool.{cases_lt}
use Rattle.std.proofs.lemmas.List.{map-append}
use Rattle.std.proofs.lemmas.Option.{same_Some, slice_get_within}
use Rattle.vt_base.specs.Faults.{HasRisen}
use Rattle.vt_disk.specs.Members.{DiskOf}
use Rattle.vt_log.specs.Log.{disks_of}
use Rattle.vt_log.proofs.Lists.{slice_get_left}
use Rattle.vt_part.specs.declared.part.Part.{Part}
use Rattle.vt_part.specs.Parts.{disk_of}
use Rattle.vt_partitions.specs.Parts.{there, StaysThere}
use Rattle.vt_format.specs.declared.index.Index.{Index}
use Rattle.vt_format.specs.declared.index.IndexError.{IndexError}
use Rattle.vt_format.specs.declared.index.IndexError.TheVariants.{Fault, Refused, Stopped}
use Rattle.vt_format.specs.Index.{AreArenasLeft, FindsFault, IsPartLeft, HasNoFault}
use Rattle.vt_format.specs.Opening.{IsOpenedAs}
use Rattle.vt_format.proofs.Levels.{stays_read}
use Rattle.vt_format.proofs.Opened.{front_get, last_get, same_fronts}

-- the disks with one more
pub disks_more : {D : Type 0} (ps : List (Part D)) (p : Part D) → disks_of (ps ++ p ∷ []) ≡ disks_of ps ++ disk_of p ∷ []
disks_more {D = D} ps p = map-append (λ (part : Part D). disk_of part) ps (p ∷ [])

pub stays_on : {D : Type 0} (disk : DiskOf D) (a b c : D) → StaysThere disk (there a) (there b) → StaysThere disk (there b) (there c)
    → StaysThere disk (there a) (there c)
stays_on disk a b c first then_ = (then_.0 ∙ first.0, then_.1 ∙ first.1, λ file left. first.2 file (then_.2 file left))

module _ {D : Type 0} (disk : DiskOf D) (r : Result Index IndexError) (olds news : List D) (old new : D)
    (it : AreArenasLeft disk r (olds ++ old ∷ []) (news ++ new ∷ [])) where
  pub as_many : length news ≡ length olds
  as_many = same_fronts olds news old new it.many

  last_new : slice_get (news ++ new ∷ []) (length olds) ≡ Some new
  last_new = ap (slice_get (news ++ new ∷ [])) (sym as_many) ∙ last_get news new

  pub front_left : AreArenasLeft disk r olds news
  front_left = record {
    many = as_many;
    each = λ i a b at_a at_b. it.each i a b (front_get olds old i a at_a) (front_get news new i b at_b);
  }

  pub last_left : StaysThere disk (there old) (there new) × (HasNoFault r → disk.faults new ≡ disk.faults old)
  last_left = it.each (length olds) old new (last_get olds old) last_new

-- a fault by which the log is found: of one that was open before, or of this one
pub finds_among : {D : Type 0} (disk : DiskOf D) (olds news : List D) (old new : D) → length news ≡ length olds → (bad : IndexError)
    → FindsFault disk (olds ++ old ∷ []) (news ++ new ∷ []) bad
    → FindsFault disk olds news bad ⊎ ((bad ≡ Fault None) × HasRisen (disk.faults old) (disk.faults new))
finds_among {D = D} disk olds news old new many (Fault None) it = ⊎_elim
    (λ (before : it.0 < length olds). inl (
      it.0,
      it.1,
      it.2,
      sym (slice_get_left olds (old ∷ []) it.0 before) ∙ it.3,
      sym (slice_get_left news (new ∷ []) it.0 (omega (arith, before, many))) ∙ it.4,
      it.5,
    ))
    (λ (least : length olds ≤ it.0).
    let within : it.0 < length (olds ++ old ∷ []) = slice_get_within (olds ++ old ∷ []) it.0 it.1 it.3 in
    let here : it.0 ≡ length olds = omega (arith, least, within, length-append olds (old ∷ [])) in
    let is_old : it.1 ≡ old = same_Some it.1 old (sym it.3 ∙ ap (slice_get (olds ++ old ∷ [])) here ∙ last_get olds old) in
    let is_new : it.2 ≡ new = same_Some it.2 new (sym it.4 ∙ ap (slice_get (news ++ new ∷ [])) (here ∙ sym many) ∙ last_get news new) in
    inr (refl, subst (λ (x : D). HasRisen (disk.faults x) (disk.faults new)) is_old (subst (λ (x : D). HasRisen (disk.faults it.1) (disk.faults x)) is_new it.5)))
    (cases_lt it.0 (length olds))
finds_among disk olds news old new many (Fault (Some part)) it = absurd it
finds_among disk olds news old new many (Refused bad) it = absurd it
finds_among disk olds news old new many (Stopped part) it = absurd it

-- the partition itself
module _ {D : Type 0} (disk : DiskOf D) (before : ℕ) (d : D) (p q : Part D) (opened : IsOpenedAs disk before d p) where
  pub stays_part : StaysThere disk (there (disk_of p)) (there (disk_of q)) → StaysThere disk (there d) (there (disk_of q))
  stays_part stays = stays_on disk d (disk_of p) (disk_of q) (stays_read disk 1 d (disk_of p) opened.reads) stays

  pub left_part : (r : Result Index IndexError) → StaysThere disk (there (disk_of p)) (there (disk_of q))
      → (HasNoFault r → disk.faults (disk_of q) ≡ disk.faults (disk_of p)) → IsPartLeft disk r d (disk_of q)
  left_part r stays quiet = record {
    size = stays.0 ∙ opened.reads.size;
    unwritten = λ yes. stays_part stays;
    quiet = λ yes. quiet yes ∙ opened.faults;
  }

-- All shards, while a block is taken back.
use Rattle.std.proofs.Common.{◌≡◌, ◌≢◌, ◌⊎◌, ⊎_elim, inl, inr, ℕ, zero, suc, ◌+◌, ◌<◌, ◌≤◌, List, [], ◌∷◌, length, map, Some, refl, sym, ◌∙◌, ap, subst, arith}
use Rattle.std.specs.Prelude.{slice_get, slice_set, slice_index, slice_index_or, ⊤, Ok, Err}
use Rattle.std.proofs.lemmas.Option.{same_Some}
use Rattle.vt_base.specs.Faults.{HasRisen}
use Rattle.vt_base.specs.declared.mount.MountBad.{MountBad}
use Rattle.vt_base.specs.declared.mount.MountBad.TheVariants.{Fault, NotFormatted, TooSmall, DuplicateName, Disagree, Damaged, NoMemory}
use Rattle.vt_base.specs.declared.place.Entry.{Entry}
use Rattle.vt_base.specs.declared.place.Info.{Info}
use Rattle.vt_disk.specs.Members.{DiskOf}
use Rattle.vt_shard.specs.Shard.{ShardState}
use Rattle.vt_shard.specs.Sound.{IsSoundFrom}
use Rattle.vt_recover.specs.Recalling.{KeepsSection}
use Rattle.vt_recover.specs.Refusals.{CountsRefusal}
use Rattle.vt_recover.specs.TakingBack.{CountsRose, CountsShard, HasEntries, HasNoRoomFor, IsSoundAt, IsUnwrittenShard, TakesAllBack, TakesBack}
use Rattle.vt_recover.proofs.Places.{get_set, get_other, length-set, within_get, one_or_other, map_over_set}
use Rattle.vt_recover.proofs.Lists.{at_map}
use Rattle.vt_recover.proofs.PuttingBack.{LacksMore, less_unwritten}
use Rattle.vt_recover.proofs.Counts.{risen_set}
use Rattle.vt_recover.proofs.TakingBack.{keeps_none}
use Rattle.vt_log.proofs.Lists.{slice_get_other}

-- ---- places of lists

pub set_same : {X : Type 0} (xs : List X) (i : ℕ) (x : X) → slice_get xs i ≡ Some x → slice_set xs i x ≡ xs
set_same [] i x at = refl
set_same {X} (y ∷ xs) zero x at = ap (λ (z : X). z ∷ xs) (sym (same_Some y x at))
set_same (y ∷ xs) (suc i) x at = ap (λ zs. y ∷ zs) (set_same xs i x at)

pub below_or_from : (j i : ℕ) → (j < i) ⊎ (i ≤ j)
below_or_from zero zero = inr (omega arith)
below_or_from zero (suc i) = inl (omega arith)
below_or_from (suc j) zero = inr (omega arith)
below_or_from (suc j) (suc i) = ⊎_elim (λ b. inl (omega (arith, b))) (λ a. inr (omega (arith, a))) (below_or_from j i)

-- a count that stays
stays_at : (xs : List ℕ) (i old new : ℕ) → slice_get xs i ≡ Some old → new ≡ old → slice_set xs i new ≡ xs
stays_at xs i old new at same = set_same xs i new (at ∙ ap Some (sym same))

-- one count among the others
counts_list : (bad : MountBad) (xs : List ℕ) (i old new : ℕ) → slice_get xs i ≡ Some old → CountsRose bad old new → CountsRefusal bad xs (slice_set xs i new)
counts_list Fault xs i old new at rose = risen_set xs i new (within_get xs i old at) (subst (λ (n : ℕ). HasRisen n new) (sym (index_of xs i old at)) rose)
  where
    index_of : (ys : List ℕ) (j y : ℕ) → slice_get ys j ≡ Some y → slice_index ys j ≡ y
    index_of [] j y there = absurd (cc)
    index_of (z ∷ ys) zero y there = same_Some z y there
    index_of (z ∷ ys) (suc j) y there = index_of ys j y there
counts_list (NotFormatted part) xs i old new at same = stays_at xs i old new at same
counts_list (TooSmall part len need) xs i old new at same = stays_at xs i old new at same
counts_list (DuplicateName first second) xs i old new at same = stays_at xs i old new at same
counts_list (Disagree part field found want) xs i old new at same = stays_at xs i old new at same
counts_list (Damaged site want found) xs i old new at same = stays_at xs i old new at same
counts_list NoMemory xs i old new at same = stays_at xs i old new at same

-- ---- the shards so far

-- So many of them were looked at, and the others are as they were.
pub record AreTaken {D : Type 0} (disk : DiskOf D) (part : ℕ) (info : Info) (i : ℕ) (old now : List (ShardState D)) : Type 0 where
  pub many : length now ≡ length old
  pub before : (j : ℕ) (s t : ShardState D) → j < i → slice_get old j ≡ Some s → slice_get now j ≡ Some t → TakesBack {U = ⊤} disk (part + j) info (Ok tt) s t
  pub behind : (j : ℕ) → i ≤ j → slice_get now j ≡ slice_get old j
  pub faults : map (λ s. disk.faults s.section.disk) now ≡ map (λ s. disk.faults s.section.disk) old

module _ {D : Type 0} (disk : DiskOf D) (part : ℕ) (info : Info) (i : ℕ) (old now : List (ShardState D)) (was : AreTaken disk part info i old now)
    (before : ShardState D) (at : slice_get now i ≡ Some before) (after : ShardState D) where
  old_at : slice_get old i ≡ Some before
  old_at = sym (was.behind i (omega arith)) ∙ at

  -- what there is at a place then
  set_cases : (j : ℕ) (t : ShardState D) → slice_get (slice_set now i after) j ≡ Some t → ((j ≡ i) × (t ≡ after)) ⊎ ((j ≢ i) × (slice_get now j ≡ Some t))
  set_cases j t there = ⊎_elim
      (λ (e : j ≡ i). inl (e, same_Some t after (sym there ∙ ap (λ (n : ℕ). slice_get (slice_set now i after) n) e ∙ get_set now i after before at)))
      (λ (other : j ≢ i). inr (other, sym (get_other now i j after other) ∙ there))
      (one_or_other j i)

  pub one_taken : TakesBack {U = ⊤} disk (part + i) info (Ok tt) before after → AreTaken disk part info (i + 1) old (slice_set now i after)
  one_taken takes = record {
    many = length-set now i after ∙ was.many;
    before = λ j s t below here there. ⊎_elim
        (λ own.
        let same : before ≡ s = same_Some before s (sym old_at ∙ ap (λ (n : ℕ). slice_get old n) (sym own.0) ∙ here) in
        subst (λ (x : ShardState D). TakesBack {U = ⊤} disk (part + j) info (Ok tt) x t) same (subst (λ (x : ShardState D). TakesBack {U = ⊤} disk (part + j) info (Ok tt) before x) (sym own.1)
        (subst (λ (n : ℕ). TakesBack {U = ⊤} disk (part + n) info (Ok tt) before after) (sym own.0) takes)))
        (λ rest. was.before j s t (let other : j ≢ i = rest.0 in omega (arith, below, other)) here rest.1)
        (set_cases j t there);
    behind = λ j from. get_other now i j after (λ e. omega (arith, from, e)) ∙ was.behind j (omega (arith, from));
    faults = faults;
  }
    where
      faults : map (λ s. disk.faults s.section.disk) (slice_set now i after) ≡ map (λ s. disk.faults s.section.disk) old
      faults =
          let f : ShardState D → ℕ = λ s. disk.faults s.section.disk in
          map_over_set f now i after ∙ set_same (map f now) i (f after) (at_map f now i before at ∙ ap Some (sym takes.counts)) ∙ was.faults

  -- and where reading ends at this one
  pub ends_at : (bad : MountBad) → LacksMore disk → TakesBack {U = ⊤} disk (part + i) info (Err bad) before after → TakesAllBack {U = ⊤} disk part info (Err bad) old (slice_set now i after)
  ends_at bad more takes = record {
    many = length-set now i after ∙ was.many;
    keeps = λ j s t here there. by_place (λ s t. KeepsSection disk s t) takes.keeps (λ n s t it. it.keeps) (λ s. keeps_none disk s) j s t here there;
    rests = λ bits below all number set. tt;
    counts = subst (λ (xs : List ℕ). CountsRefusal bad xs (map (λ s. disk.faults s.section.disk) (slice_set now i after))) was.faults
        (subst (λ (ys : List ℕ). CountsRefusal bad (map (λ s. disk.faults s.section.disk) now) ys) (sym (map_over_set (λ s. disk.faults s.section.disk) now i after))
        (counts_list bad (map (λ s. disk.faults s.section.disk) now) i (disk.faults before.section.disk) (disk.faults after.section.disk) (at_map (λ s. disk.faults s.section.disk) now i before at) (rose bad takes.counts)));
    ends_early = ⊎_elim (λ told. inl told) (λ crowd. inr (i, before, old_at, crowd)) takes.ends_early;
    sound = λ tells score c h j s t here there.
        by_place (λ s t. IsSoundAt score c disk h info s → IsSoundFrom score c disk t h (length h) (info.number + 1))
        (λ sound. (takes.sound tells score c h sound).0)
        (λ n s t it sound. more score c t h (length h) info.number (info.number + 1) (it.sound tells score c h sound) (omega arith))
        (λ s sound. sound.0) j s t here there;
    found = λ tells score c h all fits. (takes.sound tells score c h (all i before old_at)).1 fits;
    unwritten = λ tells j s t here there.
        by_place (λ s t. (entries : ℕ → List Entry) (file : List ℕ) → HasEntries entries file s → IsUnwrittenShard disk entries file (info.number + 1) s
        → IsUnwrittenShard disk entries file info.number t ⊎ HasNoRoomFor entries info.key s)
        (λ entries file has un. takes.unwritten tells entries file has un)
        (λ n s t it entries file has un. it.unwritten tells entries file has un)
        (λ s entries file has un. inl (less_unwritten disk entries file info.number s un)) j s t here there;
  }
    where
      rose : (b : MountBad) → CountsShard {U = ⊤} (Err b) (disk.faults before.section.disk) (disk.faults after.section.disk) → CountsRose b (disk.faults before.section.disk) (disk.faults after.section.disk)
      rose b it = it

      by_place : (P : ShardState D → ShardState D → Type 0) → P before after → ((n : ℕ) (s t : ShardState D) → TakesBack {U = ⊤} disk n info (Ok tt) s t → P s t) → ((s : ShardState D) → P s s)
          → (j : ℕ) (s t : ShardState D) → slice_get old j ≡ Some s → slice_get (slice_set now i after) j ≡ Some t → P s t
      by_place P here_is taken rest j s t here there = ⊎_elim
          (λ own.
          let same : before ≡ s = same_Some before s (sym old_at ∙ ap (λ (n : ℕ). slice_get old n) (sym own.0) ∙ here) in
          subst (λ (x : ShardState D). P x t) same (subst (λ (x : ShardState D). P before x) (sym own.1) here_is))
          (λ other. ⊎_elim
          (λ below. taken (part + j) s t (was.before j s t below here other.1))
          (λ from.
          let same : s ≡ t = same_Some s t (sym here ∙ sym (was.behind j from) ∙ other.1) in
          subst (λ (x : ShardState D). P s x) same (rest s))
          (below_or_from j i))
          (set_cases j t there)

-- all of them were looked at
pub all_taken : {D : Type 0} (disk : DiskOf D) (part : ℕ) (info : Info) (i : ℕ) (old now : List (ShardState D)) (done : ⊤) → AreTaken disk part info i old now → length old ≤ i
    → TakesAllBack disk part info (Ok done) old now
all_taken {D} disk part info i old now done was all = record {
  many = was.many;
  keeps = λ j s t here there. (each j s t here there).keeps;
  rests = λ bits below rests number set j t there.
      let s = slice_get_other old now j t was.many there in
      (each j s.0 t s.1 there).rests bits below (rests j s.0 s.1) number set;
  counts = was.faults;
  ends_early = tt;
  sound = λ tells score c h j s t here there sound. (each j s t here there).sound tells score c h sound;
  found = λ tells score c h sounds fits. tt;
  unwritten = λ tells j s t here there entries file has un. (each j s t here there).unwritten tells entries file has un;
}
  where
    each : (j : ℕ) (s t : ShardState D) → slice_get old j ≡ Some s → slice_get now j ≡ Some t → TakesBack {U = ⊤} disk (part + j) info (Ok tt) s t
    each j s t here there = was.before j s t (omega (arith, all, within_get old j s here)) here there

-- what stands at an index
pub at_index : {X : Type 0} (xs : List X) (i : ℕ) (d : X) → i < length xs → slice_get xs i ≡ Some (slice_index_or xs i d)
at_index [] i d below = absurd (omega (arith, below))
at_index (x ∷ xs) zero d below = refl
at_index (x ∷ xs) (suc i) d below = at_index xs i d (omega (arith, below))

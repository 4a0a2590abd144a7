-- The sections and the filter of devices that agree with a history pass each test.
use Rattle.std.proofs.Common.{◌≡◌, ⊎_elim, ◌<◌, ◌≤◌, ◌+◌, ℕ, zero, suc, Bool, true, false, List, [], ◌∷◌, length, map, Option, Some, None, Err, refl, sym, ◌∙◌, ap, subst, arith, eqb, eq-eqb}
use Rattle.std.specs.Prelude.{slice_get, slice_index, IsTrue, sum, ⊤, if◌then◌else◌, not}
use Rattle.std.specs.List.{All, AllZip, AllByRecursion}
use Rattle.std.proofs.lemmas.Bool.{eqb-true}
use Rattle.std.proofs.lemmas.List.{length-map}
use Rattle.std.proofs.lemmas.List.Elements.{All-from_recursion}
use Rattle.std.proofs.lemmas.List.Sums.{sum_by-take-le}
use Rattle.std.proofs.lemmas.Option.{same_Some, get_or_from_slice_get}
use Rattle.vt_base.specs.declared.mount.MountBad.{MountBad}
use Rattle.vt_base.specs.declared.place.Entry.{Entry}
use Rattle.vt_bloom.specs.Bits.{Filter}
use Rattle.vt_bloom.specs.Bloom.{BloomState}
use Rattle.vt_bloom.specs.Frame.{Saved}
use Rattle.vt_bloom.specs.Laws.{HasOneSaved}
use Rattle.vt_disk.specs.Members.{DiskOf}
use Rattle.vt_isect.specs.declared.TheConstants.{LEAST_LEN}
use Rattle.vt_isect.specs.declared.head.Head.{Head}
use Rattle.vt_isect.specs.Agreement.{AgreesWith, KnownAgrees}
use Rattle.vt_isect.specs.Layout.{IsSection, buckets_in}
use Rattle.vt_isect.specs.Section.{SectionState}
use Rattle.vt_isect.specs.Sound.{DiskHolds, all_known}
use Rattle.vt_model.specs.History.{History}
use Rattle.vt_model.specs.Places.{Setup, first_bucket}
use Rattle.vt_shard.specs.Shard.{ShardState}
use Rattle.vt_shard.specs.Sound.{IsSoundFrom}
use Rattle.vt_core.specs.declared.TheConstants.{MOST_BUCKETS}
use Rattle.vt_core.specs.Opening.{AgreeWith, TestsParts, buckets_in_each, wrong_at}
use Rattle.vt_recover.specs.Opening.{CanBeOpened, IsFoundSection, IsShardMade, OpensFilter}
use Rattle.vt_core.specs.Refusals.{wrong_head}
use Rattle.vt_recover.specs.Sections.{IsLive, SectionStandsFor, section_buckets}
use Rattle.vt_core.specs.Stands.{FilterStandsFor}
use Rattle.vt_recover.proofs.Lists.{index_map, same_lists, at_map}
use Rattle.vt_recover.proofs.Zips.{zip_beside, zip_length}
use Rattle.vt_log.proofs.Lists.{at_slice, slice_get_other}

-- ---- lists

pub by_recursion : {X : Type 0} (P : X → Type 0) (xs : List X) → ((i : ℕ) (x : X) → slice_get xs i ≡ Some x → P x) → AllByRecursion P xs
by_recursion P [] each = tt
by_recursion P (x ∷ xs) each = (each zero x refl, by_recursion P xs (λ i y at. each (suc i) y at))

pub all_from : {X : Type 0} (P : X → Type 0) (xs : List X) → ((i : ℕ) (x : X) → slice_get xs i ≡ Some x → P x) → All P xs
all_from P xs each = All-from_recursion P xs (by_recursion P xs each)

-- ---- one section

pub some_room : (size : ℕ) → 0 < buckets_in size → LEAST_LEN ≤ size
some_room size some = omega (arith, some)

-- what is known of a section that was opened on a device which agrees with a history
pub record IsOfStore {D : Type 0} (score : List ℕ → List ℕ) (disk : DiskOf D) (c : Setup) (g : History) (i : ℕ) (s : SectionState D) : Type 0 where
  pub buckets : s.buckets ≡ section_buckets c i
  pub live : IsLive c i s.head
  pub mark : s.head.mark ≤ length g
  pub entries : ℕ → List Entry
  pub holds : DiskHolds disk s (all_known entries)
  pub agrees : KnownAgrees score c g s (all_known entries)

module _ {D : Type 0} (score : List ℕ → List ℕ) (disk : DiskOf D) (c : Setup) (g : History) (tells : IsTrue disk.tells) (devices : List D)
    (setup : c.sections ≡ map (λ device. buckets_in (disk.size device)) devices) where
  pub buckets_there : (i : ℕ) (device : D) → slice_get devices i ≡ Some device → buckets_in (disk.size device) ≡ section_buckets c i
  buckets_there i device at =
      sym (index_map (λ d. buckets_in (disk.size d)) devices i device at) ∙ ap (λ (l : List ℕ). slice_index l i) (sym setup)

  pub opened_buckets : (i : ℕ) (device : D) (s : SectionState D) → slice_get devices i ≡ Some device → IsFoundSection disk device s → s.buckets ≡ section_buckets c i
  opened_buckets i device s at opened = ap (λ (t : SectionState D). t.buckets) opened.fresh ∙ buckets_there i device at

  pub of_store : (i : ℕ) (device : D) (s : SectionState D) → slice_get devices i ≡ Some device → SectionStandsFor score c g i (disk.bytes device)
      → IsFoundSection disk device s → IsOfStore score disk c g i s
  of_store i device s at stands opened =
      let sec = stands.section in
      let file = disk.bytes device in
      let only = opened.only stands.name sec.head tells sec.is.head_frame in
      let many : s.buckets ≡ section_buckets c i = opened_buckets i device s at opened in
      let is : IsSection s.name s.head s.buckets sec.entries file =
      subst (λ (n : ℕ). IsSection s.name s.head n sec.entries file) (sym many)
      (subst (λ (h : Head). IsSection s.name h (section_buckets c i) sec.entries file) (sym only.1)
      (subst (λ (n : List ℕ). IsSection n sec.head (section_buckets c i) sec.entries file) (sym only.0) sec.is)) in
      let agrees : AgreesWith score c g s.buckets s.head sec.entries =
      subst (λ (n : ℕ). AgreesWith score c g n s.head sec.entries) (sym many)
      (subst (λ (h : Head). AgreesWith score c g (section_buckets c i) h sec.entries) (sym only.1) sec.agrees) in
      let sound = opened.sound score c g sec.entries tells is agrees in
      record {
        buckets = many;
        live = record {
          state = ap (λ (h : Head). h.state) only.1 ∙ sec.live;
          first = ap (λ (h : Head). h.first) (only.1 ∙ sec.at_place) ∙ stands.live.first;
          count = ap (λ (h : Head). h.count) (only.1 ∙ sec.at_place) ∙ stands.live.count;
          total = ap (λ (h : Head). h.total) (only.1 ∙ sec.at_place) ∙ stands.live.total;
        };
        mark = agrees.mark_fits;
        entries = sec.entries;
        holds = sound.0;
        agrees = sound.1;
      }

-- its shard is sound, but for the blocks from its mark on
pub sound_shard : {D : Type 0} (score : List ℕ → List ℕ) (disk : DiskOf D) (c : Setup) (g : History) (lumps clean i : ℕ) (s : SectionState D) (shard : ShardState D)
    → IsTrue disk.tells → IsOfStore score disk c g i s → IsShardMade disk lumps clean s shard → IsSoundFrom score c disk shard g (length g) (length g)
sound_shard score disk c g lumps clean i s shard tells of made = made.sound score c g (all_known of.entries) tells of.holds of.agrees of.live.state

-- ---- the tests

abbrev pub chosen : (a b c d : Bool) (x y z w : MountBad) → Option MountBad
chosen a b c d x y z w = if not a then Some x else if not b then Some y else if not c then Some z else if not d then Some w else None

all_true : (a b c d : Bool) (x y z w : MountBad) → chosen a b c d x y z w ≡ None → (a ≡ true) × (b ≡ true) × (c ≡ true) × (d ≡ true)
all_true true true true true x y z w e = (refl, refl, refl, refl)
all_true false b c d x y z w e = absurd (cc)
all_true true false c d x y z w e = absurd (cc)
all_true true true false d x y z w e = absurd (cc)
all_true true true true false x y z w e = absurd (cc)

none_true : (a b c d : Bool) (x y z w : MountBad) → a ≡ true → b ≡ true → c ≡ true → d ≡ true → chosen a b c d x y z w ≡ None
none_true true true true true x y z w ea eb ec ed = refl
none_true false b c d x y z w ea eb ec ed = absurd (cc)
none_true true false c d x y z w ea eb ec ed = absurd (cc)
none_true true true false d x y z w ea eb ec ed = absurd (cc)
none_true true true true false x y z w ea eb ec ed = absurd (cc)

-- a head in which nothing is wrong
pub head_right : (part first count total : ℕ) (head : Head) → wrong_head part first count total head ≡ None
    → (head.state ≡ 1) × (head.first ≡ first) × (head.count ≡ count) × (head.total ≡ total)
head_right part first count total head none =
    let it = all_true (eqb head.state 1) (eqb head.first first) (eqb head.count count) (eqb head.total total) _ _ _ _ none in
    (eqb-true head.state 1 it.0, eqb-true head.first first it.1, eqb-true head.count count it.2, eqb-true head.total total it.3)

pub right_head : (part first count total : ℕ) (head : Head) → head.state ≡ 1 → head.first ≡ first → head.count ≡ count → head.total ≡ total
    → wrong_head part first count total head ≡ None
right_head part first count total head st fi co to =
    none_true (eqb head.state 1) (eqb head.first first) (eqb head.count count) (eqb head.total total) _ _ _ _
    (eq-eqb head.state 1 st) (eq-eqb head.first first fi) (eq-eqb head.count count co) (eq-eqb head.total total to)

module _ {D : Type 0} (score : List ℕ → List ℕ) (disk : DiskOf D) (c : Setup) (g : History) (tells : IsTrue disk.tells) (devices : List D) (filter : Option D)
    (agree : AgreeWith score disk c g devices filter) where
  -- each device can be opened
  pub can_open : All (CanBeOpened disk) devices
  can_open = all_from (CanBeOpened disk) devices (λ i device at.
      let stands = agree.sections i device at in
      let some : 0 < section_buckets c i =
      let inside : slice_get c.sections i ≡ Some (buckets_in (disk.size device)) =
      ap (λ (l : List ℕ). slice_get l i) agree.setup ∙ at_map (λ d. buckets_in (disk.size d)) devices i device at in
      subst (λ (n : ℕ). 0 < n) (buckets_there score disk c g tells devices agree.setup i device at)
      (at_slice (λ n. 0 < n) c.sections i (buckets_in (disk.size device)) agree.some inside) in
      let here : 0 < buckets_in (disk.size device) = subst (λ (n : ℕ). 0 < n) (sym (buckets_there score disk c g tells devices agree.setup i device at)) some in
      record { room = some_room (disk.size device) here; name = stands.name; head = stands.section.head; frame = stands.section.is.head_frame })

  module _ (sections : List (SectionState D)) (zip : AllZip (IsFoundSection disk) devices sections) where
    pub store_at : (i : ℕ) (s : SectionState D) → slice_get sections i ≡ Some s → IsOfStore score disk c g i s
    store_at i s at =
        let d = zip_beside (IsFoundSection disk) devices sections i s zip at in
        of_store score disk c g tells devices agree.setup i d.0 s d.1 (agree.sections i d.0 d.1) d.2

    pub each_buckets : buckets_in_each sections ≡ c.sections
    each_buckets = same_lists (buckets_in_each sections) c.sections
        (length-map sections (λ s. s.buckets) ∙ zip_length (IsFoundSection disk) devices sections zip ∙ sym (length-map devices (λ d. buckets_in (disk.size d))) ∙ ap length (sym agree.setup))
        (λ i x y here there.
        let s = slice_get_other sections (buckets_in_each sections) i x (length-map sections (λ s. s.buckets)) here in
        let e : x ≡ s.0.buckets = same_Some x s.0.buckets (sym here ∙ at_map (λ s. s.buckets) sections i s.0 s.1) in
        e ∙ (store_at i s.0 s.1).buckets ∙ get_or_from_slice_get c.sections i y 0 there)

    module _ (one : HasOneSaved) (len part : ℕ) (whole : length g ≡ len) (bloom : Option (BloomState D)) (bits : Filter) (opens : OpensFilter disk filter bloom bits) where
      filter_mark : (b : BloomState D) → bloom ≡ Some b → b.mark ≤ length g
      filter_mark b is = by_device filter opens agree.filter_is
        where
          by_device : (device : Option D) → OpensFilter disk device bloom bits → ((d : D) → device ≡ Some d → FilterStandsFor score g (disk.bytes d)) → b.mark ≤ length g
          by_device None it stands = absurd (cc)
          by_device (Some d) it stands =
              let f = stands d refl in
              let same : it.0 ≡ b = same_Some it.0 b (sym it.1 ∙ is) in
              let saved : record { filter = bits; mark = it.0.mark } ≡ f.saved = one (record { filter = bits; mark = it.0.mark }) f.saved (disk.bytes d) (it.2.found tells) f.has in
              let mark : it.0.mark ≡ f.saved.mark = ap (λ (s : Saved). s.mark) saved in
              let there : it.0.mark ≡ b.mark = ap (λ (x : BloomState D). x.mark) same in
              omega (arith, mark, there, f.covers.within, length-map g (λ e. score e.block.bytes))

      -- no test fails
      pub none_fails : (bad : MountBad) → TestsParts {U = ⊤} part sections bloom len (Err bad) → ⊥
      none_fails bad it = ⊎_elim
          (λ limits.
          let within : sum (buckets_in_each sections) ≤ MOST_BUCKETS = subst (λ (l : List ℕ). sum l ≤ MOST_BUCKETS) (sym each_buckets) agree.buckets in
          absurd (omega (arith, within, limits.1.past, sum_by-take-le (λ n. n) (buckets_in_each sections) (limits.0 + 1))))
          (λ rest. ⊎_elim
          (λ heads.
          let of = store_at heads.0 heads.1 heads.2 in
          let none : wrong_at part sections heads.0 heads.1 ≡ None =
          right_head (part + heads.0) (first_bucket (buckets_in_each sections) heads.0) heads.1.buckets (sum (buckets_in_each sections)) heads.1.head
          of.live.state
          (of.live.first ∙ ap (λ (l : List ℕ). first_bucket l heads.0) (sym each_buckets))
          (of.live.count ∙ sym of.buckets)
          (of.live.total ∙ ap sum (sym each_buckets)) in
          absurd (cc (sym none ∙ heads.3)))
          (λ marks. ⊎_elim
          (λ section. absurd (omega (arith, (store_at section.0 section.1 section.2).mark, section.4, marks.3, whole)))
          (λ saved. absurd (omega (arith, filter_mark saved.0 saved.1, saved.3, marks.3, whole)))
          marks.2)
          rest)
          it

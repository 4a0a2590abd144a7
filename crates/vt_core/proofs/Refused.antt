-- Why a store isn't found, and what is handed back.
use Rattle.std.proofs.Common.{◌≡◌, ⊎_elim, inl, inr, ◌+◌, ◌<◌, ◌≤◌, ℕ, List, length, map, Option, Some, None, Ok, Err, refl, sym, ◌∙◌, ap, subst, arith}
use Rattle.std.specs.Prelude.{slice_get, sum, sum_by, ⊤, slice_index}
use Rattle.std.specs.List.{All, AllZip}
use Rattle.std.specs.Option.{option_to_list}
use Rattle.std.proofs.lemmas.List.{length-map}
use Rattle.std.proofs.lemmas.Option.{same_Some}
use Rattle.vt_arena.specs.Heads.{clump_count_in}
use Rattle.vt_base.specs.declared.mount.MountBad.{MountBad}
use Rattle.vt_base.specs.declared.mount.MountBad.TheVariants.{Disagree}
use Rattle.vt_base.specs.declared.mount.MountField.TheVariants.{Buckets, Mark}
use Rattle.vt_bloom.specs.Bits.{Filter}
use Rattle.vt_bloom.specs.Bloom.{BloomState}
use Rattle.vt_disk.specs.Members.{DiskOf}
use Rattle.vt_isect.specs.Section.{SectionState}
use Rattle.vt_log.specs.Answers.{HoldTheSame}
use Rattle.vt_log.specs.Log.{LogState}
use Rattle.vt_log.proofs.Lists.{slice_get_other}
use Rattle.vt_model.specs.Places.{Setup, bucket_count, first_bucket}
use Rattle.vt_part.specs.Table.{Table}
use Rattle.vt_recover.specs.declared.devices.Devices.{Devices}
use Rattle.vt_core.specs.Files.{PerDevice, all_of}
use Rattle.vt_core.specs.Mounting.{IsHeadRead, IsSetupOf, devices_in, tables_in, IsMarkRead}
use Rattle.vt_core.specs.Opening.{IsLogFound, RefusesBeside, TestsParts, buckets_in_each, with_log, IsMarkOf, wrong_at}
use Rattle.vt_recover.specs.Opening.{IsFoundSection, OpensFilter}
use Rattle.vt_recover.specs.Refusals.{CountsRefusal, FilterIsRefused, SectionIsRefused}
use Rattle.vt_core.specs.Refusals.{IsBeforeReading, IsRefusedMount, RefusesToMount, HasMark, IsFirstPast, PassesTests, first_wrong_field, section_part, wrong_head}
use Rattle.vt_recover.specs.Sections.{section_buckets}
use Rattle.vt_core.proofs.Beside.{all_from}
use Rattle.vt_core.proofs.Fields.{clumps_are}
use Rattle.vt_recover.proofs.Lists.{at_map, same_lists, index_map, only_one}
use Rattle.vt_recover.proofs.Zips.{zip_beside, zip_length, zip_other}
use Rattle.vt_isect.specs.Layout.{buckets_in}

-- ---- what is handed back

-- the same of what is handed back, where these are the devices
pub refuses_back : {D : Type 0} (score : List ℕ → List ℕ) (disk : DiskOf D) (tables : List Table) (pd new : PerDevice D) (bad : MountBad) (back : Devices D)
    → devices_in back ≡ new → tables_in back ≡ tables
    → ((c : Setup) → IsSetupOf disk tables pd c → IsRefusedMount score disk tables pd c bad)
    → CountsRefusal bad (map disk.faults (all_of pd)) (map disk.faults (all_of new))
    → (IsBeforeReading bad → HoldTheSame disk pd.sections new.sections)
    → length new.sections ≡ length pd.sections → length new.filter ≡ length pd.filter
    → map disk.size (all_of new) ≡ map disk.size (all_of pd)
    → RefusesToMount score disk tables pd bad back
refuses_back score disk tables pd new bad back is are cause counts early sections filter sizes = record {
  cause = cause;
  counts = subst (λ (p : PerDevice _). CountsRefusal bad (map disk.faults (all_of pd)) (map disk.faults (all_of p))) (sym is) counts;
  early = λ soon. subst (λ (p : PerDevice _). HoldTheSame disk pd.sections p.sections) (sym is) (early soon);
  tables_are = are;
  sections = ap (λ (p : PerDevice _). length p.sections) is ∙ sections;
  filter = ap (λ (p : PerDevice _). length p.filter) is ∙ filter;
  sizes = ap (λ (p : PerDevice _). map disk.size (all_of p)) is ∙ sizes;
}

-- ---- nothing was read back yet

module _ {D : Type 0} (score : List ℕ → List ℕ) (disk : DiskOf D) (before : List D) (log : LogState D) (devices : List D) (filter : Option D) (given : IsLogFound score disk before devices filter log) where
  abbrev pd : PerDevice D
  pd = with_log before devices filter

  module _ (c : Setup) (setup : IsSetupOf disk log.tables pd c) (part : ℕ) (at_part : part ≡ length before) (sections : List (SectionState D)) (bloom : Option (BloomState D)) (bits : Filter)
      (opens : AllZip (IsFoundSection disk) devices sections) (filter_opens : OpensFilter disk filter bloom bits) where
    same : buckets_in_each sections ≡ c.sections
    same = same_lists (buckets_in_each sections) c.sections
        (length-map sections (λ s. s.buckets) ∙ zip_length (IsFoundSection disk) devices sections opens ∙ sym (length-map devices (λ d. buckets_in (disk.size d))) ∙ ap length (sym setup.sections))
        (λ i x y here there.
        let s = slice_get_other sections (buckets_in_each sections) i x (length-map sections (λ s. s.buckets)) here in
        let d = zip_beside (IsFoundSection disk) devices sections i s.0 opens s.1 in
        let e : x ≡ s.0.buckets = same_Some x s.0.buckets (sym here ∙ at_map (λ s. s.buckets) sections i s.0 s.1) in
        let f : s.0.buckets ≡ buckets_in (disk.size d.0) = ap (λ (t : SectionState D). t.buckets) d.2.fresh in
        let g : y ≡ buckets_in (disk.size d.0) = same_Some y (buckets_in (disk.size d.0))
        (sym there ∙ ap (λ (l : List ℕ). slice_get l i) setup.sections ∙ at_map (λ d. buckets_in (disk.size d)) devices i d.0 d.1) in
        e ∙ f ∙ sym g)

    head_of : (i : ℕ) (s : SectionState D) → slice_get sections i ≡ Some s → IsHeadRead disk pd i s.head
    head_of i s there =
        let d = zip_beside (IsFoundSection disk) devices sections i s opens there in
        record { device = d.0; at = d.1; read = λ tells. (s.name, d.2.head tells) }

    mark_by : (b : BloomState D) → bloom ≡ Some b → (f : Option D) → filter ≡ f → OpensFilter disk f bloom bits → IsMarkRead disk pd b.mark
    mark_by b is None none it = absurd (cc)
    mark_by b is (Some d) some it =
        let one : it.0 ≡ b = same_Some it.0 b (sym it.1 ∙ is) in
        let mark : b.mark ≡ it.0.mark = ap (λ (x : BloomState D). x.mark) (sym one) in
        record {
          device = d;
          at = ap (λ (o : Option D). slice_get (option_to_list o) 0) some;
          read = λ tells. (record { filter = bits; mark = it.0.mark }, it.2.found tells, mark);
        }

    wrong_there : (told : Option MountBad) (i : ℕ) (s : SectionState D) → slice_get sections i ≡ Some s → wrong_at part sections i s ≡ told
        → first_wrong_field (section_part pd i) c i s.head ≡ told
    wrong_there told i s there is =
        let count : s.buckets ≡ section_buckets c i = sym (index_map (λ t. t.buckets) sections i s there) ∙ ap (λ (l : List ℕ). slice_index l i) same in
        ap (λ (p : ℕ). wrong_head (p + i) (first_bucket c.sections i) (section_buckets c i) (bucket_count c) s.head) (sym at_part)
        ∙ ap (λ (n : ℕ). wrong_head (part + i) (first_bucket c.sections i) n (bucket_count c) s.head) (sym count)
        ∙ ap (λ (l : List ℕ). wrong_head (part + i) (first_bucket l i) s.buckets (sum l) s.head) (sym same) ∙ is

    has_mark : (of mark : ℕ) → IsMarkOf part sections bloom of mark → HasMark disk pd of mark
    has_mark of mark it = ⊎_elim
        (λ s. inl (s.0, s.1.head, s.3 ∙ ap (λ (p : ℕ). p + s.0) at_part, head_of s.0 s.1 s.2, s.4))
        (λ b. inr (
          b.2 ∙ ap (λ (n : ℕ). part + n) (zip_length (IsFoundSection disk) devices sections opens) ∙ ap (λ (p : ℕ). p + length devices) at_part,
          subst (IsMarkRead disk pd) (sym b.3) (mark_by b.0 b.1 filter refl filter_opens),
        ))
        it

    by_tests : (bad : MountBad) → TestsParts {U = ⊤} part sections bloom log.durable (Err bad) → IsRefusedMount score disk log.tables pd c bad
    by_tests bad failed =
        let len : sum_by clump_count_in given.read.fields ≡ log.durable = clumps_are disk log given.whole given.read.fields given.read.mounted.heads in
        ⊎_elim
        (λ limits. inr (inr (inr (inr (inr (inl (inr (
          limits.0,
          subst (λ (l : List ℕ). IsFirstPast 1048576 l limits.0) same limits.1,
          limits.2 ∙ ap (λ (p : ℕ). Disagree (p + limits.0) Buckets (sum (buckets_in_each sections)) 1048576) at_part
              ∙ ap (λ (l : List ℕ). Disagree (length before + limits.0) Buckets (sum l) 1048576) same,
        ))))))))
        (λ more. ⊎_elim
        (λ heads. inr (inr (inr (inr (inr (inr (inl (record {
          i = heads.0;
          head = heads.1.head;
          read = head_of heads.0 heads.1 heads.2;
          wrong = wrong_there (Some bad) heads.0 heads.1 heads.2 heads.3;
        }))))))))
        (λ marks. inr (inr (inr (inr (inr (inr (inr (inl (record {
          part = marks.0;
          mark = marks.1;
          has = has_mark marks.0 marks.1 marks.2;
          fields = given.read.fields;
          read = given.read.read;
          above = omega (arith, marks.3, len);
          bad_is = marks.4 ∙ ap (λ (n : ℕ). Disagree marks.0 Mark marks.1 n) (sym len);
        })))))))))
        more)
        failed

    -- what passes each of them
    module _ (tests : TestsParts {U = ⊤} part sections bloom log.durable (Ok tt)) where
      len_is : sum_by clump_count_in given.read.fields ≡ log.durable
      len_is = clumps_are disk log given.whole given.read.fields given.read.mounted.heads

      some_buckets : All (λ n. 0 < n) (buckets_in_each sections)
      some_buckets = all_from (λ n. 0 < n) (buckets_in_each sections) (λ i n at.
          let s = slice_get_other sections (buckets_in_each sections) i n (length-map sections (λ s. s.buckets)) at in
          let d = zip_beside (IsFoundSection disk) devices sections i s.0 opens s.1 in
          let e : s.0.buckets ≡ n = same_Some s.0.buckets n (sym (at_map (λ s. s.buckets) sections i s.0 s.1) ∙ at) in
          subst (λ (m : ℕ). 0 < m) e d.2.some)

      mark_of : (f : Option D) → filter ≡ f → OpensFilter disk f bloom bits → (device : D) → f ≡ Some device
          → (mark : ℕ) × IsMarkRead disk pd mark × (mark ≤ sum_by clump_count_in given.read.fields)
      mark_of None is it device at = absurd (cc)
      mark_of (Some d) is it device at = (it.0.mark, mark_by it.0 it.1 filter refl filter_opens, omega (arith, tests.2.1 it.0 it.1, len_is))

      pub passes : PassesTests disk log.tables pd c
      passes = record {
        limits = record {
          arenas = given.arenas;
          buckets = subst (λ (l : List ℕ). sum l ≤ 1048576) same tests.0;
          sections = subst (All (λ n. 0 < n)) same some_buckets;
          names = given.read.mounted.distinct;
        };
        fields = given.read.fields;
        read = given.read.read;
        log = given.read.mounted.passed;
        heads = λ i device at.
            let s = zip_other (IsFoundSection disk) devices sections i device opens at in
            (s.0.head, head_of i s.0 s.1, wrong_there None i s.0 s.1 (tests.1 i s.0 s.1), omega (arith, tests.2.0 i s.0 s.1, len_is));
        mark = λ i device at. mark_of filter refl filter_opens device (only_one filter i device at);
      }

  -- a test of the sections and the filter is that of the store
  pub beside_cause : (part : ℕ) → part ≡ length before → (bad : MountBad) → RefusesBeside disk part log.durable devices filter bad
      → (c : Setup) → IsSetupOf disk log.tables pd c → IsRefusedMount score disk log.tables pd c bad
  beside_cause part at_part bad it c setup = ⊎_elim
      (λ memory. inr (inl memory))
      (λ a. ⊎_elim
      (λ section. inr (inr (inr (inl (subst (λ (p : ℕ). SectionIsRefused disk p devices bad) at_part section)))))
      (λ b. ⊎_elim
      (λ f. inr (inr (inr (inr (inl (subst (λ (p : ℕ). FilterIsRefused disk (p + length devices) (option_to_list filter) bad) at_part f))))))
      (λ tests. by_tests c setup part at_part tests.0 tests.1 tests.2 tests.3 tests.4 bad tests.5)
      b)
      a)
      it

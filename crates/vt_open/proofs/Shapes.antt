-- Lists of devices of one shape, and what stands under the names of all files.
use Rattle.std.proofs.Common.{◌≡◌, ℕ, List, [], ◌∷◌, ◌++◌, length, map, Option, Some, None, refl, sym, ◌∙◌, ap, subst, arith, length-append}
use Rattle.std.specs.List.{Contains}
use Rattle.std.specs.Option.{option_map, option_to_list}
use Rattle.std.proofs.lemmas.List.{length-map}
use Rattle.std.proofs.lemmas.List.Elements.{Contains-append_left, Contains-append_right}
use Rattle.vt_conf.specs.declared.conf.Conf.{Conf}
use Rattle.vt_conf.specs.declared.conf.PartFile.{PartFile}
use Rattle.vt_bloom.specs.Bloom.{BloomState}
use Rattle.vt_disk.specs.Members.{DiskOf}
use Rattle.vt_partitions.specs.Parts.{there}
use Rattle.vt_core.specs.Core.{CoreState, devices_of, each_of}
use Rattle.vt_core.specs.Files.{PerDevice, all_of}
use Rattle.vt_core.specs.Steps.{Runs}
use Rattle.vt_core.proofs.Runs.{runs_keep}
use Rattle.vt_core.specs.declared.event.Event.{Event}
use Rattle.vt_core.specs.declared.event.Out.{Out}
use Rattle.vt_open.specs.Names.{AreUnder, HaveOneShape, StandUnder, files_of}
use Rattle.vt_open.proofs.Lists.{has_first, has_later, zip_append}
use Rattle.vt_open.proofs.Taken.{Stands}

pub shape_back : {X Y : Type 0} (a : PerDevice X) (b : PerDevice Y) → HaveOneShape a b → HaveOneShape b a
shape_back a b it = record { partitions = sym it.partitions; sections = sym it.sections; filter = sym it.filter }

pub shape_on : {X Y Z : Type 0} (a : PerDevice X) (b : PerDevice Y) (c : PerDevice Z) → HaveOneShape a b → HaveOneShape b c → HaveOneShape a c
shape_on a b c ab bc = record {
  partitions = ab.partitions ∙ bc.partitions;
  sections = ab.sections ∙ bc.sections;
  filter = ab.filter ∙ bc.filter;
}

-- two lists of which each front has one length are one where they are the same with the rest
same_front : {X : Type 0} (a b c d : List X) → length a ≡ length b → a ++ c ≡ b ++ d → (a ≡ b) × (c ≡ d)
same_front [] [] c d many same = (refl, same)
same_front [] (y ∷ b) c d many same = absurd (omega (arith, many))
same_front (x ∷ a) [] c d many same = absurd (omega (arith, many))
same_front (x ∷ a) (y ∷ b) c d many same =
    let head : x ≡ y = cc in
    let tail : a ++ c ≡ b ++ d = cc in
    let few : length a ≡ length b = omega (arith, many) in
    let rest = same_front a b c d few tail in
    let front = rest.0 in
    (cc, rest.1)

pub same_devices : {X : Type 0} (a b : PerDevice X) → HaveOneShape a b → all_of a ≡ all_of b → a ≡ b
same_devices {X = X} a b shape same =
    let both : length (a.partitions ++ a.sections) ≡ length (b.partitions ++ b.sections) =
    let p = shape.partitions in let s = shape.sections in omega (arith, p, s, length-append a.partitions a.sections, length-append b.partitions b.sections) in
    let one = same_front (a.partitions ++ a.sections) (b.partitions ++ b.sections) a.filter b.filter both same in
    let two = same_front a.partitions b.partitions a.sections b.sections shape.partitions one.0 in
    let p = two.0 in
    let s = two.1 in
    let f = one.1 in
    let make : List X → List X → List X → PerDevice X = λ x y z. record { partitions = x; sections = y; filter = z } in
    let e : make a.partitions a.sections a.filter ≡ make b.partitions b.sections b.filter = cc in
    e

module _ {D : Type 0} where
  -- under each name one thing stands
  same_stand : (s : Stands D) (files : List PartFile) (xs ys : List D) → StandUnder s files xs → StandUnder s files ys → xs ≡ ys
  same_stand s [] [] [] these those = refl
  same_stand s [] [] (y ∷ ys) these those = absurd those
  same_stand s [] (x ∷ xs) ys these those = absurd these
  same_stand s (f ∷ files) [] ys these those = absurd these
  same_stand s (f ∷ files) (x ∷ xs) [] these those = absurd those
  same_stand s (f ∷ files) (x ∷ xs) (y ∷ ys) these those =
      let both : there x ≡ there y = sym these.0 ∙ those.0 in
      let head : x ≡ y = cc in
      let tail = same_stand s files xs ys these.1 those.1 in
      cc

  pub one_list : (s : Stands D) (conf : Conf) (a b : PerDevice D) → AreUnder s conf a → AreUnder s conf b → a ≡ b
  one_list s conf a b these those =
      same_devices a b (shape_on a (files_of conf) b these.shape (shape_back b (files_of conf) those.shape))
      (same_stand s (all_of (files_of conf)) (all_of a) (all_of b) these.under those.under)

  pick : (s : Stands D) (files : List PartFile) → ((f : PartFile) → Contains files f → (d : D) × (s f.name ≡ there d)) → (ds : List D) × StandUnder s files ds × (length ds ≡ length files)
  pick s [] each = ([], tt, refl)
  pick s (f ∷ files) each =
      let here = each f (has_first f files) in
      let rest = pick s files (λ g has. each g (has_later f files g has)) in
      let many = rest.2 in
      (here.0 ∷ rest.0, (here.1, rest.1), omega (arith, many))

  pub some_list : (s : Stands D) (conf : Conf) → ((f : PartFile) → Contains (all_of (files_of conf)) f → (d : D) × (s f.name ≡ there d)) → (devices : PerDevice D) × AreUnder s conf devices
  some_list s conf each =
      let files = files_of conf in
      let front = files.partitions ++ files.sections in
      let a = pick s files.partitions (λ f has. each f (Contains-append_left front files.filter f (Contains-append_left files.partitions files.sections f has))) in
      let b = pick s files.sections (λ f has. each f (Contains-append_left front files.filter f (Contains-append_right files.partitions files.sections f has))) in
      let c = pick s files.filter (λ f has. each f (Contains-append_right front files.filter f has)) in
      let R : PartFile → D → Type 0 = λ f d. s f.name ≡ there d in (
        record { partitions = a.0; sections = b.0; filter = c.0 },
        record {
          shape = record { partitions = a.2; sections = b.2; filter = c.2 };
          under = zip_append R front files.filter (a.0 ++ b.0) c.0 (zip_append R files.partitions files.sections a.0 b.0 a.1 b.1) c.1;
        },
      )

  -- ---- what a store stands on

  -- of these sizes, and so many shards and filters, there are as many devices of each kind
  pub shape_of : (disk : DiskOf D) (k : CoreState D) (devices : PerDevice D) → map disk.size (all_of (devices_of k)) ≡ map disk.size (all_of devices)
      → length k.shards ≡ length devices.sections → length (option_to_list k.bloom) ≡ length devices.filter → HaveOneShape (devices_of k) devices
  shape_of disk k devices sizes shards filter =
      let mine = devices_of k in
      let all : length (all_of mine) ≡ length (all_of devices) = sym (length-map (all_of mine) disk.size) ∙ ap length sizes ∙ length-map (all_of devices) disk.size in
      let s : length mine.sections ≡ length devices.sections = length-map k.shards (λ s. s.section.disk) ∙ shards in
      let f : length mine.filter ≡ length devices.filter = length-map (option_to_list k.bloom) (λ b. b.disk) ∙ filter in
      record {
        partitions = omega (
          arith,
          all,
          s,
          f,
          length-append (mine.partitions ++ mine.sections) mine.filter,
          length-append mine.partitions mine.sections,
          length-append (devices.partitions ++ devices.sections) devices.filter,
          length-append devices.partitions devices.sections,
        );
        sections = s;
        filter = f;
      }

  one_bloom : (a b : Option (BloomState D)) → option_map (λ x. x.m) a ≡ option_map (λ x. x.m) b → length (option_to_list a) ≡ length (option_to_list b)
  one_bloom None None same = refl
  one_bloom None (Some b) same = absurd (cc)
  one_bloom (Some a) None same = absurd (cc)
  one_bloom (Some a) (Some b) same = refl

  pub kept_shape : (disk : DiskOf D) (old new : CoreState D) → each_of disk.size new ≡ each_of disk.size old → length new.shards ≡ length old.shards
      → option_map (λ b. b.m) new.bloom ≡ option_map (λ b. b.m) old.bloom → HaveOneShape (devices_of new) (devices_of old)
  kept_shape disk old new sizes shards bloom =
      shape_of disk new (devices_of old) sizes (shards ∙ sym (length-map old.shards (λ s. s.section.disk)))
      (one_bloom new.bloom old.bloom bloom ∙ sym (length-map (option_to_list old.bloom) (λ b. b.disk)))

  pub run_shape : (score : List ℕ → List ℕ) (disk : DiskOf D) (events : List Event) (outs : List Out) (old new : CoreState D) → Runs score disk events outs old new → HaveOneShape (devices_of new) (devices_of old)
  run_shape score disk events outs old new run = let keeps = runs_keep score disk events outs old new run in kept_shape disk old new keeps.sizes keeps.shards keeps.filter

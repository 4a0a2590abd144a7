use Rattle.std.proofs.Common.{◌≡◌, ◌+◌, ◌-◌, ◌*◌, ◌^◌, ◌++◌, ◌∙◌, ℕ, List, length, take, drop, ap, sym, subst, arith, length-take, length-drop}
use Rattle.std.proofs.lemmas.List.{take_at, take_all}
use Rattle.vt_disk.specs.declared.region.Region.{Region}
use Rattle.vt_disk.specs.Disk.{part}
use Rattle.vt_twin.specs.Frames.{named_number}
use Rattle.vt_bloom.specs.Frame.{Saved, IsFilterFrame, HaveWords, current_of}
use Rattle.vt_bloom.specs.Size.{filter_frame_len, filter_region, IsLargest}
use Rattle.vt_bloom.proofs.Powers.{shifted, words_fill, bytes_fill, has_room}
use Rattle.vt_twin.proofs.Sound.{reads_sound}
use Rattle.vt_bloom.proofs.mounting.find.Goals as goal

pub mount-requires : goal.mount-requires
mount-requires g c =
    rw (c.region-region.ensures, c.len.ensures, c.in_ok-frame.ensures.len, c.filter_frame_len.ensures)
    (has_room c.largest-m.result _ c.largest-m.ensures.least c.largest-m.ensures.most
    (rw c.len-len.ensures at c.largest-m.ensures.fits))

pub read_words-requires : goal.read_words-requires
read_words-requires g c =
    let m : ℕ = c.largest-m.result in
    let whole : length c.deref-2.result.now ≡ filter_frame_len m = c.deref-2.ensures.len ∙
    c.in_ok-frame.ensures.len ∙ c.filter_frame_len.ensures in
    let count : length c.deref_mut-2.result.now ≡ 2 ^ (m - 6) =
    c.deref_mut-2.ensures.len ∙ c.in_ok-words.ensures.len ∙ shifted (m - 6) (omega arith) in
    let fill = bytes_fill m (2 ^ (m - 6)) (omega arith) (words_fill m (omega arith)) in
    simp (length-take, length-drop) (omega (arith, whole, count, fill))

-- the words that were read
words_are : (g : _) (c : goal.After-words-3-1 g)
    → take c.in_ok-words.words.len (c.read_words.new.words ++ drop (length c.read_words.new.words)
    c.in_ok-words.words.items)
    ≡ c.read_words.new.words
words_are g c =
    take_at c.read_words.new.words (drop (length c.read_words.new.words)
    c.in_ok-words.words.items) c.in_ok-words.words.len
    (c.read_words.auto.words ∙ c.deref_mut-2.ensures.len)

pub invariant_of-bits : goal.invariant_of-bits
invariant_of-bits g c =
    let m : ℕ = c.largest-m.result in
    let count : length c.read_words.new.words ≡ 2 ^ (m - 6) =
    c.read_words.auto.words ∙ c.deref_mut-2.ensures.len ∙ c.in_ok-words.ensures.len ∙ shifted
    (m - 6) (omega arith) in
    record {
      counts = c.in_ok-k.ensures.counts;
      whole = rw (words_are g c) (ap (λ (n : ℕ). 64 * n) count ∙ words_fill m (omega arith));
    }

pub returns-clause-filter : goal.returns-clause-filter
returns-clause-filter g c = invariant_of-bits g c

-- the frame that was read
frame_is : (g : _) (c : goal.After-words-3-1 g) → c.deref.result.now ≡ c.read_at.new.buf
frame_is g c =
    c.deref.ensures.value
    ∙ take_at c.read_at.new.buf (drop (length c.read_at.new.buf) c.in_ok-frame.frame.items)
    c.in_ok-frame.frame.len
    (c.read_at.auto.buf ∙ c.deref_mut.ensures.len)

pub returns-clause-found : goal.returns-clause-found
returns-clause-found g c told =
    let m : ℕ = c.largest-m.result in
    let file : List ℕ = g.D.Disk.bytes c.args.disk.now in
    let size : length file ≡ g.D.Disk.size c.args.disk.now =
    (g.met.D.Disk.images_fit _ _ (g.met.D.Disk.read_is_image _ told)).0 in
    let whole : c.len.result ≡ filter_frame_len m = c.len.ensures ∙ c.in_ok-frame.ensures.len ∙
    c.filter_frame_len.ensures in
    let again : c.len-2.result ≡ filter_frame_len m = c.len-2.ensures ∙ c.in_ok-frame.ensures.len ∙
    c.filter_frame_len.ensures in
    let count : length c.deref_mut.result.now ≡ filter_frame_len m =
    c.deref_mut.ensures.len ∙ c.in_ok-frame.ensures.len ∙ c.filter_frame_len.ensures in
    let start : c.region-region.result.start ≡ 0 = ap (λ (r : Region). r.start)
    c.region-region.ensures in
    let named = rw (c.region-region.ensures, whole) at (c.in_ok-twin.ensures.named told) in
    let number : c.from.result ≡ named_number (filter_region m) (filter_frame_len m) file =
    c.from.ensures ∙ c.current.ensures.number ∙ named in
    let read = c.in_ok-read_at.ensures.read told in
    let current : c.deref.result.now ≡ current_of m file =
    frame_is g c ∙ read ∙ (λ i. part (start i + again i * number i) (count i)
    (c.mount.ensures.reads.bytes i)) in
    let long : length c.deref-2.result.now ≡ filter_frame_len m =
    c.deref-2.ensures.len ∙ c.in_ok-frame.ensures.len ∙ c.filter_frame_len.ensures in
    let rest : take (length c.deref-2.result.now - 8192) (drop 8192 c.deref-2.result.now)
    ≡ drop 8192 c.deref.result.now =
    take_all (length c.deref-2.result.now - 8192) (drop 8192 c.deref-2.result.now) (omega
    (arith, length-drop 8192 c.deref-2.result.now))
    ∙ ap (λ (l : List ℕ). drop 8192 l) (c.deref-2.ensures.value ∙ sym c.deref.ensures.value) in
    let words : HaveWords (drop 8192 c.deref.result.now) c.read_words.new.words =
    subst (λ (l : List ℕ). HaveWords l c.read_words.new.words) rest c.read_words.ensures in
    let saved : Saved = record {
      filter = record {
        m = m;
        k = c.in_ok-k.k;
        words = take c.in_ok-words.words.len (c.read_words.new.words ++ drop (length
            c.read_words.new.words) c.in_ok-words.words.items);
      };
      mark = c.in_ok-k.mark;
    } in
    record {
      largest = subst (λ (n : ℕ). IsLargest n m) (c.len-len.ensures ∙ sym size) c.largest-m.ensures;
      frame = subst (λ (l : List ℕ). IsFilterFrame saved l) current (record {
        filter = invariant_of-bits g c;
        magic = c.in_ok-k.ensures.magic;
        version = c.in_ok-k.ensures.version;
        m = c.in_ok-k.ensures.m;
        k = sym c.in_ok-k.ensures.k;
        mark = sym c.in_ok-k.ensures.mark;
        words = rw (words_are g c) words;
      });
    }

pub returns-clause-twin : goal.returns-clause-twin
returns-clause-twin g c told =
    reads_sound c.in_ok-twin.twin (filter_region c.largest-m.result) _ _ _ _ _
    c.read_at.ensures.reads.bytes c.read_at.ensures.reads.images
    (rw (c.region-region.ensures, c.len.ensures, c.in_ok-frame.ensures.len, c.filter_frame_len.ensures)
    at (c.in_ok-twin.ensures.sound told))

pub returns-clause-settled : goal.returns-clause-settled
returns-clause-settled g c _ told file left =
    c.in_ok-twin.ensures.settled told file (c.read_at.ensures.reads.images file left) ∙ sym
    c.read_at.ensures.reads.bytes

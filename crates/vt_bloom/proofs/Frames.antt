-- Frames, written and read.
use Rattle.std.proofs.Common.{◌≡◌, ℕ, zero, suc, ◌+◌, ◌*◌, ◌^◌, ◌<◌, List, [], ◌∷◌, ◌++◌, length, drop, take, replicate, get_or, refl, sym, ap, ◌∙◌, subst, arith, length-append, length-take}
use Rattle.std.specs.Prelude.{slice_get}
use Rattle.std.specs.List.{flat_map}
use Rattle.std.specs.Int.{bytes_high_first}
use Rattle.std.proofs.lemmas.List.{drop-drop, drop_at, ext_get_or, length-replicate}
use Rattle.byteorder.specs.Endian.{big_number, big_bytes}
use Rattle.byteorder.specs.Numbers.{big_number-reads_back, length-bytes_high_first}
use Rattle.vt_bloom.specs.Frame.{Saved, IsFilterFrame, saved_frame, head_bytes, current_of}
use Rattle.vt_bloom.specs.Laws.{IsUnambiguous, HasOneSaved, WritesFrames, HasOneSize, CoversMore, CoversFewer}

-- a word, among the bytes of all
pub word_at : (words : List ℕ) → ((i : ℕ) → get_or words i 0 < 2 ^ 64) → (i : ℕ)
    → i < length words
    → get_or words i 0 ≡ big_number 8 (drop (8 * i) (flat_map (big_bytes 8) words))
word_at [] fits i within = absurd (omega arith)
word_at (w ∷ ws) fits zero within =
    sym (big_number-reads_back 8 w (flat_map (big_bytes 8) ws) (fits 0))
word_at (w ∷ ws) fits (suc i) within =
    let rest : List ℕ = flat_map (big_bytes 8) ws in
    let all : List ℕ = bytes_high_first 8 w ++ rest in
    let n : 8 * suc i ≡ 8 + 8 * i = omega arith in
    word_at ws (λ k. fits (suc k)) i (omega arith)
    ∙ ap (λ (l : List ℕ). big_number 8 (drop (8 * i) l))
    (sym (drop_at (bytes_high_first 8 w) rest 8 (length-bytes_high_first 8 w)))
    ∙ ap (λ (l : List ℕ). big_number 8 l)
    (drop-drop (8 * i) 8 all ∙ ap (λ (k : ℕ). drop k all) (sym n))

-- the block before the words
block_length : (m k mark n : ℕ) → length (head_bytes m k mark ++ replicate n 0) ≡ 16 + n
block_length m k mark n =
    omega (arith, length-append (head_bytes m k mark) (replicate n 0), length-replicate {A = ℕ} n 0)

-- the words behind the block
words_behind : (saved : Saved)
    → drop 8192 (saved_frame saved) ≡ flat_map (big_bytes 8) saved.filter.words
words_behind saved =
    drop_at (head_bytes saved.filter.m saved.filter.k saved.mark ++ replicate 8176 0)
    (flat_map (big_bytes 8) saved.filter.words) 8192
    (block_length saved.filter.m saved.filter.k saved.mark 8176)

pub writes_frames : WritesFrames
writes_frames saved is mark fits = record {
  filter = is;
  magic = refl;
  version = refl;
  m = refl;
  k = refl;
  mark = big_number-reads_back 8 saved.mark (replicate 8176 0
      ++ flat_map (big_bytes 8) saved.filter.words) mark;
  words = record {
    each = λ i within. word_at saved.filter.words fits i within
        ∙ ap (λ (l : List ℕ). big_number 8 (drop (8 * i) l)) (sym (words_behind saved));
  };
}

-- a frame has one filter
same_words : (s t : Saved) (frame : List ℕ) → IsFilterFrame s frame → IsFilterFrame t frame
    → s.filter.words ≡ t.filter.words
same_words s t frame one other =
    let counts : 64 * length s.filter.words ≡ 64 * length t.filter.words =
    one.filter.whole ∙ ap (λ (m : ℕ). 2 ^ m) (sym one.m ∙ other.m) ∙ sym other.filter.whole in
    ext_get_or 0 s.filter.words t.filter.words (omega arith)
    (λ i within. one.words.each i within
    ∙ sym (other.words.each i (omega (arith, counts, within))))

pub frame_unique : IsUnambiguous
frame_unique s t frame one other =
    let ms : s.filter.m ≡ t.filter.m = sym one.m ∙ other.m in
    let ks : s.filter.k ≡ t.filter.k = sym one.k ∙ other.k in
    let words : s.filter.words ≡ t.filter.words = same_words s t frame one other in
    let marks : s.mark ≡ t.mark = sym one.mark ∙ other.mark in
    λ i. record {
      filter = record { m = ms i; k = ks i; words = words i };
      mark = marks i;
    }

pub size_unique : HasOneSize
size_unique len m n one other =
    omega (arith, one.no_larger n other.most other.fits, other.no_larger m one.most one.fits)

pub saved_unique : HasOneSaved
saved_unique s t file one other =
    let same : s.filter.m ≡ t.filter.m =
    size_unique (length file) s.filter.m t.filter.m one.largest other.largest in
    frame_unique s t (current_of t.filter.m file) (subst (λ (m : ℕ). IsFilterFrame s
    (current_of m file)) same one.frame) other.frame

-- an element of a list is there in a longer one, and one of a shorter in the whole
get_before : {X : Type 0} (xs more : List X) (i : ℕ) → i < length xs
    → slice_get (xs ++ more) i ≡ slice_get xs i
get_before [] more i within = absurd (omega arith)
get_before (x ∷ xs) more zero within = refl
get_before (x ∷ xs) more (suc i) within = get_before xs more i (omega arith)

get_front : {X : Type 0} (xs : List X) (n i : ℕ) → i < n → slice_get (take n xs) i ≡ slice_get xs i
get_front xs zero i within = absurd (omega arith)
get_front [] (suc n) i within = refl
get_front (x ∷ xs) (suc n) zero within = refl
get_front (x ∷ xs) (suc n) (suc i) within = get_front xs n i (omega arith)

-- a true mark
pub covers_more : CoversMore
covers_more saved scores more covers = record {
  within = omega (arith, length-append scores more, covers.within);
  set = λ i score below is. covers.set i score below
      (sym (get_before scores more i (omega (arith, covers.within))) ∙ is);
}

pub covers_fewer : CoversFewer
covers_fewer saved scores n covers behind = record {
  within = omega (arith, length-take n scores, covers.within);
  set = λ i score below is. covers.set i score below
      (sym (get_front scores n i (omega arith)) ∙ is);
}

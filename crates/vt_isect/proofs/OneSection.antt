-- No bytes are two heads, or two sections.
use Rattle.std.proofs.Common.{◌≡◌, ℕ, ◌-◌, ◌^◌, ◌<◌, List, [], ◌++◌, length, take, drop, append-nil, sym, ◌∙◌, ap, subst}
use Rattle.std.specs.Prelude.{slice_index}
use Rattle.std.proofs.lemmas.List.{take_at, drop_at}
use Rattle.byteorder.specs.Endian.{big_number, big_bytes}
use Rattle.byteorder.specs.Numbers.{big_number-reads_back, length-bytes_high_first}
use Rattle.vt_base.specs.declared.place.Entry.{Entry}
use Rattle.vt_bucket.specs.Frame.{IsBucketFrame}
use Rattle.vt_bucket.proofs.Frames.{one_frame}
use Rattle.vt_disk.specs.declared.region.Region.{Region}
use Rattle.vt_twin.specs.Frames.{current_frame}
use Rattle.vt_isect.specs.declared.head.Head.{Head}
use Rattle.vt_isect.specs.Head.{section_head_bytes, IsHead, IsHeadFrame}
use Rattle.vt_isect.specs.Layout.{InRange, IsBucketPlace, IsSection}
use Rattle.vt_isect.proofs.Places.{one_place}

-- two number fields with what is behind them
numbers_apart : (n x y : ℕ) (p q : List ℕ) → x < 256 ^ n → y < 256 ^ n
    → big_bytes n x ++ p ≡ big_bytes n y ++ q → (x ≡ y) × (p ≡ q)
numbers_apart n x y p q low lower same = (
  sym (big_number-reads_back n x p low) ∙ ap (λ (l : List ℕ). big_number n l) same
      ∙ big_number-reads_back n y q lower,
  sym (drop_at (big_bytes n x) p n (length-bytes_high_first n x)) ∙ ap (λ (l : List ℕ). drop n l) same
      ∙ drop_at (big_bytes n y) q n (length-bytes_high_first n y),
)

-- the numbers of a head behind its name
abbrev numbers : Head → List ℕ
numbers head =
    big_bytes 4 head.first ++ (big_bytes 4 head.count
    ++ (big_bytes 4 head.total ++ big_bytes 8 head.mark))

heads_apart : (name other : List ℕ) (head its : Head) → IsHead head → IsHead its
    → length name ≡ 64 → length other ≡ 64 → section_head_bytes name head ≡ section_head_bytes other its
    → (name ≡ other) × (head ≡ its)
heads_apart name other head its fits fit len long same =
    let state : head.state ≡ its.state = ap (λ (l : List ℕ). slice_index l 6) same in
    let behind : name ++ numbers head ≡ other ++ numbers its = ap (λ (l : List ℕ). drop 7 l) same in
    let names : name ≡ other =
    sym (take_at name (numbers head) 64 len) ∙ ap (λ (l : List ℕ). take 64 l) behind
    ∙ take_at other (numbers its) 64 long in
    let rest : numbers head ≡ numbers its =
    sym (drop_at name (numbers head) 64 len) ∙ ap (λ (l : List ℕ). drop 64 l) behind
    ∙ drop_at other (numbers its) 64 long in
    let first = numbers_apart 4 head.first its.first _ _ fits.first fit.first rest in
    let count = numbers_apart 4 head.count its.count _ _ fits.count fit.count first.1 in
    let total = numbers_apart 4 head.total its.total _ _ fits.total fit.total count.1 in
    let mark = numbers_apart 8 head.mark its.mark [] [] fits.mark fit.mark
    (append-nil (big_bytes 8 head.mark) ∙ total.1 ∙ sym (append-nil (big_bytes 8 its.mark))) in (
      names,
      λ i. record {
        state = state i;
        first = first.0 i;
        count = count.0 i;
        total = total.0 i;
        mark = mark.0 i;
      },
    )

pub one_head : (name other : List ℕ) (head its : Head) (frame : List ℕ) → IsHeadFrame name head frame
    → IsHeadFrame other its frame → (name ≡ other) × (head ≡ its)
one_head name other head its frame is at =
    heads_apart name other head its is.fits at.fits is.name_len at.name_len
    (sym is.spelling ∙ at.spelling)

pub one_section : (name other : List ℕ) (head its : Head) (buckets : ℕ)
    (entries others : ℕ → List Entry) (file : List ℕ)
    → IsSection name head buckets entries file → IsSection other its buckets others file
    → (n : ℕ) → InRange head buckets n → entries n ≡ others n
one_section name other head its buckets entries others file is at n within =
    let same : head ≡ its = (one_head name other head its _ is.head_frame at.head_frame).1 in
    let here = is.bucket n within in
    let there = at.bucket n (subst (λ (h : Head). InRange h buckets n) same within) in
    let place = subst (λ (h : Head). IsBucketPlace (n - h.first) there.0) (sym same) there.1 in
    let region : here.0 ≡ there.0 = one_place (n - head.first) here.0 there.0 here.1 place in
    (one_frame n n (entries n) (others n) (current_frame there.0 8192 file)
    (subst (λ (r : Region). IsBucketFrame n (entries n) (current_frame r 8192 file)) region here.2) there.2).1

-- How frames are cut: in one way, from any bytes, and on from what was cut.
use Rattle.std.proofs.Common.{◌≡◌, ℕ, zero, suc, ◌+◌, ◌^◌, ◌<◌, ◌≤◌, List, [], ◌∷◌, ◌++◌, length, take, drop, refl, sym, ◌∙◌, ap, subst, arith, append_assoc, append-nil, length-append, length-take, length-drop, inl, inr}
use Rattle.std.specs.List.{flat_map}
use Rattle.std.proofs.lemmas.Bool.{cases_lt}
use Rattle.std.proofs.lemmas.List.{take-append-drop, take-take, get_or-drop}
use Rattle.std.proofs.lemmas.List.Elements.{All-nil, All-cons, All-head, All-tail, All-append}
use Rattle.std.proofs.lemmas.Grind.{flat_map-append}
use Rattle.byteorder.specs.Endian.{big_bytes, big_number}
use Rattle.byteorder.specs.Numbers.{big_from-lt, big_number-reads_back, length-bytes_high_first}
use Rattle.vt_base.specs.Bytes.{AreBytes}
use Rattle.vt_base.specs.NumberFields.{big_bytes-number}
use Rattle.vt_wire.specs.Frames.{size_width, framed, IsBody, IsFrame, frame_len, IsPartial, Splits}

-- equal lists, of fronts of one length
pub same_front : (a b x y : List ℕ) → length a ≡ length b → a ++ x ≡ b ++ y → (a ≡ b) × (x ≡ y)
same_front [] [] x y len h = (refl, h)
same_front [] (b ∷ most) x y len h = absurd (omega arith)
same_front (a ∷ more) [] x y len h = absurd (omega arith)
same_front (a ∷ more) (b ∷ most) x y len h =
    let e : a ≡ b = cc in
    let t : more ++ x ≡ most ++ y = cc in
    let r = same_front more most x y (omega arith) t in
    let r0 : more ≡ most = r.0 in
    (cc, r.1)

-- a number field, and what stands behind it
pub same_number : (n x y : ℕ) (a b : List ℕ) → x < 256 ^ n → y < 256 ^ n
    → big_bytes n x ++ a ≡ big_bytes n y ++ b → (x ≡ y) × (a ≡ b)
same_number n x y a b p q h =
    let len : length (big_bytes n x) ≡ length (big_bytes n y) = length-bytes_high_first n x ∙ sym (length-bytes_high_first n y) in (
      sym (big_number-reads_back n x a p) ∙ ap (big_number n) h ∙ big_number-reads_back n y b q,
      (same_front (big_bytes n x) (big_bytes n y) a b len h).1,
    )

-- a frame or a string, and what stands behind it
pub same_framed : (a b x y : List ℕ) → IsBody a → IsBody b → framed a ++ x ≡ framed b ++ y
    → (a ≡ b) × (x ≡ y)
same_framed a b x y p q h =
    let parts = same_number size_width (length a) (length b) (a ++ x) (b ++ y) p q
    (sym (append_assoc (big_bytes size_width (length a)) a x) ∙ h ∙ append_assoc (big_bytes size_width (length b)) b y) in
    same_front a b x y parts.0 parts.1

pub one_body : (bytes a b : List ℕ) → IsFrame bytes a → IsFrame bytes b → a ≡ b
one_body bytes a b p q =
    (same_framed a b [] [] p.counted q.counted (append-nil (framed a) ∙ sym p.is ∙ q.is ∙ sym (append-nil (framed b)))).0

-- a frame is as long as its size field says
pub frame_len-framed : (body after : List ℕ) → IsBody body
    → frame_len (framed body ++ after) ≡ size_width + length body
frame_len-framed body after small =
    ap (λ n. size_width + n) (ap (big_number size_width) (append_assoc (big_bytes size_width (length body)) body after)
    ∙ big_number-reads_back size_width (length body) (body ++ after) small)

pub length-framed : (body : List ℕ) → length (framed body) ≡ size_width + length body
length-framed body = length-append (big_bytes size_width (length body)) body

no_whole : (body after : List ℕ) → IsBody body → IsPartial (framed body ++ after) → ⊥
no_whole body after small h =
    omega (arith, h, frame_len-framed body after small, length-framed body, length-append (framed body) after)

-- what is as long as its size field says is a frame
pub whole_frame : (bytes : List ℕ) → AreBytes bytes → frame_len bytes ≤ length bytes
    → IsFrame (take (frame_len bytes) bytes) (drop size_width (take (frame_len bytes) bytes))
whole_frame bytes are enough =
    let n = big_number size_width bytes in
    let frame = take (size_width + n) bytes in
    let body = drop size_width frame in
    let len : length body ≡ n = omega (arith, length-drop size_width frame, length-take (size_width + n) bytes, enough) in
    let size : big_bytes size_width (length body) ≡ take size_width frame =
    ap (big_bytes size_width) len ∙ big_bytes-number size_width bytes (omega (arith, enough)) are ∙ sym (take-take size_width (size_width + n) bytes (omega arith)) in
    record {
      counted = subst (λ k. k < 256 ^ size_width) (sym len) (big_from-lt 0 size_width bytes are);
      is = sym (take-append-drop size_width frame) ∙ ap (λ l. l ++ body) (sym size);
    }

-- ---- cutting

pub split_one : (bytes : List ℕ) (a b : List (List ℕ)) (r s : List ℕ) → Splits bytes a r
    → Splits bytes b s → (a ≡ b) × (r ≡ s)
split_one bytes [] [] r s x y = (refl, sym x.whole ∙ y.whole)
split_one bytes [] (b ∷ most) r s x y =
    absurd (no_whole b (flat_map framed most ++ s) (All-head IsBody b most y.each) (subst IsPartial (sym x.whole ∙ y.whole ∙ append_assoc (framed b) (flat_map framed most) s) x.partial))
split_one bytes (a ∷ more) [] r s x y =
    absurd (no_whole a (flat_map framed more ++ r) (All-head IsBody a more x.each) (subst IsPartial (sym y.whole ∙ x.whole ∙ append_assoc (framed a) (flat_map framed more) r) y.partial))
split_one bytes (a ∷ more) (b ∷ most) r s x y =
    let rest_a = flat_map framed more ++ r in
    let rest_b = flat_map framed most ++ s in
    let first = same_framed a b rest_a rest_b (All-head IsBody a more x.each) (All-head IsBody b most y.each)
    (sym (append_assoc (framed a) (flat_map framed more) r) ∙ sym x.whole ∙ y.whole ∙ append_assoc (framed b) (flat_map framed most) s) in
    let later = split_one rest_a more most r s
    (record { whole = refl; each = All-tail IsBody a more x.each; partial = x.partial })
    (record { whole = first.1; each = All-tail IsBody b most y.each; partial = y.partial }) in
    let e : a ≡ b = first.0 in
    let f : more ≡ most = later.0 in
    (cc, later.1)

pub bytes-drop : (n : ℕ) (bytes : List ℕ) → AreBytes bytes → AreBytes (drop n bytes)
bytes-drop n bytes are i = subst (λ b. b < 256) (sym (get_or-drop n bytes i 0)) (are (n + i))

-- a first frame, and the frames behind it
pub split_behind : (bytes : List ℕ) (len : ℕ) (body : List ℕ) (bodies : List (List ℕ)) (rest : List ℕ)
    → IsFrame (take len bytes) body → Splits (drop len bytes) bodies rest
    → Splits bytes (body ∷ bodies) rest
split_behind bytes len body bodies rest first later = record {
  whole = sym (take-append-drop len bytes) ∙ ap (λ l. l ++ drop len bytes) first.is ∙ ap (λ l. framed body ++ l) later.whole
      ∙ sym (append_assoc (framed body) (flat_map framed bodies) rest);
  each = All-cons IsBody body bodies first.counted later.each;
  partial = later.partial;
}

-- with as many steps as there are bytes
split_some : (fuel : ℕ) (bytes : List ℕ) → length bytes ≤ fuel → AreBytes bytes
    → (bodies : List (List ℕ)) × (rest : List ℕ) × Splits bytes bodies rest
split_some zero bytes le are = ([], bytes, record { whole = refl; each = All-nil IsBody; partial = omega (arith, le) })
split_some (suc fuel) bytes le are = elim (cases_lt (length bytes) (frame_len bytes)) [
  | inl few ↦ ([], bytes, record { whole = refl; each = All-nil IsBody; partial = few })
  | inr enough ↦
      let len = frame_len bytes in
      let later = split_some fuel (drop len bytes) (omega (arith, length-drop len bytes)) (bytes-drop len bytes are) in
      (drop size_width (take len bytes) ∷ later.0, later.1, split_behind bytes len (drop size_width (take len bytes)) later.0 later.1 (whole_frame bytes are enough) later.2)
]

pub splits : (bytes : List ℕ) → AreBytes bytes
    → (bodies : List (List ℕ)) × (rest : List ℕ) × Splits bytes bodies rest
splits bytes are = split_some (length bytes) bytes (omega arith) are

-- bytes that follow are cut on from the rest
pub goes_on : (front back : List ℕ) (bodies more : List (List ℕ)) (rest last : List ℕ)
    → Splits front bodies rest → Splits (rest ++ back) more last
    → Splits (front ++ back) (bodies ++ more) last
goes_on front back bodies more rest last x y = record {
  whole = ap (λ l. l ++ back) x.whole ∙ append_assoc (flat_map framed bodies) rest back ∙ ap (λ l. flat_map framed bodies ++ l) y.whole
      ∙ sym (append_assoc (flat_map framed bodies) (flat_map framed more) last) ∙ ap (λ l. l ++ last) (sym (flat_map-append framed bodies more));
  each = All-append IsBody bodies more x.each y.each;
  partial = y.partial;
}

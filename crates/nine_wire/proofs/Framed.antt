-- Whole messages, and what they are made of.
use Rattle.std.proofs.Common.{◌≡◌, ℕ, ◌+◌, ◌*◌, ◌<◌, ◌≤◌, ◌^◌, List, [], ◌∷◌, ◌++◌, length, drop, refl, sym, ◌∙◌, ap, subst, arith, length-append}
use Rattle.std.specs.Prelude.{slice_index}
use Rattle.std.specs.List.{flat_map}
use Rattle.byteorder.specs.Endian.{little_number, little_bytes}
use Rattle.byteorder.specs.Numbers.{little_number-reads_back}
use Rattle.nine_wire.specs.Frames.{IsFrame, Spells, framed, spelled_reply}
use Rattle.nine_wire.specs.Messages.{TMessage, RMessage, Qid, SpellsBody, FitsReply, r_version, r_attach, r_flush, r_walk, r_open, r_read, r_clunk, r_stat, r_error, reply_type, reply_parameters, qid_bytes}
use Rattle.nine_wire.specs.Writing.{WritesField}
use Rattle.nine_wire.proofs.ReadBack.{one_body}
use Rattle.nine_wire.proofs.RepliesBack.{reply_in, reply_back}
use Rattle.nine_wire.proofs.Strings.{same_front}
use Rattle.nine_wire.proofs.Writes.{and_then, put_before, so_spelled}

-- bytes are a message of one type, one tag and one body at most
module _ (bytes : List ℕ) (s t k l : ℕ) (p q : List ℕ) (x : IsFrame bytes s k p)
    (y : IsFrame bytes t l q) where
  both : framed s k p ≡ framed t l q
  both = sym x.is ∙ y.is

  pub one_type : s ≡ t
  one_type = ap (λ (b : List ℕ). slice_index b 4) both

  pub one_tag : k ≡ l
  one_tag =
      sym (little_number-reads_back 2 k p x.tag_fits)
      ∙ ap (λ (b : List ℕ). little_number 2 (drop 5 b)) both
      ∙ little_number-reads_back 2 l q y.tag_fits

  pub one_rest : p ≡ q
  one_rest = ap (drop 7) both

pub one_message : (s t : ℕ) (m n : TMessage) (bytes : List ℕ) → Spells s m bytes
    → Spells t n bytes → (s ≡ t) × (m ≡ n)
one_message s t m n bytes x y =
    let type = one_type bytes x.type y.type s t x.parameters y.parameters x.frame y.frame in
    let rest = one_rest bytes x.type y.type s t x.parameters y.parameters x.frame y.frame in (
      one_tag bytes x.type y.type s t x.parameters y.parameters x.frame y.frame,
      one_body m n x.type x.parameters x.body
          (subst (λ (type : ℕ). SpellsBody n type x.parameters) (sym type)
          (subst (λ (ps : List ℕ). SpellsBody n y.type ps) (sym rest) y.body)),
    )

-- ---- how long replies are

pub qids_len : (qids : List Qid) → length (flat_map qid_bytes qids) ≡ 13 * length qids
qids_len [] = refl
qids_len (q ∷ qids) =
    omega (arith, length-append (qid_bytes q) (flat_map qid_bytes qids), qids_len qids)

pub reply_is_short : (reply : RMessage) → FitsReply reply
    → 7 + length (reply_parameters reply) < 2 ^ 32
reply_is_short (r_version msize version) fits = let f = fits.1 in omega (arith, f)
reply_is_short (r_attach qid) fits = omega arith
reply_is_short (r_error text) fits = omega (arith, fits)
reply_is_short r_flush fits = omega arith
reply_is_short (r_walk qids) fits = let f = fits.0 in omega (arith, f, qids_len qids)
reply_is_short (r_open qid iounit) fits = omega arith
reply_is_short (r_read bytes) fits = omega (arith, fits)
reply_is_short r_clunk fits = omega arith
reply_is_short (r_stat stat) fits = let f = fits.whole in omega (arith, f)

-- ---- a reply in a buffer

pub whole_reply : (tag : ℕ) (reply : RMessage) {one two end four : ℕ}
    {old a b c new : List ℕ} → 4 ≤ length old → WritesField 4 one old a (reply_type reply ∷ [])
    → WritesField one two a b (little_bytes 2 tag) → WritesField two end b c (reply_parameters reply)
    → WritesField 0 four c new (little_bytes 4 end) → WritesField 0 end old new (spelled_reply tag reply)
whole_reply tag reply {one} {two} {end} {four} {old} {a} {b} {c} {new} room type tagged body size =
    let behind : WritesField 4 end old c
    (reply_type reply ∷ (little_bytes 2 tag ++ reply_parameters reply)) =
    and_then type (and_then tagged body) in
    let front : WritesField 0 4 c new (little_bytes 4 end) =
    subst (λ (k : ℕ). WritesField 0 k c new (little_bytes 4 end)) size.ends size in
    let is : end ≡ 7 + length (reply_parameters reply) = omega (arith, behind.ends) in
    so_spelled (put_before room behind front)
    (ap (λ (n : ℕ). little_bytes 4 n
    ++ (reply_type reply ∷ (little_bytes 2 tag ++ reply_parameters reply))) is)

-- ---- replies one behind another

pub apart : (s t : ℕ) (p q : RMessage) (x y : List ℕ) → s < 2 ^ 16 → t < 2 ^ 16 → FitsReply p
    → FitsReply q → spelled_reply s p ++ x ≡ spelled_reply t q ++ y → (s ≡ t) × (p ≡ q) × (x ≡ y)
apart s t p q x y s_fits t_fits p_fits q_fits h =
    let body = λ (tag : ℕ) (r : RMessage).
    reply_type r ∷ (little_bytes 2 tag ++ reply_parameters r) in
    let size : 7 + length (reply_parameters p) ≡ 7 + length (reply_parameters q) =
    sym (little_number-reads_back 4 (7 + length (reply_parameters p)) (body s p ++ x)
    (reply_is_short p p_fits))
    ∙ ap (little_number 4) h
    ∙ little_number-reads_back 4 (7 + length (reply_parameters q)) (body t q ++ y)
    (reply_is_short q q_fits) in
    let two = same_front (spelled_reply s p) (spelled_reply t q) x y (omega (arith, size)) h in
    let type : reply_type p ≡ reply_type q = ap (λ (b : List ℕ). slice_index b 4) two.0 in
    let tag : s ≡ t =
    sym (little_number-reads_back 2 s (reply_parameters p) s_fits)
    ∙ ap (λ (b : List ℕ). little_number 2 (drop 5 b)) two.0
    ∙ little_number-reads_back 2 t (reply_parameters q) t_fits in
    let rest : reply_parameters p ≡ reply_parameters q = ap (drop 7) two.0 in (
      tag,
      sym (reply_back p p_fits) ∙ (λ i. reply_in (type i) (rest i)) ∙ reply_back q q_fits,
      two.1,
    )

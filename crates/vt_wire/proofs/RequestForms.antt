-- A request's parameters are those of its type's forms.
use Rattle.std.proofs.Common.{◌≡◌, ℕ, true, false, List, [], ◌∷◌, ◌++◌, length, get_or, Result, Ok, Err, refl, sym, ◌∙◌, ap, subst, arith, append-nil, ◌⊎◌, inl, inr}
use Rattle.std.proofs.lemmas.Bool.{cases_Bool}
use Rattle.std.proofs.lemmas.List.{take_all}
use Rattle.byteorder.specs.Endian.{big_bytes, big_number}
use Rattle.byteorder.specs.Numbers.{big_from-lt}
use Rattle.vt_base.specs.Bytes.{AreBytes}
use Rattle.vt_base.specs.Protocol.{ping, read, write, sync, TMessage, t_hello, t_goodbye, t_ask}
use Rattle.vt_base.specs.NumberFields.{big_bytes-number}
use Rattle.vt_wire.specs.Fields.{string, IsText, counted_field, a_list, BeginsWithForm, IsFirstBad}
use Rattle.vt_wire.specs.Frames.{IsFrame}
use Rattle.vt_wire.specs.Messages.{request_type, is_request_type, SpellsParameters, SpellsBody, SpellsHello, SpellsRead, Spells}
use Rattle.vt_wire.specs.Refusals.{forms_of}
use Rattle.vt_wire.specs.Views.{message_of}
use Rattle.vt_wire.specs.declared.message.Request.{Request}
use Rattle.vt_wire.specs.declared.message.WireBad.{WireBad}
use Rattle.vt_wire.specs.declared.message.WireBad.TheVariants as bad
use Rattle.vt_wire.proofs.Forms.{AreSpelled, none_bad, at_six, one_byte, spelled_or, bytes-front, bytes-back}
use Rattle.vt_wire.proofs.Refusals.{IsRead}

-- ---- spelled parameters, by forms

hello_forms : (version parameters : List ℕ) → SpellsHello version parameters
    → AreSpelled (forms_of 4) parameters
hello_forms version parameters x = (
  string x.uid ++ (x.strength ∷ (counted_field x.crypto ++ counted_field x.codec)),
  (version, x.version_text, x.spelled),
  (
    x.strength ∷ (counted_field x.crypto ++ counted_field x.codec),
    (x.uid, x.uid_text, refl),
    (
      counted_field x.crypto ++ counted_field x.codec,
      (x.strength ∷ [], refl, refl),
      (counted_field x.codec, (x.crypto, x.crypto_short, refl), ([], (x.codec, x.codec_short, sym (append-nil (counted_field x.codec))), refl)),
    ),
  ),
)

read_forms : (score : List ℕ) (kind count : ℕ) (parameters : List ℕ)
    → SpellsRead score kind count parameters → AreSpelled (forms_of 12) parameters
read_forms score kind count parameters x = (
  kind ∷ x.pad ∷ big_bytes 2 count,
  (score, x.score_len, x.spelled),
  (
    x.pad ∷ big_bytes 2 count,
    (kind ∷ [], refl, refl),
    (big_bytes 2 count, (x.pad ∷ [], refl, refl), ([], (big_bytes 2 count, refl, refl), refl)),
  ),
)

pub message_forms : (m : TMessage) (parameters : List ℕ) → SpellsParameters m parameters
    → AreSpelled (forms_of (request_type m)) parameters
message_forms (t_ask ping) parameters x = x
message_forms (t_hello version) parameters x = hello_forms version parameters x
message_forms t_goodbye parameters x = x
message_forms (t_ask (read score kind count)) parameters x = read_forms score kind count parameters x
message_forms (t_ask (write kind bytes)) parameters x = (x.pad ++ bytes, (kind ∷ [], refl, x.spelled), (bytes, (x.pad, x.pad_len, refl), ([], refl, refl)))
message_forms (t_ask sync) parameters x = x

-- ---- forms, by what they spell

pub hello_spelled : (version uid strength parameters r1 r2 r3 r4 r5 : List ℕ) → IsText version
    → parameters ≡ string version ++ r1 → IsText uid → r1 ≡ string uid ++ r2 → length strength ≡ 1
    → r2 ≡ strength ++ r3 → BeginsWithForm a_list r3 r4 → BeginsWithForm a_list r4 r5 → r5 ≡ []
    → SpellsHello version parameters
hello_spelled version uid strength parameters r1 r2 r3 r4 r5 is_version e1 is_uid e2 len e3 crypto codec e5 =
    let last : r4 ≡ counted_field codec.0 = codec.2 ∙ ap (λ l. counted_field codec.0 ++ l) e5 ∙ append-nil (counted_field codec.0) in
    let lists : r3 ≡ counted_field crypto.0 ++ counted_field codec.0 = crypto.2 ∙ ap (λ l. counted_field crypto.0 ++ l) last in
    let front : r2 ≡ get_or strength 0 0 ∷ (counted_field crypto.0 ++ counted_field codec.0) = e3 ∙ ap (λ l. l ++ r3) (one_byte strength len) ∙ ap (λ l. get_or strength 0 0 ∷ l) lists in
    record {
      uid = uid;
      strength = get_or strength 0 0;
      crypto = crypto.0;
      codec = codec.0;
      version_text = is_version;
      uid_text = is_uid;
      crypto_short = crypto.1;
      codec_short = codec.1;
      spelled = e1 ∙ ap (λ l. string version ++ l) (e2 ∙ ap (λ l. string uid ++ l) front);
    }

pub read_spelled : (score kind pad count parameters r1 r2 r3 r4 : List ℕ) → length score ≡ 20
    → parameters ≡ score ++ r1 → length kind ≡ 1 → r1 ≡ kind ++ r2 → length pad ≡ 1 → r2 ≡ pad ++ r3
    → length count ≡ 2 → r3 ≡ count ++ r4 → r4 ≡ [] → AreBytes parameters
    → SpellsRead score (get_or kind 0 0) (big_number 2 count) parameters
read_spelled score kind pad count parameters r1 r2 r3 r4 score_len e1 kind_len e2 pad_len e3 count_len e4 e5 are_all =
    let are3 : AreBytes r3 = bytes-back pad r3 (subst AreBytes e3 (bytes-back kind r2 (subst AreBytes e2 (bytes-back score r1 (subst AreBytes e1 are_all))))) in
    let are : AreBytes count = bytes-front count r4 (subst AreBytes e4 are3) in
    let number : big_bytes 2 (big_number 2 count) ≡ count = big_bytes-number 2 count (omega (arith, count_len)) are ∙ take_all 2 count (omega (arith, count_len)) in
    let last : r3 ≡ big_bytes 2 (big_number 2 count) = e4 ∙ ap (λ l. count ++ l) e5 ∙ append-nil count ∙ sym number in
    let middle : r2 ≡ get_or pad 0 0 ∷ big_bytes 2 (big_number 2 count) = e3 ∙ ap (λ l. l ++ r3) (one_byte pad pad_len) ∙ ap (λ l. get_or pad 0 0 ∷ l) last in
    let front : r1 ≡ get_or kind 0 0 ∷ get_or pad 0 0 ∷ big_bytes 2 (big_number 2 count) = e2 ∙ ap (λ l. l ++ r2) (one_byte kind kind_len) ∙ ap (λ l. get_or kind 0 0 ∷ l) middle in
    record { pad = get_or pad 0 0; score_len = score_len; count_short = big_from-lt 0 2 count are; spelled = e1 ∙ ap (λ l. score ++ l) front }

write_forms : (parameters : List ℕ) → AreSpelled (forms_of 14) parameters
    → (m : TMessage) × SpellsBody m 14 parameters
write_forms parameters x =
    let kind = x.1.0 in
    let front : parameters ≡ get_or kind 0 0 ∷ x.0 = x.1.2 ∙ ap (λ l. l ++ x.0) (one_byte kind x.1.1) in (
      t_ask (write (get_or kind 0 0) x.2.0),
      record {
        type_is = refl;
        parameters_are = record { pad = x.2.1.0; pad_len = x.2.1.1; spelled = front ∙ ap (λ l. get_or kind 0 0 ∷ l) x.2.1.2 };
      },
    )

read_found : (parameters : List ℕ) → AreBytes parameters → AreSpelled (forms_of 12) parameters
    → (m : TMessage) × SpellsBody m 12 parameters
read_found parameters are x =
    let score = x.1 in
    let kind = x.2.1 in
    let pad = x.2.2.1 in
    let count = x.2.2.2.1 in (
      t_ask (read score.0 (get_or kind.0 0 0) (big_number 2 count.0)),
      record {
        type_is = refl;
        parameters_are = read_spelled score.0 kind.0 pad.0 count.0 parameters x.0 x.2.0 x.2.2.0 x.2.2.2.0 score.1 score.2 kind.1 kind.2 pad.1 pad.2 count.1 count.2 x.2.2.2.2 are;
      },
    )

hello_found : (parameters : List ℕ) → AreSpelled (forms_of 4) parameters
    → (m : TMessage) × SpellsBody m 4 parameters
hello_found parameters x =
    let version = x.1 in
    let uid = x.2.1 in
    let strength = x.2.2.1 in (
      t_hello version.0,
      record {
        type_is = refl;
        parameters_are = hello_spelled version.0 uid.0 strength.0 parameters x.0 x.2.0 x.2.2.0 x.2.2.2.0 x.2.2.2.2.0 version.1 version.2 uid.1 uid.2 strength.1 strength.2 x.2.2.2.1 x.2.2.2.2.1 x.2.2.2.2.2;
      },
    )

-- ---- types

pub known_type : (m : TMessage) → is_request_type (request_type m) ≡ true
known_type (t_ask ping) = refl
known_type (t_hello version) = refl
known_type t_goodbye = refl
known_type (t_ask (read score kind count)) = refl
known_type (t_ask (write kind bytes)) = refl
known_type (t_ask sync) = refl

-- ---- a body spells a message, or has a first parameter that isn't spelled

pub body_or : (type : ℕ) (parameters : List ℕ) → is_request_type type ≡ true → AreBytes parameters
    → ((m : TMessage) × SpellsBody m type parameters) ⊎ ((n : ℕ) × IsFirstBad (forms_of type) parameters n)
body_or type parameters known are =
    let Either : ℕ → Type 0 = λ t. ((m : TMessage) × SpellsBody m t parameters) ⊎ ((n : ℕ) × IsFirstBad (forms_of t) parameters n) in
    let at : (t : ℕ) → (AreSpelled (forms_of t) parameters → (m : TMessage) × SpellsBody m t parameters) → Either t =
    λ t found. elim (spelled_or (forms_of t) parameters are) [ inl x ↦ inl (found x) | inr first ↦ inr first ] in
    at_six Either 2 4 6 12 14 16 type known
    (at 2 (λ x. (t_ask ping, record { type_is = refl; parameters_are = x })))
    (at 4 (hello_found parameters))
    (at 6 (λ x. (t_goodbye, record { type_is = refl; parameters_are = x })))
    (at 12 (read_found parameters are))
    (at 14 (write_forms parameters))
    (at 16 (λ x. (t_ask sync, record { type_is = refl; parameters_are = x })))

pub body_not_both : (type : ℕ) (parameters : List ℕ) (m : TMessage) (n : ℕ)
    → SpellsBody m type parameters → IsFirstBad (forms_of type) parameters n → ⊥
body_not_both type parameters m n x y =
    none_bad (forms_of type) parameters n (subst (λ t. AreSpelled (forms_of t) parameters) (sym x.type_is) (message_forms m parameters x.parameters_are)) y

pub body_read : (type : ℕ) (parameters : List ℕ) → AreBytes parameters
    → ((m : TMessage) × SpellsBody m type parameters) ⊎ ((m : TMessage) → ¬ SpellsBody m type parameters)
body_read type parameters are = elim (cases_Bool (is_request_type type)) [
  | inl known ↦ elim (body_or type parameters known are) [
    | inl x ↦ inl x
    | inr first ↦ inr (λ m x. body_not_both type parameters m first.0 x first.1)
  ]
  | inr unknown ↦ inr (λ m x. let both : true ≡ false = sym (known_type m) ∙ ap is_request_type (sym x.type_is) ∙ unknown in absurd (cc))
]

-- a frame that spells a request is read as one
pub request_read : (bytes : List ℕ) (tag : ℕ) (m : TMessage) → Spells tag m bytes
    → IsRead is_request_type forms_of bytes
request_read bytes tag m x = record {
  type = request_type m;
  tag = tag;
  parameters = x.parameters;
  frame = x.frame;
  known = known_type m;
  spelled = message_forms m x.parameters x.parameters_are;
}

pub spelled_of : (bytes : List ℕ) (type tag : ℕ) (parameters : List ℕ) (request : Request)
    → IsFrame bytes (type ∷ tag ∷ parameters)
    → (is_request_type type ≡ true → SpellsBody (message_of request) type parameters)
    → (is_request_type type ≡ false → ◌≡◌ {A = Result Request WireBad} (Ok request) (Err (bad.Unknown type)))
    → Spells tag (message_of request) bytes
spelled_of bytes type tag parameters request frame known unknown = elim (cases_Bool (is_request_type type)) [
  | inl is ↦
      let x = known is in
      record { parameters = parameters; parameters_are = x.parameters_are; frame = subst (λ t. IsFrame bytes (t ∷ tag ∷ parameters)) x.type_is frame }
  | inr is ↦ let both : ◌≡◌ {A = Result Request WireBad} (Ok request) (Err (bad.Unknown type)) = unknown is in absurd (cc)
]

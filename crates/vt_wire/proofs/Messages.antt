-- No frame spells two messages, and replies are read apart in one way.
use Rattle.std.proofs.Common.{◌≡◌, ◌≢◌, ℕ, ◌≤◌, List, [], ◌∷◌, ◌++◌, length, refl, sym, ◌∙◌, ap, subst, arith, append-nil, length-append}
use Rattle.std.specs.Prelude.{codes}
use Rattle.byteorder.specs.Endian.{big_bytes}
use Rattle.vt_base.specs.Protocol.{Operation, ping, read, write, sync, TMessage, t_hello, t_goodbye, t_ask, RMessage, r_ping, r_hello, r_read, r_write, r_sync, r_error}
use Rattle.vt_wire.specs.Fields.{string, IsText}
use Rattle.vt_wire.specs.Frames.{framed, IsBody}
use Rattle.vt_wire.specs.Messages.{request_type, SpellsBody, SpellsHello, SpellsRead, SpellsWrite, SpellsParameters, Spells, request_parameters, asked, FitsRequest, reply_type, reply_parameters, spelled_reply, FitsReply, SpellsReply, SpellsReplyParameters}
use Rattle.vt_wire.proofs.Frames.{same_front, same_number, same_framed, one_body}
use Rattle.vt_wire.proofs.Texts.{text_tested}

-- what may stand in a string can be counted
pub text_counted : (text : List ℕ) → IsText text → IsBody text
text_counted text is = let short : length text ≤ 1024 = is.short in omega arith

pub same_string : (a b x y : List ℕ) → IsText a → IsText b → string a ++ x ≡ string b ++ y
    → (a ≡ b) × (x ≡ y)
same_string a b x y p q h = same_framed a b x y (text_counted a p) (text_counted b q) h

hello_one : (v w parameters : List ℕ) → SpellsHello v parameters → SpellsHello w parameters → v ≡ w
hello_one v w parameters x y = (same_string v w _ _ x.version_text y.version_text (sym x.spelled ∙ y.spelled)).0

read_one : (s t : List ℕ) (k l m n : ℕ) (parameters : List ℕ) → SpellsRead s k m parameters
    → SpellsRead t l n parameters → t_ask (read s k m) ≡ t_ask (read t l n)
read_one s t k l m n parameters x y =
    let parts = same_front s t (k ∷ x.pad ∷ big_bytes 2 m) (l ∷ y.pad ∷ big_bytes 2 n) (x.score_len ∙ sym y.score_len) (sym x.spelled ∙ y.spelled) in
    let score : s ≡ t = parts.0 in
    let rest : (k ∷ x.pad ∷ big_bytes 2 m) ≡ (l ∷ y.pad ∷ big_bytes 2 n) = parts.1 in
    let kind : k ≡ l = cc in
    let number : big_bytes 2 m ≡ big_bytes 2 n = cc in
    let count : m ≡ n = (same_number 2 m n [] [] x.count_short y.count_short (append-nil (big_bytes 2 m) ∙ number ∙ sym (append-nil (big_bytes 2 n)))).0 in
    cc

write_one : (k l : ℕ) (a b parameters : List ℕ) → SpellsWrite k a parameters
    → SpellsWrite l b parameters → t_ask (write k a) ≡ t_ask (write l b)
write_one k l a b parameters x y =
    let both : (k ∷ (x.pad ++ a)) ≡ (l ∷ (y.pad ++ b)) = sym x.spelled ∙ y.spelled in
    let kind : k ≡ l = cc in
    let rest : x.pad ++ a ≡ y.pad ++ b = cc in
    let bytes : a ≡ b = (same_front x.pad y.pad a b (x.pad_len ∙ sym y.pad_len) rest).1 in
    cc

-- by the types
not_asked : (m : Operation) → (request_type (t_ask m) ≢ 4) × (request_type (t_ask m) ≢ 6)
not_asked ping = (λ h. omega arith, λ h. omega arith)
not_asked (read s k n) = (λ h. omega arith, λ h. omega arith)
not_asked (write k b) = (λ h. omega arith, λ h. omega arith)
not_asked sync = (λ h. omega arith, λ h. omega arith)

operation_one : (m n : Operation) (parameters : List ℕ)
    → request_type (t_ask m) ≡ request_type (t_ask n) → SpellsParameters (t_ask m) parameters
    → SpellsParameters (t_ask n) parameters → t_ask m ≡ t_ask n
operation_one ping ping parameters p x y = refl
operation_one sync sync parameters p x y = refl
operation_one (read s k c) (read t l d) parameters p x y = read_one s t k l c d parameters x y
operation_one (write k a) (write l b) parameters p x y = write_one k l a b parameters x y
operation_one m n parameters p x y = absurd (omega arith)

pub message_one : (m n : TMessage) (parameters : List ℕ) → request_type m ≡ request_type n
    → SpellsParameters m parameters → SpellsParameters n parameters → m ≡ n
message_one (t_hello v) (t_hello w) parameters p x y = ap t_hello (hello_one v w parameters x y)
message_one t_goodbye t_goodbye parameters p x y = refl
message_one (t_ask m) (t_ask n) parameters p x y = operation_one m n parameters p x y
message_one (t_hello v) (t_ask n) parameters p x y = absurd ((not_asked n).0 (sym p))
message_one t_goodbye (t_ask n) parameters p x y = absurd ((not_asked n).1 (sym p))
message_one (t_ask m) (t_hello w) parameters p x y = absurd ((not_asked m).0 p)
message_one (t_ask m) t_goodbye parameters p x y = absurd ((not_asked m).1 p)
message_one (t_hello v) t_goodbye parameters p x y = absurd (omega arith)
message_one t_goodbye (t_hello w) parameters p x y = absurd (omega arith)

pub body_one : (m n : TMessage) (type : ℕ) (parameters : List ℕ) → SpellsBody m type parameters
    → SpellsBody n type parameters → m ≡ n
body_one m n type parameters x y = message_one m n parameters (sym x.type_is ∙ y.type_is) x.parameters_are y.parameters_are

pub frame_one : (s t : ℕ) (m n : TMessage) (bytes : List ℕ) → Spells s m bytes → Spells t n bytes
    → (s ≡ t) × (m ≡ n)
frame_one s t m n bytes x y =
    let same : (request_type m ∷ s ∷ x.parameters) ≡ (request_type n ∷ t ∷ y.parameters) = one_body bytes _ _ x.frame y.frame in
    let type : request_type m ≡ request_type n = cc in
    let tag : s ≡ t = cc in
    let parameters : x.parameters ≡ y.parameters = cc in
    (tag, message_one m n x.parameters type x.parameters_are (subst (SpellsParameters n) (sym parameters) y.parameters_are))

-- ---- requests that this client sends

request_fits : (tag : ℕ) (m : TMessage) → FitsRequest m
    → IsBody (request_type m ∷ tag ∷ request_parameters m)
request_fits tag (t_ask ping) h = omega arith
request_fits tag (t_hello version) h =
    let short : length version ≤ 1024 = h.short in
    let uid = length-append (string (codes "anonymous")) (0 ∷ 0 ∷ 0 ∷ []) in
    omega (
      arith,
      short,
      length-append (string version) (string (codes "anonymous") ++ (0 ∷ 0 ∷ 0 ∷ [])),
      uid,
    )
request_fits tag t_goodbye h = omega arith
request_fits tag (t_ask (read score kind count)) h =
    omega (arith, h.0, length-append score (kind ∷ 0 ∷ big_bytes 2 count))
request_fits tag (t_ask (write kind bytes)) h = omega (arith, h)
request_fits tag (t_ask sync) h = omega arith

request_parameters_spelled : (m : TMessage) → FitsRequest m
    → SpellsParameters m (request_parameters m)
request_parameters_spelled (t_ask ping) h = refl
request_parameters_spelled (t_hello version) h = record {
  uid = codes "anonymous";
  strength = 0;
  crypto = [];
  codec = [];
  version_text = h;
  uid_text = text_tested (codes "anonymous") (omega arith) refl;
  crypto_short = omega arith;
  codec_short = omega arith;
  spelled = refl;
}
request_parameters_spelled t_goodbye h = refl
request_parameters_spelled (t_ask (read score kind count)) h =
    record { pad = 0; score_len = h.0; count_short = h.1; spelled = refl }
request_parameters_spelled (t_ask (write kind bytes)) h =
    record { pad = 0 ∷ 0 ∷ 0 ∷ []; pad_len = refl; spelled = refl }
request_parameters_spelled (t_ask sync) h = refl

pub request_spelled : (tag : ℕ) (m : TMessage) → FitsRequest m → Spells tag m (asked tag m)
request_spelled tag m h = record {
  parameters = request_parameters m;
  parameters_are = request_parameters_spelled m h;
  frame = record { counted = request_fits tag m h; is = refl };
}

-- ---- replies

pub fits_frame : (tag : ℕ) (p : RMessage) → FitsReply p
    → IsBody (reply_type p ∷ tag ∷ reply_parameters p)
fits_frame tag (r_error text) h = let short : length text ≤ 1024 = h.short in omega arith
fits_frame tag r_ping h = omega arith
fits_frame tag r_hello h = omega arith
fits_frame tag (r_read bytes) h = omega arith
fits_frame tag (r_write score) h = omega arith
fits_frame tag r_sync h = omega arith

parameters_spelled : (p : RMessage) → FitsReply p → SpellsReplyParameters p (reply_parameters p)
parameters_spelled (r_error text) h = (h, refl)
parameters_spelled r_ping h = refl
parameters_spelled r_hello h = record { sid = codes "anonymous"; cipher = 0; codec = 0; sid_text = text_tested (codes "anonymous") (omega arith) refl; spelled = refl }
parameters_spelled (r_read bytes) h = refl
parameters_spelled (r_write score) h = (h, refl)
parameters_spelled r_sync h = refl

pub reply_spelled : (tag : ℕ) (p : RMessage) → FitsReply p → SpellsReply tag p (spelled_reply tag p)
reply_spelled tag p h = record { parameters = reply_parameters p; parameters_are = parameters_spelled p h; frame = record { counted = fits_frame tag p h; is = refl } }

reply_one : (p q : RMessage) (parameters : List ℕ) → reply_type p ≡ reply_type q
    → SpellsReplyParameters p parameters → SpellsReplyParameters q parameters → p ≡ q
reply_one (r_error a) (r_error b) parameters e x y =
    ap r_error (same_string a b [] [] x.0 y.0 (append-nil (string a) ∙ sym x.1 ∙ y.1 ∙ sym (append-nil (string b)))).0
reply_one r_ping r_ping parameters e x y = refl
reply_one r_hello r_hello parameters e x y = refl
reply_one (r_read a) (r_read b) parameters e x y = ap r_read (sym x ∙ y)
reply_one (r_write a) (r_write b) parameters e x y = ap r_write (sym x.1 ∙ y.1)
reply_one r_sync r_sync parameters e x y = refl
reply_one p q parameters e x y = absurd (omega arith)

pub reply_frame_one : (s t : ℕ) (p q : RMessage) (bytes : List ℕ) → SpellsReply s p bytes
    → SpellsReply t q bytes → (s ≡ t) × (p ≡ q)
reply_frame_one s t p q bytes x y =
    let same : (reply_type p ∷ s ∷ x.parameters) ≡ (reply_type q ∷ t ∷ y.parameters) = one_body bytes _ _ x.frame y.frame in
    let type : reply_type p ≡ reply_type q = cc in
    let tag : s ≡ t = cc in
    let parameters : x.parameters ≡ y.parameters = cc in
    (tag, reply_one p q x.parameters type x.parameters_are (subst (SpellsReplyParameters q) (sym parameters) y.parameters_are))

pub spelled_one : (s t : ℕ) (p q : RMessage) (x y : List ℕ) → FitsReply p → FitsReply q
    → spelled_reply s p ++ x ≡ spelled_reply t q ++ y → (s ≡ t) × (p ≡ q) × (x ≡ y)
spelled_one s t p q x y m n h =
    let bodies = same_framed (reply_type p ∷ s ∷ reply_parameters p) (reply_type q ∷ t ∷ reply_parameters q) x y (fits_frame s p m) (fits_frame t q n) h in
    let frames : spelled_reply s p ≡ spelled_reply t q = ap framed bodies.0 in
    let one = reply_frame_one s t p q (spelled_reply s p) (reply_spelled s p m) (subst (SpellsReply t q) (sym frames) (reply_spelled t q n)) in
    (one.0, one.1, bodies.1)

-- A reply's parameters are those of its type's forms.
use Rattle.std.proofs.Common.{◌≡◌, ℕ, List, [], ◌∷◌, ◌++◌, length, get_or, refl, sym, ◌∙◌, ap, subst, true, false, Result, Ok, Err, append-nil, inl, inr}
use Rattle.std.proofs.lemmas.Bool.{cases_Bool}
use Rattle.vt_base.specs.Protocol.{RMessage, r_ping, r_hello, r_read, r_write, r_sync, r_error}
use Rattle.vt_wire.specs.Fields.{string, IsText}
use Rattle.vt_wire.specs.Frames.{IsFrame}
use Rattle.vt_wire.specs.Messages.{is_reply_type, reply_type, SpellsReply, SpellsReplyParameters, SpellsWelcome}
use Rattle.vt_wire.specs.Refusals.{reply_forms_of}
use Rattle.vt_wire.specs.Views.{reply_of}
use Rattle.vt_wire.specs.declared.message.Reply.{Reply}
use Rattle.vt_wire.specs.declared.message.WireBad.{WireBad}
use Rattle.vt_wire.specs.declared.message.WireBad.TheVariants as bad
use Rattle.vt_wire.proofs.Forms.{AreSpelled, one_byte}
use Rattle.vt_wire.proofs.Refusals.{IsRead}

pub reply_forms : (m : RMessage) (parameters : List ℕ) → SpellsReplyParameters m parameters
    → AreSpelled (reply_forms_of (reply_type m)) parameters
reply_forms (r_error text) parameters x =
    ([], (text, x.0, x.1 ∙ sym (append-nil (string text))), refl)
reply_forms r_ping parameters x = x
reply_forms r_hello parameters x = (
  x.cipher ∷ x.codec ∷ [],
  (x.sid, x.sid_text, x.spelled),
  (x.codec ∷ [], (x.cipher ∷ [], refl, refl), ([], (x.codec ∷ [], refl, refl), refl)),
)
reply_forms (r_read bytes) parameters x = ([], refl, refl)
reply_forms (r_write score) parameters x = ([], (score, x.0, x.1 ∙ sym (append-nil score)), refl)
reply_forms r_sync parameters x = x

pub known_reply : (m : RMessage) → is_reply_type (reply_type m) ≡ true
known_reply (r_error text) = refl
known_reply r_ping = refl
known_reply r_hello = refl
known_reply (r_read bytes) = refl
known_reply (r_write score) = refl
known_reply r_sync = refl

-- a frame that spells a reply is read as one
pub reply_read : (bytes : List ℕ) (tag : ℕ) (m : RMessage) → SpellsReply tag m bytes
    → IsRead is_reply_type reply_forms_of bytes
reply_read bytes tag m x = record {
  type = reply_type m;
  tag = tag;
  parameters = x.parameters;
  frame = x.frame;
  known = known_reply m;
  spelled = reply_forms m x.parameters x.parameters_are;
}

pub welcome_spelled : (sid cipher codec parameters r1 r2 r3 : List ℕ) → IsText sid
    → parameters ≡ string sid ++ r1 → length cipher ≡ 1 → r1 ≡ cipher ++ r2 → length codec ≡ 1
    → r2 ≡ codec ++ r3 → r3 ≡ [] → SpellsWelcome parameters
welcome_spelled sid cipher codec parameters r1 r2 r3 is_sid e1 cipher_len e2 codec_len e3 e4 =
    let last : r2 ≡ get_or codec 0 0 ∷ [] =
    e3 ∙ ap (λ (l : List ℕ). codec ++ l) e4 ∙ append-nil codec ∙ one_byte codec codec_len in
    let front : r1 ≡ get_or cipher 0 0 ∷ get_or codec 0 0 ∷ [] =
    e2 ∙ ap (λ (l : List ℕ). l ++ r2) (one_byte cipher cipher_len)
    ∙ ap (λ (l : List ℕ). get_or cipher 0 0 ∷ l) last in
    record {
      sid = sid;
      cipher = get_or cipher 0 0;
      codec = get_or codec 0 0;
      sid_text = is_sid;
      spelled = e1 ∙ ap (λ (l : List ℕ). string sid ++ l) front;
    }

pub spelled_of : (bytes : List ℕ) (type tag : ℕ) (parameters : List ℕ) (reply : Reply)
    → IsFrame bytes (type ∷ tag ∷ parameters)
    → (is_reply_type type ≡ true
    → (type ≡ reply_type (reply_of reply)) × SpellsReplyParameters (reply_of reply) parameters)
    → (is_reply_type type ≡ false
    → ◌≡◌ {A = Result Reply WireBad} (Ok reply) (Err (bad.Unknown type)))
    → SpellsReply tag (reply_of reply) bytes
spelled_of bytes type tag parameters reply frame known unknown =
    elim (cases_Bool (is_reply_type type)) [
      | inl is ↦
          let x = known is in
          record {
            parameters = parameters;
            parameters_are = x.1;
            frame = subst (λ t. IsFrame bytes (t ∷ tag ∷ parameters)) x.0 frame;
          }
      | inr is ↦
          let both : ◌≡◌ {A = Result Reply WireBad} (Ok reply) (Err (bad.Unknown type)) =
          unknown is in
          absurd (cc)
    ]

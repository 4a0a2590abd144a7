-- What an answer adds, and when.
use Rattle.std.proofs.Common.{◌≡◌, ℕ, ◌==◌, nat_lt, nat_le, Bool, true, false, cond, List, [], ◌∷◌, ◌++◌, length, Option, Some, None, refl, sym, ◌∙◌, ap, subst}
use Rattle.std.specs.Prelude.{is_some}
use Rattle.std.proofs.lemmas.Bool.{not-false}
use Rattle.vt_base.specs.Kind.{is_kind}
use Rattle.vt_base.specs.declared.TheConstants.{MAX_BLOCK}
use Rattle.vt_base.specs.declared.why.Why.TheVariants.{TooSmall}
use Rattle.vt_base.specs.Protocol.{Operation, ping, read, write, sync, RMessage, r_read, r_write, r_error}
use Rattle.vt_model.specs.declared.TheConstants.{BUCKET_ROOM}
use Rattle.vt_model.specs.History.{History, Accepted, held}
use Rattle.vt_model.specs.Places.{Setup, next_arena, crowd, bucket_of, bucket_count}
use Rattle.vt_model.specs.Answer.{Outcome, answer, answer_to_write, replies, refuses, adds, collides, lends}
use Rattle.vt_model.proofs.Lists.{both_false}
use Rattle.vt_model.proofs.Held.{find_none, held_push}

abbrev pub entry : ℕ → List ℕ → ℕ → Accepted
entry kind bytes arena = record { block = record { kind = kind; bytes = bytes }; arena = arena }

-- the tests that a write has passed, and where its block goes
pub record MayAdd (score : List ℕ → List ℕ) (c : Setup) (h : History) (e : Accepted) : Type 0 where
  pub kind : is_kind e.block.kind ≡ true
  pub most : nat_lt MAX_BLOCK (length e.block.bytes) ≡ false
  pub some : (length e.block.bytes == 0) ≡ false
  pub free : collides score h e.block.bytes ≡ false
  pub fresh : is_some (held score h (score e.block.bytes) e.block.kind) ≡ false
  pub space : nat_le BUCKET_ROOM
      (crowd score (bucket_count c) h (bucket_of (bucket_count c) (score e.block.bytes))) ≡ false
  pub room : next_arena c h (length e.block.bytes) ≡ Some e.arena

-- what is true of an operation that adds this block
pub record Adds (score : List ℕ → List ℕ) (c : Setup) (h : History) (m : Operation)
    (e : Accepted) : Type 0 where
  pub operation : m ≡ write e.block.kind e.block.bytes
  pub reply : (answer score c h m).reply ≡ r_write (score e.block.bytes)
  pub may : MayAdd score c h e

-- a test that refuses was not met
past : (b : Bool) (r : RMessage) (rest : Outcome) (e : Accepted)
    → (cond b (replies r) rest).added ≡ Some e
    → (b ≡ false) × (rest.added ≡ Some e) × (cond b (replies r) rest ≡ rest)
past true r rest e h = absurd (cc)
past false r rest e h = (refl, h, refl)

adds_where : (s : List ℕ) (kind : ℕ) (bytes : List ℕ) (o : Option ℕ) (e : Accepted)
    → (adds s kind bytes o).added ≡ Some e
    → (o ≡ Some e.arena) × (e ≡ entry kind bytes e.arena)
    × ((adds s kind bytes o).reply ≡ r_write s)
adds_where s kind bytes None e h = absurd (cc)
adds_where s kind bytes (Some arena) e h =
    let is : entry kind bytes arena ≡ e = cc in
    let whole = sym is ∙ ap (λ (e : Accepted). entry kind bytes e.arena) is in
    (ap (λ (e : Accepted). Some e.arena) is, whole, refl)

lends_nothing : (count : ℕ) (o : Option (List ℕ)) (e : Accepted) → (lends count o).added ≡ Some e
    → ⊥
lends_nothing count None e h = cc
lends_nothing count (Some b) e h =
    elim (nat_lt count (length b)) as
    (λ t. (cond t (refuses TooSmall) (replies (r_read b))).added ≡ Some e → ⊥) [
      | true ↦ λ h. cc
      | false ↦ λ h. cc
    ] h

module _ (score : List ℕ → List ℕ) (c : Setup) (h : History) where
  write_adds : (kind : ℕ) (bytes : List ℕ) (e : Accepted)
      → (answer_to_write score c h kind bytes).added ≡ Some e
      → Adds score c h (write kind bytes) e
  write_adds kind bytes e w =
      let a = past _ _ _ e w in
      let b = past _ _ _ e a.1 in
      let d = past _ _ _ e b.1 in
      let f = past _ _ _ e d.1 in
      let i = past _ _ _ e f.1 in
      let j = past _ _ _ e i.1 in
      let k = adds_where (score bytes) kind bytes (next_arena c h (length bytes)) e j.1 in
      let all = a.2 ∙ b.2 ∙ d.2 ∙ f.2 ∙ i.2 ∙ j.2 in
      subst (Adds score c h (write kind bytes)) (sym k.1) (record {
        operation = refl;
        reply = ap (λ (o : Outcome). o.reply) all ∙ k.2;
        may = record {
          kind = not-false _ a.0;
          most = b.0;
          some = d.0;
          free = f.0;
          fresh = i.0;
          space = j.0;
          room = k.0;
        };
      })

  -- only a write adds, and only where it may
  pub adds_when : (m : Operation) (e : Accepted) → (answer score c h m).added ≡ Some e
      → Adds score c h m e
  adds_when ping e w = absurd (cc)
  adds_when (read s kind count) e w =
      absurd (lends_nothing count (held score h s kind) e (past _ _ _ e w).1)
  adds_when (write kind bytes) e w = write_adds kind bytes e w
  adds_when sync e w = absurd (cc)

  pub added_held : (m : Operation) (e : Accepted) → (answer score c h m).added ≡ Some e
      → held score (h ++ e ∷ []) (score e.block.bytes) e.block.kind ≡ Some e.block.bytes
  added_held m e w =
      let may = (adds_when m e w).may in
      let nonzero = (both_false _ _ may.free).0 in
      held_push score h e nonzero
      (find_none score h (score e.block.bytes) e.block.kind nonzero may.fresh)

  refused_adds : (m : Operation) (text : List ℕ) (o : Option Accepted)
      → (answer score c h m).reply ≡ r_error text
      → (answer score c h m).added ≡ o → o ≡ None
  refused_adds m text None refused is = refl
  refused_adds m text (Some e) refused is = let stored = (adds_when m e is).reply in absurd (cc)

  pub added-refused : (m : Operation) (text : List ℕ) → (answer score c h m).reply ≡ r_error text
      → (answer score c h m).added ≡ None
  added-refused m text refused = refused_adds m text (answer score c h m).added refused refl

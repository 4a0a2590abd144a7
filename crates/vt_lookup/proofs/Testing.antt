-- What the model answers to a write, by what its tests find.
use Rattle.std.proofs.Common.{◌≡◌, ℕ, ◌==◌, Bool, true, false, not, List, [], length, Option, Some, None, refl, sym, ◌∙◌, ap, subst, arith}
use Rattle.std.specs.Prelude.{IsSome, is_some, nat_le, nat_lt, if◌then◌else◌}
use Rattle.std.proofs.lemmas.Bool.{le-ltb, eqb-true, false_from_ne_true}
use Rattle.vt_base.specs.declared.TheConstants.{MAX_BLOCK}
use Rattle.vt_base.specs.declared.why.Why.TheVariants.{BadType, TooBig, Collision, IndexFull, ArenasFull}
use Rattle.vt_base.specs.Kind.{is_kind}
use Rattle.vt_base.specs.Protocol.{write, r_write}
use Rattle.vt_model.specs.declared.TheConstants.{BUCKET_ROOM}
use Rattle.vt_model.specs.Answer.{Outcome, answer, adds, collides, refuses, replies}
use Rattle.vt_model.specs.History.{History, IsBlock, held}
use Rattle.vt_model.specs.Places.{Setup, bucket_count, bucket_of, crowd, next_arena}

module _ (score : List ℕ → List ℕ) (c : Setup) (h : History) (kind : ℕ) (bytes : List ℕ) where
  -- the last tests: the bucket's room, and the arenas'
  abbrev pub by_room : Outcome
  by_room = if nat_le BUCKET_ROOM (crowd score (bucket_count c) h (bucket_of (bucket_count c) (score bytes))) then refuses IndexFull
      else adds (score bytes) kind bytes (next_arena c h (length bytes))

  abbrev pub by_key : Outcome
  by_key = if is_some (held score h (score bytes) kind) then replies (r_write (score bytes)) else by_room

  abbrev pub by_score : Outcome
  by_score = if collides score h bytes then refuses Collision else by_key

  by_form : IsBlock (record { kind = kind; bytes = bytes }) → answer score c h (write kind bytes) ≡ by_score
  by_form block =
      let is : is_kind kind ≡ true = block.kind in
      let fits : nat_lt MAX_BLOCK (length bytes) ≡ false = le-ltb MAX_BLOCK (length bytes) block.most in
      let some : (length bytes == 0) ≡ false = false_from_ne_true (length bytes == 0) (λ e. let none : length bytes ≡ 0 = eqb-true (length bytes) 0 e in omega (arith, none, block.some)) in
      ap (λ (b : Bool). if not b then refuses BadType else if nat_lt MAX_BLOCK (length bytes) then refuses TooBig else if length bytes == 0 then replies (r_write (score [])) else by_score) is
      ∙ ap (λ (b : Bool). if b then refuses TooBig else if length bytes == 0 then replies (r_write (score [])) else by_score) fits
      ∙ ap (λ (b : Bool). if b then replies (r_write (score [])) else by_score) some

  module _ (block : IsBlock (record { kind = kind; bytes = bytes })) where
    -- another block of the score has other bytes
    pub collision : collides score h bytes ≡ true → answer score c h (write kind bytes) ≡ refuses Collision
    collision is = by_form block ∙ ap (λ (b : Bool). if b then refuses Collision else by_key) is

    module _ (free : collides score h bytes ≡ false) where
      -- the block is held
      pub is_held : (own : List ℕ) → held score h (score bytes) kind ≡ Some own → answer score c h (write kind bytes) ≡ replies (r_write (score bytes))
      is_held own is = by_form block ∙ ap (λ (b : Bool). if b then refuses Collision else by_key) free
          ∙ ap (λ (o : Option (List ℕ)). if is_some o then replies (r_write (score bytes)) else by_room) is

      module _ (none : held score h (score bytes) kind ≡ None) where
        at_room : answer score c h (write kind bytes) ≡ by_room
        at_room = by_form block ∙ ap (λ (b : Bool). if b then refuses Collision else by_key) free
            ∙ ap (λ (o : Option (List ℕ)). if is_some o then replies (r_write (score bytes)) else by_room) none

        pub is_crowded : nat_le BUCKET_ROOM (crowd score (bucket_count c) h (bucket_of (bucket_count c) (score bytes))) ≡ true → answer score c h (write kind bytes) ≡ refuses IndexFull
        is_crowded is = at_room ∙ ap (λ (b : Bool). if b then refuses IndexFull else adds (score bytes) kind bytes (next_arena c h (length bytes))) is

        module _ (room : nat_le BUCKET_ROOM (crowd score (bucket_count c) h (bucket_of (bucket_count c) (score bytes))) ≡ false) where
          at_arena : (o : Option ℕ) → next_arena c h (length bytes) ≡ o → answer score c h (write kind bytes) ≡ adds (score bytes) kind bytes o
          at_arena o is = at_room ∙ ap (λ (b : Bool). if b then refuses IndexFull else adds (score bytes) kind bytes (next_arena c h (length bytes))) room
              ∙ ap (adds (score bytes) kind bytes) is

          pub is_full : next_arena c h (length bytes) ≡ None → answer score c h (write kind bytes) ≡ refuses ArenasFull
          is_full is = at_arena None is

          pub is_new : (arena : ℕ) → next_arena c h (length bytes) ≡ Some arena → IsSome (answer score c h (write kind bytes)).added
          is_new arena is = subst (λ (o : Outcome). IsSome o.added) (sym (at_arena (Some arena) is)) refl

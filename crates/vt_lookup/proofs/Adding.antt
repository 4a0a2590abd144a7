-- Adding a block that the model adds.
use Rattle.std.proofs.Common.{◌≡◌, ℕ, ◌<◌, ◌≤◌, List, [], ◌∷◌, ◌++◌, length, Some, refl, sym, ◌∙◌, ap, subst}
use Rattle.std.specs.Prelude.{◌^◌, replicate, slice_get}
use Rattle.std.proofs.lemmas.List.{append-nil}
use Rattle.vt_base.specs.Kind.{IsKind}
use Rattle.vt_base.specs.Protocol.{write}
use Rattle.vt_base.specs.declared.place.Place.{Place}
use Rattle.vt_clump.specs.Clumps.{IsPacked, stored_of}
use Rattle.vt_clump.specs.Laws.{IsUnambiguous}
use Rattle.vt_clump.specs.Spelling.{Stored, clump_bytes}
use Rattle.vt_clump.specs.declared.packed.Packed.{Packed}
use Rattle.vt_icache.specs.Index.{entry_of}
use Rattle.vt_isect.specs.Agreement.{IsEntryOf}
use Rattle.vt_log.specs.Answers.{TakesIn}
use Rattle.vt_log.specs.Log.{LogState, setup_of_log}
use Rattle.vt_log.specs.Logs.{accepted_in}
use Rattle.vt_log.specs.Queue.{spot_of}
use Rattle.vt_model.specs.History.{History, Accepted}
use Rattle.vt_model.specs.Places.{Setup, next_arena, place_of}

-- a block is an accepted one by its fields
accepted_is : (block : Accepted) (arena : ℕ) (s : Stored) → block.block.kind ≡ s.kind → block.block.bytes ≡ s.block → block.arena ≡ arena → block ≡ accepted_in arena s
accepted_is block arena s kind bytes place =
    let B : ℕ → List ℕ → ℕ → Accepted = λ k b a. record { block = record { kind = k; bytes = b }; arena = a } in
    ap (λ (k : ℕ). B k block.block.bytes block.arena) kind ∙ ap (λ (b : List ℕ). B s.kind b block.arena) bytes ∙ ap (λ (a : ℕ). B s.kind s.block a) place

-- what stands at the end
at_end : {X : Type 0} (xs : List X) (x : X) → slice_get (xs ++ x ∷ []) (length xs) ≡ Some x
at_end [] x = refl
at_end (y ∷ xs) x = at_end xs x

-- what the model adds stands in the arena that the log gives it
module _ (score : List ℕ → List ℕ) (c : Setup) (h : History) (packed : Packed) (block : Accepted) (arena : ℕ) (is : IsPacked score packed)
    (operation : write packed.kind (stored_of packed).block ≡ write block.block.kind block.block.bytes)
    (model : next_arena c h (length block.block.bytes) ≡ Some block.arena) (log : next_arena c h packed.len ≡ Some arena) where
  own_kind : packed.kind ≡ block.block.kind
  own_kind = cc

  own_bytes : (stored_of packed).block ≡ block.block.bytes
  own_bytes = cc

  own_arena : block.arena ≡ arena
  own_arena =
      let lens : length block.block.bytes ≡ packed.len = ap (λ (b : List ℕ). length b) (sym own_bytes) ∙ sym is.len in
      let same : Some block.arena ≡ Some arena = sym model ∙ ap (λ (n : ℕ). next_arena c h n) lens ∙ log in
      cc

  pub block_is : block ≡ accepted_in arena (stored_of packed)
  block_is = accepted_is block arena (stored_of packed) (sym own_kind ∙ is.kind) (sym own_bytes) own_arena

  -- its entry
  pub entry_is : (place : Place) (number : ℕ) → place_of c (h ++ block ∷ []) (length h) ≡ Some (spot_of place)
      → IsEntryOf score c (h ++ block ∷ []) (length h) (entry_of (record { key = record { score = packed.score; kind = packed.kind }; size = packed.len; place = place; number = number }))
  entry_is place number stands = record {
    block = block;
    spot = spot_of place;
    stands = record { block = at_end h block; place = stands };
    score_is = is.score ∙ is.stored.scored ∙ ap score own_bytes;
    kind_is = own_kind;
    size_is = is.len ∙ ap (λ (b : List ℕ). length b) own_bytes;
    arena_is = refl;
    offset_is = refl;
  }

-- a log that takes a block in has the setup that it had
pub taken_opened : {D : Type 0} (c : Setup) (packed : Packed) (place : Place) (old new : LogState D) → TakesIn packed place old new → c ≡ record (setup_of_log old) { sections = c.sections }
    → c ≡ record (setup_of_log new) { sections = c.sections }
taken_opened {D} c packed place old new it opened = subst (λ (l : LogState D). c ≡ record (setup_of_log l) { sections = c.sections }) (sym it.new_is) opened

-- what was packed says what it was packed of
pub packed_is : (score : List ℕ → List ℕ) (p : Packed) (kind : ℕ) (s block : List ℕ) (time : ℕ) → IsUnambiguous → IsPacked score p → p.kind ≡ kind → p.score.0 ≡ s
    → p.bytes ≡ clump_bytes (record { kind = kind; score = s; creator = replicate 4 0; time = time; block = block }) → s ≡ score block → 0 < length block → length block ≤ 57344 → time < 2 ^ 32
    → ((stored_of p).block ≡ block) × ((stored_of p).time ≡ time)
packed_is score p kind s block time one is kinds scores bytes scored some most small =
    let own : Stored = record { kind = kind; score = s; creator = replicate 4 0; time = time; block = block } in
    let same : stored_of p ≡ own = one score (stored_of p) own p.bytes
    (record { stored = is.stored; spelling = ([], is.bytes ∙ sym (append-nil (clump_bytes (stored_of p)))) })
    (record {
      stored = record {
        kind = subst (λ (n : ℕ). IsKind n) (sym is.kind ∙ kinds) is.stored.kind;
        scored = scored;
        score_len = ap (λ (x : List ℕ). length x) (sym scores ∙ is.score) ∙ is.stored.score_len;
        creator_len = refl;
        time = small;
        some = some;
        most = most;
      };
      spelling = ([], bytes ∙ sym (append-nil (clump_bytes own)));
    }) in
    (ap (λ (x : Stored). x.block) same, ap (λ (x : Stored). x.time) same)

pub written_is : (kind : ℕ) (bytes : List ℕ) (e : Accepted) → write kind bytes ≡ write e.block.kind e.block.bytes → bytes ≡ e.block.bytes
written_is kind bytes e same = cc

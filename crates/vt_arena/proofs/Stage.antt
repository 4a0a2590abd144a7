-- Staging a block keeps an arena sound.
use Rattle.std.proofs.Common.{◌≡◌, ◌⊎◌, inl, inr, ⊎_elim, ℕ, zero, suc, ◌+◌, ◌≤◌, ◌==◌, Bool, true, false, cond, List, [], ◌∷◌, ◌++◌, length, take, map, Option, Some, None, refl, sym, ◌∙◌, ap, subst, arith, append_assoc, length-append}
use Rattle.std.specs.Prelude.{All, IsTrue, IsFalse, IsSome, is_some, ◌||◌, ◌&&◌, nat_lt, replicate, if◌then◌else◌}
use Rattle.std.proofs.lemmas.List.{map-append}
use Rattle.std.proofs.lemmas.List.Elements.{All-append}
use Rattle.std.proofs.lemmas.List.Sums.{fold-append}
use Rattle.std.proofs.lemmas.Bool.{leb-true}
use Rattle.std.proofs.lemmas.Bool.Decides.{nat_tests, Decides-eqb}
use Rattle.vt_disk.specs.declared.region.Region.{Region}
use Rattle.vt_twin.specs.Twin.{FrameChange}
use Rattle.vt_clump.specs.declared.packed.Packed.{Packed}
use Rattle.vt_clump.specs.Spelling.{Stored, IsStoredBlock}
use Rattle.vt_clump.specs.Clumps.{IsPacked, stored_of}
use Rattle.vt_model.specs.declared.TheConstants.{WRITTEN_VERSION}
use Rattle.vt_arena.specs.Arena.{ArenaState, added_by_commit, next_content, fits, is_committing, version_counted, with_seal, with_staged}
use Rattle.vt_arena.specs.Layout.{Content, IsArenaContent, ClumpsStandAt, entry_bytes, arena_entry, clumps_place, has_directory, used_of, last_of, chain_of_blocks, arena_head}
use Rattle.vt_arena.specs.Places.{Fit, IsVersion, block_room, directory_room, has_room, arena_room}
use Rattle.vt_arena.specs.Sound.{IsSoundArena}
use Rattle.vt_arena.proofs.Layouts.{fit_of, All-stored, entry_is, used-append, used-cons}
use Rattle.vt_twin.proofs.Changes.{none_made}

-- with no commit under way nothing was written, and the head doesn't change
pub record IsResting (a : ArenaState) : Type 0 where
  pub written : a.written ≡ 0
  pub change : a.twin.change ≡ None
  pub failed : a.failed ≡ false

pub resting : (a : ArenaState) → IsFalse (is_committing a) → IsResting a
resting a is = record {
  written = zeroth a.written (first (nat_lt 0 a.written) (is_some a.twin.change) a.failed is);
  change = none a.twin.change (second (nat_lt 0 a.written) (is_some a.twin.change) a.failed is);
  failed = third (nat_lt 0 a.written) (is_some a.twin.change) a.failed is;
}
  where
    first : (x y z : Bool) → IsFalse (x || y || z) → x ≡ false
    first true y z off = cc
    first false y z off = refl

    second : (x y z : Bool) → IsFalse (x || y || z) → y ≡ false
    second true y z off = cc
    second false true z off = cc
    second false false z off = refl

    third : (x y z : Bool) → IsFalse (x || y || z) → z ≡ false
    third true y z off = cc
    third false true z off = cc
    third false false true off = cc
    third false false false off = refl

    zeroth : (w : ℕ) → nat_lt 0 w ≡ false → w ≡ 0
    zeroth w off = grind (arith, nat_tests)

    none : {T : Type 0} (o : Option T) → is_some o ≡ false → o ≡ None
    none None off = refl
    none (Some it) off = cc

none_some : (change : Option FrameChange) → change ≡ None → IsSome change → ⊥
none_some None off some = cc
none_some (Some it) off some = cc

-- a count that isn't zero
pub some_test : (n : ℕ) → (suc n == 0) ≡ false
some_test n = grind (arith, nat_tests)

-- an arena that counts as one of the version that is written is one, or has no blocks
counted : (version : ℕ) (stored : List Stored) → (if length stored == 0 then WRITTEN_VERSION else version) ≡ WRITTEN_VERSION → (stored ≡ []) ⊎ (version ≡ WRITTEN_VERSION)
counted version [] is = inl refl
counted version (s ∷ stored) is = inr (sym (ap (λ (b : Bool). if b then WRITTEN_VERSION else version) (some_test (length stored))) ∙ is)

front_empty : {X : Type 0} (xs ys : List X) → xs ++ ys ≡ [] → xs ≡ []
front_empty [] ys none = refl
front_empty (x ∷ xs) ys none = absurd (cc)

-- what it takes and says of its last clump is the same in that version
module _ (x : Content) (is : (x.stored ≡ []) ⊎ (x.version ≡ WRITTEN_VERSION)) where
  used_written : used_of x.version x.stored ≡ used_of WRITTEN_VERSION x.stored
  used_written = ⊎_elim
      (λ (none : x.stored ≡ []). ap (λ (l : List Stored). used_of x.version l) none ∙ ap (λ (l : List Stored). used_of WRITTEN_VERSION l) (sym none))
      (λ (one : x.version ≡ WRITTEN_VERSION). ap (λ (v : ℕ). used_of v x.stored) one) is

  last_written : last_of x ≡ 0
  last_written = ⊎_elim
      (λ (none : x.stored ≡ []). ap (λ (l : List Stored). last_of (record x { stored = l })) none ∙ no_last (x.version == 2))
      (λ (one : x.version ≡ WRITTEN_VERSION). ap (λ (v : ℕ). last_of (record x { version = v })) one) is
    where
      no_last : (t : Bool) → ◌≡◌ {A = ℕ} (cond t 0 0) 0
      no_last true = refl
      no_last false = refl

module _ (score_of : List ℕ → List ℕ) (a : ArenaState) (region : Region) (old : Content) (read : List ℕ) (images : List ℕ → Type 0)
    (sound : IsSoundArena score_of a region old read images) where
  -- the next content is of that version, or there are no blocks
  next_counted : version_counted a.next ≡ WRITTEN_VERSION → ((next_content a old).stored ≡ []) ⊎ ((next_content a old).version ≡ WRITTEN_VERSION)
  next_counted is =
      counted (next_content a old).version (next_content a old).stored
      ((λ i. if (sym sound.next i).clumps == 0 then WRITTEN_VERSION else (sym sound.next i).version) ∙ is)

  old_counted : version_counted a.next ≡ WRITTEN_VERSION → (old.stored ≡ []) ⊎ (old.version ≡ WRITTEN_VERSION)
  old_counted is = ⊎_elim
      (λ (none : (next_content a old).stored ≡ []). inl (front_empty old.stored (added_by_commit a) none))
      (λ (one : (next_content a old).version ≡ WRITTEN_VERSION). ⊎_elim
      (λ (none : old.stored ≡ []). inl none)
      (λ (same : (next_content a old).version ≡ old.version). inr (sym same ∙ one))
      sound.version)
      (next_counted is)

  -- so that a directory is there to be added to
  grown : version_counted a.next ≡ WRITTEN_VERSION → (old.stored ≡ []) ⊎ IsTrue (has_directory old)
  grown is = ⊎_elim
      (λ (none : old.stored ≡ []). inl none)
      (λ (one : old.version ≡ WRITTEN_VERSION). inr (by old.sealed old.version one))
      (old_counted is)
    where
      by : (sealed : Bool) (v : ℕ) → v ≡ WRITTEN_VERSION → IsTrue (sealed || v == 1)
      by true v one = refl
      by false v one = ap (λ (w : ℕ). w == 1) one

  -- the seal is asked for
  pub seal_sound : IsFalse (is_committing a) → version_counted a.next ≡ WRITTEN_VERSION → IsSoundArena score_of (with_seal a) region old read images
  seal_sound rest is = let rests : IsResting a = resting a rest in record {
    len = sound.len;
    frame_len = sound.frame_len;
    head = sound.head;
    next = λ i. record (sound.next i) { sealed = true };
    chain = sound.chain;
    packed = sound.packed;
    content = sound.content;
    next_content_is = record { version = sound.next_content_is.version; stored = sound.next_content_is.stored; linked = sound.next_content_is.linked; fit = sound.next_content_is.fit };
    version = sound.version;
    grows = λ _. grown is;
    begun = λ some. absurd (none_some a.twin.change rests.change some);
    frame = sound.frame;
    twin = sound.twin;
    fields = sound.fields;
    kept = sound.kept;
    written = record { clumps = sound.written.clumps; directory = sound.written.directory };
    synced = λ made. absurd (omega (arith, made, none_made a.twin rests.change));
  }

pub both : (b c : Bool) → IsTrue (b && c) → (b ≡ true) × (c ≡ true)
both true c on = (refl, on)
both false c on = absurd (cc)

module _ (score_of : List ℕ → List ℕ) (a : ArenaState) (p : Packed) (region : Region) (old : Content) (read : List ℕ) (images : List ℕ → Type 0) where
  -- the version of what the next commit leaves
  pushed : (staged : List Packed) → (if length (staged ++ p ∷ []) == 0 then old.version else WRITTEN_VERSION) ≡ WRITTEN_VERSION
  pushed [] = refl
  pushed (q ∷ staged) = ap (λ (b : Bool). if b then old.version else WRITTEN_VERSION) (some_test (length (staged ++ p ∷ [])))

  abbrev later : Content
  later = next_content (with_staged score_of p a) old

  version : later.version ≡ WRITTEN_VERSION
  version = pushed a.staged

  more : (old.stored ++ added_by_commit a) ++ stored_of p ∷ [] ≡ later.stored
  more = append_assoc old.stored (added_by_commit a) (stored_of p ∷ []) ∙ ap (λ (l : List Stored). old.stored ++ l) (sym (map-append stored_of a.staged (p ∷ [])))

  module _ (sound : IsSoundArena score_of a region old read images) (is : IsPacked score_of p) (counts : version_counted a.next ≡ WRITTEN_VERSION) where
    one : All (IsPacked score_of) (p ∷ [])
    one zero d below = is
    one (suc k) d below = absurd (omega (arith, below))

    packed : All (IsPacked score_of) (a.staged ++ p ∷ [])
    packed = All-append (IsPacked score_of) a.staged (p ∷ []) sound.packed one

    count : length later.stored ≡ a.next.clumps + 1
    count =
        let clumps : length (old.stored ++ added_by_commit a) ≡ a.next.clumps = λ i. (sym sound.next i).clumps in
        ap (λ (l : List Stored). length l) (sym more) ∙ length-append (old.stored ++ added_by_commit a) (stored_of p ∷ [])
        ∙ ap (λ (n : ℕ). n + 1) clumps

    used : used_of WRITTEN_VERSION later.stored ≡ a.next.used + block_room WRITTEN_VERSION p.len
    used =
        let next : used_of (next_content a old).version (next_content a old).stored ≡ a.next.used = λ i. (sym sound.next i).used in
        let first : used_of WRITTEN_VERSION (old.stored ++ added_by_commit a) ≡ a.next.used =
        sym (used_written (next_content a old) (next_counted score_of a region old read images sound counts)) ∙ next in
        let second : used_of WRITTEN_VERSION (stored_of p ∷ []) ≡ block_room WRITTEN_VERSION p.len =
        omega (arith, used-cons WRITTEN_VERSION (stored_of p) [], is.len) in
        ap (used_of WRITTEN_VERSION) (sym more)
        ∙ used-append WRITTEN_VERSION (old.stored ++ added_by_commit a) (stored_of p ∷ [])
        ∙ (λ i. first i + second i)

    chain : score_of (a.next.chain.0 ++ entry_bytes p.kind p.len p.score.0) ≡ chain_of_blocks score_of later.stored
    chain =
        (λ i. score_of ((sound.next i).chain.0 ++ entry_is score_of p is i))
        ∙ sym (fold-append (λ links (t : Stored). score_of (links ++ arena_entry t)) (replicate 20 0) (old.stored ++ added_by_commit a) (stored_of p ∷ []))
        ∙ ap (chain_of_blocks score_of) more

    last : a.next.last ≡ last_of later
    last =
        let next : a.next.last ≡ last_of (next_content a old) = λ i. (sound.next i).last in
        next ∙ last_written (next_content a old) (next_counted score_of a region old read images sound counts)
        ∙ sym (last_written later (inr version))

    next : (with_staged score_of p a).next ≡ arena_head score_of a.number later
    next i = record {
      version = sym version i;
      number = (sound.next i).number;
      sealed = a.next.sealed;
      clumps = sym count i;
      used = (sym used ∙ ap (λ (v : ℕ). used_of v later.stored) (sym version)) i;
      chain = record { 0 = chain i };
      last = last i;
    }

    content : a.next.used + block_room WRITTEN_VERSION p.len + directory_room WRITTEN_VERSION (a.next.clumps + 1) ≤ arena_room a.len
        → IsArenaContent score_of region.len later
    content taken = record {
      version = subst IsVersion (sym version) (inl refl);
      stored = All-append (IsStoredBlock score_of) old.stored (map stored_of (a.staged ++ p ∷ [])) sound.content.stored (All-stored score_of (a.staged ++ p ∷ []) packed);
      linked = λ second. let wrong : 1 ≡ 2 = sym version ∙ second in absurd (omega (arith, wrong));
      fit = subst (λ (v : ℕ). Fit v region.len later.stored) (sym version)
          (fit_of WRITTEN_VERSION region.len later.stored
          (subst (λ (n : ℕ). n ≤ arena_room region.len) (λ i. sym used i + directory_room WRITTEN_VERSION (sym count i))
          (subst (λ (n : ℕ). a.next.used + block_room WRITTEN_VERSION p.len + directory_room WRITTEN_VERSION (a.next.clumps + 1) ≤ arena_room n) sound.len taken)));
    }

  pub stage_sound : ((block : List ℕ) → length (score_of block) ≡ 20) → IsTrue (fits a p.len) → IsFalse (is_committing a) → IsPacked score_of p
      → IsSoundArena score_of a region old read images → IsSoundArena score_of (with_staged score_of p a) region old read images
  stage_sound lens room rest is sound =
      let rests : IsResting a = resting a rest in
      let tests = both (version_counted a.next == WRITTEN_VERSION) (has_room WRITTEN_VERSION a.len a.next.used a.next.clumps p.len) room in
      let counts : version_counted a.next ≡ WRITTEN_VERSION = (Decides-eqb (version_counted a.next) WRITTEN_VERSION).0 tests.0 in
      let taken : a.next.used + block_room WRITTEN_VERSION p.len + directory_room WRITTEN_VERSION (a.next.clumps + 1) ≤ arena_room a.len = leb-true _ _ tests.1 in record {
        len = sound.len;
        frame_len = sound.frame_len;
        head = sound.head;
        next = next sound is counts;
        chain = lens (a.next.chain.0 ++ entry_bytes p.kind p.len p.score.0);
        packed = packed sound is counts;
        content = sound.content;
        next_content_is = content sound is counts taken;
        version = ⊎_elim (λ (none : old.stored ≡ []). inl none) (λ (w : old.version ≡ WRITTEN_VERSION). inr (version ∙ sym w))
            (old_counted score_of a region old read images sound counts);
        grows = λ _. grown score_of a region old read images sound counts;
        begun = λ some. absurd (none_some a.twin.change rests.change some);
        frame = sound.frame;
        twin = sound.twin;
        fields = sound.fields;
        kept = sound.kept;
        written = record {
          clumps = subst (λ (w : ℕ). ClumpsStandAt WRITTEN_VERSION (clumps_place region old.version old.stored) (take w (map stored_of (a.staged ++ p ∷ []))) read) (sym rests.written) tt;
          directory = λ made. absurd (omega (arith, rests.written, made));
        };
        synced = λ made. absurd (omega (arith, made, none_made a.twin rests.change));
      }

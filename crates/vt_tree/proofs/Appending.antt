-- Bytes appended part by part, and the calls that were made for them.
use Rattle.std.proofs.Common.{◌≡◌, ℕ, ◌+◌, ◌-◌, ◌<◌, ◌≤◌, Option, Result, Ok, Err, Some, None, false, List, [], ◌∷◌, ◌++◌, length, map, refl, sym, ◌∙◌, ap, subst, arith, append_assoc, length-append}
use Rattle.std.specs.List.{AllByRecursion}
use Rattle.std.proofs.lemmas.List.{map-append}
use Rattle.std.proofs.lemmas.List.Elements.{filter_map-append}
use Rattle.vt_base.specs.Protocol.{Operation, read}
use Rattle.vt_base.specs.declared.TheConstants.{MAX_BLOCK}
use Rattle.vt_tree.specs.declared.error.BlockErr.{BlockErr}
use Rattle.vt_tree.specs.declared.error.TreeErr.{TreeErr}
use Rattle.vt_tree.specs.declared.error.TreeErr.TheVariants as errs
use Rattle.vt_tree.specs.declared.entry.Entry.{Entry}
use Rattle.vt_tree.specs.declared.plain.ContentError.{ContentError}
use Rattle.vt_tree.specs.declared.plain.ContentError.TheVariants.{Absent, BadBlock}
use Rattle.vt_tree.specs.Calls.{Call, get, asked_of, refusal_of, refusals_of, IsGet, TellsOfMap}
use Rattle.vt_tree.specs.Content.{AreGiven, FirstTrouble, fits_at}
use Rattle.vt_tree.specs.Making.{EndsBy}
use Rattle.vt_tree.specs.Maps.{BlockMap, IsWriteOnce}
use Rattle.vt_tree.specs.Reading.{EndsBadly, AsksFor, GivesBytes, refused_by}
use Rattle.vt_tree.specs.Walking.{AppendsRange, AppendsBytes, ReadsBlock, answered_bytes}
use Rattle.vt_tree.proofs.Givens.{gives_more, gives_no_more, gives_there}
use Rattle.vt_tree.proofs.Making.{makes_more, makes_one}

-- ---- calls joined

pub all_join : {X : Type 0} (P : X → Type 0) (xs ys : List X) → AllByRecursion P xs
    → AllByRecursion P ys → AllByRecursion P (xs ++ ys)
all_join P [] ys first then = then
all_join P (x ∷ xs) ys first then = (first.0, all_join P xs ys first.1 then)

pub all_first : {X : Type 0} (P : X → Type 0) (xs ys : List X) → AllByRecursion P (xs ++ ys)
    → AllByRecursion P xs
all_first P [] ys all = tt
all_first P (x ∷ xs) ys all = (all.0, all_first P xs ys all.1)

pub all_then : {X : Type 0} (P : X → Type 0) (xs ys : List X) → AllByRecursion P (xs ++ ys)
    → AllByRecursion P ys
all_then P [] ys all = all
all_then P (x ∷ xs) ys all = all_then P xs ys all.1

pub accepted_join : (xs ys : List Call) → refusals_of xs ≡ [] → refusals_of ys ≡ []
    → refusals_of (xs ++ ys) ≡ []
accepted_join xs ys first then =
    filter_map-append refusal_of xs ys ∙ (λ i. first i ++ then i)

-- calls that were all answered, and then others
pub ends_more : (o : Option BlockErr) (xs ys : List Call) → refusals_of xs ≡ [] → EndsBy o ys
    → EndsBy o (xs ++ ys)
ends_more None xs ys first then = accepted_join xs ys first then
ends_more (Some err) xs ys first then = record {
  before = xs ++ then.before;
  last = then.last;
  are = ap (λ (l : List Call). xs ++ l) then.are
      ∙ sym (append_assoc xs then.before (then.last ∷ []));
  accepted = accepted_join xs then.before first then.accepted;
  refused = then.refused;
}

pub badly_more : {X : Type 0} (e : Entry) (result : Result X TreeErr) (xs ys : List Call)
    → EndsBadly e result ys → EndsBadly e result (xs ++ ys)
badly_more e (Ok x) xs ys bad = tt
badly_more e (Err (errs.Block err)) xs ys bad = tt
badly_more e (Err errs.SourceFault) xs ys bad = tt
badly_more e (Err (errs.BadEntry field)) xs ys bad = tt
badly_more e (Err (errs.BadBlock depth len)) xs ys bad = record {
  before = xs ++ bad.before;
  kind = bad.kind;
  score = bad.score;
  block = bad.block;
  are = ap (λ (l : List Call). xs ++ l) bad.are
      ∙ sym (append_assoc xs bad.before (get bad.kind bad.score (Ok bad.block) ∷ []));
  unfit = bad.unfit;
  len_is = bad.len_is;
}
badly_more e (Err errs.TooLong) xs ys bad = tt
badly_more e (Err errs.NoMemory) xs ys bad = tt

-- ---- parts joined

module _ {S : Type 0} (does : S → Call → S → Type 0) (score_of : List ℕ → List ℕ)
    (e : Entry) where
  -- memory was short before anything was asked for
  pub nothing_read : (s : S) (byte : BlockMap → ℕ → Result ℕ ContentError)
      (way : BlockMap → List Operation) (from len : ℕ) (old new : List ℕ)
      → AppendsRange does score_of e s s byte way from len old new (Err errs.NoMemory)
  nothing_read s byte way from len old new = record {
    calls = [];
    made = refl;
    gets = tt;
    refused = refl;
    about = λ of_entry. of_entry;
    bad = tt;
    bytes = [];
    appended = tt;
    asked = λ blocks once tells. (way blocks, refl);
    gives = λ blocks once tells. tt;
  }

  -- bytes that are known without a call
  pub known : (s : S) (byte : BlockMap → ℕ → Result ℕ ContentError) (way : BlockMap → List Operation)
      (from len : ℕ) (old new bytes : List ℕ) (result : Result (Unit {0}) TreeErr)
      → AppendsBytes bytes old new result → length bytes ≡ len
      → ((blocks : BlockMap) → IsWriteOnce score_of blocks → AreGiven (byte blocks) from bytes)
      → ((blocks : BlockMap) → way blocks ≡ [])
      → AppendsRange does score_of e s s byte way from len old new result
  known s byte way from len old new bytes (Ok done) appended whole given none = record {
    calls = [];
    made = refl;
    gets = tt;
    refused = refl;
    about = tt;
    bad = tt;
    bytes = bytes;
    appended = (appended, whole);
    asked = λ blocks once tells. sym (none blocks);
    gives = λ blocks once tells. (whole, given blocks once);
  }
  known s byte way from len old new bytes (Err err) appended whole given none =
      subst (λ (x : TreeErr). AppendsRange does score_of e s s byte way from len old new (Err x))
      (sym appended) (nothing_read s byte way from len old new)

  -- the same, by another name of the blocks asked for
  pub same_way : (s s' : S) (byte : BlockMap → ℕ → Result ℕ ContentError)
      (way other : BlockMap → List Operation) (from len : ℕ) (old new : List ℕ)
      (result : Result (Unit {0}) TreeErr)
      → ((blocks : BlockMap) → way blocks ≡ other blocks)
      → AppendsRange does score_of e s s' byte way from len old new result
      → AppendsRange does score_of e s s' byte other from len old new result
  same_way s s' byte way other from len old new result same part = record {
    calls = part.calls;
    made = part.made;
    gets = part.gets;
    refused = part.refused;
    about = part.about;
    bad = part.bad;
    bytes = part.bytes;
    appended = part.appended;
    asked = λ blocks once tells. subst (AsksFor result (map asked_of part.calls)) (same blocks)
        (part.asked blocks once tells);
    gives = part.gives;
  }

  -- the same, where other bytes from another place on are the same
  pub same_bytes : (s s' : S) (f g : BlockMap → ℕ → Result ℕ ContentError)
      (way : BlockMap → List Operation) (a b len : ℕ) (old new : List ℕ)
      (result : Result (Unit {0}) TreeErr)
      → ((blocks : BlockMap) (i : ℕ) → i < len → f blocks (a + i) ≡ g blocks (b + i))
      → AppendsRange does score_of e s s' g way b len old new result
      → AppendsRange does score_of e s s' f way a len old new result
  same_bytes s s' f g way a b len old new result same part = record {
    calls = part.calls;
    made = part.made;
    gets = part.gets;
    refused = part.refused;
    about = part.about;
    bad = part.bad;
    bytes = part.bytes;
    appended = part.appended;
    asked = part.asked;
    gives = λ blocks once tells. gives_there (f blocks) (g blocks) a b len (same blocks)
        (answered_bytes result part.bytes) (part.gives blocks once tells);
  }

  -- one part was read, and then a second one
  pub joined : (s mid s' : S) (byte : BlockMap → ℕ → Result ℕ ContentError)
      (way more : BlockMap → List Operation) (from n m : ℕ) (old half new : List ℕ)
      → AppendsRange does score_of e s mid byte way from n old half (Ok tt)
      → AppendsRange does score_of e mid s' byte more (from + n) m half new (Ok tt)
      → AppendsRange does score_of e s s' byte (λ blocks. way blocks ++ more blocks) from (n + m) old new
      (Ok tt)
  joined s mid s' byte way more from n m old half new one two = record {
    calls = one.calls ++ two.calls;
    made = makes_more does s mid s' one.calls two.calls one.made two.made;
    gets = all_join IsGet one.calls two.calls one.gets two.gets;
    refused = accepted_join one.calls two.calls one.refused two.refused;
    about = tt;
    bad = tt;
    bytes = one.bytes ++ two.bytes;
    appended = (
      two.appended.0 ∙ ap (λ (l : List ℕ). l ++ two.bytes) one.appended.0
          ∙ append_assoc old one.bytes two.bytes,
      omega (arith, length-append one.bytes two.bytes, one.appended.1, two.appended.1),
    );
    asked = λ blocks once tells.
        map-append asked_of one.calls two.calls
        ∙ (λ i. one.asked blocks once (all_first (TellsOfMap score_of blocks) one.calls two.calls tells)
        i
        ++ two.asked blocks once (all_then (TellsOfMap score_of blocks) one.calls two.calls tells) i);
    gives = λ blocks once tells.
        gives_more (byte blocks) from n m one.bytes (Ok two.bytes) one.appended.1
        (one.gives blocks once (all_first (TellsOfMap score_of blocks) one.calls two.calls tells)).1
        (two.gives blocks once (all_then (TellsOfMap score_of blocks) one.calls two.calls tells));
  }

  -- one part was read, and the second one was given up
  pub given_up : (s mid s' : S) (byte : BlockMap → ℕ → Result ℕ ContentError)
      (way more all : BlockMap → List Operation) (from n m len : ℕ) (old half new : List ℕ)
      (err : TreeErr) → n + m ≤ len
      → ((blocks : BlockMap) → (rest : List Operation)
      × ((way blocks ++ more blocks) ++ rest ≡ all blocks))
      → AppendsRange does score_of e s mid byte way from n old half (Ok tt)
      → AppendsRange does score_of e mid s' byte more (from + n) m half new (Err err)
      → AppendsRange does score_of e s s' byte all from len old new (Err err)
  given_up s mid s' byte way more all from n m len old half new err within begins one two = record {
    calls = one.calls ++ two.calls;
    made = makes_more does s mid s' one.calls two.calls one.made two.made;
    gets = all_join IsGet one.calls two.calls one.gets two.gets;
    refused = ends_more (refused_by {X = Unit {0}} (Err err)) one.calls two.calls one.refused
        two.refused;
    about = two.about;
    bad = badly_more {X = Unit {0}} e (Err err) one.calls two.calls two.bad;
    bytes = [];
    appended = tt;
    asked = λ blocks once tells.
        let first = one.asked blocks once
        (all_first (TellsOfMap score_of blocks) one.calls two.calls tells) in
        let then = two.asked blocks once
        (all_then (TellsOfMap score_of blocks) one.calls two.calls tells) in (
          then.0 ++ (begins blocks).0,
          ap (λ (l : List Operation). l ++ (then.0 ++ (begins blocks).0))
              (map-append asked_of one.calls two.calls)
              ∙ regroup (map asked_of one.calls) (map asked_of two.calls) then.0 (begins blocks).0
              ∙ (λ i. (first i ++ then.1 i) ++ (begins blocks).0) ∙ (begins blocks).1,
        );
    gives = λ blocks once tells.
        subst (λ (k : ℕ). GivesBytes (byte blocks) from k (Err err)) (sum within)
        (gives_no_more (byte blocks) from (n + m) (len - (n + m)) err
        (gives_more (byte blocks) from n m one.bytes (Err err) one.appended.1
        (one.gives blocks once (all_first (TellsOfMap score_of blocks) one.calls two.calls tells)).1
        (two.gives blocks once (all_then (TellsOfMap score_of blocks) one.calls two.calls tells))));
  }
    where
      sum : n + m ≤ len → n + m + (len - (n + m)) ≡ len
      sum few = omega arith

      regroup : (a b c d : List Operation) → (a ++ b) ++ (c ++ d) ≡ (a ++ (b ++ c)) ++ d
      regroup a b c d = simp append_assoc

  -- a part that was given up is where the whole was
  pub cut_short : (s s' : S) (byte : BlockMap → ℕ → Result ℕ ContentError)
      (way : BlockMap → List Operation) (from n len : ℕ) (old new : List ℕ) (err : TreeErr)
      → n ≤ len → AppendsRange does score_of e s s' byte way from n old new (Err err)
      → AppendsRange does score_of e s s' byte way from len old new (Err err)
  cut_short s s' byte way from n len old new err within part = record {
    calls = part.calls;
    made = part.made;
    gets = part.gets;
    refused = part.refused;
    about = part.about;
    bad = part.bad;
    bytes = [];
    appended = tt;
    asked = part.asked;
    gives = λ blocks once tells.
        subst (λ (k : ℕ). GivesBytes (byte blocks) from k (Err err)) (sum within)
        (gives_no_more (byte blocks) from n (len - n) err (part.gives blocks once tells));
  }
    where
      sum : n ≤ len → n + (len - n) ≡ len
      sum few = omega arith

  -- ---- a block, and what it leads to

  -- a block came, and the rest was read by it
  pub behind_block : (s mid s' : S) (kind : ℕ) (score block : List ℕ)
      (byte by_block : BlockMap → ℕ → Result ℕ ContentError) (way more : BlockMap → List Operation)
      (from len : ℕ) (old new : List ℕ) (result : Result (Unit {0}) TreeErr)
      → ((blocks : BlockMap) → blocks score kind ≡ Some block → (i : ℕ) → i < len
      → byte blocks (from + i) ≡ by_block blocks (from + i))
      → ((blocks : BlockMap) → blocks score kind ≡ Some block
      → way blocks ≡ read score kind MAX_BLOCK ∷ more blocks)
      → does s (get kind score (Ok block)) mid
      → AppendsRange does score_of e mid s' by_block more from len old new result
      → AppendsRange does score_of e s s' byte way from len old new result
  behind_block s mid s' kind score block byte by_block way more from len old new result same goes
      got part = record {
        calls = get kind score (Ok block) ∷ part.calls;
        made = (mid, got, part.made);
        gets = (tt, part.gets);
        refused = ends_more (refused_by result) (get kind score (Ok block) ∷ []) part.calls refl
            part.refused;
        about = part.about;
        bad = badly_more e result (get kind score (Ok block) ∷ []) part.calls part.bad;
        bytes = part.bytes;
        appended = part.appended;
        asked = λ blocks once tells. subst
            (AsksFor result (read score kind MAX_BLOCK ∷ map asked_of part.calls))
            (sym (goes blocks tells.0))
            (one_more result (read score kind MAX_BLOCK) (map asked_of part.calls) (more blocks)
            (part.asked blocks once tells.1));
        gives = λ blocks once tells. gives_there (byte blocks) (by_block blocks) from from len
            (same blocks tells.0) (answered_bytes result part.bytes) (part.gives blocks once tells.1);
      }
    where
      one_more : (r : Result (Unit {0}) TreeErr) (x : Operation) (asked wanted : List Operation)
          → AsksFor r asked wanted → AsksFor r (x ∷ asked) (x ∷ wanted)
      one_more (Ok done) x asked wanted are = ap (λ (l : List Operation). x ∷ l) are
      one_more (Err err) x asked wanted are =
          (are.0, ap (λ (l : List Operation). x ∷ l) are.1)

  -- a trouble of the first byte
  at_first : (byte : ℕ → Result ℕ ContentError) (from len : ℕ) (trouble : ContentError) → 0 < len
      → byte from ≡ Err trouble → FirstTrouble byte from len trouble
  at_first byte from len trouble some is = record {
    place = 0;
    within = some;
    has = ap byte (no_more from) ∙ is;
    before = λ k below. absurd (omega arith);
  }
    where
      no_more : (n : ℕ) → n + 0 ≡ n
      no_more n = omega arith

  -- no block came, or one that doesn't fit
  pub no_block_came : (s s' : S) (depth kind : ℕ) (score : List ℕ)
      (byte : BlockMap → ℕ → Result ℕ ContentError) (way : BlockMap → List Operation) (from len : ℕ)
      (old new : List ℕ) (err : TreeErr) → 0 < len
      → ((blocks : BlockMap) → blocks score kind ≡ None → byte blocks from ≡ Err Absent)
      → ((blocks : BlockMap) (block : List ℕ) → blocks score kind ≡ Some block
      → fits_at e depth block ≡ false
      → byte blocks from ≡ Err (BadBlock depth (length block)))
      → ((blocks : BlockMap) → (rest : List Operation)
      × (read score kind MAX_BLOCK ∷ rest ≡ way blocks))
      → ReadsBlock does s s' e depth kind score (Err err)
      → AppendsRange does score_of e s s' byte way from len old new (Err err)
  no_block_came s s' depth kind score byte way from len old new (errs.Block err) some absent bad
      begins asked = record {
        calls = get kind score (Err err) ∷ [];
        made = makes_one does s s' (get kind score (Err err)) asked;
        gets = (tt, tt);
        refused = record {
          before = [];
          last = get kind score (Err err);
          are = refl;
          accepted = refl;
          refused = refl;
        };
        about = λ of_entry. of_entry;
        bad = tt;
        bytes = [];
        appended = tt;
        asked = λ blocks once tells. begins blocks;
        gives = λ blocks once tells refused.
            at_first (byte blocks) from len Absent some (absent blocks (tells.0 refused));
      }
  no_block_came s s' depth kind score byte way from len old new (errs.BadBlock at size) some
      absent bad begins asked = record {
        calls = get kind score (Ok asked.0) ∷ [];
        made = makes_one does s s' (get kind score (Ok asked.0)) asked.1;
        gets = (tt, tt);
        refused = refl;
        about = λ of_entry. of_entry;
        bad = record {
          before = [];
          kind = kind;
          score = score;
          block = asked.0;
          are = refl;
          unfit = ap (λ (k : ℕ). fits_at e k asked.0) asked.3 ∙ asked.2;
          len_is = asked.4;
        };
        bytes = [];
        appended = tt;
        asked = λ blocks once tells. begins blocks;
        gives = λ blocks once tells.
            at_first (byte blocks) from len (BadBlock at size) some
            (bad blocks asked.0 tells.0 asked.2
            ∙ (λ i. Err (BadBlock (sym asked.3 i) (sym asked.4 i))));
      }
  no_block_came s s' depth kind score byte way from len old new errs.SourceFault some absent bad
      begins asked = absurd asked
  no_block_came s s' depth kind score byte way from len old new (errs.BadEntry field) some absent
      bad begins asked = absurd asked
  no_block_came s s' depth kind score byte way from len old new errs.TooLong some absent bad
      begins asked = absurd asked
  no_block_came s s' depth kind score byte way from len old new errs.NoMemory some absent bad
      begins asked = absurd asked

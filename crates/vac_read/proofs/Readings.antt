-- Readings one after another.
use Rattle.std.proofs.Common.{◌≡◌, ℕ, Result, Ok, Err, Some, None, List, [], ◌∷◌, ◌++◌, length, refl, sym, subst}
use Rattle.std.specs.Prelude.{IfErr}
use Rattle.vt_tree.specs.declared.entry.Entry.{Entry}
use Rattle.vt_tree.specs.declared.error.BlockErr.{BlockErr}
use Rattle.vt_tree.specs.declared.error.TreeErr.{TreeErr}
use Rattle.vt_tree.specs.declared.error.TreeErr.TheVariants as trees
use Rattle.vt_tree.specs.Calls.{Call, get, IsGet, TellsOfMap, after}
use Rattle.vt_tree.specs.Content.{byte_of, AreGiven}
use Rattle.vt_tree.specs.Making.{EndsBy}
use Rattle.vt_tree.specs.Maps.{BlockMap, Maps}
use Rattle.vt_tree.specs.Reading.{GivesBytes, IsOfEntry, ReadsRange, unfit}
use Rattle.vt_tree.proofs.Appending.{all_join, all_first, all_then, ends_more}
use Rattle.vt_tree.proofs.Making.{makes_more, makes_one}
use Rattle.vac_read.specs.declared.error.VacBad.{VacBad}
use Rattle.vac_read.specs.declared.error.VacBad.TheVariants.{Tree}
use Rattle.vac_read.specs.Broken.{IsUnread}
use Rattle.vac_read.specs.Reading.{ReadsArchive, AnswersOrTells, refused_by, of_tree, IsAbsentBlock}

-- what a reading of a stream tells
abbrev pub TellsRange : Entry → (at len : ℕ) → Result (List ℕ) VacBad → BlockMap → Type 0
TellsRange e at len result map =
    AnswersOrTells result (λ bytes. (length bytes ≡ len) × AreGiven (byte_of map e) at bytes)
    (IsUnread map e at len)

-- what asking for a block tells
abbrev pub TellsBlock : (score : List ℕ) → (kind : ℕ) → Result (List ℕ) VacBad → BlockMap → Type 0
TellsBlock score kind result map =
    AnswersOrTells result (λ bytes. map score kind ≡ Some bytes) (IsAbsentBlock map score kind)

-- what asking for a block answered, as a reader of an archive answers it
abbrev pub of_block : Result (List ℕ) BlockErr → Result (List ℕ) VacBad
of_block (Ok bytes) = Ok bytes
of_block (Err err) = Err (Tree (trees.Block err))

module _ {S : Type 0} (does : S → Call → S → Type 0) (holds : S → Maps → Type 0)
    (score_of : List ℕ → List ℕ) where
  -- nothing was asked for
  pub reads_nothing : {X : Type 0} (s : S) (result : Result X VacBad) (right : BlockMap → Type 0)
      → refused_by result ≡ None → ((map : BlockMap) → right map)
      → ReadsArchive does holds score_of s s result right
  reads_nothing s result right none all = record {
    calls = [];
    made = refl;
    gets = tt;
    refused = subst (λ o. EndsBy o []) (sym none) refl;
    right = λ map once tells. all map;
    held = λ m held. (held, all m.held);
  }

  -- the same calls, said of another answer
  pub reads_as : {X Y : Type 0} (s s' : S) (result : Result X VacBad) (other : Result Y VacBad)
      (P Q : BlockMap → Type 0) → refused_by other ≡ refused_by result
      → ReadsArchive does holds score_of s s' result P → ((map : BlockMap) → P map → Q map)
      → ReadsArchive does holds score_of s s' other Q
  reads_as s s' result other P Q same first then = record {
    calls = first.calls;
    made = first.made;
    gets = first.gets;
    refused = subst (λ o. EndsBy o first.calls) (sym same) first.refused;
    right = λ map once tells. then map (first.right map once tells);
    held = λ m held. let h = first.held m held in (h.0, then m.held h.1);
  }

  -- two readings, of which the first went well, and what is answered of both
  pub reads_then : {X Y Z : Type 0} (a b c : S) (x : X) (result : Result Y VacBad)
      (other : Result Z VacBad) (P Q R : BlockMap → Type 0)
      → refused_by other ≡ refused_by result
      → ReadsArchive does holds score_of a b (Ok x) P → ReadsArchive does holds score_of b c result Q
      → ((map : BlockMap) → P map → Q map → R map)
      → ReadsArchive does holds score_of a c other R
  reads_then a b c x result other P Q R same first second join = record {
    calls = first.calls ++ second.calls;
    made = makes_more does a b c first.calls second.calls first.made second.made;
    gets = all_join IsGet first.calls second.calls first.gets second.gets;
    refused = ends_more (refused_by other) first.calls second.calls first.refused
        (subst (λ o. EndsBy o second.calls) (sym same) second.refused);
    right = λ map once tells. join map
        (first.right map once (all_first (TellsOfMap score_of map) first.calls second.calls tells))
        (second.right map once (all_then (TellsOfMap score_of map) first.calls second.calls tells));
    held = λ m held.
        let f = first.held m held in
        let t = second.held m f.0 in
        (t.0, join m.held f.1 t.1);
  }

  pub range_refused : (result : Result (List ℕ) TreeErr) (s s' : S) (e : Entry) (at len : ℕ)
      → (reads : ReadsRange does score_of s s' e at len result)
      → EndsBy (refused_by (of_tree result)) reads.calls
  range_refused (Ok bytes) s s' e at len reads = reads.refused
  range_refused (Err err) s s' e at len reads = reads.refused

  pub given : (result : Result (List ℕ) TreeErr) (map : BlockMap) (e : Entry) (at len : ℕ)
      → IfErr result (λ err. IsOfEntry err → unfit e ≡ Some err)
      → GivesBytes (byte_of map e) at len result → TellsRange e at len (of_tree result) map
  given (Ok bytes) map e at len fit gives = gives
  given (Err err) map e at len fit gives = λ some. (gives, fit)

  -- a part of a stream
  pub range_told : (s s' : S) (e : Entry) (at len : ℕ) (result : Result (List ℕ) TreeErr)
      → IfErr result (λ err. IsOfEntry err → unfit e ≡ Some err)
      → ReadsRange does score_of s s' e at len result
      → ((m : Maps) → holds s m → holds s' m × GivesBytes (byte_of m.held e) at len result)
      → ReadsArchive does holds score_of s s' (of_tree result) (TellsRange e at len (of_tree result))
  range_told s s' e at len result fit reads content = record {
    calls = reads.calls;
    made = reads.made;
    gets = reads.gets;
    refused = range_refused result s s' e at len reads;
    right = λ map once tells. given result map e at len fit (reads.gives map once tells);
    held = λ m held.
        let c = content m held in (c.0, given result m.held e at len fit c.1);
  }

  block_refused : (result : Result (List ℕ) BlockErr) (score : List ℕ) (kind : ℕ)
      → EndsBy (refused_by (of_block result)) (get kind score result ∷ [])
  block_refused (Ok bytes) score kind = refl
  block_refused (Err err) score kind = record {
    before = [];
    last = get kind score (Err err);
    are = refl;
    accepted = refl;
    refused = refl;
  }

  block_is : (result : Result (List ℕ) BlockErr) (map : BlockMap) (score : List ℕ) (kind : ℕ)
      → TellsOfMap score_of map (get kind score result)
      → TellsBlock score kind (of_block result) map
  block_is (Ok bytes) map score kind tells = tells
  block_is (Err err) map score kind tells = λ some. tells

  -- one block
  pub block_told : (law : (s s' : S) (call : Call) (m : Maps) → does s call s' → holds s m
      → TellsOfMap score_of m.held call × holds s' (after score_of call m))
      → (s s' : S) (score : List ℕ) (kind : ℕ) (result : Result (List ℕ) BlockErr)
      → does s (get kind score result) s'
      → ReadsArchive does holds score_of s s' (of_block result) (TellsBlock score kind (of_block result))
  block_told law s s' score kind result done = record {
    calls = get kind score result ∷ [];
    made = makes_one does s s' (get kind score result) done;
    gets = (tt, tt);
    refused = block_refused result score kind;
    right = λ map once tells. block_is result map score kind tells.0;
    held = λ m held.
        let told = law s s' (get kind score result) m done held in
        (told.1, block_is result m.held score kind told.0);
  }

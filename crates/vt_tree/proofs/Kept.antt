-- What a stream that was written, or given up, leaves in a store.
use Rattle.std.proofs.Common.{◌≡◌, ℕ, ◌+◌, ◌<◌, ◌≤◌, ◌^◌, Bool, true, false, cond, IsTrue, Some, None, List, [], ◌++◌, length, map, refl, sym, ◌∙◌, ap, subst, arith, append-nil, length-append}
use Rattle.std.specs.Prelude.{nat_lt, not}
use Rattle.std.proofs.lemmas.Bool.{le-ltb}
use Rattle.vt_base.specs.Bytes.{AreBytes}
use Rattle.vt_base.specs.declared.score.Score.{Score}
use Rattle.vt_model.specs.History.{Block}
use Rattle.vt_tree.specs.declared.entry.Entry.{Entry}
use Rattle.vt_tree.specs.declared.entry.EntryField.TheVariants.{PSize, DSize}
use Rattle.vt_tree.specs.declared.error.TreeErr.{TreeErr}
use Rattle.vt_tree.specs.declared.error.TreeErr.TheVariants as errs
use Rattle.vt_tree.specs.Calls.{Call, after, asked_of, refusals_of, write_of_block, TellsOfMap}
use Rattle.vt_tree.specs.Entries.{IsTreeEntry, bad}
use Rattle.vt_tree.specs.Growing.{Next, TakesNextLeaf, StopsAhead, StopsStream, WritesTree}
use Rattle.vt_tree.specs.Making.{Makes, EndsBy}
use Rattle.vt_tree.specs.Maps.{Maps, with_blocks, IsWriteOnce}
use Rattle.vt_tree.specs.Streams.{Shape, FitsShape, entry_of_stream, stream_of}
use Rattle.vt_tree.specs.Writing.{IsTaken, IsTakenWhole, IsAll, IsGivenUpFor, KeepsStream, WritesStream, GivesUpStream}
use Rattle.vt_tree.proofs.Growth.{taken_more}
use Rattle.vt_tree.proofs.Making.{told, puts_leave, puts_are_there}
use Rattle.vt_tree.proofs.ReadBack.{depth_below_8, stream_reads_back}

module _ {S : Type 0} (does : S → Call → S → Type 0) (holds : S → Maps → Type 0)
    (score_of : List ℕ → List ℕ) (shape : Shape) (tells : Bool)
    (law : (s s' : S) (call : Call) (m : Maps) → does s call s' → holds s m
    → TellsOfMap score_of m.held call × holds s' (after score_of call m)) where
  -- the entry of a tree that was written of a stream
  abbrev pub entry_with : (depth size : ℕ) → Score → Entry
  entry_with depth size score = record {
    generation = 0;
    psize = shape.psize;
    dsize = shape.dsize;
    active = true;
    is_dir = shape.is_dir;
    depth = depth;
    size = size;
    score = score;
  }

  module _ (once : (s : S) (m : Maps) → holds s m → IsWriteOnce score_of m.held)
      (len : (block : List ℕ) → length (score_of block) ≡ 20) (fits : FitsShape shape) where
    -- a store that held a map holds the blocks that were put too, and the stream is there
    keeps : (s s' : S) (calls : List Call) (bytes : List ℕ) → length bytes ≤ 2 ^ 40
        → Makes does s calls s' → refusals_of calls ≡ []
        → map asked_of calls ≡ map write_of_block (stream_of score_of shape bytes).blocks
        → (m : Maps) → holds s m
        → KeepsStream holds score_of s' m (stream_of score_of shape bytes).blocks
        (entry_of_stream score_of shape bytes) bytes
    keeps s s' calls bytes most made accepted puts m held =
        let blocks : List Block = (stream_of score_of shape bytes).blocks in
        let after : Maps = record m { held = with_blocks score_of blocks m.held } in
        let known = told does holds score_of law s s' calls m made held in
        let there : holds s' after =
        subst (λ (x : Maps). holds s' x) (puts_leave score_of calls blocks m puts accepted)
        known.1 in
        record {
          held = there;
          content = stream_reads_back score_of after.held shape bytes len (once s' after there) fits
              most (puts_are_there score_of calls blocks m puts accepted known.0);
        }

    pub stream_written : (s s' : S) (next new : Next) (a b c : List ℕ) (depth : ℕ) (score : Score)
        → next.size ≡ length next.leaf → IsTaken tells a b next.leaf → (IsTrue tells → c ≡ [])
        → WritesTree does score_of s s' shape next new (IsTaken tells b c) depth score
        → WritesStream does holds score_of s s' shape (IsTakenWhole tells a c)
        (entry_with depth new.size score)
    stream_written s s' next new a b c depth score size first end w = record {
      bytes = next.leaf ++ w.bytes;
      is_taken = record {
        front = taken_more tells a b c next.leaf w.bytes first w.is_taken;
        end = end;
      };
      most = most;
      entry_is = entry_is;
      calls = w.calls;
      made = w.made;
      accepted = w.accepted;
      puts = w.puts;
      keeps = λ m held.
          subst (λ (e : Entry). KeepsStream holds score_of s' m
          (stream_of score_of shape (next.leaf ++ w.bytes)).blocks e (next.leaf ++ w.bytes))
          (sym entry_is)
          (keeps s s' w.calls (next.leaf ++ w.bytes) most w.made w.accepted w.puts m held);
    }
      where
        size_is : new.size ≡ length (next.leaf ++ w.bytes)
        size_is = omega (arith, w.size, size, length-append next.leaf w.bytes)

        most : length (next.leaf ++ w.bytes) ≤ 2 ^ 40
        most = omega (arith, size_is, w.most)

        entry_is : entry_with depth new.size score ≡ entry_of_stream score_of shape (next.leaf ++ w.bytes)
        entry_is = λ i. entry_with (w.depth_is i) (size_is i) (record { 0 = w.score_is i })

    pub depth_small : (s s' : S) (next new : Next) (b c : List ℕ) (depth : ℕ) (score : Score)
        → next.size ≡ length next.leaf
        → WritesTree does score_of s s' shape next new (IsTaken tells b c) depth score → depth < 8
    depth_small s s' next new b c depth score size w =
        let most : length (next.leaf ++ w.bytes) ≤ 2 ^ 40 =
        omega (arith, w.size, size, w.most, length-append next.leaf w.bytes) in
        omega (arith, depth_below_8 shape (length (next.leaf ++ w.bytes)) fits most, w.depth_is)

  -- ---- where it is given up

  -- before anything was put
  pub stream_not_begun : (s : S) (next : Next) (a : List ℕ) (err : TreeErr) → next.size ≡ 0
      → StopsAhead next (IsAll tells a) err
      → GivesUpStream does holds score_of s s shape (IsAll tells a) err
  stream_not_begun s next a err size t = record {
    bytes = t.bytes;
    is = t.is_coming;
    cause = subst (λ (n : ℕ). IsGivenUpFor err n) (ap (λ (n : ℕ). n + length t.bytes) size
        ∙ from_zero (length t.bytes)) t.cause;
    calls = [];
    made = refl;
    refused = subst (λ o. EndsBy o []) (sym t.own) refl;
    rest = (stream_of score_of shape t.bytes).blocks;
    puts = refl;
    keeps = λ m held. held;
  }
    where
      from_zero : (n : ℕ) → 0 + n ≡ n
      from_zero n = omega arith

  -- memory is short before anything was taken
  pub stream_no_memory : (s : S) (a : List ℕ) → AreBytes a
      → GivesUpStream does holds score_of s s shape (IsAll tells a) errs.NoMemory
  stream_no_memory s a are = record {
    bytes = a;
    is = record {
      bytes = are;
      front = λ told. sym (append-nil a);
    };
    cause = tt;
    calls = [];
    made = refl;
    refused = refl;
    rest = (stream_of score_of shape a).blocks;
    puts = refl;
    keeps = λ m held. held;
  }

  pub stream_given_up : (s s' : S) (next : Next) (a b : List ℕ) (err : TreeErr)
      → next.size ≡ length next.leaf → IsTaken tells a b next.leaf
      → StopsStream does score_of s s' shape next (IsAll tells b) err
      → GivesUpStream does holds score_of s s' shape (IsAll tells a) err
  stream_given_up s s' next a b err size first t = record {
    bytes = next.leaf ++ t.bytes;
    is = taken_more tells a b [] next.leaf t.bytes first t.is_coming;
    cause = subst (λ (n : ℕ). IsGivenUpFor err n)
        (ap (λ (n : ℕ). n + length t.bytes) size ∙ sym (length-append next.leaf t.bytes)) t.cause;
    calls = t.calls;
    made = t.made;
    refused = t.refused;
    rest = t.rest;
    puts = t.puts;
    keeps = λ m held. (told does holds score_of law s s' t.calls m t.made held).1;
  }

-- ---- the first leaf, and the entry

-- a stream begins with its first leaf
pub first_taken : (tells : Bool) (dsize : ℕ) (none next : Next) (a b : List ℕ)
    → none ≡ record { leaf = []; ended = false; size = 0 }
    → TakesNextLeaf dsize none next (IsTaken tells a b)
    → (next.size ≡ length next.leaf) × IsTaken tells a b next.leaf
first_taken tells dsize none next a b is t = (
  omega (arith, t.size, ap (λ (n : Next). n.size) is, ap length t.leaf),
  subst (λ (l : List ℕ). IsTaken tells a b l) (sym t.leaf) t.is_taken,
)

not_below : (a b : ℕ) → b ≤ a → nat_lt a b ≡ false
not_below a b least = le-ltb a b least

-- the entry may stand in a directory
pub entry_stands : (e : Entry) → e.generation ≡ 0 → e.depth < 8 → e.size ≤ 2 ^ 40
    → 500 ≤ e.psize → e.psize ≤ 57344 → 480 ≤ e.dsize → e.dsize ≤ 57344
    → length e.score.0 ≡ 20 → IsTreeEntry e
entry_stands e generation depth size p_least p_most d_least d_most score = record {
  fits = record {
    depth = depth;
    size = omega (arith, size);
  };
  ranges = record {
    generation = omega (arith, generation);
    psize = omega (arith, p_most);
    dsize = omega (arith, d_most);
    score = score;
  };
  allowed = either e.active;
}
  where
    least_of : (dir : Bool) → nat_lt e.dsize (cond dir 40 1) ≡ false
    least_of true = not_below e.dsize 40 (omega arith)
    least_of false = not_below e.dsize 1 (omega arith)

    either : (active : Bool) → cond (not active) None
        (cond (nat_lt e.psize 20) (Some (bad PSize e.psize))
        (cond (nat_lt e.dsize (cond e.is_dir 40 1)) (Some (bad DSize e.dsize)) None)) ≡ None
    either false = refl
    either true = λ i. cond (not_below e.psize 20 (omega arith) i) (Some (bad PSize e.psize))
        (cond (least_of e.is_dir i) (Some (bad DSize e.dsize)) None)

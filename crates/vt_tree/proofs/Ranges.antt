-- What is read of a file, as its caller is told.
use Rattle.std.proofs.Common.{◌≡◌, ℕ, Result, Ok, Err, List, [], ◌++◌, refl, sym, ◌∙◌, ap, subst}
use Rattle.vt_tree.specs.declared.entry.Entry.{Entry}
use Rattle.vt_tree.specs.declared.error.TreeErr.{TreeErr}
use Rattle.vt_tree.specs.declared.plain.ContentError.{ContentError}
use Rattle.vt_tree.specs.Calls.{Call, TellsOfMap, after}
use Rattle.vt_tree.specs.Content.{byte_of, way_to}
use Rattle.vt_tree.specs.Making.{EndsBy}
use Rattle.vt_tree.specs.Maps.{Maps, IsWriteOnce}
use Rattle.vt_tree.specs.Reading.{EndsBadlyBy, GivesBytes, ReadsRange, refusal_in}
use Rattle.vt_tree.specs.Walking.{ReadsFile}
use Rattle.vt_tree.proofs.Making.{gets_leave, gets_tell, told}

module _ {S : Type 0} (does : S → Call → S → Type 0) (score_of : List ℕ → List ℕ) where
  -- nothing was asked for
  pub unread : (s : S) (e : Entry) (at len : ℕ) (err : TreeErr)
      → EndsBy (refusal_in err) [] → EndsBadlyBy e err []
      → ((byte : ℕ → Result ℕ ContentError) → GivesBytes byte at len (Err err))
      → ReadsRange does score_of s s e at len (Err err)
  unread s e at len err ends bad gives = record {
    calls = [];
    made = refl;
    gets = tt;
    refused = ends;
    bad = bad;
    asked = λ blocks once tells. (way_to (score_of []) blocks e at len, refl);
    gives = λ blocks once tells. gives (byte_of blocks e);
  }

  -- into an empty buffer
  pub range_read : (s s' : S) (e : Entry) (at len n : ℕ) (old new bytes : List ℕ) → old ≡ []
      → len ≡ n → bytes ≡ new → ReadsFile does score_of s s' e at len old new (Ok tt)
      → ReadsRange does score_of s s' e at n (Ok bytes)
  range_read s s' e at len n old new bytes none is same part =
      subst (λ (k : ℕ). ReadsRange does score_of s s' e at k (Ok bytes)) is
      (subst (λ (l : List ℕ). ReadsRange does score_of s s' e at len (Ok l)) (sym all) (record {
        calls = part.calls;
        made = part.made;
        gets = part.gets;
        refused = part.refused;
        bad = tt;
        asked = part.asked;
        gives = part.gives;
      }))
    where
      all : bytes ≡ part.bytes
      all = same ∙ part.appended.0 ∙ ap (λ (l : List ℕ). l ++ part.bytes) none

  pub range_given_up : (s s' : S) (e : Entry) (at len n : ℕ) (old new : List ℕ) (err : TreeErr)
      → len ≡ n → ReadsFile does score_of s s' e at len old new (Err err)
      → ReadsRange does score_of s s' e at n (Err err)
  range_given_up s s' e at len n old new err is part =
      subst (λ (k : ℕ). ReadsRange does score_of s s' e at k (Err err)) is (record {
        calls = part.calls;
        made = part.made;
        gets = part.gets;
        refused = part.refused;
        bad = part.bad;
        asked = part.asked;
        gives = part.gives;
      })

  -- what a store holds is read
  pub content_told : (holds : S → Maps → Type 0)
      (law : (s s' : S) (call : Call) (m : Maps) → does s call s' → holds s m
      → TellsOfMap score_of m.held call × holds s' (after score_of call m))
      (once : (s : S) (m : Maps) → holds s m → IsWriteOnce score_of m.held)
      (s s' : S) (e : Entry) (at len : ℕ) (result : Result (List ℕ) TreeErr)
      → ReadsRange does score_of s s' e at len result → (m : Maps) → holds s m
      → holds s' m × GivesBytes (byte_of m.held e) at len result
  content_told holds law once s s' e at len result range m held =
      let all = told does holds score_of law s s' range.calls m range.made held in (
        subst (holds s') (gets_leave score_of range.calls m range.gets) all.1,
        range.gives m.held (once s m held)
            (gets_tell score_of range.calls m range.gets all.0),
      )

-- What a reader of an archive answers.
use Rattle.std.specs.Prelude.{ℕ, ◌≡◌, ◌≢◌, ◌-◌, ◌⊎◌, min, IfErr, Option, Some, None, Result, Ok, Err, List, [], ◌∷◌}
use Rattle.std.specs.List.{AllByRecursion}
use Rattle.vt_tree.specs.declared.entry.Entry.{Entry}
use Rattle.vt_tree.specs.declared.error.BlockErr.{BlockErr}
use Rattle.vt_tree.specs.declared.error.TreeErr.{TreeErr}
use Rattle.vt_tree.specs.declared.error.TreeErr.TheVariants as trees
use Rattle.vt_tree.specs.Calls.{Call, IsGet, IsBlockRefusal, TellsOfMap}
use Rattle.vt_tree.specs.Making.{Makes, EndsBy}
use Rattle.vt_tree.specs.Maps.{BlockMap, Maps, IsWriteOnce}
use Rattle.vt_tree.specs.Content.{size_of, byte_of}
use Rattle.vt_tree.specs.Reading.{refusal_in, GivesBytes, ReadsRange, IsOfEntry, unfit}
use Rattle.vac_model.specs.Trees.{IsArchive}
use Rattle.vac_read.specs.declared.archive.Archive.{Archive}
use Rattle.vac_read.specs.declared.error.RootField.{RootField}
use Rattle.vac_read.specs.declared.error.VacBad.{VacBad}
use Rattle.vac_read.specs.declared.error.VacBad.TheVariants.{Tree, Root, Meta, NoMemory}
use Rattle.vac_read.specs.declared.node.Node.{Node}
use Rattle.vac_read.specs.declared.node.Stored.{Stored}
use Rattle.vac_read.specs.declared.node.Stored.TheVariants as stored
use Rattle.vac_read.specs.Broken.{IsBroken, IsUnfound, root_flaw, AreNoEntries}
use Rattle.vac_read.specs.Nodes.{Lists, FindsNode, Leads, IsTop}

-- ---- one call

-- the refusal of a call of the store that is handed on, if one is
abbrev pub refusal_of : VacBad → Option BlockErr
refusal_of (Tree err) = refusal_in err
refusal_of (Root field) = None
refusal_of (Meta at) = None
refusal_of NoMemory = None

-- why the store of blocks refused a block, if that is what failed
abbrev pub refused_by : {X : Type 0} → Result X VacBad → Option BlockErr
refused_by (Ok x) = None
refused_by (Err bad) = refusal_of bad

-- Blocks were asked for and nothing else, and none was refused but the last, where that is told; by
-- each write-once map of which the answers are true, the answer is right; and so it is by what a
-- store tells, which holds the same afterwards.
pub record ReadsArchive {S X : Type 0} (does : S → Call → S → Type 0) (holds : S → Maps → Type 0)
    (score_of : List ℕ → List ℕ) (s s' : S) (result : Result X VacBad)
    (is_right : BlockMap → Type 0) : Type 0 where
  pub calls : List Call
  pub made : Makes does s calls s'
  pub gets : AllByRecursion IsGet calls
  pub refused : EndsBy (refused_by result) calls
  pub right : (map : BlockMap) → IsWriteOnce score_of map
      → AllByRecursion (TellsOfMap score_of map) calls → is_right map
  pub held : (m : Maps) → holds s m → holds s' m × is_right m.held

-- what is answered is this, or it isn't told for that reason, or memory was short
abbrev pub AnswersOrTells : {X : Type 0} → Result X VacBad → (is : X → Type 0)
    → (why : VacBad → Type 0)
    → Type 0
AnswersOrTells (Ok x) is why = is x
AnswersOrTells (Err bad) is why = bad ≢ NoMemory → why bad

-- ---- what is answered

-- the items of a folder
abbrev pub ListsFolder : Stored → Result (List Node) VacBad → BlockMap → Type 0
ListsFolder stored result map = AnswersOrTells result (Lists map stored) (IsBroken map stored)

-- the item of this name in a folder
abbrev pub FindsItem : Stored → (name : List ℕ) → Result (Option Node) VacBad → BlockMap → Type 0
FindsItem stored name result map =
    AnswersOrTells result (FindsNode map stored name) (IsUnfound map stored name)

-- why names lead nowhere that can be told
abbrev pub IsLost : BlockMap → Node → (names : List (List ℕ)) → VacBad → Type 0
IsLost map node [] bad = ⊥
IsLost map node (name ∷ names) bad =
    IsUnfound map node.stored name bad
    ⊎ ((next : Node) × FindsNode map node.stored name (Some next) × IsLost map next names bad)

-- what the names lead to, one behind the other from this item; or why that can't be told
abbrev pub WalksTo : Node → (names : List (List ℕ)) → Result (Option Node) VacBad → BlockMap
    → Type 0
WalksTo node names result map =
    AnswersOrTells result (Leads map (Some node) names) (IsLost map node names)

-- ---- the bytes of a file

-- what reading a stream answered, as a reader of an archive answers it
abbrev pub of_tree : {X : Type 0} → Result X TreeErr → Result X VacBad
of_tree (Ok x) = Ok x
of_tree (Err err) = Err (Tree err)

-- So many bytes of a file from a place on were read: just the blocks on the way to them were asked
-- for, or none where its entry says that nothing is read. A store that tells what it holds holds
-- the same afterwards, and the bytes are right by it.
pub record ReadsFile {S : Type 0} (does : S → Call → S → Type 0) (holds : S → Maps → Type 0)
    (score_of : List ℕ → List ℕ) (s s' : S) (e : Entry) (at len : ℕ)
    (result : Result (List ℕ) VacBad) : Type 0 where
  pub answer : Result (List ℕ) TreeErr
  pub is : result ≡ of_tree answer
  pub reads : ReadsRange does score_of s s' e at len answer
  pub held : (m : Maps) → holds s m → holds s' m × GivesBytes (byte_of m.held e) at len answer
  pub unread : (err : TreeErr) → unfit e ≡ Some err → (answer ≡ Err err) × (s' ≡ s)
  pub fit : IfErr answer (λ err. IsOfEntry err → unfit e ≡ Some err)

-- a folder has no bytes, and nothing is asked for
abbrev pub ReadsNode : {S : Type 0} → (does : S → Call → S → Type 0)
    → (holds : S → Maps → Type 0) → (score_of : List ℕ → List ℕ) → (s s' : S) → Stored → (at n : ℕ)
    → Result (List ℕ) VacBad → Type 0
ReadsNode does holds score_of s s' (stored.File e) at n result =
    ReadsFile does holds score_of s s' e at (min n (size_of e - at)) result
ReadsNode does holds score_of s s' (stored.Folder entries metadata) at n result =
    (result ≡ Ok []) × (s' ≡ s)

-- ---- roots

-- the store has no such block, or said so; a failed call may come of any map
abbrev pub IsAbsentBlock : BlockMap → (score : List ℕ) → (kind : ℕ) → VacBad → Type 0
IsAbsentBlock map score kind (Tree (trees.Block err)) = IsBlockRefusal err → map score kind ≡ None
IsAbsentBlock map score kind bad = ⊥

-- why a score is that of no archive's root
abbrev pub IsNoArchive : BlockMap → (score : List ℕ) → VacBad → Type 0
IsNoArchive map score bad =
    IsAbsentBlock map score 1 bad
    ⊎ ((field : RootField) × (bad ≡ Root field) × (bytes : List ℕ)
    × (map score 1 ≡ Some bytes) × (root_flaw bytes ≡ Some field))
    ⊎ ((top : List ℕ) × IsArchive map score top
    × (IsAbsentBlock map top 2 bad
    ⊎ ((bytes : List ℕ) × (map top 2 ≡ Some bytes) × AreNoEntries bytes bad)))

-- the archive that this score is the root of, or why there is none
abbrev pub OpensArchive : (score : List ℕ) → Result Archive VacBad → BlockMap → Type 0
OpensArchive score result map =
    AnswersOrTells result (λ a. IsTop map score a.top) (IsNoArchive map score)

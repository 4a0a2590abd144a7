-- What a part tells, said of the whole.
use Rattle.std.proofs.Common.{◌≡◌, ◌+◌, ℕ, Option, Result, Ok, Err, Some, None, true, false, List, ◌∷◌, ◌++◌, length, sym, subst, inl, inr}
use Rattle.vt_tree.specs.declared.entry.Entry.{Entry}
use Rattle.vt_tree.specs.Maps.{BlockMap}
use Rattle.vac_meta.specs.declared.record.Record.{Record}
use Rattle.vac_meta.specs.declared.record.RecordKind.{RecordKind}
use Rattle.vac_meta.specs.declared.record.RecordKind.TheVariants.{File, Folder}
use Rattle.vac_meta.specs.Records.{all_spelled, string}
use Rattle.vac_model.specs.Trees.{AreFolder, HasEntry}
use Rattle.vac_read.specs.declared.error.VacBad.{VacBad}
use Rattle.vac_read.specs.declared.node.Node.{Node}
use Rattle.vac_read.specs.declared.node.Stored.TheVariants as stored
use Rattle.vac_read.specs.Broken.{LacksEntries, LacksDirectoryEntry, LacksNode, entry_field}
use Rattle.vac_read.specs.Folders.{TellsNamed, TellsNodes}
use Rattle.vac_read.specs.Nodes.{AreNodes, IsFoundItem, IsStoredNode, named}
use Rattle.vac_read.specs.Reading.{FindsItem, ListsFolder}

-- ---- the entries of a record

module _ (map : BlockMap) (stream old : Entry) (kind : RecordKind) (n i field : ℕ)
    (number : n ≡ i) (bad : VacBad)
  where
    pub lacks_file : kind ≡ File → LacksDirectoryEntry map stream n false field bad
        → LacksEntries map stream kind i field bad
    lacks_file is lacks =
        subst (λ (k : RecordKind). LacksEntries map stream k i field bad) (sym is)
        (subst (λ (j : ℕ). LacksDirectoryEntry map stream j false field bad) number lacks)

    pub lacks_first : kind ≡ Folder → LacksDirectoryEntry map stream n true field bad
        → LacksEntries map stream kind i field bad
    lacks_first is lacks =
        subst (λ (k : RecordKind). LacksEntries map stream k i field bad) (sym is)
        (inl (subst (λ (j : ℕ). LacksDirectoryEntry map stream j true field bad) number lacks))

    pub lacks_second : kind ≡ Folder → (e : Entry) → old ≡ stream
        → HasEntry map stream n e × (e.is_dir ≡ true)
        → LacksDirectoryEntry map old (n + 1) false field bad
        → LacksEntries map stream kind i field bad
    lacks_second is e same first lacks =
        let here = subst (λ (s : Entry). LacksDirectoryEntry map s (n + 1) false field bad) same lacks in
        subst (λ (k : RecordKind). LacksEntries map stream k i field bad) (sym is)
        (inr (
          e,
          subst (λ (j : ℕ). HasEntry map stream j e) number first.0,
          first.1,
          subst (λ (j : ℕ). LacksDirectoryEntry map stream (j + 1) false field bad) number here,
        ))

pub both_stored : (map : BlockMap) (stream old : Entry) (kind : RecordKind) (n i : ℕ)
    (e m : Entry) → n ≡ i → kind ≡ Folder → old ≡ stream
    → HasEntry map stream n e × (e.is_dir ≡ true)
    → HasEntry map old (n + 1) m × (m.is_dir ≡ false)
    → IsStoredNode map stream kind i (stored.Folder e m)
both_stored map stream old kind n i e m number is same first second = (
  is,
  subst (λ (j : ℕ). HasEntry map stream j e) number first.0,
  first.1,
  subst (λ (j : ℕ). HasEntry map stream (j + 1) m) number
      (subst (λ (s : Entry). HasEntry map s (n + 1) m) same second.0),
  second.1,
)

-- ---- the items of records

pub node_lacks : (map : BlockMap) (entries stream : Entry) (records before : List Record)
    (nodes : List Node) (r : Record) (rest : List Record) (place : ℕ) (bad : VacBad)
    → AreNodes map entries before nodes → records ≡ before ++ r ∷ rest
    → place ≡ length (all_spelled before) → stream ≡ entries
    → LacksEntries map stream r.kind r.entry (place + length (string r.name) + 1) bad
    → LacksNode map entries records bad
node_lacks map entries stream records before nodes r rest place bad stand among at same lacks =
    record {
      before = before;
      nodes = nodes;
      stand = stand;
      r = r;
      rest = rest;
      among = among;
      lacks =
          subst (λ (n : ℕ).
          LacksEntries map entries r.kind r.entry (n + length (string r.name) + 1) bad) at
          (subst (λ (e : Entry).
          LacksEntries map e r.kind r.entry (place + length (string r.name) + 1) bad) same
          lacks);
    }

pub list_told : (map : BlockMap) (entries metadata : Entry) (records : List Record)
    (result : Result (List Node) VacBad) → AreFolder map entries metadata records
    → TellsNodes entries records result map
    → ListsFolder (stored.Folder entries metadata) result map
list_told map entries metadata records (Ok nodes) are told =
    record { records = records; are = are; stand = told }
list_told map entries metadata records (Err bad) are told =
    λ some. inr (records, are, told some)

-- ---- the item of a name

pub named_told : (map : BlockMap) (entries metadata stream : Entry) (records : List Record)
    (name : List ℕ) (result : Result (Option Node) VacBad) → AreFolder map entries metadata records
    → stream ≡ entries → TellsNamed stream records name result map
    → FindsItem (stored.Folder entries metadata) name result map
named_told map entries metadata stream records name (Ok found) are same told = (
  records,
  are,
  subst (λ (e : Entry). IsFoundItem map e (named name records) found) same told,
)
named_told map entries metadata stream records name (Err bad) are same told = λ some.
    let l = told some in
    inr (record {
      records = records;
      are = are;
      before = l.before;
      r = l.r;
      rest = l.named_so.rest;
      among = l.named_so.among;
      is = l.named_so.is;
      lacks =
          subst (λ (e : Entry).
          LacksEntries map e l.r.kind l.r.entry (entry_field l.before l.r) bad) same l.lacks;
    })

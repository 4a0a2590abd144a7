-- An archive that stands for a folder is read as that folder.
use Rattle.std.proofs.Common.{◌≡◌, ℕ, ◌+◌, ◌-◌, ◌<◌, ◌≤◌, ◌^◌, inl, inr, min, Bool, true, false, Option, Result, Ok, Err, Some, None, List, [], ◌∷◌, ◌++◌, length, take, drop, refl, sym, ◌∙◌, ap, subst, arith, if◌then◌else◌}
use Rattle.std.specs.Prelude.{slice_index}
use Rattle.std.proofs.lemmas.Bool.{le-ltb}
use Rattle.std.proofs.lemmas.List.{ext_get_or, get_or-take, get_or-drop, length-take, length-drop}
use Rattle.vt_out.specs.FolderItems.{Items, none, file, folder, other, listed_item}
use Rattle.vt_tree.specs.declared.entry.Entry.{Entry}
use Rattle.vt_tree.specs.declared.entry.EntryError.{EntryError}
use Rattle.vt_tree.specs.declared.error.TreeErr.TheVariants as trees
use Rattle.vt_tree.specs.declared.plain.ContentError.{ContentError}
use Rattle.vt_tree.specs.declared.root.Root.{Root as TreeRoot}
use Rattle.vt_tree.specs.Content.{AreGiven, FirstTrouble, IsFileContent, byte_of, size_of}
use Rattle.vt_tree.specs.Entries.{IsTreeEntry, SpellsEntry, entry_fault}
use Rattle.vt_tree.specs.Maps.{BlockMap}
use Rattle.vt_tree.specs.Reading.{GivesBytes, unfit, unfit_by}
use Rattle.vt_tree.specs.Roots.{IsRoot, root_bytes}
use Rattle.vt_tree.proofs.EntryBytes.{spelled_is_read}
use Rattle.vac_meta.specs.declared.error.MetaErr.{MetaErr}
use Rattle.vac_meta.specs.declared.record.Record.{Record}
use Rattle.vac_meta.specs.declared.record.RecordKind.{RecordKind}
use Rattle.vac_meta.specs.declared.record.RecordKind.TheVariants.{File, Folder}
use Rattle.vac_meta.specs.Flaws.{IsRefusedMetadata}
use Rattle.vac_meta.specs.Records.{SpellsMetadata}
use Rattle.vac_model.specs.Kept.{Numbered}
use Rattle.vac_model.specs.Trees.{AreFolder, HasEntry, HasFile, HasFolder, IsArchive, IsTreeOf, StandFor, entry_place}
use Rattle.vac_read.specs.declared.error.VacBad.{VacBad}
use Rattle.vac_read.specs.declared.error.VacBad.TheVariants.{Tree, Root, Meta, NoMemory}
use Rattle.vac_read.specs.declared.node.Node.{Node}
use Rattle.vac_read.specs.declared.node.Stored.{Stored}
use Rattle.vac_read.specs.declared.node.Stored.TheVariants as stored
use Rattle.vac_read.specs.Broken.{AreNoEntries, IsBroken, IsNoEntry, IsUnfound, IsUnread, LacksEntries, LacksDirectoryEntry, LacksRecords, root_flaw}
use Rattle.vac_read.specs.Laws.{AreNodesOf, HoldsBytes, IsOfStore, StandsAs}
use Rattle.vac_read.specs.Nodes.{AreNodeEntries, AreNodes, AreTop, IsStoredNode, IsTop, Lists, kind_of, len_of}
use Rattle.vac_read.specs.Reading.{IsAbsentBlock, IsNoArchive}
use Rattle.vac_read.proofs.Roots.{unflawed}

-- ---- bytes that are given

ok_is_ok : (m n : ℕ) (r : Result ℕ ContentError) → r ≡ Ok m → r ≡ Ok n → m ≡ n
ok_is_ok m n r e f = cc

ok_is_no_err : (m : ℕ) (t : ContentError) (r : Result ℕ ContentError) → r ≡ Ok m → r ≡ Err t → ⊥
ok_is_no_err m t r e f = cc

some_is_some : {A : Type 0} (a b : A) → Some a ≡ Some b → a ≡ b
some_is_some a b e = cc

none_is_no_some : {A : Type 0} (a : A) (o : Option A) → o ≡ None → o ≡ Some a → ⊥
none_is_no_some a o e f = cc

same_given : (byte : ℕ → Result ℕ ContentError) (at : ℕ) (x y : List ℕ) → length x ≡ length y
    → AreGiven byte at x → AreGiven byte at y → x ≡ y
same_given byte at x y len a b =
    ext_get_or 0 x y len (λ i within. ok_is_ok (slice_index x i) (slice_index y i)
    (byte (at + i)) (a i within) (b i (omega (arith, within, len))))

no_trouble : (byte : ℕ → Result ℕ ContentError) (at len : ℕ) (bytes : List ℕ) (t : ContentError)
    → length bytes ≡ len → AreGiven byte at bytes → FirstTrouble byte at len t → ⊥
no_trouble byte at len bytes t all given first =
    ok_is_no_err (slice_index bytes first.place) t (byte (at + first.place))
    (given first.place (omega (arith, all, first.within))) first.has

fit : (e : Entry) → entry_fault e ≡ None → size_of e ≤ 2 ^ 40 → unfit e ≡ None
fit e sound short =
    ap (λ (o : Option EntryError). unfit_by o (size_of e)) sound
    ∙ ap (λ (b : Bool). if b then Some trees.TooLong else None) (le-ltb (2 ^ 40) (size_of e) short)

abbrev ok : ℕ → Result ℕ ContentError
ok k = Ok k

-- what is read of a file
pub read_bytes : (map : BlockMap) (e : Entry) (bytes got : List ℕ) (at n : ℕ)
    → IsFileContent map e bytes → GivesBytes (byte_of map e) at (min n (size_of e - at)) (Ok got)
    → got ≡ take n (drop at bytes)
read_bytes map e bytes got at n content gives =
    let all = content.all in
    let len = gives.0 in
    let same : length got ≡ length (take n (drop at bytes)) =
    simp (length-take, length-drop) (omega arith) in
    ext_get_or 0 got (take n (drop at bytes)) same (λ i within.
    let below : i < n = omega arith in
    let there : at + i < length bytes = omega arith in
    let here = content.each (at + i) there in
    ok_is_ok (slice_index got i) (slice_index (take n (drop at bytes)) i) (byte_of map e (at + i))
    (gives.1 i within)
    (ap (λ (k : ℕ). byte_of map e k) (omega arith) ∙ here
    ∙ ap ok
    (sym (get_or-take n (drop at bytes) i 0 below ∙ get_or-drop at bytes i 0))))

module _ (one_entry : (a b : Entry) (bytes : List ℕ) → IsTreeEntry a → IsTreeEntry b
    → SpellsEntry a bytes → SpellsEntry b bytes → a ≡ b)
    (one_root : (a b : TreeRoot) → IsRoot a → IsRoot b → root_bytes a ≡ root_bytes b → a ≡ b)
    (one_content : (map : BlockMap) (e : Entry) (a b : List ℕ) → IsFileContent map e a
    → IsFileContent map e b → a ≡ b)
    (one_metadata : (a b : List Record) (bytes : List ℕ) → SpellsMetadata a bytes → SpellsMetadata b bytes
    → a ≡ b)
    (map : BlockMap)
  where
    -- ---- what is there once

    same_entry : (stream : Entry) (i : ℕ) (a b : Entry) → HasEntry map stream i a
        → HasEntry map stream i b → a ≡ b
    same_entry stream i a b x y =
        let bytes = same_given (byte_of map stream) (entry_place stream i) x.bytes y.bytes
        (x.forty ∙ sym y.forty) x.given y.given in
        one_entry a b x.bytes x.allowed y.allowed x.spelled
        (subst (λ (l : List ℕ). SpellsEntry b l) (sym bytes) y.spelled)

    same_records : (entries metadata : Entry) (a b : List Record)
        → AreFolder map entries metadata a → AreFolder map entries metadata b → a ≡ b
    same_records entries metadata a b x y =
        let bytes = one_content map metadata x.bytes y.bytes x.content y.content in
        one_metadata a b x.bytes x.spelled
        (subst (λ (l : List ℕ). SpellsMetadata b l) (sym bytes) y.spelled)

    same_root : (score a b : List ℕ) → (x : IsArchive map score a) → (y : IsArchive map score b)
        → a ≡ b
    same_root score a b x y =
        let root = one_root x.root y.root x.allowed y.allowed
        (some_is_some (root_bytes x.root) (root_bytes y.root) (sym x.block ∙ y.block)) in
        sym x.names ∙ ap (λ (r : TreeRoot). r.score.0) root ∙ y.names

    -- ---- refusals

    unread_never : (e : Entry) (at len : ℕ) (bytes : List ℕ) (bad : VacBad) → length bytes ≡ len
        → AreGiven (byte_of map e) at bytes → unfit e ≡ None → IsUnread map e at len bad
        → IsOfStore bad
    unread_never e at len bytes (Tree (trees.Block err)) all given fits unread =
        λ refusal. no_trouble (byte_of map e) at len bytes _ all given (unread.0 refusal)
    unread_never e at len bytes (Tree trees.SourceFault) all given fits unread =
        none_is_no_some _ (unfit e) fits (unread.1 tt)
    unread_never e at len bytes (Tree (trees.BadEntry bad)) all given fits unread =
        none_is_no_some _ (unfit e) fits (unread.1 tt)
    unread_never e at len bytes (Tree (trees.BadBlock depth size)) all given fits unread =
        no_trouble (byte_of map e) at len bytes _ all given unread.0
    unread_never e at len bytes (Tree trees.TooLong) all given fits unread =
        none_is_no_some _ (unfit e) fits (unread.1 tt)
    unread_never e at len bytes (Tree trees.NoMemory) all given fits unread = tt
    unread_never e at len bytes (Root field) all given fits unread = absurd unread
    unread_never e at len bytes (Meta place) all given fits unread = absurd unread
    unread_never e at len bytes NoMemory all given fits unread = tt

    entry_never : (bytes : List ℕ) (e : Entry) (field : ℕ) (bad : VacBad) → IsTreeEntry e
        → SpellsEntry e bytes → IsNoEntry bytes e.is_dir field bad → ⊥
    entry_never bytes e field (Tree err) is spells why =
        none_is_no_some why.0 _ (spelled_is_read e bytes is spells).1 why.2
    entry_never bytes e field (Root root_field) is spells why = why
    entry_never bytes e field (Meta at) is spells why =
        why.4 (ap (λ (x : Entry). x.is_dir) (one_entry why.1 e bytes why.2 is why.3 spells))
    entry_never bytes e field NoMemory is spells why = why

    lacks_never : (stream : Entry) (i field : ℕ) (e : Entry) (is_dir : Bool) (bad : VacBad)
        → unfit stream ≡ None → HasEntry map stream i e → e.is_dir ≡ is_dir
        → LacksDirectoryEntry map stream i is_dir field bad → IsOfStore bad
    lacks_never stream i field e is_dir bad fits has kind (inl past) =
        absurd (omega (arith, past.1, has.within))
    lacks_never stream i field e is_dir bad fits has kind (inr (inl unread)) =
        unread_never stream (entry_place stream i) 40 has.bytes bad has.forty has.given fits
        unread.1
    lacks_never stream i field e is_dir bad fits has kind (inr (inr why)) =
        let bytes = same_given (byte_of map stream) (entry_place stream i) why.0 has.bytes
        (why.1.forty ∙ sym has.forty) why.1.given has.given in
        absurd (entry_never has.bytes e field bad has.allowed has.spelled
        (subst (λ (d : Bool). IsNoEntry has.bytes d field bad) (sym kind)
        (subst (λ (l : List ℕ). IsNoEntry l is_dir field bad) bytes why.2)))

    folder_never : (stream : Entry) (i field : ℕ) (entries metadata : Entry) (bad : VacBad)
        → unfit stream ≡ None → HasEntry map stream i entries
        → HasEntry map stream (i + 1) metadata → entries.is_dir ≡ true → metadata.is_dir ≡ false
        → LacksEntries map stream Folder i field bad → IsOfStore bad
    folder_never stream i field entries metadata bad fits first second dir plain (inl lacks) =
        lacks_never stream i field entries true bad fits first dir lacks
    folder_never stream i field entries metadata bad fits first second dir plain (inr lacks) =
        lacks_never stream (i + 1) field metadata false bad fits second plain lacks.3

    item_never : (stream : Entry) (before : List Record) (r : Record) (rest : List Record)
        (items : Items Numbered) (field : ℕ) (bad : VacBad) → unfit stream ≡ None
        → StandFor map stream (before ++ r ∷ rest) items
        → LacksEntries map stream r.kind r.entry field bad → IsOfStore bad
    item_never stream [] r rest none field bad fits stand lacks = absurd stand
    item_never stream [] r rest (file about bytes others) field bad fits stand lacks =
        let has = stand.2 in
        lacks_never stream r.entry field has.entry false bad fits has.there has.plain
        (subst (λ (k : RecordKind). LacksEntries map stream k r.entry field bad) stand.0 lacks)
    item_never stream [] r rest (folder about inside others) field bad fits stand lacks =
        let has = stand.2.2 in
        folder_never stream r.entry field stand.2.0 has.metadata bad fits has.first has.second
        has.are.directory has.are.plain
        (subst (λ (k : RecordKind). LacksEntries map stream k r.entry field bad) stand.0 lacks)
    item_never stream [] r rest (other about others) field bad fits stand lacks = absurd stand
    item_never stream (b ∷ before) r rest none field bad fits stand lacks = absurd stand
    item_never stream (b ∷ before) r rest (file about bytes others) field bad fits stand lacks =
        item_never stream before r rest others field bad fits stand.3 lacks
    item_never stream (b ∷ before) r rest (folder about inside others) field bad fits stand
        lacks = item_never stream before r rest others field bad fits stand.3 lacks
    item_never stream (b ∷ before) r rest (other about others) field bad fits stand lacks =
        absurd stand

    module _ (no_flaw : (records : List Record) (bytes : List ℕ) (why : MetaErr)
        → SpellsMetadata records bytes → IsRefusedMetadata bytes why → ⊥)
      where
        records_never : (entries metadata : Entry) (records : List Record) (bad : VacBad)
            → IsTreeEntry metadata → AreFolder map entries metadata records
            → LacksRecords map entries metadata bad → IsOfStore bad
        records_never entries metadata records bad is are (inl long) =
            let all = are.content.all in
            let short = are.short in
            absurd (long.1 (record {
              short_entries = are.short_entries;
              short_metadata = omega arith;
            }))
        records_never entries metadata records bad is are (inr (short, inl unread)) =
            let most : size_of metadata ≤ 16777216 = short.short_metadata in
            unread_never metadata 0 (size_of metadata) are.bytes bad are.content.all
            are.content.each (fit metadata is.allowed (omega arith)) unread
        records_never entries metadata records bad is are (inr (short, inr flaw)) =
            let bytes = one_content map metadata are.bytes flaw.0 are.content flaw.1 in
            absurd (no_flaw records flaw.0 _ (subst (SpellsMetadata records) bytes are.spelled) flaw.5)

        there : (entries metadata : Entry) (a b : List Record) (before : List Record) (r : Record)
            (rest : List Record) (items : Items Numbered) → AreFolder map entries metadata a
            → AreFolder map entries metadata b → a ≡ before ++ r ∷ rest
            → StandFor map entries b items
            → StandFor map entries (before ++ r ∷ rest) items
        there entries metadata a b before r rest items x y among stand =
            subst (λ (l : List Record). StandFor map entries l items)
            (same_records entries metadata b a y x ∙ among) stand

        entries_fit : (entries metadata : Entry) (records : List Record) → IsTreeEntry entries
            → AreFolder map entries metadata records → unfit entries ≡ None
        entries_fit entries metadata records is are =
            let most : size_of entries ≤ 2 ^ 40 = are.short_entries in fit entries is.allowed most

        pub broken_never : (s : Stored) (items : Items Numbered) (bad : VacBad) → AreNodeEntries s
            → StandsAs map s items → IsBroken map s bad → IsOfStore bad
        broken_never (stored.File e) items bad are stand broken = absurd stand
        broken_never (stored.Folder entries metadata) items bad are stand (inl lacks) =
            records_never entries metadata stand.0 bad are.1.0 stand.1 lacks
        broken_never (stored.Folder entries metadata) items bad are stand (inr lacks) =
            let node = lacks.2 in
            item_never entries node.before node.r node.rest items _ bad
            (entries_fit entries metadata stand.0 are.0.0 stand.1)
            (there entries metadata lacks.0 stand.0 node.before node.r node.rest items
            lacks.1 stand.1 node.among stand.2) node.lacks

        pub unfound_never : (s : Stored) (items : Items Numbered) (name : List ℕ) (bad : VacBad)
            → AreNodeEntries s → StandsAs map s items → IsUnfound map s name bad → IsOfStore bad
        unfound_never (stored.File e) items name bad are stand unfound = absurd stand
        unfound_never (stored.Folder entries metadata) items name bad are stand (inl lacks) =
            records_never entries metadata stand.0 bad are.1.0 stand.1 lacks
        unfound_never (stored.Folder entries metadata) items name bad are stand (inr lacks) =
            item_never entries lacks.before lacks.r lacks.rest items _ bad
            (entries_fit entries metadata stand.0 are.0.0 stand.1)
            (there entries metadata lacks.records stand.0 lacks.before lacks.r lacks.rest items
            lacks.are stand.1 lacks.among stand.2) lacks.lacks

    absent_never : (score : List ℕ) (kind : ℕ) (block : List ℕ) (bad : VacBad)
        → map score kind ≡ Some block → IsAbsentBlock map score kind bad → IsOfStore bad
    absent_never score kind block (Tree (trees.Block err)) has absent =
        λ refusal. none_is_no_some block (map score kind) (absent refusal) has
    absent_never score kind block (Tree trees.SourceFault) has absent = absurd absent
    absent_never score kind block (Tree (trees.BadEntry bad)) has absent = absurd absent
    absent_never score kind block (Tree (trees.BadBlock depth len)) has absent = absurd absent
    absent_never score kind block (Tree trees.TooLong) has absent = absurd absent
    absent_never score kind block (Tree trees.NoMemory) has absent = absurd absent
    absent_never score kind block (Root field) has absent = absurd absent
    absent_never score kind block (Meta at) has absent = absurd absent
    absent_never score kind block NoMemory has absent = absurd absent

    top_never : (bytes : List ℕ) (entries metadata : Entry) (bad : VacBad) → 80 ≤ length bytes
        → IsTreeEntry entries → SpellsEntry entries (take 40 bytes) → entries.is_dir ≡ true
        → IsTreeEntry metadata → SpellsEntry metadata (take 40 (drop 40 bytes))
        → metadata.is_dir ≡ false → AreNoEntries bytes bad → ⊥
    top_never bytes entries metadata bad long first spells dir second spelled plain (inl short) =
        absurd (omega (arith, short.1))
    top_never bytes entries metadata bad long first spells dir second spelled plain
        (inr (all, inl why)) =
        entry_never (take 40 bytes) entries 0 bad first spells
        (subst (λ (d : Bool). IsNoEntry (take 40 bytes) d 0 bad) (sym dir) why)
    top_never bytes entries metadata bad long first spells dir second spelled plain
        (inr (all, inr why)) =
        entry_never (take 40 (drop 40 bytes)) metadata 0 bad second spelled
        (subst (λ (d : Bool). IsNoEntry (take 40 (drop 40 bytes)) d 0 bad) (sym plain) why.1)

    pub refused_never : (score : List ℕ) (items : Items Numbered) (bad : VacBad)
        → IsTreeOf map score items → IsNoArchive map score bad → IsOfStore bad
    refused_never score items bad tree (inl absent) =
        absent_never score 1 (root_bytes tree.archive.root) bad tree.archive.block absent
    refused_never score items bad tree (inr (inl why)) =
        let root = tree.archive in
        let same = some_is_some why.2 (root_bytes root.root) (sym why.3 ∙ root.block) in
        absurd (none_is_no_some why.0 (root_flaw why.2)
        (unflawed why.2 root.root root.allowed same root.kind root.least root.most) why.4)
    refused_never score items bad tree (inr (inr (top, archive, inl absent))) =
        let same = same_root score top tree.top archive tree.archive in
        let t = tree.are_there in
        absent_never top 2 t.bytes bad (ap (λ (s : List ℕ). map s 2) same ∙ t.block) absent
    refused_never score items bad tree (inr (inr (top, archive, inr why))) =
        let same = same_root score top tree.top archive tree.archive in
        let t = tree.are_there in
        let bytes = some_is_some why.0 t.bytes
        (sym why.1 ∙ ap (λ (s : List ℕ). map s 2) same ∙ t.block) in
        absurd (top_never t.bytes tree.entries tree.metadata bad t.long t.first_allowed t.first
        tree.are.directory t.second_allowed t.second tree.are.plain
        (subst (λ (l : List ℕ). AreNoEntries l bad) bytes why.2))

    -- ---- answers

    top_same : (score top : List ℕ) (s : Stored) (items : Items Numbered)
        → (tree : IsTreeOf map score items) → tree.top ≡ top → AreTop map top s
        → StandsAs map s items
    top_same score top (stored.File e) items tree same is = absurd is
    top_same score top (stored.Folder entries metadata) items tree same is =
        let t = tree.are_there in
        let bytes = some_is_some t.bytes is.0.bytes
        (sym t.block ∙ ap (λ (s : List ℕ). map s 2) same ∙ is.0.block) in
        let first = one_entry tree.entries entries (take 40 t.bytes) t.first_allowed
        is.0.first_allowed t.first
        (subst (λ (l : List ℕ). SpellsEntry entries (take 40 l)) (sym bytes) is.0.first) in
        let second = one_entry tree.metadata metadata (take 40 (drop 40 t.bytes))
        t.second_allowed is.0.second_allowed t.second
        (subst (λ (l : List ℕ). SpellsEntry metadata (take 40 (drop 40 l))) (sym bytes)
        is.0.second) in (
          tree.records,
          subst (λ (e : Entry). AreFolder map e metadata tree.records) first
              (subst (λ (m : Entry). AreFolder map tree.entries m tree.records) second tree.are),
          subst (λ (e : Entry). StandFor map e tree.records items) first tree.stand,
        )

    pub top_stands : (score : List ℕ) (items : Items Numbered) (node : Node)
        → IsTreeOf map score items → IsTop map score node → StandsAs map node.stored items
    top_stands score items node tree top =
        top_same score top.top node.stored items tree
        (same_root score tree.top top.top tree.archive top.archive) top.is_stored

    file_is_no_folder : (kind : RecordKind) → kind ≡ File → kind ≡ Folder → ⊥
    file_is_no_folder kind a b = let e : File ≡ Folder = sym a ∙ b in cc

    file_stored : (stream : Entry) (kind : RecordKind) (i : ℕ) (s : Stored) (bytes : List ℕ)
        → kind ≡ File → HasFile map stream i bytes → IsStoredNode map stream kind i s
        → HoldsBytes map s bytes × (len_of s ≡ length bytes)
    file_stored stream kind i (stored.File e) bytes is has there =
        let same = same_entry stream i has.entry e has.there there.1 in
        let content = subst (λ (x : Entry). IsFileContent map x bytes) same has.content in
        (content, sym content.all)
    file_stored stream kind i (stored.Folder entries metadata) bytes is has there =
        absurd (file_is_no_folder kind is there.0)

    folder_stored : (stream : Entry) (kind : RecordKind) (i : ℕ) (s : Stored)
        (inside : Items Numbered) (entries : Entry) (below : List Record) → kind ≡ Folder
        → HasFolder map stream i entries below → StandFor map entries below inside
        → IsStoredNode map stream kind i s → StandsAs map s inside × (len_of s ≡ 0)
    folder_stored stream kind i (stored.File e) inside entries below is has stand there =
        absurd (file_is_no_folder kind there.0 is)
    folder_stored stream kind i (stored.Folder e m) inside entries below is has stand there =
        let first = same_entry stream i entries e has.first there.1 in
        let second = same_entry stream (i + 1) has.metadata m has.second there.3 in (
          (
            below,
            subst (λ (x : Entry). AreFolder map x m below) first
                (subst (λ (y : Entry). AreFolder map entries y below) second has.are),
            subst (λ (x : Entry). StandFor map x below inside) first stand,
          ),
          refl,
        )

    nodes_are : (stream : Entry) (records : List Record) (items : Items Numbered)
        (nodes : List Node) → StandFor map stream records items
        → AreNodes map stream records nodes → AreNodesOf map items nodes
    nodes_are stream [] none [] stand are = tt
    nodes_are stream [] none (node ∷ nodes) stand are = absurd are
    nodes_are stream [] (file about bytes others) nodes stand are = absurd stand
    nodes_are stream [] (folder about inside others) nodes stand are = absurd stand
    nodes_are stream [] (other about others) nodes stand are = absurd stand
    nodes_are stream (r ∷ records) none nodes stand are = absurd stand
    nodes_are stream (r ∷ records) (other about others) nodes stand are = absurd stand
    nodes_are stream (r ∷ records) (file about bytes others) [] stand are = absurd are
    nodes_are stream (r ∷ records) (folder about inside others) [] stand are = absurd are
    nodes_are stream (r ∷ records) (file about bytes others) (node ∷ nodes) stand are =
        let is = are.0 in
        let held = file_stored stream r.kind r.entry node.stored bytes stand.0 stand.2
        is.is_stored in (
          record {
            item = is.item
                ∙ (λ i. listed_item (sym stand.1 i).facts (kind_of (stand.0 i)));
            qid = is.qid ∙ ap (λ (n : Numbered). n.qid) (sym stand.1);
            size_is = is.size ∙ held.1;
          },
          held.0,
          nodes_are stream records others nodes stand.3 are.1,
        )
    nodes_are stream (r ∷ records) (folder about inside others) (node ∷ nodes) stand are =
        let is = are.0 in
        let p = stand.2 in
        let held = folder_stored stream r.kind r.entry node.stored inside p.0 p.1 stand.0 p.2 p.3
        is.is_stored in (
          record {
            item = is.item
                ∙ (λ i. listed_item (sym stand.1 i).facts (kind_of (stand.0 i)));
            qid = is.qid ∙ ap (λ (n : Numbered). n.qid) (sym stand.1);
            size_is = is.size ∙ held.1;
          },
          held.0,
          nodes_are stream records others nodes stand.3 are.1,
        )

    pub lists_are : (s : Stored) (items : Items Numbered) (nodes : List Node)
        → StandsAs map s items → Lists map s nodes → AreNodesOf map items nodes
    lists_are (stored.File e) items nodes stand lists = absurd stand
    lists_are (stored.Folder entries metadata) items nodes stand lists =
        let same = same_records entries metadata lists.records stand.0 lists.are stand.1 in
        nodes_are entries stand.0 items nodes stand.2
        (subst (λ (l : List Record). AreNodes map entries l nodes) same lists.stand)

-- What is shown of the archive of a folder is that folder.
use Rattle.std.proofs.Common.{◌≡◌, ℕ, Bool, true, false, cond, Option, Some, None, List, [], ◌∷◌, refl, sym, ◌∙◌, ap, subst}
use Rattle.std.specs.List.{AllByRecursion}
use Rattle.std.specs.Option.{option_and_then}
use Rattle.std.specs.Prelude.{IfSome}
use Rattle.std.specs.Str.{bytes_eq}
use Rattle.vt_out.specs.FolderItems.{Items, none, file, folder, other}
use Rattle.vt_tree.specs.declared.entry.Entry.{Entry}
use Rattle.vt_tree.specs.Content.{IsFileContent, size_of}
use Rattle.vt_tree.specs.Maps.{BlockMap}
use Rattle.vac_meta.specs.declared.record.Record.{Record}
use Rattle.vac_meta.specs.Records.{SpellsMetadata}
use Rattle.vac_model.specs.Kept.{Numbered}
use Rattle.vac_model.specs.Trees.{AreFolder, IsTreeOf, StandFor, described}
use Rattle.vac_read.specs.declared.node.Node.{Node}
use Rattle.vac_read.specs.declared.node.Stored.{Stored}
use Rattle.vac_read.specs.declared.node.Stored.TheVariants as stored
use Rattle.vac_read.specs.Laws.{AreNodesOf, HoldsBytes, ListsAreItems, StandsAs, TopsStand}
use Rattle.vac_read.specs.Nodes.{AreNodes, FindsNode, IsFoundItem, IsNode, Lists, item_of, named}
use Rattle.nine_view.specs.declared.fid.Fid.{Fid}
use Rattle.nine_view.specs.Known.{AreFiles, IsRightFid, IsWay, ViewState}
use Rattle.nine_view.specs.Serving.{MessageTurn}
use Rattle.vac_view.specs.Items.{AllStand, IsKept, IsWhatIsThere, Kept, StandsAt, a_file, a_folder, item_named, items_in, kept_at, the_top}
use Rattle.vac_view.specs.Viewing.{AreAnswered, ShowsArchive, unasked}

module _ (one_content : (map : BlockMap) (e : Entry) (a b : List ℕ) → IsFileContent map e a
    → IsFileContent map e b → a ≡ b)
    (one_metadata : (a b : List Record) (bytes : List ℕ) → SpellsMetadata a bytes → SpellsMetadata b bytes
    → a ≡ b)
    (lists_are : ListsAreItems) (tops_stand : TopsStand) (map : BlockMap)
  where
    same_records : (entries metadata : Entry) (a b : List Record)
        → AreFolder map entries metadata a → AreFolder map entries metadata b → a ≡ b
    same_records entries metadata a b x y =
        let bytes = one_content map metadata x.bytes y.bytes x.content y.content in
        one_metadata a b x.bytes x.spelled
        (subst (λ (l : List ℕ). SpellsMetadata b l) (sym bytes) y.spelled)

    -- ---- under a name

    -- the node of a record of a folder that stands
    abbrev node_with : Record → Stored → (size : ℕ) → Node
    node_with r s size = record { item = item_of r; qid = r.qid; size = size; stored = s }

    -- nodes of all records, of which the first of this name is this one
    record HasNode (stream : Entry) (records : List Record) (items : Items Numbered)
        (name : List ℕ) (node : Node) : Type 0 where
      nodes : List Node
      are : AreNodes map stream records nodes
      tells : AreNodesOf map items nodes → IsWhatIsThere map (item_named name items) (Some node)

    all_nodes : (stream : Entry) (records : List Record) (items : Items Numbered)
        → StandFor map stream records items
        → (nodes : List Node) × AreNodes map stream records nodes
    all_nodes stream [] none stand = ([], tt)
    all_nodes stream [] (file about bytes others) stand = absurd stand
    all_nodes stream [] (folder about inside others) stand = absurd stand
    all_nodes stream [] (other about others) stand = absurd stand
    all_nodes stream (r ∷ records) none stand = absurd stand
    all_nodes stream (r ∷ records) (other about others) stand = absurd stand
    all_nodes stream (r ∷ records) (file about bytes others) stand =
        let has = stand.2 in
        let rest = all_nodes stream records others stand.3 in (
          node_with r (stored.File has.entry) (size_of has.entry) ∷ rest.0,
          (
            record {
              item = refl;
              qid = refl;
              size = refl;
              is_stored = (stand.0, has.there, has.plain);
            },
            rest.1,
          ),
        )
    all_nodes stream (r ∷ records) (folder about inside others) stand =
        let below = stand.2 in
        let has = below.2 in
        let rest = all_nodes stream records others stand.3 in (
          node_with r (stored.Folder below.0 has.metadata) 0 ∷ rest.0,
          (
            record {
              item = refl;
              qid = refl;
              size = refl;
              is_stored = (
                stand.0,
                has.first,
                has.are.directory,
                has.second,
                has.are.plain,
              );
            },
            rest.1,
          ),
        )

    test_is : (about : Numbered) (r : Record) (name : List ℕ) (b : Bool) → about ≡ described r
        → bytes_eq r.name name ≡ b → bytes_eq about.facts.name name ≡ b
    test_is about r name b same is =
        ap (λ (n : Numbered). bytes_eq n.facts.name name) same ∙ is

    -- one of the records has this node, and the others have some
    has_node : (stream : Entry) (records : List Record) (items : Items Numbered)
        (name : List ℕ) (r : Record) (node : Node) → StandFor map stream records items
        → named name records ≡ Some r → IsNode map stream r node
        → HasNode stream records items name node
    has_node stream [] items name r node stand is it = let never : ⊥ = cc in absurd never
    has_node stream (x ∷ records) none name r node stand is it = absurd stand
    has_node stream (x ∷ records) (other about others) name r node stand is it = absurd stand
    has_node stream (x ∷ records) (file about bytes others) name r node stand is it =
        of (λ found. has_node stream records others name r node stand.3 found it)
        (bytes_eq x.name name) refl is
      where
        of : (named name records ≡ Some r → HasNode stream records others name node)
            → (b : Bool) → bytes_eq x.name name ≡ b
            → cond b (Some x) (named name records) ≡ Some r
            → HasNode stream (x ∷ records) (file about bytes others) name node
        of later true here found =
            let same : x ≡ r = cc in
            let rest = all_nodes stream records others stand.3 in
            let test = test_is about x name true stand.1 here in
            record {
              nodes = node ∷ rest.0;
              are = (subst (λ (y : Record). IsNode map stream y node) (sym same) it, rest.1);
              tells = λ items. rw test (items.0, items.1);
            }
        of later false here found =
            let has = stand.2 in
            let rest = later found in
            let test = test_is about x name false stand.1 here in
            let first = node_with x (stored.File has.entry) (size_of has.entry) in
            record {
              nodes = first ∷ rest.nodes;
              are = (
                record {
                  item = refl;
                  qid = refl;
                  size = refl;
                  is_stored = (stand.0, has.there, has.plain);
                },
                rest.are,
              );
              tells = λ items. rw test (rest.tells items.2);
            }
    has_node stream (x ∷ records) (folder about inside others) name r node stand is it =
        of (λ found. has_node stream records others name r node stand.3 found it)
        (bytes_eq x.name name) refl is
      where
        of : (named name records ≡ Some r → HasNode stream records others name node)
            → (b : Bool) → bytes_eq x.name name ≡ b
            → cond b (Some x) (named name records) ≡ Some r
            → HasNode stream (x ∷ records) (folder about inside others) name node
        of later true here found =
            let same : x ≡ r = cc in
            let rest = all_nodes stream records others stand.3 in
            let test = test_is about x name true stand.1 here in
            record {
              nodes = node ∷ rest.0;
              are = (subst (λ (y : Record). IsNode map stream y node) (sym same) it, rest.1);
              tells = λ items. rw test (items.0, items.1);
            }
        of later false here found =
            let below = stand.2 in
            let has = below.2 in
            let rest = later found in
            let test = test_is about x name false stand.1 here in
            let first = node_with x (stored.Folder below.0 has.metadata) 0 in
            record {
              nodes = first ∷ rest.nodes;
              are = (
                record {
                  item = refl;
                  qid = refl;
                  size = refl;
                  is_stored = (
                    stand.0,
                    has.first,
                    has.are.directory,
                    has.second,
                    has.are.plain,
                  );
                },
                rest.are,
              );
              tells = λ items. rw test (rest.tells items.2);
            }

    none_named : (stream : Entry) (records : List Record) (items : Items Numbered)
        (name : List ℕ) → StandFor map stream records items → named name records ≡ None
        → item_named name items ≡ None
    none_named stream [] none name stand is = refl
    none_named stream [] (file about bytes others) name stand is = absurd stand
    none_named stream [] (folder about inside others) name stand is = absurd stand
    none_named stream [] (other about others) name stand is = absurd stand
    none_named stream (x ∷ records) none name stand is = absurd stand
    none_named stream (x ∷ records) (other about others) name stand is = absurd stand
    none_named stream (x ∷ records) (file about bytes others) name stand is =
        of (none_named stream records others name stand.3) (bytes_eq x.name name) refl is
      where
        of : (named name records ≡ None → item_named name others ≡ None) → (b : Bool)
            → bytes_eq x.name name ≡ b → cond b (Some x) (named name records) ≡ None
            → item_named name (file about bytes others) ≡ None
        of later true here found = let never : ⊥ = cc in absurd never
        of later false here found =
            rw (test_is about x name false stand.1 here) (later found)
    none_named stream (x ∷ records) (folder about inside others) name stand is =
        of (none_named stream records others name stand.3) (bytes_eq x.name name) refl is
      where
        of : (named name records ≡ None → item_named name others ≡ None) → (b : Bool)
            → bytes_eq x.name name ≡ b → cond b (Some x) (named name records) ≡ None
            → item_named name (folder about inside others) ≡ None
        of later true here found = let never : ⊥ = cc in absurd never
        of later false here found =
            rw (test_is about x name false stand.1 here) (later found)

    in_folder : (s : Stored) (items : Items Numbered) (name : List ℕ) (found : Option Node)
        → StandsAs map s items → FindsNode map s name found
        → IsWhatIsThere map (item_named name items) found
    in_folder (stored.File e) items name found stand finds = absurd stand
    in_folder (stored.Folder entries metadata) items name found stand finds =
        let same = same_records entries metadata finds.0 stand.0 finds.1 stand.1 in
        of (named name stand.0) refl found
        (subst (λ (l : List Record). IsFoundItem map entries (named name l) found) same finds.2)
      where
        of : (o : Option Record) → named name stand.0 ≡ o → (there : Option Node)
            → IsFoundItem map entries o there → IsWhatIsThere map (item_named name items) there
        of None is None it =
            subst (λ (o : Option Kept). IsWhatIsThere map o None)
            (sym (none_named entries stand.0 items name stand.2 is)) tt
        of None is (Some node) it = absurd it
        of (Some r) is None it = absurd it
        of (Some r) is (Some node) it =
            let has = has_node entries stand.0 items name r node stand.2 is it in
            has.tells (lists_are map (stored.Folder entries metadata) items has.nodes stand
            (record { records = stand.0; are = stand.1; stand = has.are }))

    in_file : (s : Stored) (bytes name : List ℕ) (found : Option Node) → HoldsBytes map s bytes
        → FindsNode map s name found → IsWhatIsThere map None found
    in_file (stored.File e) bytes name found holds finds =
        subst (λ (o : Option Node). IsWhatIsThere map None o) (sym finds) tt
    in_file (stored.Folder entries metadata) bytes name found holds finds = absurd holds

    pub name_is_item : (kept : Kept) (node : Node) (name : List ℕ) (found : Option Node)
        → IsKept map kept node → FindsNode map node.stored name found
        → IsWhatIsThere map (item_named name (items_in kept)) found
    name_is_item (the_top items) node name found is finds =
        in_folder node.stored items name found is.3 finds
    name_is_item (a_file about bytes) node name found is finds =
        in_file node.stored bytes name found is.1 finds
    name_is_item (a_folder about inside) node name found is finds =
        in_folder node.stored inside name found is.1 finds

    -- ---- on the way to the top

    no_items : (s : Stored) (bytes : List ℕ) (nodes : List Node) → HoldsBytes map s bytes
        → Lists map s nodes → AreNodesOf map none nodes
    no_items (stored.File e) bytes nodes holds lists =
        subst (λ (l : List Node). AreNodesOf map none l) (sym lists) tt
    no_items (stored.Folder entries metadata) bytes nodes holds lists = absurd holds

    kept_lists : (kept : Kept) (node : Node) (nodes : List Node) → IsKept map kept node
        → Lists map node.stored nodes → AreNodesOf map (items_in kept) nodes
    kept_lists (the_top items) node nodes is lists =
        lists_are map node.stored items nodes is.3 lists
    kept_lists (a_file about bytes) node nodes is lists =
        no_items node.stored bytes nodes is.1 lists
    kept_lists (a_folder about inside) node nodes is lists =
        lists_are map node.stored inside nodes is.1 lists

    kept_files : (kept : Kept) (node : Node) (files : Option (List Node)) → IsKept map kept node
        → AreFiles map node files → IfSome files (AreNodesOf map (items_in kept))
    kept_files kept node None is are = tt
    kept_files kept node (Some nodes) is are = kept_lists kept node nodes is are

    -- a node that is kept at a path
    record IsAt (items : Items Numbered) (node : Node) : Type 0 where
      names : List (List ℕ)
      kept : Kept
      at : kept_at items names ≡ Some kept
      is : IsKept map kept node

    below : (items : Items Numbered) (up node : Node) (name : List ℕ) (it : IsAt items up)
        → FindsNode map up.stored name (Some node) → IsAt items node
    below items up node name it finds = of (item_named name (items_in it.kept)) refl
        (name_is_item it.kept up name (Some node) it.is finds)
      where
        of : (o : Option Kept) → item_named name (items_in it.kept) ≡ o
            → IsWhatIsThere map o (Some node) → IsAt items node
        of None is there = absurd there
        of (Some kept) is there = record {
          names = name ∷ it.names;
          kept = kept;
          at = ap (λ (o : Option Kept). option_and_then
              (λ (up : Kept). item_named name (items_in up)) o) it.at ∙ is;
          is = there;
        }

    module _ (score : List ℕ) (items : Items Numbered) (top : Node)
        (is_top : IsKept map (the_top items) top) where
      way_at : (node : Node) (above : List Node) → IsWay map top node above → IsAt items node
      way_at node [] way = record {
        names = [];
        kept = the_top items;
        at = refl;
        is = subst (λ (n : Node). IsKept map (the_top items) n) (sym way) is_top;
      }
      way_at node (up ∷ above) way =
          below items up node way.0.0 (way_at up above way.1) way.0.1

      fid_stands : (f : Fid) → IsRightFid map top f → StandsAt map items f
      fid_stands f right =
          let it = way_at f.node f.above right.way in
          record {
            names = it.names;
            kept = it.kept;
            at = it.at;
            node = it.is;
            files = kept_files it.kept f.node f.files it.is right.files;
          }

      fids_stand : (fids : List (ℕ × Fid)) → AllByRecursion (λ e. IsRightFid map top e.1) fids
          → AllByRecursion (λ e. StandsAt map items e.1) fids
      fids_stand [] right = tt
      fids_stand (e ∷ fids) right = (fid_stands e.1 right.0, fids_stand fids right.1)

      turns_stand : (known : ViewState) (turns : List MessageTurn) → known.top ≡ top
          → AreAnswered map known turns
          → AllByRecursion (λ turn. AllStand map items turn.known) turns
      turns_stand known [] is answered = tt
      turns_stand known (turn ∷ turns) is answered =
          let now = answered.0.top_stays ∙ is in (
            fids_stand turn.known.fids
                (subst (λ (t : Node). AllByRecursion (λ e. IsRightFid map t e.1) turn.known.fids)
                now answered.0.right.fids),
            turns_stand turn.known turns now answered.1,
          )

    pub fids_are_items : (score : List ℕ) (items : Items Numbered) (top : Node)
        (turns : List MessageTurn) → IsTreeOf map score items → ShowsArchive map score top turns
        → AllByRecursion (λ turn. AllStand map items turn.known) turns
    fids_are_items score items top turns tree shows =
        let is = shows.top_is in
        turns_stand score items top
        (is.item, is.qid, is.size, tops_stand map score items top tree is) (unasked top) turns refl
        shows.answered

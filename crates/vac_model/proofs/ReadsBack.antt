-- An archive's blocks stand for its folder.
use Rattle.std.proofs.Common.{◌≡◌, ℕ, ◌+◌, ◌*◌, ◌/◌, ◌%◌, ◌^◌, ◌<◌, ◌≤◌, Some, None, Option, List, [], ◌∷◌, ◌++◌, length, take, drop, refl, sym, ◌∙◌, ap, subst, arith, append_assoc, length-append, take_at, drop_at, take_all}
use Rattle.std.specs.List.{All, AllByRecursion, flat_map}
use Rattle.std.specs.Prelude.{bit_and}
use Rattle.std.proofs.Math.Nat.{div-add-mod', mod-lt}
use Rattle.std.proofs.lemmas.List.Elements.{All-head, All-tail}
use Rattle.std.proofs.lemmas.List.{length_push}
use Rattle.std.proofs.lemmas.Nat.{div-mul-add}
use Rattle.vt_out.specs.FolderItems.{Items, none, file, folder, other}
use Rattle.vt_model.specs.History.{Block}
use Rattle.vt_tree.specs.declared.entry.Entry.{Entry}
use Rattle.vt_tree.specs.Content.{byte_of, AreGiven, IsFileContent}
use Rattle.vt_tree.specs.Entries.{IsTreeEntry, SpellsEntry, tree_entry_bytes}
use Rattle.vt_tree.specs.Maps.{BlockMap, Has}
use Rattle.vt_tree.specs.Roots.{root_bytes}
use Rattle.vt_tree.specs.Streams.{Shape, FitsShape, depth_of, reach, stream_of, entry_of_stream}
use Rattle.vac_model.specs.declared.TheConstants.{MAX_METADATA, MAX_NESTING}
use Rattle.vac_model.specs.Archives.{file_shape, directory_shape, directory_entry, metadata_entry, item_entries, records_of, metadata, folder_blocks, blocks_of, top_bytes, root_of, archive_with}
use Rattle.vac_model.specs.Good.{IsGood, AreGood}
use Rattle.vac_model.specs.Kept.{Numbered}
use Rattle.vac_model.specs.Trees.{HasEntry, AreFolder, StandFor, AreTopEntries, IsTreeOf, entry_place, nesting}
use Rattle.vac_model.proofs.Metadata.{width, is_spelled, width_fits}
use Rattle.vac_model.proofs.Stands.{fits_file, fits_directory, all_left, all_right, part_given, stream_entry, spells, entry_len, entries_len, place_is, flat_split}

module _ (score_of : List ℕ → List ℕ) (map : BlockMap) (bsize : ℕ)
    (len : (block : List ℕ) → length (score_of block) ≡ 20) (least : 512 ≤ bsize)
    (most : bsize ≤ 53248)
    (depth_is_least : (shape : Shape) (size : ℕ) → FitsShape shape → size ≤ 2 ^ 40
    → (depth_of shape size < 8) × (size ≤ reach shape (depth_of shape size)))
    (reads_back : (shape : Shape) (bytes : List ℕ) → FitsShape shape → length bytes ≤ 2 ^ 40
    → All (Has score_of map) (stream_of score_of shape bytes).blocks
    → IsFileContent map (entry_of_stream score_of shape bytes) bytes)
  where
    abbrev HasAll : List Block → Type 0
    HasAll blocks = All (Has score_of map) blocks

    abbrev entries : Items Numbered → List Entry
    entries items = item_entries score_of bsize items

    abbrev directory : Items Numbered → Entry
    directory items = directory_entry score_of bsize (entries items)

    -- ---- entries

    file_entry : (bytes : List ℕ) → length bytes ≤ 2 ^ 40
        → IsTreeEntry (entry_of_stream score_of (file_shape bsize) bytes)
    file_entry bytes short =
        stream_entry score_of len depth_is_least (file_shape bsize) bytes
        (fits_file bsize least most)
        short

    dir_entry : (bytes : List ℕ) → length bytes ≤ 2 ^ 40
        → IsTreeEntry (entry_of_stream score_of (directory_shape bsize) bytes)
    dir_entry bytes short =
        stream_entry score_of len depth_is_least (directory_shape bsize) bytes
        (fits_directory bsize least most) short

    entries_width : (items : Items Numbered) → length (entries items) ≡ width items
    entries_width none = refl
    entries_width (file about bytes others) = omega (arith, entries_width others)
    entries_width (folder about inside others) = omega (arith, entries_width others)
    entries_width (other about others) = entries_width others

    -- the entry of a folder's directory, and that of its metadata
    folder_entries : (items : Items Numbered) → AllByRecursion IsTreeEntry (entries items)
        → length (metadata items) ≤ MAX_METADATA
        → (length (flat_map tree_entry_bytes (entries items)) ≤ 2 ^ 40) × IsTreeEntry (directory items)
        × IsTreeEntry (metadata_entry score_of bsize items)
    folder_entries items all short =
        let few : length (metadata items) ≤ 16777216 = short in
        let size : length (flat_map tree_entry_bytes (entries items)) ≤ 2 ^ 40 =
        omega (arith, entries_len (entries items) all, entries_width items, width_fits items short)
        in (
          size,
          dir_entry (flat_map tree_entry_bytes (entries items)) size,
          file_entry (metadata items) (omega (arith, few)),
        )

    are_entries : (last : Option (List ℕ)) (items : Items Numbered) → AreGood last items
        → AllByRecursion IsTreeEntry (entries items)
    are_entries last none good = tt
    are_entries last (file about bytes others) good =
        (file_entry bytes good.1, are_entries (Some about.facts.name) others good.2)
    are_entries last (folder about inside others) good =
        let two = folder_entries inside (are_entries None inside good.1) good.2 in
        (two.1, (two.2, are_entries (Some about.facts.name) others good.3))
    are_entries last (other about others) good = absurd good

    -- an entry of a folder stands in its directory
    has_entry : (all : List Entry) → AllByRecursion IsTreeEntry all
        → length (flat_map tree_entry_bytes all) ≤ 2 ^ 40
        → HasAll (stream_of score_of (directory_shape bsize) (flat_map tree_entry_bytes all)).blocks
        → (front : List Entry) (e : Entry) (back : List Entry) → all ≡ front ++ e ∷ back
        → HasEntry map (directory_entry score_of bsize all) (length front) e
    has_entry all are short has front e back is =
        let stream = directory_entry score_of bsize all in
        let bytes : List ℕ = flat_map tree_entry_bytes all in
        let content : IsFileContent map stream bytes =
        reads_back (directory_shape bsize) bytes (fits_directory bsize least most) short has in
        let each = all_front (front) (e ∷ back) (subst (AllByRecursion IsTreeEntry) is are) in
        let i : ℕ = length front in
        let before : length (flat_map tree_entry_bytes front) ≡ 40 * i = entries_len front each.0 in
        let forty : length (tree_entry_bytes e) ≡ 40 = entry_len e each.1.0 in
        let split : bytes
        ≡ flat_map tree_entry_bytes front ++ (tree_entry_bytes e ++ flat_map tree_entry_bytes back) =
        ap (flat_map tree_entry_bytes) is ∙ flat_split front e back in
        let place : entry_place stream i ≡ 40 * i = place_in i in
        record {
          bytes = tree_entry_bytes e;
          within = omega (
            arith,
            place,
            before,
            forty,
            ap length split,
            length-append (flat_map tree_entry_bytes front)
                (tree_entry_bytes e ++ flat_map tree_entry_bytes back),
            length-append (tree_entry_bytes e) (flat_map tree_entry_bytes back),
          );
          forty = forty;
          given = subst (λ (at : ℕ). AreGiven (byte_of map stream) at (tree_entry_bytes e))
              (before ∙ sym place)
              (part_given (byte_of map stream) (flat_map tree_entry_bytes front) (tree_entry_bytes e)
              (flat_map tree_entry_bytes back)
              (subst (λ (l : List ℕ). AreGiven (byte_of map stream) 0 l) split content.each));
          allowed = each.1.0;
          spelled = spells e;
        }
      where
        q : ℕ
        q = bsize / 40

        place_in : (i : ℕ)
            → i / (bsize / 40 * 40 / 40) * (bsize / 40 * 40) + 40 * (i % (bsize / 40 * 40 / 40))
            ≡ 40 * i
        place_in i =
            let d = div-add-mod' bsize 40 in
            let m : bsize % 40 < 40 = mod-lt bsize (omega arith) in
            let some : 0 < bsize / 40 = omega (arith, d, m, least) in
            let zero' : bsize / 40 * 40 ≡ bsize / 40 * 40 + 0 = omega arith in
            let each : bsize / 40 * 40 / 40 ≡ bsize / 40 =
            ap (λ (n : ℕ). n / 40) zero' ∙ div-mul-add (bsize / 40) 40 0 (omega arith) in
            ap (λ (k : ℕ). i / k * (bsize / 40 * 40) + 40 * (i % k)) each
            ∙ place_is (bsize / 40) i some

        all_front : (front back : List Entry) → AllByRecursion IsTreeEntry (front ++ back)
            → AllByRecursion IsTreeEntry front × AllByRecursion IsTreeEntry back
        all_front [] back all = (tt, all)
        all_front (f ∷ front) back all =
            let two = all_front front back all.1 in ((all.0, two.0), two.1)

    -- ---- folders

    are_folder : (items : Items Numbered) → AreGood None items
        → length (metadata items) ≤ MAX_METADATA
        → HasAll (folder_blocks score_of bsize items)
        → AreFolder map (directory items) (metadata_entry score_of bsize items)
        (records_of 0 items)
    are_folder items good short has =
        let few : length (metadata items) ≤ 16777216 = short in
        let two = folder_entries items (are_entries None items good) short in
        record {
          directory = refl;
          short_entries = two.0;
          plain = refl;
          bytes = metadata items;
          short = short;
          content = reads_back (file_shape bsize) (metadata items) (fits_file bsize least most)
              (omega (arith, few))
              (all_right (Has score_of map)
              (stream_of score_of (directory_shape bsize)
              (flat_map tree_entry_bytes (entries items))).blocks
              (stream_of score_of (file_shape bsize) (metadata items)).blocks has);
          spelled = is_spelled items good short;
        }

    -- each of a folder's entries stands in its directory
    each_entry : (items : Items Numbered) → AreGood None items
        → length (metadata items) ≤ MAX_METADATA
        → HasAll (folder_blocks score_of bsize items)
        → (front : List Entry) (e : Entry) (back : List Entry) → entries items ≡ front ++ e ∷ back
        → HasEntry map (directory items) (length front) e
    each_entry items good short has =
        let are = are_entries None items good in
        has_entry (entries items) are (folder_entries items are short).0
        (all_left (Has score_of map)
        (stream_of score_of (directory_shape bsize) (flat_map tree_entry_bytes (entries items))).blocks
        (stream_of score_of (file_shape bsize) (metadata items)).blocks has)

    says : (last : Option (List ℕ)) (about : Numbered) → IsGood last about → about ≡ record {
      facts = record {
        name = about.facts.name;
        mode = bit_and about.facts.mode 511;
        mtime = about.facts.mtime;
        uid = about.facts.uid;
        gid = about.facts.gid;
      };
      qid = about.qid;
    }
    says last about good = λ i. record {
      facts = record {
        name = about.facts.name;
        mode = sym good.mode i;
        mtime = about.facts.mtime;
        uid = about.facts.uid;
        gid = about.facts.gid;
      };
      qid = about.qid;
    }

    -- the records of items stand for them
    stand : (last : Option (List ℕ)) (items : Items Numbered) (stream : Entry)
        (all front : List Entry)
        → AreGood last items → all ≡ front ++ entries items
        → ((front : List Entry) (e : Entry) (back : List Entry) → all ≡ front ++ e ∷ back
        → HasEntry map stream (length front) e)
        → HasAll (blocks_of score_of bsize items)
        → StandFor map stream (records_of (length front) items) items
    stand last none stream all front good is there has = tt
    stand last (other about others) stream all front good is there has = absurd good
    stand last (file about bytes others) stream all front good is there has =
        let e : Entry = entry_of_stream score_of (file_shape bsize) bytes in
        let name = Some about.facts.name in
        let rest = stand name others stream all (front ++ e ∷ []) good.2
        (is ∙ sym (append_assoc front (e ∷ []) (entries others))) there
        (all_right (Has score_of map) (stream_of score_of (file_shape bsize) bytes).blocks
        (blocks_of score_of bsize others) has) in (
          refl,
          says last about good.0,
          record {
            entry = e;
            there = there front e (entries others) is;
            plain = refl;
            short = good.1;
            content = reads_back (file_shape bsize) bytes (fits_file bsize least most) good.1
                (all_left (Has score_of map) (stream_of score_of (file_shape bsize) bytes).blocks
                (blocks_of score_of bsize others) has);
          },
          subst (λ (n : ℕ). StandFor map stream (records_of n others) others) (length_push front e)
              rest,
        )
    stand last (folder about inside others) stream all front good is there has =
        let d : Entry = directory inside in
        let m : Entry = metadata_entry score_of bsize inside in
        let one : List Entry = front ++ d ∷ [] in
        let is_one : all ≡ one ++ (m ∷ entries others) =
        is ∙ sym (append_assoc front (d ∷ []) (m ∷ entries others)) in
        let within : HasAll (blocks_of score_of bsize inside
        ++ folder_blocks score_of bsize inside) =
        all_left (Has score_of map)
        (blocks_of score_of bsize inside ++ folder_blocks score_of bsize inside)
        (blocks_of score_of bsize others) has in
        let own : HasAll (folder_blocks score_of bsize inside) =
        all_right (Has score_of map) (blocks_of score_of bsize inside)
        (folder_blocks score_of bsize inside) within in
        let rest = stand (Some about.facts.name) others stream all (one ++ m ∷ []) good.3
        (is_one ∙ sym (append_assoc one (m ∷ []) (entries others))) there
        (all_right (Has score_of map)
        (blocks_of score_of bsize inside ++ folder_blocks score_of bsize inside)
        (blocks_of score_of bsize others) has) in
        let two : length (one ++ m ∷ []) ≡ length front + 2 =
        omega (arith, length_push one m, length_push front d) in (
          refl,
          says last about good.0,
          (
            d,
            records_of 0 inside,
            record {
              metadata = m;
              first = there front d (m ∷ entries others) is;
              second = subst (λ (n : ℕ). HasEntry map stream n m) (length_push front d)
                  (there one m (entries others) is_one);
              are = are_folder inside good.1 good.2 own;
            },
            stand None inside d (entries inside) [] good.1 refl
                (each_entry inside good.1 good.2 own)
                (all_left (Has score_of map) (blocks_of score_of bsize inside)
                (folder_blocks score_of bsize inside) within),
          ),
          subst (λ (n : ℕ). StandFor map stream (records_of n others) others) two rest,
        )

    -- ---- the root

    two_entries : (items : Items Numbered) → IsTreeEntry (directory items)
        → IsTreeEntry (metadata_entry score_of bsize items)
        → Has score_of map (record { kind = 2; bytes = top_bytes score_of bsize items })
        → AreTopEntries map (score_of (top_bytes score_of bsize items)) (directory items)
        (metadata_entry score_of bsize items)
    two_entries items d m has =
        let one : List ℕ = tree_entry_bytes (directory items) in
        let two : List ℕ = tree_entry_bytes (metadata_entry score_of bsize items) in
        let long_one : length one ≡ 40 = entry_len (directory items) d in
        let long_two : length two ≡ 40 = entry_len (metadata_entry score_of bsize items) m in
        let first : take 40 (one ++ two) ≡ one = take_at one two 40 long_one in
        let second : take 40 (drop 40 (one ++ two)) ≡ two =
        ap (take 40) (drop_at one two 40 long_one) ∙ take_all 40 two (omega (arith, long_two)) in
        record {
          bytes = one ++ two;
          block = has;
          long = omega (arith, length-append one two, long_one, long_two);
          first_allowed = d;
          first = subst (SpellsEntry (directory items)) (sym first) (spells (directory items));
          second_allowed = m;
          second = subst (SpellsEntry (metadata_entry score_of bsize items)) (sym second)
              (spells (metadata_entry score_of bsize items));
        }

    pub good_tree : (items : Items Numbered) → AreGood None items
        → length (metadata items) ≤ MAX_METADATA → nesting items ≤ MAX_NESTING
        → HasAll (archive_with score_of bsize items).blocks
        → IsTreeOf map (archive_with score_of bsize items).score items
    good_tree items good short deep has =
        let top : List ℕ = top_bytes score_of bsize items in
        let root_block : Block =
        record { kind = 1; bytes = root_bytes (root_of score_of bsize top) } in
        let top_block : Block = record { kind = 2; bytes = top } in
        let below : List Block =
        blocks_of score_of bsize items ++ folder_blocks score_of bsize items in
        let rest = all_left (Has score_of map) below (top_block ∷ (root_block ∷ [])) has in
        let last = all_right (Has score_of map) below (top_block ∷ (root_block ∷ [])) has in
        let own = all_right (Has score_of map) (blocks_of score_of bsize items)
        (folder_blocks score_of bsize items) rest in
        let three = folder_entries items (are_entries None items good) short in
        record {
          top = score_of top;
          archive = record {
            root = root_of score_of bsize top;
            allowed = record {
              name = refl;
              kind = refl;
              score = len top;
              block_size = omega (arith, most);
              prev = len [];
            };
            block = All-head (Has score_of map) root_block []
                (All-tail (Has score_of map) top_block (root_block ∷ []) last);
            kind = refl;
            least = least;
            most = most;
            names = refl;
          };
          entries = directory items;
          metadata = metadata_entry score_of bsize items;
          are_there = two_entries items three.1 three.2
              (All-head (Has score_of map) top_block (root_block ∷ []) last);
          records = records_of 0 items;
          are = are_folder items good short own;
          stand = stand None items (directory items) (entries items) [] good refl
              (each_entry items good short own)
              (all_left (Has score_of map) (blocks_of score_of bsize items)
              (folder_blocks score_of bsize items) rest);
          deep = deep;
        }

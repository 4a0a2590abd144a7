-- A score is that of one folder at most.
use Rattle.std.proofs.Common.{◌≡◌, ℕ, ◌+◌, Ok, Some, List, [], ◌∷◌, length, take, drop, refl, sym, ◌∙◌, ap, subst, arith}
use Rattle.std.specs.Prelude.{Result, slice_index}
use Rattle.std.proofs.lemmas.List.{ext_get_or}
use Rattle.vt_out.specs.FolderItems.{Items, none, file, folder, other}
use Rattle.vt_tree.specs.declared.entry.Entry.{Entry}
use Rattle.vt_tree.specs.declared.plain.ContentError.{ContentError}
use Rattle.vt_tree.specs.declared.root.Root.{Root}
use Rattle.vt_tree.specs.Content.{byte_of, AreGiven, IsFileContent}
use Rattle.vt_tree.specs.Entries.{IsTreeEntry, SpellsEntry}
use Rattle.vt_tree.specs.Maps.{BlockMap}
use Rattle.vt_tree.specs.Roots.{IsRoot, root_bytes}
use Rattle.vac_meta.specs.declared.record.Record.{Record}
use Rattle.vac_meta.specs.declared.record.RecordKind.{RecordKind}
use Rattle.vac_meta.specs.declared.record.RecordKind.TheVariants.{File, Folder}
use Rattle.vac_meta.specs.Records.{SpellsMetadata}
use Rattle.vac_model.specs.Kept.{Numbered}
use Rattle.vac_model.specs.Trees.{HasEntry, HasFile, AreFolder, HasFolder, StandFor, IsTreeOf, entry_place}

-- bytes that are given at one place are the same
same_given : (byte : ℕ → Result ℕ ContentError) (at : ℕ) (x y : List ℕ) → length x ≡ length y
    → AreGiven byte at x → AreGiven byte at y → x ≡ y
same_given byte at x y len a b =
    ext_get_or 0 x y len (λ i within. ok_is_ok (slice_index x i) (slice_index y i)
    (byte (at + i)) (a i within) (b i (omega (arith, within, len))))
  where
    ok_is_ok : (m n : ℕ) (r : Result ℕ ContentError) → r ≡ Ok m → r ≡ Ok n → m ≡ n
    ok_is_ok m n r e f = cc

some_is_some : {A : Type 0} (a b : A) → Some a ≡ Some b → a ≡ b
some_is_some a b e = cc

file_is_no_folder : (kind : RecordKind) → kind ≡ File → kind ≡ Folder → ⊥
file_is_no_folder kind a b = let e : File ≡ Folder = sym a ∙ b in cc

module _ (one_entry : (a b : Entry) (bytes : List ℕ) → IsTreeEntry a → IsTreeEntry b
    → SpellsEntry a bytes → SpellsEntry b bytes → a ≡ b)
    (one_root : (a b : Root) → IsRoot a → IsRoot b → root_bytes a ≡ root_bytes b → a ≡ b)
    (one_content : (map : BlockMap) (e : Entry) (a b : List ℕ) → IsFileContent map e a
    → IsFileContent map e b → a ≡ b)
    (one_metadata : (a b : List Record) (bytes : List ℕ) → SpellsMetadata a bytes → SpellsMetadata b bytes
    → a ≡ b)
  where
    module _ (map : BlockMap) where
      same_entry : (stream : Entry) (i : ℕ) (a b : Entry) → HasEntry map stream i a
          → HasEntry map stream i b → a ≡ b
      same_entry stream i a b x y =
          let bytes = same_given (byte_of map stream) (entry_place stream i) x.bytes y.bytes
          (x.forty ∙ sym y.forty) x.given y.given in
          one_entry a b x.bytes x.allowed y.allowed x.spelled
          (subst (λ (l : List ℕ). SpellsEntry b l) (sym bytes) y.spelled)

      same_file : (stream : Entry) (i : ℕ) (a b : List ℕ) → HasFile map stream i a
          → HasFile map stream i b → a ≡ b
      same_file stream i a b x y =
          let entry = same_entry stream i x.entry y.entry x.there y.there in
          one_content map x.entry a b x.content
          (subst (λ (e : Entry). IsFileContent map e b) (sym entry) y.content)

      same_records : (entries e metadata : Entry) (a b : List Record)
          → AreFolder map entries metadata a → AreFolder map e metadata b → a ≡ b
      same_records entries e metadata a b x y =
          let bytes = one_content map metadata x.bytes y.bytes x.content y.content in
          one_metadata a b x.bytes x.spelled
          (subst (λ (l : List ℕ). SpellsMetadata b l) (sym bytes) y.spelled)

      same_folder : (stream : Entry) (i : ℕ) (e f : Entry) (a b : List Record)
          → HasFolder map stream i e a → HasFolder map stream i f b → (e ≡ f) × (a ≡ b)
      same_folder stream i e f a b x y =
          let metadata = same_entry stream (i + 1) x.metadata y.metadata x.second y.second in (
            same_entry stream i e f x.first y.first,
            same_records e f x.metadata a b x.are
                (subst (λ (m : Entry). AreFolder map f m b) (sym metadata) y.are),
          )

      same_items : (stream : Entry) (records : List Record) (a b : Items Numbered)
          → StandFor map stream records a → StandFor map stream records b → a ≡ b
      same_items stream [] none none x y = refl
      same_items stream [] none (file about bytes others) x y = absurd y
      same_items stream [] none (folder about inside others) x y = absurd y
      same_items stream [] none (other about others) x y = absurd y
      same_items stream [] (file about bytes others) b x y = absurd x
      same_items stream [] (folder about inside others) b x y = absurd x
      same_items stream [] (other about others) b x y = absurd x
      same_items stream (r ∷ records) none b x y = absurd x
      same_items stream (r ∷ records) (other about others) b x y = absurd x
      same_items stream (r ∷ records) (file about bytes others) none x y = absurd y
      same_items stream (r ∷ records) (file about bytes others) (other a o) x y = absurd y
      same_items stream (r ∷ records) (file about bytes others) (folder a j o) x y =
          absurd (file_is_no_folder r.kind x.0 y.0)
      same_items stream (r ∷ records) (file about bytes others) (file a c o) x y =
          let facts : about ≡ a = x.1 ∙ sym y.1 in
          let content = same_file stream r.entry bytes c x.2 y.2 in
          let rest = same_items stream records others o x.3 y.3 in
          λ i. file (facts i) (content i) (rest i)
      same_items stream (r ∷ records) (folder about inside others) none x y = absurd y
      same_items stream (r ∷ records) (folder about inside others) (other a o) x y = absurd y
      same_items stream (r ∷ records) (folder about inside others) (file a c o) x y =
          absurd (file_is_no_folder r.kind y.0 x.0)
      same_items stream (r ∷ records) (folder about inside others) (folder a j o) x y =
          let facts : about ≡ a = x.1 ∙ sym y.1 in
          let p = x.2 in
          let q = y.2 in
          let both = same_folder stream r.entry p.0 q.0 p.1 q.1 p.2 q.2 in
          let below : StandFor map p.0 p.1 j =
          subst (λ (e : Entry). StandFor map e p.1 j) (sym both.0)
          (subst (λ (l : List Record). StandFor map q.0 l j) (sym both.1) q.3) in
          let within = same_items p.0 p.1 inside j p.3 below in
          let rest = same_items stream records others o x.3 y.3 in
          λ i. folder (facts i) (within i) (rest i)

      pub same_tree : (score : List ℕ) (a b : Items Numbered) → IsTreeOf map score a
          → IsTreeOf map score b → a ≡ b
      same_tree score a b x y =
          let root = one_root x.archive.root y.archive.root x.archive.allowed y.archive.allowed
          (some_is_some (root_bytes x.archive.root) (root_bytes y.archive.root)
          (sym x.archive.block ∙ y.archive.block)) in
          let top : x.top ≡ y.top =
          sym x.archive.names ∙ ap (λ (r : Root). r.score.0) root ∙ y.archive.names in
          let t = x.are_there in
          let u = y.are_there in
          let bytes : t.bytes ≡ u.bytes =
          some_is_some t.bytes u.bytes
          (sym t.block ∙ ap (λ (s : List ℕ). map s 2) top ∙ u.block) in
          let entries = one_entry x.entries y.entries (take 40 t.bytes) t.first_allowed
          u.first_allowed t.first
          (subst (λ (l : List ℕ). SpellsEntry y.entries (take 40 l)) (sym bytes) u.first) in
          let metadata = one_entry x.metadata y.metadata (take 40 (drop 40 t.bytes))
          t.second_allowed u.second_allowed t.second
          (subst (λ (l : List ℕ). SpellsEntry y.metadata (take 40 (drop 40 l))) (sym bytes)
          u.second) in
          let records = same_records x.entries y.entries x.metadata x.records y.records x.are
          (subst (λ (m : Entry). AreFolder map y.entries m y.records) (sym metadata) y.are) in
          let stand : StandFor map x.entries x.records b =
          subst (λ (e : Entry). StandFor map e x.records b) (sym entries)
          (subst (λ (l : List Record). StandFor map y.entries l b) (sym records) y.stand) in
          same_items x.entries x.records a b x.stand stand

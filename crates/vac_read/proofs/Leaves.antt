-- The entries that stand in a leaf of a directory.
use Rattle.std.proofs.Common.{◌≡◌, ℕ, zero, suc, ◌+◌, ◌*◌, ◌/◌, ◌%◌, ◌<◌, ◌≤◌, ◌^◌, ◌==◌, ◌⊎◌, inl, inr, nat_lt, Bool, true, false, Option, Result, Ok, Err, Some, None, List, [], length, take, drop, refl, sym, ◌∙◌, ap, subst, arith, add-zero, if◌then◌else◌}
use Rattle.std.specs.Prelude.{not}
use Rattle.std.proofs.lemmas.Bool.{lt-ltb}
use Rattle.std.proofs.lemmas.List.{get_or-take, get_or-drop, length-take, length-drop}
use Rattle.std.proofs.lemmas.Nat.{div-mul-add, mod-mul-add}
use Rattle.std.specs.Prelude.{slice_index}
use Rattle.vt_tree.specs.declared.entry.Entry.{Entry}
use Rattle.vt_tree.specs.declared.entry.EntryError.{EntryError}
use Rattle.vt_tree.specs.declared.entry.EntryField.TheVariants.{PSize, DSize}
use Rattle.vt_tree.specs.declared.error.TreeErr.{TreeErr}
use Rattle.vt_tree.specs.declared.error.TreeErr.TheVariants as trees
use Rattle.vt_tree.specs.declared.plain.ContentError.{ContentError}
use Rattle.vt_tree.specs.declared.plain.ContentError.TheVariants.{Absent, BadBlock}
use Rattle.vt_tree.specs.Content.{FirstTrouble, byte_below, byte_of, byte_of_leaf, fits_at, leaf_kind, pointer_kind, score_of_pointers, scores_in, size_of, through}
use Rattle.vt_tree.specs.Entries.{SpellsEntry, bad}
use Rattle.vt_tree.specs.Maps.{BlockMap}
use Rattle.vt_tree.specs.Reading.{GivesBytes, refusal_in}
use Rattle.vac_model.specs.Trees.{entry_place}
use Rattle.vac_read.specs.declared.error.VacBad.{VacBad}
use Rattle.vac_read.specs.declared.error.VacBad.TheVariants.{Tree, Root, Meta, NoMemory}
use Rattle.vac_read.specs.Broken.{HasEntryBytes, IsUnread, LacksDirectoryEntry}
use Rattle.vac_read.specs.Folders.{IsLeaf, IsPlace, TellsBytes, TellsEntry}
use Rattle.vac_read.specs.Nodes.{IsDirectory}
use Rattle.vac_read.specs.Reading.{refused_by}

-- ---- a trouble is that of a whole leaf

fitting_trouble : (fits : Bool) (x y : ℕ) (other t : ContentError)
    → (if fits then Ok x else Err other) ≡ Err t → (if fits then Ok y else Err other) ≡ Err t
fitting_trouble true x y other t is =
    let never : ◌≡◌ {A = Result ℕ ContentError} (Ok x) (Err t) = is in cc
fitting_trouble false x y other t is = is

leaf_trouble : (e : Entry) (block : Option (List ℕ)) (a b : ℕ) (t : ContentError)
    → byte_of_leaf e a block ≡ Err t → byte_of_leaf e b block ≡ Err t
leaf_trouble e None a b t is = is
leaf_trouble e (Some block) a b t is =
    fitting_trouble (fits_at e 0 block) (slice_index block a) (slice_index block b)
    (BadBlock 0 (length block)) t is

through_trouble : (r : Result (Option (List ℕ)) ContentError) (f g : List ℕ → Result ℕ ContentError)
    (t : ContentError) → ((s : List ℕ) → f s ≡ Err t → g s ≡ Err t)
    → through r f ≡ Err t → through r g ≡ Err t
through_trouble (Err trouble) f g t same is = is
through_trouble (Ok None) f g t same is =
    let never : ◌≡◌ {A = Result ℕ ContentError} (Ok 0) (Err t) = is in cc
through_trouble (Ok (Some s)) f g t same is = same s is

below_trouble : (map : BlockMap) (e : Entry) (depth : ℕ) (score : List ℕ) (leaf a b : ℕ)
    (t : ContentError) → byte_below map e depth score leaf a ≡ Err t
    → byte_below map e depth score leaf b ≡ Err t
below_trouble map e zero score leaf a b t is =
    leaf_trouble e (map score (leaf_kind e.is_dir)) a b t is
below_trouble map e (suc d) score leaf a b t is =
    let leaves = scores_in e.psize ^ d in
    through_trouble
    (score_of_pointers e (suc d) (leaf / leaves) (map score (pointer_kind (suc d))))
    (λ s. byte_below map e d s (leaf % leaves) a) (λ s. byte_below map e d s (leaf % leaves) b) t
    (λ s. below_trouble map e d s (leaf % leaves) a b t) is

-- the byte at this place of this leaf
byte_at : BlockMap → Entry → (leaf byte : ℕ) → Result ℕ ContentError
byte_at map e leaf byte =
    if nat_lt leaf (scores_in e.psize ^ e.depth) then byte_below map e e.depth e.score.0 leaf byte
    else Ok 0

byte_inside : (map : BlockMap) (e : Entry) (leaf byte : ℕ) → byte < e.dsize
    → byte_of map e (leaf * e.dsize + byte) ≡ byte_at map e leaf byte
unfolding byte_at
byte_inside map e leaf byte within =
    ap (λ (n : ℕ). byte_at map e n ((leaf * e.dsize + byte) % e.dsize))
    (div-mul-add leaf e.dsize byte within)
    ∙ ap (λ (n : ℕ). byte_at map e leaf n) (mod-mul-add leaf e.dsize byte within)

reached_trouble : (reached : Bool) (r s : Result ℕ ContentError) (t : ContentError)
    → (r ≡ Err t → s ≡ Err t) → (if reached then r else Ok 0) ≡ Err t
    → (if reached then s else Ok 0) ≡ Err t
reached_trouble true r s t same is = same is
reached_trouble false r s t same is = is

byte_trouble : (map : BlockMap) (e : Entry) (leaf a b : ℕ) (t : ContentError) → a < e.dsize
    → b < e.dsize → byte_of map e (leaf * e.dsize + a) ≡ Err t
    → byte_of map e (leaf * e.dsize + b) ≡ Err t
unfolding byte_at
byte_trouble map e leaf a b t a_in b_in is =
    byte_inside map e leaf b b_in
    ∙ reached_trouble (nat_lt leaf (scores_in e.psize ^ e.depth))
    (byte_below map e e.depth e.score.0 leaf a) (byte_below map e e.depth e.score.0 leaf b) t
    (below_trouble map e e.depth e.score.0 leaf a b t)
    (sym (byte_inside map e leaf a a_in) ∙ is)

-- ---- entries

ok : ℕ → Result ℕ ContentError
ok n = Ok n

-- what is kept, where it begins there
pub kept_leaf : (map : BlockMap) (stream : Entry) (start at : ℕ) (leaf : List ℕ)
    → (length leaf == 0) ≡ false → start ≡ at → (leaf ≡ []) ⊎ IsLeaf map stream start leaf
    → IsLeaf map stream at leaf
kept_leaf map stream start at leaf some same (inl none) =
    let never : true ≡ false = sym (ap (λ (l : List ℕ). length l == 0) none) ∙ some in cc
kept_leaf map stream start at leaf some same (inr is) =
    subst (λ (n : ℕ). IsLeaf map stream n leaf) same is

-- a directory with bytes has whole entries in its leaves
no_fault : (active pointers leaves : Bool) (x y : EntryError)
    → (if not active then None else if pointers then Some x else if leaves then Some y else None)
    ≡ None → leaves ≡ true → active ≡ false
no_fault false pointers leaves x y none bad = refl
no_fault true true leaves x y none bad = let never : Some x ≡ None = none in cc
no_fault true false false x y none bad = cc
no_fault true false true x y none bad = let never : Some y ≡ None = none in cc

whole_entries : (e : Entry) → IsDirectory e → e.dsize / 40 ≡ 0 → size_of e ≡ 0
whole_entries e is none =
    let small : e.dsize < 40 = omega arith in
    let leaves : nat_lt e.dsize (if e.is_dir then 40 else 1) ≡ true =
    ap (λ (b : Bool). nat_lt e.dsize (if b then 40 else 1)) is.1 ∙ lt-ltb e.dsize 40 small in
    let idle = no_fault e.active (nat_lt e.psize 20)
    (nat_lt e.dsize (if e.is_dir then 40 else 1)) (bad PSize e.psize) (bad DSize e.dsize)
    is.0.allowed leaves in
    ap (λ (b : Bool). if b then e.size else 0) idle

pub ends_before : (e : Entry) (i : ℕ) → IsDirectory e → e.dsize / 40 ≡ 0
    → size_of e < entry_place e i + 40
ends_before e i is none = let size = whole_entries e is none in omega arith

module _ (map : BlockMap) (stream : Entry) (i start inside : ℕ)
    (place : IsPlace stream i start inside)
  where
    at_place : start + inside ≡ entry_place stream i
    at_place = λ k. place.start_is k + place.inside_is k

    -- a trouble in the leaf is one of the entry
    entry_trouble : (len : ℕ) (t : ContentError) → len ≤ stream.dsize
        → FirstTrouble (byte_of map stream) start len t
        → FirstTrouble (byte_of map stream) (entry_place stream i) 40 t
    entry_trouble len t most first =
        let leaf = i / (stream.dsize / 40) in
        let within = place.within in
        let has : byte_of map stream (leaf * stream.dsize + first.place) ≡ Err t =
        subst (λ (n : ℕ). byte_of map stream (n + first.place) ≡ Err t) place.start_is first.has in
        record {
          place = 0;
          within = omega arith;
          has = ap (λ (n : ℕ). byte_of map stream n) (add-zero (entry_place stream i))
              ∙ ap (λ (n : ℕ). byte_of map stream n) (sym at_place)
              ∙ ap (λ (n : ℕ). byte_of map stream (n + inside)) place.start_is
              ∙ byte_trouble map stream leaf first.place inside t (omega (arith, first.within))
              (omega arith) has;
          before = λ k below. absurd (omega arith);
        }

    unread_tree : (len : ℕ) (err : TreeErr) → len ≤ stream.dsize
        → GivesBytes (byte_of map stream) start len (Err err)
        → GivesBytes (byte_of map stream) (entry_place stream i) 40 (Err err)
    unread_tree len (trees.Block err) most gives =
        λ refused. entry_trouble len Absent most (gives refused)
    unread_tree len trees.SourceFault most gives = tt
    unread_tree len (trees.BadEntry bad) most gives = tt
    unread_tree len (trees.BadBlock depth size) most gives =
        entry_trouble len (BadBlock depth size) most gives
    unread_tree len trees.TooLong most gives = tt
    unread_tree len trees.NoMemory most gives = tt

    unread_here : (len : ℕ) (bad : VacBad) → len ≤ stream.dsize
        → IsUnread map stream start len bad → IsUnread map stream (entry_place stream i) 40 bad
    unread_here len (Tree err) most unread = (unread_tree len err most unread.0, unread.1)
    unread_here len (Root field) most unread = absurd unread
    unread_here len (Meta at) most unread = absurd unread
    unread_here len NoMemory most unread = absurd unread

    -- where the leaf isn't given, the entry isn't
    pub unread_entry : (len : ℕ) (is_dir : Bool) (field : ℕ) (bad : VacBad) → len ≤ stream.dsize
        → IsUnread map stream start len bad → LacksDirectoryEntry map stream i is_dir field bad
    unread_entry len is_dir field bad most unread =
        let within : entry_place stream i + 40 ≤ size_of stream =
        subst (λ (n : ℕ). n + 40 ≤ size_of stream) at_place place.there in
        inr (inl (within, unread_here len bad most unread))

    leaf_len : (leaf : List ℕ) → IsLeaf map stream start leaf → inside + 40 ≤ length leaf
    leaf_len leaf is =
        let within = place.within in let there = place.there in omega (arith, is.all)

    -- the leaf has it whole
    pub leaf_is_long : (leaf : List ℕ) → IsLeaf map stream start leaf
        → length leaf < inside + 40 → ⊥
    leaf_is_long leaf is short = let long = leaf_len leaf is in absurd (omega arith)

    -- and these are its bytes
    leaf_entry : (leaf : List ℕ) → IsLeaf map stream start leaf
        → HasEntryBytes map stream i (take 40 (drop inside leaf))
    unfolding ok
    leaf_entry leaf is =
        let long = leaf_len leaf is in
        let forty : length (take 40 (drop inside leaf)) ≡ 40 =
        simp (length-take, length-drop) (omega arith) in
        record {
          within = subst (λ (n : ℕ). n + 40 ≤ size_of stream) at_place place.there;
          forty = forty;
          given = λ k within.
              let below : k < 40 = omega arith in
              ap (λ (n : ℕ). byte_of map stream (n + k)) (sym at_place)
              ∙ ap (λ (n : ℕ). byte_of map stream n) (omega arith)
              ∙ is.given (inside + k) (omega arith)
              ∙ ap (λ (n : ℕ). ok n)
              (sym (get_or-take 40 (drop inside leaf) k 0 below
              ∙ get_or-drop inside leaf k 0));
        }

    pub told_entry : (leaf bytes : List ℕ) (is_dir : Bool) (field : ℕ)
        (result : Result Entry VacBad) → IsLeaf map stream start leaf
        → bytes ≡ take 40 (drop inside leaf) → TellsBytes bytes is_dir field result
        → TellsEntry stream i is_dir field result map
    told_entry leaf bytes is_dir field (Ok e) is are told =
        let has = leaf_entry leaf is in (
          record {
            bytes = take 40 (drop inside leaf);
            within = has.within;
            forty = has.forty;
            given = has.given;
            allowed = told.0;
            spelled = subst (SpellsEntry e) are told.1;
          },
          told.2,
        )
    told_entry leaf bytes is_dir field (Err bad) is are told =
        λ some. inr (inr (
          bytes,
          subst (HasEntryBytes map stream i) (sym are) (leaf_entry leaf is),
          told,
        ))

-- what isn't an entry is no refusal of a call
pub bytes_refuse_nothing : (bytes : List ℕ) (is_dir : Bool) (field : ℕ)
    (result : Result Entry VacBad) → TellsBytes bytes is_dir field result
    → refused_by result ≡ None
bytes_refuse_nothing bytes is_dir field (Ok e) told = refl
bytes_refuse_nothing bytes is_dir field (Err (Tree err)) told = ap refusal_in told.1
bytes_refuse_nothing bytes is_dir field (Err (Root root_field)) told = absurd told
bytes_refuse_nothing bytes is_dir field (Err (Meta at)) told = refl
bytes_refuse_nothing bytes is_dir field (Err NoMemory) told = absurd told

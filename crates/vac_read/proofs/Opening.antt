-- The blocks that lead to an archive's top folder.
use Rattle.std.proofs.Common.{◌≡◌, ℕ, Option, Ok, Some, None, true, false, List, take, drop, refl, sym, ◌∙◌, ap, inl, inr}
use Rattle.vt_tree.specs.declared.root.Root.{Root as TreeRoot}
use Rattle.vt_tree.specs.Calls.{Call, get, TellsOfMap, after}
use Rattle.vt_tree.specs.Maps.{BlockMap, Maps}
use Rattle.vt_tree.specs.Reading.{refusal_in}
use Rattle.vac_model.specs.Trees.{IsArchive}
use Rattle.vac_read.specs.declared.error.VacBad.{VacBad}
use Rattle.vac_read.specs.declared.error.VacBad.TheVariants.{Tree, Root, Meta, NoMemory}
use Rattle.vac_read.specs.declared.node.Stored.{Stored}
use Rattle.vac_read.specs.declared.node.Stored.TheVariants as stored
use Rattle.vac_read.specs.Broken.{AreNoEntries, IsNoEntry}
use Rattle.vac_read.specs.Folders.{BeginsWithFolder, IsArchiveRoot, IsNoRoot}
use Rattle.vac_read.specs.Nodes.{AreTop}
use Rattle.vac_read.specs.Reading.{ReadsArchive, IsNoArchive, refusal_of}
use Rattle.vac_read.proofs.Readings.{block_told, reads_then}

-- ---- what is no refusal of a call

pub no_root_refuses : (bytes : List ℕ) (bad : VacBad) → IsNoRoot bytes bad
    → refusal_of bad ≡ None
no_root_refuses bytes bad why = ap refusal_of why.1

no_entry_refuses : (bytes : List ℕ) (is_dir : _) (field : ℕ) (bad : VacBad)
    → IsNoEntry bytes is_dir field bad → refusal_of bad ≡ None
no_entry_refuses bytes is_dir field (Tree err) why = ap refusal_in why.1
no_entry_refuses bytes is_dir field (Root root_field) why = refl
no_entry_refuses bytes is_dir field (Meta at) why = refl
no_entry_refuses bytes is_dir field NoMemory why = refl

pub no_entries_refuse : (bytes : List ℕ) (bad : VacBad) → AreNoEntries bytes bad
    → refusal_of bad ≡ None
no_entries_refuse bytes bad (inl short) = ap refusal_of short.0
no_entries_refuse bytes bad (inr (long, inl why)) = no_entry_refuses (take 40 bytes) true 0 bad why
no_entries_refuse bytes bad (inr (long, inr why)) =
    no_entry_refuses (take 40 (drop 40 bytes)) false 0 bad why.1

-- ---- what the blocks say

abbrev some : List ℕ → Option (List ℕ)
some l = Some l

module _ (map : BlockMap) (score block bytes : List ℕ) (there : map score 1 ≡ Some block)
    (same : bytes ≡ block)
  where
    pub no_archive : (bad : VacBad) → IsNoRoot bytes bad → IsNoArchive map score bad
    no_archive bad why =
        inr (inl (
          why.0,
          why.1,
          bytes,
          there ∙ ap some (sym same),
          why.2,
        ))

    pub archive_is : (root : TreeRoot) → IsArchiveRoot bytes root
        → IsArchive map score root.score.0
    archive_is root is = record {
      root = root;
      allowed = is.allowed;
      block = there ∙ ap some (sym same ∙ is.is);
      kind = is.kind;
      least = is.least;
      most = is.most;
      names = refl;
    }

pub top_is : (map : BlockMap) (top block bytes : List ℕ) (s : Stored) → map top 2 ≡ Some block
    → bytes ≡ block → BeginsWithFolder bytes s → AreTop map top s
top_is map top block bytes (stored.File e) there same begins = absurd begins
top_is map top block bytes (stored.Folder entries metadata) there same begins = (
  record {
    bytes = bytes;
    block = there ∙ ap some (sym same);
    long = begins.0;
    first_allowed = begins.1;
    first = begins.2;
    second_allowed = begins.4;
    second = begins.5;
  },
  begins.3,
  begins.6,
)

-- the blocks of a root and of what it names
pub two_blocks : {S : Type 0} (does : S → Call → S → Type 0) (holds : S → Maps → Type 0)
    (score_of : List ℕ → List ℕ)
    (law : (s s' : S) (call : Call) (m : Maps) → does s call s' → holds s m
    → TellsOfMap score_of m.held call × holds s' (after score_of call m))
    (a b c : S) (score top root block : List ℕ) → does a (get 1 score (Ok root)) b
    → does b (get 2 top (Ok block)) c
    → ReadsArchive does holds score_of a c (Ok block)
    (λ map. (map score 1 ≡ Some root) × (map top 2 ≡ Some block))
two_blocks does holds score_of law a b c score top root block first second =
    reads_then does holds score_of a b c root (Ok block) (Ok block) _ _ _ refl
    (block_told does holds score_of law a b score 1 (Ok root) first)
    (block_told does holds score_of law b c top 2 (Ok block) second)
    (λ map one two. (one, two))

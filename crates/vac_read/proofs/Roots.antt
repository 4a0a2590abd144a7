-- What the fields of a root say.
use Rattle.std.proofs.Common.{◌≡◌, ℕ, ◌<◌, ◌≤◌, Bool, true, if◌then◌else◌, Option, Some, None, List, ◌∙◌, ap, nat_lt, arith}
use Rattle.std.specs.Prelude.{not, codes, ◌==◌}
use Rattle.std.specs.Option.{option_or, option_map}
use Rattle.std.specs.Str.{bytes_eq}
use Rattle.std.proofs.lemmas.Bool.{lt-ltb, le-ltb}
use Rattle.std.proofs.lemmas.Slice.Eq.{bytes_eq-Decides}
use Rattle.byteorder.specs.Endian.{big_number}
use Rattle.vt_base.specs.Filled.{filled}
use Rattle.vt_tree.specs.declared.root.Root.{Root}
use Rattle.vt_tree.specs.declared.root.RootError.TheVariants as fields
use Rattle.vt_tree.specs.Roots.{IsRoot, root_bytes, root_fault}
use Rattle.vt_tree.proofs.RootBytes.{spelled_root_is_read}
use Rattle.vac_model.specs.declared.TheConstants.{MIN_BLOCK_SIZE, MAX_BLOCK_SIZE}
use Rattle.vac_read.specs.declared.error.RootField.{RootField}
use Rattle.vac_read.specs.declared.error.RootField.TheVariants.{«Type» as Kind, BlockSize}
use Rattle.vac_read.specs.Broken.{field_of, root_flaw}

abbrev kind_bytes : List ℕ
kind_bytes = filled 128 (codes "rvac")

-- the tests of a root's type and block size
abbrev flaw_behind : (kind : List ℕ) → (size : ℕ) → Option RootField
flaw_behind kind size =
    if not (bytes_eq kind kind_bytes) then Some Kind
    else if nat_lt size MIN_BLOCK_SIZE then Some BlockSize
    else if nat_lt MAX_BLOCK_SIZE size then Some BlockSize
    else None

module _ (bytes : List ℕ) (root : Root) (is : IsRoot root) (are : bytes ≡ root_bytes root) where
  no_fault : root_fault bytes ≡ None
  no_fault =
      let read = spelled_root_is_read root bytes is are in
      ap (λ (n : ℕ).
      if not (n == 300) then Some fields.Length
      else if not (big_number 2 bytes == 2) then Some fields.Version
      else None) read.1
      ∙ ap (λ (n : ℕ). if not (n == 2) then Some fields.Version else None) read.2

  flaw_is : root_flaw bytes ≡ flaw_behind root.kind root.block_size
  flaw_is =
      let read = (spelled_root_is_read root bytes is are).0 in
      λ i. option_or (option_map field_of (no_fault i))
      (flaw_behind (read i).kind (read i).block_size)

  pub kind_flaw : not (bytes_eq root.kind (filled 128 (codes "rvac"))) ≡ true
      → root_flaw bytes ≡ Some Kind
  kind_flaw other =
      flaw_is ∙ ap (λ (b : Bool).
      if b then Some Kind
      else if nat_lt root.block_size MIN_BLOCK_SIZE then Some BlockSize
      else if nat_lt MAX_BLOCK_SIZE root.block_size then Some BlockSize
      else None) other

  sized : root.kind ≡ kind_bytes
      → root_flaw bytes
      ≡ (if nat_lt root.block_size MIN_BLOCK_SIZE then Some BlockSize
      else if nat_lt MAX_BLOCK_SIZE root.block_size then Some BlockSize
      else None)
  sized same =
      flaw_is ∙ ap (λ (b : Bool).
      if not b then Some Kind
      else if nat_lt root.block_size MIN_BLOCK_SIZE then Some BlockSize
      else if nat_lt MAX_BLOCK_SIZE root.block_size then Some BlockSize
      else None) ((bytes_eq-Decides root.kind kind_bytes).1 same)

  pub small_flaw : root.kind ≡ filled 128 (codes "rvac") → root.block_size < 512
      → root_flaw bytes ≡ Some BlockSize
  small_flaw same small =
      sized same ∙ ap (λ (b : Bool).
      if b then Some BlockSize
      else if nat_lt MAX_BLOCK_SIZE root.block_size then Some BlockSize
      else None) (lt-ltb root.block_size 512 small)

  pub large_flaw : root.kind ≡ filled 128 (codes "rvac") → 53248 < root.block_size
      → root_flaw bytes ≡ Some BlockSize
  large_flaw same large =
      sized same ∙ ap (λ (b : Bool).
      if b then Some BlockSize
      else if nat_lt MAX_BLOCK_SIZE root.block_size then Some BlockSize
      else None) (le-ltb root.block_size 512 (omega arith))
      ∙ ap (λ (b : Bool). if b then Some BlockSize else None)
      (lt-ltb 53248 root.block_size large)

  pub unflawed : root.kind ≡ filled 128 (codes "rvac") → MIN_BLOCK_SIZE ≤ root.block_size
      → root.block_size ≤ MAX_BLOCK_SIZE → root_flaw bytes ≡ None
  unflawed same least most =
      sized same ∙ ap (λ (b : Bool).
      if b then Some BlockSize
      else if nat_lt MAX_BLOCK_SIZE root.block_size then Some BlockSize
      else None) (le-ltb root.block_size 512 least)
      ∙ ap (λ (b : Bool). if b then Some BlockSize else None)
      (le-ltb 53248 root.block_size most)

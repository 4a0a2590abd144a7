-- What parameters say, read field by field: each message is read back.
use Rattle.std.proofs.Common.{◌≡◌, ℕ, ◌+◌, ◌<◌, ◌^◌, ◌==◌, List, [], ◌∷◌, ◌++◌, length, take, drop, refl, sym, ◌∙◌, ap, arith, append-nil, take_at, drop_at}
use Rattle.std.specs.Prelude.{slice_index, if◌then◌else◌}
use Rattle.std.specs.List.{flat_map}
use Rattle.byteorder.specs.Endian.{little_number, little_bytes}
use Rattle.byteorder.specs.Numbers.{little_number-reads_back}
use Rattle.nine_wire.specs.Messages.{TMessage, t_version, t_auth, t_attach, t_flush, t_walk, t_open, t_create, t_read, t_write, t_clunk, t_remove, t_stat, t_wstat, SpellsBody, IsString, string}
use Rattle.nine_wire.specs.Names.{names_in}
use Rattle.nine_wire.proofs.NamesIn.{names_back}

-- ---- strings

abbrev pub text_in : List ℕ → List ℕ
text_in bytes = take (little_number 2 bytes) (drop 2 bytes)

abbrev pub behind_text : List ℕ → List ℕ
behind_text bytes = drop (2 + little_number 2 bytes) bytes

module _ (text : List ℕ) (fits : IsString text) where
  len_back : (rest : List ℕ) → little_number 2 (string text ++ rest) ≡ length text
  len_back rest = little_number-reads_back 2 (length text) (text ++ rest) fits

  pub text_back : (rest : List ℕ) → text_in (string text ++ rest) ≡ text
  text_back rest =
      ap (λ (n : ℕ). take n (text ++ rest)) (len_back rest)
      ∙ take_at text rest (length text) refl

  pub behind_back : (rest : List ℕ) → behind_text (string text ++ rest) ≡ rest
  behind_back rest =
      ap (λ (n : ℕ). drop (2 + n) (string text ++ rest)) (len_back rest)
      ∙ drop_at (string text) rest (2 + length text) (omega arith)

  pub last_back : text_in (string text) ≡ text
  last_back = ap text_in (sym (append-nil (string text))) ∙ text_back []

-- ---- messages

abbrev pub four : List ℕ → ℕ
four bytes = little_number 4 bytes

abbrev read_version : List ℕ → TMessage
read_version b = t_version (four b) (text_in (drop 4 b))

abbrev read_auth : List ℕ → TMessage
read_auth b = t_auth (four b) (text_in (drop 4 b)) (text_in (behind_text (drop 4 b)))

abbrev read_attach : List ℕ → TMessage
read_attach b =
    t_attach (four b) (four (drop 4 b)) (text_in (drop 8 b)) (text_in (behind_text (drop 8 b)))

abbrev read_walk : List ℕ → TMessage
read_walk b =
    t_walk (four b) (four (drop 4 b)) (names_in (little_number 2 (drop 8 b)) (drop 10 b))

abbrev read_create : List ℕ → TMessage
read_create b =
    let behind = behind_text (drop 4 b) in
    t_create (four b) (text_in (drop 4 b)) (four behind) (slice_index (drop 4 behind) 0)

abbrev read_read : List ℕ → TMessage
read_read b = t_read (four b) (little_number 8 (drop 4 b)) (four (drop 12 b))

abbrev read_write : List ℕ → TMessage
read_write b = t_write (four b) (little_number 8 (drop 4 b)) (drop 16 b)

abbrev message_in : (type : ℕ) → List ℕ → TMessage
message_in type b =
    if type == 100 then read_version b
    else if type == 102 then read_auth b
    else if type == 104 then read_attach b
    else if type == 108 then t_flush (little_number 2 b)
    else if type == 110 then read_walk b
    else if type == 112 then t_open (four b) (slice_index (drop 4 b) 0)
    else if type == 114 then read_create b
    else if type == 116 then read_read b
    else if type == 118 then read_write b
    else if type == 120 then t_clunk (four b)
    else if type == 122 then t_remove (four b)
    else if type == 124 then t_stat (four b)
    else t_wstat (four b) (text_in (drop 4 b))

pub back4 : (x : ℕ) (rest : List ℕ) → x < 256 ^ 4 → four (little_bytes 4 x ++ rest) ≡ x
back4 x rest fits = little_number-reads_back 4 x rest fits

pub is_read : (m : TMessage) (type : ℕ) (bytes : List ℕ) → SpellsBody m type bytes
    → message_in type bytes ≡ m
is_read (t_version msize version) type bytes x =
    (λ i. message_in (x.type_is i) (x.is i))
    ∙ (λ i. t_version (back4 msize (string version) x.fits.0 i) (last_back version x.fits.1 i))
is_read (t_auth afid uname aname) type bytes x =
    (λ i. message_in (x.type_is i) (x.is i))
    ∙ (λ i. t_auth (back4 afid (string uname ++ string aname) x.fits.0 i)
    (text_back uname x.fits.1 (string aname) i)
    (text_in (behind_back uname x.fits.1 (string aname) i)))
    ∙ ap (t_auth afid uname) (last_back aname x.fits.2)
is_read (t_attach fid afid uname aname) type bytes x =
    let texts : List ℕ = string uname ++ string aname in
    (λ i. message_in (x.type_is i) (x.is i))
    ∙ (λ i. t_attach (back4 fid (little_bytes 4 afid ++ texts) x.fits.0 i)
    (back4 afid texts x.fits.1 i)
    (text_back uname x.fits.2 (string aname) i)
    (text_in (behind_back uname x.fits.2 (string aname) i)))
    ∙ ap (t_attach fid afid uname) (last_back aname x.fits.3)
is_read (t_flush oldtag) type bytes x =
    (λ i. message_in (x.type_is i) (x.is i))
    ∙ ap t_flush (little_number-reads_back 2 oldtag [] x.fits)
is_read (t_walk fid newfid names) type bytes x =
    let texts : List ℕ = flat_map string names in
    let count : List ℕ = little_bytes 2 (length names) in
    (λ i. message_in (x.type_is i) (x.is i))
    ∙ (λ i. t_walk (back4 fid (little_bytes 4 newfid ++ (count ++ texts)) x.fits.0 i)
    (back4 newfid (count ++ texts) x.fits.1 i)
    (names_in (little_number-reads_back 2 (length names) texts x.fits.2 i) texts))
    ∙ ap (t_walk fid newfid)
    (ap (names_in (length names)) (sym (append-nil texts)) ∙ names_back names [] x.fits.3)
is_read (t_open fid mode) type bytes x =
    (λ i. message_in (x.type_is i) (x.is i))
    ∙ ap (λ (n : ℕ). t_open n mode) (back4 fid (mode ∷ []) x.fits.0)
is_read (t_create fid name perm mode) type bytes x =
    let rest : List ℕ = little_bytes 4 perm ++ mode ∷ [] in
    (λ i. message_in (x.type_is i) (x.is i))
    ∙ (λ i. t_create (back4 fid (string name ++ rest) x.fits.0 i)
    (text_back name x.fits.1 rest i) (four (behind_back name x.fits.1 rest i))
    (slice_index (drop 4 (behind_back name x.fits.1 rest i)) 0))
    ∙ ap (λ (n : ℕ). t_create fid name n mode) (back4 perm (mode ∷ []) x.fits.2)
is_read (t_read fid offset count) type bytes x =
    (λ i. message_in (x.type_is i) (x.is i))
    ∙ (λ i. t_read (back4 fid (little_bytes 8 offset ++ little_bytes 4 count) x.fits.0 i)
    (little_number-reads_back 8 offset (little_bytes 4 count) x.fits.1 i)
    (back4 count [] x.fits.2 i))
is_read (t_write fid offset bytes') type bytes x =
    let rest : List ℕ = little_bytes 4 (length bytes') ++ bytes' in
    (λ i. message_in (x.type_is i) (x.is i))
    ∙ (λ i. t_write (back4 fid (little_bytes 8 offset ++ rest) x.fits.0 i)
    (little_number-reads_back 8 offset rest x.fits.1 i) bytes')
is_read (t_clunk fid) type bytes x =
    (λ i. message_in (x.type_is i) (x.is i)) ∙ ap t_clunk (back4 fid [] x.fits)
is_read (t_remove fid) type bytes x =
    (λ i. message_in (x.type_is i) (x.is i)) ∙ ap t_remove (back4 fid [] x.fits)
is_read (t_stat fid) type bytes x =
    (λ i. message_in (x.type_is i) (x.is i)) ∙ ap t_stat (back4 fid [] x.fits)
is_read (t_wstat fid stat) type bytes x =
    (λ i. message_in (x.type_is i) (x.is i))
    ∙ (λ i. t_wstat (back4 fid (string stat) x.fits.0 i) (last_back stat x.fits.1 i))

-- no parameters spell two messages
pub one_body : (m n : TMessage) (type : ℕ) (bytes : List ℕ) → SpellsBody m type bytes
    → SpellsBody n type bytes → m ≡ n
one_body m n type bytes x y = sym (is_read m type bytes x) ∙ is_read n type bytes y

-- Where no string stands, no message does.
use Rattle.std.specs.Prelude.{◌≡◌, ◌≢◌, ℕ, ◌<◌, ◌^◌, List, [], ◌∷◌, ◌++◌, length, refl, Option, Some, None, IfNone}
use Rattle.std.proofs.Common.{sym, ap, ◌∙◌, arith, append-nil}
use Rattle.byteorder.specs.Endian.{little_bytes, little_number}
use Rattle.byteorder.specs.Numbers.{length-bytes_low_first, little_number-reads_back}
use Rattle.nine_wire.specs.Messages.{TMessage, t_version, t_auth, t_attach, t_flush, t_walk, t_open, t_create, t_read, t_write, t_clunk, t_remove, t_stat, t_wstat, SpellsBody, string, IsString}

pub if_none : {T : Type 0} (o : Option T) (P : Type 0) → P → IfNone o P
if_none None P p = p
if_none (Some x) P p = tt

pub if_none_map : {T : Type 0} (o : Option T) (P Q : Type 0) → IfNone o P → (P → Q) → IfNone o Q
if_none_map None P Q p f = f p
if_none_map (Some x) P Q p f = tt

pub same_front : (a b x y : List ℕ) → length a ≡ length b → a ++ x ≡ b ++ y → (a ≡ b) × (x ≡ y)
same_front [] [] x y len h = (refl, h)
same_front [] (b ∷ most) x y len h = absurd (omega arith)
same_front (a ∷ more) [] x y len h = absurd (omega arith)
same_front (a ∷ more) (b ∷ most) x y len h =
    let e : a ≡ b = cc in
    let t : more ++ x ≡ most ++ y = cc in
    let r = same_front more most x y (omega arith) t in
    let r0 : more ≡ most = r.0 in
    (cc, r.1)

-- what stands behind a number field
pub behind : (n x y : ℕ) (a b : List ℕ) → little_bytes n x ++ a ≡ little_bytes n y ++ b → a ≡ b
behind n x y a b h =
    (same_front (little_bytes n x) (little_bytes n y) a b (length-bytes_low_first 0 n x ∙ sym
    (length-bytes_low_first 0 n y)) h).1

same_number : (n x y : ℕ) (a b : List ℕ) → x < 256 ^ n → y < 256 ^ n
    → little_bytes n x ++ a ≡ little_bytes n y ++ b → x ≡ y
same_number n x y a b p q h =
    sym (little_number-reads_back n x a p) ∙ ap (little_number n) h ∙ little_number-reads_back n y b
    q

pub same_string : (a b x y : List ℕ) → IsString a → IsString b → string a ++ x ≡ string b ++ y
    → (a ≡ b) × (x ≡ y)
same_string a b x y p q h =
    let parts : little_bytes 2 (length a) ++ (a ++ x) ≡ little_bytes 2 (length b) ++ (b ++ y) = h in
    same_front a b x y (same_number 2 (length a) (length b) (a ++ x) (b ++ y) p q parts)
    (behind 2 (length a) (length b) (a ++ x) (b ++ y) parts)

abbrev pub NoString : List ℕ → Type 0
NoString bytes = (text rest : List ℕ) → IsString text → bytes ≢ string text ++ rest

pub no_version : (ps : List ℕ) (ms : ℕ) (r : List ℕ) → ps ≡ little_bytes 4 ms ++ r → NoString r
    → (m : TMessage) → SpellsBody m 100 ps → ⊥
no_version ps k r e none (t_version ms v) x =
    none v [] x.fits.1 (behind 4 k ms r (string v) (sym e ∙ x.is) ∙ sym (append-nil (string v)))
no_version ps k r e none (t_auth a u n) x = absurd (omega (arith, x.type_is))
no_version ps k r e none (t_attach f a u n) x = absurd (omega (arith, x.type_is))
no_version ps k r e none (t_flush o) x = absurd (omega (arith, x.type_is))
no_version ps k r e none (t_walk f n ns) x = absurd (omega (arith, x.type_is))
no_version ps k r e none (t_open f m) x = absurd (omega (arith, x.type_is))
no_version ps k r e none (t_create f n p m) x = absurd (omega (arith, x.type_is))
no_version ps k r e none (t_read f o c) x = absurd (omega (arith, x.type_is))
no_version ps k r e none (t_write f o b) x = absurd (omega (arith, x.type_is))
no_version ps k r e none (t_clunk f) x = absurd (omega (arith, x.type_is))
no_version ps k r e none (t_remove f) x = absurd (omega (arith, x.type_is))
no_version ps k r e none (t_stat f) x = absurd (omega (arith, x.type_is))
no_version ps k r e none (t_wstat f s) x = absurd (omega (arith, x.type_is))

pub no_wstat : (ps : List ℕ) (k : ℕ) (r : List ℕ) → ps ≡ little_bytes 4 k ++ r → NoString r
    → (m : TMessage) → SpellsBody m 126 ps → ⊥
no_wstat ps k r e none (t_wstat f s) x =
    none s [] x.fits.1 (behind 4 k f r (string s) (sym e ∙ x.is) ∙ sym (append-nil (string s)))
no_wstat ps k r e none (t_version ms v) x = absurd (omega (arith, x.type_is))
no_wstat ps k r e none (t_auth a u n) x = absurd (omega (arith, x.type_is))
no_wstat ps k r e none (t_attach f a u n) x = absurd (omega (arith, x.type_is))
no_wstat ps k r e none (t_flush o) x = absurd (omega (arith, x.type_is))
no_wstat ps k r e none (t_walk f n ns) x = absurd (omega (arith, x.type_is))
no_wstat ps k r e none (t_open f m) x = absurd (omega (arith, x.type_is))
no_wstat ps k r e none (t_create f n p m) x = absurd (omega (arith, x.type_is))
no_wstat ps k r e none (t_read f o c) x = absurd (omega (arith, x.type_is))
no_wstat ps k r e none (t_write f o b) x = absurd (omega (arith, x.type_is))
no_wstat ps k r e none (t_clunk f) x = absurd (omega (arith, x.type_is))
no_wstat ps k r e none (t_remove f) x = absurd (omega (arith, x.type_is))
no_wstat ps k r e none (t_stat f) x = absurd (omega (arith, x.type_is))

-- two strings to the end, of which the second isn't one or isn't the last
abbrev pub NoEnd : List ℕ → Type 0
NoEnd r = (n : List ℕ) → IsString n → r ≢ string n

pub no_string_no_end : (r : List ℕ) → NoString r → NoEnd r
no_string_no_end r none n short e = none n [] short (e ∙ sym (append-nil (string n)))

pub more_no_end : (r a s : List ℕ) → IsString a → r ≡ string a ++ s → s ≢ [] → NoEnd r
more_no_end r a s short e more n narrow h =
    more ((same_string a n s [] short narrow (sym e ∙ h ∙ sym (append-nil (string n)))).1)

pub no_auth : (ps : List ℕ) (k : ℕ) (r1 w r2 : List ℕ) → ps ≡ little_bytes 4 k ++ r1 → IsString w
    → r1 ≡ string w ++ r2 → NoEnd r2 → (m : TMessage) → SpellsBody m 102 ps → ⊥
no_auth ps k r1 w r2 e short d none (t_auth a u n) x =
    let one = behind 4 k a r1 (string u ++ string n) (sym e ∙ x.is) in
    none n x.fits.2 ((same_string w u r2 (string n) short x.fits.1 (sym d ∙ one)).1)
no_auth ps k r1 w r2 e short d none (t_version ms v) x = absurd (omega (arith, x.type_is))
no_auth ps k r1 w r2 e short d none (t_attach f a u n) x = absurd (omega (arith, x.type_is))
no_auth ps k r1 w r2 e short d none (t_flush o) x = absurd (omega (arith, x.type_is))
no_auth ps k r1 w r2 e short d none (t_walk f n ns) x = absurd (omega (arith, x.type_is))
no_auth ps k r1 w r2 e short d none (t_open f m) x = absurd (omega (arith, x.type_is))
no_auth ps k r1 w r2 e short d none (t_create f n p m) x = absurd (omega (arith, x.type_is))
no_auth ps k r1 w r2 e short d none (t_read f o c) x = absurd (omega (arith, x.type_is))
no_auth ps k r1 w r2 e short d none (t_write f o b) x = absurd (omega (arith, x.type_is))
no_auth ps k r1 w r2 e short d none (t_clunk f) x = absurd (omega (arith, x.type_is))
no_auth ps k r1 w r2 e short d none (t_remove f) x = absurd (omega (arith, x.type_is))
no_auth ps k r1 w r2 e short d none (t_stat f) x = absurd (omega (arith, x.type_is))
no_auth ps k r1 w r2 e short d none (t_wstat f s) x = absurd (omega (arith, x.type_is))

pub no_attach : (ps : List ℕ) (k : ℕ) (r0 : List ℕ) (l : ℕ) (r1 w r2 : List ℕ) → ps ≡ little_bytes 4
    k ++ r0
    → r0 ≡ little_bytes 4 l ++ r1 → IsString w → r1 ≡ string w ++ r2 → NoEnd r2
    → (m : TMessage) → SpellsBody m 104 ps → ⊥
no_attach ps k r0 l r1 w r2 e0 e1 short d none (t_attach f a u n) x =
    let zero' = behind 4 k f r0 (little_bytes 4 a ++ (string u ++ string n)) (sym e0 ∙ x.is) in
    let one = behind 4 l a r1 (string u ++ string n) (sym e1 ∙ zero') in
    none n x.fits.3 ((same_string w u r2 (string n) short x.fits.2 (sym d ∙ one)).1)
no_attach ps k r0 l r1 w r2 e0 e1 short d none (t_version ms v) x = absurd (omega (
  arith,
  x.type_is,
))
no_attach ps k r0 l r1 w r2 e0 e1 short d none (t_auth a u n) x = absurd (omega (arith, x.type_is))
no_attach ps k r0 l r1 w r2 e0 e1 short d none (t_flush o) x = absurd (omega (arith, x.type_is))
no_attach ps k r0 l r1 w r2 e0 e1 short d none (t_walk f n ns) x = absurd (omega (arith, x.type_is))
no_attach ps k r0 l r1 w r2 e0 e1 short d none (t_open f m) x = absurd (omega (arith, x.type_is))
no_attach ps k r0 l r1 w r2 e0 e1 short d none (t_create f n p m) x = absurd (omega (
  arith,
  x.type_is,
))
no_attach ps k r0 l r1 w r2 e0 e1 short d none (t_read f o c) x = absurd (omega (arith, x.type_is))
no_attach ps k r0 l r1 w r2 e0 e1 short d none (t_write f o b) x = absurd (omega (arith, x.type_is))
no_attach ps k r0 l r1 w r2 e0 e1 short d none (t_clunk f) x = absurd (omega (arith, x.type_is))
no_attach ps k r0 l r1 w r2 e0 e1 short d none (t_remove f) x = absurd (omega (arith, x.type_is))
no_attach ps k r0 l r1 w r2 e0 e1 short d none (t_stat f) x = absurd (omega (arith, x.type_is))
no_attach ps k r0 l r1 w r2 e0 e1 short d none (t_wstat f s) x = absurd (omega (arith, x.type_is))

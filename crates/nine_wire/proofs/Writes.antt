-- Fields that are written one behind another.
use Rattle.std.proofs.Common.{◌≡◌, ℕ, ◌+◌, ◌-◌, ◌≤◌, List, [], ◌++◌, length, take, drop, refl, sym, ◌∙◌, ap, subst, arith, append_assoc, append-nil, length-append, length-take, length-drop, take-add}
use Rattle.std.proofs.lemmas.List.{take_at, drop_at, take_all, drop_all, drop-drop, drop-take, take-take, length-take-le}
use Rattle.byteorder.specs.Endian.{little_bytes}
use Rattle.nine_wire.specs.Writing.{WritesField}
use borrow.Rule.Slice.PartMut.{put_mid}

-- what is the same behind a place is the same further behind
drop_further : (m n : ℕ) (a b : List ℕ) → drop m a ≡ drop m b → m ≤ n → drop n a ≡ drop n b
drop_further m n a b h le =
    let far : m + (n - m) ≡ n = omega arith in
    subst (λ k. drop k a ≡ drop k b) far
    (sym (drop-drop (n - m) m a) ∙ ap (drop (n - m)) h ∙ drop-drop (n - m) m b)

-- one field, as vt_base tells it
pub one_field : (at end n : ℕ) (old new field : List ℕ) → end ≡ at + n → n ≡ length field
    → take (at + n) new ≡ take at old ++ field → drop (at + n) new ≡ drop (at + n) old
    → WritesField at end old new field
one_field at end n old new field ends wide written behind = record {
  ends = ends ∙ ap (λ (k : ℕ). at + k) wide;
  written = ap (λ (k : ℕ). take k new) ends ∙ written;
  behind = ap (λ (k : ℕ). drop k new) ends ∙ behind ∙ ap (λ (k : ℕ). drop k old) (sym ends);
}

-- nothing
pub no_field : (at : ℕ) (buf : List ℕ) → WritesField at at buf buf []
no_field at buf = record {
  ends = omega arith;
  written = sym (append-nil (take at buf));
  behind = refl;
}

-- one behind another
pub and_then : {at mid end : ℕ} {old between new a b : List ℕ} → WritesField at mid old between a
    → WritesField mid end between new b → WritesField at end old new (a ++ b)
and_then {at} {mid} {end} {old} {between} {new} {a} {b} x y = record {
  ends = omega (arith, x.ends, y.ends, length-append a b);
  written = y.written ∙ ap (λ (l : List ℕ). l ++ b) x.written ∙ append_assoc (take at old) a b;
  behind = y.behind ∙ drop_further mid end between old x.behind (omega (arith, y.ends));
}

-- the same field, spelled otherwise
pub so_spelled : {at end : ℕ} {old new a b : List ℕ} → WritesField at end old new a → a ≡ b
    → WritesField at end old new b
so_spelled {at} {end} {old} {new} x e =
    subst (λ (l : List ℕ). WritesField at end old new l) e x

-- a field of n bytes in the part of a buffer behind a place
pub in_part : (a n : ℕ) (xs field ys : List ℕ) → a + n ≤ length xs → length field ≡ n
    → ys ≡ field ++ drop n (take (length xs - a) (drop a xs))
    → WritesField a (a + n) xs (put_mid a (length xs - a) xs ys) field
in_part a n xs field ys fits wide begins =
    let len = length-drop a xs in
    let rest : take (length xs - a) (drop a xs) ≡ drop a xs =
    take_all (length xs - a) (drop a xs) (omega (arith, len)) in
    let none : drop (length xs - a) (drop a xs) ≡ [] =
    drop_all (length xs - a) (drop a xs) (omega (arith, len)) in
    let whole : put_mid a (length xs - a) xs ys ≡ (take a xs ++ field) ++ drop (a + n) xs =
    rw (begins, rest, none, append-nil, drop-drop n a xs)
    (sym (append_assoc (take a xs) field (drop (a + n) xs))) in
    let place : length (take a xs ++ field) ≡ a + n =
    omega (arith, length-append (take a xs) field, length-take a xs, wide) in
    record {
      ends = omega (arith, wide);
      written = ap (take (a + n)) whole
          ∙ take_at (take a xs ++ field) (drop (a + n) xs) (a + n) place;
      behind = ap (drop (a + n)) whole
          ∙ drop_at (take a xs ++ field) (drop (a + n) xs) (a + n) place;
    }

-- a field before one that is there already
pub put_before : {at mid end : ℕ} {old between new a b : List ℕ} → mid ≤ length old
    → WritesField mid end old between b → WritesField at mid between new a
    → WritesField at end old new (a ++ b)
put_before {at} {mid} {end} {old} {between} {new} {a} {b} fits x y =
    let n : ℕ = length b in
    let far : end ≡ mid + n = x.ends in
    let back : drop mid (take end between) ≡ b =
    ap (drop mid) x.written ∙ drop_at (take mid old) b mid (length-take-le mid old fits) in
    let same : take n (drop mid new) ≡ b =
    ap (take n) y.behind ∙ sym (drop-take mid n between)
    ∙ ap (λ (k : ℕ). drop mid (take k between)) (sym far) ∙ back in
    let front : take at between ≡ take at old =
    sym (take-take at mid between (omega (arith, y.ends)))
    ∙ ap (take at) (before_mid x.written) ∙ take-take at mid old (omega (arith, y.ends)) in
    record {
      ends = omega (arith, x.ends, y.ends, length-append a b);
      written = ap (λ (k : ℕ). take k new) far ∙ take-add mid n new
          ∙ (λ i. y.written i ++ same i)
          ∙ ap (λ (l : List ℕ). (l ++ a) ++ b) front ∙ append_assoc (take at old) a b;
      behind = drop_further mid end new between y.behind (omega (arith, x.ends)) ∙ x.behind;
    }
  where
    before_mid : take end between ≡ take mid old ++ b → take mid between ≡ take mid old
    before_mid e =
        sym (take-take mid end between (omega (arith, x.ends))) ∙ ap (take mid) e
        ∙ take_at (take mid old) b mid (length-take-le mid old fits)

-- what is written before bytes says how many they are
pub sized : (at : ℕ) {behind end : ℕ} {old between new field : List ℕ} → at + 2 ≤ length old
    → WritesField (at + 2) end old between field
    → WritesField at behind between new (little_bytes 2 (end - at - 2))
    → WritesField at end old new (little_bytes 2 (length field) ++ field)
sized at {behind} {end} {old} {between} {new} {field} room x y =
    let front : WritesField at (at + 2) between new (little_bytes 2 (end - at - 2)) =
    subst (λ (k : ℕ). WritesField at k between new (little_bytes 2 (end - at - 2))) y.ends y in
    let len : end - at - 2 ≡ length field = omega (arith, x.ends) in
    so_spelled (put_before room x front) (ap (λ (n : ℕ). little_bytes 2 n ++ field) len)

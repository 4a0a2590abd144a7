use Rattle.std.proofs.Common.{◌≡◌, ◌∙◌, ℕ, ◌+◌, ◌-◌, ◌<◌, ◌≤◌, List, length, take, drop, ap, subst, arith, length-drop, length-take}
use Rattle.std.proofs.lemmas.List.{take_all}
use Rattle.vt_clump.specs.Spelling.{clump_len, size_in}
use Rattle.vt_check.specs.Checking.{clump_in}
use Rattle.vt_check.proofs.clumps.cut_at.Goals as goal

-- the bytes from a place on
all_behind : (bytes : List ℕ) (start : ℕ) → take (length bytes - start) (drop start bytes) ≡ drop start bytes
all_behind bytes start = take_all (length bytes - start) (drop start bytes) (omega (arith, length-drop start bytes))

-- a clump among them ends among them
ends_within : (bytes : List ℕ) (start n : ℕ) → start ≤ length bytes → n ≡ length (clump_in (drop start bytes)) → start + n ≤ length bytes
ends_within bytes start n inside len =
    omega (arith, inside, len, length-take (clump_len (size_in (drop start bytes))) (drop start bytes), length-drop start bytes)

-- and so they have all of its bytes
long_as : (bytes : List ℕ) (start n : ℕ) → start + n ≤ length bytes → length (take (start + n - start) (drop start bytes)) ≡ n
long_as bytes start n inside = omega (arith, inside, length-take (start + n - start) (drop start bytes), length-drop start bytes)

pub returns-clause-len : goal.returns-clause-len
returns-clause-len c =
    let bytes : List ℕ = c.args.bytes.now in
    let len : c.clump_len.result ≡ length (clump_in (drop c.args.start bytes)) =
    subst (λ (l : List ℕ). c.clump_len.result ≡ length (clump_in l)) (all_behind bytes c.args.start) c.clump_len.ensures.len in
    omega (arith, len)

pub returns-clause-clump : goal.returns-clause-clump
returns-clause-clump c =
    let bytes : List ℕ = c.args.bytes.now in
    let start : ℕ = c.args.start in
    let n : ℕ = c.clump_len.result in
    let same : start + n - start ≡ n = omega arith in
    ap (λ (k : ℕ). take k (drop start bytes)) same
    ∙ subst (λ (l : List ℕ). take n l ≡ clump_in l) (all_behind bytes start) c.clump_len.ensures.clump

pub returns-clause-small : goal.returns-clause-small
returns-clause-small c =
    subst (λ (l : List ℕ). 38 ≤ length l → size_in l < 65536) (all_behind c.args.bytes.now c.args.start) c.clump_len.ensures.small

pub returns-clause-within : goal.returns-clause-within
returns-clause-within c =
    let bytes : List ℕ = c.args.bytes.now in
    let start : ℕ = c.args.start in
    let n : ℕ = c.clump_len.result in
    let len : n ≡ length (clump_in (drop start bytes)) =
    subst (λ (l : List ℕ). n ≡ length (clump_in l)) (all_behind bytes start) c.clump_len.ensures.len in
    let inside : start + n ≤ length bytes = ends_within bytes start n c.requires.start len in
    record {
      is_cut = record { order = omega arith; most = omega (arith, c.clump_len.ensures.most); entry = c.entry_of.ensures.read };
      end = inside;
      creator = λ long. c.creator_of.ensures (omega (arith, long, long_as bytes start n inside));
    }

pub returns-clause-own : goal.returns-clause-own
returns-clause-own c = λ on long.
    let bytes : List ℕ = c.args.bytes.now in
    let start : ℕ = c.args.start in
    let n : ℕ = c.clump_len.result in
    let len : n ≡ length (clump_in (drop start bytes)) =
    subst (λ (l : List ℕ). n ≡ length (clump_in l)) (all_behind bytes start) c.clump_len.ensures.len in
    let inside : start + n ≤ length bytes = ends_within bytes start n c.requires.start len in
    c.entry_of.ensures.own on (omega (arith, long, long_as bytes start n inside))

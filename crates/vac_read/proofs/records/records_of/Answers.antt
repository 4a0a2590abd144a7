use Rattle.std.proofs.Common.{◌≡◌, ◌-◌, ◌≤◌, ℕ, List, [], length, take, min, Result, Ok, Err, refl, sym, ◌∙◌, ap, subst, inl, inr, arith, length-take, take_all}
use Rattle.std.proofs.lemmas.Result.{err_from_is_err_and}
use Rattle.vt_tree.specs.Content.{size_of, way_to}
use Rattle.vt_tree.specs.Maps.{BlockMap}
use Rattle.vt_tree.specs.declared.entry.Entry.{Entry}
use Rattle.vt_tree.specs.declared.error.TreeErr.TheVariants.{TooLong}
use Rattle.vac_meta.specs.declared.error.MetaErr.TheVariants.{Bad}
use Rattle.vac_meta.specs.Flaws.{IsRefusedMetadata}
use Rattle.vac_meta.specs.Records.{SpellsMetadata}
use Rattle.vac_meta.specs.declared.record.Record.{Record}
use Rattle.vac_read.specs.Asking.{stream_blocks}
use Rattle.vac_read.specs.declared.error.VacBad.TheVariants.{Tree, Meta, NoMemory}
use Rattle.vac_read.specs.Broken.{AreShort, IsUnread}
use Rattle.vac_read.proofs.Few.{few_as, few_nothing, few_range}
use Rattle.vac_read.proofs.records.records_of.Goals as goal

-- where there are as many as there have to be, all of them are in front
whole : (bytes all front : List ℕ) (n : ℕ) → all ≡ bytes → front ≡ take n all → length bytes ≤ n
    → front ≡ bytes
whole bytes all front n same first few =
    first ∙ ap (λ (l : List ℕ). take n l) same ∙ take_all n bytes few

-- all of a stream was read
to_its_end : (zero_score : List ℕ) (map : BlockMap) (e : Entry) (n len : ℕ) → len ≡ size_of e
    → n ≤ length (way_to zero_score map e 0 len) → n ≤ stream_blocks zero_score e map
to_its_end zero_score map e n len same few =
    subst (λ (k : ℕ). n ≤ length (way_to zero_score map e 0 k)) same few

-- nothing was read
pub returns-then-size_of-gt-MAX_FILE-clause-reads : goal.returns-then-size_of-gt-MAX_FILE-clause-reads
returns-then-size_of-gt-MAX_FILE-clause-reads g c =
    let size = c.size_of-size.ensures in
    let others = c.size_of.ensures in
    few_nothing g.B.Blocks.does g.B.Blocks.holds g.B.Scorer.score_of c.args.blocks.now
    (Err (Tree TooLong)) _ _ refl
    (λ map some. inl (
      refl,
      λ short. let e = short.short_entries in let m = short.short_metadata in
          omega arith,
    ))
    (λ map. omega arith)

pub returns-in_err-bytes-clause-reads : goal.returns-in_err-bytes-clause-reads
returns-in_err-bytes-clause-reads g c =
    let p = err_from_is_err_and c.from_residual.result c.from_residual.ensures.1 in
    let err = c.in_err-bytes.field-0.0 in
    let e = c.args.metadata.now in
    let size = c.size_of-size.ensures in
    let others = c.size_of.ensures in
    let same : min c.size_of-size.result (size_of e - 0) ≡ size_of e = omega arith in
    let short : AreShort c.args.entries.now e =
    record { short_entries = omega arith; short_metadata = omega arith } in
    rw (p.1, p.2) (few_as g.B.Blocks.does g.B.Blocks.holds g.B.Scorer.score_of
    c.args.blocks.now c.read_range.new.blocks (Err (Tree err)) (Err (Tree err)) _ _ _ _ refl
    (few_range g.B.Blocks.does g.B.Blocks.holds g.B.Scorer.score_of c.args.blocks.now
    c.read_range.new.blocks e 0 (min c.size_of-size.result (size_of e - 0)) (Err err)
    c.in_err-bytes.ensures.fit c.in_err-bytes.ensures.reads c.in_err-bytes.ensures.content)
    (λ map told some. inr (
      short,
      inl (subst (λ (n : ℕ). IsUnread map e 0 n (Tree err)) same (told some)),
    ))
    (λ map n told few. to_its_end (g.B.Scorer.score_of []) map e n _ same few))

pub returns-in-Err-Bad-clause-reads : goal.returns-in-Err-Bad-clause-reads
returns-in-Err-Bad-clause-reads g c =
    let bytes = c.in_ok-bytes.bytes in
    let e = c.args.metadata.now in
    let at = c.in-Err-Bad.at in
    let why = c.in-Err-Bad.field-0-1 in
    let size = c.size_of-size.ensures in
    let others = c.size_of.ensures in
    let same : min c.size_of-size.result (size_of e - 0) ≡ size_of e = omega arith in
    let short : AreShort c.args.entries.now e =
    record { short_entries = omega arith; short_metadata = omega arith } in
    let bad : c.decode.result ≡ Err (Bad at why) = cc in
    few_as g.B.Blocks.does g.B.Blocks.holds g.B.Scorer.score_of
    c.args.blocks.now c.read_range.new.blocks (Ok bytes) (Err (Meta at)) _ _ _ _ refl
    (few_range g.B.Blocks.does g.B.Blocks.holds g.B.Scorer.score_of c.args.blocks.now
    c.read_range.new.blocks e 0 (min c.size_of-size.result (size_of e - 0)) (Ok bytes)
    c.in_ok-bytes.ensures.fit c.in_ok-bytes.ensures.reads c.in_ok-bytes.ensures.content)
    (λ map told some. inr (
      short,
      inr (
        bytes,
        record { all = told.0 ∙ same; each = told.1 },
        at,
        why,
        refl,
        subst (λ (l : List ℕ). IsRefusedMetadata l (Bad at why))
            (whole bytes c.as_slice.result.now c.front.result.now c.size_of-size.result
            c.as_slice.ensures c.front.ensures (omega (arith, told.0)))
            (c.decode.ensures.refused at why bad),
      ),
    ))
    (λ map n told few. to_its_end (g.B.Scorer.score_of []) map e n _ same few)

pub returns-in-Ok-clause-reads : goal.returns-in-Ok-clause-reads
returns-in-Ok-clause-reads g c =
    let bytes = c.in_ok-bytes.bytes in
    let e = c.args.metadata.now in
    let records : List Record = c.in-Ok.records in
    let size = c.size_of-size.ensures in
    let others = c.size_of.ensures in
    let same : min c.size_of-size.result (size_of e - 0) ≡ size_of e = omega arith in
    few_as g.B.Blocks.does g.B.Blocks.holds g.B.Scorer.score_of
    c.args.blocks.now c.read_range.new.blocks (Ok bytes) (Ok records) _ _ _ _ refl
    (few_range g.B.Blocks.does g.B.Blocks.holds g.B.Scorer.score_of c.args.blocks.now
    c.read_range.new.blocks e 0 (min c.size_of-size.result (size_of e - 0)) (Ok bytes)
    c.in_ok-bytes.ensures.fit c.in_ok-bytes.ensures.reads c.in_ok-bytes.ensures.content)
    (λ map told. record {
      directory = c.requires.0.1;
      short_entries = omega arith;
      plain = c.requires.1.1;
      bytes = bytes;
      short = omega (arith, told.0);
      content = record { all = told.0 ∙ same; each = told.1 };
      spelled = subst (λ (l : List ℕ). SpellsMetadata records l)
          (whole bytes c.as_slice.result.now c.front.result.now c.size_of-size.result
          c.as_slice.ensures c.front.ensures (omega (arith, told.0)))
          c.in-Ok.ensures.found;
    })
    (λ map n told few. to_its_end (g.B.Scorer.score_of []) map e n _ same few)

pub returns-in-Ok-clause-records : goal.returns-in-Ok-clause-records
returns-in-Ok-clause-records g c = c.in-Ok.ensures.found.allowed

pub returns-in-Ok-clause-short : goal.returns-in-Ok-clause-short
returns-in-Ok-clause-short g c =
    let long = ap (λ (l : List ℕ). length l) (sym c.in-Ok.ensures.found.is ∙ c.front.ensures) in
    omega (arith, length-take c.size_of-size.result c.as_slice.result.now, c.size_of-size.ensures)

pub returns-clause-reads : goal.returns-clause-reads
returns-clause-reads g c =
    let bytes = c.in_ok-bytes.bytes in
    let e = c.args.metadata.now in
    let size = c.size_of-size.ensures in
    let others = c.size_of.ensures in
    let same : min c.size_of-size.result (size_of e - 0) ≡ size_of e = omega arith in
    few_as g.B.Blocks.does g.B.Blocks.holds g.B.Scorer.score_of
    c.args.blocks.now c.read_range.new.blocks (Ok bytes) (Err NoMemory) _ _ _ _ refl
    (few_range g.B.Blocks.does g.B.Blocks.holds g.B.Scorer.score_of c.args.blocks.now
    c.read_range.new.blocks e 0 (min c.size_of-size.result (size_of e - 0)) (Ok bytes)
    c.in_ok-bytes.ensures.fit c.in_ok-bytes.ensures.reads c.in_ok-bytes.ensures.content)
    (λ map told some. absurd (some refl))
    (λ map n told few. to_its_end (g.B.Scorer.score_of []) map e n _ same few)

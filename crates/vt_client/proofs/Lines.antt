-- A line that is taken byte by byte.
use Rattle.std.proofs.Common.{◌≡◌, ◌≢◌, ℕ, ◌<◌, ◌≤◌, Bool, true, false, inl, inr, Result, Err, List, [], ◌∷◌, ◌++◌, length, take, sym, subst, ap, ◌∙◌, arith, append-nil, length-append, length-take}
use Rattle.std.specs.Prelude.{MatchBool}
use Rattle.std.specs.List.{All}
use Rattle.std.proofs.lemmas.List.{take-append-le}
use Rattle.std.proofs.lemmas.List.Elements.{All-head, All-tail, All-take}
use Rattle.vt_wire.specs.Lines.{line_of}
use Rattle.vt_wire.specs.declared.line.Line.{Line}
use Rattle.vt_wire.specs.declared.line.Line.TheVariants.{Whole, More, Bad}
use Rattle.vt_wire.proofs.WholeLines.{line_under, more_is}
use Rattle.vt_client.specs.declared.error.ClientErr.{ClientErr}
use Rattle.vt_client.specs.Exchanges.{Traffic, MovesBytes}
use Rattle.vt_client.specs.Greetings.{OffersVersion, LacksVersion}
use Rattle.vt_client.specs.Taking.{EndsWithNothingLeft, EndsLine, StopsInLine, TakesToNewline, offers_version}
use Rattle.vt_client.proofs.Moving.{Moves-append}

-- bytes without a newline came in, and then none
pub stops_in_line : (before between after : Traffic) (front buf : List ℕ) (why : ClientErr)
    (result : Result ℕ ClientErr) → result ≡ Err why → All (λ b. b ≢ 10) front
    → length front ≤ 1024 → MovesBytes before between [] front
    → MovesBytes between after [] [] × EndsWithNothingLeft after why → TakesToNewline before after buf result
stops_in_line before between after front buf why result is plain short first last =
    subst (TakesToNewline before after buf) (sym is) (record {
      part = front;
      partial = line_under front plain short;
      moves = subst (λ (l : List ℕ). MovesBytes before after [] l) (append-nil front)
          (Moves-append before between after [] [] front [] first last.0);
      ends = last.1;
    })

-- ---- such bytes are a line, or wrong

All-last : (front : List ℕ) (last : ℕ) → All (λ b. b ≢ 10) (front ++ last ∷ []) → last ≢ 10
All-last [] last all = All-head (λ (b : ℕ). b ≢ 10) last [] all
All-last (b ∷ front) last all =
    All-last front last (All-tail (λ (b : ℕ). b ≢ 10) b (front ++ last ∷ []) all)

shortest : (line : List ℕ) → EndsLine line → (n : ℕ) → n < length line
    → line_of (take n line) ≡ More
shortest line ends n before =
    let part : take n line ≡ take n ends.front =
    ap (take n) ends.is ∙ take-append-le n ends.front (ends.last ∷ [])
    (omega (arith, before, ap length ends.is, length-append ends.front (ends.last ∷ []))) in
    subst (λ (l : List ℕ). line_of l ≡ More) (sym part)
    (line_under (take n ends.front) (All-take (λ (b : ℕ). b ≢ 10) n ends.front ends.plain)
    (omega (arith, ends.short, length-take n ends.front)))

not_more : (line : List ℕ) → EndsLine line → line_of line ≢ More
not_more line ends more =
    let all = more_is line more in
    let parts = subst (All (λ (b : ℕ). b ≢ 10)) ends.is all.0 in
    elim ends.whole [
      | inl newline ↦ All-last ends.front ends.last parts newline
      | inr full ↦ omega (
        arith,
        full,
        all.1,
        ap length ends.is,
        length-append ends.front (ends.last ∷ []),
      )
    ]

pub judged : (line : List ℕ) → EndsLine line → (what : Line) → line_of line ≡ what
    → (has : Bool) → has ≡ offers_version what
    → MatchBool has (OffersVersion true line) (LacksVersion line)
judged line ends (Whole len true) is has told =
    subst (λ (b : Bool). MatchBool b (OffersVersion true line) (LacksVersion line)) (sym told)
    (len, record { read = is; shortest = shortest line ends })
judged line ends (Whole len false) is has told =
    subst (λ (b : Bool). MatchBool b (OffersVersion true line) (LacksVersion line)) (sym told)
    (inl (len, record { read = is; shortest = shortest line ends }))
judged line ends More is has told = absurd (not_more line ends is)
judged line ends (Bad place) is has told =
    subst (λ (b : Bool). MatchBool b (OffersVersion true line) (LacksVersion line)) (sym told)
    (inr (place, record { read = is; shortest = shortest line ends }))

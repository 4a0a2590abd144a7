use Rattle.std.proofs.Common.{◌≡◌, ◌+◌, ◌∷◌, [], ◌++◌, ℕ, List, length, take, ap, sym, subst, ◌∙◌, arith, append-nil, append_assoc}
use Rattle.std.specs.List.{AllByRecursion}
use Rattle.std.proofs.lemmas.List.{take_more}
use Rattle.vt_base.specs.declared.place.Entry.{Entry}
use Rattle.vt_bucket.specs.Frame.{cell, cells, bucket_header, IsIndexEntry}
use Rattle.vt_bucket.proofs.Cells.{each_push, cells_push}
use Rattle.vt_bucket.proofs.Bucket.encode.Goals as goal

pub loop-entry-preserved : goal.loop-entry-preserved
loop-entry-preserved c =
    let xs : List Entry = c.entries-entries.result.now in
    let i : ℕ = c.loop-entry.entry-index in
    let e : Entry = c.entry-item.result in
    let inv = c.loop-entry.invariant in
    let grown : take (i + 1) xs ≡ take i xs ++ e ∷ [] = take_more xs i e c.loop-entry-test.true ∙ ap (λ (x : Entry). take i xs ++ x ∷ []) (sym c.entry-item.is) in
    let more : cells (take i xs) ++ cell e ≡ cells (take (i + 1) xs) =
    ap (λ (l : List ℕ). cells (take i xs) ++ l) (sym (append-nil (cell e))) ∙ sym (cells_push (take i xs) e []) ∙ append-nil (cells (take i xs ++ e ∷ [])) ∙ ap cells (sym grown) in
    record {
      place = omega (arith, c.put_entry-at.ensures.end, inv.place);
      written = ap (λ (n : ℕ). take n c.put_entry-at.new.frame) c.put_entry-at.ensures.end ∙ c.put_entry-at.ensures.written
          ∙ ap (λ (l : List ℕ). l ++ cell e) inv.written
          ∙ append_assoc (bucket_header c.args.self.now.number (length xs)) (cells (take i xs)) (cell e)
          ∙ ap (λ (l : List ℕ). bucket_header c.args.self.now.number (length xs) ++ l) more;
      each = subst (AllByRecursion IsIndexEntry) (sym grown) (each_push (take i xs) e inv.each c.put_entry-at.ensures.entry);
    }

use Rattle.std.proofs.Common.{◌≡◌, ◌+◌, ◌≤◌, ◌++◌, ℕ, List, length, min, take, drop, sym, ◌∙◌, ap, subst, arith, length-take}
use Rattle.std.specs.List.{flat_map}
use Rattle.std.proofs.lemmas.List.{take-append-le, take_all}
use Rattle.std.proofs.lemmas.Result.{err_from_is_err_and}
use Rattle.nine_wire.specs.Frames.{spelled_reply}
use Rattle.nine_wire.specs.Messages.{r_read}
use Rattle.nine_view.specs.Answers.{first_file, most_data, told_next}
use Rattle.nine_view.specs.Files.{stat_in}
use Rattle.nine_view.specs.Known.{ViewState, limit}
use Rattle.nine_view.proofs.Fitting.{fitting_within}
use Rattle.nine_view.proofs.FolderRead.{folder_small, folder_told, kept_reading}
use Rattle.nine_view.proofs.Keeping.{kept_fid}
use Rattle.nine_view.proofs.Limits.{most_limit}
use Rattle.nine_view.proofs.view.View.tell_files.Goals as goal

-- what was put into the whole of a vector is what it has
whole : (new items : List ℕ) (len : ℕ) → length new ≡ len
    → take len (new ++ drop (length new) items) ≡ new
whole new items len counted =
    take-append-le len new (drop (length new) items) (omega arith)
    ∙ take_all len new (omega arith)

pub put_next-requires-clause-told : goal.put_next-requires-clause-told
put_next-requires-clause-told c = λ f at.
    (kept_fid _ c.args.fid f c.self.invariant.1 at).files

pub returns-in_err-reading : goal.returns-in_err-reading
returns-in_err-reading c = λ f r files at now kept.
    let p = err_from_is_err_and c.from_residual.result c.from_residual.ensures.1 in
    let most_is = c.most_data-most.ensures.is
    ∙ ap (λ (k : ViewState). most_data k) (sym c.self.view_is) in
    rw (p.1, p.2) (folder_small c.args.tag _ c.args.self.now c.self.view_is c.args.out.now
    c.args.fid c.args.offset c.args.count c.most_data-most.result f r files at now kept most_is
    c.put_next.new.buf c.in_err-reading.field-0.0 c.in_err-reading.ensures)

pub encode-requires-clause-room : goal.encode-requires-clause-room
encode-requires-clause-room c =
    let put = c.in_ok-reading.ensures in
    let few = fitting_within (min c.args.count c.most_data-most.result)
    (drop (first_file put.reading c.args.offset) put.files) in
    let len : c.in_ok-reading.len
    ≡ length (flat_map stat_in (told_next put.reading put.files c.args.offset
    (min c.args.count c.most_data-most.result))) =
    put.len_is in
    let most : limit c.args.self.now ≤ 65536 =
    subst (λ (k : ViewState). limit k ≤ 65536) c.self.view_is (most_limit _ c.self.invariant.1) in
    let part = length-take c.in_ok-reading.len c.deref.result.now in
    omega (arith, c.requires.out, c.most_data-most.ensures.fits)

pub invariant_of-self-2 : goal.invariant_of-self-2
invariant_of-self-2 c =
    let put = c.in_ok-reading.ensures in
    let whole_is = whole c.put_next.new.buf c.self.inside.stats.items c.self.inside.stats.len
    (c.put_next.auto.buf ∙ c.deref_mut.ensures.len) in (
      ap (λ (x : List ℕ). length x) whole_is ∙ c.put_next.auto.buf
          ∙ ap (λ (x : List ℕ). length x) c.deref_mut.ensures.value ∙ c.self.invariant.0,
      kept_reading _ c.args.fid put.f c.in_ok-reading.reading c.set_reading.new.self
          c.self.invariant.1 put.at c.set_reading.ensures,
    )

pub returns : goal.returns
returns c = λ f r files at now kept.
    let put = c.in_ok-reading.ensures in
    let bytes : List ℕ =
    flat_map stat_in (told_next put.reading put.files c.args.offset
    (min c.args.count c.most_data-most.result)) in
    let few : length bytes ≤ min c.args.count c.most_data-most.result =
    fitting_within (min c.args.count c.most_data-most.result)
    (drop (first_file put.reading c.args.offset) put.files) in
    let part : take c.in_ok-reading.len c.deref.result.now ≡ bytes =
    ap (λ (x : List ℕ). take c.in_ok-reading.len x) (c.deref.ensures.value
    ∙ whole c.put_next.new.buf c.self.inside.stats.items c.self.inside.stats.len
    (c.put_next.auto.buf ∙ c.deref_mut.ensures.len))
    ∙ put.written in
    let len : c.encode.result ≡ length (spelled_reply c.args.tag (r_read bytes)) =
    subst (λ (x : List ℕ). c.encode.result ≡ length (spelled_reply c.args.tag (r_read x))) part
    c.encode.ensures.len in
    let known : ViewState =
    record { top = c.self.inside.top; msize = c.self.inside.msize; fids = c.self.inside.fids; kept = c.self.inside.kept; way = c.self.inside.way } in
    let most = most_limit known c.self.invariant.1 in
    let room : c.most_data-most.result + 24 ≡ limit known =
    c.most_data-most.ensures.fits ∙ ap (λ (k : ViewState). limit k) (sym c.self.view_is) in
    let most_is = c.most_data-most.ensures.is
    ∙ ap (λ (k : ViewState). most_data k) (sym c.self.view_is) in
    folder_told c.args.tag _ c.args.self.now c.self.view_is c.encode.new.buf c.args.fid
    c.args.offset c.args.count c.most_data-most.result f r files at now kept most_is
    c.set_reading.new.self c.put_next.new.buf c.in_ok-reading.reading c.in_ok-reading.len c.encode.result put c.set_reading.ensures
    (record {
      fits = omega arith;
      is = subst (λ (x : List ℕ). take c.encode.result c.encode.new.buf
          ≡ spelled_reply c.args.tag (r_read x)) part c.encode.ensures.written;
      len_is = len;
      short = omega arith;
    })

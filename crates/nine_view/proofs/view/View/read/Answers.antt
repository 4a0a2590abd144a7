use Rattle.std.proofs.Common.{◌≡◌, ◌+◌, ℕ, min, Some, Ok, Err, List, length, take, sym, ◌∙◌, ap, subst, arith, length-take}
use Rattle.std.proofs.lemmas.Result.{err_from_is_err_and}
use Rattle.vt_tree.specs.declared.entry.Entry.{Entry}
use Rattle.vac_read.specs.declared.node.Stored.{Stored}
use Rattle.vac_read.specs.declared.node.Stored.TheVariants as stored
use Rattle.vac_read.specs.declared.last_way.WayBlock.{WayBlock}
use Rattle.vac_read.specs.LastWay.{ReadsNodeOnWay}
use Rattle.nine_wire.specs.Frames.{spelled_reply}
use Rattle.nine_wire.specs.Messages.{r_read}
use Rattle.nine_view.specs.declared.error.AnswerError.TheVariants.{Refused, Failed}
use Rattle.nine_view.specs.declared.fid.Fid.{Fid}
use Rattle.nine_view.specs.declared.fid.Reading.{Reading}
use Rattle.nine_view.specs.declared.request_error.RequestError.TheVariants.{BadOffset, FidNotOpen, UnknownFid}
use Rattle.nine_view.specs.Answers.{most_data, of_fid, reads_file, to_read}
use Rattle.nine_view.specs.Handling.{Handles}
use Rattle.nine_view.specs.Known.{ViewState, along, fid_at, limit}
use Rattle.nine_view.proofs.FileRead.{file_failed, file_told}
use Rattle.nine_view.proofs.Keeping.{kept_fid}
use Rattle.nine_view.proofs.Limits.{most_limit}
use Rattle.nine_view.proofs.ReadHandled.{read_closed, read_elsewhere, read_here, read_of, read_unknown}
use Rattle.nine_view.proofs.view.View.read.Goals as goal

pub returns-in_default : goal.returns-in_default
returns-in_default g c =
    let known : ViewState = record {
      top = c.self.inside.top;
      msize = c.self.inside.msize;
      fids = c.self.inside.fids;
      kept = c.self.inside.kept;
      way = c.self.inside.way;
    } in
    rw c.into.ensures (
    subst (λ (k : ViewState). Handles g.B.Blocks.does g.B.Blocks.holds g.B.Scorer.score_of
    c.args.blocks.now c.args.blocks.now c.args.tag k k c.args.out.now (Err (Refused UnknownFid))
    (of_fid k c.args.fid (λ h. to_read k c.args.fid c.args.offset c.args.count h h.reading)))
    c.self.view_is
    (read_unknown g.B.Blocks.does g.B.Blocks.holds g.B.Scorer.score_of c.args.tag known c.args.out.now c.args.fid c.args.offset c.args.count c.args.blocks.now
    (sym c.in_default.ensures)))

pub returns-in_default-reading : goal.returns-in_default-reading
returns-in_default-reading g c =
    let known : ViewState = record {
      top = c.self.inside.top;
      msize = c.self.inside.msize;
      fids = c.self.inside.fids;
      kept = c.self.inside.kept;
      way = c.self.inside.way;
    } in
    let f : Fid = c.in-Some.f.now in
    let at : fid_at c.args.fid known.fids ≡ Some f = sym c.in-Some.ensures in
    rw c.into-in_default-reading.ensures (
    subst (λ (k : ViewState). Handles g.B.Blocks.does g.B.Blocks.holds g.B.Scorer.score_of
    c.args.blocks.now c.args.blocks.now c.args.tag k k c.args.out.now (Err (Refused FidNotOpen))
    (of_fid k c.args.fid (λ h. to_read k c.args.fid c.args.offset c.args.count h h.reading)))
    c.self.view_is
    (read_closed g.B.Blocks.does g.B.Blocks.holds g.B.Scorer.score_of c.args.tag known c.args.out.now c.args.fid c.args.offset c.args.count c.args.blocks.now f at
    c.in_default-reading.is))

pub read_on_way-requires : goal.read_on_way-requires
read_on_way-requires g c =
    let known : ViewState = record {
      top = c.self.inside.top;
      msize = c.self.inside.msize;
      fids = c.self.inside.fids;
      kept = c.self.inside.kept;
      way = c.self.inside.way;
    } in
    let f : Fid = c.in-Some.f.now in
    (kept_fid known c.args.fid f c.self.invariant.1 (sym c.in-Some.ensures)).node.entries

pub returns-in_err-bytes-in-File : goal.returns-in_err-bytes-in-File
returns-in_err-bytes-in-File g c =
    let p = err_from_is_err_and c.from_residual.result c.from_residual.ensures.1 in
    let bad = c.in_err-bytes-in-File.field-0.0 in
    let known : ViewState = record {
      top = c.self.inside.top;
      msize = c.self.inside.msize;
      fids = c.self.inside.fids;
      kept = c.self.inside.kept;
      way = c.self.inside.way;
    } in
    let way : List WayBlock = c.read_on_way.new.way in
    let new : ViewState = along way known in
    let f : Fid = c.in-Some.f.now in
    let at : fid_at c.args.fid known.fids ≡ Some f = sym c.in-Some.ensures in
    let r : Reading = c.in-Some-reading.reading in
    let now : f.reading ≡ Some r = c.in-Some-reading.is in
    let e : Entry = c.in-File.field-0 in
    let room : ℕ = c.min-room.result in
    let room_is : room ≡ min c.args.count (most_data known) =
    c.min-room.ensures ∙ ap (λ (n : ℕ). min c.args.count n)
    (c.most_data.ensures.is ∙ ap (λ (k : ViewState). most_data k) (sym c.self.view_is)) in
    rw (p.1, p.2) (
    subst (λ (k : ViewState). Handles g.B.Blocks.does g.B.Blocks.holds g.B.Scorer.score_of
    c.args.blocks.now c.read_on_way.new.blocks c.args.tag k new c.args.out.now (Err (Failed bad))
    (of_fid k c.args.fid (λ h. to_read k c.args.fid c.args.offset c.args.count h h.reading)))
    c.self.view_is
    (read_of g.B.Blocks.does g.B.Blocks.holds g.B.Scorer.score_of c.args.tag known c.args.out.now
    c.args.fid c.args.offset c.args.count c.args.blocks.now c.read_on_way.new.blocks new
    (Err (Failed bad)) f r (stored.File e) at now c.in-File.is
    (subst (λ (n : ℕ). Handles g.B.Blocks.does g.B.Blocks.holds g.B.Scorer.score_of
    c.args.blocks.now c.read_on_way.new.blocks c.args.tag known new c.args.out.now (Err (Failed bad))
    (reads_file e c.args.offset n)) room_is
    (file_failed g.B.Blocks.does g.B.Blocks.holds g.B.Scorer.score_of c.args.blocks.now
    c.read_on_way.new.blocks c.args.tag known way c.args.out.now e c.args.offset room bad
    (subst (λ (s : Stored). ReadsNodeOnWay g.B.Blocks.does g.B.Blocks.holds g.B.Scorer.score_of
    c.args.blocks.now c.read_on_way.new.blocks known.way way s c.args.offset room (Err bad)) c.in-File.is
    c.in_err-bytes-in-File.ensures)))))

pub returns-in_ok-bytes-in-File : goal.returns-in_ok-bytes-in-File
returns-in_ok-bytes-in-File g c =
    let known : ViewState = record {
      top = c.self.inside.top;
      msize = c.self.inside.msize;
      fids = c.self.inside.fids;
      kept = c.self.inside.kept;
      way = c.self.inside.way;
    } in
    let way : List WayBlock = c.read_on_way.new.way in
    let new : ViewState = along way known in
    let f : Fid = c.in-Some.f.now in
    let at : fid_at c.args.fid known.fids ≡ Some f = sym c.in-Some.ensures in
    let r : Reading = c.in-Some-reading.reading in
    let now : f.reading ≡ Some r = c.in-Some-reading.is in
    let e : Entry = c.in-File.field-0 in
    let bytes : List ℕ = c.in_ok-bytes-in-File.bytes in
    let room : ℕ = c.min-room.result in
    let room_is : room ≡ min c.args.count (most_data known) =
    c.min-room.ensures ∙ ap (λ (n : ℕ). min c.args.count n)
    (c.most_data.ensures.is ∙ ap (λ (k : ViewState). most_data k) (sym c.self.view_is)) in
    let fits : c.most_data.result + 24 ≡ limit known =
    c.most_data.ensures.fits ∙ ap (λ (k : ViewState). limit k) (sym c.self.view_is) in
    let told : c.first-told.result.now ≡ take room bytes =
    c.first-told.ensures ∙ ap (λ (l : List ℕ). take room l) c.as_slice.ensures in
    let few = length-take room bytes in
    let most = most_limit known c.self.invariant.1 in
    let len : c.encode.result ≡ length (spelled_reply c.args.tag (r_read (take room bytes))) =
    subst (λ (x : List ℕ). c.encode.result ≡ length (spelled_reply c.args.tag (r_read x))) told
    c.encode.ensures.len in
    let small = c.min-room.ensures in
    subst (λ (k : ViewState). Handles g.B.Blocks.does g.B.Blocks.holds g.B.Scorer.score_of
    c.args.blocks.now c.read_on_way.new.blocks c.args.tag k new c.encode.new.buf (Ok c.encode.result)
    (of_fid k c.args.fid (λ h. to_read k c.args.fid c.args.offset c.args.count h h.reading)))
    c.self.view_is
    (read_of g.B.Blocks.does g.B.Blocks.holds g.B.Scorer.score_of c.args.tag known
    c.encode.new.buf c.args.fid c.args.offset c.args.count c.args.blocks.now
    c.read_on_way.new.blocks new (Ok c.encode.result) f r (stored.File e) at now c.in-File.is
    (subst (λ (n : ℕ). Handles g.B.Blocks.does g.B.Blocks.holds g.B.Scorer.score_of
    c.args.blocks.now c.read_on_way.new.blocks c.args.tag known new c.encode.new.buf
    (Ok c.encode.result) (reads_file e c.args.offset n)) room_is
    (file_told g.B.Blocks.does g.B.Blocks.holds g.B.Scorer.score_of c.args.blocks.now
    c.read_on_way.new.blocks c.args.tag known way c.encode.new.buf e c.args.offset room bytes c.encode.result
    (subst (λ (s : Stored). ReadsNodeOnWay g.B.Blocks.does g.B.Blocks.holds g.B.Scorer.score_of
    c.args.blocks.now c.read_on_way.new.blocks known.way way s c.args.offset room (Ok bytes)) c.in-File.is
    c.in_ok-bytes-in-File.ensures)
    (record {
      fits = omega arith;
      is = subst (λ (x : List ℕ). take c.encode.result c.encode.new.buf
          ≡ spelled_reply c.args.tag (r_read x)) told c.encode.ensures.written;
      len_is = len;
      short = omega arith;
    }))))

pub returns-then-is_bad_offset : goal.returns-then-is_bad_offset
returns-then-is_bad_offset g c =
    let known : ViewState = record {
      top = c.self.inside.top;
      msize = c.self.inside.msize;
      fids = c.self.inside.fids;
      kept = c.self.inside.kept;
      way = c.self.inside.way;
    } in
    let f : Fid = c.in-Some.f.now in
    let at : fid_at c.args.fid known.fids ≡ Some f = sym c.in-Some.ensures in
    let r : Reading = c.in-Some-reading.reading in
    let now : f.reading ≡ Some r = c.in-Some-reading.is in
    rw c.into-then-is_bad_offset.ensures (
    subst (λ (k : ViewState). Handles g.B.Blocks.does g.B.Blocks.holds g.B.Scorer.score_of
    c.args.blocks.now c.args.blocks.now c.args.tag k k c.args.out.now (Err (Refused BadOffset))
    (of_fid k c.args.fid (λ h. to_read k c.args.fid c.args.offset c.args.count h h.reading)))
    c.self.view_is
    (read_of g.B.Blocks.does g.B.Blocks.holds g.B.Scorer.score_of c.args.tag known c.args.out.now c.args.fid c.args.offset c.args.count c.args.blocks.now
    c.args.blocks.now known (Err (Refused BadOffset)) f r
    (stored.Folder c.in-Folder.entries c.in-Folder.metadata) at now c.in-Folder.is
    (read_elsewhere g.B.Blocks.does g.B.Blocks.holds g.B.Scorer.score_of c.args.tag known c.args.out.now c.args.fid c.args.offset c.args.count c.args.blocks.now f r
    c.in-Folder.entries c.in-Folder.metadata
    (sym c.is_bad_offset.ensures ∙ c.if-is_bad_offset.true))))

pub returns-else-is_bad_offset : goal.returns-else-is_bad_offset
returns-else-is_bad_offset g c =
    let known : ViewState = c.args.self.now in
    let f : Fid = c.in-Some.f.now in
    let at : fid_at c.args.fid known.fids ≡ Some f =
    ap (λ (k : ViewState). fid_at c.args.fid k.fids) (sym c.self.view_is) ∙ sym c.in-Some.ensures in
    let r : Reading = c.in-Some-reading.reading in
    let now : f.reading ≡ Some r = c.in-Some-reading.is in
    read_of g.B.Blocks.does g.B.Blocks.holds g.B.Scorer.score_of c.args.tag known
    c.read_folder.new.out c.args.fid c.args.offset c.args.count c.args.blocks.now
    c.read_folder.new.blocks c.read_folder.new.self c.read_folder.result f r
    (stored.Folder c.in-Folder.entries c.in-Folder.metadata) at now c.in-Folder.is
    (read_here g.B.Blocks.does g.B.Blocks.holds g.B.Scorer.score_of c.args.tag known
    c.read_folder.new.out c.args.fid c.args.offset c.args.count c.args.blocks.now
    c.read_folder.new.blocks c.read_folder.new.self c.read_folder.result f r
    c.in-Folder.entries c.in-Folder.metadata
    (sym c.is_bad_offset.ensures ∙ c.if-is_bad_offset.false) (c.read_folder.ensures f r at now))

use Rattle.std.proofs.Common.{◌≡◌, Some, Ok, Err, length, take, sym, ◌∙◌, ap, subst, arith}
use Rattle.std.proofs.lemmas.Bool.{le-ltb, lt-ltb}
use Rattle.nine_wire.specs.Frames.{spelled_reply}
use Rattle.nine_wire.specs.Messages.{FitsStat, Stat, r_stat, stat_bytes}
use Rattle.nine_view.specs.declared.error.AnswerError.TheVariants.{Refused}
use Rattle.nine_view.specs.declared.fid.Fid.{Fid}
use Rattle.nine_view.specs.declared.request_error.RequestError.TheVariants.{SmallCount, UnknownFid}
use Rattle.nine_view.specs.Answers.{of_fid, settled, to_stat}
use Rattle.nine_view.specs.Files.{stat_of}
use Rattle.nine_view.specs.Handling.{SettlesSo}
use Rattle.nine_view.specs.Known.{ViewState, fid_at}
use Rattle.nine_view.proofs.Keeping.{kept_fid}
use Rattle.nine_view.proofs.Settled.{stat_small, stat_told, unknown_at}
use Rattle.nine_view.proofs.Sizes.{stat_len}
use Rattle.nine_view.proofs.view.View.stat.Goals as goal

pub returns-in_default : goal.returns-in_default
returns-in_default c =
    let known : ViewState = record {
      top = c.self.inside.top;
      msize = c.self.inside.msize;
      fids = c.self.inside.fids;
      kept = c.self.inside.kept;
      way = c.self.inside.way;
    } in
    rw c.into.ensures (subst (λ (k : ViewState). SettlesSo c.args.tag k k c.args.out.now
    (Err (Refused UnknownFid)) (of_fid k c.args.fid (λ f. settled (to_stat k c.args.msize f))))
    c.self.view_is
    (unknown_at c.args.tag known c.args.out.now c.args.fid
    (λ f. settled (to_stat known c.args.msize f)) (sym c.in_default.ensures)))

pub stat_of-stat-requires : goal.stat_of-stat-requires
stat_of-stat-requires c =
    let known : ViewState = record {
      top = c.self.inside.top;
      msize = c.self.inside.msize;
      fids = c.self.inside.fids;
      kept = c.self.inside.kept;
      way = c.self.inside.way;
    } in
    let f : Fid = c.in-Some.f.now in
    let at : fid_at c.args.fid known.fids ≡ Some f = sym c.in-Some.ensures in
    (kept_fid known c.args.fid f c.self.invariant.1 at).node

pub stat_len-requires : goal.stat_len-requires
stat_len-requires c =
    subst (λ (s : Stat). FitsStat s) (sym c.stat_of-stat.ensures.stat) c.stat_of-stat.ensures.fits

pub returns-then-stat_len-msize : goal.returns-then-stat_len-msize
returns-then-stat_len-msize c =
    let known : ViewState = record {
      top = c.self.inside.top;
      msize = c.self.inside.msize;
      fids = c.self.inside.fids;
      kept = c.self.inside.kept;
      way = c.self.inside.way;
    } in
    let f : Fid = c.in-Some.f.now in
    let at : fid_at c.args.fid known.fids ≡ Some f = sym c.in-Some.ensures in
    let len = c.stat_len.ensures
    ∙ ap (λ (s : Stat). length (stat_bytes s)) c.stat_of-stat.ensures.stat in
    let there = stat_len 0 (stat_of f.node) in
    rw c.into-then-stat_len-msize.ensures (subst (λ (k : ViewState). SettlesSo c.args.tag k k c.args.out.now
    (Err (Refused SmallCount)) (of_fid k c.args.fid (λ f. settled (to_stat k c.args.msize f))))
    c.self.view_is
    (stat_small c.args.tag known c.args.out.now c.args.msize c.args.fid f at
    (lt-ltb c.args.msize (length (spelled_reply 0 (r_stat (stat_of f.node)))) (omega (arith, len, there)))))

pub returns : goal.returns
returns c =
    let known : ViewState = record {
      top = c.self.inside.top;
      msize = c.self.inside.msize;
      fids = c.self.inside.fids;
      kept = c.self.inside.kept;
      way = c.self.inside.way;
    } in
    let f : Fid = c.in-Some.f.now in
    let at : fid_at c.args.fid known.fids ≡ Some f = sym c.in-Some.ensures in
    let len = c.stat_len.ensures
    ∙ ap (λ (s : Stat). length (stat_bytes s)) c.stat_of-stat.ensures.stat in
    let there = stat_len 0 (stat_of f.node) in
    subst (λ (k : ViewState). SettlesSo c.args.tag k k c.encode.new.buf (Ok c.encode.result)
    (of_fid k c.args.fid (λ f. settled (to_stat k c.args.msize f)))) c.self.view_is
    (stat_told c.args.tag known c.encode.new.buf c.args.msize c.args.fid f c.encode.result
    (ap (λ (k : ViewState). k.msize) c.self.view_is ∙ c.requires.agreed) at c.stat_of-stat.ensures.fits
    (le-ltb c.args.msize (length (spelled_reply 0 (r_stat (stat_of f.node)))) (omega (arith, len, there)))
    (subst (λ (s : Stat). take c.encode.result c.encode.new.buf ≡ spelled_reply c.args.tag (r_stat s))
    c.stat_of-stat.ensures.stat c.encode.ensures.written)
    (subst (λ (s : Stat). c.encode.result ≡ length (spelled_reply c.args.tag (r_stat s)))
    c.stat_of-stat.ensures.stat c.encode.ensures.len))

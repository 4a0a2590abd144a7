use Rattle.std.proofs.Common.{◌≡◌, ◌+◌, ◌-◌, ℕ, true, List, Option, Some, length, drop, refl, sym, ◌∙◌, ap, subst, arith, length-drop}
use Rattle.std.specs.Prelude.{IfSome}
use Rattle.std.specs.List.{All, flat_map}
use Rattle.std.proofs.lemmas.List.Elements.{All-drop}
use Rattle.vac_read.specs.declared.node.Node.{Node}
use Rattle.nine_view.specs.declared.request_error.RequestError.TheVariants.{SmallCount}
use Rattle.nine_view.specs.Files.{FitsMessage, stat_in}
use Rattle.nine_view.specs.Answers.{is_small}
use Rattle.nine_view.proofs.Fitting.{fitting_few, fitting_within}
use Rattle.nine_view.proofs.FolderRead.{put_is, told_same}
use Rattle.nine_view.proofs.reading.put_next.Goals as goal

all_behind : (files next : List Node) (from : ℕ) (kept : Option (List Node))
    → IfSome kept (All FitsMessage) → kept ≡ Some files → next ≡ drop from files
    → All FitsMessage next
all_behind files next from kept all is next_is =
    subst (λ (x : List Node). All FitsMessage x) (sym next_is) (All-drop FitsMessage from files
    (subst (λ (o : Option (List Node)). IfSome o (All FitsMessage)) is all))

pub put_files-told-requires-clause-told : goal.put_files-told-requires-clause-told
put_files-told-requires-clause-told c =
    let l = c.in-Some.ensures.some in
    all_behind c.in-Some.files.now c.files_from-next.result.now c.first_file-from.result l.0.files
    (c.requires.told l.0 l.1) l.2 c.files_from-next.ensures

pub is_rest-rest-requires : goal.is_rest-rest-requires
is_rest-rest-requires c =
    let l = c.in-Some.ensures.some in
    all_behind c.in-Some.files.now c.files_from-next.result.now c.first_file-from.result l.0.files
    (c.requires.told l.0 l.1) l.2 c.files_from-next.ensures

pub returns-then-is_small : goal.returns-then-is_small
returns-then-is_small c = λ f r files at now kept.
    let l = c.in-Some.ensures.some in
    let put = put_is c.in-Some.reading c.in-Some.files.now c.files_from-next.result.now c.args.offset
    c.args.count c.args.most c.min.result c.first_file-from.result c.put_files-told.result.0
    c.count_of.result c.is_rest-rest.result c.min.ensures c.first_file-from.ensures
    c.files_from-next.ensures c.put_files-told.ensures.count c.count_of.ensures
    c.is_rest-rest.ensures in
    told_same (λ g q m. (is_small c.args.most q m c.args.offset c.args.count ≡ true)
    × (SmallCount ≡ SmallCount)) c.args.fid c.args.fids.now
    f l.0 r c.in-Some.reading files c.in-Some.files.now at now kept l.1 l.3 l.2
    (sym put.1 ∙ sym c.is_small.ensures ∙ c.if-is_small.true, refl)

pub overflow_add-reading : goal.overflow_add-reading
overflow_add-reading c =
    let few = fitting_few c.min.result c.files_from-next.result.now in
    let behind : length c.files_from-next.result.now
    ≡ length (drop c.first_file-from.result c.in-Some.files.now) =
    ap (λ (x : List Node). length x) c.files_from-next.ensures in
    let rest = length-drop c.first_file-from.result c.in-Some.files.now in
    omega (arith, c.count_of.ensures, c.put_files-told.ensures.count)

pub overflow_sub-reading : goal.overflow_sub-reading
overflow_sub-reading c =
    let few = fitting_within c.min.result c.files_from-next.result.now in
    omega (arith, c.put_files-told.ensures.len, c.min.ensures)

pub overflow_cast-reading-2 : goal.overflow_cast-reading-2
overflow_cast-reading-2 c =
    let few = fitting_within c.min.result c.files_from-next.result.now in
    omega (arith, c.put_files-told.ensures.len, c.min.ensures)

pub returns : goal.returns
returns c =
    let l = c.in-Some.ensures.some in
    let put = put_is c.in-Some.reading c.in-Some.files.now c.files_from-next.result.now c.args.offset
    c.args.count c.args.most c.min.result c.first_file-from.result c.put_files-told.result.0
    c.count_of.result c.is_rest-rest.result c.min.ensures c.first_file-from.ensures
    c.files_from-next.ensures c.put_files-told.ensures.count c.count_of.ensures
    c.is_rest-rest.ensures in
    let len = c.put_files-told.ensures.len
    ∙ ap (λ (x : List Node). length (flat_map stat_in x)) put.0 in
    record {
      f = l.0;
      reading = c.in-Some.reading;
      files = c.in-Some.files.now;
      at = l.1;
      now = l.3;
      kept = l.2;
      some = sym put.1 ∙ sym c.is_small.ensures ∙ c.if-is_small.false;
      next_is = put.2;
      end_is = ap (λ (n : ℕ). n + c.put_files-told.result.1) c.from.ensures
          ∙ ap (λ (n : ℕ). c.args.offset + n) len;
      left_is = ap (λ (n : ℕ). c.args.count - n) len;
      len_is = len;
      written = c.put_files-told.ensures.written
          ∙ ap (λ (x : List Node). flat_map stat_in x) put.0;
    }

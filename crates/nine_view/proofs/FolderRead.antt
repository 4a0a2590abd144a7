-- What a read of an open folder comes to, of which the files are kept.
use Rattle.std.proofs.Common.{◌≡◌, ◌+◌, ◌-◌, ◌==◌, ◌&&◌, ℕ, Bool, true, false, min, Option, Some, Ok, Err, List, length, drop, refl, sym, ◌∙◌, ap, subst}
use Rattle.std.specs.Prelude.{IfSome, nat_lt, not}
use Rattle.std.specs.List.{flat_map}
use Rattle.vt_tree.specs.Maps.{BlockMap}
use Rattle.vac_read.specs.declared.node.Node.{Node}
use Rattle.nine_wire.specs.Messages.{r_read}
use Rattle.nine_view.specs.declared.error.AnswerError.TheVariants.{Refused}
use Rattle.nine_view.specs.declared.fid.Fid.{Fid}
use Rattle.nine_view.specs.declared.fid.Reading.{Reading}
use Rattle.nine_view.specs.declared.request_error.RequestError.{RequestError}
use Rattle.nine_view.specs.Answers.{first_file, fitting, has_no_room, is_rest, is_small, most_data, reads_files, told_next}
use Rattle.nine_view.specs.Files.{stat_in}
use Rattle.nine_view.specs.Handling.{PutsNext, Says, SettlesRequest, TellsNext}
use Rattle.nine_view.specs.Kept.{IsKeptView}
use Rattle.nine_view.specs.Known.{ViewState, IsRightView, fid_at, limit, with_fid}
use Rattle.nine_view.proofs.Keeping.{kept_fid, kept_with, right_fid, right_with, with_same}

-- what holds of the fid that is there holds of any that is
pub told_same : (P : Fid → Reading → List Node → Type 0) (fid : ℕ) (fids : List (ℕ × Fid))
    (f g : Fid) (r q : Reading) (l m : List Node) → fid_at fid fids ≡ Some f
    → f.reading ≡ Some r → f.files ≡ Some l → fid_at fid fids ≡ Some g → g.reading ≡ Some q
    → g.files ≡ Some m → P g q m → P f r l
told_same P fid fids f g r q l m at now kept at' now' kept' is =
    let both : Some g ≡ Some f = sym at' ∙ at in
    let same : g ≡ f = cc in
    let reading : Some q ≡ Some r = sym now' ∙ ap (λ (x : Fid). x.reading) same ∙ now in
    let files : Some m ≡ Some l = sym kept' ∙ ap (λ (x : Fid). x.files) same ∙ kept in
    let same_reading : q ≡ r = cc in
    let same_files : m ≡ l = cc in
    subst (λ (x : Fid). P x r l) same
    (subst (λ (x : Reading). P g x l) same_reading
    (subst (λ (x : List Node). P g q x) same_files is))

-- the files that were put into the buffer are those that the next read tells of
pub put_is : (r : Reading) (files behind : List Node) (offset count most room from told all : ℕ)
    (rest : Bool) → room ≡ min count most → from ≡ first_file r offset → behind ≡ drop from files
    → told ≡ length (fitting room behind) → all ≡ length files
    → rest ≡ is_rest most r offset count behind
    → (fitting room behind ≡ told_next r files offset (min count most))
    × (((told == 0 && nat_lt from all) && not rest) ≡ is_small most r files offset count)
    × (from + told ≡ first_file r offset + length (told_next r files offset (min count most)))
put_is r files behind offset count most room from told all rest room_is from_is behind_is told_is
    all_is rest_is =
    let next : behind ≡ drop (first_file r offset) files =
    behind_is ∙ ap (λ (n : ℕ). drop n files) from_is in
    let same : fitting room behind ≡ told_next r files offset (min count most) =
    ap (λ (x : List Node). fitting room x) next
    ∙ ap (λ (n : ℕ). fitting n (drop (first_file r offset) files)) room_is in
    let many : told ≡ length (told_next r files offset (min count most)) =
    told_is ∙ ap (λ (x : List Node). length x) same in (
      same,
      ap (λ (n : ℕ). (told == 0 && nat_lt from n) && not rest) all_is
          ∙ ap (λ (n : ℕ). (n == 0 && nat_lt from (length files)) && not rest) many
          ∙ ap (λ (n : ℕ). (length (told_next r files offset (min count most)) == 0
          && nat_lt n (length files)) && not rest) from_is
          ∙ ap (λ (b : Bool). has_no_room r files offset (min count most) && not b)
          (rest_is ∙ ap (λ (x : List Node). is_rest most r offset count x) next),
      ap (λ (n : ℕ). n + told) from_is ∙ ap (λ (n : ℕ). first_file r offset + n) many,
    )

-- how far a fid was read is set
abbrev pub SetsReading : (old : List (ℕ × Fid)) → (fid : ℕ) → Reading → (new : List (ℕ × Fid))
    → Type 0
SetsReading old fid next new =
    IfSome (fid_at fid old) (λ f. new ≡ with_fid fid (record f { reading = Some next }) old)

set_here : (old new : List (ℕ × Fid)) (fid : ℕ) (f : Fid) (next : Reading)
    → fid_at fid old ≡ Some f → SetsReading old fid next new
    → new ≡ with_fid fid (record f { reading = Some next }) old
set_here old new fid f next at set =
    subst (λ (o : Option Fid). IfSome o (λ (h : Fid).
    new ≡ with_fid fid (record h { reading = Some next }) old)) at set

pub kept_reading : (known : ViewState) (fid : ℕ) (f : Fid) (next : Reading) (fids : List (ℕ × Fid))
    → IsKeptView known → fid_at fid known.fids ≡ Some f → SetsReading known.fids fid next fids
    → IsKeptView (record known { fids = fids })
kept_reading known fid f next fids kept at set =
    let old = kept_fid known fid f kept at in
    subst (λ (x : List (ℕ × Fid)). IsKeptView (record known { fids = x }))
    (sym (set_here known.fids fids fid f next at set))
    (kept_with known fid (record f { reading = Some next }) kept
    (record { node = old.node; above = old.above; files = old.files }))

-- a folder that is open and of which the files are kept, in a view that is this one
module _ (tag : ℕ) (known now : ViewState) (view : known ≡ now) (out : List ℕ)
    (fid offset count most : ℕ) (f : Fid) (reading : Reading) (files : List Node)
    (at : fid_at fid now.fids ≡ Some f) (reads : f.reading ≡ Some reading)
    (kept : f.files ≡ Some files) (most_is : most ≡ most_data known)
  where
    here : fid_at fid known.fids ≡ Some f
    here = ap (λ (k : ViewState). fid_at fid k.fids) view ∙ at

    pub folder_small : (buf : List ℕ) (why : RequestError)
        → PutsNext known.fids fid offset count most buf (Err why)
        → SettlesRequest tag now known out (Err (Refused why))
        (reads_files now fid f reading offset count files)
    folder_small buf why none =
        let it = none f reading files here reads kept in
        let same : known.fids ≡ with_fid fid (record f { files = Some files }) known.fids =
        sym (with_same fid f known.fids here)
        ∙ ap (λ (o : Option (List Node)). with_fid fid (record f { files = o }) known.fids) kept in
        let small : is_small (most_data known) reading files offset count ≡ true =
        ap (λ (n : ℕ). is_small n reading files offset count) (sym most_is) ∙ it.0 in
        subst (λ (k : ViewState). SettlesRequest tag k known out (Err (Refused why))
        (reads_files k fid f reading offset count files)) view
        (rw (it.1, small) (record {
          says = refl;
          known = ap (λ (l : List (ℕ × Fid)). record known { fids = l }) same;
          whole = refl;
          right = λ map right. right;
        }))

    -- where the fid that is there was told of
    told_here : (fids : List (ℕ × Fid)) (buf : List ℕ) (next : Reading) (len total : ℕ)
        (put : TellsNext known.fids fid offset count most buf next len)
        → SetsReading known.fids fid next fids
        → Says tag (limit known) out total
        (r_read (flat_map stat_in (told_next put.reading put.files offset (min count most))))
        → SettlesRequest tag known (record known { fids = fids }) out (Ok total)
        (reads_files known fid put.f put.reading offset count put.files)
    told_here fids buf next len total put sets says =
        let set = set_here known.fids fids fid put.f next put.at sets in
        let told : List Node = told_next put.reading put.files offset (min count most) in
        let first : ℕ = first_file put.reading offset in
        let whole : fids ≡ with_fid fid (record put.f {
          files = Some put.files;
          reading = Some (record {
            next = first + length told;
            offset = offset + length (flat_map stat_in told);
            left = count - length (flat_map stat_in told);
          });
        }) known.fids =
        set
        ∙ ap (λ (o : Option (List Node)). with_fid fid (record put.f {
          files = o;
          reading = Some next;
        }) known.fids) put.kept
        ∙ ap (λ (n : ℕ). with_fid fid (record put.f {
          files = Some put.files;
          reading = Some (record { next = n; offset = next.offset; left = next.left });
        }) known.fids) put.next_is
        ∙ ap (λ (n : ℕ). with_fid fid (record put.f {
          files = Some put.files;
          reading = Some (record { next = first + length told; offset = n; left = next.left });
        }) known.fids) put.end_is
        ∙ ap (λ (n : ℕ). with_fid fid (record put.f {
          files = Some put.files;
          reading = Some (record {
            next = first + length told;
            offset = offset + length (flat_map stat_in told);
            left = n;
          });
        }) known.fids) put.left_is in
        let right : (map : BlockMap) → IsRightView map known
        → IsRightView map (record known { fids = fids }) =
        λ map right.
        let old = right_fid map known fid put.f right put.at in
        subst (λ (l : List (ℕ × Fid)). IsRightView map (record known { fids = l })) (sym set)
        (right_with map known fid (record put.f { reading = Some next }) right
        (record { way = old.way; files = old.files })) in
        subst (λ (n : ℕ). is_small n put.reading put.files offset count ≡ false
        → ◌≡◌ {A = List (ℕ × Fid)} fids (with_fid fid (record put.f {
          files = Some put.files;
          reading = Some (record {
            next = first + length (told_next put.reading put.files offset (min count n));
            offset = offset
                + length (flat_map stat_in (told_next put.reading put.files offset (min count n)));
            left = count
                - length (flat_map stat_in (told_next put.reading put.files offset (min count n)));
          });
        }) known.fids)
        → Says tag (limit known) out total
        (r_read (flat_map stat_in (told_next put.reading put.files offset (min count n))))
        → SettlesRequest tag known (record known { fids = fids }) out (Ok total)
        (reads_files known fid put.f put.reading offset count put.files)) (sym most_is)
        (λ some whole says. rw some (record {
          says = says;
          known = ap (λ (l : List (ℕ × Fid)). record known { fids = l }) whole;
          whole = refl;
          right = right;
        })) put.some whole says

    pub folder_told : (fids : List (ℕ × Fid)) (buf : List ℕ) (next : Reading) (len total : ℕ)
        (put : TellsNext known.fids fid offset count most buf next len)
        → SetsReading known.fids fid next fids
        → Says tag (limit known) out total
        (r_read (flat_map stat_in (told_next put.reading put.files offset (min count most))))
        → SettlesRequest tag now (record known { fids = fids }) out (Ok total)
        (reads_files now fid f reading offset count files)
    folder_told fids buf next len total put sets says =
        subst (λ (k : ViewState). SettlesRequest tag k (record known { fids = fids }) out (Ok total)
        (reads_files k fid f reading offset count files)) view
        (told_same (λ g q m. SettlesRequest tag known (record known { fids = fids }) out (Ok total)
        (reads_files known fid g q offset count m)) fid known.fids
        f put.f reading put.reading files put.files here reads kept put.at put.now put.kept
        (told_here fids buf next len total put sets says))

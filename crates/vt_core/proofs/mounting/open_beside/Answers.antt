use Rattle.std.proofs.Common.{◌≡◌, ◌+◌, inr, ℕ, List, length, map, Option, Ok, Err, sym, ◌∙◌, ap, subst, arith}
use Rattle.std.specs.Prelude.{⊤}
use Rattle.std.specs.Option.{option_map, option_to_list}
use Rattle.vt_isect.specs.Section.{SectionState}
use Rattle.vt_log.specs.Answers.{HoldTheSame}
use Rattle.vt_core.specs.Opening.{TestsParts}
use Rattle.vt_recover.specs.Refusals.{CountsRefusal}
use Rattle.vt_core.proofs.Beside.{can_open, none_fails}
use Rattle.vt_core.proofs.BesideWork.{both_held, closed_is, counts_filter, counts_none, counts_sections, filter_refused, sections_refused, tests_counts}
use Rattle.vt_recover.proofs.Held.{hold_still}
use Rattle.vt_recover.proofs.Zips.{zip_length}
use Rattle.vt_recover.specs.Opening.{IsFoundSection}
use Rattle.vt_core.proofs.mounting.open_beside.Goals as goal

pub returns-in-Err-clause-refused : goal.returns-in-Err-clause-refused
returns-in-Err-clause-refused g c = sections_refused g.D.Disk c.args.devices.items c.args.filter c.args.part c.args.len c.in-Err.bad c.in-Err.ensures.refused

pub returns-in-Err-clause-found : goal.returns-in-Err-clause-found
returns-in-Err-clause-found g c = λ score setup h tells agree whole.
    c.in-Err.ensures.found tells (can_open score g.D.Disk setup h tells c.args.devices.items c.args.filter agree)

pub returns-in-Err-clause-held : goal.returns-in-Err-clause-held
returns-in-Err-clause-held g c =
    both_held g.D.Disk c.args.devices.items c.args.filter c.in-Err.devices.items c.args.filter c.in-Err.ensures.held (hold_still g.D.Disk (option_to_list c.args.filter))

pub returns-in-Err-clause-counts : goal.returns-in-Err-clause-counts
returns-in-Err-clause-counts g c =
    counts_sections g.D.Disk c.args.devices.items c.args.filter c.in-Err.bad c.in-Err.devices.items c.in-Err.ensures.counts

pub overflow_add-part : goal.overflow_add-part
overflow_add-part g c =
    let many = zip_length (IsFoundSection g.D.Disk) c.args.devices.items c.in-Ok.opened.0.items c.in-Ok.ensures.opened.0 in
    omega (arith, many, c.len.ensures, c.in-Ok.opened.0.ok.0, c.requires)

pub overflow_cast-len : goal.overflow_cast-len
overflow_cast-len g c =
    let many = zip_length (IsFoundSection g.D.Disk) c.args.devices.items c.in-Ok.opened.0.items c.in-Ok.ensures.opened.0 in
    omega (arith, many, c.len.ensures, c.in-Ok.opened.0.ok.0, c.requires)

pub close_sections-requires : goal.close_sections-requires
close_sections-requires g c =
    let many = zip_length (IsFoundSection g.D.Disk) c.args.devices.items c.in-Ok.opened.0.items c.in-Ok.ensures.opened.0 in
    omega (arith, many, ap length c.in-Ok.ensures.opened.1.empty, c.in-Ok.ensures.opened.1.enough)

pub returns-in-Err-open_filter-clause-refused : goal.returns-in-Err-open_filter-clause-refused
returns-in-Err-open_filter-clause-refused g c =
    let many = zip_length (IsFoundSection g.D.Disk) c.args.devices.items c.in-Ok.opened.0.items c.in-Ok.ensures.opened.0 in
    let at : c.args.part + c.len.result ≡ c.args.part + length c.args.devices.items = omega (arith, many, c.len.ensures, c.in-Ok.opened.0.ok.0) in
    filter_refused g.D.Disk c.args.devices.items c.args.filter c.args.part c.args.len (c.args.part + c.len.result) c.in-Err-open_filter.bad at c.in-Err-open_filter.ensures.refused

pub returns-in-Err-open_filter-clause-found : goal.returns-in-Err-open_filter-clause-found
returns-in-Err-open_filter-clause-found g c = λ score setup h tells agree whole.
    c.in-Err-open_filter.ensures.found tells (λ it is. let f = agree.filter_is it is in (f.saved, f.has))

pub returns-in-Err-open_filter-clause-held : goal.returns-in-Err-open_filter-clause-held
returns-in-Err-open_filter-clause-held g c =
    let closed = closed_is g.D.Disk c.args.devices.items c.args.filter c.in-Ok.opened.0.items c.in-Ok.opened.1.items c.close_sections.result.items c.in-Ok.ensures.opened.1.empty c.close_sections.ensures in
    both_held g.D.Disk c.args.devices.items c.args.filter c.close_sections.result.items c.in-Err-open_filter.filter
    (subst (λ (l : List g.row.D.Denot). HoldTheSame g.D.Disk c.args.devices.items l) (sym closed) c.in-Ok.ensures.held) c.in-Err-open_filter.ensures.held

pub returns-in-Err-open_filter-clause-counts : goal.returns-in-Err-open_filter-clause-counts
returns-in-Err-open_filter-clause-counts g c =
    let closed = closed_is g.D.Disk c.args.devices.items c.args.filter c.in-Ok.opened.0.items c.in-Ok.opened.1.items c.close_sections.result.items c.in-Ok.ensures.opened.1.empty c.close_sections.ensures in
    counts_filter g.D.Disk c.args.devices.items c.args.filter c.in-Err-open_filter.bad c.close_sections.result.items c.in-Err-open_filter.filter
    (ap (map g.D.Disk.faults) closed ∙ c.in-Ok.ensures.counts) c.in-Err-open_filter.ensures.counts

pub test_parts-requires : goal.test_parts-requires
test_parts-requires g c =
    let many = zip_length (IsFoundSection g.D.Disk) c.args.devices.items c.in-Ok.opened.0.items c.in-Ok.ensures.opened.0 in
    omega (arith, many, ap length c.deref.ensures.value, c.requires)

pub close_sections-requires-in-Err-test_parts : goal.close_sections-requires-in-Err-test_parts
close_sections-requires-in-Err-test_parts g c =
    let many = zip_length (IsFoundSection g.D.Disk) c.args.devices.items c.in-Ok.opened.0.items c.in-Ok.ensures.opened.0 in
    omega (arith, many, ap length c.in-Ok.ensures.opened.1.empty, c.in-Ok.ensures.opened.1.enough)

pub returns-in-Err-test_parts-clause-refused : goal.returns-in-Err-test_parts-clause-refused
returns-in-Err-test_parts-clause-refused g c =
    let tests : TestsParts {U = ⊤} c.args.part c.in-Ok.opened.0.items c.in-Ok-open_filter.opened.0 c.args.len (Err c.in-Err-test_parts.bad) =
    subst (λ (l : List (SectionState g.row.D.Denot)). TestsParts {U = ⊤} c.args.part l c.in-Ok-open_filter.opened.0 c.args.len (Err c.in-Err-test_parts.bad)) c.deref.ensures.value c.in-Err-test_parts.ensures in
    inr (inr (inr (c.in-Ok.opened.0.items, c.in-Ok-open_filter.opened.0, c.in-Ok-open_filter.opened.1, c.in-Ok.ensures.opened.0, c.in-Ok-open_filter.ensures.opened, tests)))

pub returns-in-Err-test_parts-clause-found : goal.returns-in-Err-test_parts-clause-found
returns-in-Err-test_parts-clause-found g c = λ score setup h tells agree whole.
    let tests : TestsParts {U = ⊤} c.args.part c.in-Ok.opened.0.items c.in-Ok-open_filter.opened.0 c.args.len (Err c.in-Err-test_parts.bad) =
    subst (λ (l : List (SectionState g.row.D.Denot)). TestsParts {U = ⊤} c.args.part l c.in-Ok-open_filter.opened.0 c.args.len (Err c.in-Err-test_parts.bad)) c.deref.ensures.value c.in-Err-test_parts.ensures in
    absurd (none_fails score g.D.Disk setup h tells c.args.devices.items c.args.filter agree c.in-Ok.opened.0.items c.in-Ok.ensures.opened.0
    c.saved_filters_are_told_apart.ensures.one_saved c.args.len c.args.part whole c.in-Ok-open_filter.opened.0 c.in-Ok-open_filter.opened.1 c.in-Ok-open_filter.ensures.opened c.in-Err-test_parts.bad tests)

pub returns-in-Err-test_parts-clause-held : goal.returns-in-Err-test_parts-clause-held
returns-in-Err-test_parts-clause-held g c =
    let closed = closed_is g.D.Disk c.args.devices.items c.args.filter c.in-Ok.opened.0.items c.in-Ok.opened.1.items c.close_sections-in-Err-test_parts.result.items c.in-Ok.ensures.opened.1.empty c.close_sections-in-Err-test_parts.ensures in
    both_held g.D.Disk c.args.devices.items c.args.filter c.close_sections-in-Err-test_parts.result.items c.device_of.result
    (subst (λ (l : List g.row.D.Denot). HoldTheSame g.D.Disk c.args.devices.items l) (sym closed) c.in-Ok.ensures.held)
    (subst (λ (o : Option g.row.D.Denot). HoldTheSame g.D.Disk (option_to_list c.args.filter) (option_to_list o)) (sym c.device_of.ensures) c.in-Ok-open_filter.ensures.held)

pub returns-in-Err-test_parts-clause-counts : goal.returns-in-Err-test_parts-clause-counts
returns-in-Err-test_parts-clause-counts g c =
    let f = g.D.Disk.faults in
    let bad = c.in-Err-test_parts.bad in
    let tests : TestsParts {U = ⊤} c.args.part c.in-Ok.opened.0.items c.in-Ok-open_filter.opened.0 c.args.len (Err bad) =
    subst (λ (l : List (SectionState g.row.D.Denot)). TestsParts {U = ⊤} c.args.part l c.in-Ok-open_filter.opened.0 c.args.len (Err bad)) c.deref.ensures.value c.in-Err-test_parts.ensures in
    let closed = closed_is g.D.Disk c.args.devices.items c.args.filter c.in-Ok.opened.0.items c.in-Ok.opened.1.items c.close_sections-in-Err-test_parts.result.items c.in-Ok.ensures.opened.1.empty c.close_sections-in-Err-test_parts.ensures in
    let saved : map f (option_to_list c.device_of.result) ≡ map f (option_to_list c.args.filter) =
    ap (λ (o : Option g.row.D.Denot). map f (option_to_list o)) c.device_of.ensures ∙ c.in-Ok-open_filter.ensures.counts in
    counts_filter g.D.Disk c.args.devices.items c.args.filter bad c.close_sections-in-Err-test_parts.result.items c.device_of.result
    (ap (map f) closed ∙ c.in-Ok.ensures.counts)
    (subst (λ (l : List ℕ). CountsRefusal bad (map f (option_to_list c.args.filter)) l) (sym saved)
    (tests_counts c.args.part c.in-Ok.opened.0.items c.in-Ok-open_filter.opened.0 c.args.len bad tests (map f (option_to_list c.args.filter))))

pub returns-clause-opened : goal.returns-clause-opened
returns-clause-opened g c = record {
  sections = c.in-Ok.ensures.opened.0;
  filter_is = c.in-Ok-open_filter.ensures.opened;
  tests = subst (λ (l : List (SectionState g.row.D.Denot)). TestsParts {U = ⊤} c.args.part l c.in-Ok-open_filter.opened.0 c.args.len (Ok tt)) c.deref.ensures.value c.in_default.ensures;
  room = c.in-Ok.ensures.opened.1;
}

pub returns-clause-held : goal.returns-clause-held
returns-clause-held g c =
    both_held g.D.Disk c.args.devices.items c.args.filter (map (λ s. s.disk) c.in-Ok.opened.0.items) (option_map (λ b. b.disk) c.in-Ok-open_filter.opened.0) c.in-Ok.ensures.held c.in-Ok-open_filter.ensures.held

pub returns-clause-counts : goal.returns-clause-counts
returns-clause-counts g c =
    counts_none g.D.Disk c.args.devices.items c.args.filter (map (λ s. s.disk) c.in-Ok.opened.0.items) (option_map (λ b. b.disk) c.in-Ok-open_filter.opened.0) c.in-Ok.ensures.counts c.in-Ok-open_filter.ensures.counts

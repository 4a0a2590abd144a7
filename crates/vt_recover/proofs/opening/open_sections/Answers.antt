use Rattle.std.proofs.Common.{◌≡◌, ◌<◌, ◌+◌, ◌∷◌, [], ⊎_elim, inl, inr, ℕ, List, length, map, refl, sym, ◌∙◌, ap, subst, arith, length-append}
use Rattle.vt_isect.specs.Section.{SectionState}
use Rattle.vt_isect.specs.Sound.{nothing_known}
use Rattle.vt_recover.specs.Opening.{CanBeOpened, IsFoundSection}
use Rattle.vt_mount_errors.specs.MountErrors.{of_section}
use Rattle.vt_recover.specs.Refusals.{CountsRefusal}
use Rattle.vt_recover.proofs.Room.{room_some}
use Rattle.vt_recover.proofs.Held.{hold_still, hold_zip}
use Rattle.vt_recover.proofs.Opened.{IsSplitAt, split_all, split_many, split_more, split_none}
use Rattle.vt_recover.proofs.OpenWork.{back_counts, back_held, comes_next, no_items, opened_faults, opened_held}
use Rattle.vt_log.proofs.Lists.{at_slice}
use Rattle.vt_recover.proofs.opening.open_sections.Goals as goal

pub returns-in_default-clause-refused : goal.returns-in_default-clause-refused
returns-in_default-clause-refused g c = inl refl

pub returns-in_default-clause-found : goal.returns-in_default-clause-found
returns-in_default-clause-found g c = λ tells can. inr refl

pub returns-in_default-clause-held : goal.returns-in_default-clause-held
returns-in_default-clause-held g c = hold_still g.D.Disk c.args.devices.items

pub returns-in_default-clause-counts : goal.returns-in_default-clause-counts
returns-in_default-clause-counts g c = refl

pub loop-device-init : goal.loop-device-init
loop-device-init g c =
    let all = c.args.devices.items in
    record {
      split = subst (λ (l : List (SectionState g.row.D.Denot)). IsSplitAt (IsFoundSection g.D.Disk) all l c.reverse.new.self.items) (sym c.in-Ok.ensures.items)
          (split_none (IsFoundSection g.D.Disk) all c.reverse.new.self.items c.reverse.ensures.items);
      sections = omega (arith, c.in-Ok.ensures.capacity, c.len.ensures, c.args.devices.ok.0);
      devices = omega (arith, ap length c.in-Ok.ensures.items, c.reverse.new.self.ok.0, c.reverse.new.self.ok.1);
      all = omega (arith, c.reverse.ensures.len, c.reverse.new.self.ok.1, c.args.devices.ok.0);
    }

pub push_reserved-requires : goal.push_reserved-requires
push_reserved-requires g c =
    let many = split_many (IsFoundSection g.D.Disk) c.args.devices.items c.loop-device.sections.items c.loop-device.devices.items c.loop-device.invariant.split in
    let some : length c.loop-device.devices.items ≡ length c.pop.new.self.items + 1 =
    ap length c.in-Some.ensures.items ∙ length-append c.pop.new.self.items (c.in-Some.device ∷ []) in
    omega (arith, many, some, c.loop-device.invariant.sections, c.loop-device.sections.ok.0)

pub loop-device-preserved : goal.loop-device-preserved
loop-device-preserved g c =
    let R = IsFoundSection g.D.Disk in
    let all = c.args.devices.items in
    let e = c.in-Ok-mount.ensures in
    let device = c.in-Some.device in
    let section = c.in-Ok-mount.section in
    let buckets = ap (λ (t : SectionState g.row.D.Denot). t.buckets) e.fresh in
    let opened : IsFoundSection g.D.Disk device section = record {
      fresh = e.fresh;
      some = subst (λ (n : ℕ). 0 < n) (sym buckets) (room_some (g.D.Disk.size device) e.room);
      head = λ tells. e.head tells;
      holds = λ tells. e.sound nothing_known tells (λ n region entries range place known. absurd (cc));
      only = λ name head tells frame. e.all_are_found name head tells e.room frame;
      sound = λ score setup h entries tells is agrees. e.agrees score setup h entries tells is agrees;
      reads = e.reads;
      faults = e.cause;
    } in
    let longer : length c.push_reserved.new.self.items ≡ length c.loop-device.sections.items + 1 =
    ap length c.push_reserved.ensures.items ∙ length-append c.loop-device.sections.items (section ∷ []) in
    let shorter : length c.loop-device.devices.items ≡ length c.pop.new.self.items + 1 =
    ap length c.in-Some.ensures.items ∙ length-append c.pop.new.self.items (device ∷ []) in
    record {
      split = subst (λ (l : List (SectionState g.row.D.Denot)). IsSplitAt R all l c.pop.new.self.items) (sym c.push_reserved.ensures.items)
          (split_more R all c.loop-device.sections.items c.loop-device.devices.items c.pop.new.self.items device section c.in-Some.ensures.items opened c.loop-device.invariant.split);
      sections = omega (arith, c.push_reserved.ensures.capacity, c.loop-device.invariant.sections);
      devices = omega (arith, longer, shorter, c.in-Some.ensures.capacity, c.loop-device.invariant.devices);
      all = omega (arith, c.in-Some.ensures.capacity, c.loop-device.invariant.all);
    }

pub overflow_add-part : goal.overflow_add-part
overflow_add-part g c =
    let many = split_many (IsFoundSection g.D.Disk) c.args.devices.items c.loop-device.sections.items c.loop-device.devices.items c.loop-device.invariant.split in
    omega (arith, many, c.requires, c.loop-device.sections.ok.0, c.len-in-Err.ensures)

pub overflow_cast-len : goal.overflow_cast-len
overflow_cast-len g c =
    let many = split_many (IsFoundSection g.D.Disk) c.args.devices.items c.loop-device.sections.items c.loop-device.devices.items c.loop-device.invariant.split in
    omega (arith, many, c.requires, c.loop-device.sections.ok.0, c.len-in-Err.ensures)

pub push_reserved-requires-in-Err : goal.push_reserved-requires-in-Err
push_reserved-requires-in-Err g c =
    let shorter : length c.loop-device.devices.items ≡ length c.pop.new.self.items + 1 =
    ap length c.in-Some.ensures.items ∙ length-append c.pop.new.self.items (c.in-Some.device ∷ []) in
    omega (arith, shorter, c.in-Some.ensures.capacity, c.loop-device.invariant.devices, c.pop.new.self.ok.0)

pub close_sections-requires : goal.close_sections-requires
close_sections-requires g c =
    let longer : length c.push_reserved-in-Err.new.self.items ≡ length c.pop.new.self.items + 1 =
    ap length c.push_reserved-in-Err.ensures.items ∙ length-append c.pop.new.self.items (c.in-Err.device ∷ []) in
    let shorter : length c.loop-device.devices.items ≡ length c.pop.new.self.items + 1 =
    ap length c.in-Some.ensures.items ∙ length-append c.pop.new.self.items (c.in-Some.device ∷ []) in
    omega (arith, longer, shorter, c.in-Some.ensures.capacity, c.push_reserved-in-Err.ensures.capacity, c.loop-device.invariant.devices)

pub returns-in-Err-clause-refused : goal.returns-in-Err-clause-refused
returns-in-Err-clause-refused g c = inr (record {
  i = length c.loop-device.sections.items;
  device = c.in-Some.device;
  at = comes_next g.D.Disk c.args.devices.items c.loop-device.sections.items c.loop-device.devices.items c.pop.new.self.items c.in-Some.device c.in-Err.device c.in-Some.ensures.items c.loop-device.invariant.split;
  why = c.in-Err.bad;
  bad_is = c.of_section-bad.ensures ∙ ap (λ (n : ℕ). of_section (c.args.part + n) c.in-Err.bad) (c.len-in-Err.ensures ∙ c.loop-device.sections.ok.0);
  names = c.in-Err.ensures.differs;
  refuses = c.in-Err.ensures.refused;
})

pub returns-in-Err-clause-found : goal.returns-in-Err-clause-found
returns-in-Err-clause-found g c = λ tells can.
    let at = comes_next g.D.Disk c.args.devices.items c.loop-device.sections.items c.loop-device.devices.items c.pop.new.self.items c.in-Some.device c.in-Err.device c.in-Some.ensures.items c.loop-device.invariant.split in
    let it = at_slice (CanBeOpened g.D.Disk) c.args.devices.items (length c.loop-device.sections.items) c.in-Some.device can at in
    ⊎_elim (λ e. inl (c.of_section-bad.ensures ∙ ap (of_section (c.args.part + c.len-in-Err.result)) e)) (λ e. inr (c.of_section-bad.ensures ∙ ap (of_section (c.args.part + c.len-in-Err.result)) e))
    (c.in-Err.ensures.all_are_found it.name it.head tells it.room it.frame)

pub returns-in-Err-clause-held : goal.returns-in-Err-clause-held
returns-in-Err-clause-held g c =
    back_held g.D.Disk c.args.devices.items c.loop-device.sections.items c.loop-device.devices.items c.pop.new.self.items c.in-Some.device c.in-Err.device c.in-Some.ensures.items c.loop-device.invariant.split
    c.close_sections.result.items c.push_reserved-in-Err.new.self.items c.push_reserved-in-Err.ensures.items c.close_sections.ensures c.in-Err.ensures.reads

pub returns-in-Err-clause-counts : goal.returns-in-Err-clause-counts
returns-in-Err-clause-counts g c =
    let f = g.D.Disk.faults in
    subst (λ b. CountsRefusal b (map f c.args.devices.items) (map f c.close_sections.result.items)) (sym c.of_section-bad.ensures)
    (back_counts g.D.Disk c.args.devices.items c.loop-device.sections.items c.loop-device.devices.items c.pop.new.self.items c.in-Some.device c.in-Err.device c.in-Some.ensures.items c.loop-device.invariant.split
    (c.args.part + c.len-in-Err.result) c.in-Err.bad c.close_sections.result.items c.push_reserved-in-Err.new.self.items c.push_reserved-in-Err.ensures.items c.close_sections.ensures c.in-Err.ensures.cause)

pub returns-clause-opened : goal.returns-clause-opened
returns-clause-opened g c =
    let left : c.loop-device.devices.items ≡ [] = no_items c.loop-device.devices.items (omega (arith, c.in_default-pop.ensures.cases.0, c.loop-device.devices.ok.0)) in (
      split_all (IsFoundSection g.D.Disk) c.args.devices.items c.loop-device.sections.items c.loop-device.devices.items left c.loop-device.invariant.split,
      record {
        empty = no_items c.pop.new.self.items (omega (arith, c.in_default-pop.ensures.cases.1, c.pop.new.self.ok.0));
        enough = omega (arith, c.in_default-pop.ensures.capacity, c.loop-device.invariant.all);
      },
    )

pub returns-clause-held : goal.returns-clause-held
returns-clause-held g c =
    let left : c.loop-device.devices.items ≡ [] = no_items c.loop-device.devices.items (omega (arith, c.in_default-pop.ensures.cases.0, c.loop-device.devices.ok.0)) in
    let zip = split_all (IsFoundSection g.D.Disk) c.args.devices.items c.loop-device.sections.items c.loop-device.devices.items left c.loop-device.invariant.split in
    hold_zip g.D.Disk c.args.devices.items (map (λ s. s.disk) c.loop-device.sections.items) (opened_held g.D.Disk c.args.devices.items c.loop-device.sections.items zip)

pub returns-clause-counts : goal.returns-clause-counts
returns-clause-counts g c =
    let left : c.loop-device.devices.items ≡ [] = no_items c.loop-device.devices.items (omega (arith, c.in_default-pop.ensures.cases.0, c.loop-device.devices.ok.0)) in
    let zip = split_all (IsFoundSection g.D.Disk) c.args.devices.items c.loop-device.sections.items c.loop-device.devices.items left c.loop-device.invariant.split in
    opened_faults g.D.Disk c.args.devices.items c.loop-device.sections.items zip

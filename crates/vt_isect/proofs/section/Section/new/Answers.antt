use Rattle.std.proofs.Common.{◌∙◌, ℕ, List, length, refl, ap, arith}
use Rattle.std.proofs.lemmas.List.{length-replicate}
use Rattle.vt_disk.specs.declared.call.CallCount.{CallCount}
use Rattle.vt_twin.specs.Twin.{TwinState}
use Rattle.vt_isect.specs.declared.groups.Member.{Member}
use Rattle.vt_isect.specs.Section.{mounted_section}
use Rattle.vt_isect.proofs.Remembers.{remembers_none}
use Rattle.vt_isect.proofs.section.Section.new.Goals as goal

pub returns : goal.returns
returns g c = λ i. record (mounted_section c.args.disk c.args.buckets c.args.opened.name c.args.opened.head c.args.opened.twin.current) {
  frame = c.requires.frame i;
  group = c.requires.group.0 i;
  head_twin = c.requires.twin i;
  calls = (c.new.ensures i).made;
  stopped = (c.new.ensures i).stopped;
}

pub invariant_of-result : goal.invariant_of-result
invariant_of-result g c = record {
  room = c.requires.room;
  name_len = c.requires.name;
  head_len = ap (λ (t : TwinState). t.frame_len) c.requires.twin;
  frame_len = ap (λ (l : List ℕ). length l) c.requires.frame ∙ length-replicate {A = ℕ} 8192 0;
  buffer = record { lent = λ e. absurd (cc); here = λ no. (c.requires.head_frame, ap (λ (t : TwinState). t.change) c.requires.twin) };
  most = (omega arith, omega arith);
  memory = c.requires.group.1;
  few = omega (arith, ap (λ (l : List Member). length l) c.requires.group.0);
  group = λ puts. absurd puts;
  alone = λ no. c.requires.group.0;
  rest = λ rest. record { goes = ap (λ (k : CallCount). k.stopped) c.new.ensures; next = refl };
  goes = λ none. ap (λ (t : TwinState). t.failed) c.requires.twin;
  remembers = remembers_none g.D.Disk c.args.disk c.args.buckets c.args.opened.frames c.requires.room_for_frames c.requires.frames;
}

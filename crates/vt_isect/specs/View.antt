-- What the types of this crate are seen as.
use Rattle.vt_isect.specs.declared.section.Section.TheInside.{Inside}
use Rattle.vt_isect.specs.Section.{SectionState}

-- a section in memory
abbrev pub state_of : {D : Type 0} → Inside D → SectionState D
state_of s = record {
  disk = s.disk;
  buckets = s.buckets;
  name = s.name;
  head = s.head;
  next = s.next;
  phase = s.phase;
  entries = s.entries;
  written = s.written;
  framed = s.framed;
  begun = s.begun;
  bucket = s.bucket;
  frame = s.frame.items;
  group = s.group.items;
  most = s.most;
  head_twin = s.head_twin;
  calls = s.calls.made;
  stopped = s.calls.stopped;
}

-- How a reader keeps its bytes: behind those that were taken, in one buffer.
use Rattle.std.specs.Prelude.{◌+◌, ◌-◌, ◌^◌, ◌≤◌, drop, vec_len, vec_capacity}
use Rattle.event_frame.specs.declared.reader.Reader.TheInside.{Inside}
use Rattle.event_frame.specs.FrameReader.{FrameReader}

-- the kept bytes are those from a place on, and there is room for as many more as the buffer holds without the others
abbrev pub reader_of : Inside → FrameReader
reader_of r = record {
  version = r.version;
  taken = r.taken;
  kept = drop r.at r.bytes.items;
  spare = vec_capacity r.bytes - (vec_len r.bytes - r.at);
}

-- the kept bytes stand in the buffer, and at most 2^41 bytes were pushed
pub record IsSound (r : Inside) : Type 0 where
  pub within : r.at ≤ vec_len r.bytes
  pub pushed : r.taken + (vec_len r.bytes - r.at) ≤ 2 ^ 41

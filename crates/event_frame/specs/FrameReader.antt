-- A reader of frames as its callers see it.
use Rattle.std.specs.Prelude.{ℕ, List, Option}
use Rattle.event_frame.specs.declared.version.Version.{Version}

-- the version of the header once it is taken, how many bytes of header and frames were taken, the bytes pushed and not taken, and the room for more
pub record FrameReader : Type 0 where
  pub version : Option Version
  pub taken : ℕ
  pub kept : List ℕ
  pub spare : ℕ

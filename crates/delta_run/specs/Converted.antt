-- What the making of frames from lines did to a link, by how it ended.
use Rattle.std.specs.Prelude.{List}
use Rattle.port.specs.declared.link.Move.{Move}
use Rattle.port.specs.Moves.{bytes_read, bytes_written}
use Rattle.delta_end.specs.declared.end.End.{End}
use Rattle.delta_loop.specs.Prompt.{IsPrompt, has_ended}
use Rattle.delta_loop.specs.Answer.{ReadsWell}
use Rattle.command_text.specs.Conversion.{Conversion, MayEnd}

-- before each read all that was due was written, nothing was read after the input's end, no more was read than may be, and the moves end so
pub record Converts (C : Conversion) (end : End) (moves : List Move) : Type 0 where
  pub prompt : IsPrompt C.due moves
  pub reads : ReadsWell end moves
  pub ends : MayEnd C (bytes_read moves) (has_ended moves) (bytes_written moves) end

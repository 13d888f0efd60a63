-- A run that reads a whole input, and answers nothing.
use Rattle.std.specs.Prelude.{◌≡◌, List, [], None, true}
use Rattle.stream_type.specs.StreamType.{StreamType, type_of, null_of}
use Rattle.event_word.specs.StreamEvent.{StreamEvent}
use Rattle.event_word.specs.EventFault.{fault_of}
use Rattle.event_word.specs.Word.{IsWord, after_word}
use Rattle.delta_loop.specs.Meaning.{Meaning}
use Rattle.commands.specs.declared.gathering.Gathering.{Gathering}

-- an event may come where the type that is left admits it, the input may end where that type is null, and no call is made
abbrev pub gathering : StreamType → Meaning
gathering s = record {
  version = None;
  fault = λ word x. fault_of x (after_word word s);
  first = [];
  answer = λ word x. [];
  finishes = λ word. null_of (after_word word s);
  is_whole = λ word. true;
  calls = λ word. 0;
  level = λ word. 0;
  budget = 0;
}

-- the machine has gathered this word of a type
pub record Gathers (machine : Gathering) (P : Meaning) (word : List StreamEvent) : Type 0 where
  pub input : StreamType
  pub means : P ≡ gathering input
  pub comes : IsWord input word
  pub rest : type_of machine.rest ≡ after_word word input
  pub all : machine.word.items ≡ word

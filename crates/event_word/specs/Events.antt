-- How an event keeps its steps: at the end of an array, behind cells that are not used.
use Rattle.std.specs.Prelude.{◌≡◌, ◌-◌, ◌≤◌, ◌++◌, length, take, drop, replicate}
use Rattle.event_word.specs.declared.event.Step.TheVariants.{Left}
use Rattle.event_word.specs.declared.event.Event.TheInside.{Inside}
use Rattle.event_word.specs.StreamEvent.{StreamEvent}

-- what the array stands for
abbrev pub stream_event_of : Inside → StreamEvent
stream_event_of a = record { path = drop a.start a.steps; leaf = a.leaf }

-- the cells before the steps are all the same, so that equal events are equal arrays
pub record IsAligned (a : Inside) : Type 0 where
  pub len : length a.steps ≡ 63
  pub start : a.start ≤ 63
  pub unused : take a.start a.steps ≡ replicate a.start Left

-- the array that stands for an event
abbrev pub event_of : StreamEvent → Inside
event_of x = record {
  steps = replicate (63 - length x.path) Left ++ x.path;
  start = 63 - length x.path;
  leaf = x.leaf;
}

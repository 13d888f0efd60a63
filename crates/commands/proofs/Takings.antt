-- What a run took of what was left to read.
use Rattle.std.proofs.Common.{ℕ, List, Option, ◌∙◌, sym, subst, refl}
use Rattle.port.specs.declared.link.Move.{Move}
use Rattle.port.specs.Told.{Loses}
use Rattle.delta_end.specs.declared.end.End.{End}
use Rattle.delta_loop.specs.Meaning.{Meaning}
use Rattle.delta_loop.specs.History.{History, IsUntouched}
use Rattle.delta_loop.specs.Loop.{Ran}
use Rattle.delta_loop.specs.Answer.{Adds}
use Rattle.delta_loop.proofs.Returning.{adds_none}
use Rattle.commands.specs.Running.{Takes}

module _ (old new : Option (List Move)) (left0 left1 : Option (List ℕ)) where
  -- none where the link is untouched
  pub takes_none : IsUntouched old new left0 left1 → Adds old new (Takes left0 left1)
  takes_none same = adds_none old new (Takes left0 left1) same.0 (λ told is. (told, same.1 ∙ is, refl))

  -- the bytes of its log
  pub takes_read : (due : List ℕ → List ℕ) (input written : List ℕ) (ended : _) → History due old new input written ended → Loses left0 left1 input → Adds old new (Takes left0 left1)
  takes_read due input written ended history taken told is = (history.moves, history.logged told is, subst (Loses left0 left1) (sym history.read) taken)

  pub ran_takes : (P : Meaning) (end : End) → Ran P old new left0 left1 end → Adds old new (Takes left0 left1)
  ran_takes P end ran = takes_read _ ran.input ran.at.written ran.ended ran.at.history ran.taken

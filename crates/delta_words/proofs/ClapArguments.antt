-- Arguments in turn, and the command that they make.
use Rattle.std.proofs.Common.{◌≡◌, List, [], ◌∷◌, ◌++◌, Bool, true, false, refl, sym, ap, ◌∙◌}
use Rattle.clap.specs.Words.{AddsArg, AddsInTurn, App, app_of, rule_of, with_rule}
use Rattle.clap.specs.declared.builder.Arg.{Arg}
use Rattle.clap.specs.declared.builder.Command.{Command}
use Rattle.clap.specs.declared.builder.Command.TheViews.{out-Command as fields_of}
use Rattle.delta_words.specs.ClapCommand.{Make, with_rule_if}

-- no argument more
pub made_none : (app : App) (args : List Arg) → args ≡ [] → Make app args app
unfolding Make
made_none app args e = rw e refl

-- one argument more
pub made_more : (bare app : App) (args : List Arg) (arg : Arg) → Make bare args app → arg.global ≡ false → Make bare (args ++ arg ∷ []) (with_rule app (rule_of arg))
unfolding Make
made_more bare app [] arg made local = (local, ap (λ (a : App). with_rule a (rule_of arg)) made)
made_more bare app (first ∷ args) arg made local = (made.0, made_more (with_rule bare (rule_of first)) app args arg made.1 local)

-- one argument more, where that is wanted
pub made_if : (bare app : App) (args new : List Arg) (arg : Arg) (wanted : Bool) → wanted ≡ true → Make bare args app → arg.global ≡ false → new ≡ args ++ arg ∷ []
    → Make bare new (with_rule_if wanted app (rule_of arg))
unfolding with_rule_if
made_if bare app args new arg wanted is made local e =
    rw (is, e) (made_more bare app args arg made local)

pub made_unless : (bare app : App) (args : List Arg) (arg : Arg) (wanted : Bool) → wanted ≡ false → Make bare args app → Make bare args (with_rule_if wanted app (rule_of arg))
unfolding with_rule_if
made_unless bare app args arg wanted is made = rw is made

-- a command to which they were added in turn
pub made_in_turn : (old new : Command) (args : List Arg) (bare app : App) → app_of old ≡ bare → AddsInTurn AddsArg old args new → Make bare args app → app_of new ≡ app
unfolding Make
made_in_turn old new [] bare app is adds made = sym (ap app_of adds) ∙ is ∙ made
made_in_turn old new (arg ∷ args) bare app is adds made =
    made_in_turn adds.0 new args (with_rule bare (rule_of arg)) app (adds.1.shape made.0 ∙ ap (λ (a : App). with_rule a (rule_of arg)) is) adds.2 made.1

-- it has no global argument where it had none
pub local_in_turn : (old new : Command) (args : List Arg) (bare app : App) → (fields_of old).has_globals ≡ false → AddsInTurn AddsArg old args new → Make bare args app
    → (fields_of new).has_globals ≡ false
unfolding Make
local_in_turn old new [] bare app is adds made = sym (ap (λ (c : Command). (fields_of c).has_globals) adds) ∙ is
local_in_turn old new (arg ∷ args) bare app is adds made =
    local_in_turn adds.0 new args (with_rule bare (rule_of arg)) app (adds.1.globals ∙ rw (is, made.0) refl) adds.2 made.1

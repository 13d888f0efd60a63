-- The command as clap reads it.
use Rattle.std.specs.Prelude.{◌≡◌, Bool, true, false, List, [], ◌∷◌, Some, codes, nat_lt, if◌then◌else◌}
use Rattle.clap.specs.Words.{App, Rule, Text, new_app, new_rule, rule_of, with_rule, with_subcommand}
use Rattle.clap.specs.declared.builder.Arg.{Arg}
use Rattle.clap.specs.declared.builder.ArgAction.{ArgAction}
use Rattle.clap.specs.declared.builder.ArgAction.TheVariants.{Set, Append, SetTrue}
use Rattle.delta_words.specs.declared.command.Command.TheVariants as command
use Rattle.delta_words.specs.declared.command.Command.{Command}
use Rattle.delta_words.specs.declared.command.Takes.{Takes}
use Rattle.delta_words.specs.Commands.{takes_of}

-- an operand, which must stand there where that is said; an option
abbrev pub operand_that : Text → Bool → ArgAction → Rule
operand_that id must action = record (new_rule id) { action = Some action; required = must }

abbrev pub option_that : Text → ArgAction → Rule
option_that id action = record (new_rule id) { action = Some action; long = Some id }

-- an operand that must stand there; one of which several may stand there, and where that is said at least one must; an option with a
-- value; an option without
abbrev pub operand_rule : Text → Rule
operand_rule id = operand_that id true Set

abbrev pub rest_rule : Text → Bool → Rule
rest_rule id must = operand_that id must Append

abbrev pub budget_rule : Text → Rule
budget_rule id = option_that id Set

abbrev pub flag_rule : Text → Rule
flag_rule id = option_that id SetTrue

-- an argument more, where that is wanted
unfoldable pub with_rule_if : Bool → App → Rule → App
with_rule_if wanted app rule = if wanted then with_rule app rule else app

-- arguments, none of them global, that make this command of a bare one
unfoldable pub Make : App → List Arg → App → Type 0
Make bare [] app = bare ≡ app
Make bare (arg ∷ args) app = (arg.global ≡ false) × Make (with_rule bare (rule_of arg)) args app

-- a command that takes so much, of a bare one
abbrev pub with_rules_of : Takes → App → App
with_rules_of takes bare =
    with_rule_if takes.frames (with_rule_if takes.v2 (with_rule_if takes.budget
    (with_rule_if (nat_lt 2 takes.most) (with_rule_if (nat_lt 1 takes.operands) (with_rule_if (nat_lt 0 takes.operands) bare
    (operand_rule (codes "FIRST"))) (operand_rule (codes "SECOND"))) (rest_rule (codes "REST") (nat_lt 2 takes.operands)))
    (budget_rule (codes "budget"))) (flag_rule (codes "v2"))) (flag_rule (codes "frames"))

-- a subcommand that takes so much
abbrev pub leaf_app : Text → Takes → App
leaf_app name takes = with_rules_of takes (new_app name)

-- the command alone: the words begin with the subcommand, and there is no help and no version
abbrev pub delta_top : App
delta_top = record {
  top = record (new_app (codes "delta")).top {
    no_binary_name = true;
    disable_help_flag = true;
    disable_help_subcommand = true;
    disable_version_flag = true;
    subcommand_required = true;
  };
  subs = [];
}

abbrev pub with_command : App → Text → Command → App
with_command app name c = with_subcommand app (leaf_app name (takes_of c)).top

-- the whole command
abbrev pub delta_app : App
delta_app = with_command (with_command (with_command (with_command (with_command (with_command (with_command (with_command (with_command (with_command (with_command delta_top
    (codes "run") command.Run) (codes "eval") command.Eval) (codes "check") command.Check) (codes "print") command.Print) (codes "text")
    command.Text) (codes "gen") command.Gen) (codes "bound") command.Bound)
    (codes "derive") command.Derive) (codes "feed") command.Feed)
    (codes "save") command.Save) (codes "resume") command.Resume

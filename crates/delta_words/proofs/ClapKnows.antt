-- What clap's subcommand of each command knows.
use Rattle.std.proofs.Common.{◌≡◌, ◌<◌, List, [], ◌∷◌, Bool, true, false, ◌||◌, cond, refl, codes, Some, arith, ap, ◌∙◌}
use Rattle.std.specs.Prelude.{nat_lt}
use Rattle.clap.specs.Faults.{check_fault, default_fault, defaults_fault, given_default_fault}
use Rattle.clap.specs.Takes.{is_given}
use Rattle.clap.specs.Kinds.{or_else}
use Rattle.clap.specs.Simple.{filled, with_index, built_leaf, inherited}
use Rattle.clap.specs.Walk.{Row, Rule, Text, arg_by_id, arg_by_index, arg_by_long, has_row, with_default}
use Rattle.clap.specs.Words.{Shape}
use Rattle.delta_words.specs.declared.command.Command.{Command}
use Rattle.delta_words.specs.declared.command.Command.TheVariants.{Run, Eval, Check, Print, Text as TextCommand, Gen, Bound, Derive, Feed, Save, Resume}
use Rattle.delta_words.specs.declared.command.Takes.{Takes}
use Rattle.delta_words.specs.Commands.{takes_of}
use Rattle.delta_words.specs.ClapCommand.{operand_rule, rest_rule as several_rule, budget_rule, flag_rule, with_rule_if, leaf_app, delta_top}

-- the arguments once clap has filled in what they leave out
abbrev pub first_rule : Rule
first_rule = with_index 1 (filled (operand_rule (codes "FIRST")))

abbrev pub second_rule : Rule
second_rule = with_index 2 (filled (operand_rule (codes "SECOND")))

abbrev pub rest_rule : Bool → Rule
rest_rule must = with_index 3 (filled (several_rule (codes "REST") must))

abbrev pub valued_rule : Rule
valued_rule = with_index 3 (filled (budget_rule (codes "budget")))

abbrev pub v2_rule : Rule
v2_rule = with_index 3 (filled (flag_rule (codes "v2")))

abbrev pub frames_rule : Rule
frames_rule = with_index 3 (filled (flag_rule (codes "frames")))

-- the name of a command
abbrev pub name_of : Command → Text
name_of Run = codes "run"
name_of Eval = codes "eval"
name_of Check = codes "check"
name_of Print = codes "print"
name_of TextCommand = codes "text"
name_of Gen = codes "gen"
name_of Bound = codes "bound"
name_of Derive = codes "derive"
name_of Feed = codes "feed"
name_of Save = codes "save"
name_of Resume = codes "resume"

-- a subcommand of a name that takes so much, once it is built
unfoldable pub leaf_that : Text → Takes → Shape
leaf_that name takes = built_leaf (inherited delta_top.top (leaf_app name takes).top)

-- the one of a command
abbrev pub leaf_of : Command → Shape
leaf_of c = leaf_that (name_of c) (takes_of c)

-- a subcommand that takes so much finds each argument, by its place and its names, and asks for the operands
pub record Knows (s : Shape) (t : Takes) : Type 0 where
  pub again : s.args_override_self ≡ false
  pub some : 0 < t.most → 0 < t.operands
  pub both : 1 < t.most → 1 < t.operands
  pub index_first : 0 < t.operands → arg_by_index s.rules 1 ≡ Some first_rule
  pub index_second : 1 < t.operands → arg_by_index s.rules 2 ≡ Some second_rule
  pub index_rest : 2 < t.most → arg_by_index s.rules 3 ≡ Some (rest_rule (nat_lt 2 t.operands))
  pub id_first : 0 < t.operands → arg_by_id s.rules (codes "FIRST") ≡ Some first_rule
  pub id_second : 1 < t.operands → arg_by_id s.rules (codes "SECOND") ≡ Some second_rule
  pub id_rest : 2 < t.most → arg_by_id s.rules (codes "REST") ≡ Some (rest_rule (nat_lt 2 t.operands))
  pub id_budget : t.budget ≡ true → arg_by_id s.rules (codes "budget") ≡ Some valued_rule
  pub long_budget : t.budget ≡ true → arg_by_long s.rules (codes "budget") ≡ Some valued_rule
  pub long_v2 : t.v2 ≡ true → arg_by_long s.rules (codes "v2") ≡ Some v2_rule
  pub long_frames : t.frames ≡ true → arg_by_long s.rules (codes "frames") ≡ Some frames_rule
  pub defaults : (rows : List Row) → defaults_fault rows s.rules ≡ []
  pub asks : (rows : List Row) → (0 < t.operands → is_given (codes "FIRST") rows ≡ true) → (1 < t.operands → is_given (codes "SECOND") rows ≡ true)
      → (2 < t.operands → is_given (codes "REST") rows ≡ true) → check_fault s rows false ≡ []

-- an argument whose default passes, whatever the rows are
abbrev Passes : Rule → Type 0
Passes a = (rows : List Row) → default_fault rows a ≡ []

first_passes : Passes first_rule
first_passes rows = go (has_row (codes "FIRST") rows)
  where
    go : (b : Bool) → cond (b || true) [] (given_default_fault first_rule []) ≡ []
    go true = refl
    go false = refl

second_passes : Passes second_rule
second_passes rows = go (has_row (codes "SECOND") rows)
  where
    go : (b : Bool) → cond (b || true) [] (given_default_fault second_rule []) ≡ []
    go true = refl
    go false = refl

rest_passes : (must : Bool) → Passes (rest_rule must)
rest_passes must rows = go (has_row (codes "REST") rows)
  where
    go : (b : Bool) → cond (b || true) [] (given_default_fault (rest_rule must) []) ≡ []
    go true = refl
    go false = refl

valued_passes : Passes valued_rule
valued_passes rows = go (has_row (codes "budget") rows)
  where
    go : (b : Bool) → cond (b || true) [] (given_default_fault valued_rule []) ≡ []
    go true = refl
    go false = refl

v2_passes : Passes v2_rule
v2_passes rows = go (has_row (codes "v2") rows)
  where
    go : (b : Bool) → cond (b || false) [] (given_default_fault v2_rule (codes "false" ∷ [])) ≡ []
    go true = refl
    go false = refl

frames_passes : Passes frames_rule
frames_passes rows = go (has_row (codes "frames") rows)
  where
    go : (b : Bool) → cond (b || false) [] (given_default_fault frames_rule (codes "false" ∷ [])) ≡ []
    go true = refl
    go false = refl

no_defaults : (rows : List Row) → defaults_fault rows [] ≡ []
unfolding defaults_fault
no_defaults rows = refl

-- where each default passes, all do
one_more : (a : Rule) (rules : List Rule) → Passes a → ((rows : List Row) → defaults_fault rows rules ≡ []) → (rows : List Row) → defaults_fault rows (a ∷ rules) ≡ []
unfolding defaults_fault
one_more a rules this others rows = ap (λ k. or_else k (defaults_fault (with_default rows a) rules)) (this rows) ∙ others (with_default rows a)

run_defaults : (rows : List Row) → defaults_fault rows (first_rule ∷ valued_rule ∷ v2_rule ∷ []) ≡ []
run_defaults = one_more first_rule _ first_passes (one_more valued_rule _ valued_passes (one_more v2_rule _ v2_passes no_defaults))

check_defaults : (rows : List Row) → defaults_fault rows (first_rule ∷ []) ≡ []
check_defaults = one_more first_rule _ first_passes no_defaults

text_defaults : (rows : List Row) → defaults_fault rows (v2_rule ∷ frames_rule ∷ []) ≡ []
text_defaults = one_more v2_rule _ v2_passes (one_more frames_rule _ frames_passes no_defaults)

gen_defaults : (rows : List Row) → defaults_fault rows (first_rule ∷ second_rule ∷ []) ≡ []
gen_defaults = one_more first_rule _ first_passes (one_more second_rule _ second_passes no_defaults)

feed_defaults : (rows : List Row) → defaults_fault rows (first_rule ∷ second_rule ∷ rest_rule true ∷ valued_rule ∷ []) ≡ []
feed_defaults =
    one_more first_rule _ first_passes (one_more second_rule _ second_passes (one_more (rest_rule true) _ (rest_passes true) (one_more valued_rule _ valued_passes no_defaults)))

save_defaults : (rows : List Row) → defaults_fault rows (first_rule ∷ second_rule ∷ rest_rule false ∷ valued_rule ∷ v2_rule ∷ []) ≡ []
save_defaults =
    one_more first_rule _ first_passes (one_more second_rule _ second_passes (one_more (rest_rule false) _ (rest_passes false)
    (one_more valued_rule _ valued_passes (one_more v2_rule _ v2_passes no_defaults))))

resume_defaults : (rows : List Row) → defaults_fault rows (first_rule ∷ second_rule ∷ valued_rule ∷ v2_rule ∷ []) ≡ []
resume_defaults =
    one_more first_rule _ first_passes (one_more second_rule _ second_passes (one_more valued_rule _ valued_passes (one_more v2_rule _ v2_passes no_defaults)))

-- one operand and the options of `run`
knows_run : (called : Text) → Knows (leaf_that called (takes_of Run)) (takes_of Run)
unfolding leaf_that with_rule_if
knows_run called = record {
  again = refl;
  some = λ h. omega (arith, h);
  both = λ h. omega (arith, h);
  index_first = λ _. refl;
  index_second = λ h. absurd (omega arith);
  index_rest = λ h. absurd (omega arith);
  id_first = λ _. refl;
  id_second = λ h. absurd (omega arith);
  id_rest = λ h. absurd (omega arith);
  id_budget = λ _. refl;
  long_budget = λ _. refl;
  long_v2 = λ _. refl;
  long_frames = λ h. cc;
  defaults = run_defaults;
  asks = λ rows first second rest. (let f = first (omega arith) in simp f);
}

-- one operand
knows_check : (called : Text) → Knows (leaf_that called (takes_of Check)) (takes_of Check)
unfolding leaf_that with_rule_if
knows_check called = record {
  again = refl;
  some = λ h. omega (arith, h);
  both = λ h. omega (arith, h);
  index_first = λ _. refl;
  index_second = λ h. absurd (omega arith);
  index_rest = λ h. absurd (omega arith);
  id_first = λ _. refl;
  id_second = λ h. absurd (omega arith);
  id_rest = λ h. absurd (omega arith);
  id_budget = λ h. cc;
  long_budget = λ h. cc;
  long_v2 = λ h. cc;
  long_frames = λ h. cc;
  defaults = check_defaults;
  asks = λ rows first second rest. (let f = first (omega arith) in simp f);
}

-- no operand, and the options of `text`
knows_text : (called : Text) → Knows (leaf_that called (takes_of TextCommand)) (takes_of TextCommand)
unfolding leaf_that with_rule_if
knows_text called = record {
  again = refl;
  some = λ h. omega (arith, h);
  both = λ h. omega (arith, h);
  index_first = λ h. absurd (omega arith);
  index_second = λ h. absurd (omega arith);
  index_rest = λ h. absurd (omega arith);
  id_first = λ h. absurd (omega arith);
  id_second = λ h. absurd (omega arith);
  id_rest = λ h. absurd (omega arith);
  id_budget = λ h. cc;
  long_budget = λ h. cc;
  long_v2 = λ _. refl;
  long_frames = λ _. refl;
  defaults = text_defaults;
  asks = λ rows first second rest. refl;
}

-- two operands
knows_gen : (called : Text) → Knows (leaf_that called (takes_of Gen)) (takes_of Gen)
unfolding leaf_that with_rule_if
knows_gen called = record {
  again = refl;
  some = λ h. omega (arith, h);
  both = λ h. omega (arith, h);
  index_first = λ _. refl;
  index_second = λ _. refl;
  index_rest = λ h. absurd (omega arith);
  id_first = λ _. refl;
  id_second = λ _. refl;
  id_rest = λ h. absurd (omega arith);
  id_budget = λ h. cc;
  long_budget = λ h. cc;
  long_v2 = λ h. cc;
  long_frames = λ h. cc;
  defaults = gen_defaults;
  asks = λ rows first second rest. (let f = first (omega arith) in let g = second (omega arith) in simp (f, g));
}

-- three operands or more, and a budget
knows_feed : (called : Text) → Knows (leaf_that called (takes_of Feed)) (takes_of Feed)
unfolding leaf_that with_rule_if
knows_feed called = record {
  again = refl;
  some = λ h. omega arith;
  both = λ h. omega arith;
  index_first = λ _. refl;
  index_second = λ _. refl;
  index_rest = λ _. refl;
  id_first = λ _. refl;
  id_second = λ _. refl;
  id_rest = λ _. refl;
  id_budget = λ _. refl;
  long_budget = λ _. refl;
  long_v2 = λ h. cc;
  long_frames = λ h. cc;
  defaults = feed_defaults;
  asks = λ rows first second rest. (let f = first (omega arith) in let g = second (omega arith) in let r = rest (omega arith) in simp (f, g, r));
}

-- two operands or three and the options of `run`
knows_save : (called : Text) → Knows (leaf_that called (takes_of Save)) (takes_of Save)
unfolding leaf_that with_rule_if
knows_save called = record {
  again = refl;
  some = λ h. omega (arith, h);
  both = λ h. omega (arith, h);
  index_first = λ _. refl;
  index_second = λ _. refl;
  index_rest = λ _. refl;
  id_first = λ _. refl;
  id_second = λ _. refl;
  id_rest = λ _. refl;
  id_budget = λ _. refl;
  long_budget = λ _. refl;
  long_v2 = λ _. refl;
  long_frames = λ h. cc;
  defaults = save_defaults;
  asks = λ rows first second rest. (let f = first (omega arith) in let g = second (omega arith) in simp (f, g));
}

-- two operands and the options of `run`
knows_resume : (called : Text) → Knows (leaf_that called (takes_of Resume)) (takes_of Resume)
unfolding leaf_that with_rule_if
knows_resume called = record {
  again = refl;
  some = λ h. omega (arith, h);
  both = λ h. omega (arith, h);
  index_first = λ _. refl;
  index_second = λ _. refl;
  index_rest = λ h. absurd (omega arith);
  id_first = λ _. refl;
  id_second = λ _. refl;
  id_rest = λ h. absurd (omega arith);
  id_budget = λ _. refl;
  long_budget = λ _. refl;
  long_v2 = λ _. refl;
  long_frames = λ h. cc;
  defaults = resume_defaults;
  asks = λ rows first second rest. (let f = first (omega arith) in let g = second (omega arith) in simp (f, g));
}

-- what the subcommand of each command knows
pub knows : (c : Command) → Knows (leaf_of c) (takes_of c)
knows Run = knows_run (name_of Run)
knows Eval = knows_run (name_of Eval)
knows Check = knows_check (name_of Check)
knows Print = knows_check (name_of Print)
knows TextCommand = knows_text (name_of TextCommand)
knows Gen = knows_gen (name_of Gen)
knows Bound = knows_check (name_of Bound)
knows Derive = knows_gen (name_of Derive)
knows Feed = knows_feed (name_of Feed)
knows Save = knows_save (name_of Save)
knows Resume = knows_resume (name_of Resume)

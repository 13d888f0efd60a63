-- Clap refuses no command line.
use Rattle.std.proofs.Common.{inl, ◌≡◌, ◌<◌, ◌≤◌, List, [], ◌∷◌, ◌++◌, length, Bool, true, false, ◌&&◌, not, cond, refl, sym, ap, ap₂, ◌∙◌, subst, codes, Option, Some, None, is_some, option_map, arith, fold, append-nil, append_assoc}
use Rattle.std.specs.Prelude.{slice_get, option_and_then, nat_le}
use Rattle.std.specs.Str.{bytes_eq}
use Rattle.std.proofs.lemmas.Bool.{leb-true, not-true, and_parts}
use Rattle.clap.specs.Values.{reading_of}
use Rattle.clap.specs.Kinds.{Kinds, or_else}
use Rattle.clap.specs.Takes.{is_given}
use Rattle.clap.specs.Faults.{settle_fault, defaults_fault, check_fault, turn_fault, walk_fault, level_fault, entered_fault, fault_of}
use Rattle.clap.specs.Simple.{App, built, entered, names_of}
use Rattle.clap.specs.Walk.{Held, Names, Row, Rule, Text, Walk, idle, finished, nothing_held, settled, settled_rows, walk, walk_from, walked, with_default}
use Rattle.clap.specs.Words.{Shape}
use Rattle.clap.specs.declared.builder.value_parser.ValueParser.TheVariants as vp
use Rattle.clap.specs.declared.parser.matches.ValueSource.TheVariants.{CommandLine}
use Rattle.clap.proofs.FaultLemmas.{stopped_fault}
use Rattle.delta_words.specs.declared.command.Command.{Command}
use Rattle.delta_words.specs.declared.command.Command.TheVariants.{Run, Eval, Check, Print, Text as TextCommand, Gen, Bound, Derive, Feed, Save, Resume}
use Rattle.delta_words.specs.declared.command.Takes.{Takes}
use Rattle.delta_words.specs.Commands.{command_of, takes_of}
use Rattle.delta_words.specs.CommandLine.{WrittenLine, no_words, read_rest, whole_line, line_of}
use Rattle.delta_words.specs.CommandTask.{CommandTask, task_of_line, task_of_command, task_of}
use Rattle.delta_words.specs.ClapCommand.{delta_app, with_rule_if}
use Rattle.delta_words.proofs.ClapRows.{found, row_of, given, defaults-found, same_bytes}
use Rattle.delta_words.proofs.ClapKnows.{Knows, knows, leaf_of, leaf_that, name_of}
use Rattle.delta_words.proofs.ClapSteps.{Stands, word_row, rest_found}
use Rattle.delta_words.proofs.ClapLines.{walks}

no_faults : (a b c d : Kinds) → a ≡ [] → b ≡ [] → c ≡ [] → d ≡ [] → or_else a (or_else [] (or_else b (or_else c d))) ≡ []
no_faults a b c d p q r s = rw (p, q, r, s) refl

first_operand : (ops : List Text) → 0 < length ops → (a : Text) × (slice_get ops 0 ≡ Some a)
first_operand [] lt = absurd (omega arith)
first_operand (a ∷ ops) lt = (a, refl)

second_operand : (ops : List Text) → 1 < length ops → (a : Text) × (slice_get ops 1 ≡ Some a)
second_operand [] lt = absurd (omega arith)
second_operand (a ∷ []) lt = absurd (omega arith)
second_operand (a ∷ b ∷ ops) lt = (b, refl)

later_operands : (ops : List Text) → 2 < length ops → (a : Text) × (more : List Text) × (rest_found ops ≡ Some (row_of (codes "REST") (reading_of vp.String) CommandLine (a ∷ more)))
later_operands [] lt = absurd (omega arith)
later_operands (a ∷ []) lt = absurd (omega arith)
later_operands (a ∷ b ∷ []) lt = absurd (omega arith)
later_operands (a ∷ b ∷ c ∷ ops) lt = (c, ops, refl)

module _ (s : Shape) (t : Takes) (k : Knows s t) where
  start : Stands s t k (walk_from nothing_held) no_words
  start = record {
    rows = [];
    pending = None;
    waiting = idle;
    plain = tt;
    is = refl;
    calm = refl;
    good = record { settles = refl; holds = record { first = refl; second = refl; rest = refl; budget = refl; v2 = refl; frames = refl } };
    few = omega arith;
  }

  -- a subcommand takes a line of its command
  pub level_takes : (words : List Text) (m : WrittenLine) → read_rest t no_words words ≡ Some m → m.awaits ≡ false → t.operands ≤ length m.operands
      → level_fault s [] nothing_held words false [] ≡ []
  level_takes words m read calm many =
      let w = walks s t k words (walk_from nothing_held) no_words m (inl start) read calm in
      let st = w.stands in
      let h : Held = record { rows = st.rows; pending = st.pending; skip = 0 } in
      let end : Held = (walk s.rules [] nothing_held words).held in
      let e : end ≡ h = ap (λ (x : Walk). x.held) st.is in
      let S : List Row = settled_rows s.rules st.pending st.rows in
      let P : Text → Held → Type 0 = λ id x. is_given id (finished s.rules x) ≡ true in
      let given_first : 0 < t.operands → is_given (codes "FIRST") (finished s.rules end) ≡ true = λ lt.
      let op = first_operand m.operands (omega arith) in
      let row : found (codes "FIRST") S ≡ Some (word_row (codes "FIRST") op.0) = st.good.holds.first ∙ ap (option_map (word_row (codes "FIRST"))) op.1 in
      subst (P (codes "FIRST")) (sym e)
      (given (codes "FIRST") (reading_of vp.String) (op.0 ∷ []) (fold with_default S s.rules) (defaults-found (codes "FIRST") S s.rules (word_row (codes "FIRST") op.0) row)) in
      let given_second : 1 < t.operands → is_given (codes "SECOND") (finished s.rules end) ≡ true = λ lt.
      let op = second_operand m.operands (omega arith) in
      let row : found (codes "SECOND") S ≡ Some (word_row (codes "SECOND") op.0) = st.good.holds.second ∙ ap (option_map (word_row (codes "SECOND"))) op.1 in
      subst (P (codes "SECOND")) (sym e)
      (given (codes "SECOND") (reading_of vp.String) (op.0 ∷ []) (fold with_default S s.rules) (defaults-found (codes "SECOND") S s.rules (word_row (codes "SECOND") op.0) row)) in
      let given_rest : 2 < t.operands → is_given (codes "REST") (finished s.rules end) ≡ true = λ lt.
      let op = later_operands m.operands (omega arith) in
      let row : found (codes "REST") S ≡ Some (row_of (codes "REST") (reading_of vp.String) CommandLine (op.0 ∷ op.1)) = st.good.holds.rest ∙ op.2 in
      subst (P (codes "REST")) (sym e)
      (given (codes "REST") (reading_of vp.String) (op.0 ∷ op.1) (fold with_default S s.rules)
      (defaults-found (codes "REST") S s.rules (row_of (codes "REST") (reading_of vp.String) CommandLine (op.0 ∷ op.1)) row)) in
      no_faults _ _ _ _ w.fine ((ap₂ (λ (b : Bool) (x : Held). settle_fault s.rules b x) k.again e) ∙ st.good.settles)
      (k.defaults (settled s.rules end).rows) (k.asks (finished s.rules end) given_first given_second given_rest)

-- once a subcommand was met, the words after it are its own
stopped_walk : (c : List Rule) (names : Names) (w : Walk) (p : Text × List Text) (words : List Text)
    → fold (walked c names) (record w { stopped = Some p }) words ≡ record w { stopped = Some (p.0, p.1 ++ words) }
unfolding walked
stopped_walk c names w p [] = ap (λ (xs : List Text). record w { stopped = Some (p.0, xs) }) (sym (append-nil p.1))
stopped_walk c names w p (x ∷ words) =
    stopped_walk c names w (p.0, p.1 ++ x ∷ []) words ∙ ap (λ (xs : List Text). record w { stopped = Some (p.0, xs) }) (append_assoc p.1 (x ∷ []) words)

-- the whole command and its subcommands
abbrev A : App
A = built delta_app

-- the faults of the whole command, from where its walk stopped
abbrev faults : Walk → Kinds → Kinds
faults w first =
    or_else first (or_else (entered_fault A w.stopped) (or_else (settle_fault A.top.rules A.top.args_override_self w.held)
    (or_else (defaults_fault (settled A.top.rules w.held).rows A.top.rules) (check_fault A.top (finished A.top.rules w.held) (is_some (entered A w.stopped))))))

-- the command of a name enters its subcommand
record Enters (c : Command) (rest : List Text) : Type 0 where
  walks_on : walked A.top.rules (names_of A) (walk_from nothing_held) (name_of c) ≡ record (walk_from nothing_held) { stopped = Some (name_of c, []) }
  turn : turn_fault A.top (names_of A) (walk_from nothing_held) (name_of c) ≡ []
  ends : faults (record (walk_from nothing_held) { stopped = Some (name_of c, rest) }) [] ≡ or_else (level_fault (leaf_of c) [] nothing_held rest false []) []

enters : (c : Command) (rest : List Text) → Enters c rest
unfolding leaf_that with_rule_if walked defaults_fault
enters Run rest = record { walks_on = refl; turn = refl; ends = refl }
enters Eval rest = record { walks_on = refl; turn = refl; ends = refl }
enters Check rest = record { walks_on = refl; turn = refl; ends = refl }
enters Print rest = record { walks_on = refl; turn = refl; ends = refl }
enters TextCommand rest = record { walks_on = refl; turn = refl; ends = refl }
enters Gen rest = record { walks_on = refl; turn = refl; ends = refl }
enters Bound rest = record { walks_on = refl; turn = refl; ends = refl }
enters Derive rest = record { walks_on = refl; turn = refl; ends = refl }
enters Feed rest = record { walks_on = refl; turn = refl; ends = refl }
enters Save rest = record { walks_on = refl; turn = refl; ends = refl }
enters Resume rest = record { walks_on = refl; turn = refl; ends = refl }

-- a command's name and a line that its subcommand takes
top_takes : (c : Command) (rest : List Text) → level_fault (leaf_of c) [] nothing_held rest false [] ≡ [] → fault_of delta_app (name_of c ∷ rest) ≡ []
unfolding walk_fault
top_takes c rest h =
    let x = enters c rest in
    let w0 : Walk = record (walk_from nothing_held) { stopped = Some (name_of c, []) } in
    let e : walk A.top.rules (names_of A) nothing_held (name_of c ∷ rest) ≡ record (walk_from nothing_held) { stopped = Some (name_of c, rest) } =
    (ap (λ (w : Walk). fold (walked A.top.rules (names_of A)) w rest) x.walks_on) ∙ stopped_walk A.top.rules (names_of A) (walk_from nothing_held) (name_of c, []) rest in
    let none : walk_fault A.top (names_of A) (walk_from nothing_held) (name_of c ∷ rest) ≡ [] =
    ap₂ (λ (a : Kinds) (w : Walk). or_else a (walk_fault A.top (names_of A) w rest)) x.turn x.walks_on
    ∙ stopped_fault A.top (names_of A) (walk_from nothing_held) (name_of c, []) rest in
    (ap₂ (λ (w : Walk) (a : Kinds). faults w a) e none) ∙ (x.ends ∙ (rw h refl))

-- the word that names a command
named : (word : Text) (c : Command) → command_of word ≡ Some c → word ≡ name_of c
named word c h =
    go (bytes_eq word (codes "run")) refl (bytes_eq word (codes "eval")) refl (bytes_eq word (codes "check")) refl
    (bytes_eq word (codes "print")) refl (bytes_eq word (codes "text")) refl (bytes_eq word (codes "gen")) refl (bytes_eq word (codes "bound")) refl
    (bytes_eq word (codes "derive")) refl (bytes_eq word (codes "feed")) refl (bytes_eq word (codes "save")) refl (bytes_eq word (codes "resume")) refl h
  where
    when : (x : Command) (name : Text) → bytes_eq word name ≡ true → name ≡ name_of x → Some x ≡ Some c → word ≡ name_of c
    when x name same is j = let i : x ≡ c = cc in same_bytes word name same ∙ (is ∙ ap name_of i)

    go : (b1 : Bool) → bytes_eq word (codes "run") ≡ b1 → (b2 : Bool) → bytes_eq word (codes "eval") ≡ b2 → (b3 : Bool) → bytes_eq word (codes "check") ≡ b3
        → (b4 : Bool) → bytes_eq word (codes "print") ≡ b4 → (b5 : Bool) → bytes_eq word (codes "text") ≡ b5 → (b6 : Bool) → bytes_eq word (codes "gen") ≡ b6 → (b7 : Bool) → bytes_eq word (codes "bound") ≡ b7
        → (b8 : Bool) → bytes_eq word (codes "derive") ≡ b8 → (b9 : Bool) → bytes_eq word (codes "feed") ≡ b9 → (b10 : Bool) → bytes_eq word (codes "save") ≡ b10 → (b11 : Bool) → bytes_eq word (codes "resume") ≡ b11
        → cond b1 (Some Run) (cond b2 (Some Eval) (cond b3 (Some Check) (cond b4 (Some Print) (cond b5 (Some TextCommand) (cond b6 (Some Gen) (cond b7 (Some Bound) (cond b8 (Some Derive) (cond b9 (Some Feed) (cond b10 (Some Save) (cond b11 (Some Resume) None)))))))))) ≡ Some c
        → word ≡ name_of c
    go true e1 b2 e2 b3 e3 b4 e4 b5 e5 b6 e6 b7 e7 b8 e8 b9 e9 b10 e10 b11 e11 j = when Run (codes "run") e1 refl j
    go false e1 true e2 b3 e3 b4 e4 b5 e5 b6 e6 b7 e7 b8 e8 b9 e9 b10 e10 b11 e11 j = when Eval (codes "eval") e2 refl j
    go false e1 false e2 true e3 b4 e4 b5 e5 b6 e6 b7 e7 b8 e8 b9 e9 b10 e10 b11 e11 j = when Check (codes "check") e3 refl j
    go false e1 false e2 false e3 true e4 b5 e5 b6 e6 b7 e7 b8 e8 b9 e9 b10 e10 b11 e11 j = when Print (codes "print") e4 refl j
    go false e1 false e2 false e3 false e4 true e5 b6 e6 b7 e7 b8 e8 b9 e9 b10 e10 b11 e11 j = when TextCommand (codes "text") e5 refl j
    go false e1 false e2 false e3 false e4 false e5 true e6 b7 e7 b8 e8 b9 e9 b10 e10 b11 e11 j = when Gen (codes "gen") e6 refl j
    go false e1 false e2 false e3 false e4 false e5 false e6 true e7 b8 e8 b9 e9 b10 e10 b11 e11 j = when Bound (codes "bound") e7 refl j
    go false e1 false e2 false e3 false e4 false e5 false e6 false e7 true e8 b9 e9 b10 e10 b11 e11 j = when Derive (codes "derive") e8 refl j
    go false e1 false e2 false e3 false e4 false e5 false e6 false e7 false e8 true e9 b10 e10 b11 e11 j = when Feed (codes "feed") e9 refl j
    go false e1 false e2 false e3 false e4 false e5 false e6 false e7 false e8 false e9 true e10 b11 e11 j = when Save (codes "save") e10 refl j
    go false e1 false e2 false e3 false e4 false e5 false e6 false e7 false e8 false e9 false e10 true e11 j = when Resume (codes "resume") e11 refl j
    go false e1 false e2 false e3 false e4 false e5 false e6 false e7 false e8 false e9 false e10 false e11 j = cc

-- a subcommand takes the words that make a line
line_takes : (c : Command) (rest : List Text) (line : WrittenLine) → line_of (takes_of c) rest ≡ Some line → level_fault (leaf_of c) [] nothing_held rest false [] ≡ []
line_takes c rest line h = go (read_rest (takes_of c) no_words rest) refl h
  where
    go : (o : Option WrittenLine) → read_rest (takes_of c) no_words rest ≡ o → option_and_then (whole_line (takes_of c)) o ≡ Some line
        → level_fault (leaf_of c) [] nothing_held rest false [] ≡ []
    go None e j = cc
    go (Some m) e j = whole (not m.awaits && nat_le (takes_of c).operands (length m.operands)) refl j
      where
        whole : (b : Bool) → (not m.awaits && nat_le (takes_of c).operands (length m.operands)) ≡ b → cond b (Some m) None ≡ Some line
            → level_fault (leaf_of c) [] nothing_held rest false [] ≡ []
        whole true is j =
            let r = and_parts (not m.awaits) (nat_le (takes_of c).operands (length m.operands)) is in
            level_takes (leaf_of c) (takes_of c) (knows c) rest m e (not-true m.awaits r.0) (leb-true (takes_of c).operands (length m.operands) r.1)
        whole false is j = cc

-- clap refuses no words that ask for a task
pub task_taken : (words : List Text) (task : CommandTask) → task_of words ≡ Some task → fault_of delta_app words ≡ []
task_taken [] task h = cc
task_taken (word ∷ rest) task h = go (command_of word) refl h
  where
    go : (o : Option Command) → command_of word ≡ o → option_and_then (task_of_command rest) o ≡ Some task → fault_of delta_app (word ∷ rest) ≡ []
    go None e j = cc
    go (Some c) e j = by_line (line_of (takes_of c) rest) refl j
      where
        by_line : (o : Option WrittenLine) → line_of (takes_of c) rest ≡ o → option_and_then (task_of_line c) o ≡ Some task → fault_of delta_app (word ∷ rest) ≡ []
        by_line None i j = cc
        by_line (Some line) i j =
            (let P : Text → Type 0 = λ x. fault_of delta_app (x ∷ rest) ≡ [] in subst P (sym (named word c e)) (top_takes c rest (line_takes c rest line i)))

-- From a core and the tables that it was given to the text that it is the core of.
use Rattle.std.proofs.Common.{◌≡◌, inl, inr, ℕ, pred, List, [], ◌++◌, Option, refl, sym, subst, ap, append-nil, ◌∙◌}
use Rattle.stream_type.specs.StreamType.{StreamType}
use Rattle.stream_prefix.specs.StreamPrefix.{StreamPrefix}
use Rattle.delta_tree.specs.SyntaxTree.{ProgramTree}
use Rattle.core_term.specs.CoreTerm.{CoreProgram}
use Rattle.core_term.specs.Meaning.{mean, calls_of, level_of}
use Rattle.delta_state.specs.Stands.{input_type}
use Rattle.delta_meaning.specs.SourceBody.{main_of}
use Rattle.delta_meaning.specs.SourceMeaning.{mean as tree_mean, calls_of as tree_calls, level_of as tree_level}
use Rattle.delta_meaning.proofs.WholePrograms.{core_keeps_meaning}
use Rattle.delta_meaning.proofs.KeptTypes.{elaborated_has_types}
use Rattle.delta_elab.specs.Accepted.{IsAccepted}
use Rattle.table_feed.specs.declared.fault.FeedFault.{FeedFault}
use Rattle.table_feed.specs.declared.fault.FeedFault.TheVariants as fault
use Rattle.delta_end.specs.declared.end.End.{End}
use Rattle.checked_program.specs.Acceptance.{IsAcceptedAs}
use Rattle.commands.specs.Tables.{Takes, IsWrong, told_as, given_text, tables_word, IsCostlyAt, IsDeepAt, OfTables}
use Rattle.commands.specs.Feeding.{input_of, IsFed, Spends, Sinks, Tells, TellsFront}
use Rattle.commands.specs.Given.{AreHeld, EndsRunning, EndsUnwritten, GivesText}

-- what is said of a program: its types, what it gives, its calls and their levels
record Way : Type 0 where
  input : StreamType
  result : StreamType
  gives : StreamPrefix → StreamPrefix
  calls : StreamPrefix → ℕ
  level : StreamPrefix → ℕ

abbrev core_way : CoreProgram → Way
core_way c = record { input = input_type c; result = c.main.result; gives = mean c; calls = calls_of c; level = level_of c }

abbrev tree_way : ProgramTree → Way
tree_way p = record { input = input_of p; result = (main_of p).result; gives = tree_mean p; calls = tree_calls p; level = tree_level p }

module _ (p : ProgramTree) (c : CoreProgram) (a : IsAccepted p c) where
  same_way : core_way c ≡ tree_way p
  same_way =
      let types = elaborated_has_types p c a.elaborated in
      λ i. record {
        input = types.input i;
        result = types.result i;
        gives = λ q. (core_keeps_meaning p c a.elaborated a.typed q i).out;
        calls = λ q. (core_keeps_meaning p c a.elaborated a.typed q i).calls;
        level = λ q. pred (core_keeps_meaning p c a.elaborated a.typed q i).level;
      }

  takes_too : (tables : List (List ℕ)) → Takes (input_type c) c.main.result tables → Takes (input_of p) (main_of p).result tables
  takes_too tables takes = subst (λ (w : Way). Takes w.input w.result tables) same_way takes

  wrong_too : (tables : List (List ℕ)) (why : FeedFault) → IsWrong (input_type c) c.main.result tables why → IsWrong (input_of p) (main_of p).result tables why
  wrong_too tables why wrong = subst (λ (w : Way). IsWrong w.input w.result tables why) same_way wrong

  text_too : (tables : List (List ℕ)) → given_text (input_type c) (mean c) tables ≡ given_text (input_of p) (tree_mean p) tables
  text_too tables = ap (λ (w : Way). given_text w.input w.gives tables) same_way

  costly_too : (budget at : ℕ) (schedule : List ℕ) (tables : List (List ℕ)) → IsCostlyAt (input_type c) (calls_of c) budget (tables_word (input_type c) schedule tables) at
      → Spends budget at p (tables_word (input_of p) schedule tables)
  costly_too budget at schedule tables h = subst (λ (w : Way). IsCostlyAt w.input w.calls budget (tables_word w.input schedule tables) at) same_way h

  deep_too : (at : ℕ) (schedule : List ℕ) (tables : List (List ℕ)) → IsDeepAt (input_type c) (level_of c) 1000 (tables_word (input_type c) schedule tables) at
      → Sinks at p (tables_word (input_of p) schedule tables)
  deep_too at schedule tables h = subst (λ (w : Way). IsDeepAt w.input w.level 1000 (tables_word w.input schedule tables) at) same_way h

module _ (text : List ℕ) (p : ProgramTree) (c : CoreProgram) (a : IsAcceptedAs text p c) where
  -- what the core gives is fed
  pub is_fed : (tables : List (List ℕ)) (out : List ℕ) → GivesText c tables out → IsFed text tables out
  is_fed tables out gives = record {
    program = p;
    core = c;
    accepted = a;
    takes = takes_too p c a.accepted tables gives.takes;
    is = gives.is ∙ text_too p c a.accepted tables;
  }

  unfed : (schedule : List ℕ) (tables : List (List ℕ)) (budget : ℕ) (why : FeedFault) → IsWrong (input_of p) (main_of p).result tables why → Tells text schedule tables budget [] (told_as why)
  unfed schedule tables budget fault.Memory wrong = absurd wrong
  unfed schedule tables budget fault.Shape wrong = (record { program = p; core = c; accepted = a; why = fault.Shape; wrong = wrong; told = refl }, refl)
  unfed schedule tables budget (fault.Long file) wrong = (record { program = p; core = c; accepted = a; why = fault.Long file; wrong = wrong; told = refl }, refl)
  unfed schedule tables budget (fault.Ragged file row) wrong = (record { program = p; core = c; accepted = a; why = fault.Ragged file row; wrong = wrong; told = refl }, refl)
  unfed schedule tables budget (fault.BadNumber file row column) wrong = (record { program = p; core = c; accepted = a; why = fault.BadNumber file row column; wrong = wrong; told = refl }, refl)

  -- and an end without a text is told
  pub is_told : (schedule : List ℕ) (tables : List (List ℕ)) (budget : ℕ) (end : End) → EndsUnwritten c schedule tables budget end → Tells text schedule tables budget [] end
  is_told schedule tables budget end (inl memory) = subst (λ (e : End). Tells text schedule tables budget [] e) (sym memory) (inl refl)
  is_told schedule tables budget end (inr (inl failed)) = subst (λ (e : End). Tells text schedule tables budget [] e) (sym failed) refl
  is_told schedule tables budget end (inr (inr (inl told))) =
      subst (λ (e : End). Tells text schedule tables budget [] e) (sym told.2) (unfed schedule tables budget told.0 (wrong_too p c a.accepted tables told.0 told.1))
  is_told schedule tables budget end (inr (inr (inr ran))) = by_run ran.1
    where
      takes : Takes (input_of p) (main_of p).result tables
      takes = takes_too p c a.accepted tables ran.0

      by_run : EndsRunning c budget (tables_word (input_type c) schedule tables) end → Tells text schedule tables budget [] end
      by_run (inl memory) = subst (λ (e : End). Tells text schedule tables budget [] e) (sym memory) (inl refl)
      by_run (inr (inl costly)) =
          subst (λ (e : End). Tells text schedule tables budget [] e) (sym costly.1)
          (record { program = p; core = c; accepted = a; takes = takes; stops = costly_too p c a.accepted budget costly.0 schedule tables costly.2 }, refl)
      by_run (inr (inr deep)) =
          subst (λ (e : End). Tells text schedule tables budget [] e) (sym deep.1)
          (record { program = p; core = c; accepted = a; takes = takes; stops = deep_too p c a.accepted deep.0 schedule tables deep.2 }, refl)

-- the text of what is fed was sent, or a front of it
module _ (holds : Option (List ℕ → List ℕ)) (names : List (List ℕ)) (text : List ℕ) (piece sent rest : List ℕ) (split : piece ≡ sent ++ rest)
    (fed : (tables : List (List ℕ)) × AreHeld holds names tables × IsFed text tables piece) where
  pub all_is_sent : rest ≡ [] → OfTables holds names (λ tables. IsFed text tables sent)
  all_is_sent none files tells =
      let whole : piece ≡ sent = split ∙ ap (λ (bytes : List ℕ). sent ++ bytes) none ∙ append-nil sent in
      subst (λ (tables : List (List ℕ)). IsFed text tables sent) (fed.1 files tells) (subst (λ (out : List ℕ). IsFed text fed.0 out) whole fed.2)

  pub front_is_sent : OfTables holds names (λ tables. TellsFront text tables sent)
  front_is_sent files tells =
      subst (λ (tables : List (List ℕ)). TellsFront text tables sent) (fed.1 files tells) (record { all = piece; fed = fed.2; front = (rest, split) })

-- From the end of a feeding of tables to what its caller may know.
use Rattle.std.proofs.Common.{◌≡◌, inl, ℕ, List, Option, None, Some, Result, refl}
use Rattle.port.specs.declared.link.Move.{Move}
use Rattle.port.specs.declared.fault.IoFault.{IoFault}
use Rattle.port.specs.Faults.{HasCause}
use Rattle.port.specs.Moves.{bytes_written}
use Rattle.delta_tree.specs.SyntaxTree.{ProgramTree}
use Rattle.core_term.specs.CoreTerm.{CoreProgram}
use Rattle.delta_meaning.specs.SourceBody.{main_of}
use Rattle.delta_meaning.specs.SourceMeaning.{mean}
use Rattle.delta_end.specs.declared.objection.Objection.{Objection}
use Rattle.delta_end.specs.declared.objection.Objection.TheVariants.{Derivation, Bound, Table, State}
use Rattle.delta_end.specs.declared.end.End.{End}
use Rattle.delta_end.specs.declared.end.End.TheVariants.{Done, Usage, Refused, Input, Budget, Deep, Open, FileFailed, ReadFailed, WriteFailed, Memory, Long, Objected}
use Rattle.delta_end.specs.End.{FileCause, WriteCause}
use Rattle.delta_end.specs.Status.{AnswerOf, IsStill}
use Rattle.delta_end.proofs.Statuses.{not_rose, answered, answered_eight, with_status}
use Rattle.checked_program.specs.Acceptance.{IsAcceptedAs}
use Rattle.checked_program.proofs.OneAnswer.{accepted_is_not_refused}
use Rattle.delta_loop.specs.Answer.{Adds}
use Rattle.commands.specs.Tables.{Takes, given_text, tables_in}
use Rattle.commands.specs.Feeding.{input_of, IsFed, IsUnfed, Tells}
use Rattle.commands.proofs.OneFeed.{fed_is_one, fed_is_not_refused}
use Rattle.delta_run.specs.Told.{Told}
use Rattle.delta_run.specs.Fed.{FedText, FeedsWell, RefusesTables}
use Rattle.delta_run.specs.Checked.{RefusesUnaccepted}
use Rattle.delta_run.proofs.Told.{told_moves}

module _ (holds : Option (List ℕ → List ℕ)) (text schedule : List ℕ) (names : List (List ℕ)) (budget : ℕ) (old new : Option (List Move)) (files : List ℕ → List ℕ) (holds_are : holds ≡ Some files) where
  abbrev pub tables : List (List ℕ)
  tables = tables_in files names

  -- what was told of the tables that the shelf tells
  at_tables : (end : End) (ran : FedText holds text schedule names budget old new end) → Tells text schedule tables budget ran.0 end
  at_tables end ran = ran.2 files holds_are

  pub tells_tables : (end : End) → FedText holds text schedule names budget old new end → Adds old new (Told (Tells text schedule tables budget) end)
  tells_tables end ran = told_moves (Tells text schedule tables budget) old new end ran.0 ran.1 (at_tables end ran)

  module _ (file0 file1 write0 write1 note0 note1 : ℕ) (file_still : IsStill file0 file1) (write_still : IsStill write0 write1) (note_still : IsStill note0 note1)
      (said : Result (Unit {0}) IoFault) (status : ℕ) (cause : HasCause said note0 note1) where
    wanting : AnswerOf Memory said status → status ≡ 8
    wanting is = answered_eight said status note0 note1 is cause note_still

    -- tables that the program takes aren't refused
    not_taken : {p : ProgramTree} {c : CoreProgram} {what : Objection} → Takes (input_of p) (main_of p).result tables → IsUnfed text tables what → IsAcceptedAs text p c → ⊥
    not_taken {p} {c} {what} takes unfed accepted =
        fed_is_not_refused text tables (given_text (input_of p) (mean p) tables) what (record { program = p; core = c; accepted = accepted; takes = takes; is = refl }) unfed

    -- what was written is what the program gives on the whole of the tables
    all_of : (out : List ℕ) → IsFed text tables out → (ran : FedText holds text schedule names budget old new Done) → Adds old new (λ moves. bytes_written moves ≡ out)
    all_of out fed ran told tells =
        let adds = tells_tables Done ran told tells in
        (adds.0, adds.1, fed_is_one text tables _ out adds.2.told fed)

    -- tables that the program takes are fed
    pub fed_well : (end : End) → FedText holds text schedule names budget old new end → FileCause end file0 file1 → WriteCause end write0 write1 → AnswerOf end said status → FeedsWell text schedule tables budget old new status
    fed_well Done ran file write is out fed never = with_status (all_of out fed ran) (answered Done said status note0 note1 is cause note_still)
    fed_well Memory ran file write is out fed never = inl (wanting is)
    fed_well FileFailed ran file write is out fed never = absurd (not_rose file0 file1 file file_still)
    fed_well WriteFailed ran file write is out fed never = absurd (not_rose write0 write1 write write_still)
    fed_well (Budget place) ran file write is out fed never = absurd (never.cheap place (at_tables (Budget place) ran).0)
    fed_well (Deep place) ran file write is out fed never = absurd (never.flat place (at_tables (Deep place) ran).0)
    fed_well (Objected (Table told there row)) ran file write is out fed never = absurd (fed_is_not_refused text tables out (Table told there row) fed (at_tables (Objected (Table told there row)) ran).0)
    fed_well (Refused (Some wrong)) ran file write is out fed never = absurd (accepted_is_not_refused text fed.program fed.core wrong fed.accepted (at_tables (Refused (Some wrong)) ran).0)
    fed_well Usage ran file write is out fed never = absurd (at_tables Usage ran)
    fed_well (Input fault) ran file write is out fed never = absurd (at_tables (Input fault) ran)
    fed_well Open ran file write is out fed never = absurd (at_tables Open ran)
    fed_well ReadFailed ran file write is out fed never = absurd (at_tables ReadFailed ran)
    fed_well Long ran file write is out fed never = absurd (at_tables Long ran)
    fed_well (Refused None) ran file write is out fed never = absurd (at_tables (Refused None) ran)
    fed_well (Objected (Derivation told there)) ran file write is out fed never = absurd (at_tables (Objected (Derivation told there)) ran)
    fed_well (Objected (Bound told there)) ran file write is out fed never = absurd (at_tables (Objected (Bound told there)) ran)
    fed_well (Objected (State told there)) ran file write is out fed never = absurd (at_tables (Objected (State told there)) ran)

    -- tables that it doesn't take are refused
    pub untaken_well : (end : End) → FedText holds text schedule names budget old new end → FileCause end file0 file1 → WriteCause end write0 write1 → AnswerOf end said status → RefusesTables text tables status
    untaken_well Done ran file write is what unfed = absurd (fed_is_not_refused text tables _ what (at_tables Done ran) unfed)
    untaken_well Memory ran file write is what unfed = inl (wanting is)
    untaken_well FileFailed ran file write is what unfed = absurd (not_rose file0 file1 file file_still)
    untaken_well WriteFailed ran file write is what unfed = absurd (not_rose write0 write1 write write_still)
    untaken_well (Budget place) ran file write is what unfed = absurd (not_taken (at_tables (Budget place) ran).0.takes unfed (at_tables (Budget place) ran).0.accepted)
    untaken_well (Deep place) ran file write is what unfed = absurd (not_taken (at_tables (Deep place) ran).0.takes unfed (at_tables (Deep place) ran).0.accepted)
    untaken_well (Objected (Table told there row)) ran file write is what unfed = answered (Objected (Table told there row)) said status note0 note1 is cause note_still
    untaken_well (Refused (Some wrong)) ran file write is what unfed = absurd (accepted_is_not_refused text unfed.program unfed.core wrong unfed.accepted (at_tables (Refused (Some wrong)) ran).0)
    untaken_well Usage ran file write is what unfed = absurd (at_tables Usage ran)
    untaken_well (Input fault) ran file write is what unfed = absurd (at_tables (Input fault) ran)
    untaken_well Open ran file write is what unfed = absurd (at_tables Open ran)
    untaken_well ReadFailed ran file write is what unfed = absurd (at_tables ReadFailed ran)
    untaken_well Long ran file write is what unfed = absurd (at_tables Long ran)
    untaken_well (Refused None) ran file write is what unfed = absurd (at_tables (Refused None) ran)
    untaken_well (Objected (Derivation told there)) ran file write is what unfed = absurd (at_tables (Objected (Derivation told there)) ran)
    untaken_well (Objected (Bound told there)) ran file write is what unfed = absurd (at_tables (Objected (Bound told there)) ran)
    untaken_well (Objected (State told there)) ran file write is what unfed = absurd (at_tables (Objected (State told there)) ran)

    -- and a text that isn't accepted is refused
    pub refused_feeding : (end : End) → FedText holds text schedule names budget old new end → FileCause end file0 file1 → WriteCause end write0 write1 → AnswerOf end said status → RefusesUnaccepted text status
    refused_feeding Done ran file write is why r = absurd (accepted_is_not_refused text (at_tables Done ran).program (at_tables Done ran).core why (at_tables Done ran).accepted r)
    refused_feeding Memory ran file write is why r = inl (wanting is)
    refused_feeding FileFailed ran file write is why r = absurd (not_rose file0 file1 file file_still)
    refused_feeding WriteFailed ran file write is why r = absurd (not_rose write0 write1 write write_still)
    refused_feeding (Budget place) ran file write is why r = absurd (accepted_is_not_refused text (at_tables (Budget place) ran).0.program (at_tables (Budget place) ran).0.core why (at_tables (Budget place) ran).0.accepted r)
    refused_feeding (Deep place) ran file write is why r = absurd (accepted_is_not_refused text (at_tables (Deep place) ran).0.program (at_tables (Deep place) ran).0.core why (at_tables (Deep place) ran).0.accepted r)
    refused_feeding (Objected (Table told there row)) ran file write is why r = absurd (accepted_is_not_refused text (at_tables (Objected (Table told there row)) ran).0.program (at_tables (Objected (Table told there row)) ran).0.core why (at_tables (Objected (Table told there row)) ran).0.accepted r)
    refused_feeding (Refused (Some wrong)) ran file write is why r = answered (Refused (Some wrong)) said status note0 note1 is cause note_still
    refused_feeding Usage ran file write is why r = absurd (at_tables Usage ran)
    refused_feeding (Input fault) ran file write is why r = absurd (at_tables (Input fault) ran)
    refused_feeding Open ran file write is why r = absurd (at_tables Open ran)
    refused_feeding ReadFailed ran file write is why r = absurd (at_tables ReadFailed ran)
    refused_feeding Long ran file write is why r = absurd (at_tables Long ran)
    refused_feeding (Refused None) ran file write is why r = absurd (at_tables (Refused None) ran)
    refused_feeding (Objected (Derivation told there)) ran file write is why r = absurd (at_tables (Objected (Derivation told there)) ran)
    refused_feeding (Objected (Bound told there)) ran file write is why r = absurd (at_tables (Objected (Bound told there)) ran)
    refused_feeding (Objected (State told there)) ran file write is why r = absurd (at_tables (Objected (State told there)) ran)

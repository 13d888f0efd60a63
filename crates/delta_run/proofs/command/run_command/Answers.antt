use Rattle.std.proofs.Common.{◌∙◌, ℕ, List, Some, map, string_bytes, inl, inr, ap, subst, refl}
use Rattle.event_frame.specs.declared.version.Version.{Version}
use Rattle.delta_words.specs.CommandTask.{asked}
use Rattle.delta_end.specs.declared.end.End.TheVariants.{Usage, Memory}
use Rattle.delta_loop.specs.Answer.{ReadsWell}
use Rattle.delta_loop.proofs.Returning.{adds_none, ran_reads, unread}
use Rattle.command_text.specs.Conversion.{frames_of_lines, Ran as Converted}
use Rattle.command_text.specs.Lines.{lines_of_frames}
use Rattle.delta_run.specs.CommandLine.{frames_of}
use Rattle.delta_run.specs.Text.{OfFile, RanText}
use Rattle.delta_run.specs.Evaluated.{EvaluatedText}
use Rattle.delta_run.specs.Checked.{ChecksText}
use Rattle.delta_run.specs.Printed.{PrintedText}
use Rattle.delta_run.specs.Bounded.{BoundedText}
use Rattle.commands.specs.Deriving.{DerivesText}
use Rattle.delta_run.specs.Fed.{FedText}
use Rattle.commands.specs.Leaving.{ChangesState}
use Rattle.delta_run.specs.Saved.{SavedText}
use Rattle.delta_run.specs.SavedAgain.{SavedAgainText}
use Rattle.delta_run.specs.Resumed.{ResumedText}
use Rattle.delta_run.proofs.Budgets.{run_is_small, eval_is_small, feed_is_small, load_is_small, save_is_small, save_again_is_small, resume_is_small}
use Rattle.delta_run.proofs.Conversions.{converted_reads}
use Rattle.delta_run.proofs.Printed.{written_reads}
use Rattle.delta_run.proofs.CommandLines.{for_each, asks_something}
use Rattle.delta_run.proofs.Doing.{does_nothing}
use Rattle.delta_run.proofs.command.run_command.Goals as goal

pub returns-in-Ok-Run-clause-command : goal.returns-in-Ok-Run-clause-command
returns-in-Ok-Run-clause-command g c nothing = absurd (asks_something nothing (c.in-Ok-Run.ensures.ok ∙ ap (λ t. Some (asked t)) c.in-Ok-Run.field-0-is))

pub run_file-requires : goal.run_file-requires
run_file-requires g c = run_is_small (map string_bytes c.args.words.now) _ _ _ (c.in-Ok-Run.ensures.ok ∙ ap (λ t. Some (asked t)) c.in-Ok-Run.field-0-is)

pub returns-in-Ok-Run-clause-reads : goal.returns-in-Ok-Run-clause-reads
returns-in-Ok-Run-clause-reads g c = c.run_file.ensures.reads

pub returns-in-Ok-Run-clause-does : goal.returns-in-Ok-Run-clause-does
returns-in-Ok-Run-clause-does g c =
    let Ran : List ℕ → Version → Type 0 = λ file version. OfFile (g.S.Shelf.holds c.args.shelf.now) file (λ source. RanText source c.in-Ok-Run.budget version
    (g.L.Link.log c.args.link.now) (g.L.Link.log c.run_file.new.link) (g.L.Link.left c.args.link.now) (g.L.Link.left c.run_file.new.link) c.run_file.result) in
    for_each c.args.words.now _ _ (c.in-Ok-Run.ensures.ok ∙ ap (λ t. Some (asked t)) c.in-Ok-Run.field-0-is)
    (subst (λ (file : List ℕ). Ran file (frames_of c.in-Ok-Run.version)) c.deref.ensures (subst (Ran c.deref.result.now) c.frame_version.ensures c.run_file.ensures.ran), (c.run_file.ensures.taken, c.run_file.ensures.unrun))

pub returns-in-Ok-Frames-clause-command : goal.returns-in-Ok-Frames-clause-command
returns-in-Ok-Frames-clause-command g c nothing = absurd (asks_something nothing (c.in-Ok-Frames.ensures.ok ∙ ap (λ t. Some (asked t)) c.in-Ok-Frames.field-0-is))

pub returns-in-Ok-Frames-clause-reads : goal.returns-in-Ok-Frames-clause-reads
returns-in-Ok-Frames-clause-reads g c = converted_reads _ _ _ _ _ c.write_frames.result c.write_frames.ensures.ran

pub returns-in-Ok-Frames-clause-does : goal.returns-in-Ok-Frames-clause-does
returns-in-Ok-Frames-clause-does g c =
    for_each c.args.words.now _ _ (c.in-Ok-Frames.ensures.ok ∙ ap (λ t. Some (asked t)) c.in-Ok-Frames.field-0-is)
    (inr (subst (λ (version : Version). Converted (frames_of_lines version) (g.L.Link.log c.args.link.now) (g.L.Link.log c.write_frames.new.link) (g.L.Link.left c.args.link.now) (g.L.Link.left c.write_frames.new.link) c.write_frames.result)
    c.frame_version-in-Ok-Frames.ensures c.write_frames.ensures.ran))

pub returns-in-Ok-Text-clause-command : goal.returns-in-Ok-Text-clause-command
returns-in-Ok-Text-clause-command g c nothing = absurd (asks_something nothing (c.in-Ok-Text.ensures.ok ∙ ap (λ t. Some (asked t)) c.in-Ok-Text.field-0-is))

pub returns-in-Ok-Text-clause-reads : goal.returns-in-Ok-Text-clause-reads
returns-in-Ok-Text-clause-reads g c = ran_reads lines_of_frames _ _ _ _ c.write_lines.result c.write_lines.ensures.ran

pub returns-in-Ok-Text-clause-does : goal.returns-in-Ok-Text-clause-does
returns-in-Ok-Text-clause-does g c =
    for_each c.args.words.now _ _ (c.in-Ok-Text.ensures.ok ∙ ap (λ t. Some (asked t)) c.in-Ok-Text.field-0-is) (inr c.write_lines.ensures.ran)

pub returns-in-Ok-Print-clause-command : goal.returns-in-Ok-Print-clause-command
returns-in-Ok-Print-clause-command g c nothing = absurd (asks_something nothing (c.in-Ok-Print.ensures.ok ∙ ap (λ t. Some (asked t)) c.in-Ok-Print.field-0-is))

pub returns-in-Ok-Print-clause-reads : goal.returns-in-Ok-Print-clause-reads
returns-in-Ok-Print-clause-reads g c = c.print_file.ensures.reads

pub returns-in-Ok-Print-clause-does : goal.returns-in-Ok-Print-clause-does
returns-in-Ok-Print-clause-does g c =
    for_each c.args.words.now _ _ (c.in-Ok-Print.ensures.ok ∙ ap (λ t. Some (asked t)) c.in-Ok-Print.field-0-is)
    (subst (λ (file : List ℕ). OfFile (g.S.Shelf.holds c.args.shelf.now) file (λ source. PrintedText source (g.L.Link.log c.args.link.now) (g.L.Link.log c.print_file.new.link) c.print_file.result)) c.deref-in-Ok-Print.ensures c.print_file.ensures.printed, c.print_file.ensures.unread, c.print_file.ensures.unrun)

pub returns-in-Ok-Check-clause-command : goal.returns-in-Ok-Check-clause-command
returns-in-Ok-Check-clause-command g c nothing = absurd (asks_something nothing (c.in-Ok-Check.ensures.ok ∙ ap (λ t. Some (asked t)) c.in-Ok-Check.field-0-is))

pub returns-in-Ok-Check-clause-reads : goal.returns-in-Ok-Check-clause-reads
returns-in-Ok-Check-clause-reads g c = adds_none _ _ (ReadsWell c.check_file.result) refl (unread c.check_file.result)

pub returns-in-Ok-Check-clause-does : goal.returns-in-Ok-Check-clause-does
returns-in-Ok-Check-clause-does g c =
    for_each c.args.words.now _ _ (c.in-Ok-Check.ensures.ok ∙ ap (λ t. Some (asked t)) c.in-Ok-Check.field-0-is)
    (subst (λ (file : List ℕ). OfFile (g.S.Shelf.holds c.args.shelf.now) file (λ source. ChecksText source c.check_file.result)) c.deref-in-Ok-Check.ensures c.check_file.ensures.checked, (refl, refl))

pub returns-in-Ok-Eval-clause-command : goal.returns-in-Ok-Eval-clause-command
returns-in-Ok-Eval-clause-command g c nothing = absurd (asks_something nothing (c.in-Ok-Eval.ensures.ok ∙ ap (λ t. Some (asked t)) c.in-Ok-Eval.field-0-is))

pub eval_file-requires : goal.eval_file-requires
eval_file-requires g c = eval_is_small (map string_bytes c.args.words.now) _ _ _ (c.in-Ok-Eval.ensures.ok ∙ ap (λ t. Some (asked t)) c.in-Ok-Eval.field-0-is)

pub returns-in-Ok-Eval-clause-reads : goal.returns-in-Ok-Eval-clause-reads
returns-in-Ok-Eval-clause-reads g c = c.eval_file.ensures.reads

pub returns-in-Ok-Eval-clause-does : goal.returns-in-Ok-Eval-clause-does
returns-in-Ok-Eval-clause-does g c =
    let Evaluated : List ℕ → Version → Type 0 = λ file version. OfFile (g.S.Shelf.holds c.args.shelf.now) file (λ source. EvaluatedText source c.in-Ok-Eval.budget version
    (g.L.Link.log c.args.link.now) (g.L.Link.log c.eval_file.new.link) (g.L.Link.left c.args.link.now) (g.L.Link.left c.eval_file.new.link) c.eval_file.result) in
    for_each c.args.words.now _ _ (c.in-Ok-Eval.ensures.ok ∙ ap (λ t. Some (asked t)) c.in-Ok-Eval.field-0-is)
    (subst (λ (file : List ℕ). Evaluated file (frames_of c.in-Ok-Eval.version)) c.deref-in-Ok-Eval.ensures (subst (Evaluated c.deref-in-Ok-Eval.result.now) c.frame_version-in-Ok-Eval.ensures c.eval_file.ensures.evaluated), (c.eval_file.ensures.taken, c.eval_file.ensures.unrun))

pub returns-in-Ok-Bound-clause-command : goal.returns-in-Ok-Bound-clause-command
returns-in-Ok-Bound-clause-command g c nothing = absurd (asks_something nothing (c.in-Ok-Bound.ensures.ok ∙ ap (λ t. Some (asked t)) c.in-Ok-Bound.field-0-is))

pub returns-in-Ok-Bound-clause-reads : goal.returns-in-Ok-Bound-clause-reads
returns-in-Ok-Bound-clause-reads g c = c.bound_file.ensures.reads

pub returns-in-Ok-Bound-clause-does : goal.returns-in-Ok-Bound-clause-does
returns-in-Ok-Bound-clause-does g c =
    for_each c.args.words.now _ _ (c.in-Ok-Bound.ensures.ok ∙ ap (λ t. Some (asked t)) c.in-Ok-Bound.field-0-is)
    (subst (λ (file : List ℕ). OfFile (g.S.Shelf.holds c.args.shelf.now) file (λ source. BoundedText source (g.L.Link.log c.args.link.now) (g.L.Link.log c.bound_file.new.link) c.bound_file.result)) c.deref-in-Ok-Bound.ensures c.bound_file.ensures.bounded, c.bound_file.ensures.unread, c.bound_file.ensures.unrun)

pub returns-in-Ok-Derive-clause-command : goal.returns-in-Ok-Derive-clause-command
returns-in-Ok-Derive-clause-command g c nothing = absurd (asks_something nothing (c.in-Ok-Derive.ensures.ok ∙ ap (λ t. Some (asked t)) c.in-Ok-Derive.field-0-is))

pub returns-in-Ok-Derive-clause-reads : goal.returns-in-Ok-Derive-clause-reads
returns-in-Ok-Derive-clause-reads g c = adds_none _ _ (ReadsWell c.derive_file.result) refl (unread c.derive_file.result)

pub returns-in-Ok-Derive-clause-does : goal.returns-in-Ok-Derive-clause-does
returns-in-Ok-Derive-clause-does g c =
    let Derived : List ℕ → List ℕ → Type 0 = λ file proof. OfFile (g.S.Shelf.holds c.args.shelf.now) file (λ source. OfFile (g.S.Shelf.holds c.args.shelf.now) proof (λ steps. DerivesText source steps c.derive_file.result)) in
    for_each c.args.words.now _ _ (c.in-Ok-Derive.ensures.ok ∙ ap (λ t. Some (asked t)) c.in-Ok-Derive.field-0-is)
    (subst (λ (file : List ℕ). Derived file (string_bytes c.in-Ok-Derive.proof)) c.deref-in-Ok-Derive.ensures (subst (Derived c.deref-in-Ok-Derive.result.now) c.deref-in-Ok-Derive-2.ensures c.derive_file.ensures.derived), (refl, refl))

pub returns-in-Ok-Feed-clause-command : goal.returns-in-Ok-Feed-clause-command
returns-in-Ok-Feed-clause-command g c nothing = absurd (asks_something nothing (c.in-Ok-Feed.ensures.ok ∙ ap (λ t. Some (asked t)) c.in-Ok-Feed.field-0-is))

pub feed_file-requires : goal.feed_file-requires
feed_file-requires g c = feed_is_small (map string_bytes c.args.words.now) _ _ _ _ (c.in-Ok-Feed.ensures.ok ∙ ap (λ t. Some (asked t)) c.in-Ok-Feed.field-0-is)

pub returns-in-Ok-Feed-clause-reads : goal.returns-in-Ok-Feed-clause-reads
returns-in-Ok-Feed-clause-reads g c = c.feed_file.ensures.reads

pub returns-in-Ok-Feed-clause-does : goal.returns-in-Ok-Feed-clause-does
returns-in-Ok-Feed-clause-does g c =
    let Fed : List ℕ → List ℕ → List (List ℕ) → Type 0 = λ file schedule names. OfFile (g.S.Shelf.holds c.args.shelf.now) file
    (λ source. FedText (g.S.Shelf.holds c.args.shelf.now) source schedule names c.in-Ok-Feed.budget (g.L.Link.log c.args.link.now) (g.L.Link.log c.feed_file.new.link) c.feed_file.result) in
    let names = map string_bytes c.in-Ok-Feed.tables.items in
    let with_names = subst (Fed c.deref-in-Ok-Feed.result.now c.deref-in-Ok-Feed-2.result.now) (ap (map string_bytes) c.deref-in-Ok-Feed-3.ensures.value) c.feed_file.ensures.fed in
    let with_schedule = subst (λ (schedule : List ℕ). Fed c.deref-in-Ok-Feed.result.now schedule names) c.deref-in-Ok-Feed-2.ensures.value with_names in
    for_each c.args.words.now _ _ (c.in-Ok-Feed.ensures.ok ∙ ap (λ t. Some (asked t)) c.in-Ok-Feed.field-0-is)
    (subst (λ (file : List ℕ). Fed file c.in-Ok-Feed.schedule.items names) c.deref-in-Ok-Feed.ensures with_schedule, c.feed_file.ensures.unread, c.feed_file.ensures.unrun)

pub returns-in-Ok-Gen-clause-command : goal.returns-in-Ok-Gen-clause-command
returns-in-Ok-Gen-clause-command g c nothing = absurd (asks_something nothing (c.in-Ok-Gen.ensures.ok ∙ ap (λ t. Some (asked t)) c.in-Ok-Gen.field-0-is))

pub returns-in-Ok-Gen-clause-reads : goal.returns-in-Ok-Gen-clause-reads
returns-in-Ok-Gen-clause-reads g c = written_reads _ _ c.gen_load.result c.gen_load.ensures.told.0 c.gen_load.ensures.told.1

pub gen_load-requires-clause-start : goal.gen_load-requires-clause-start
gen_load-requires-clause-start g c = (load_is_small (map string_bytes c.args.words.now) _ _ (c.in-Ok-Gen.ensures.ok ∙ ap (λ t. Some (asked t)) c.in-Ok-Gen.field-0-is)).0

pub gen_load-requires-clause-items : goal.gen_load-requires-clause-items
gen_load-requires-clause-items g c = (load_is_small (map string_bytes c.args.words.now) _ _ (c.in-Ok-Gen.ensures.ok ∙ ap (λ t. Some (asked t)) c.in-Ok-Gen.field-0-is)).1

pub returns-in-Ok-Gen-clause-does : goal.returns-in-Ok-Gen-clause-does
returns-in-Ok-Gen-clause-does g c =
    for_each c.args.words.now _ _ (c.in-Ok-Gen.ensures.ok ∙ ap (λ t. Some (asked t)) c.in-Ok-Gen.field-0-is) (c.gen_load.ensures.told, c.gen_load.ensures.unread)

pub returns-in-Ok-Save-clause-command : goal.returns-in-Ok-Save-clause-command
returns-in-Ok-Save-clause-command g c nothing = absurd (asks_something nothing (c.in-Ok-Save.ensures.ok ∙ ap (λ t. Some (asked t)) c.in-Ok-Save.field-0-is))

pub save_file-requires : goal.save_file-requires
save_file-requires g c = save_is_small (map string_bytes c.args.words.now) _ _ _ _ (c.in-Ok-Save.ensures.ok ∙ ap (λ t. Some (asked t)) c.in-Ok-Save.field-0-is)

pub returns-in-Ok-Save-clause-reads : goal.returns-in-Ok-Save-clause-reads
returns-in-Ok-Save-clause-reads g c = c.save_file.ensures.reads

pub returns-in-Ok-Save-clause-does : goal.returns-in-Ok-Save-clause-does
returns-in-Ok-Save-clause-does g c =
    let Saved : List ℕ → List ℕ → Version → Type 0 = λ file state version. OfFile (g.S.Shelf.holds c.args.shelf.now) file
    (λ source. SavedText source c.in-Ok-Save.budget version state (g.L.Link.log c.args.link.now) (g.L.Link.log c.save_file.new.link) (g.L.Link.left c.args.link.now) (g.L.Link.left c.save_file.new.link)
    (g.S.Shelf.holds c.args.shelf.now) (g.S.Shelf.holds c.save_file.new.shelf) c.save_file.result) in
    let in_version = subst (Saved c.deref-in-Ok-Save.result.now c.deref-in-Ok-Save-2.result.now) c.frame_version-version.ensures c.save_file.ensures.saved in
    let of_state = subst (λ (state : List ℕ). Saved c.deref-in-Ok-Save.result.now state (frames_of c.in-Ok-Save.version)) c.deref-in-Ok-Save-2.ensures in_version in
    for_each c.args.words.now _ _ (c.in-Ok-Save.ensures.ok ∙ ap (λ t. Some (asked t)) c.in-Ok-Save.field-0-is) (
      subst (λ (file : List ℕ). Saved file (string_bytes c.in-Ok-Save.state) (frames_of c.in-Ok-Save.version)) c.deref-in-Ok-Save.ensures of_state,
      subst (λ (state : List ℕ). ChangesState c.save_file.result (g.S.Shelf.holds c.args.shelf.now) (g.S.Shelf.holds c.save_file.new.shelf) state) c.deref-in-Ok-Save-2.ensures c.save_file.ensures.changes,
      (c.save_file.ensures.taken, c.save_file.ensures.unrun),
    )

pub returns-in-Ok-Save-clause-held : goal.returns-in-Ok-Save-clause-held
returns-in-Ok-Save-clause-held g c never = absurd (never _ (inl (_, _, _, c.in-Ok-Save.ensures.ok ∙ ap (λ t. Some (asked t)) c.in-Ok-Save.field-0-is)))

pub returns-in-Ok-SaveAgain-clause-command : goal.returns-in-Ok-SaveAgain-clause-command
returns-in-Ok-SaveAgain-clause-command g c nothing = absurd (asks_something nothing (c.in-Ok-SaveAgain.ensures.ok ∙ ap (λ t. Some (asked t)) c.in-Ok-SaveAgain.field-0-is))

pub save_file_from-requires : goal.save_file_from-requires
save_file_from-requires g c = save_again_is_small (map string_bytes c.args.words.now) _ _ _ _ _ (c.in-Ok-SaveAgain.ensures.ok ∙ ap (λ t. Some (asked t)) c.in-Ok-SaveAgain.field-0-is)

pub returns-in-Ok-SaveAgain-clause-reads : goal.returns-in-Ok-SaveAgain-clause-reads
returns-in-Ok-SaveAgain-clause-reads g c = c.save_file_from.ensures.reads

pub returns-in-Ok-SaveAgain-clause-does : goal.returns-in-Ok-SaveAgain-clause-does
returns-in-Ok-SaveAgain-clause-does g c =
    let Saved : List ℕ → List ℕ → List ℕ → Version → Type 0 = λ file state old version. OfFile (g.S.Shelf.holds c.args.shelf.now) file
    (λ source. SavedAgainText source c.in-Ok-SaveAgain.budget version old state (g.L.Link.log c.args.link.now) (g.L.Link.log c.save_file_from.new.link) (g.L.Link.left c.args.link.now) (g.L.Link.left c.save_file_from.new.link)
    (g.S.Shelf.holds c.args.shelf.now) (g.S.Shelf.holds c.save_file_from.new.shelf) c.save_file_from.result) in
    let in_version = subst (Saved c.deref-in-Ok-SaveAgain.result.now c.deref-in-Ok-SaveAgain-2.result.now c.deref-in-Ok-SaveAgain-3.result.now) c.frame_version-version-in-Ok-SaveAgain.ensures c.save_file_from.ensures.saved in
    let of_old = subst (λ (old : List ℕ). Saved c.deref-in-Ok-SaveAgain.result.now c.deref-in-Ok-SaveAgain-2.result.now old (frames_of c.in-Ok-SaveAgain.version)) c.deref-in-Ok-SaveAgain-3.ensures in_version in
    let of_state = subst (λ (state : List ℕ). Saved c.deref-in-Ok-SaveAgain.result.now state (string_bytes c.in-Ok-SaveAgain.old) (frames_of c.in-Ok-SaveAgain.version)) c.deref-in-Ok-SaveAgain-2.ensures of_old in
    for_each c.args.words.now _ _ (c.in-Ok-SaveAgain.ensures.ok ∙ ap (λ t. Some (asked t)) c.in-Ok-SaveAgain.field-0-is) (
      subst (λ (file : List ℕ). Saved file (string_bytes c.in-Ok-SaveAgain.state) (string_bytes c.in-Ok-SaveAgain.old) (frames_of c.in-Ok-SaveAgain.version)) c.deref-in-Ok-SaveAgain.ensures of_state,
      subst (λ (state : List ℕ). ChangesState c.save_file_from.result (g.S.Shelf.holds c.args.shelf.now) (g.S.Shelf.holds c.save_file_from.new.shelf) state) c.deref-in-Ok-SaveAgain-2.ensures c.save_file_from.ensures.changes,
      (c.save_file_from.ensures.taken, c.save_file_from.ensures.unrun),
    )

pub returns-in-Ok-SaveAgain-clause-held : goal.returns-in-Ok-SaveAgain-clause-held
returns-in-Ok-SaveAgain-clause-held g c never = absurd (never _ (inr (_, _, _, _, c.in-Ok-SaveAgain.ensures.ok ∙ ap (λ t. Some (asked t)) c.in-Ok-SaveAgain.field-0-is)))

pub returns-in-Ok-Resume-clause-command : goal.returns-in-Ok-Resume-clause-command
returns-in-Ok-Resume-clause-command g c nothing = absurd (asks_something nothing (c.in-Ok-Resume.ensures.ok ∙ ap (λ t. Some (asked t)) c.in-Ok-Resume.field-0-is))

pub resume_file-requires : goal.resume_file-requires
resume_file-requires g c = resume_is_small (map string_bytes c.args.words.now) _ _ _ _ (c.in-Ok-Resume.ensures.ok ∙ ap (λ t. Some (asked t)) c.in-Ok-Resume.field-0-is)

pub returns-in-Ok-Resume-clause-reads : goal.returns-in-Ok-Resume-clause-reads
returns-in-Ok-Resume-clause-reads g c = c.resume_file.ensures.reads

pub returns-in-Ok-Resume-clause-does : goal.returns-in-Ok-Resume-clause-does
returns-in-Ok-Resume-clause-does g c =
    let Resumed : List ℕ → List ℕ → Version → Type 0 = λ file state version. OfFile (g.S.Shelf.holds c.args.shelf.now) file
    (λ source. ResumedText source c.in-Ok-Resume.budget version (g.S.Shelf.holds c.args.shelf.now) state (g.L.Link.log c.args.link.now) (g.L.Link.log c.resume_file.new.link) (g.L.Link.left c.args.link.now) (g.L.Link.left c.resume_file.new.link) c.resume_file.result) in
    let in_version = subst (Resumed c.deref-in-Ok-Resume.result.now c.deref-in-Ok-Resume-2.result.now) c.frame_version-version-in-Ok-Resume.ensures c.resume_file.ensures.resumed in
    let of_state = subst (λ (state : List ℕ). Resumed c.deref-in-Ok-Resume.result.now state (frames_of c.in-Ok-Resume.version)) c.deref-in-Ok-Resume-2.ensures in_version in
    for_each c.args.words.now _ _ (c.in-Ok-Resume.ensures.ok ∙ ap (λ t. Some (asked t)) c.in-Ok-Resume.field-0-is) (subst (λ (file : List ℕ). Resumed file (string_bytes c.in-Ok-Resume.state) (frames_of c.in-Ok-Resume.version)) c.deref-in-Ok-Resume.ensures of_state, (c.resume_file.ensures.taken, c.resume_file.ensures.unrun))

-- nothing

pub returns-in-Err-Usage-clause-reads : goal.returns-in-Err-Usage-clause-reads
returns-in-Err-Usage-clause-reads g c = adds_none _ _ (ReadsWell Usage) refl (unread Usage)

pub returns-in-Err-Usage-clause-does : goal.returns-in-Err-Usage-clause-does
returns-in-Err-Usage-clause-does g c task asks = absurd (asks_something (c.in-Err-Usage.ensures.usage cc) asks)

pub returns-in-Err-Memory-clause-reads : goal.returns-in-Err-Memory-clause-reads
returns-in-Err-Memory-clause-reads g c = adds_none _ _ (ReadsWell Memory) refl (unread Memory)

pub returns-in-Err-Memory-clause-does : goal.returns-in-Err-Memory-clause-does
returns-in-Err-Memory-clause-does g c task asks = does_nothing _ _ _ task

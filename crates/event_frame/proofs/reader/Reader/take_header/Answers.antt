-- A whole header is taken, and where another byte stands there is none.
use Rattle.std.proofs.Common.{refl, ◌+◌, ◌∷◌, [], ◌∙◌, ℕ, drop, Ok, Option, ap, sym, subst}
use Rattle.std.proofs.lemmas.List.{drop-drop}
use Rattle.event_frame.specs.declared.version.Version.{Version}
use Rattle.event_frame.specs.Front.{IsHeader}
use Rattle.event_frame.specs.FrameReader.{FrameReader}
use Rattle.event_frame.proofs.Readers.{takes_header, header_bytes}
use Rattle.event_frame.proofs.reader.Reader.take_header.Goals as goal

pub returns-in-Err-clause-header : goal.returns-in-Err-clause-header
returns-in-Err-clause-header c v more none e = absurd (c.in-Err.ensures.1 v more (c.kept.ensures ∙ e ∙ header_bytes v more))

pub returns-in-Ok-Some-clause-stays : goal.returns-in-Ok-Some-clause-stays
returns-in-Ok-Some-clause-stays c =
    let same_version = ap (λ (r : FrameReader). r.version) c.self.view_is in
    let same_taken = ap (λ (r : FrameReader). r.taken) c.self.view_is in
    let same_kept = ap (λ (r : FrameReader). r.kept) c.self.view_is in
    let header = subst (IsHeader (68 ∷ 69 ∷ 86 ∷ []) 0 c.kept.result.now) (c.in-Ok-Some.is ∙ ap (λ (o : Option Version). Ok o) c.in-Ok-Some.field-0-is) c.header_of.ensures in
    let kept = sym c.kept.ensures ∙ header.1 ∙ sym (header_bytes c.in-Ok-Some.version header.0) in
    takes_header c.args.self.now _ c.in-Ok-Some.version header.0 (sym same_version ∙ c.in_default.is) kept refl
    (ap (λ (n : ℕ). n + 4) same_taken)
    (sym (drop-drop 4 c.self.inside.at c.self.inside.bytes.items) ∙ ap (drop 4) (same_kept ∙ sym c.kept.ensures ∙ header.1))

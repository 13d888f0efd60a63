-- Where the digit of a version stands behind the letters, the bytes are a header.
use Rattle.std.proofs.Common.{◌≡◌, List, ℕ, [], ◌∷◌, ◌++◌, ap, ◌∙◌, sym}
use Rattle.std.proofs.lemmas.List.{nil_from_length}
use Rattle.event_frame.proofs.front.+header_of.Goals as goal

pub returns-then-byte-eq49 : goal.returns-then-byte-eq49
returns-then-byte-eq49 t c =
    let none : c.args.letters.now ≡ [] = nil_from_length c.args.letters.now c.in-None.ensures.cases in (
      c.in-Some.rest.now,
      c.in-Some.ensures.cases.0 ∙ ap (λ n. n ∷ c.in-Some.rest.now) c.if-byte-eq49.true ∙ sym (ap (λ (bs : List ℕ). bs ++ 49 ∷ c.in-Some.rest.now) none),
    )

pub returns-then-byte-eq50 : goal.returns-then-byte-eq50
returns-then-byte-eq50 t c =
    let none : c.args.letters.now ≡ [] = nil_from_length c.args.letters.now c.in-None.ensures.cases in (
      c.in-Some.rest.now,
      c.in-Some.ensures.cases.0 ∙ ap (λ n. n ∷ c.in-Some.rest.now) c.if-byte-eq50.true ∙ sym (ap (λ (bs : List ℕ). bs ++ 50 ∷ c.in-Some.rest.now) none),
    )

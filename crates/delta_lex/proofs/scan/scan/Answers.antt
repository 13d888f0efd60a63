-- The loop goes from piece to piece, as the reading does.
use Rattle.std.proofs.Common.{◌≡◌, ℕ, ◌+◌, ◌-◌, ◌≤◌, List, [], ◌∷◌, ◌++◌, length, take, drop, sym, ap, ◌∙◌, arith, append-nil, Ok}
use Rattle.std.specs.Char.{encode_utf8}
use Rattle.std.specs.Str.{chars}
use Rattle.std.proofs.lemmas.Str.{IsCharBoundary-start}
use Rattle.std.proofs.lemmas.List.{map-append}
use Rattle.delta_lex.specs.Tokens.{Lexeme, before, lexemes, lexeme_of, token_of, reading}
use Rattle.delta_lex.proofs.Readings.{GapStep, SolidStep, gap_step, solid_step, stray_stop, end_stop, before-nil, found_token, found_fault}
use Rattle.delta_lex.proofs.scan.scan.Goals as goal

less_none : (n : ℕ) → n ≡ n - 0
less_none n = omega arith

pub text-init : goal.text-init
text-init c = record {
  boundary = IsCharBoundary-start c.args.text.now c.utf8.text;
  read = sym (before-nil (reading 0 0 (chars c.args.text.now))) ∙ ap (λ (xs : List Lexeme). before xs (reading 0 0 (chars c.args.text.now))) (sym (ap lexemes c.new-found.ensures.items));
}

pub returns-in_default-clause-found : goal.returns-in_default-clause-found
returns-in_default-clause-found c =
    let none : length c.range_from-rest.result.now ≡ 0 = sym c.chars-characters.ensures.len ∙ c.in_default.ensures.steps.0.0 in
    c.text.invariant.read ∙ ap (before (lexemes c.text.found.items)) (end_stop c.args.text.now c.range_from-rest.result.now c.text.at c.range_from-rest.ensures.value none)
    ∙ ap Ok (append-nil (lexemes c.text.found.items))

pub overflow_add-at : goal.overflow_add-at
overflow_add-at c =
    let split : c.range_from-rest.result.now ≡ encode_utf8 c.in-Some.first ++ c.as_str.result.now
    = sym c.chars-characters.ensures.rest ∙ c.in-Some.ensures.steps.0 ∙ ap (λ (l : List ℕ). encode_utf8 c.in-Some.first ++ l) (sym c.as_str.ensures) in
    let step : GapStep c.args.text.now c.text.at (c.len_utf8.result + c.in-Gap.more)
    = gap_step c.args.text.now c.range_from-rest.result.now c.as_str.result.now c.in-Some.first c.text.at c.len_utf8.result c.in-Gap.more
    c.text.invariant.boundary.0 c.range_from-rest.ensures.value c.range_from-rest.utf8 split c.len_utf8.ensures.value c.in-Gap.ensures in
    let low : c.text.at + (c.len_utf8.result + c.in-Gap.more) ≤ length c.args.text.now = step.boundary.0 in
    let small = c.requires in
    omega arith

pub overflow_add-at-in-Gap : goal.overflow_add-at-in-Gap
overflow_add-at-in-Gap c =
    let split : c.range_from-rest.result.now ≡ encode_utf8 c.in-Some.first ++ c.as_str.result.now
    = sym c.chars-characters.ensures.rest ∙ c.in-Some.ensures.steps.0 ∙ ap (λ (l : List ℕ). encode_utf8 c.in-Some.first ++ l) (sym c.as_str.ensures) in
    let step : GapStep c.args.text.now c.text.at (c.len_utf8.result + c.in-Gap.more)
    = gap_step c.args.text.now c.range_from-rest.result.now c.as_str.result.now c.in-Some.first c.text.at c.len_utf8.result c.in-Gap.more
    c.text.invariant.boundary.0 c.range_from-rest.ensures.value c.range_from-rest.utf8 split c.len_utf8.ensures.value c.in-Gap.ensures in
    let low : c.text.at + (c.len_utf8.result + c.in-Gap.more) ≤ length c.args.text.now = step.boundary.0 in
    let small = c.requires in
    omega arith

pub text-preserved-in-Gap : goal.text-preserved-in-Gap
text-preserved-in-Gap c =
    let split : c.range_from-rest.result.now ≡ encode_utf8 c.in-Some.first ++ c.as_str.result.now
    = sym c.chars-characters.ensures.rest ∙ c.in-Some.ensures.steps.0 ∙ ap (λ (l : List ℕ). encode_utf8 c.in-Some.first ++ l) (sym c.as_str.ensures) in
    let step : GapStep c.args.text.now c.text.at (c.len_utf8.result + c.in-Gap.more)
    = gap_step c.args.text.now c.range_from-rest.result.now c.as_str.result.now c.in-Some.first c.text.at c.len_utf8.result c.in-Gap.more
    c.text.invariant.boundary.0 c.range_from-rest.ensures.value c.range_from-rest.utf8 split c.len_utf8.ensures.value c.in-Gap.ensures in
    record {
      boundary = step.boundary;
      read = c.text.invariant.read ∙ ap (before (lexemes c.text.found.items)) step.reads;
    }

pub overflow_add-len : goal.overflow_add-len
overflow_add-len c =
    let split : c.range_from-rest.result.now ≡ encode_utf8 c.in-Some.first ++ c.as_str.result.now
    = sym c.chars-characters.ensures.rest ∙ c.in-Some.ensures.steps.0 ∙ ap (λ (l : List ℕ). encode_utf8 c.in-Some.first ++ l) (sym c.as_str.ensures) in
    let step : SolidStep c.args.text.now c.range_from-rest.result.now c.in-Solid.kind c.text.at (c.len_utf8-in-Solid.result + c.in-Solid.more)
    = solid_step c.args.text.now c.range_from-rest.result.now c.as_str.result.now c.in-Some.first c.text.at c.len_utf8-in-Solid.result c.in-Solid.more c.in-Solid.kind
    c.text.invariant.boundary.0 c.range_from-rest.ensures.value c.range_from-rest.utf8 split c.len_utf8-in-Solid.ensures.value c.in-Solid.ensures in
    let low : c.text.at + (c.len_utf8-in-Solid.result + c.in-Solid.more) ≤ length c.args.text.now = step.boundary.0 in
    let small = c.requires in
    omega arith

pub range-requires-clause-end_boundary : goal.range-requires-clause-end_boundary
range-requires-clause-end_boundary c =
    let split : c.range_from-rest.result.now ≡ encode_utf8 c.in-Some.first ++ c.as_str.result.now
    = sym c.chars-characters.ensures.rest ∙ c.in-Some.ensures.steps.0 ∙ ap (λ (l : List ℕ). encode_utf8 c.in-Some.first ++ l) (sym c.as_str.ensures) in
    let step : SolidStep c.args.text.now c.range_from-rest.result.now c.in-Solid.kind c.text.at (c.len_utf8-in-Solid.result + c.in-Solid.more)
    = solid_step c.args.text.now c.range_from-rest.result.now c.as_str.result.now c.in-Some.first c.text.at c.len_utf8-in-Solid.result c.in-Solid.more c.in-Solid.kind
    c.text.invariant.boundary.0 c.range_from-rest.ensures.value c.range_from-rest.utf8 split c.len_utf8-in-Solid.ensures.value c.in-Solid.ensures in
    step.end

pub returns-in-Err-clause-fault : goal.returns-in-Err-clause-fault
returns-in-Err-clause-fault c =
    let split : c.range_from-rest.result.now ≡ encode_utf8 c.in-Some.first ++ c.as_str.result.now
    = sym c.chars-characters.ensures.rest ∙ c.in-Some.ensures.steps.0 ∙ ap (λ (l : List ℕ). encode_utf8 c.in-Some.first ++ l) (sym c.as_str.ensures) in
    let step : SolidStep c.args.text.now c.range_from-rest.result.now c.in-Solid.kind c.text.at (c.len_utf8-in-Solid.result + c.in-Solid.more)
    = solid_step c.args.text.now c.range_from-rest.result.now c.as_str.result.now c.in-Some.first c.text.at c.len_utf8-in-Solid.result c.in-Solid.more c.in-Solid.kind
    c.text.invariant.boundary.0 c.range_from-rest.ensures.value c.range_from-rest.utf8 split c.len_utf8-in-Solid.ensures.value c.in-Solid.ensures in
    λ _. found_fault _ _ _ (token_of c.in-Solid.kind c.text.at (take (c.len_utf8-in-Solid.result + c.in-Solid.more) c.range_from-rest.result.now)) (lexemes c.text.found.items) c.in-Err.fault
    c.text.invariant.read step.reads (ap (λ k. token_of c.in-Solid.kind c.text.at (take k c.range_from-rest.result.now)) (less_none (c.len_utf8-in-Solid.result + c.in-Solid.more)) ∙ ap (token_of c.in-Solid.kind c.text.at) (sym c.range.ensures.value) ∙ c.in-Err.ensures)

pub text-preserved : goal.text-preserved
text-preserved c =
    let split : c.range_from-rest.result.now ≡ encode_utf8 c.in-Some.first ++ c.as_str.result.now
    = sym c.chars-characters.ensures.rest ∙ c.in-Some.ensures.steps.0 ∙ ap (λ (l : List ℕ). encode_utf8 c.in-Some.first ++ l) (sym c.as_str.ensures) in
    let step : SolidStep c.args.text.now c.range_from-rest.result.now c.in-Solid.kind c.text.at (c.len_utf8-in-Solid.result + c.in-Solid.more)
    = solid_step c.args.text.now c.range_from-rest.result.now c.as_str.result.now c.in-Some.first c.text.at c.len_utf8-in-Solid.result c.in-Solid.more c.in-Solid.kind
    c.text.invariant.boundary.0 c.range_from-rest.ensures.value c.range_from-rest.utf8 split c.len_utf8-in-Solid.ensures.value c.in-Solid.ensures in
    record {
      boundary = step.boundary;
      read = found_token _ _ _ (token_of c.in-Solid.kind c.text.at (take (c.len_utf8-in-Solid.result + c.in-Solid.more) c.range_from-rest.result.now)) (lexemes c.text.found.items) (lexeme_of c.in-Ok.token)
          c.text.invariant.read step.reads (ap (λ k. token_of c.in-Solid.kind c.text.at (take k c.range_from-rest.result.now)) (less_none (c.len_utf8-in-Solid.result + c.in-Solid.more)) ∙ ap (token_of c.in-Solid.kind c.text.at) (sym c.range.ensures.value) ∙ c.in-Ok.ensures)
          ∙ ap (λ (xs : List Lexeme). before xs (reading 0 (c.text.at + (c.len_utf8-in-Solid.result + c.in-Solid.more)) (chars (drop (c.text.at + (c.len_utf8-in-Solid.result + c.in-Solid.more)) c.args.text.now))))
          (sym (ap lexemes c.in_ok-push-in-Ok.ensures.items ∙ map-append lexeme_of c.text.found.items (c.in-Ok.token ∷ [])));
    }

pub returns-in-Stray-clause-fault : goal.returns-in-Stray-clause-fault
returns-in-Stray-clause-fault c =
    let split : c.range_from-rest.result.now ≡ encode_utf8 c.in-Some.first ++ c.as_str.result.now
    = sym c.chars-characters.ensures.rest ∙ c.in-Some.ensures.steps.0 ∙ ap (λ (l : List ℕ). encode_utf8 c.in-Some.first ++ l) (sym c.as_str.ensures) in
    λ _. c.text.invariant.read ∙ ap (before (lexemes c.text.found.items))
    (stray_stop c.args.text.now c.range_from-rest.result.now c.as_str.result.now c.in-Some.first c.text.at c.range_from-rest.ensures.value c.range_from-rest.utf8 split c.in-Stray.ensures)

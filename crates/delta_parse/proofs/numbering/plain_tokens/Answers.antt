use Rattle.std.proofs.Common.{◌≡◌, ◌∙◌, ℕ, ◌+◌, ◌<◌, ◌≤◌, ◌++◌, List, map, ap, refl, sym, length, drop, arith, string_bytes}
use Rattle.std.proofs.lemmas.List.{length-map}
use Rattle.delta_lex.specs.Tokens.{lexemes}
use Rattle.delta_parse.specs.Terminals.{plains}
use Rattle.delta_parse.specs.Plain.{numbered, texts_of}
use Rattle.delta_parse.proofs.Numbers.{numbered_step, names_step, numbered_end, names_end, few_after}
use Rattle.delta_parse.proofs.numbering.plain_tokens.Goals as goal

still_few : (n i l : ℕ) → n ≤ i → i < l → l ≤ 1048576 → n < 1048577
still_few n i l h k m = omega arith

as_few : {A B : Type 0} (f : A → B) (xs : List A) (ys : List B) (i l : ℕ) → map f xs ≡ ys → length ys ≤ i → i ≤ l → length xs ≤ l
as_few f xs ys i l e h k = (let s : length xs ≡ length ys = sym (length-map xs f) ∙ ap length e in omega arith)

pub loop-token-preserved : goal.loop-token-preserved
loop-token-preserved c =
    let ts = c.args.tokens.now in
    let i = c.loop-token.token-index in
    let below : i < length ts = omega arith in
    let found = c.loop-token.found.items in
    let names = texts_of c.loop-token.names in
    let more = texts_of c.put_token.new.names in
    let longer = c.in_ok-put_token.ensures.plain in
    let held = few_after names more _ _ c.in_ok-put_token.ensures.names in
    let few = c.loop-token.invariant.few in
    record {
      so_far = ap (λ xs. xs ++ numbered more (lexemes (drop (i + 1) ts))) longer ∙ numbered_step ts i _ (plains found) names more _ _ below refl c.in_ok-put_token.ensures.names c.loop-token.invariant.so_far;
      rest = names_step ts i _ names more _ below c.in_ok-put_token.ensures.names c.loop-token.invariant.rest;
      same = c.in_ok-put_token.ensures.same;
      few = omega arith;
    }

pub put_token-requires-clause-few : goal.put_token-requires-clause-few
put_token-requires-clause-few c = still_few _ c.loop-token.token-index (length c.args.tokens.now) c.loop-token.invariant.few c.loop-token-test.true c.requires

pub put_token-requires-clause-same : goal.put_token-requires-clause-same
put_token-requires-clause-same c = c.loop-token.invariant.same

pub returns-clause-plain : goal.returns-clause-plain
returns-clause-plain c = numbered_end c.args.tokens.now c.loop-token.token-index (plains c.loop-token.found.items) (texts_of c.loop-token.names) _ c.loop-token-test.false c.loop-token.invariant.so_far

pub returns-clause-names : goal.returns-clause-names
returns-clause-names c = c.loop-token.invariant.same ∙ names_end c.args.tokens.now c.loop-token.token-index (texts_of c.loop-token.names) _ c.loop-token-test.false c.loop-token.invariant.rest

pub returns-clause-few : goal.returns-clause-few
returns-clause-few c = as_few string_bytes c.loop-token.texts.items (texts_of c.loop-token.names) c.loop-token.token-index (length c.args.tokens.now) c.loop-token.invariant.same c.loop-token.invariant.few c.loop-token.auto.token-index-end

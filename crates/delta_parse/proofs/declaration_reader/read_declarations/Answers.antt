use Rattle.std.proofs.Common.{◌≡◌, ◌∙◌, ap, true, false, ◌+◌, ◌-◌, ◌<◌, ◌≤◌, ◌||◌, List, [], ◌∷◌, ◌++◌, map, length, drop, arith}
use Rattle.std.proofs.lemmas.List.{map-append}
use Rattle.delta_tree.specs.SyntaxTree.{Declaration}
use Rattle.delta_tree.specs.Tree.{declaration_of}
use Rattle.delta_parse.specs.declared.terminal.Terminal.TheVariants.{TypeWord, FunWord}
use Rattle.delta_parse.specs.Terminals.{is_kind, plains}
use Rattle.delta_parse.specs.Parts.{a_declaration, declarations}
use Rattle.delta_parse.specs.Tables.{reading}
use Rattle.delta_parse.specs.Readers.{behind}
use Rattle.delta_parse.proofs.Fronts.{slice_within}
use Rattle.delta_parse.proofs.Loops.{declarations_at, declarations_end, test_at, inside, read_at, halts_at, shorter_at, left_at, kept, ends, over, behind-none}
use Rattle.delta_parse.proofs.declaration_reader.read_declarations.Goals as goal

pub returns-in-Err-clause-given : goal.returns-in-Err-clause-given
returns-in-Err-clause-given c =
    let ts = c.args.tokens.now in
    let test = test_at (λ j. is_kind TypeWord j || is_kind FunWord j) ts c.items.at _ true c.starts_with_either.ensures.value c.items-test.true in
    ends c.in-Err.halt _ _ (reading declarations) _ _ c.items.invariant.so_far (declarations_at ts c.items.at test) (halts_at a_declaration ts c.items.at c.in-Err.halt c.in-Err.ensures.given)

pub items-preserved : goal.items-preserved
items-preserved c =
    let ts = c.args.tokens.now in
    let test = test_at (λ j. is_kind TypeWord j || is_kind FunWord j) ts c.items.at _ true c.starts_with_either.ensures.value c.items-test.true in
    let within : c.items.at + 1 ≤ length ts = inside (λ j. is_kind TypeWord j || is_kind FunWord j) ts c.items.at test in
    let short : length c.in-Ok.read.1.now < length ts - c.items.at = shorter_at ts c.items.at _ c.in-Ok.ensures.shorter in
    let given = read_at a_declaration ts c.items.at _ c.in-Ok.ensures.given in
    let left = left_at a_declaration ts c.items.at (declaration_of c.in-Ok.read.0) c.in-Ok.read.1.now (omega arith) (omega arith) given in
    let e : map declaration_of c.push.new.self.items ≡ map declaration_of c.items.found.items ++ (declaration_of c.in-Ok.read.0 ∷ []) =
    ap (map declaration_of) c.in_ok-push.ensures.items ∙ map-append declaration_of c.items.found.items (c.in-Ok.read.0 ∷ []) in
    record {
      within = omega arith;
      so_far = rw e (kept (map declaration_of c.items.found.items) (declaration_of c.in-Ok.read.0) _ (reading declarations) _ _ _ _ c.items.invariant.so_far (declarations_at ts c.items.at test) given left);
    }

pub returns-clause-given : goal.returns-clause-given
returns-clause-given c =
    let ts = c.args.tokens.now in
    let test = test_at (λ j. is_kind TypeWord j || is_kind FunWord j) ts c.items.at _ false c.starts_with_either.ensures.value c.items-test.false in
    over _ (reading declarations) ts c.items.at _ c.items.invariant.so_far (declarations_end (plains (drop c.items.at ts)) test)

pub items-init : goal.items-init
items-init c =
    let ts = plains c.args.tokens.now in
    record {
      within = omega arith;
      so_far = ap (λ (ds : List Declaration). behind ds (reading declarations ts)) (ap (map declaration_of) c.new-found.ensures.items) ∙ behind-none (reading declarations ts);
    }

pub returns-clause-shorter : goal.returns-clause-shorter
returns-clause-shorter c = slice_within c.args.tokens.now c.items.at

-- What the readers of expressions give, by what the readers of their parts give.
use Rattle.std.proofs.Common.{◌≡◌, ◌∙◌, ap, true, false, ◌+◌, ◌-◌, ◌<◌, ◌≤◌, [], ◌∷◌, ◌++◌, map, length, drop, arith, refl, List}
use Rattle.std.proofs.lemmas.List.{map-append}
use Rattle.std.specs.declared.vec.Vec.{Vec}
use Rattle.std.specs.declared.alloc.Global.{Global}
use Rattle.delta_tree.specs.declared.expressions.Exp.{Exp}
use Rattle.delta_tree.specs.declared.expressions.Hist.{Hist}
use Rattle.delta_tree.specs.SyntaxTree.{WrittenHist, Expression}
use Rattle.delta_tree.specs.Tree.{expression_of, head_of, hist_of}
use Rattle.delta_parse.specs.declared.terminal.Terminal.TheVariants.{Comma}
use Rattle.delta_parse.specs.Terminals.{is_kind, plain_of, plains}
use Rattle.delta_parse.specs.Parts.{an_expression, more_expressions}
use Rattle.delta_parse.specs.Readers.{arms_of}
use Rattle.delta_parse.specs.Tables.{reading}
use Rattle.delta_parse.proofs.Fronts.{slice_within, slice_shorter, less_to_go}
use Rattle.delta_parse.proofs.Loops.{expressions_at, expressions_end, test_at, inside, read_at, halts_at, shorter_at, left_at, kept, ends, over}
use Rattle.delta_parse.proofs.InTurn.{reads_is, token_read, then, made, stops, at_once, before_reads, before_most, read_so, most, found}
use Rattle.delta_parse.proofs.Measures.{same, fewer, fewer_yet, fewest}
use Rattle.delta_parse.proofs.Flat as flat
use Rattle.delta_parse.proofs.expression_reader.+expressions.Goals as goal

abbrev past_trees : Vec Hist Global → List WrittenHist
past_trees v = map hist_of v.items

abbrev expression_trees : Vec Exp Global → List Expression
expression_trees v = map expression_of v.items

pub read_more_expressions-returns-in-Err-clause-given : goal.read_more_expressions-returns-in-Err-clause-given
read_more_expressions-returns-in-Err-clause-given t c =
    let ts = c.args.tokens.now in
    let test = test_at (is_kind Comma) ts c.items.at _ true c.starts_with.ensures.value c.items-test.true in
    ends c.in-Err.halt _ _ (reading more_expressions) _ _ c.items.invariant.so_far (expressions_at ts c.items.at test) (halts_at an_expression ts (c.items.at + 1) c.in-Err.halt c.in-Err.ensures.given)

pub read_more_expressions-items-preserved : goal.read_more_expressions-items-preserved
read_more_expressions-items-preserved t c =
    let ts = c.args.tokens.now in
    let test = test_at (is_kind Comma) ts c.items.at _ true c.starts_with.ensures.value c.items-test.true in
    let within : c.items.at + 1 ≤ length ts = inside (is_kind Comma) ts c.items.at test in
    let short : length c.in-Ok.read.1.now < length ts - (c.items.at + 1) = shorter_at ts (c.items.at + 1) _ c.in-Ok.ensures.shorter in
    let given = read_at an_expression ts (c.items.at + 1) _ c.in-Ok.ensures.given in
    let left = left_at an_expression ts (c.items.at + 1) (expression_of c.in-Ok.read.0) c.in-Ok.read.1.now (omega arith) (omega arith) given in
    let e : map expression_of c.push-in-items.new.self.items ≡ map expression_of c.items.found.items ++ (expression_of c.in-Ok.read.0 ∷ []) =
    ap (map expression_of) c.in_ok-push-2.ensures.items ∙ map-append expression_of c.items.found.items (c.in-Ok.read.0 ∷ []) in
    record {
      within = omega arith;
      so_far = rw e (kept (map expression_of c.items.found.items) (expression_of c.in-Ok.read.0) _ (reading more_expressions) _ _ _ _ c.items.invariant.so_far (expressions_at ts c.items.at test) given left);
    }

pub read_more_expressions-returns-clause-given : goal.read_more_expressions-returns-clause-given
read_more_expressions-returns-clause-given t c =
    let ts = c.args.tokens.now in
    let test = test_at (is_kind Comma) ts c.items.at _ false c.starts_with.ensures.value c.items-test.false in
    over _ (reading more_expressions) ts c.items.at _ c.items.invariant.so_far (expressions_end (plains (drop c.items.at ts)) test)

pub read_expression-returns-then-starts_with : goal.read_expression-returns-then-starts_with
read_expression-returns-then-starts_with t c = reads_is (flat.expression_let (plains c.args.tokens.now) (found c.starts_with.ensures.value c.if-starts_with.true)) c.read_let.ensures

pub read_expression-returns-then-starts_with-2 : goal.read_expression-returns-then-starts_with-2
read_expression-returns-then-starts_with-2 t c = reads_is (flat.expression_wait (plains c.args.tokens.now) (found c.starts_with.ensures.value c.if-starts_with.false) (found c.starts_with-2.ensures.value c.if-starts_with-2.true)) c.read_wait.ensures

pub read_expression-returns-then-starts_with-3 : goal.read_expression-returns-then-starts_with-3
read_expression-returns-then-starts_with-3 t c = reads_is (flat.expression_if (plains c.args.tokens.now) (found c.starts_with.ensures.value c.if-starts_with.false) (found c.starts_with-2.ensures.value c.if-starts_with-2.false) (found c.starts_with-3.ensures.value c.if-starts_with-3.true)) c.read_if.ensures

pub read_expression-returns-in-Some : goal.read_expression-returns-in-Some
read_expression-returns-in-Some t c = reads_is (flat.expression_cons (plains c.args.tokens.now) (found c.starts_with.ensures.value c.if-starts_with.false) (found c.starts_with-2.ensures.value c.if-starts_with-2.false) (found c.starts_with-3.ensures.value c.if-starts_with-3.false)) (then _ c.in-Ok.ensures (token_read c.in-Some.ensures.shorter (flat.tail_more _ _ _ _ _ c.in-Some.ensures.some c.in-Some.ensures.kind) (rw c.place-at.ensures at (c.two_done.ensures _ _ c.read_expression.ensures))))

pub read_expression-returns-in-None : goal.read_expression-returns-in-None
read_expression-returns-in-None t c = reads_is (flat.expression_cons (plains c.args.tokens.now) (found c.starts_with.ensures.value c.if-starts_with.false) (found c.starts_with-2.ensures.value c.if-starts_with-2.false) (found c.starts_with-3.ensures.value c.if-starts_with-3.false)) (made _ c.in-Ok.ensures (λ m l. at_once l (flat.tail_alone _ _ _ c.in-None.ensures.none)))

pub read_expression-returns-in-Err : goal.read_expression-returns-in-Err
read_expression-returns-in-Err t c = reads_is (flat.expression_cons (plains c.args.tokens.now) (found c.starts_with.ensures.value c.if-starts_with.false) (found c.starts_with-2.ensures.value c.if-starts_with-2.false) (found c.starts_with-3.ensures.value c.if-starts_with-3.false)) (stops _ c.in-Err.ensures)

pub read_let-returns-in-Err : goal.read_let-returns-in-Err
read_let-returns-in-Err t c = reads_is (flat.let_flat (plains c.args.tokens.now)) (stops _ c.in-Err.ensures)

pub read_let-returns-in-Err-followed_by : goal.read_let-returns-in-Err-followed_by
read_let-returns-in-Err-followed_by t c = reads_is (flat.let_flat (plains c.args.tokens.now)) (then _ c.in-Ok.ensures (stops _ (before_reads head_of c.in-Err-followed_by.ensures c.read_head.ensures)))

pub read_let-returns-in-Ok-followed_by : goal.read_let-returns-in-Ok-followed_by
read_let-returns-in-Ok-followed_by t c = reads_is (flat.let_flat (plains c.args.tokens.now)) (then _ c.in-Ok.ensures (then _ (before_reads head_of c.in-Ok-followed_by.ensures c.read_head.ensures) (c.let_done.ensures _ _ c.read_expression.ensures)))

pub read_wait-returns-in-Err : goal.read_wait-returns-in-Err
read_wait-returns-in-Err t c = reads_is (flat.wait_flat (plains c.args.tokens.now)) (stops _ c.in-Err.ensures)

pub read_wait-returns-in-Ok : goal.read_wait-returns-in-Ok
read_wait-returns-in-Ok t c = reads_is (flat.wait_flat (plains c.args.tokens.now)) (then _ c.in-Ok.ensures (c.wait_done.ensures _ _ c.read_expression.ensures))

pub read_if-returns-in-Err : goal.read_if-returns-in-Err
read_if-returns-in-Err t c = reads_is (flat.if_flat (plains c.args.tokens.now)) (stops _ c.in-Err.ensures)

pub read_if-returns-in-Err-followed_by : goal.read_if-returns-in-Err-followed_by
read_if-returns-in-Err-followed_by t c = reads_is (flat.if_flat (plains c.args.tokens.now)) (then _ c.in-Ok.ensures (stops _ (before_reads expression_of c.in-Err-followed_by.ensures c.read_expression.ensures)))

pub read_if-returns-in-Ok-followed_by : goal.read_if-returns-in-Ok-followed_by
read_if-returns-in-Ok-followed_by t c = reads_is (flat.if_flat (plains c.args.tokens.now)) (then _ c.in-Ok.ensures (then _ (before_reads expression_of c.in-Ok-followed_by.ensures c.read_expression.ensures) (c.if_done.ensures _ _ c.read_expression-in-Ok-followed_by.ensures)))

pub read_head-returns-then-starts_with_either : goal.read_head-returns-then-starts_with_either
read_head-returns-then-starts_with_either t c = token_read c.in-Some.ensures.shorter (flat.head_called _ _ _ c.in-Some.ensures.some c.in-Some.ensures.kind (found c.starts_with_either.ensures.value c.if-starts_with_either.true)) (c.called_head.ensures _ _ c.read_arguments.ensures)

pub read_head-returns-in-Some : goal.read_head-returns-in-Some
read_head-returns-in-Some t c = reads_is (flat.head_named _ _ _ c.in-Some.ensures.some c.in-Some.ensures.kind (found c.starts_with_either.ensures.value c.if-starts_with_either.false)) (c.whole_head.ensures _ c.in-Some.ensures.shorter)

pub read_head-returns-in-Ok : goal.read_head-returns-in-Ok
read_head-returns-in-Ok t c = reads_is (flat.head_typed (plains c.args.tokens.now) c.in_default.ensures.none) (then _ c.in-Ok.ensures (c.typed_head_done.ensures _ _ c.read_expression.ensures))

pub read_head-returns-in-Err : goal.read_head-returns-in-Err
read_head-returns-in-Err t c = reads_is (flat.head_typed (plains c.args.tokens.now) c.in_default.ensures.none) (stops _ c.in-Err.ensures)

pub read_application-returns-in-Some : goal.read_application-returns-in-Some
read_application-returns-in-Some t c = token_read c.in-Some.ensures.shorter (flat.application_left _ _ _ c.in-Some.ensures.some c.in-Some.ensures.kind) (c.one_done.ensures _ _ c.read_application-inner.ensures)

pub read_application-returns-in-Some-accept : goal.read_application-returns-in-Some-accept
read_application-returns-in-Some-accept t c = token_read c.in-Some-accept.ensures.shorter (flat.application_right _ _ _ c.in_default.ensures.none c.in-Some-accept.ensures.some c.in-Some-accept.ensures.kind) (c.one_done-in-Some-accept.ensures _ _ c.read_application-inner-in-Some-accept.ensures)

pub read_application-returns : goal.read_application-returns
read_application-returns t c = reads_is (flat.application_atom (plains c.args.tokens.now) c.in_default.ensures.none c.in_default-accept.ensures.none) c.read_atom.ensures

pub read_atom-returns-then-starts_with : goal.read_atom-returns-then-starts_with
read_atom-returns-then-starts_with t c = reads_is (flat.atom_name (plains c.args.tokens.now) (found c.starts_with.ensures.value c.if-starts_with.true)) c.read_name.ensures

pub read_atom-returns-in-Some : goal.read_atom-returns-in-Some
read_atom-returns-in-Some t c = reads_is (flat.atom_eps _ _ _ (found c.starts_with.ensures.value c.if-starts_with.false) c.in-Some.ensures.some c.in-Some.ensures.kind) (c.whole.ensures _ c.in-Some.ensures.shorter)

pub read_atom-returns-in-Some-accept : goal.read_atom-returns-in-Some-accept
read_atom-returns-in-Some-accept t c = reads_is (flat.atom_nil _ _ _ (found c.starts_with.ensures.value c.if-starts_with.false) c.in_default.ensures.none c.in-Some-accept.ensures.some c.in-Some-accept.ensures.kind) (c.whole-in-Some-accept.ensures _ c.in-Some-accept.ensures.shorter)

pub read_atom-returns-then-starts_with-2 : goal.read_atom-returns-then-starts_with-2
read_atom-returns-then-starts_with-2 t c = reads_is (flat.atom_bracket (plains c.args.tokens.now) (found c.starts_with.ensures.value c.if-starts_with.false) c.in_default.ensures.none c.in_default-accept.ensures.none (found c.starts_with-2.ensures.value c.if-starts_with-2.true)) c.read_bracket.ensures

pub read_atom-returns-then-starts_with-3 : goal.read_atom-returns-then-starts_with-3
read_atom-returns-then-starts_with-3 t c = reads_is (flat.atom_braces (plains c.args.tokens.now) (found c.starts_with.ensures.value c.if-starts_with.false) c.in_default.ensures.none c.in_default-accept.ensures.none (found c.starts_with-2.ensures.value c.if-starts_with-2.false) (found c.starts_with-3.ensures.value c.if-starts_with-3.true)) c.read_braces.ensures

pub read_atom-returns : goal.read_atom-returns
read_atom-returns t c = reads_is (flat.atom_case (plains c.args.tokens.now) (found c.starts_with.ensures.value c.if-starts_with.false) c.in_default.ensures.none c.in_default-accept.ensures.none (found c.starts_with-2.ensures.value c.if-starts_with-2.false) (found c.starts_with-3.ensures.value c.if-starts_with-3.false)) c.read_case.ensures

pub read_name-returns-then-starts_with_either : goal.read_name-returns-then-starts_with_either
read_name-returns-then-starts_with_either t c = reads_is (flat.name_flat (plains c.args.tokens.now)) (then _ c.in-Ok.ensures (reads_is (flat.name_called (plain_of c.in-Ok.name) _ (found c.starts_with_either.ensures.value c.if-starts_with_either.true)) (c.called.ensures _ _ c.read_arguments.ensures)))

pub read_name-returns-else-starts_with_either : goal.read_name-returns-else-starts_with_either
read_name-returns-else-starts_with_either t c = reads_is (flat.name_flat (plains c.args.tokens.now)) (made _ c.in-Ok.ensures (λ m l. reads_is (flat.name_alone (plain_of c.in-Ok.name) _ (found c.starts_with_either.ensures.value c.if-starts_with_either.false)) (c.whole.ensures m l)))

pub read_name-returns-in-Err : goal.read_name-returns-in-Err
read_name-returns-in-Err t c = reads_is (flat.name_flat (plains c.args.tokens.now)) (stops _ c.in-Err.ensures)

pub read_bracket-returns-in-Some : goal.read_bracket-returns-in-Some
read_bracket-returns-in-Some t c = reads_is (flat.bracket_flat (plains c.args.tokens.now)) (then _ c.in-Ok.ensures (reads_is (flat.inside_none (plain_of c.in-Ok.open) _ _ _ c.in-Some.ensures.some c.in-Some.ensures.kind) (c.whole.ensures _ c.in-Some.ensures.shorter)))

pub read_bracket-returns-in-Ok-read_expression : goal.read_bracket-returns-in-Ok-read_expression
read_bracket-returns-in-Ok-read_expression t c = reads_is (flat.bracket_flat (plains c.args.tokens.now)) (then _ c.in-Ok.ensures (reads_is (flat.inside_some (plain_of c.in-Ok.open) _ c.in_default.ensures.none) (then _ c.in-Ok-read_expression.ensures c.read_ending.ensures)))

pub read_bracket-returns-in-Err-read_expression : goal.read_bracket-returns-in-Err-read_expression
read_bracket-returns-in-Err-read_expression t c = reads_is (flat.bracket_flat (plains c.args.tokens.now)) (then _ c.in-Ok.ensures (reads_is (flat.inside_some (plain_of c.in-Ok.open) _ c.in_default.ensures.none) (stops _ c.in-Err-read_expression.ensures)))

pub read_bracket-returns-in-Err : goal.read_bracket-returns-in-Err
read_bracket-returns-in-Err t c = reads_is (flat.bracket_flat (plains c.args.tokens.now)) (stops _ c.in-Err.ensures)

pub read_ending-returns-in-Some : goal.read_ending-returns-in-Some
read_ending-returns-in-Some t c = at_once c.in-Some.ensures.shorter (flat.ending_none _ (expression_of c.args.inner) _ _ _ c.in-Some.ensures.some c.in-Some.ensures.kind)

pub read_ending-returns-in-Some-accept : goal.read_ending-returns-in-Some-accept
read_ending-returns-in-Some-accept t c = token_read c.in-Some-accept.ensures.shorter (flat.ending_at_once _ (expression_of c.args.inner) _ _ _ c.in_default.ensures.none c.in-Some-accept.ensures.some c.in-Some-accept.ensures.kind) (c.two_done.ensures _ _ (before_reads expression_of c.followed_by-second.ensures c.read_expression.ensures))

pub read_ending-returns-in-Some-accept-2 : goal.read_ending-returns-in-Some-accept-2
read_ending-returns-in-Some-accept-2 t c = token_read c.in-Some-accept-2.ensures.shorter (flat.ending_in_turn _ (expression_of c.args.inner) _ _ _ c.in_default.ensures.none c.in_default-accept.ensures.none c.in-Some-accept-2.ensures.some c.in-Some-accept-2.ensures.kind) (c.two_done-in-Some-accept-2.ensures _ _ (before_reads expression_of c.followed_by-second-in-Some-accept-2.ensures c.read_expression-in-Some-accept-2.ensures))

pub read_ending-returns : goal.read_ending-returns
read_ending-returns t c = reads_is (flat.ending_typed _ (expression_of c.args.inner) _ c.in_default.ensures.none c.in_default-accept.ensures.none c.in_default-accept-2.ensures.none) c.typed_done.ensures

pub read_case-returns-in-Err : goal.read_case-returns-in-Err
read_case-returns-in-Err t c = reads_is (flat.case_flat (plains c.args.tokens.now)) (stops _ c.in-Err.ensures)

pub read_case-returns-in-Err-followed_by : goal.read_case-returns-in-Err-followed_by
read_case-returns-in-Err-followed_by t c = reads_is (flat.case_flat (plains c.args.tokens.now)) (then _ c.in-Ok.ensures (stops _ (before_reads head_of c.in-Err-followed_by.ensures (before_reads head_of c.followed_by-head.ensures c.read_head.ensures))))

pub read_case-returns-in-Ok-followed_by : goal.read_case-returns-in-Ok-followed_by
read_case-returns-in-Ok-followed_by t c = reads_is (flat.case_flat (plains c.args.tokens.now)) (then _ c.in-Ok.ensures (then _ (before_reads head_of c.in-Ok-followed_by.ensures (before_reads head_of c.followed_by-head.ensures c.read_head.ensures)) (c.case_done.ensures _ _ (before_reads arms_of c.followed_by-arms.ensures c.read_arms.ensures))))

pub read_arms-returns-then-starts_with : goal.read_arms-returns-then-starts_with
read_arms-returns-then-starts_with t c = reads_is (flat.arms_sum (plains c.args.tokens.now) (found c.starts_with.ensures.value c.if-starts_with.true)) c.read_sum_arms.ensures

pub read_arms-returns : goal.read_arms-returns
read_arms-returns t c = reads_is (flat.arms_star (plains c.args.tokens.now) (found c.starts_with.ensures.value c.if-starts_with.false)) c.read_star_arms.ensures

pub read_sum_arms-returns-in-Err : goal.read_sum_arms-returns-in-Err
read_sum_arms-returns-in-Err t c = reads_is (flat.sum_flat (plains c.args.tokens.now)) (stops _ c.in-Err.ensures)

pub read_sum_arms-returns-in-Err-followed_by : goal.read_sum_arms-returns-in-Err-followed_by
read_sum_arms-returns-in-Err-followed_by t c = reads_is (flat.sum_flat (plains c.args.tokens.now)) (then _ c.in-Ok.ensures (stops _ (before_reads expression_of c.in-Err-followed_by.ensures c.read_expression.ensures)))

pub read_sum_arms-returns-in-Err-read_name_between : goal.read_sum_arms-returns-in-Err-read_name_between
read_sum_arms-returns-in-Err-read_name_between t c = reads_is (flat.sum_flat (plains c.args.tokens.now)) (then _ c.in-Ok.ensures (then _ (before_reads expression_of c.in-Ok-followed_by.ensures c.read_expression.ensures) (stops _ c.in-Err-read_name_between.ensures)))

pub read_sum_arms-returns-in-Ok-read_name_between : goal.read_sum_arms-returns-in-Ok-read_name_between
read_sum_arms-returns-in-Ok-read_name_between t c = reads_is (flat.sum_flat (plains c.args.tokens.now)) (then _ c.in-Ok.ensures (then _ (before_reads expression_of c.in-Ok-followed_by.ensures c.read_expression.ensures) (then _ c.in-Ok-read_name_between.ensures (c.sum_arms_done.ensures _ _ c.read_expression-in-Ok-read_name_between.ensures))))

pub read_star_arms-returns-in-Err : goal.read_star_arms-returns-in-Err
read_star_arms-returns-in-Err t c = reads_is (flat.star_flat (plains c.args.tokens.now)) (stops _ (before_reads plain_of c.in-Err.ensures c.expect.ensures))

pub read_star_arms-returns-in-Err-followed_by : goal.read_star_arms-returns-in-Err-followed_by
read_star_arms-returns-in-Err-followed_by t c = reads_is (flat.star_flat (plains c.args.tokens.now)) (then _ (before_reads plain_of c.in-Ok.ensures c.expect.ensures) (stops _ (before_reads expression_of c.in-Err-followed_by.ensures c.read_expression.ensures)))

pub read_star_arms-returns-in-Err-read_two_names : goal.read_star_arms-returns-in-Err-read_two_names
read_star_arms-returns-in-Err-read_two_names t c = reads_is (flat.star_flat (plains c.args.tokens.now)) (then _ (before_reads plain_of c.in-Ok.ensures c.expect.ensures) (then _ (before_reads expression_of c.in-Ok-followed_by.ensures c.read_expression.ensures) (stops _ c.in-Err-read_two_names.ensures)))

pub read_star_arms-returns-in-Ok-read_two_names : goal.read_star_arms-returns-in-Ok-read_two_names
read_star_arms-returns-in-Ok-read_two_names t c = reads_is (flat.star_flat (plains c.args.tokens.now)) (then _ (before_reads plain_of c.in-Ok.ensures c.expect.ensures) (then _ (before_reads expression_of c.in-Ok-followed_by.ensures c.read_expression.ensures) (then _ c.in-Ok-read_two_names.ensures (c.star_arms_done.ensures _ _ c.read_expression-in-Ok-read_two_names.ensures))))

pub read_arguments-returns-in-Err : goal.read_arguments-returns-in-Err
read_arguments-returns-in-Err t c = reads_is (flat.arguments_flat (plains c.args.tokens.now)) (stops _ (before_most past_trees _ _ c.in-Err.ensures c.read_histories.ensures.given c.read_histories.ensures.shorter))

pub read_arguments-returns-in-Ok : goal.read_arguments-returns-in-Ok
read_arguments-returns-in-Ok t c = reads_is (flat.arguments_flat (plains c.args.tokens.now)) (then _ (before_most past_trees _ _ c.in-Ok.ensures c.read_histories.ensures.given c.read_histories.ensures.shorter) (c.arguments_done.ensures _ _ c.read_expressions.ensures))

pub read_expressions-returns-in-Some : goal.read_expressions-returns-in-Some
read_expressions-returns-in-Some t c = at_once c.in-Some.ensures.shorter (rw c.new.ensures.items (flat.no_expressions_read _ _ _ c.in-Some.ensures.some c.in-Some.ensures.kind))

pub read_expressions-returns : goal.read_expressions-returns
read_expressions-returns t c = reads_is (flat.expressions_flat (plains c.args.tokens.now) c.in_default.ensures.none) (before_reads expression_trees c.followed_by.ensures c.read_expression_items.ensures)

pub read_expression_items-returns-in-Err : goal.read_expression_items-returns-in-Err
read_expression_items-returns-in-Err t c = reads_is (flat.items_flat (plains c.args.tokens.now)) (stops _ c.in-Err.ensures)

pub read_expression_items-returns-in-Ok : goal.read_expression_items-returns-in-Ok
read_expression_items-returns-in-Ok t c = reads_is (flat.items_flat (plains c.args.tokens.now)) (made _ c.in-Ok.ensures (λ m l. read_so c.read_more_expressions.ensures.given (most _ _ l c.read_more_expressions.ensures.shorter)))

-- WHAT IS LEFT FALLS

pub read_expression-read_let-requires : goal.read_expression-read_let-requires
read_expression-read_let-requires t c = same (length c.args.tokens.now) 7 0 c.decreases

pub read_expression-read_wait-requires : goal.read_expression-read_wait-requires
read_expression-read_wait-requires t c = same (length c.args.tokens.now) 7 0 c.decreases

pub read_expression-read_if-requires : goal.read_expression-read_if-requires
read_expression-read_if-requires t c = same (length c.args.tokens.now) 7 0 c.decreases

pub read_expression-read_application-requires : goal.read_expression-read_application-requires
read_expression-read_application-requires t c = same (length c.args.tokens.now) 6 1 c.decreases

pub read_expression-read_expression-requires : goal.read_expression-read_expression-requires
read_expression-read_expression-requires t c = fewer_yet 8 7 8 c.in-Some.ensures.shorter c.in-Ok.ensures.shorter c.decreases refl

pub read_let-read_head-requires : goal.read_let-read_head-requires
read_let-read_head-requires t c = fewer 2 13 7 c.in-Ok.ensures.shorter c.decreases refl

pub read_let-read_expression-requires : goal.read_let-read_expression-requires
read_let-read_expression-requires t c = fewer_yet 8 7 7 (before_reads head_of c.in-Ok-followed_by.ensures c.read_head.ensures).shorter c.in-Ok.ensures.shorter c.decreases refl

pub read_wait-read_expression-requires : goal.read_wait-read_expression-requires
read_wait-read_expression-requires t c = fewer 8 7 7 c.in-Ok.ensures.shorter c.decreases refl

pub read_if-read_expression-requires : goal.read_if-read_expression-requires
read_if-read_expression-requires t c = fewer 8 7 7 c.in-Ok.ensures.shorter c.decreases refl

pub read_if-read_expression-requires-in-Ok-followed_by : goal.read_if-read_expression-requires-in-Ok-followed_by
read_if-read_expression-requires-in-Ok-followed_by t c = fewer_yet 8 7 7 (before_reads expression_of c.in-Ok-followed_by.ensures c.read_expression.ensures).shorter c.in-Ok.ensures.shorter c.decreases refl

pub read_head-read_arguments-requires : goal.read_head-read_arguments-requires
read_head-read_arguments-requires t c = fewer 3 12 2 c.in-Some.ensures.shorter c.decreases refl

pub read_head-read_expression-requires : goal.read_head-read_expression-requires
read_head-read_expression-requires t c = fewer 8 7 2 c.in-Ok.ensures.shorter c.decreases refl

pub read_application-read_application-inner-requires : goal.read_application-read_application-inner-requires
read_application-read_application-inner-requires t c = fewer 6 9 6 c.in-Some.ensures.shorter c.decreases refl

pub read_application-read_application-inner-requires-in-Some-accept : goal.read_application-read_application-inner-requires-in-Some-accept
read_application-read_application-inner-requires-in-Some-accept t c = fewer 6 9 6 c.in-Some-accept.ensures.shorter c.decreases refl

pub read_application-read_atom-requires : goal.read_application-read_atom-requires
read_application-read_atom-requires t c = same (length c.args.tokens.now) 5 0 c.decreases

pub read_atom-read_name-requires : goal.read_atom-read_name-requires
read_atom-read_name-requires t c = same (length c.args.tokens.now) 4 0 c.decreases

pub read_atom-read_bracket-requires : goal.read_atom-read_bracket-requires
read_atom-read_bracket-requires t c = same (length c.args.tokens.now) 4 0 c.decreases

pub read_atom-read_case-requires : goal.read_atom-read_case-requires
read_atom-read_case-requires t c = same (length c.args.tokens.now) 4 0 c.decreases

pub read_name-read_arguments-requires : goal.read_name-read_arguments-requires
read_name-read_arguments-requires t c = fewer 3 12 4 c.in-Ok.ensures.shorter c.decreases refl

pub read_bracket-read_expression-requires : goal.read_bracket-read_expression-requires
read_bracket-read_expression-requires t c = fewer 8 7 4 c.in-Ok.ensures.shorter c.decreases refl

pub read_bracket-read_ending-requires : goal.read_bracket-read_ending-requires
read_bracket-read_ending-requires t c = fewer_yet 0 15 4 c.in-Ok-read_expression.ensures.shorter c.in-Ok.ensures.shorter c.decreases refl

pub read_ending-read_expression-requires : goal.read_ending-read_expression-requires
read_ending-read_expression-requires t c = fewer 8 7 0 c.in-Some-accept.ensures.shorter c.decreases refl

pub read_ending-read_expression-requires-in-Some-accept-2 : goal.read_ending-read_expression-requires-in-Some-accept-2
read_ending-read_expression-requires-in-Some-accept-2 t c = fewer 8 7 0 c.in-Some-accept-2.ensures.shorter c.decreases refl

pub read_case-read_head-requires : goal.read_case-read_head-requires
read_case-read_head-requires t c = fewer 2 13 4 c.in-Ok.ensures.shorter c.decreases refl

pub read_case-read_arms-requires : goal.read_case-read_arms-requires
read_case-read_arms-requires t c = fewer_yet 2 13 4 (before_reads head_of c.in-Ok-followed_by.ensures (before_reads head_of c.followed_by-head.ensures c.read_head.ensures)).shorter c.in-Ok.ensures.shorter c.decreases refl

pub read_arms-read_sum_arms-requires : goal.read_arms-read_sum_arms-requires
read_arms-read_sum_arms-requires t c = same (length c.args.tokens.now) 1 0 c.decreases

pub read_arms-read_star_arms-requires : goal.read_arms-read_star_arms-requires
read_arms-read_star_arms-requires t c = same (length c.args.tokens.now) 1 0 c.decreases

pub read_sum_arms-read_expression-requires : goal.read_sum_arms-read_expression-requires
read_sum_arms-read_expression-requires t c = fewer 8 7 1 c.in-Ok.ensures.shorter c.decreases refl

pub read_sum_arms-read_expression-requires-in-Ok-read_name_between : goal.read_sum_arms-read_expression-requires-in-Ok-read_name_between
read_sum_arms-read_expression-requires-in-Ok-read_name_between t c = fewest 8 7 1 c.in-Ok-read_name_between.ensures.shorter (before_reads expression_of c.in-Ok-followed_by.ensures c.read_expression.ensures).shorter c.in-Ok.ensures.shorter c.decreases refl

pub read_star_arms-read_expression-requires : goal.read_star_arms-read_expression-requires
read_star_arms-read_expression-requires t c = fewer 8 7 1 (before_reads plain_of c.in-Ok.ensures c.expect.ensures).shorter c.decreases refl

pub read_star_arms-read_expression-requires-in-Ok-read_two_names : goal.read_star_arms-read_expression-requires-in-Ok-read_two_names
read_star_arms-read_expression-requires-in-Ok-read_two_names t c = fewest 8 7 1 c.in-Ok-read_two_names.ensures.shorter (before_reads expression_of c.in-Ok-followed_by.ensures c.read_expression.ensures).shorter (before_reads plain_of c.in-Ok.ensures c.expect.ensures).shorter c.decreases refl

pub read_arguments-read_expressions-requires : goal.read_arguments-read_expressions-requires
read_arguments-read_expressions-requires t c = fewer 10 5 3 (before_most past_trees _ _ c.in-Ok.ensures c.read_histories.ensures.given c.read_histories.ensures.shorter).shorter c.decreases refl

pub read_expressions-read_expression_items-requires : goal.read_expressions-read_expression_items-requires
read_expressions-read_expression_items-requires t c = same (length c.args.tokens.now) 9 0 c.decreases

pub read_expression_items-read_expression-requires : goal.read_expression_items-read_expression-requires
read_expression_items-read_expression-requires t c = same (length c.args.tokens.now) 8 0 c.decreases

pub read_expression_items-read_more_expressions-requires : goal.read_expression_items-read_more_expressions-requires
read_expression_items-read_more_expressions-requires t c = fewer 0 15 9 c.in-Ok.ensures.shorter c.decreases refl

pub read_more_expressions-returns-clause-shorter : goal.read_more_expressions-returns-clause-shorter
read_more_expressions-returns-clause-shorter t c = slice_within c.args.tokens.now c.items.at

pub read_more_expressions-items-smaller : goal.read_more_expressions-items-smaller
read_more_expressions-items-smaller t c = less_to_go (length c.args.tokens.now) (length c.in-Ok.read.1.now) c.items.at (shorter_at c.args.tokens.now (c.items.at + 1) _ c.in-Ok.ensures.shorter)

pub read_more_expressions-read_expression-requires : goal.read_more_expressions-read_expression-requires
read_more_expressions-read_expression-requires t c =
    let ts = c.args.tokens.now in
    let test = test_at (is_kind Comma) ts c.items.at _ true c.starts_with.ensures.value c.items-test.true in
    fewer 8 7 0 (slice_shorter ts c.items.at (inside (is_kind Comma) ts c.items.at test)) c.decreases refl

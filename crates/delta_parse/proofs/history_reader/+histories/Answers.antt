-- What the readers of historical expressions give, by what the readers of their parts give.
use Rattle.std.proofs.Common.{ℕ, length, arith, refl}
use Rattle.bunch.specs.declared.name.Name.{Name}
use Rattle.delta_tree.specs.declared.expressions.Hist.{Hist}
use Rattle.delta_tree.specs.SyntaxTree.{WrittenHist}
use Rattle.delta_tree.specs.Tree.{hist_of}
use Rattle.grammar.specs.Reading.{got}
use Rattle.delta_parse.specs.Terminals.{plain_of, plains}
use Rattle.delta_parse.proofs.InTurn.{reads_is, was, token_read, then, made, stops, at_once, before_reads, before_most, found}
use Rattle.delta_parse.proofs.Measures.{same, fewer, fewer_yet}
use Rattle.delta_parse.proofs.FlatHistories as flat
use Rattle.delta_parse.proofs.history_reader.+histories.Goals as goal

abbrev branch_tree : Name × Hist → ℕ × WrittenHist
branch_tree p = (p.0.0, hist_of p.1)

pub history-returns-then-starts_with : goal.history-returns-then-starts_with
history-returns-then-starts_with t c = reads_is (flat.history_fold (plains c.args.tokens.now) (found c.starts_with.ensures.value c.if-starts_with.true)) c.read_fold.ensures

pub history-returns-then-starts_with-2 : goal.history-returns-then-starts_with-2
history-returns-then-starts_with-2 t c = reads_is (flat.history_choice (plains c.args.tokens.now) (found c.starts_with.ensures.value c.if-starts_with.false) (found c.starts_with-2.ensures.value c.if-starts_with-2.true)) c.read_choice.ensures

pub history-returns-in-Some : goal.history-returns-in-Some
history-returns-in-Some t c = reads_is (flat.history_cons (plains c.args.tokens.now) (found c.starts_with.ensures.value c.if-starts_with.false) (found c.starts_with-2.ensures.value c.if-starts_with-2.false)) (then _ c.in-Ok.ensures (token_read c.in-Some.ensures.shorter (flat.tail_more _ _ _ _ _ c.in-Some.ensures.some c.in-Some.ensures.kind) (rw c.place.ensures at (c.paired.ensures _ _ c.history-others.ensures))))

pub history-returns-in-None : goal.history-returns-in-None
history-returns-in-None t c = reads_is (flat.history_cons (plains c.args.tokens.now) (found c.starts_with.ensures.value c.if-starts_with.false) (found c.starts_with-2.ensures.value c.if-starts_with-2.false)) (made _ c.in-Ok.ensures (λ m l. at_once l (flat.tail_alone _ _ _ c.in-None.ensures.none)))

pub history-returns-in-Err : goal.history-returns-in-Err
history-returns-in-Err t c = reads_is (flat.history_cons (plains c.args.tokens.now) (found c.starts_with.ensures.value c.if-starts_with.false) (found c.starts_with-2.ensures.value c.if-starts_with-2.false)) (stops _ c.in-Err.ensures)

pub read_fold-returns-in-Err : goal.read_fold-returns-in-Err
read_fold-returns-in-Err t c = reads_is (flat.fold_flat (plains c.args.tokens.now)) (stops _ c.in-Err.ensures)

pub read_fold-returns-in-Err-followed_by : goal.read_fold-returns-in-Err-followed_by
read_fold-returns-in-Err-followed_by t c = reads_is (flat.fold_flat (plains c.args.tokens.now)) (then _ c.in-Ok.ensures (stops _ (before_reads hist_of c.in-Err-followed_by.ensures c.history.ensures)))

pub read_fold-returns-in-Ok-followed_by : goal.read_fold-returns-in-Ok-followed_by
read_fold-returns-in-Ok-followed_by t c = reads_is (flat.fold_flat (plains c.args.tokens.now)) (then _ c.in-Ok.ensures (then _ (before_reads hist_of c.in-Ok-followed_by.ensures c.history.ensures) c.read_fold_on.ensures))

pub read_fold_on-returns-in-Err : goal.read_fold_on-returns-in-Err
read_fold_on-returns-in-Err t c = stops _ (before_reads hist_of c.in-Err.ensures c.history.ensures)

pub read_fold_on-returns-in-Err-read_two_names : goal.read_fold_on-returns-in-Err-read_two_names
read_fold_on-returns-in-Err-read_two_names t c = then _ (before_reads hist_of c.in-Ok.ensures c.history.ensures) (stops _ c.in-Err-read_two_names.ensures)

pub read_fold_on-returns-in-Ok-read_two_names : goal.read_fold_on-returns-in-Ok-read_two_names
read_fold_on-returns-in-Ok-read_two_names t c = then _ (before_reads hist_of c.in-Ok.ensures c.history.ensures) (then _ c.in-Ok-read_two_names.ensures (c.fold_done.ensures _ _ c.history-in-Ok-read_two_names.ensures))

pub read_choice-returns-in-Err : goal.read_choice-returns-in-Err
read_choice-returns-in-Err t c = reads_is (flat.choice_flat (plains c.args.tokens.now)) (stops _ c.in-Err.ensures)

pub read_choice-returns-in-Err-followed_by : goal.read_choice-returns-in-Err-followed_by
read_choice-returns-in-Err-followed_by t c = reads_is (flat.choice_flat (plains c.args.tokens.now)) (then _ c.in-Ok.ensures (stops _ (before_reads hist_of c.in-Err-followed_by.ensures (before_reads hist_of c.followed_by-subject.ensures c.history.ensures))))

pub read_choice-returns-in-Ok-followed_by : goal.read_choice-returns-in-Ok-followed_by
read_choice-returns-in-Ok-followed_by t c = reads_is (flat.choice_flat (plains c.args.tokens.now)) (then _ c.in-Ok.ensures (then _ (before_reads hist_of c.in-Ok-followed_by.ensures (before_reads hist_of c.followed_by-subject.ensures c.history.ensures)) c.read_choice_on.ensures))

pub read_choice_on-returns-in-Err : goal.read_choice_on-returns-in-Err
read_choice_on-returns-in-Err t c = stops _ (before_reads branch_tree c.in-Err.ensures c.read_branch.ensures)

pub read_choice_on-returns-in-Ok : goal.read_choice_on-returns-in-Ok
read_choice_on-returns-in-Ok t c = then _ (before_reads branch_tree c.in-Ok.ensures c.read_branch.ensures) (c.choice_done.ensures _ _ (before_reads branch_tree c.followed_by-right.ensures c.read_branch-right.ensures))

pub read_branch-returns-in-Err : goal.read_branch-returns-in-Err
read_branch-returns-in-Err t c = reads_is (flat.branch_flat c.args.word (plains c.args.tokens.now)) (stops _ c.in-Err.ensures)

pub read_branch-returns-in-Ok : goal.read_branch-returns-in-Ok
read_branch-returns-in-Ok t c = reads_is (flat.branch_flat c.args.word (plains c.args.tokens.now)) (then _ c.in-Ok.ensures (c.branch_done.ensures _ _ c.history.ensures))

pub read_comparison-returns-in-Err : goal.read_comparison-returns-in-Err
read_comparison-returns-in-Err t c = reads_is (flat.comparison_flat (plains c.args.tokens.now)) (stops _ c.in-Err.ensures)

pub read_comparison-returns-in-None : goal.read_comparison-returns-in-None
read_comparison-returns-in-None t c = reads_is (flat.comparison_flat (plains c.args.tokens.now)) (made _ c.in-Ok.ensures (λ m l. at_once l (flat.other_alone _ _ _ c.in-None.ensures.none)))

pub read_comparison-returns-in-Some : goal.read_comparison-returns-in-Some
read_comparison-returns-in-Some t c = reads_is (flat.comparison_flat (plains c.args.tokens.now)) (then _ c.in-Ok.ensures (token_read c.in-Some.ensures.shorter (flat.other_more _ _ _ _ _ c.in-Some.ensures.some c.in-Some.ensures.kind) (rw c.place.ensures at (c.reckoned.ensures _ _ c.read_sum-right.ensures))))

pub read_sum-returns-in-Err : goal.read_sum-returns-in-Err
read_sum-returns-in-Err t c = reads_is (flat.sum_flat (plains c.args.tokens.now)) (stops _ c.in-Err.ensures)

pub read_sum-returns-in-Ok : goal.read_sum-returns-in-Ok
read_sum-returns-in-Ok t c = reads_is (flat.sum_flat (plains c.args.tokens.now)) (made _ c.in-Ok.ensures (rw c.place.ensures at c.read_summands.ensures))

pub read_summands-returns-in-None : goal.read_summands-returns-in-None
read_summands-returns-in-None t c n l = at_once l (flat.summands_none _ _ _ c.in-None.ensures.none)

pub read_summands-returns-in-Ok : goal.read_summands-returns-in-Ok
read_summands-returns-in-Ok t c n l =
    let s = c.in-Some.ensures.shorter in
    token_read (omega (arith, s, l)) (flat.summands_more _ _ _ _ _ c.in-Some.ensures.some c.in-Some.ensures.kind) (made _ (was c.in-Ok.is (c.reckoned.ensures _ _ c.read_product-right.ensures)) c.read_summands.ensures)

pub read_summands-returns-in-Err : goal.read_summands-returns-in-Err
read_summands-returns-in-Err t c n l = reads_is (flat.summands_more _ _ _ _ _ c.in-Some.ensures.some c.in-Some.ensures.kind) (stops _ (was c.in-Err.is (c.reckoned.ensures _ _ c.read_product-right.ensures)))

pub read_product-returns-in-Err : goal.read_product-returns-in-Err
read_product-returns-in-Err t c = reads_is (flat.product_flat (plains c.args.tokens.now)) (stops _ c.in-Err.ensures)

pub read_product-returns-in-Ok : goal.read_product-returns-in-Ok
read_product-returns-in-Ok t c = reads_is (flat.product_flat (plains c.args.tokens.now)) (made _ c.in-Ok.ensures (rw c.place.ensures at c.read_factors.ensures))

pub read_factors-returns-in-None : goal.read_factors-returns-in-None
read_factors-returns-in-None t c n l = at_once l (flat.factors_none _ _ _ c.in-None.ensures.none)

pub read_factors-returns-in-Ok : goal.read_factors-returns-in-Ok
read_factors-returns-in-Ok t c n l =
    let s = c.in-Some.ensures.shorter in
    token_read (omega (arith, s, l)) (flat.factors_more _ _ _ _ _ c.in-Some.ensures.some c.in-Some.ensures.kind) (made _ (was c.in-Ok.is (c.reckoned.ensures _ _ c.read_unary-right.ensures)) c.read_factors.ensures)

pub read_factors-returns-in-Err : goal.read_factors-returns-in-Err
read_factors-returns-in-Err t c n l = reads_is (flat.factors_more _ _ _ _ _ c.in-Some.ensures.some c.in-Some.ensures.kind) (stops _ (was c.in-Err.is (c.reckoned.ensures _ _ c.read_unary-right.ensures)))

pub read_unary-returns-in-Some : goal.read_unary-returns-in-Some
read_unary-returns-in-Some t c = token_read c.in-Some.ensures.shorter (flat.unary_prefix _ _ _ c.in-Some.ensures.some c.in-Some.ensures.kind) (c.prefix_done.ensures _ _ c.read_unary-inner.ensures)

pub read_unary-returns : goal.read_unary-returns
read_unary-returns t c = reads_is (flat.unary_atom (plains c.args.tokens.now) c.in_default.ensures.none) c.read_history_atom.ensures

pub read_history_atom-returns-in-Some : goal.read_history_atom-returns-in-Some
read_history_atom-returns-in-Some t c = reads_is (flat.atom_name _ _ _ c.in-Some.ensures.some c.in-Some.ensures.kind) (c.whole_history.ensures _ c.in-Some.ensures.shorter)

pub read_history_atom-returns-in-Some-accept_either : goal.read_history_atom-returns-in-Some-accept_either
read_history_atom-returns-in-Some-accept_either t c = reads_is (flat.atom_number _ _ _ c.in_default.ensures.none c.in-Some-accept_either.ensures.some c.in-Some-accept_either.ensures.kind) (c.whole_number.ensures _ c.in-Some-accept_either.ensures.shorter)

pub read_history_atom-returns-in-Some-accept : goal.read_history_atom-returns-in-Some-accept
read_history_atom-returns-in-Some-accept t c = token_read c.in-Some-accept.ensures.shorter (flat.atom_negative _ _ _ c.in_default.ensures.none c.in_default-accept_either.ensures.none c.in-Some-accept.ensures.some c.in-Some-accept.ensures.kind) c.read_negative.ensures

pub read_history_atom-returns-in-Some-accept-2 : goal.read_history_atom-returns-in-Some-accept-2
read_history_atom-returns-in-Some-accept-2 t c = reads_is (flat.atom_nil _ _ _ c.in_default.ensures.none c.in_default-accept_either.ensures.none c.in_default-accept.ensures.none c.in-Some-accept-2.ensures.some c.in-Some-accept-2.ensures.kind) (c.whole_history-in-Some-accept-2.ensures _ c.in-Some-accept-2.ensures.shorter)

pub read_history_atom-returns : goal.read_history_atom-returns
read_history_atom-returns t c = reads_is (flat.atom_bracket (plains c.args.tokens.now) c.in_default.ensures.none c.in_default-accept_either.ensures.none c.in_default-accept.ensures.none c.in_default-accept-2.ensures.none) c.read_history_bracket.ensures

pub read_history_bracket-returns-in-Some : goal.read_history_bracket-returns-in-Some
read_history_bracket-returns-in-Some t c = reads_is (flat.bracket_flat (plains c.args.tokens.now)) (then _ c.in-Ok.ensures (reads_is (flat.inside_none (plain_of c.in-Ok.open) _ _ _ c.in-Some.ensures.some c.in-Some.ensures.kind) (c.whole_history.ensures _ c.in-Some.ensures.shorter)))

pub read_history_bracket-returns-in-Ok-history : goal.read_history_bracket-returns-in-Ok-history
read_history_bracket-returns-in-Ok-history t c = reads_is (flat.bracket_flat (plains c.args.tokens.now)) (then _ c.in-Ok.ensures (reads_is (flat.inside_some (plain_of c.in-Ok.open) _ c.in_default.ensures.none) (then _ c.in-Ok-history.ensures c.read_second.ensures)))

pub read_history_bracket-returns-in-Err-history : goal.read_history_bracket-returns-in-Err-history
read_history_bracket-returns-in-Err-history t c = reads_is (flat.bracket_flat (plains c.args.tokens.now)) (then _ c.in-Ok.ensures (reads_is (flat.inside_some (plain_of c.in-Ok.open) _ c.in_default.ensures.none) (stops _ c.in-Err-history.ensures)))

pub read_history_bracket-returns-in-Err : goal.read_history_bracket-returns-in-Err
read_history_bracket-returns-in-Err t c = reads_is (flat.bracket_flat (plains c.args.tokens.now)) (stops _ c.in-Err.ensures)

pub read_second-returns-in-Some : goal.read_second-returns-in-Some
read_second-returns-in-Some t c = token_read c.in-Some.ensures.shorter (flat.second_some (plain_of c.args.bracket) (hist_of c.args.inner) _ _ _ c.in-Some.ensures.some c.in-Some.ensures.kind) (c.paired.ensures _ _ (before_reads hist_of c.followed_by-second.ensures c.history.ensures))

pub read_second-returns-in-None : goal.read_second-returns-in-None
read_second-returns-in-None t c = reads_is (flat.second_none (plain_of c.args.bracket) (hist_of c.args.inner) (plains c.args.tokens.now) c.in-None.ensures.none) (before_most hist_of (got (hist_of c.args.inner) (plains c.args.tokens.now)) (length c.args.tokens.now) c.followed_by.ensures refl (omega arith))

-- WHAT IS LEFT FALLS

pub history-read_fold-requires : goal.history-read_fold-requires
history-read_fold-requires t c = same (length c.args.tokens.now) 7 0 c.decreases

pub history-read_choice-requires : goal.history-read_choice-requires
history-read_choice-requires t c = same (length c.args.tokens.now) 7 0 c.decreases

pub history-read_comparison-requires : goal.history-read_comparison-requires
history-read_comparison-requires t c = same (length c.args.tokens.now) 6 1 c.decreases

pub history-history-others-requires : goal.history-history-others-requires
history-history-others-requires t c = fewer_yet 8 7 8 c.in-Some.ensures.shorter c.in-Ok.ensures.shorter c.decreases refl

pub read_fold-history-requires : goal.read_fold-history-requires
read_fold-history-requires t c = fewer 8 7 7 c.in-Ok.ensures.shorter c.decreases refl

pub read_fold-read_fold_on-requires : goal.read_fold-read_fold_on-requires
read_fold-read_fold_on-requires t c = fewer_yet 9 6 7 (before_reads hist_of c.in-Ok-followed_by.ensures c.history.ensures).shorter c.in-Ok.ensures.shorter c.decreases refl

pub read_fold_on-history-requires : goal.read_fold_on-history-requires
read_fold_on-history-requires t c = same (length c.args.tokens.now) 8 0 c.decreases

pub read_fold_on-history-requires-in-Ok-read_two_names : goal.read_fold_on-history-requires-in-Ok-read_two_names
read_fold_on-history-requires-in-Ok-read_two_names t c = fewer_yet 8 7 9 c.in-Ok-read_two_names.ensures.shorter (before_reads hist_of c.in-Ok.ensures c.history.ensures).shorter c.decreases refl

pub read_choice-history-requires : goal.read_choice-history-requires
read_choice-history-requires t c = fewer 8 7 7 c.in-Ok.ensures.shorter c.decreases refl

pub read_choice-read_choice_on-requires : goal.read_choice-read_choice_on-requires
read_choice-read_choice_on-requires t c = fewer_yet 1 14 7 (before_reads hist_of c.in-Ok-followed_by.ensures (before_reads hist_of c.followed_by-subject.ensures c.history.ensures)).shorter c.in-Ok.ensures.shorter c.decreases refl

pub read_choice_on-read_branch-requires : goal.read_choice_on-read_branch-requires
read_choice_on-read_branch-requires t c = same (length c.args.tokens.now) 0 0 c.decreases

pub read_choice_on-read_branch-right-requires : goal.read_choice_on-read_branch-right-requires
read_choice_on-read_branch-right-requires t c = fewer 0 15 1 (before_reads branch_tree c.in-Ok.ensures c.read_branch.ensures).shorter c.decreases refl

pub read_branch-history-requires : goal.read_branch-history-requires
read_branch-history-requires t c = fewer 8 7 0 c.in-Ok.ensures.shorter c.decreases refl

pub read_comparison-read_sum-requires : goal.read_comparison-read_sum-requires
read_comparison-read_sum-requires t c = same (length c.args.tokens.now) 5 0 c.decreases

pub read_comparison-read_sum-right-requires : goal.read_comparison-read_sum-right-requires
read_comparison-read_sum-right-requires t c = fewer_yet 5 10 6 c.in-Some.ensures.shorter c.in-Ok.ensures.shorter c.decreases refl

pub read_sum-read_product-requires : goal.read_sum-read_product-requires
read_sum-read_product-requires t c = same (length c.args.tokens.now) 4 0 c.decreases

pub read_sum-read_summands-requires : goal.read_sum-read_summands-requires
read_sum-read_summands-requires t c = fewer 0 15 5 c.in-Ok.ensures.shorter c.decreases refl

pub read_summands-read_product-right-requires : goal.read_summands-read_product-right-requires
read_summands-read_product-right-requires t c = fewer 4 11 0 c.in-Some.ensures.shorter c.decreases refl

pub read_product-read_unary-requires : goal.read_product-read_unary-requires
read_product-read_unary-requires t c = same (length c.args.tokens.now) 3 0 c.decreases

pub read_product-read_factors-requires : goal.read_product-read_factors-requires
read_product-read_factors-requires t c = fewer 0 15 4 c.in-Ok.ensures.shorter c.decreases refl

pub read_factors-read_unary-right-requires : goal.read_factors-read_unary-right-requires
read_factors-read_unary-right-requires t c = fewer 3 12 0 c.in-Some.ensures.shorter c.decreases refl

pub read_unary-read_unary-inner-requires : goal.read_unary-read_unary-inner-requires
read_unary-read_unary-inner-requires t c = fewer 3 12 3 c.in-Some.ensures.shorter c.decreases refl

pub read_unary-read_history_atom-requires : goal.read_unary-read_history_atom-requires
read_unary-read_history_atom-requires t c = same (length c.args.tokens.now) 1 1 c.decreases

pub read_history_atom-read_history_bracket-requires : goal.read_history_atom-read_history_bracket-requires
read_history_atom-read_history_bracket-requires t c = same (length c.args.tokens.now) 0 0 c.decreases

pub read_history_bracket-history-requires : goal.read_history_bracket-history-requires
read_history_bracket-history-requires t c = fewer 8 7 0 c.in-Ok.ensures.shorter c.decreases refl

pub read_history_bracket-read_second-requires : goal.read_history_bracket-read_second-requires
read_history_bracket-read_second-requires t c = fewer_yet 0 15 0 c.in-Ok-history.ensures.shorter c.in-Ok.ensures.shorter c.decreases refl

pub read_second-history-requires : goal.read_second-history-requires
read_second-history-requires t c = fewer 8 7 0 c.in-Some.ensures.shorter c.decreases refl

pub read_summands-read_summands-requires : goal.read_summands-read_summands-requires
read_summands-read_summands-requires t c = fewer_yet 0 15 0 (was c.in-Ok.is (c.reckoned.ensures _ _ c.read_product-right.ensures)).shorter c.in-Some.ensures.shorter c.decreases refl

pub read_factors-read_factors-requires : goal.read_factors-read_factors-requires
read_factors-read_factors-requires t c = fewer_yet 0 15 0 (was c.in-Ok.is (c.reckoned.ensures _ _ c.read_unary-right.ensures)).shorter c.in-Some.ensures.shorter c.decreases refl

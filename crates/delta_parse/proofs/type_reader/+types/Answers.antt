-- What the readers of types give, by what the readers of their parts give.
use Rattle.std.proofs.Common.{length, refl}
use Rattle.grammar.specs.Rules.{part}
use Rattle.delta_tree.specs.SyntaxTree.{sum_written, par_written, cat_written}
use Rattle.delta_tree.specs.Tree.{type_tree_of}
use Rattle.delta_parse.specs.declared.terminal.Terminal.TheVariants.{Plus, Bars, Dot}
use Rattle.delta_parse.specs.Terminals.{plains}
use Rattle.delta_parse.specs.Parts.{a_type, a_par, a_cat}
use Rattle.delta_parse.proofs.InTurn.{reads_is, token_read, then, made, stops, at_once, before_reads}
use Rattle.delta_parse.proofs.Measures.{same_in_eight, fewer_in_eight, fewer_yet_in_eight}
use Rattle.delta_parse.proofs.FlatTypes as flat
use Rattle.delta_parse.proofs.type_reader.+types.Goals as goal

pub read_sum-returns-in-Err : goal.read_sum-returns-in-Err
read_sum-returns-in-Err t c = reads_is (flat.type_flat (plains c.args.tokens.now)) (stops _ c.in-Err.ensures)

pub read_sum-returns-in-None : goal.read_sum-returns-in-None
read_sum-returns-in-None t c = reads_is (flat.type_flat (plains c.args.tokens.now)) (made _ c.in-Ok.ensures (λ m l. at_once l (flat.tail_alone Plus (part a_type) sum_written _ _ _ c.in-None.ensures.none)))

pub read_sum-returns-in-Some : goal.read_sum-returns-in-Some
read_sum-returns-in-Some t c = reads_is (flat.type_flat (plains c.args.tokens.now)) (then _ c.in-Ok.ensures (token_read c.in-Some.ensures.shorter (flat.tail_more Plus (part a_type) sum_written _ _ _ _ _ c.in-Some.ensures.some c.in-Some.ensures.kind) (rw c.place.ensures at (c.joined.ensures _ _ c.read_sum-right.ensures))))

pub read_par-returns-in-Err : goal.read_par-returns-in-Err
read_par-returns-in-Err t c = reads_is (flat.par_flat (plains c.args.tokens.now)) (stops _ c.in-Err.ensures)

pub read_par-returns-in-None : goal.read_par-returns-in-None
read_par-returns-in-None t c = reads_is (flat.par_flat (plains c.args.tokens.now)) (made _ c.in-Ok.ensures (λ m l. at_once l (flat.tail_alone Bars (part a_par) par_written _ _ _ c.in-None.ensures.none)))

pub read_par-returns-in-Some : goal.read_par-returns-in-Some
read_par-returns-in-Some t c = reads_is (flat.par_flat (plains c.args.tokens.now)) (then _ c.in-Ok.ensures (token_read c.in-Some.ensures.shorter (flat.tail_more Bars (part a_par) par_written _ _ _ _ _ c.in-Some.ensures.some c.in-Some.ensures.kind) (rw c.place.ensures at (c.joined.ensures _ _ c.read_par-right.ensures))))

pub read_cat-returns-in-Err : goal.read_cat-returns-in-Err
read_cat-returns-in-Err t c = reads_is (flat.cat_flat (plains c.args.tokens.now)) (stops _ c.in-Err.ensures)

pub read_cat-returns-in-None : goal.read_cat-returns-in-None
read_cat-returns-in-None t c = reads_is (flat.cat_flat (plains c.args.tokens.now)) (made _ c.in-Ok.ensures (λ m l. at_once l (flat.tail_alone Dot (part a_cat) cat_written _ _ _ c.in-None.ensures.none)))

pub read_cat-returns-in-Some : goal.read_cat-returns-in-Some
read_cat-returns-in-Some t c = reads_is (flat.cat_flat (plains c.args.tokens.now)) (then _ c.in-Ok.ensures (token_read c.in-Some.ensures.shorter (flat.tail_more Dot (part a_cat) cat_written _ _ _ _ _ c.in-Some.ensures.some c.in-Some.ensures.kind) (rw c.place.ensures at (c.joined.ensures _ _ c.read_cat-right.ensures))))

pub read_star-returns-in-Err : goal.read_star-returns-in-Err
read_star-returns-in-Err t c = reads_is (flat.star_flat (plains c.args.tokens.now)) (stops _ c.in-Err.ensures)

pub read_star-returns-in-Ok : goal.read_star-returns-in-Ok
read_star-returns-in-Ok t c = reads_is (flat.star_flat (plains c.args.tokens.now)) (made _ c.in-Ok.ensures (rw c.place.ensures at c.read_stars.ensures))

pub read_base-returns-in-Some : goal.read_base-returns-in-Some
read_base-returns-in-Some t c = reads_is (flat.base_eps _ _ _ c.in-Some.ensures.some c.in-Some.ensures.kind) (c.whole_type.ensures _ c.in-Some.ensures.shorter)

pub read_base-returns-in-Some-accept : goal.read_base-returns-in-Some-accept
read_base-returns-in-Some-accept t c = reads_is (flat.base_one _ _ _ c.in_default.ensures.none c.in-Some-accept.ensures.some c.in-Some-accept.ensures.kind) (c.whole_type-in-Some-accept.ensures _ c.in-Some-accept.ensures.shorter)

pub read_base-returns-in-Some-accept-2 : goal.read_base-returns-in-Some-accept-2
read_base-returns-in-Some-accept-2 t c = reads_is (flat.base_int _ _ _ c.in_default.ensures.none c.in_default-accept.ensures.none c.in-Some-accept-2.ensures.some c.in-Some-accept-2.ensures.kind) (c.whole_type-in-Some-accept-2.ensures _ c.in-Some-accept-2.ensures.shorter)

pub read_base-returns-in-Some-accept-3 : goal.read_base-returns-in-Some-accept-3
read_base-returns-in-Some-accept-3 t c = reads_is (flat.base_named _ _ _ c.in_default.ensures.none c.in_default-accept.ensures.none c.in_default-accept-2.ensures.none c.in-Some-accept-3.ensures.some c.in-Some-accept-3.ensures.kind) (c.whole_type-in-Some-accept-3.ensures _ c.in-Some-accept-3.ensures.shorter)

pub read_base-returns-in-Err : goal.read_base-returns-in-Err
read_base-returns-in-Err t c = reads_is (flat.base_bracket (plains c.args.tokens.now) c.in_default.ensures.none c.in_default-accept.ensures.none c.in_default-accept-2.ensures.none c.in_default-accept-3.ensures.none) (stops _ c.in-Err.ensures)

pub read_base-returns-in-Ok : goal.read_base-returns-in-Ok
read_base-returns-in-Ok t c = reads_is (flat.base_bracket (plains c.args.tokens.now) c.in_default.ensures.none c.in_default-accept.ensures.none c.in_default-accept-2.ensures.none c.in_default-accept-3.ensures.none) (then _ c.in-Ok.ensures (before_reads type_tree_of c.followed_by.ensures c.read_sum.ensures))

-- WHAT IS LEFT FALLS

pub read_sum-read_par-requires : goal.read_sum-read_par-requires
read_sum-read_par-requires t c = same_in_eight (length c.args.tokens.now) 4 0 c.decreases

pub read_sum-read_sum-right-requires : goal.read_sum-read_sum-right-requires
read_sum-read_sum-right-requires t c = fewer_yet_in_eight 5 2 5 c.in-Some.ensures.shorter c.in-Ok.ensures.shorter c.decreases refl

pub read_par-read_cat-requires : goal.read_par-read_cat-requires
read_par-read_cat-requires t c = same_in_eight (length c.args.tokens.now) 3 0 c.decreases

pub read_par-read_par-right-requires : goal.read_par-read_par-right-requires
read_par-read_par-right-requires t c = fewer_yet_in_eight 4 3 4 c.in-Some.ensures.shorter c.in-Ok.ensures.shorter c.decreases refl

pub read_cat-read_star-requires : goal.read_cat-read_star-requires
read_cat-read_star-requires t c = same_in_eight (length c.args.tokens.now) 2 0 c.decreases

pub read_cat-read_cat-right-requires : goal.read_cat-read_cat-right-requires
read_cat-read_cat-right-requires t c = fewer_yet_in_eight 3 4 3 c.in-Some.ensures.shorter c.in-Ok.ensures.shorter c.decreases refl

pub read_star-read_base-requires : goal.read_star-read_base-requires
read_star-read_base-requires t c = same_in_eight (length c.args.tokens.now) 1 0 c.decreases

pub read_base-read_sum-requires : goal.read_base-read_sum-requires
read_base-read_sum-requires t c = fewer_in_eight 5 2 1 c.in-Ok.ensures.shorter c.decreases refl

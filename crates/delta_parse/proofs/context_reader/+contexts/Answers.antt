-- What the readers of parameters give, by what the readers of their parts give.
use Rattle.std.proofs.Common.{length, refl}
use Rattle.grammar.specs.Rules.{part}
use Rattle.delta_tree.specs.Tree.{context_of}
use Rattle.delta_parse.specs.declared.terminal.Terminal.TheVariants.{Comma, Semicolon}
use Rattle.delta_parse.specs.Terminals.{plains}
use Rattle.delta_parse.specs.Parts.{more_commas, more_semicolons}
use Rattle.delta_parse.proofs.InTurn.{reads_is, token_read, then, made, answered, stops, at_once, before_reads, found}
use Rattle.delta_parse.proofs.Measures.{same_in_eight, fewer_in_eight, fewer_yet_in_eight}
use Rattle.delta_parse.proofs.FlatContexts as flat
use Rattle.delta_parse.proofs.context_reader.+contexts.Goals as goal

pub read_context-returns-in-Err : goal.read_context-returns-in-Err
read_context-returns-in-Err t c = reads_is (flat.context_flat (plains c.args.tokens.now)) (stops _ c.in-Err.ensures)

pub read_context-returns-in-Some : goal.read_context-returns-in-Some
read_context-returns-in-Some t c = reads_is (flat.context_flat (plains c.args.tokens.now)) (then _ c.in-Ok.ensures (token_read c.in-Some.ensures.shorter (flat.first_commas _ _ _ _ c.in-Some.ensures.some c.in-Some.ensures.kind) (c.joined.ensures _ _ c.read_commas.ensures)))

pub read_context-returns-in-Some-accept : goal.read_context-returns-in-Some-accept
read_context-returns-in-Some-accept t c = reads_is (flat.context_flat (plains c.args.tokens.now)) (then _ c.in-Ok.ensures (token_read c.in-Some-accept.ensures.shorter (flat.first_semicolons _ _ _ _ c.in_default.ensures.none c.in-Some-accept.ensures.some c.in-Some-accept.ensures.kind) (c.joined-in-Some-accept.ensures _ _ c.read_semicolons.ensures)))

pub read_context-returns-in_default-accept : goal.read_context-returns-in_default-accept
read_context-returns-in_default-accept t c = reads_is (flat.context_flat (plains c.args.tokens.now)) (made _ c.in-Ok.ensures (λ m l. at_once l (flat.first_alone _ _ c.in_default.ensures.none c.in_default-accept.ensures.none)))

pub read_commas-returns-in-Err : goal.read_commas-returns-in-Err
read_commas-returns-in-Err t c = reads_is (flat.commas_flat (plains c.args.tokens.now)) (stops _ c.in-Err.ensures)

pub read_commas-returns-in-None : goal.read_commas-returns-in-None
read_commas-returns-in-None t c = reads_is (flat.commas_flat (plains c.args.tokens.now)) (made _ c.in-Ok.ensures (λ m l. at_once l (flat.tail_alone Comma (part more_commas) _ _ c.in-None.ensures.none)))

pub read_commas-returns-in-Some : goal.read_commas-returns-in-Some
read_commas-returns-in-Some t c = reads_is (flat.commas_flat (plains c.args.tokens.now)) (then _ c.in-Ok.ensures (token_read c.in-Some.ensures.shorter (flat.tail_more Comma (part more_commas) _ _ _ _ c.in-Some.ensures.some c.in-Some.ensures.kind) (c.joined.ensures _ _ c.read_commas.ensures)))

pub read_semicolons-returns-in-Err : goal.read_semicolons-returns-in-Err
read_semicolons-returns-in-Err t c = reads_is (flat.semicolons_flat (plains c.args.tokens.now)) (stops _ c.in-Err.ensures)

pub read_semicolons-returns-in-None : goal.read_semicolons-returns-in-None
read_semicolons-returns-in-None t c = reads_is (flat.semicolons_flat (plains c.args.tokens.now)) (made _ c.in-Ok.ensures (λ m l. at_once l (flat.tail_alone Semicolon (part more_semicolons) _ _ c.in-None.ensures.none)))

pub read_semicolons-returns-in-Some : goal.read_semicolons-returns-in-Some
read_semicolons-returns-in-Some t c = reads_is (flat.semicolons_flat (plains c.args.tokens.now)) (then _ c.in-Ok.ensures (token_read c.in-Some.ensures.shorter (flat.tail_more Semicolon (part more_semicolons) _ _ _ _ c.in-Some.ensures.some c.in-Some.ensures.kind) (c.joined.ensures _ _ c.read_semicolons.ensures)))

pub read_item-returns-in-Ok : goal.read_item-returns-in-Ok
read_item-returns-in-Ok t c = reads_is (flat.item_named (plains c.args.tokens.now) (found c.starts_with.ensures.value c.if-starts_with.true)) (answered _ c.in-Ok.ensures refl refl)

pub read_item-returns-in-Err : goal.read_item-returns-in-Err
read_item-returns-in-Err t c = reads_is (flat.item_named (plains c.args.tokens.now) (found c.starts_with.ensures.value c.if-starts_with.true)) (stops _ c.in-Err.ensures)

pub read_item-returns-in-Ok-expect : goal.read_item-returns-in-Ok-expect
read_item-returns-in-Ok-expect t c = reads_is (flat.item_bracket (plains c.args.tokens.now) (found c.starts_with.ensures.value c.if-starts_with.false)) (then _ c.in-Ok-expect.ensures (before_reads context_of c.followed_by.ensures c.read_context.ensures))

pub read_item-returns-in-Err-expect : goal.read_item-returns-in-Err-expect
read_item-returns-in-Err-expect t c = reads_is (flat.item_bracket (plains c.args.tokens.now) (found c.starts_with.ensures.value c.if-starts_with.false)) (stops _ c.in-Err-expect.ensures)

-- WHAT IS LEFT FALLS

pub read_context-read_item-requires : goal.read_context-read_item-requires
read_context-read_item-requires t c = same_in_eight (length c.args.tokens.now) 1 0 c.decreases

pub read_context-read_commas-requires : goal.read_context-read_commas-requires
read_context-read_commas-requires t c = fewer_yet_in_eight 2 5 2 c.in-Some.ensures.shorter c.in-Ok.ensures.shorter c.decreases refl

pub read_context-read_semicolons-requires : goal.read_context-read_semicolons-requires
read_context-read_semicolons-requires t c = fewer_yet_in_eight 2 5 2 c.in-Some-accept.ensures.shorter c.in-Ok.ensures.shorter c.decreases refl

pub read_commas-read_item-requires : goal.read_commas-read_item-requires
read_commas-read_item-requires t c = same_in_eight (length c.args.tokens.now) 1 0 c.decreases

pub read_commas-read_commas-requires : goal.read_commas-read_commas-requires
read_commas-read_commas-requires t c = fewer_yet_in_eight 2 5 2 c.in-Some.ensures.shorter c.in-Ok.ensures.shorter c.decreases refl

pub read_semicolons-read_item-requires : goal.read_semicolons-read_item-requires
read_semicolons-read_item-requires t c = same_in_eight (length c.args.tokens.now) 1 0 c.decreases

pub read_semicolons-read_semicolons-requires : goal.read_semicolons-read_semicolons-requires
read_semicolons-read_semicolons-requires t c = fewer_yet_in_eight 2 5 2 c.in-Some.ensures.shorter c.in-Ok.ensures.shorter c.decreases refl

pub read_item-read_context-requires : goal.read_item-read_context-requires
read_item-read_context-requires t c = fewer_in_eight 2 5 1 c.in-Ok-expect.ensures.shorter c.decreases refl

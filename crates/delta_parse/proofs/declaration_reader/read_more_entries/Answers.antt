use Rattle.std.proofs.Common.{◌≡◌, ◌∙◌, ap, true, false, ◌+◌, ◌-◌, ◌<◌, ◌≤◌, [], ◌∷◌, ◌++◌, map, length, drop, arith}
use Rattle.std.proofs.lemmas.List.{map-append}
use Rattle.delta_tree.specs.Tree.{past_of}
use Rattle.delta_parse.specs.declared.terminal.Terminal.TheVariants.{Comma}
use Rattle.delta_parse.specs.Terminals.{is_kind, plains}
use Rattle.delta_parse.specs.Parts.{an_entry, more_entries}
use Rattle.delta_parse.specs.Tables.{reading}
use Rattle.delta_parse.proofs.Fronts.{slice_within, less_to_go}
use Rattle.delta_parse.proofs.Loops.{entries_at, entries_end, test_at, inside, read_at, halts_at, shorter_at, left_at, kept, ends, over}
use Rattle.delta_parse.proofs.declaration_reader.read_more_entries.Goals as goal

pub returns-in-Err-clause-given : goal.returns-in-Err-clause-given
returns-in-Err-clause-given c =
    let ts = c.args.tokens.now in
    let test = test_at (is_kind Comma) ts c.items.at _ true c.starts_with.ensures.value c.items-test.true in
    ends c.in-Err.halt _ _ (reading more_entries) _ _ c.items.invariant.so_far (entries_at ts c.items.at test) (halts_at an_entry ts (c.items.at + 1) c.in-Err.halt c.in-Err.ensures.given)

pub items-preserved : goal.items-preserved
items-preserved c =
    let ts = c.args.tokens.now in
    let test = test_at (is_kind Comma) ts c.items.at _ true c.starts_with.ensures.value c.items-test.true in
    let within : c.items.at + 1 ≤ length ts = inside (is_kind Comma) ts c.items.at test in
    let short : length c.in-Ok.read.2.now < length ts - (c.items.at + 1) = shorter_at ts (c.items.at + 1) _ c.in-Ok.ensures.shorter in
    let given = read_at an_entry ts (c.items.at + 1) _ c.in-Ok.ensures.given in
    let left = left_at an_entry ts (c.items.at + 1) (past_of (c.in-Ok.read.0, c.in-Ok.read.1)) c.in-Ok.read.2.now (omega arith) (omega arith) given in
    let e : map past_of c.push-in-items.new.self.items ≡ map past_of c.items.found.items ++ (past_of (c.in-Ok.read.0, c.in-Ok.read.1) ∷ []) =
    ap (map past_of) c.in_ok-push-2.ensures.items ∙ map-append past_of c.items.found.items ((c.in-Ok.read.0, c.in-Ok.read.1) ∷ []) in
    record {
      within = omega arith;
      so_far = rw e (kept (map past_of c.items.found.items) (past_of (c.in-Ok.read.0, c.in-Ok.read.1)) _ (reading more_entries) _ _ _ _ c.items.invariant.so_far (entries_at ts c.items.at test) given left);
    }

pub returns-clause-given : goal.returns-clause-given
returns-clause-given c =
    let ts = c.args.tokens.now in
    let test = test_at (is_kind Comma) ts c.items.at _ false c.starts_with.ensures.value c.items-test.false in
    over _ (reading more_entries) ts c.items.at _ c.items.invariant.so_far (entries_end (plains (drop c.items.at ts)) test)

pub returns-clause-shorter : goal.returns-clause-shorter
returns-clause-shorter c = slice_within c.args.tokens.now c.items.at

pub items-smaller : goal.items-smaller
items-smaller c = less_to_go (length c.args.tokens.now) (length c.in-Ok.read.2.now) c.items.at (shorter_at c.args.tokens.now (c.items.at + 1) _ c.in-Ok.ensures.shorter)

use Rattle.std.proofs.Common.{◌≡◌, ◌∙◌, ◌<◌, sym, length, arith}
use Rattle.std.proofs.lemmas.List.{length-map}
use Rattle.delta_parse.specs.Terminals.{plains, plain_of}
use Rattle.delta_parse.specs.Bindings.{bound_of}
use Rattle.delta_parse.proofs.BindingSteps.{bound_next, fault_here, named_next, named_shorter}
use Rattle.delta_parse.proofs.bindings.first_name_fault.Goals as goal

pub loop-i-preserved : goal.loop-i-preserved
loop-i-preserved c =
    let ts = c.args.tokens.now in
    let t = c.index-tokens-i.result in
    let s = bound_of c.loop-i.bindings in
    let below : c.loop-i.i < length ts = omega arith in
    let so_far = c.loop-i.invariant.bound_so_far in
    record {
      within = omega arith;
      bound_so_far = bound_next ts c.loop-i.i t s below c.index-tokens-i.is so_far ∙ sym c.in_ok-take.ensures;
      named = named_next ts c.loop-i.i t s below c.index-tokens-i.is so_far c.loop-i.invariant.named c.in_default.ensures.none c.in_default.ensures.few;
    }

pub returns-in-Some : goal.returns-in-Some
returns-in-Some c =
    let ts = c.args.tokens.now in
    let count : length (plains ts) ≡ length ts = length-map ts plain_of in
    let below : c.loop-i.i < length ts = omega arith in
    fault_here ts c.loop-i.i c.index-tokens-i.result (bound_of c.loop-i.bindings) c.in-Some.fault below (omega arith) c.index-tokens-i.is c.loop-i.invariant.bound_so_far c.loop-i.invariant.named c.in-Some.ensures.some

pub returns : goal.returns
returns c =
    let ts = c.args.tokens.now in
    let count : length (plains ts) ≡ length ts = length-map ts plain_of in
    named_shorter (plains ts) (length (plains ts)) c.loop-i.i (omega arith) c.loop-i.invariant.named

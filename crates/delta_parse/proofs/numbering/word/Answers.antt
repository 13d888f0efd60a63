-- Which word it is.
use Rattle.std.proofs.Common.{sym, ap}
use Rattle.delta_parse.specs.Plain.{word_of}
use Rattle.delta_parse.proofs.numbering.word.Goals as goal

pub returns-in-fun : goal.returns-in-fun
returns-in-fun c = sym (ap word_of c.in-fun.is)

pub returns-in-main : goal.returns-in-main
returns-in-main c = sym (ap word_of c.in-main.is)

pub returns-in-type : goal.returns-in-type
returns-in-type c = sym (ap word_of c.in-type.is)

pub returns-in-let : goal.returns-in-let
returns-in-let c = sym (ap word_of c.in-let.is)

pub returns-in-in : goal.returns-in-in
returns-in-in c = sym (ap word_of c.in-in.is)

pub returns-in-case : goal.returns-in-case
returns-in-case c = sym (ap word_of c.in-case.is)

pub returns-in-of : goal.returns-in-of
returns-in-of c = sym (ap word_of c.in-of.is)

pub returns-in-inl : goal.returns-in-inl
returns-in-inl c = sym (ap word_of c.in-inl.is)

pub returns-in-inr : goal.returns-in-inr
returns-in-inr c = sym (ap word_of c.in-inr.is)

pub returns-in-nil : goal.returns-in-nil
returns-in-nil c = sym (ap word_of c.in-nil.is)

pub returns-in-wait : goal.returns-in-wait
returns-in-wait c = sym (ap word_of c.in-wait.is)

pub returns-in-eps : goal.returns-in-eps
returns-in-eps c = sym (ap word_of c.in-eps.is)

pub returns-in-if : goal.returns-in-if
returns-in-if c = sym (ap word_of c.in-if.is)

pub returns-in-then : goal.returns-in-then
returns-in-then c = sym (ap word_of c.in-then.is)

pub returns-in-else : goal.returns-in-else
returns-in-else c = sym (ap word_of c.in-else.is)

pub returns-in-fold : goal.returns-in-fold
returns-in-fold c = sym (ap word_of c.in-fold.is)

pub returns-in-from : goal.returns-in-from
returns-in-from c = sym (ap word_of c.in-from.is)

pub returns-in-with : goal.returns-in-with
returns-in-with c = sym (ap word_of c.in-with.is)

pub returns-in-Int : goal.returns-in-Int
returns-in-Int c = sym (ap word_of c.in-Int.is)

pub returns-in-fst : goal.returns-in-fst
returns-in-fst c = sym (ap word_of c.in-fst.is)

pub returns-in-snd : goal.returns-in-snd
returns-in-snd c = sym (ap word_of c.in-snd.is)

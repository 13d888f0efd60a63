-- What has come on the name is what is asked.
use Rattle.std.proofs.Common.{◌≡◌, is_some, IfOk, IfSome, subst}
use Rattle.stream_prefix.specs.StreamPrefix.{StreamPrefix, is_maximal}
use Rattle.hist_value.specs.HistValue.{hist_value_of}
use Rattle.hist_value.specs.Wholes.{value_of}
use Rattle.delta_meaning.proofs.looking.waited.Goals as goal

pub returns-clause-whole : goal.returns-clause-whole
returns-clause-whole c =
    subst (λ (z : StreamPrefix). IfOk c.value_of_whole.result (λ r. is_some r ≡ is_maximal z)) c.in_ok-p.ensures c.value_of_whole.ensures.whole

pub returns-clause-value : goal.returns-clause-value
returns-clause-value c =
    subst (λ (z : StreamPrefix). IfOk c.value_of_whole.result (λ r. IfSome r (λ v. hist_value_of v.value ≡ value_of z))) c.in_ok-p.ensures c.value_of_whole.ensures.value

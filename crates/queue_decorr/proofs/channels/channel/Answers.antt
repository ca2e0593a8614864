-- `queue_decorr::channels::channel` meets its contract: a chain or a plain delay, by the kind of the channel. Assumes nothing.
use mathlib.Core.Path.{◌≡◌, ap, ◌∙◌}
use Rattle.ps_decorr.proofs.Ranges.{told}
use Rattle.standard.specs.Channel.{chain_of, chain_from}
use Rattle.queue_decorr.proofs.Numbers.{chain_size, long_size, short_size}
use Rattle.queue_decorr.proofs.Stepped.{chain_stepped, long_stepped, short_stepped}
use Rattle.queue_decorr.proofs.channels.channel.Goals as goal

pub chain-requires-in-AllPass : goal.chain-requires-in-AllPass
chain-requires-in-AllPass c = let a = c.args in c.requires.1 ∙ chain_size a.layout a.k (told a.layout a.k c.kind.ensures c.in-AllPass.is)

pub returns-in-AllPass : goal.returns-in-AllPass
returns-in-AllPass c =
    let a = c.args in
    let constants : c.chain.result ≡ chain_of a.layout a.k = c.chain.ensures ∙ ap (λ table. chain_from table a.layout a.k) c.requires.0 in
    let is = chain_stepped a.layout a.k a.numbers.now a.x (told a.layout a.k c.kind.ensures c.in-AllPass.is) in
    record {
      answer = rw constants at c.chain-in-AllPass.ensures.answer ∙ is.output;
      numbers = rw constants at c.chain-in-AllPass.ensures.numbers ∙ is.numbers;
    }

pub returns-in-Long : goal.returns-in-Long
returns-in-Long c =
    let a = c.args in
    let t = told a.layout a.k c.kind.ensures c.in-Long.is in
    let is = long_stepped a.layout a.k a.numbers.now a.x t.0 t.1 (c.requires.1 ∙ long_size a.layout a.k t.0 t.1) in
    record { answer = c.delay.ensures.answer ∙ is.output; numbers = c.delay.ensures.queue ∙ is.numbers }

pub returns-in-Short : goal.returns-in-Short
returns-in-Short c =
    let a = c.args in
    let t = told a.layout a.k c.kind.ensures c.in-Short.is in
    let is = short_stepped a.layout a.k a.numbers.now a.x t.0 t.1 (c.requires.1 ∙ short_size a.layout a.k t.0 t.1) in
    record { answer = c.delay-in-Short.ensures.answer ∙ is.output; numbers = c.delay-in-Short.ensures.queue ∙ is.numbers }
